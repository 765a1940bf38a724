use Rattle.std.proofs.Common.{ap, drop, ◌∙◌}
use Rattle.std.proofs.lemmas.List.{take_rest}
use Rattle.uuid.specs.Text.{hyphenated_text, lower}
use Rattle.file_names.proofs.file_ids.tail_of_uuid.Goals as goal

pub returns : goal.returns
returns c =
    c.in_ok-tail.ensures.items ∙ take_rest c.as_bytes-text.result.now 9
    ∙ ap (drop 9) (c.as_bytes-text.ensures.value ∙ c.encode_lower.ensures.text ∙ ap (hyphenated_text lower) c.hyphenated.ensures)
