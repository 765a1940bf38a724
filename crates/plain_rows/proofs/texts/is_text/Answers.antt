use Rattle.std.proofs.Common.{◌∙◌}
use Rattle.plain_rows.proofs.TextParts.{is_utf8_told}
use Rattle.plain_rows.proofs.texts.is_text.Goals as goal

pub returns : goal.returns
returns c = c.is_ok.ensures.value ∙ is_utf8_told c.args.bytes.now _ _ _ c.from_utf8.ensures.cases
