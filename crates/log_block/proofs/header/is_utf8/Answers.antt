use Rattle.std.proofs.Common.{◌∙◌}
use Rattle.log_block.proofs.Texts.{is_utf8_told}
use Rattle.log_block.proofs.header.is_utf8.Goals as goal

pub returns : goal.returns
returns c = c.is_ok.ensures.value ∙ is_utf8_told c.args.text.now _ _ _ c.from_utf8.ensures.cases
