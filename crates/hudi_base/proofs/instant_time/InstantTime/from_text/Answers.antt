use Rattle.std.proofs.Common.{◌∙◌}
use Rattle.hudi_base.proofs.TimeTexts.{time_of_read}
use Rattle.hudi_base.proofs.instant_time.InstantTime.from_text.Goals as goal

pub returns : goal.returns
returns c = c.ok.ensures.value ∙ time_of_read c.args.text.now c.parse.result c.parse.ensures
