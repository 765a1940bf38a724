use Rattle.core_tests.proofs.RepliesOfSteps.{no_memory}
use Rattle.core_tests.proofs.marks.marked.Goals as goal

pub mark-requires : goal.mark-requires
mark-requires c = no_memory c.args.reply c.requires
