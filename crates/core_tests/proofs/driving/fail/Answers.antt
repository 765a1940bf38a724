use Rattle.core_tests.proofs.RepliesOfSteps.{may_fail}
use Rattle.core_tests.proofs.driving.fail.Goals as goal

pub returns : goal.returns
returns c = record {
  answers = λ A H is. may_fail A H c.args.step c.requires.kind;
  tables = λ A H is may. c.take.ensures A H (c.in_ok-reserve.ensures.same A H is) (record { may = may; answers = may_fail A H c.args.step c.requires.kind });
}
