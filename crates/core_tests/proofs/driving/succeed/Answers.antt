use Rattle.core_tests.proofs.RepliesOfSteps.{foreseen}
use Rattle.core_tests.proofs.driving.succeed.Goals as goal

pub returns : goal.returns
returns c =
    let decided = c.in_ok-decision.ensures.decision in
    record {
      answers = λ A H is. foreseen A H c.args.step _ c.requires.kind (decided A H is).answers;
      tables = λ A H is may. c.take.ensures A H (c.in_ok-reserve.ensures.same A H is)
          (record { may = may; answers = foreseen A H c.args.step _ c.requires.kind (decided A H is).answers });
    }
