use Rattle.std.proofs.Common.{refl}
use Rattle.table_history.specs.declared.job.Job.{Job}
use Rattle.board_tests.proofs.Phases.{at_first}
use Rattle.board_tests.proofs.stops.three_upserts.Goals as goal

pub upsert-requires : goal.upsert-requires
upsert-requires c = at_first _ _ c.requires

pub fail_upsert-requires : goal.fail_upsert-requires
fail_upsert-requires c =
    let job : Job = record { lane = 1; line = 2 } in
    c.in_ok-upsert.ensures.others job refl (at_first _ job c.requires)

pub upsert-requires-2 : goal.upsert-requires-2
upsert-requires-2 c =
    let job : Job = record { lane = 1; line = 3 } in
    c.in_ok-fail_upsert.ensures.others job refl (c.in_ok-upsert.ensures.others job refl (at_first _ job c.requires))
