use Rattle.std.proofs.Common.{◌≡◌, ◌++◌, map}
use Rattle.std.specs.Vec.Iter.{into_iter_items}
use Rattle.script_jobs.specs.Scripts.{said_job}
use Rattle.table_board.specs.Later.{IsLater}
use Rattle.script_run.specs.Parts.{AreNext, RanSoFar}
use Rattle.script_run.proofs.jobs.run_jobs.Given as goal

-- the first jobs ran, and the others may come next
abbrev pub invariant-loop-job : goal.invariant-loop-job
invariant-loop-job g l = record {
  can_next : (goal.iterator-loop-job g).can_next l.job-iterator;
  is_finite : (goal.iterator-loop-job g).is_finite l.job-iterator;
  all : l.yielded ++ into_iter_items l.job-iterator ≡ l.fn.jobs;
  ran : RanSoFar (record { props = l.fn.solo.board.origin.props; layout = l.codec.records.own }) l.fn.text.items (map said_job l.yielded) l.solo.board.entries l.text.items l.failed;
  next : AreNext (map said_job (into_iter_items l.job-iterator)) l.solo.board.entries;
  later : IsLater l.fn.solo.board.origin l.solo.board.origin (g.S.Store.is_honest l.fn.solo.board.store) (g.S.Store.is_honest l.solo.board.store)
      (g.S.Store.state l.fn.solo.board.store) (g.S.Store.state l.solo.board.store) (g.C.Clock.state l.fn.solo.board.clock) (g.C.Clock.state l.solo.board.clock);
}
