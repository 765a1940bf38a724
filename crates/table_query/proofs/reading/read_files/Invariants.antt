use Rattle.std.proofs.Common.{◌≡◌, ◌+◌}
use Rattle.table_history.specs.JobLaw.{GoesOn, entries_of}
use Rattle.table_query.specs.Reading.{HasReadFiles, LeavesEarlier}
use Rattle.table_query.proofs.reading.read_files.Given as goal

abbrev pub invariant-loop-i : goal.invariant-loop-i
invariant-loop-i g l = record {
  job : g.T.Steps.job l.steps ≡ g.T.Steps.job l.initial.steps;
  seen : GoesOn (g.T.Steps.seen l.initial.steps) (g.T.Steps.seen l.steps);
  later : g.T.Steps.later l.initial.steps l.steps;
  leaves : LeavesEarlier l.first (l.first + l.i) (entries_of (g.T.Steps.mine l.initial.steps)) (entries_of (g.T.Steps.mine l.steps));
  read : HasReadFiles l.pin l.first l.i l.sizes (entries_of (g.T.Steps.mine l.steps)) l.texts.items;
}
