use Rattle.std.proofs.Common.{◌≡◌, ◌≤◌, ◌-◌, ◌++◌, length, None}
use Rattle.table_history.specs.JobLaw.{GoesOn, entries_of, phase}
use Rattle.table_jobs.specs.Replies.{told}
use Rattle.table_query.specs.ReadBytes.{bytes_read}
use Rattle.table_query.specs.Reading.{LeavesOthers, read_up_to}
use Rattle.table_query.proofs.reading.read_file.Given as goal

abbrev pub invariant-loop-at : goal.invariant-loop-at
invariant-loop-at g l = record {
  job : g.T.Steps.job l.steps ≡ g.T.Steps.job l.initial.steps;
  seen : GoesOn (g.T.Steps.seen l.initial.steps) (g.T.Steps.seen l.steps);
  later : g.T.Steps.later l.initial.steps l.steps;
  leaves : LeavesOthers l.file (entries_of (g.T.Steps.mine l.initial.steps)) (entries_of (g.T.Steps.mine l.steps));
  phase : phase (entries_of (g.T.Steps.mine l.steps)) ≡ read_up_to l.at (phase (entries_of (g.T.Steps.mine l.initial.steps)));
  untold : told (entries_of (g.T.Steps.mine l.steps)) ≡ None;
  read : bytes_read (entries_of (g.T.Steps.mine l.steps)) l.file ≡ bytes_read (entries_of (g.T.Steps.mine l.initial.steps)) l.file ++ l.bytes.items;
  long : length l.bytes.items ≡ l.at;
  within : l.at ≤ l.size;
}

abbrev pub decreases-loop-at : goal.decreases-loop-at
decreases-loop-at g l = l.size - l.at
