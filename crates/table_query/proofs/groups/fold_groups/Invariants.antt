use Rattle.std.proofs.Common.{◌≡◌, ℕ, Option, Some, take}
use Rattle.std.specs.FinMap.{empty}
use Rattle.table_history.specs.JobLaw.{GoesOn, entries_of}
use Rattle.table_query.specs.GroupReading.{all_from, files_in, group_writes}
use Rattle.table_query.specs.Parts.{Folds}
use Rattle.table_query.specs.ReadBytes.{PinsAt, bytes_read, pinned}
use Rattle.table_query.specs.Reading.{HasReadUpTo}
use Rattle.table_query.proofs.Following.{sizes}
use Rattle.table_query.proofs.groups.fold_groups.Given as goal

abbrev pub invariant-loop-group : goal.invariant-loop-group
invariant-loop-group g l = record {
  job : g.T.Steps.job l.steps ≡ g.T.Steps.job l.initial.steps;
  seen : GoesOn (g.T.Steps.seen l.initial.steps) (g.T.Steps.seen l.steps);
  later : g.T.Steps.later l.initial.steps l.steps;
  pins : (at : Option ℕ) → PinsAt at (entries_of (g.T.Steps.mine l.initial.steps)) → PinsAt at (entries_of (g.T.Steps.mine l.steps));
  view_is : pinned (entries_of (g.T.Steps.mine l.steps)) ≡ Some l.view;
  first : l.first ≡ sizes files_in (take l.group-index l.view.groups);
  so_far : HasReadUpTo l.view.pin l.first l.sizes (entries_of (g.T.Steps.mine l.steps));
  rows : Folds (all_from files_in (group_writes (record { rows = g.K.RowCodec.block_rows l.codec; table = g.K.TableCodec.table_name l.codec }) l.completed.keys (bytes_read (entries_of (g.T.Steps.mine l.steps)))) 0
      (take l.group-index l.view.groups)) empty l.rows;
}
