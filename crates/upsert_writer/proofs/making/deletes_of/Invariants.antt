use Rattle.std.proofs.Common.{◌≡◌, ◌+◌, length}
use Rattle.std.specs.Vec.Iter.{into_iter_items, into_iter_len}
use Rattle.table_jobs.specs.NewRows.{delete_of}
use Rattle.upsert_writer.specs.Batches.{made_from}
use Rattle.upsert_writer.proofs.MadeWrites.{behind}
use Rattle.upsert_writer.proofs.making.deletes_of.Given as goal

-- the deletes of the first keys are made, and the others are still to be
abbrev pub invariant-loop-key : goal.invariant-loop-key
invariant-loop-key l = record {
  left : into_iter_len l.key-iterator ≡ length (into_iter_items l.key-iterator);
  counted : length l.writes + length (into_iter_items l.key-iterator) ≡ length l.fn.keys;
  made : behind l.writes (made_from (delete_of l.is_ordered) (length l.writes) (into_iter_items l.key-iterator)) ≡ made_from (delete_of l.is_ordered) 0 l.fn.keys;
}
