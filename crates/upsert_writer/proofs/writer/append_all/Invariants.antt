use Rattle.std.proofs.Common.{◌≡◌, ◌++◌, List, length}
use Rattle.std.specs.Vec.Iter.{into_iter_items, into_iter_len}
use Rattle.payload_merge.specs.Fold.{writes_from}
use Rattle.payload_merge.specs.declared.row.Write.{Write}
use Rattle.table_history.specs.JobLaw.{GoesOn, Writes, entries_of}
use Rattle.upsert_writer.specs.TargetWrites.{writes_of_each}
use Rattle.upsert_writer.specs.Writers.{IsAt, WritesOn}
use Rattle.upsert_writer.proofs.writer.append_all.Given as goal

abbrev pub invariant-loop-own : goal.invariant-loop-own
invariant-loop-own g l = record {
  can_next : (goal.iterator-loop-own g).can_next l.own-iterator;
  is_finite : (goal.iterator-loop-own g).is_finite l.own-iterator;
  left : into_iter_len l.own-iterator ≡ length (into_iter_items l.own-iterator);
  all : l.yielded ++ into_iter_items l.own-iterator ≡ l.fn.parts.items;
  number : l.number ≡ length l.yielded;
  job : g.T.Steps.job l.steps ≡ g.T.Steps.job l.initial.steps;
  seen : GoesOn (g.T.Steps.seen l.initial.steps) (g.T.Steps.seen l.steps);
  later : g.T.Steps.later l.initial.steps l.steps;
  so_far : IsAt (Writes l.t l.targets l.number) (entries_of (g.T.Steps.mine l.steps));
  wrote : (batch : List Write) → l.fn.parts.items ≡ writes_of_each l.targets (writes_from l.t 0 batch)
      → WritesOn (record { reading = g.K.RowCodec.block_rows l.codec; table = g.K.TableCodec.table_name l.codec; schema = g.K.TableCodec.schema l.codec })
      batch (entries_of (g.T.Steps.mine l.initial.steps)) (entries_of (g.T.Steps.mine l.steps));
}
