use Rattle.std.proofs.Common.{◌≡◌, ◌+◌, length, All}
use Rattle.std.specs.Vec.Iter.{into_iter_items, into_iter_len}
use Rattle.upsert_writer.specs.BatchFits.{IsFit}
use Rattle.upsert_writer.specs.Batches.{made_from, put_of}
use Rattle.upsert_writer.proofs.MadeWrites.{behind}
use Rattle.upsert_writer.proofs.making.puts_of.Given as goal

-- the first rows are made, and the others are still to be
abbrev pub invariant-loop-row : goal.invariant-loop-row
invariant-loop-row g l = record {
  can_next : (goal.iterator-loop-row g).can_next l.row-iterator;
  is_finite : (goal.iterator-loop-row g).is_finite l.row-iterator;
  left : into_iter_len l.row-iterator ≡ length (into_iter_items l.row-iterator);
  fit : All (IsFit (g.K.TableCodec.fits l.codec)) (into_iter_items l.row-iterator);
  counted : length l.writes + length (into_iter_items l.row-iterator) ≡ length l.fn.rows;
  made : behind l.writes
      (made_from (put_of (record { row = g.K.TableCodec.row_made l.codec; is_ordered = g.K.TableCodec.is_ordered l.codec })) (length l.writes) (into_iter_items l.row-iterator))
      ≡ made_from (put_of (record { row = g.K.TableCodec.row_made l.codec; is_ordered = g.K.TableCodec.is_ordered l.codec })) 0 l.fn.rows;
}
