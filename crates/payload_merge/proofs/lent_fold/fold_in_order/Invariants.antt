use Rattle.std.proofs.Common.{map, take, drop}
use Rattle.std.specs.Option.{option_map}
use Rattle.payload_merge.specs.KeyOrder.{KeysRiseFrom, write_of}
use Rattle.payload_merge.proofs.WritesInOrder.{Folds}
use Rattle.payload_merge.proofs.lent_fold.fold_in_order.Given as goal

-- the writes so far are folded, and the others are not below the last key
abbrev pub invariant-loop-prefixed : goal.invariant-loop-prefixed
invariant-loop-prefixed l = record {
  folds : Folds (map write_of (take l.prefixed-index l.fn.ordered)) l.rows.items l.key (option_map (λ row. row.now) l.present);
  rise : KeysRiseFrom l.key (map write_of (drop l.prefixed-index l.fn.ordered));
}
