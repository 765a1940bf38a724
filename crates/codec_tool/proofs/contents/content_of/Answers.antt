use Rattle.std.proofs.Common.{◌≡◌, [], ◌∷◌, refl, arith, length, ap}
use Rattle.std.proofs.lemmas.List.Elements.{All-nil, All-cons}
use Rattle.payload_merge.specs.declared.row.Row.{Row}
use Rattle.row_values.specs.RowCells.{IsOwnRow}
use Rattle.codec_tool.proofs.contents.content_of.Goals as goal

pub data_block-requires-clause-own : goal.data_block-requires-clause-own
data_block-requires-clause-own c =
    let layout = c.args.codec.now.records.own in
    let row = c.args.row.now in
    rw c.from_ref.ensures.value (All-cons (IsOwnRow layout) row [] c.requires.own (All-nil (IsOwnRow layout)))

pub data_block-requires-clause-one_partition : goal.data_block-requires-clause-one_partition
data_block-requires-clause-one_partition c =
    let row = c.args.row.now in
    let own = λ (r : Row). (r.commit ≡ row.commit) × (r.partition ≡ row.partition) in
    (row.partition, rw c.from_ref.ensures.value (All-cons own row [] (refl, refl) (All-nil own)))

pub data_block-requires-clause-counted : goal.data_block-requires-clause-counted
data_block-requires-clause-counted c = omega (arith, ap length c.from_ref.ensures.value)
