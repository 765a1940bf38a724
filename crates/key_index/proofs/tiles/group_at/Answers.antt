use Rattle.std.proofs.Common.{rules, arith, ◌∷◌, [], leb, sym, ◌∙◌, ap}
use Rattle.std.proofs.lemmas.List.Sorted.{IsPartitionPoint-from_clause, IsPartitionedBy-leb}
use Rattle.hudi_base.specs.declared.file_group.GroupRef.{GroupRef}
use Rattle.key_index.proofs.TileRunLemmas.{run-order, run-point}
use Rattle.key_index.proofs.tiles.group_at.Goals as goal

pub overflow_sub-result : goal.overflow_sub-result
overflow_sub-result c =
    let parted = IsPartitionedBy-leb (λ (g : GroupRef). g.lo) _ c.args.slot (run-order 0 _ c.requires) in
    let point = IsPartitionPoint-from_clause (λ (g : GroupRef). leb g.lo c.args.slot) _ _ c.partition_point-above.ensures.partitioned parted (λ a r q k. search rules) in
    (run-point _ c.requires c.args.slot (omega arith) _ point c.partition_point-above.ensures.bound).0

pub bounds-groups-above : goal.bounds-groups-above
bounds-groups-above c =
    let parted = IsPartitionedBy-leb (λ (g : GroupRef). g.lo) _ c.args.slot (run-order 0 _ c.requires) in
    let point = IsPartitionPoint-from_clause (λ (g : GroupRef). leb g.lo c.args.slot) _ _ c.partition_point-above.ensures.partitioned parted (λ a r q k. search rules) in
    let some = (run-point _ c.requires c.args.slot (omega arith) _ point c.partition_point-above.ensures.bound).0 in
    let bound = c.partition_point-above.ensures.bound in
    omega arith

pub returns : goal.returns
returns c =
    let parted = IsPartitionedBy-leb (λ (g : GroupRef). g.lo) _ c.args.slot (run-order 0 _ c.requires) in
    let point = IsPartitionPoint-from_clause (λ (g : GroupRef). leb g.lo c.args.slot) _ _ c.partition_point-above.ensures.partitioned parted (λ a r q k. search rules) in
    (run-point _ c.requires c.args.slot (omega arith) _ point c.partition_point-above.ensures.bound).1 c.index-groups-above.result
    ∙ ap (λ g. g ∷ []) (sym c.index-groups-above.is)
