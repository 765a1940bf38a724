use Rattle.std.proofs.Common.{rules, ltb, filter, sym, ap, subst, ◌∙◌}
use Rattle.std.specs.List.Sorted.{IsNonDecreasingBy}
use Rattle.std.proofs.lemmas.List.{take_rest}
use Rattle.std.proofs.lemmas.List.Sorted.{IsPartitionPoint-from_clause, IsPartitionedBy-ltb, IsNonDecreasingBy-drop}
use Rattle.key_index.specs.Tiling.{is_same_group}
use Rattle.file_groups.specs.Slots.{group_number}
use Rattle.file_groups.proofs.SlotLemmas.{parts_from}
use Rattle.file_groups.proofs.slots.from_group.Goals as goal

pub returns-clause-order : goal.returns-clause-order
returns-clause-order g c =
    subst (IsNonDecreasingBy (λ part. group_number (g.P.InGroup.group_of part))) (sym (take_rest c.args.sorted.now c.partition_point-first.result))
    (IsNonDecreasingBy-drop (λ part. group_number (g.P.InGroup.group_of part)) c.partition_point-first.result _ c.requires)

pub returns-clause-own : goal.returns-clause-own
returns-clause-own g c =
    let parted = IsPartitionedBy-ltb (λ part. group_number (g.P.InGroup.group_of part)) _ (group_number c.args.group.now) c.requires in
    let point = IsPartitionPoint-from_clause (λ part. ltb (group_number (g.P.InGroup.group_of part)) (group_number c.args.group.now)) _ _ c.partition_point-first.ensures.partitioned parted (λ a r q k. search rules) in
    ap (filter (λ part. is_same_group (g.P.InGroup.group_of part) c.args.group.now)) (take_rest c.args.sorted.now c.partition_point-first.result)
    ∙ parts_from g.P.InGroup.group_of g.P.InGroup.part_in g.met.P.InGroup.stands_in c.args.group.now _ c.partition_point-first.result point.0
