use Rattle.std.proofs.Common.{rules, ltb, ap, ◌∙◌}
use Rattle.std.proofs.lemmas.List.Sorted.{IsPartitionPoint-from_clause, IsPartitionedBy-ltb}
use Rattle.instant_line.specs.NameOrder.{entry_number}
use Rattle.instant_line.proofs.Moves.{Begun}
use Rattle.instant_line.proofs.EntryLists.{at_place, past_end}
use Rattle.instant_line.proofs.InTime.{place-tested}
use Rattle.instant_line.proofs.entries.has_between.Goals as goal

pub returns-then-place-entries : goal.returns-then-place-entries
returns-then-place-entries c =
    let parted = IsPartitionedBy-ltb entry_number _ c.args.low c.requires in
    let place = place-tested entry_number c.args.low _ _
    (IsPartitionPoint-from_clause (λ (x : Begun). ltb (entry_number x) c.args.low) _ _ c.partition_point-place.ensures.partitioned parted (λ a r q k. search rules)) in
    at_place c.args.entries.now c.args.low c.args.high c.partition_point-place.result c.entry_number.result c.index-entries-place.result
    c.requires place c.if-place-entries.true (c.entry_number.ensures ∙ ap entry_number c.index-entries-place.is)

pub returns-else-place-entries : goal.returns-else-place-entries
returns-else-place-entries c =
    let parted = IsPartitionedBy-ltb entry_number _ c.args.low c.requires in
    let place = place-tested entry_number c.args.low _ _
    (IsPartitionPoint-from_clause (λ (x : Begun). ltb (entry_number x) c.args.low) _ _ c.partition_point-place.ensures.partitioned parted (λ a r q k. search rules)) in
    past_end c.args.entries.now c.args.low c.args.high c.partition_point-place.result place c.if-place-entries.false
