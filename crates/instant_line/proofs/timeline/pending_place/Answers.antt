use Rattle.std.proofs.Common.{ℕ, rules, ltb}
use Rattle.std.proofs.lemmas.List.Sorted.{IsPartitionPoint-from_clause, IsPartitionedBy-ltb}
use Rattle.file_names.specs.declared.file_name.Action.{Action}
use Rattle.file_names.specs.declared.file_name.State.{State}
use Rattle.instant_line.proofs.InTime.{rises-non_decreasing, place-tested}
use Rattle.instant_line.proofs.timeline.pending_place.Goals as goal

pub returns-clause-place : goal.returns-clause-place
returns-clause-place c =
    let parted = IsPartitionedBy-ltb (λ (x : ℕ × Action × State). x.0) _ c.args.t (rises-non_decreasing (λ (x : ℕ × Action × State). x.0) _ c.requires) in
    place-tested (λ (x : ℕ × Action × State). x.0) c.args.t _ _
    (IsPartitionPoint-from_clause (λ (x : ℕ × Action × State). ltb x.0 c.args.t) _ _ c.partition_point.ensures.partitioned parted (λ a r q k. search rules))
