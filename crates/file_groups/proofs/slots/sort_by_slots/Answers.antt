use Rattle.std.proofs.Common.{rules}
use Rattle.std.proofs.lemmas.Result.{IfOk-weaker}
use Rattle.std.proofs.lemmas.List.Sorted.{IsNonDecreasingBy-from_sort_by_key}
use Rattle.file_groups.specs.Slots.{group_number}
use Rattle.file_groups.proofs.SlotLemmas.{sort_keeps_own}
use Rattle.file_groups.proofs.SortLemmas.{stable_from_sort_by_key}
use Rattle.file_groups.proofs.slots.sort_by_slots.Goals as goal

pub returns-clause-order : goal.returns-clause-order
returns-clause-order g c =
    IfOk-weaker c.sort_by_key.result _ _
    (λ done sorted. IsNonDecreasingBy-from_sort_by_key (λ part. group_number (g.P.InGroup.group_of part)) _ sorted (λ a r q k. search rules))
    c.sort_by_key.ensures.sorted

pub returns-clause-own : goal.returns-clause-own
returns-clause-own g c =
    IfOk-weaker c.sort_by_key.result _ _
    (λ done sorted group. sort_keeps_own g.P.InGroup.group_of g.P.InGroup.part_in g.met.P.InGroup.stands_in _ _
    (stable_from_sort_by_key (λ part. group_number (g.P.InGroup.group_of part)) _ _ c.sort_by_key.ensures.stable (λ a r q k. search rules)) group)
    c.sort_by_key.ensures.sorted
