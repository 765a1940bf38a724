use Rattle.std.proofs.Common.{ap, ◌∙◌}
use Rattle.std.proofs.lemmas.Result.{IfOk-weaker}
use Rattle.file_groups.specs.Views.{bases_of, logs_of}
use Rattle.file_groups.proofs.ViewLemmas.{same_views}
use Rattle.file_groups.proofs.views.views.Goals as goal

pub returns : goal.returns
returns c =
    IfOk-weaker c.group_views.result _ _
    (λ views e. record {
      groups = c.in_ok-groups.groups.items;
      ordered = c.in_ok-groups.ensures;
      each = e ∙ same_views _ _ _ _ c.in_ok-groups.groups.items
          (λ group. ap (bases_of group) c.deref.ensures.value ∙ c.in_ok-sort_by_slots.ensures.own group ∙ ap (bases_of group) c.in_ok-bases.ensures)
          (λ group. ap (logs_of group) c.deref-2.ensures.value ∙ c.in_ok-sort_by_slots-2.ensures.own group ∙ ap (logs_of group) c.in_ok-logs.ensures);
    })
    c.group_views.ensures
