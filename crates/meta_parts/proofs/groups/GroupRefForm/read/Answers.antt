use Rattle.std.proofs.Common.{sym, ◌∙◌}
use Rattle.std.proofs.lemmas.Result.{IfOk-weaker}
use Rattle.meta_parts.specs.Parts.{group_in, group_at}
use Rattle.meta_parts.proofs.Objects.{only_known, only_unknown}
use Rattle.meta_parts.proofs.groups.GroupRefForm.read.Goals as goal

pub returns-then-has_only : goal.returns-then-has_only
unfolding group_in
returns-then-has_only c =
    IfOk-weaker c.group_at.result _ _ (λ found e. e ∙ sym (only_known _ _ (group_at c.args.table.now _) (sym c.has_only.ensures ∙ c.if-has_only.true))) c.group_at.ensures

pub returns-else-has_only : goal.returns-else-has_only
unfolding group_in
returns-else-has_only c = sym (only_unknown _ _ (group_at c.args.table.now _) (sym c.has_only.ensures ∙ c.if-has_only.false))
