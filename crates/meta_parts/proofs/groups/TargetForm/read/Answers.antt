use Rattle.std.proofs.Common.{sym, ◌∙◌}
use Rattle.std.proofs.lemmas.Result.{IfOk-weaker}
use Rattle.meta_parts.specs.Parts.{target_in, target_at}
use Rattle.meta_parts.proofs.Objects.{only_known, only_unknown}
use Rattle.meta_parts.proofs.groups.TargetForm.read.Goals as goal

pub returns-then-has_only : goal.returns-then-has_only
unfolding target_in
returns-then-has_only c =
    IfOk-weaker c.target_at.result _ _ (λ found e. e ∙ sym (only_known _ _ (target_at c.args.table.now _) (sym c.has_only.ensures ∙ c.if-has_only.true))) c.target_at.ensures

pub returns-else-has_only : goal.returns-else-has_only
unfolding target_in
returns-else-has_only c = sym (only_unknown _ _ (target_at c.args.table.now _) (sym c.has_only.ensures ∙ c.if-has_only.false))
