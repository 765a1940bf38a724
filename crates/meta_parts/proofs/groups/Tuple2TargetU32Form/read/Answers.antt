use Rattle.std.proofs.Common.{sym, ◌∙◌}
use Rattle.meta_parts.specs.Parts.{written_target_in}
use Rattle.meta_parts.proofs.Objects.{only_known, only_unknown, written_found}
use Rattle.meta_parts.proofs.groups.Tuple2TargetU32Form.read.Goals as goal

pub returns-then-not-has_only : goal.returns-then-not-has_only
unfolding written_target_in
returns-then-not-has_only c = sym (only_unknown _ _ _ (sym c.has_only.ensures ∙ c.if-not-has_only.true))

pub returns-in-Some-2 : goal.returns-in-Some-2
unfolding written_target_in
returns-in-Some-2 c =
    let one = sym c.in_ok-target.ensures ∙ c.in-Some.is in
    let other = sym c.in_ok-writes.ensures ∙ c.in-Some-2.is in
    sym (only_known _ _ _ (sym c.has_only.ensures ∙ c.if-not-has_only.false) ∙ written_found c.args.table.now _ c.in-Some.target c.in-Some-2.writes one other)
