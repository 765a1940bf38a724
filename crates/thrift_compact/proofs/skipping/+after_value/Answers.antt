use Rattle.std.proofs.Common.{rules, arith, refl, ◌+◌, ◌-◌, sym, ◌∙◌}
use Rattle.std.proofs.lemmas.Result.{err_from_is_err_and}
use Rattle.std.proofs.lemmas.Int.{to_z-of_z}
use mir.Val.{SFits}
use mir.Syntax.{w16}
use Rattle.thrift_compact.specs.Values.{passing, item_at, pair_at, container_at, value_at}
use Rattle.thrift_compact.proofs.WithinLemmas.{Stays-Ok, passing_stays, value_at_stays}
use Rattle.thrift_compact.proofs.FieldsLemmas.{fields_at-stop, fields_at-head_Err, fields_at-value_Err, fields_at-next, field_at-shorter, times_at-none, times_at-Err, times_at-next}
use Rattle.thrift_compact.proofs.skipping.+after_value.Goals as goal

pub after_items-returns : goal.after_items-returns
after_items-returns t c = sym c.loop-item.invariant ∙ times_at-none (c.args.size - c.loop-item._item) (item_at (value_at c.args.levels) c.args.kind) _ (omega arith)

pub after_items-returns-in_err-rest : goal.after_items-returns-in_err-rest
after_items-returns-in_err-rest t c = let p = err_from_is_err_and c.from_residual.result c.from_residual.ensures.1 in rw (p.1, p.2) (sym c.loop-item.invariant ∙ times_at-Err (c.args.size - c.loop-item._item) (item_at (value_at c.args.levels) c.args.kind) _ _ (omega arith) c.in_err-rest.ensures)

pub after_items-loop-item-preserved : goal.after_items-loop-item-preserved
after_items-loop-item-preserved t c = sym (times_at-next (c.args.size - c.loop-item._item) (c.args.size - (c.loop-item._item + 1)) (item_at (value_at c.args.levels) c.args.kind) _ _ (omega arith) c.in_ok-rest.ensures) ∙ c.loop-item.invariant

pub after_pairs-returns : goal.after_pairs-returns
after_pairs-returns t c = sym c.loop-pair.invariant ∙ times_at-none (c.args.size - c.loop-pair._pair) (pair_at (value_at c.args.levels) c.args.key c.args.value) _ (omega arith)

pub after_pairs-returns-in_err-rest : goal.after_pairs-returns-in_err-rest
after_pairs-returns-in_err-rest t c = let p = err_from_is_err_and c.from_residual.result c.from_residual.ensures.1 in rw (p.1, p.2) (sym c.loop-pair.invariant ∙ times_at-Err (c.args.size - c.loop-pair._pair) (pair_at (value_at c.args.levels) c.args.key c.args.value) _ _ (omega arith) c.in_err-rest.ensures)

pub after_pairs-loop-pair-preserved : goal.after_pairs-loop-pair-preserved
after_pairs-loop-pair-preserved t c = sym (times_at-next (c.args.size - c.loop-pair._pair) (c.args.size - (c.loop-pair._pair + 1)) (pair_at (value_at c.args.levels) c.args.key c.args.value) _ _ (omega arith) c.in_ok-rest.ensures) ∙ c.loop-pair.invariant

pub after_fields-loop-after-init : goal.after_fields-loop-after-init
unfolding container_at
after_fields-loop-after-init t c = refl

pub after_fields-returns-in_err-after : goal.after_fields-returns-in_err-after
after_fields-returns-in_err-after t c = let p = err_from_is_err_and c.from_residual.result c.from_residual.ensures.1 in rw (p.1, p.2) (sym c.loop-after.invariant ∙ fields_at-head_Err (passing (value_at c.args.levels)) _ _ _ _ c.in_err-after.ensures)

pub after_fields-returns-in-None-default : goal.after_fields-returns-in-None-default
after_fields-returns-in-None-default t c = sym c.loop-after.invariant ∙ fields_at-stop (passing (value_at c.args.levels)) _ _ _ _ (rw c.in-None-default.is-0 at c.in_ok-after.ensures)

pub after_fields-returns-in_err-rest-in-Some-default : goal.after_fields-returns-in_err-rest-in-Some-default
after_fields-returns-in_err-rest-in-Some-default t c =
    let head = rw c.in-Some-default.is-0 at c.in_ok-after.ensures in
    let p = err_from_is_err_and c.from_residual-in_err-rest-in-Some-default.result c.from_residual-in_err-rest-in-Some-default.ensures.1 in rw (p.1, p.2) (sym c.loop-after.invariant ∙ fields_at-value_Err (passing (value_at c.args.levels)) _ _ _ _ c.in-Some-default.id c.in-Some-default.kind _ head c.in_err-rest-in-Some-default.ensures)

pub after_fields-loop-after-smaller : goal.after_fields-loop-after-smaller
after_fields-loop-after-smaller t c =
    let head = rw c.in-Some-default.is-0 at c.in_ok-after.ensures in
    omega (arith, field_at-shorter _ _ _ _ head, Stays-Ok (value_at c.args.levels c.in-Some-default.kind) _ _ _ (value_at_stays c.args.levels c.in-Some-default.kind) c.in_ok-rest-in-Some-default.ensures)

pub after_fields-loop-after-preserved : goal.after_fields-loop-after-preserved
after_fields-loop-after-preserved t c =
    let head = rw c.in-Some-default.is-0 at c.in_ok-after.ensures in
    let fits : SFits w16 c.in-Some-default.id = search rules in
    rw (to_z-of_z w16 c.in-Some-default.id fits) (sym (fields_at-next (passing (value_at c.args.levels)) (passing_stays (value_at c.args.levels) (value_at_stays c.args.levels)) _ _ _ _ c.in-Some-default.id c.in-Some-default.kind _ _ head c.in_ok-rest-in-Some-default.ensures) ∙ c.loop-after.invariant)
