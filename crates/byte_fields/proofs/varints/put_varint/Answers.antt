use Rattle.std.proofs.Common.{arith, ◌≡◌, ◌+◌, ◌%◌, ◌/◌, ◌<◌, [], ◌∷◌, ◌++◌, List, ℕ, length, vec_len, sym, ap, ◌∙◌, append_assoc}
use Rattle.std.specs.Prelude.{vec_capacity}
use Rattle.byte_fields.specs.Varints.{varint}
use Rattle.byte_fields.proofs.VarintLemmas.{varint-one, varint-more, length-varint, length-varint_pos}
use Rattle.byte_fields.proofs.varints.put_varint.Goals as goal

pub loop-left-init : goal.loop-left-init
loop-left-init c = (ap (λ (t : List ℕ). t ++ varint c.args.number) c.reserve.ensures.items, omega (arith, c.in_ok-reserve.ensures.ok, length-varint c.args.number), omega (arith, c.ranges.number.fits))

pub returns-in_err-push-clause-err : goal.returns-in_err-push-clause-err
returns-in_err-push-clause-err c =
    let room : vec_len c.loop-left.out < vec_capacity c.loop-left.out = omega (arith, c.loop-left.invariant.1, length-varint_pos c.loop-left.left) in
    let full = c.in_err-push.ensures.succeeds room in
    absurd cc

pub loop-left-preserved : goal.loop-left-preserved
loop-left-preserved c =
    let out : List ℕ = c.loop-left.out.items in
    let left : ℕ = c.loop-left.left in
    let step : varint left ≡ (128 + left % 128) ∷ varint (left / 128) = varint-more left c.loop-left-test.true c.loop-left.invariant.2 in (
      ap (λ (t : List ℕ). t ++ varint (left / 128)) c.in_ok-push.ensures.items
          ∙ append_assoc out ((128 + left % 128) ∷ []) (varint (left / 128))
          ∙ ap (λ (t : List ℕ). out ++ t) (sym step)
          ∙ c.loop-left.invariant.0,
      omega (arith, c.in_ok-push.ensures.len, c.in_ok-push.ensures.capacity, c.loop-left.invariant.1, ap length step),
      omega (arith, c.loop-left.invariant.2),
    )

pub returns-in_err-push-2-clause-err : goal.returns-in_err-push-2-clause-err
returns-in_err-push-2-clause-err c =
    let room : vec_len c.loop-left.out < vec_capacity c.loop-left.out = omega (arith, c.loop-left.invariant.1, length-varint_pos c.loop-left.left) in
    let full = c.in_err-push-2.ensures.succeeds room in
    absurd cc

pub returns-clause-ok : goal.returns-clause-ok
returns-clause-ok c =
    c.in_ok-push-2.ensures.items
    ∙ ap (λ (t : List ℕ). c.loop-left.out.items ++ t) (sym (varint-one c.loop-left.left c.loop-left-test.false))
    ∙ c.loop-left.invariant.0
