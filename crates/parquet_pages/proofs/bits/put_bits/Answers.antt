use Rattle.std.proofs.Common.{ap, sym, ◌∙◌, ◌++◌, List, ℕ, arith}
use Rattle.std.proofs.lemmas.Bool.{eqb-true, eqb-false}
use Rattle.std.proofs.lemmas.List.{append-nil}
use Rattle.parquet_pages.proofs.BitsLemmas.{bits_step, bit_bytes-none}
use Rattle.parquet_pages.proofs.bits.put_bits.Goals as goal

pub loop-rest-preserved : goal.loop-rest-preserved
loop-rest-preserved c =
    bits_step c.min.result c.loop-rest.out.items _ _ c.loop-rest.rest.now c.split_at.result.0.now c.split_at.result.1.now c.bits_number.result (let some = eqb-false _ _ (sym c.loop-rest-test.ensures) in omega (arith, some)) c.min.ensures c.split_at.ensures.front c.split_at.ensures.back c.bits_number.ensures.number c.in_ok-push.ensures.items c.loop-rest.invariant

pub returns : goal.returns
returns c =
    sym (append-nil c.loop-rest.out.items) ∙ ap (λ (t : List ℕ). c.loop-rest.out.items ++ t) (sym (bit_bytes-none c.loop-rest.rest.now (eqb-true _ _ (sym c.loop-rest-test.ensures)))) ∙ c.loop-rest.invariant
