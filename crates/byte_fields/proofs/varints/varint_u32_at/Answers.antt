use Rattle.std.proofs.Common.{arith, rules, Err, sym, ap, ◌∙◌}
use Rattle.byte_fields.proofs.VarintLemmas.{varint_at-Ok, varint_at-Bad, varint_at-Err}
use Rattle.byte_fields.proofs.varints.varint_u32_at.Goals as goal

pub returns-in_err-number : goal.returns-in_err-number
returns-in_err-number c = search (rules, varint_at-Err)

pub returns-in-Ok : goal.returns-in-Ok
returns-in-Ok c = rw c.in-Ok.ensures.1 (varint_at-Ok 32 _ _ _ (omega arith) c.in_ok-number.ensures c.in-Ok.ensures.0)

pub returns-in-Err : goal.returns-in-Err
returns-in-Err c =
    varint_at-Bad 32 _ _ _ (omega arith) c.in_ok-number.ensures (omega (arith, c.in-Err.ensures)) ∙ ap Err (sym c.bad.ensures)
