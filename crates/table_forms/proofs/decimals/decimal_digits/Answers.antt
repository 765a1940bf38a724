use Rattle.std.proofs.Common.{◌≡◌, length, get_or, arith, rules}
use Rattle.table_forms.proofs.DecimalLemmas.{filled_always, digit_leads, zero_alone, IsUtf8-decimal, parsed}
use Rattle.table_forms.proofs.decimals.decimal_digits.Goals as goal
use Rattle.table_forms.proofs.decimals.decimal_digits.Goals.{else-text-gt1-via-then-text-gt1+else-text-eq48, else-text-gt1-via-else-text-gt1}

pub returns-then-is_empty : goal.returns-then-is_empty
returns-then-is_empty c = λ n d. let filled = filled_always n c.args.text.now d in grind (arith, filled, c.is_empty.ensures, c.if-is_empty.true)

pub returns-then-text-eq43 : goal.returns-then-text-eq43
returns-then-text-eq43 c = λ n d. let leads = digit_leads n c.args.text.now d in omega (arith, leads.0)

pub returns-then-text-eq48 : goal.returns-then-text-eq48
returns-then-text-eq48 c = λ n d. let alone = zero_alone n c.args.text.now d c.if-text-eq48.true in omega (arith, alone)

pub returns-in-Ok : goal.returns-in-Ok
returns-in-Ok c =
    let same = c.in-Ok.ensures.cases.0 in
    let alone : get_or c.args.text.now 0 0 ≡ 48 → length c.args.text.now ≡ 1 = elim c.else-text-gt1.branch [
      | else-text-gt1-via-then-text-gt1+else-text-eq48 w ↦ λ is. absurd (w.if-text-eq48.false is)
      | else-text-gt1-via-else-text-gt1 w ↦ λ is. grind (arith, c.is_empty.ensures, c.if-is_empty.false, w.if-text-gt1.false)
    ] in
    let gives = parsed c.args.text.now c.parse.result (rw same at c.parse.ensures.value.0) c.if-text-eq43.false alone in
    rw c.ok.ensures.value gives

pub returns-in-Err : goal.returns-in-Err
returns-in-Err c = λ n d. let utf8 = IsUtf8-decimal n c.args.text.now d in search (rules, utf8)
