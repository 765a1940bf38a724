-- A text that passed each test is of the time that its fields show.
use Rattle.std.proofs.Common.{◌≡◌, ℕ, List, length, None, Option, sym, ◌∙◌, ap}
use Rattle.std.specs.List.{position}
use Rattle.hudi_base.specs.Calendar.{Civil, IsCivil, civil_ms}
use Rattle.hudi_base.specs.InstantTime.{IsTime, time_text, civil_at, field_out_of_range, goes_wrong}
use Rattle.hudi_base.proofs.DigitsLemmas.{is_no_digit, All-position_none, goes_wrong-passed, IsRight-goes_wrong}
use Rattle.hudi_base.proofs.Times.{time_text-civil_at}
use Rattle.hudi_base.proofs.instant_time.InstantTime.parse.Goals as goal

record IsRead (text : List ℕ) (civil : Civil) : Type 0 where
  right : goes_wrong text ≡ None
  is_civil : IsCivil civil
  is_time : IsTime (civil_ms civil)
  written : text ≡ time_text (civil_ms civil)

passed : (text : List ℕ) (first out : Option ℕ) (civil : Civil) → first ≡ position is_no_digit text → first ≡ None → length text ≡ 17 → civil ≡ civil_at text → out ≡ field_out_of_range civil → out ≡ None → IsRead text civil
passed text first out civil digits none long fields range within =
    let right = goes_wrong-passed text (sym digits ∙ none) long (sym (range ∙ ap field_out_of_range fields) ∙ within) in
    let shown = time_text-civil_at text right in
    rw fields (record { right = right; is_civil = (IsRight-goes_wrong text right).civil; is_time = shown.0; written = sym shown.1 })

pub of_digits-civil-requires-clause-digits : goal.of_digits-civil-requires-clause-digits
of_digits-civil-requires-clause-digits c =
    All-position_none c.args.text.now (sym c.first_no_digit.ensures ∙ c.in_default.is)

pub ms-requires : goal.ms-requires
ms-requires c =
    (passed c.args.text.now _ _ c.of_digits-civil.result c.first_no_digit.ensures c.in_default.is c.if-text-ne17.false c.of_digits-civil.ensures c.out_of_range.ensures c.in-None.is).is_civil

pub invariant_of-result : goal.invariant_of-result
invariant_of-result c =
    rw c.ms.ensures (passed c.args.text.now _ _ c.of_digits-civil.result c.first_no_digit.ensures c.in_default.is c.if-text-ne17.false c.of_digits-civil.ensures c.out_of_range.ensures c.in-None.is).is_time

pub returns-in-None : goal.returns-in-None
returns-in-None c =
    let read = passed c.args.text.now _ _ c.of_digits-civil.result c.first_no_digit.ensures c.in_default.is c.if-text-ne17.false c.of_digits-civil.ensures c.out_of_range.ensures c.in-None.is in
    (read.right, rw c.ms.ensures read.written)
