-- The text of a time, and the time of a text.
use Rattle.std.proofs.Common.{◌≡◌, ℕ, true, List, Option, Some, None, Result, Ok, Err, refl, sym, ap, subst, ◌∙◌}
use Rattle.std.specs.Prelude.{is_none}
use Rattle.std.specs.Result.{result_ok}
use Rattle.std.proofs.lemmas.Bool.{cond-true, cond-false}
use Rattle.std.proofs.lemmas.Option.{cond_some}
use Rattle.hudi_base.specs.Calendar.{civil_ms}
use Rattle.hudi_base.specs.InstantTime.{IsTime, time_text, goes_wrong, civil_at, time_of}
use Rattle.hudi_base.specs.declared.instant_time.BadTime.{BadTime}
use Rattle.hudi_base.proofs.Times.{goes_wrong-time_text, time_text-civil_at, time_text_injective, Reads, Reads_time}

none_from_is_none : {A : Type 0} (o : Option A) → is_none o ≡ true → o ≡ None
none_from_is_none None e = refl
none_from_is_none (Some x) e = absurd cc

-- the time of the text of a time
pub time_of-time_text : (t : ℕ) → IsTime t → time_of (time_text t) ≡ Some t
unfolding time_of
time_of-time_text t is_time =
    let right : goes_wrong (time_text t) ≡ None = goes_wrong-time_text t is_time in
    let shown = time_text-civil_at (time_text t) right in
    let same : civil_ms (civil_at (time_text t)) ≡ t = time_text_injective (civil_ms (civil_at (time_text t))) t shown.0 is_time shown.1 in
    cond-true (is_none (goes_wrong (time_text t))) (Some (civil_ms (civil_at (time_text t)))) None (ap is_none right) ∙ ap Some same

-- a text that has a time is the text of that time
pub time_text-time_of : (text : List ℕ) (t : ℕ) → time_of text ≡ Some t → IsTime t × (time_text t ≡ text)
unfolding time_of
time_text-time_of text t e =
    let parts = cond_some (is_none (goes_wrong text)) (civil_ms (civil_at text)) t e in
    subst (λ (k : ℕ). IsTime k × (time_text k ≡ text)) parts.1 (time_text-civil_at text (none_from_is_none (goes_wrong text) parts.0))

-- a reading of a text gives its time
pub time_of_read : (text : List ℕ) (read : Result ℕ BadTime) → Reads text read → result_ok read ≡ time_of text
unfolding time_of
time_of_read text (Ok time) reads =
    let told = Reads_time text time reads in
    sym (ap time_of told.1 ∙ time_of-time_text time told.0)
time_of_read text (Err bad) reads =
    sym (cond-false (is_none (goes_wrong text)) (Some (civil_ms (civil_at text))) None (ap is_none reads))
