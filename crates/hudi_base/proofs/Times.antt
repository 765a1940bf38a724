-- A time and its seventeen digits determine each other.
use Rattle.std.proofs.Common.{◌≡◌, ℕ, inl, inr, List, length, Some, None, Result, Ok, Err, sym, ap, ◌∙◌, arith, pos}
use Rattle.std.specs.List.{All}
use Rattle.std.specs.Char.{IsAsciiDigit}
use Rattle.std.specs.Str.{IsAscii, IsUtf8}
use Rattle.std.specs.Result.{MatchResult}
use Rattle.std.proofs.lemmas.Bool.{cases_lt}
use Rattle.std.proofs.lemmas.Str.{IsUtf8-from_ascii}
use Rattle.std.proofs.lemmas.Str.Ascii.{IsAscii-from_all}
use Rattle.jiff_core.proofs.CalendarLemmas.{days_in_month_bounds}
use Rattle.hudi_base.specs.Calendar.{Civil, IsCivil, IsWritable, civil_ms, civil_of}
use Rattle.hudi_base.specs.InstantTime.{IsTime, first_time, last_time, civil_at, time_text, goes_wrong}
use Rattle.hudi_base.specs.declared.instant_time.BadTime.{BadTime}
use Rattle.hudi_base.proofs.CivilLemmas as civil
use Rattle.hudi_base.proofs.DigitsLemmas.{length-civil_text, civil_at-civil_text, All-civil_text, civil_text-civil_at, goes_wrong-None, IsRight-goes_wrong}

-- ---- what a calendar shows, and milliseconds

pub civil_of-civil_ms : (c : Civil) → IsCivil c → civil_of (civil_ms c) ≡ c
civil_of-civil_ms = civil.civil_of-civil_ms

pub IsTime-civil_ms : (c : Civil) → IsCivil c → IsTime (civil_ms c)
IsTime-civil_ms = civil.IsTime-civil_ms

pub IsCivil-civil_of : (t : ℕ) → IsTime t → IsCivil (civil_of t)
IsCivil-civil_of t h = (civil.civil_of_time t h).0

pub civil_ms-civil_of : (t : ℕ) → IsTime t → civil_ms (civil_of t) ≡ t
civil_ms-civil_of t h = (civil.civil_of_time t h).1

-- ---- the text of a time

pub length-time_text : (t : ℕ) → length (time_text t) ≡ 17
unfolding time_text
length-time_text t = length-civil_text (civil_of t)

IsWritable-civil : (c : Civil) → IsCivil c → IsWritable c
IsWritable-civil c h = record { year = omega arith; month = omega arith; day = omega (arith, days_in_month_bounds (pos c.year) c.month); hour = omega arith; minute = omega arith; second = omega arith; milli = omega arith }

-- each byte is a digit
pub All-time_text : (t : ℕ) → IsTime t → All IsAsciiDigit (time_text t)
unfolding time_text
All-time_text t h = All-civil_text (civil_of t) (IsWritable-civil (civil_of t) (IsCivil-civil_of t h))

pub IsAscii-time_text : (t : ℕ) → IsTime t → IsAscii (time_text t)
IsAscii-time_text t h = IsAscii-from_all (time_text t) (λ k d lt. omega (arith, All-time_text t h k d lt))

pub IsUtf8-time_text : (t : ℕ) → IsTime t → IsUtf8 (time_text t)
IsUtf8-time_text t h = IsUtf8-from_ascii (time_text t) (IsAscii-time_text t h)

-- the fields that the text of a time shows
civil_at-time_text : (t : ℕ) → civil_at (time_text t) ≡ civil_of t
unfolding time_text
civil_at-time_text t = civil_at-civil_text (civil_of t)

-- two times with one text are one time
pub time_text_injective : (a b : ℕ) → IsTime a → IsTime b → time_text a ≡ time_text b → a ≡ b
time_text_injective a b p q e =
    let same : civil_of a ≡ civil_of b = sym (civil_at-time_text a) ∙ ap civil_at e ∙ civil_at-time_text b in
    sym (civil_ms-civil_of a p) ∙ ap civil_ms same ∙ civil_ms-civil_of b q

-- ---- which texts are of a time

-- nothing goes wrong in the text of a time
pub goes_wrong-time_text : (t : ℕ) → IsTime t → goes_wrong (time_text t) ≡ None
goes_wrong-time_text t h =
    goes_wrong-None (time_text t) (record {
      long = length-time_text t;
      digits = All-time_text t h;
      civil = rw (civil_at-time_text t) (IsCivil-civil_of t h);
    })

-- and it does in what would be the text of a number that is no time
pub IsTime-goes_wrong : (t : ℕ) → goes_wrong (time_text t) ≡ None → IsTime t
IsTime-goes_wrong t h = shown t (rw (civil_at-time_text t) at (IsRight-goes_wrong (time_text t) h).civil)
  where
    shown : (t : ℕ) → IsCivil (civil_of t) → IsTime t
    shown t h =
        elim (cases_lt t first_time) [
          | inl early ↦ absurd (omega (arith, h.day_from, civil.civil_of-early t early))
          | inr from ↦ elim (cases_lt last_time t) [
            | inl late ↦ let shown = civil.civil_of-late t late in absurd (omega (arith, h.day_to, shown.1, days_in_month_bounds (pos (civil_of t).year) (civil_of t).month))
            | inr to ↦ (from, to)
          ]
        ]

-- a text in which nothing goes wrong is of the time that its fields show
pub time_text-civil_at : (text : List ℕ) → goes_wrong text ≡ None → IsTime (civil_ms (civil_at text)) × (time_text (civil_ms (civil_at text)) ≡ text)
unfolding time_text
time_text-civil_at text h =
    let right = IsRight-goes_wrong text h in
    (IsTime-civil_ms (civil_at text) right.civil, rw (civil_of-civil_ms (civil_at text) right.civil) (civil_text-civil_at text right.long right.digits))

-- ---- reading what was written

-- what a reading of a text gives, as the clause of `parse` says it
abbrev pub Reads : List ℕ → Result ℕ BadTime → Type 0
Reads text read = MatchResult read (λ time. (goes_wrong text ≡ None) × (text ≡ time_text time)) (λ bad. goes_wrong text ≡ Some bad.0)

-- a reading of the text of a time gives that time
pub Reads-time_text : (t : ℕ) (text : List ℕ) (read : Result ℕ BadTime) → IsTime t → text ≡ time_text t → Reads text read → read ≡ Ok t
Reads-time_text t text (Ok time) h e reads =
    let is_time : IsTime time = IsTime-goes_wrong time (sym (ap goes_wrong reads.1) ∙ reads.0) in
    ap Ok (time_text_injective time t is_time h (sym reads.1 ∙ e))
Reads-time_text t text (Err bad) h e reads =
    let right : goes_wrong text ≡ None = ap goes_wrong e ∙ goes_wrong-time_text t h in
    cc

-- a reading that gives a time was of a text of that time
pub Reads_time : (text : List ℕ) (time : ℕ) → Reads text (Ok time) → IsTime time × (text ≡ time_text time)
Reads_time text time reads =
    (IsTime-goes_wrong time (sym (ap goes_wrong reads.1) ∙ reads.0), reads.1)
