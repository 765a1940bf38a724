-- The phases of a query that reads a file piece by piece.
use Rattle.std.proofs.Common.{◌≡◌, ◌<◌, ◌+◌, ◌-◌, ◌==◌, ℕ, Bool, true, false, cond, List, [], ◌∷◌, min, refl, sym, ap, ◌∙◌, subst, arith}
use Rattle.std.proofs.lemmas.Bool.Decides.{nat_tests}
use Rattle.table_history.specs.Answers.{max_piece}
use Rattle.table_history.specs.JobLaw.{Work, Phase, Fresh, Drawn, Writes, Committed, Owes, Reads, Leaves, Ended, Allows, next_phase, after_piece}
use Rattle.table_history.specs.declared.job.Job.{Job}
use Rattle.table_history.specs.declared.reply.Cause.{Cause}
use Rattle.table_history.specs.declared.reply.Reply.TheVariants.{Damaged, Fault, Piece}
use Rattle.table_history.specs.declared.step.Reader.TheVariants as reader
use Rattle.table_history.specs.declared.step.Step.TheVariants.{Read}
use Rattle.table_query.specs.Reading.{IsNext, read_up_to, after_first, MayLeave}

differs : (a b : ℕ) → a < b → (a == b) ≡ false
differs a b h = grind (arith, nat_tests)

same : (a : ℕ) → (a == a) ≡ true
same a = grind (arith, nat_tests)

number_flip : (a b : ℕ) → (a == b) ≡ (b == a)
number_flip a b = grind (arith, nat_tests)

within : (pin file size at : ℕ) (more : List (ℕ × ℕ)) → at < size → after_piece pin ((file, size) ∷ more) at ≡ Reads pin ((file, size) ∷ more) at
within pin file size at more left = ap (λ (b : Bool). cond b (Reads pin more 0) (Reads pin ((file, size) ∷ more) at)) (differs at size left)

-- no piece is read yet
pub begins : (pin file size : ℕ) (p : Phase) → IsNext pin file size p → 0 < size → p ≡ read_up_to 0 p
begins pin file size p next some =
    let P : Phase → Type 0 = λ q. q ≡ read_up_to 0 q in
    subst P (sym next.is) (sym (within pin file size 0 next.more some))

-- the phase before another piece
before_piece : (pin file size at : ℕ) (p : Phase) (next : IsNext pin file size p) → at < size → read_up_to at p ≡ Reads pin ((file, size) ∷ next.more) at
before_piece pin file size at p next left = ap (read_up_to at) next.is ∙ within pin file size at next.more left

pub allowed : (work : Work) (job : Job) (pin file size at len : ℕ) (p now : Phase) → IsNext pin file size p → now ≡ read_up_to at p → at < size → len ≡ min max_piece (size - at)
    → Allows work job now (Read (reader.Pin pin) file at len)
allowed work job pin file size at len p now next is left long =
    let P : Phase → Type 0 = λ q. Allows work job q (Read (reader.Pin pin) file at len) in
    subst P (sym (is ∙ before_piece pin file size at p next left)) (refl, refl, refl, long)

pub goes_on : (pin file size at len : ℕ) (bytes : List ℕ) (p now : Phase) → IsNext pin file size p → now ≡ read_up_to at p → at < size
    → next_phase now (Read (reader.Pin pin) file at len) (Piece bytes) ≡ read_up_to (at + len) p
goes_on pin file size at len bytes p now next is left =
    ap (λ (q : Phase). next_phase q (Read (reader.Pin pin) file at len) (Piece bytes)) (is ∙ before_piece pin file size at p next left)
    ∙ sym (ap (read_up_to (at + len)) next.is)

pub ends : (pin file size at : ℕ) (p : Phase) → IsNext pin file size p → at ≡ size → read_up_to at p ≡ after_first p
ends pin file size at p next all =
    let more = next.more in
    let done : after_piece pin ((file, size) ∷ more) at ≡ Reads pin more 0 = ap (λ (b : Bool). cond b (Reads pin more 0) (Reads pin ((file, size) ∷ more) at)) (ap (λ (n : ℕ). at == n) (sym all) ∙ same at) in
    ap (read_up_to at) next.is ∙ done ∙ sym (ap after_first next.is)

-- a query that reads
pub record ReadsNow (pin : ℕ) (p : Phase) : Type 0 where
  pub first : ℕ × ℕ
  pub more : List (ℕ × ℕ)
  pub before : ℕ
  pub is : p ≡ Reads pin (first ∷ more) before

reads_now : (work : Work) (job : Job) (pin file at len : ℕ) (p : Phase) → Allows work job p (Read (reader.Pin pin) file at len) → ReadsNow pin p
reads_now work job pin file at len (Reads q [] before) may = absurd may
reads_now work job pin file at len (Reads q (first ∷ more) before) may =
    let h : q ≡ pin = (let e : reader.Pin pin ≡ reader.Pin q = may.0 in cc) in
    record { first = first; more = more; before = before; is = ap (λ (x : ℕ). Reads x (first ∷ more) before) h }
reads_now work job pin file at len Fresh may = absurd may
reads_now work job pin file at len (Drawn t) may = absurd may
reads_now work job pin file at len (Writes t targets placed) may = absurd may
reads_now work job pin file at len (Committed t) may = absurd may
reads_now work job pin file at len (Owes t) may = absurd may
reads_now work job pin file at len (Leaves q) may = absurd may
reads_now work job pin file at len Ended may = absurd may

-- the pin may be let go, also after the step failed
pub may_leave : (work : Work) (job : Job) (pin file at len : ℕ) (p : Phase) → Allows work job p (Read (reader.Pin pin) file at len) → MayLeave pin p
may_leave work job pin file at len p may = let P : Phase → Type 0 = MayLeave pin in subst P (sym (reads_now work job pin file at len p may).is) refl

pub may_leave_fault : (work : Work) (job : Job) (pin file at len : ℕ) (p : Phase) → Allows work job p (Read (reader.Pin pin) file at len)
    → MayLeave pin (next_phase p (Read (reader.Pin pin) file at len) Fault)
may_leave_fault work job pin file at len p may =
    let P : Phase → Type 0 = λ q. MayLeave pin (next_phase q (Read (reader.Pin pin) file at len) Fault) in subst P (sym (reads_now work job pin file at len p may).is) refl

pub may_leave_damage : (work : Work) (job : Job) (pin file at len : ℕ) (name : List ℕ) (cause : Cause) (p : Phase) → Allows work job p (Read (reader.Pin pin) file at len)
    → MayLeave pin (next_phase p (Read (reader.Pin pin) file at len) (Damaged name cause))
may_leave_damage work job pin file at len name cause p may =
    let P : Phase → Type 0 = λ q. MayLeave pin (next_phase q (Read (reader.Pin pin) file at len) (Damaged name cause)) in subst P (sym (reads_now work job pin file at len p may).is) refl
