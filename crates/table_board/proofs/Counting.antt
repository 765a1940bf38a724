-- The faults among the entries, and the times that they drew.
use Rattle.std.proofs.Common.{◌≡◌, ◌≤◌, ◌<◌, ◌+◌, ◌-◌, ◌^◌, ◌⊎◌, inl, inr, ℕ, Bool, true, false, List, ◌∷◌, refl, sym, subst, arith}
use Rattle.std.specs.Prelude.{nat_le, ◌≤ℤ◌, ℤ}
use Rattle.std.proofs.lemmas.Bool.Decides.{nat_tests}
use Rattle.hudi_base.specs.Faults.{CountsFault, Rose}
use Rattle.table_history.specs.Histories.{History}
use Rattle.table_history.specs.JobLaw.{Work}
use Rattle.table_history.specs.Tables.{Table, fresh}
use Rattle.table_history.specs.declared.job.Job.{Job}
use Rattle.table_history.specs.declared.reply.Reply.{Reply}
use Rattle.table_history.specs.declared.reply.Reply.TheVariants as reply
use Rattle.table_history.specs.declared.step.Step.{Step}
use Rattle.table_core.specs.ControlTables.{IsControl}
use Rattle.table_core.specs.declared.control.Control.{Control}
use Rattle.table_board.proofs.Keeping.{renamed, kept_same}
use Rattle.table_board.proofs.Drawing.{times_later}
use Rattle.table_board.specs.Boards.{Keeps, IsBoard, faults_among, FaultsCounted, DrawsTime, DrawnTimes}
use Rattle.table_board.specs.Journals.{JournalState}
use Rattle.table_history.specs.declared.entry.Entry.{Entry}
use Rattle.table_props.specs.PropsTexts.{Told as Properties, told_of}

-- ---- faults

rose_by : (m n : ℕ) (b : Bool) → nat_le (m + 1) n ≡ b → Rose m n → (m + 1 ≤ n) ⊎ (2 ^ 64 - 1 ≤ n)
rose_by m n true test rose = inl (grind (arith, nat_tests))
rose_by m n false test rose = let h : n < m + 1 = grind (arith, nat_tests) in inr (omega arith)

one_more : (first m n k : ℕ) → (m + 1 ≤ n) ⊎ (2 ^ 64 - 1 ≤ n) → m ≤ n → (first + k ≤ m) ⊎ (2 ^ 64 - 1 ≤ m) → (first + (k + 1) ≤ n) ⊎ (2 ^ 64 - 1 ≤ n)
one_more first m n k (inl up) le (inl before) = inl (omega arith)
one_more first m n k (inr last) le before = inr last
one_more first m n k (inl up) le (inr last) = inr (omega arith)

no_more : (first m n k : ℕ) → m ≤ n → (first + k ≤ m) ⊎ (2 ^ 64 - 1 ≤ m) → (first + (k + 0) ≤ n) ⊎ (2 ^ 64 - 1 ≤ n)
no_more first m n k le (inl before) = inl (omega arith)
no_more first m n k le (inr last) = inr (omega arith)

rises : (first m n k : ℕ) → m ≤ n → (first + k ≤ m) ⊎ (2 ^ 64 - 1 ≤ m) → (first + k ≤ n) ⊎ (2 ^ 64 - 1 ≤ n)
rises first m n k le (inl before) = inl (omega arith)
rises first m n k le (inr last) = inr (omega arith)

faults_after : (first m n : ℕ) (j : Job) (s : Step) (r : Reply) (H : History) → CountsFault m n (r ≡ reply.Fault) → FaultsCounted first H m
    → FaultsCounted first (record { job = j; step = s; reply = r } ∷ H) n
faults_after first m n j s reply.Fault H counted before =
    one_more first m n (faults_among H) (rose_by m n (nat_le (m + 1) n) refl (counted.cause refl)) counted.never_falls before
faults_after first m n j s r H counted before = no_more first m n (faults_among H) counted.never_falls before

-- a step without an operation
pub same_count : (m : ℕ) → CountsFault m m (reply.Done ≡ reply.Fault)
same_count m = record { never_falls = omega arith; one_at_most = omega arith; cause = λ is. absurd (differ is) }
  where
    differ : reply.Done ≡ reply.Fault → ⊥
    differ is = cc

-- ---- what holds of a board

-- no entry more
pub board_same : (work : Work) (c d : Control) (j k : JournalState) (first m n : ℕ) (most more : ℤ) → IsBoard work c j first m most
    → ((A : Table) (H : History) → IsControl A H c → IsControl A H d) → k.entries ≡ j.entries → k.owed ≡ j.owed → j.room ≤ k.room → m ≤ n
    → most ≤ℤ more → IsBoard work d k first n more
board_same work c d j k first m n most more is tables entries owed room le later =
    let kept : Keeps work (fresh (told_of c.props)) d k = kept_same work (fresh (told_of c.props)) c d j k is.keeps tables entries owed room in
    record {
      keeps = renamed work (told_of c.props) d k kept;
      faults = let P : History → Type 0 = λ H. FaultsCounted first H n in subst P (sym entries) (rises first m n (faults_among j.entries) le is.faults);
      drawn =
          let P : History → Type 0 = λ H. DrawnTimes (fresh (told_of c.props)) more H in
          let Q : Table → Type 0 = λ A. DrawnTimes A more k.entries in
          subst Q (λ i. fresh (sym kept.tables.props i)) (subst P (sym entries) (times_later (fresh (told_of c.props)) most more j.entries later is.drawn));
    }

-- one entry more
pub board_more : (work : Work) (props : Properties) (d : Control) (H : History) (k : JournalState) (first m n : ℕ) (most : ℤ) (e : Entry) → Keeps work (fresh props) d k
    → FaultsCounted first H m → DrawnTimes (fresh props) most H → k.entries ≡ e ∷ H → CountsFault m n (e.reply ≡ reply.Fault)
    → DrawsTime (fresh props) most H e.reply → IsBoard work d k first n most
board_more work props d H k first m n most e keeps before drawn entries counted draws = record {
  keeps = renamed work props d k keeps;
  faults = let P : History → Type 0 = λ H. FaultsCounted first H n in subst P (sym entries) (faults_after first m n e.job e.step e.reply H counted before);
  drawn =
      let P : History → Type 0 = λ H. DrawnTimes (fresh props) most H in
      let Q : Table → Type 0 = λ A. DrawnTimes A most k.entries in
      subst Q (λ i. fresh (sym keeps.tables.props i)) (subst P (sym entries) (drawn, draws));
}
