-- Jobs in turn: the instant that a job writes has the greatest time, and completed times fall.
use Rattle.std.proofs.Common.{◌≡◌, inl, inr, ◌<◌, ◌≤◌, ◌+◌, ℕ, Bool, true, false, cond, List, [], ◌∷◌, Some, None, max, refl, sym, ap, subst, ◌∙◌, arith}
use Rattle.std.specs.Prelude.{◌==◌, nat_lt}
use Rattle.std.specs.List.{AllByRecursion}
use Rattle.std.proofs.lemmas.Bool.Decides.{nat_tests}
use Rattle.table_history.specs.Answers.{Answers}
use Rattle.table_history.specs.Histories.{History, own}
use Rattle.table_history.specs.Instants.{completed_instants}
use Rattle.table_history.specs.JobLaw.{Work, IsLegal, Phase, Fresh, Drawn, Writes, Committed, Owes, Reads, Leaves, Ended, Allows, after_piece, next_phase, phase}
use Rattle.table_history.specs.Tables.{Table, fresh}
use Rattle.table_history.specs.Times.{greatest_time, insert_time}
use Rattle.table_history.specs.declared.job.Job.{Job}
use Rattle.table_history.specs.declared.reply.Reply.{Reply}
use Rattle.table_history.specs.declared.reply.Reply.TheVariants as reply
use Rattle.table_history.specs.declared.step.Reader.TheVariants as reader
use Rattle.table_history.specs.declared.step.Step.{Step}
use Rattle.table_history.specs.declared.step.Step.TheVariants.{Begin, Enter, Append, Finish, Pin, Unpin, Read, Abandon}
use Rattle.table_images.proofs.SameLogs.{entry}
use Rattle.table_answers.specs.InTurn.{IsInTurn, IsItsTurn}
use Rattle.table_answers.proofs.Made.{job_itself}
use Rattle.table_props.specs.PropsTexts.{Told as Properties}

-- times that strictly fall
abbrev pub Falls : List ℕ → Type 0
Falls [] = Unit {0}
Falls (u ∷ us) = AllByRecursion (λ v. v < u) us × Falls us

-- a writer's own instant is the last one drawn, and above all completed ones
abbrev pub IsLast : ℕ → ℕ → List ℕ → Type 0
IsLast t most us = (t ≡ most) × AllByRecursion (λ u. u < t) us

abbrev pub RunsLast : Phase → ℕ → List ℕ → Type 0
RunsLast (Drawn t) most us = IsLast t most us
RunsLast (Writes t targets placed) most us = IsLast t most us
RunsLast _ most us = Unit {0}

pub record IsTurned (p : Phase) (most : ℕ) (us : List ℕ) : Type 0 where
  pub runs : RunsLast p most us
  pub bounded : AllByRecursion (λ u. u ≤ most) us
  pub falls : Falls us

-- ---- times

all_times : (P Q : ℕ → Type 0) → ((u : ℕ) → P u → Q u) → (us : List ℕ) → AllByRecursion P us → AllByRecursion Q us
all_times P Q f [] all = tt
all_times P Q f (u ∷ us) all = (f u all.0, all_times P Q f us all.1)

no_more : (n : ℕ) → max n 0 ≡ n
no_more n = grind (arith, nat_tests)

drawn_more : (most t : ℕ) → most < t → t ≡ max most t
drawn_more most t above = grind (arith, nat_tests)

below_drawn : (most t u : ℕ) → most < t → u ≤ most → u < t
below_drawn most t u above le = omega (arith, above, le)

within_drawn : (most t u : ℕ) → most < t → u ≤ most → u ≤ max most t
within_drawn most t u above le = grind (arith, nat_tests)

put_first : (t : ℕ) (us : List ℕ) → AllByRecursion (λ u. u < t) us → insert_time t us ≡ t ∷ us
put_first t [] all = refl
put_first t (u ∷ us) all = let less : nat_lt u t ≡ true = below u t all.0 in ap (λ b. cond b (t ∷ u ∷ us) (u ∷ insert_time t us)) less
  where
    below : (u t : ℕ) → u < t → nat_lt u t ≡ true
    below u t h = grind (arith, nat_tests)

-- ---- one entry

abbrev Turned : Table → History → Job → Step → Reply → Phase → Type 0
Turned A H j s r p = IsTurned (next_phase p s r) (greatest_time A (entry j s r ∷ H)) (completed_instants A (entry j s r ∷ H))

module _ (A : Table) (H : History) (j : Job) where
  abbrev most : ℕ
  most = greatest_time A H

  abbrev us : List ℕ
  us = completed_instants A H

  -- nothing is drawn or completed
  quiet : (p : Phase) → RunsLast p most us → AllByRecursion (λ u. u ≤ most) us → Falls us → IsTurned p (max most 0) us
  quiet p runs bounded falls = subst (λ n. IsTurned p n us) (sym (no_more most)) (record { runs = runs; bounded = bounded; falls = falls })

  drawn_now : (t : ℕ) → most < t → AllByRecursion (λ u. u ≤ most) us → Falls us → IsTurned (Drawn t) (max most t) us
  drawn_now t above bounded falls = record {
    runs = (drawn_more most t above, all_times (λ u. u ≤ most) (λ u. u < t) (λ u. below_drawn most t u above) us bounded);
    bounded = all_times (λ u. u ≤ most) (λ u. u ≤ max most t) (λ u. within_drawn most t u above) us bounded;
    falls = falls;
  }

  completed_now : (t v : ℕ) → v ≡ t → IsLast t most us → AllByRecursion (λ u. u ≤ most) us → Falls us → IsTurned (Committed v) (max most 0) (insert_time v us)
  completed_now t v same last bounded falls =
      let below : AllByRecursion (λ u. u < v) us = subst (λ n. AllByRecursion (λ u. u < n) us) (sym same) last.1 in
      let within : v ≤ most = let is = last.0 in omega (arith, same, is) in
      subst (λ n. IsTurned (Committed v) n (insert_time v us)) (sym (no_more most))
      (subst (λ vs. IsTurned (Committed v) most vs) (sym (put_first v us below)) (record { runs = tt; bounded = (within, bounded); falls = (below, falls) }))

  piece_runs : (pin : ℕ) (files : List (ℕ × ℕ)) (at : ℕ) → RunsLast (after_piece pin files at) most us
  piece_runs pin [] at = tt
  piece_runs pin (file ∷ more) at = by (at == file.1)
    where
      by : (b : Bool) → RunsLast (cond b (Reads pin more 0) (Reads pin (file ∷ more) at)) most us
      by true = tt
      by false = tt

  turned_then : (work : Work) (s : Step) (r : Reply) (p : Phase) → Answers A H s r → Allows work j p s → IsTurned p most us → Turned A H j s r p
  turned_then work Begin (reply.Began t) Fresh a w was = drawn_now t a was.bounded was.falls
  turned_then work Begin reply.TimeOver Fresh a w was = quiet Ended tt was.bounded was.falls
  turned_then work Begin reply.Fault Fresh a w was = quiet Ended tt was.bounded was.falls
  turned_then work Begin (reply.Damaged name cause) Fresh a w was = quiet Ended tt was.bounded was.falls
  turned_then work Begin _ Fresh a w was = absurd a
  turned_then work (Pin None bases_only) (reply.Pinned view) Fresh a w was = quiet (next_phase Fresh (Pin None bases_only) (reply.Pinned view)) tt was.bounded was.falls
  turned_then work (Pin None bases_only) _ Fresh a w was = absurd a
  turned_then work (Pin (Some t) bases_only) (reply.Pinned view) Fresh a w was = quiet (next_phase Fresh (Pin (Some t) bases_only) (reply.Pinned view)) tt was.bounded was.falls
  turned_then work (Pin (Some t) bases_only) (reply.NotCompleted u) Fresh a w was = quiet Ended tt was.bounded was.falls
  turned_then work (Pin (Some t) bases_only) _ Fresh a w was = absurd a
  turned_then work _ r Fresh a w was = absurd w
  turned_then work (Enter u slots) (reply.Entered targets) (Drawn t) a w was = quiet (Writes t targets 0) was.runs was.bounded was.falls
  turned_then work (Enter u slots) reply.Fault (Drawn t) a w was = quiet (Owes t) tt was.bounded was.falls
  turned_then work (Enter u slots) (reply.Damaged name cause) (Drawn t) a w was = quiet (Owes t) tt was.bounded was.falls
  turned_then work (Enter u slots) _ (Drawn t) a w was = absurd a
  turned_then work (Abandon u) reply.Done (Drawn t) a w was = quiet Ended tt was.bounded was.falls
  turned_then work (Abandon u) _ (Drawn t) a w was = absurd a
  turned_then work _ r (Drawn t) a w was = absurd w
  turned_then work (Append u target writes bytes) (reply.Placed version at) (Writes t targets placed) a w was = quiet (Writes t targets (placed + 1)) was.runs was.bounded was.falls
  turned_then work (Append u target writes bytes) reply.Fault (Writes t targets placed) a w was = quiet (Owes t) tt was.bounded was.falls
  turned_then work (Append u target writes bytes) _ (Writes t targets placed) a w was = absurd a
  turned_then work (Finish u checkpoint) (reply.Completed v) (Writes t targets placed) a w was = completed_now t v (a ∙ w.0) was.runs was.bounded was.falls
  turned_then work (Finish u checkpoint) reply.Fault (Writes t targets placed) a w was = quiet (Owes t) tt was.bounded was.falls
  turned_then work (Finish u checkpoint) (reply.Damaged name cause) (Writes t targets placed) a w was = quiet (Owes t) tt was.bounded was.falls
  turned_then work (Finish u checkpoint) _ (Writes t targets placed) a w was = absurd a
  turned_then work (Abandon u) reply.Done (Writes t targets placed) a w was = quiet Ended tt was.bounded was.falls
  turned_then work (Abandon u) _ (Writes t targets placed) a w was = absurd a
  turned_then work _ r (Writes t targets placed) a w was = absurd w
  turned_then work s r (Committed t) a w was = absurd w
  turned_then work (Abandon u) reply.Done (Owes t) a w was = quiet Ended tt was.bounded was.falls
  turned_then work (Abandon u) _ (Owes t) a w was = absurd a
  turned_then work _ r (Owes t) a w was = absurd w
  turned_then work (Read (reader.Pin q) number offset len) (reply.Piece bytes) (Reads pin files at) a w was =
      quiet (after_piece pin files (at + len)) (piece_runs pin files (at + len)) was.bounded was.falls
  turned_then work (Read (reader.Pin q) number offset len) reply.Fault (Reads pin files at) a w was = quiet (Leaves pin) tt was.bounded was.falls
  turned_then work (Read (reader.Pin q) number offset len) (reply.Damaged name cause) (Reads pin files at) a w was = quiet (Leaves pin) tt was.bounded was.falls
  turned_then work (Read (reader.Pin q) number offset len) _ (Reads pin files at) a w was = absurd a
  turned_then work (Unpin q) reply.Done (Reads pin files at) a w was = quiet Ended tt was.bounded was.falls
  turned_then work (Unpin q) _ (Reads pin files at) a w was = absurd a
  turned_then work _ r (Reads pin files at) a w was = absurd w
  turned_then work (Unpin q) reply.Done (Leaves pin) a w was = quiet Ended tt was.bounded was.falls
  turned_then work (Unpin q) _ (Leaves pin) a w was = absurd a
  turned_then work _ r (Leaves pin) a w was = absurd w
  turned_then work s r Ended a w was = absurd w

-- ---- a history

-- the job of the last entry is so far
abbrev LastJob : Table → History → Type 0
LastJob A [] = Unit {0}
LastJob A (e ∷ H) = IsTurned (phase (own e.job (e ∷ H))) (greatest_time A (e ∷ H)) (completed_instants A (e ∷ H))

-- the phase of a job whose turn it is
its_turn : (A : Table) (job : Job) (H : History) → IsItsTurn job H → LastJob A H → completed_instants A [] ≡ [] → IsTurned (phase (own job H)) (greatest_time A H) (completed_instants A H)
its_turn A job [] turn last empty = subst (IsTurned Fresh A.last) (sym empty) (record { runs = tt; bounded = tt; falls = tt })
its_turn A job (x ∷ H) (inl same) last empty = subst (λ k. IsTurned (phase (own k (x ∷ H))) (greatest_time A (x ∷ H)) (completed_instants A (x ∷ H))) same last
its_turn A job (x ∷ H) (inr none) last empty =
    subst (λ es. IsTurned (phase es) (greatest_time A (x ∷ H)) (completed_instants A (x ∷ H))) (sym none) (record { runs = tt; bounded = last.bounded; falls = last.falls })

last_job : (work : Work) (props : Properties) (H : History) → IsLegal work (fresh props) H → IsInTurn H → LastJob (fresh props) H
last_job work props [] legal turn = tt
last_job work props (e ∷ H) legal turn =
    let was = its_turn (fresh props) e.job H turn.0 (last_job work props H legal.0 turn.1) refl in
    subst (λ es. IsTurned (phase es) (greatest_time (fresh props) (e ∷ H)) (completed_instants (fresh props) (e ∷ H)))
    (sym (ap (λ b. cond b (e ∷ own e.job H) (own e.job H)) (job_itself e.job)))
    (turned_then (fresh props) H e.job work e.step e.reply (phase (own e.job H)) legal.1.answers legal.2 was)

-- of the job whose turn it is
pub turned : (work : Work) (props : Properties) (H : History) (job : Job) → IsLegal work (fresh props) H → IsInTurn H → IsItsTurn job H
    → IsTurned (phase (own job H)) (greatest_time (fresh props) H) (completed_instants (fresh props) H)
turned work props H job legal turn its = its_turn (fresh props) job H its (last_job work props H legal turn) refl

-- completed times fall
pub completed_fall : (work : Work) (props : Properties) (H : History) → IsLegal work (fresh props) H → IsInTurn H → Falls (completed_instants (fresh props) H)
completed_fall work props [] legal turn = tt
completed_fall work props (e ∷ H) legal turn = (last_job work props (e ∷ H) legal turn).falls

-- an append goes to the instant that was drawn last
pub appends_last : (work : Work) (props : Properties) (H : History) (job : Job) (t target writes : ℕ) (bytes : List ℕ) → IsLegal work (fresh props) H → IsInTurn H → IsItsTurn job H
    → Allows work job (phase (own job H)) (Append t target writes bytes) → t ≡ greatest_time (fresh props) H
appends_last work props H job t target writes bytes legal turn its allowed = by (phase (own job H)) allowed (turned work props H job legal turn its)
  where
    by : (p : Phase) → Allows work job p (Append t target writes bytes) → IsTurned p (greatest_time (fresh props) H) (completed_instants (fresh props) H) → t ≡ greatest_time (fresh props) H
    by (Writes u targets placed) allowed was = allowed.0 ∙ was.runs.0
    by _ allowed was = absurd allowed
