-- A completed instant stays as it is.
use Rattle.std.proofs.Common.{◌≡◌, ℕ, Bool, true, false, cond, ◌||◌, List, [], ◌∷◌, ◌++◌, Option, Some, None, option_map, refl, sym, ap, subst, ◌∙◌}
use Rattle.std.specs.Prelude.{◌==◌, IsSomeAnd, nat_lt}
use Rattle.std.specs.List.{AllByRecursion, list_any}
use Rattle.table_history.specs.Answers.{Answers, May, Owns, is_completed}
use Rattle.table_history.specs.Concerns.{concerns}
use Rattle.table_history.specs.Histories.{History}
use Rattle.table_history.specs.Instants.{completed_instants, completions, instant_of}
use Rattle.table_history.specs.Instants.{completed as completed_with}
use Rattle.table_history.specs.JobLaw.{Work, IsLegal}
use Rattle.table_history.specs.Tables.{Instant, Table, fresh}
use Rattle.table_history.specs.Times.{insert_time}
use Rattle.table_history.specs.declared.entry.Entry.{Entry}
use Rattle.table_history.specs.declared.job.Job.{Job}
use Rattle.table_history.specs.declared.reply.Reply.{Reply}
use Rattle.table_history.specs.declared.reply.Reply.TheVariants as reply
use Rattle.table_history.specs.declared.step.Reader.TheVariants as reader
use Rattle.table_history.specs.declared.step.Step.{Step}
use Rattle.table_history.specs.declared.step.Step.TheVariants.{Begin, Enter, Append, Finish, Pin, Unpin, Read, Abandon}
use Rattle.table_history.proofs.Apart.{instant_of-apart}
use Rattle.table_history.proofs.Bounds.{number, same_number, undrawn}
use Rattle.table_images.proofs.SameLogs.{entry}
use Rattle.upsert_writer.specs.Blocks.{BlockForm}
use Rattle.table_answers.specs.InstantWrites.{instant_writes, writes_of}
use Rattle.table_answers.proofs.Writes.{fresh_opened}
use Rattle.table_props.specs.PropsTexts.{Told as Properties}

-- it is there, and nobody's
pub record IsClosed (A : Table) (H : History) (t : ℕ) : Type 0 where
  pub i : Instant
  pub is : instant_of A H t ≡ Some i
  pub closed : i.owner ≡ None

never : (b : Bool) → (b ≡ true → ⊥) → b ≡ false
never true wrong = absurd (wrong refl)
never false wrong = refl

none_some : (i : Instant) → None ≡ Some i → ⊥
none_some i e = cc

owned_some : (j : Job) → None ≡ Some j → ⊥
owned_some j e = cc

module _ (props : Properties) (H : History) (t : ℕ) (was : IsClosed (fresh props) H t) where
  abbrev A : Table
  A = fresh props

  -- nobody may go on with it
  not_owned : (j : Job) (u : ℕ) (P : Instant → Type 0) → Owns A H j u P → (u == t) ≡ false
  not_owned j u P owns = never (u == t) (λ here.
      let mine : IsSomeAnd (Some was.i) (λ i. (i.owner ≡ Some j) × P i) = subst (λ (o : Option Instant). IsSomeAnd o (λ i. (i.owner ≡ Some j) × P i)) (ap (instant_of A H) (number u t here) ∙ was.is) owns in
      owned_some j (sym was.closed ∙ mine.0))

  not_concerned : (j : Job) (s : Step) (r : Reply) → May A H j s → Answers A H s r → concerns s r t ≡ false
  not_concerned j Begin (reply.Began u) may answers =
      never (u == t) (λ here. none_some was.i (sym (undrawn A H (fresh_opened props) u answers) ∙ ap (instant_of A H) (number u t here) ∙ was.is))
  not_concerned j (Enter u slots) r may answers = not_owned j u _ may.0
  not_concerned j (Append u target writes bytes) r may answers = not_owned j u _ may
  not_concerned j (Finish u checkpoint) r may answers = not_owned j u _ may
  not_concerned j (Abandon u) r may answers = not_owned j u _ may
  not_concerned j s r may answers = refl

  pub same_instant : (e : Entry) → May A H e.job e.step → Answers A H e.step e.reply → instant_of A (e ∷ H) t ≡ instant_of A H t
  same_instant e may answers = instant_of-apart A H e t (not_concerned e.job e.step e.reply may answers)

  pub closed_still : (e : Entry) → May A H e.job e.step → Answers A H e.step e.reply → IsClosed A (e ∷ H) t
  closed_still e may answers = record { i = was.i; is = same_instant e may answers ∙ was.is; closed = was.closed }

-- ---- all completed instants

abbrev AllClosed : Table → History → List ℕ → Type 0
AllClosed A H us = AllByRecursion (IsClosed A H) us

all_still : (props : Properties) (H : History) (e : Entry) (us : List ℕ) → May (fresh props) H e.job e.step → Answers (fresh props) H e.step e.reply → AllClosed (fresh props) H us → AllClosed (fresh props) (e ∷ H) us
all_still props H e [] may answers all = tt
all_still props H e (u ∷ us) may answers all = (closed_still props H u all.0 e may answers, all_still props H e us may answers all.1)

all_with : (P : ℕ → Type 0) (v : ℕ) (us : List ℕ) → P v → AllByRecursion P us → AllByRecursion P (insert_time v us)
all_with P v [] one all = (one, tt)
all_with P v (u ∷ us) one all = by (nat_lt u v) (all_with P v us one all.1)
  where
    by : (b : Bool) → AllByRecursion P (insert_time v us) → AllByRecursion P (cond b (v ∷ u ∷ us) (u ∷ insert_time v us))
    by true rest = (one, all)
    by false rest = (all.0, rest)

closed_now : (A : Table) (H : History) (j : Job) (u v : ℕ) (checkpoint : _) (P : Instant → Type 0) → v ≡ u → Owns A H j u P → IsClosed A (entry j (Finish u checkpoint) (reply.Completed v) ∷ H) v
closed_now A H j u v checkpoint P same owns = by (instant_of A H v) refl (subst (λ n. Owns A H j n P) (sym same) owns)
  where
    by : (o : Option Instant) → instant_of A H v ≡ o → IsSomeAnd o (λ i. (i.owner ≡ Some j) × P i) → IsClosed A (entry j (Finish u checkpoint) (reply.Completed v) ∷ H) v
    by None is mine = absurd mine
    by (Some i) is mine = record {
      i = completed_with (completions A H) checkpoint i;
      is = ap (λ b. cond b (option_map (completed_with (completions A H) checkpoint) (instant_of A H v)) (instant_of A H v)) (same_number u v (sym same)) ∙ ap (option_map (completed_with (completions A H) checkpoint)) is;
      closed = refl;
    }

closed_then : (props : Properties) (H : History) (j : Job) (s : Step) (r : Reply) → May (fresh props) H j s → Answers (fresh props) H s r → AllClosed (fresh props) H (completed_instants (fresh props) H)
    → AllClosed (fresh props) (entry j s r ∷ H) (completed_instants (fresh props) (entry j s r ∷ H))
closed_then props H j (Finish u checkpoint) (reply.Completed v) may answers all =
    all_with (IsClosed (fresh props) (entry j (Finish u checkpoint) (reply.Completed v) ∷ H)) v (completed_instants (fresh props) H) (closed_now (fresh props) H j u v checkpoint _ answers may)
    (all_still props H (entry j (Finish u checkpoint) (reply.Completed v)) (completed_instants (fresh props) H) may answers all)
closed_then props H j Begin (reply.Completed v) may answers all = absurd answers
closed_then props H j (Enter u slots) (reply.Completed v) may answers all = absurd answers
closed_then props H j (Append u target writes bytes) (reply.Completed v) may answers all = absurd answers
closed_then props H j (Pin None bases_only) (reply.Completed v) may answers all = absurd answers
closed_then props H j (Pin (Some t) bases_only) (reply.Completed v) may answers all = absurd answers
closed_then props H j (Unpin pin) (reply.Completed v) may answers all = absurd answers
closed_then props H j (Read (reader.Pin q) file offset len) (reply.Completed v) may answers all = absurd answers
closed_then props H j (Abandon u) (reply.Completed v) may answers all = absurd answers
closed_then props H j s r may answers all = all_still props H (entry j s r) (completed_instants (fresh props) H) may answers all

all_closed : (work : Work) (props : Properties) (H : History) → IsLegal work (fresh props) H → AllClosed (fresh props) H (completed_instants (fresh props) H)
all_closed work props [] legal = tt
all_closed work props (e ∷ H) legal = closed_then props H e.job e.step e.reply legal.1.may legal.1.answers (all_closed work props H legal.0)

among : (P : ℕ → Type 0) (t : ℕ) (us : List ℕ) → list_any (λ u. u == t) us ≡ true → AllByRecursion P us → P t
among P t [] is all = let wrong : false ≡ true = is in absurd (not_true wrong)
  where
    not_true : false ≡ true → ⊥
    not_true e = cc
among P t (u ∷ us) is all = by (u == t) refl is (λ rest. among P t us rest all.1)
  where
    by : (b : Bool) → (u == t) ≡ b → (b || list_any (λ v. v == t) us) ≡ true → (list_any (λ v. v == t) us ≡ true → P t) → P t
    by true here any rest = subst P (number u t here) all.0
    by false other any rest = rest any

-- ---- further entries

pub or_true : (a b : Bool) → b ≡ true → (a || b) ≡ true
or_true true b h = refl
or_true false b h = h

still_among : (v t : ℕ) (us : List ℕ) → list_any (λ u. u == t) us ≡ true → list_any (λ u. u == t) (insert_time v us) ≡ true
still_among v t [] is = or_true (v == t) false is
still_among v t (u ∷ us) is = by (nat_lt u v) (λ rest. still_among v t us rest)
  where
    first : (b : Bool) → (u == t) ≡ b → (b || list_any (λ w. w == t) us) ≡ true → (list_any (λ w. w == t) us ≡ true → list_any (λ w. w == t) (insert_time v us) ≡ true)
        → (b || list_any (λ w. w == t) (insert_time v us)) ≡ true
    first true here any rest = refl
    first false other any rest = rest any

    by : (b : Bool) → (list_any (λ w. w == t) us ≡ true → list_any (λ w. w == t) (insert_time v us) ≡ true) → list_any (λ w. w == t) (cond b (v ∷ u ∷ us) (u ∷ insert_time v us)) ≡ true
    by true rest = or_true (v == t) (list_any (λ w. w == t) (u ∷ us)) is
    by false rest = first (u == t) refl is rest

completed_still : (A : Table) (H : History) (j : Job) (s : Step) (r : Reply) (t : ℕ) → is_completed A H t ≡ true → is_completed A (entry j s r ∷ H) t ≡ true
completed_still A H j s (reply.Completed v) t is = still_among v t (completed_instants A H) is
completed_still A H j s r t is = is

pub completed_stay : (work : Work) (props : Properties) (H : History) (t : ℕ) (more : List Entry) → IsLegal work (fresh props) (more ++ H) → is_completed (fresh props) H t ≡ true → is_completed (fresh props) (more ++ H) t ≡ true
completed_stay work props H t [] legal is = is
completed_stay work props H t (e ∷ more) legal is = completed_still (fresh props) (more ++ H) e.job e.step e.reply t (completed_stay work props H t more legal.0 is)

pub writes_stay : (work : Work) (form : BlockForm) (props : Properties) (H : History) (t : ℕ) (more : List Entry) → IsLegal work (fresh props) (more ++ H) → is_completed (fresh props) H t ≡ true
    → writes_of form (fresh props) (more ++ H) t ≡ writes_of form (fresh props) H t
writes_stay work form props H t [] legal is = refl
writes_stay work form props H t (e ∷ more) legal is =
    let closed : IsClosed (fresh props) (more ++ H) t =
    among (IsClosed (fresh props) (more ++ H)) t (completed_instants (fresh props) (more ++ H)) (completed_stay work props H t more legal.0 is) (all_closed work props (more ++ H) legal.0) in
    ap (instant_writes form) (same_instant props (more ++ H) t closed e legal.1.may legal.1.answers) ∙ writes_stay work form props H t more legal.0 is
