-- How the steps change the instants: a step without an operation, and the steps that make a file of the timeline.
use Rattle.std.proofs.Common.{◌≡◌, ◌⊎◌, inl, inr, ◌<◌, ◌≤◌, ◌==◌, ℕ, Bool, true, false, cond, [], ◌∷◌, Option, Some, None, option_map, max, refl, sym, ap, ◌∙◌, subst, arith}
use Rattle.std.specs.Prelude.{nat_le}
use Rattle.std.proofs.lemmas.Bool.Decides.{nat_tests}
use Rattle.hudi_base.specs.InstantTime.{first_time}
use Rattle.commit_meta.specs.declared.meta.Meta.TheVariants as said_by
use Rattle.file_names.specs.declared.file_name.Action.{Action}
use Rattle.file_names.specs.declared.file_name.Action.TheVariants.{Delta}
use Rattle.file_names.specs.declared.file_name.State.{State}
use Rattle.file_names.specs.declared.file_name.State.TheVariants.{Requested, Inflight, Completed}
use Rattle.table_history.specs.After.{after_history, greatest_in}
use Rattle.table_history.specs.Concerns.{IsOpened}
use Rattle.table_history.specs.Histories.{History}
use Rattle.table_history.specs.Instants.{instant_of, completions, begun, failed, abandoned}
use Rattle.table_history.specs.Metadata.{metadata, writes_among, written}
use Rattle.table_history.specs.Tables.{Table, Instant, instant_at}
use Rattle.table_history.specs.Times.{greatest_time, time_drawn}
use Rattle.table_history.specs.declared.entry.Entry.{Entry}
use Rattle.table_history.specs.declared.job.Job.{Job}
use Rattle.table_history.proofs.Bounds.{undrawn}
use Rattle.table_images.specs.Timeline.{HasReached, has_reached}
use Rattle.table_images.proofs.Lines.{IsChanged, change, none_some, some_same, at_after, first_least, greatest_least}

-- ---- a step that does no more than end what an instant may still do

-- the instant may do no more than before, and is the same besides
pub record IsNoMore (old new : Instant) : Type 0 where
  pub action : new.action ≡ old.action
  pub state : new.state ≡ old.state
  pub targets : new.targets ≡ old.targets
  pub blocks : new.blocks ≡ old.blocks
  pub checkpoint : new.checkpoint ≡ old.checkpoint
  pub start : new.start ≡ old.start
  pub finished : new.finished ≡ old.finished
  pub owner : (job : Job) → new.owner ≡ Some job → old.owner ≡ Some job
  pub failed : new.failed ≡ false → old.failed ≡ false

pub same_instant : (i : Instant) → IsNoMore i i
same_instant i = record { action = refl; state = refl; targets = refl; blocks = refl; checkpoint = refl; start = refl; finished = refl; owner = λ job is. is; failed = λ is. is }

pub no_more-failed : (i : Instant) → IsNoMore i (failed i)
no_more-failed i = record { action = refl; state = refl; targets = refl; blocks = refl; checkpoint = refl; start = refl; finished = refl; owner = λ job is. is; failed = λ is. let wrong : true ≡ false = is in cc }

pub no_more-abandoned : (i : Instant) → IsNoMore i (abandoned i)
no_more-abandoned i = record { action = refl; state = refl; targets = refl; blocks = refl; checkpoint = refl; start = refl; finished = refl; owner = λ job is. absurd (none_some is); failed = λ is. is }

-- the instant is of the same action and in the same state, began as it did, and what its files say is the same
pub record IsSameStage (old new : Instant) : Type 0 where
  pub action : new.action ≡ old.action
  pub state : new.state ≡ old.state
  pub start : new.start ≡ old.start
  pub said : (s : State) → has_reached old.state s ≡ true → metadata new s ≡ metadata old s

-- metadata tells of the targets, the blocks and the checkpoint alone
pub same_metadata : (old new : Instant) → new.targets ≡ old.targets → new.blocks ≡ old.blocks → new.checkpoint ≡ old.checkpoint → (s : State) → metadata new s ≡ metadata old s
same_metadata old new targets blocks checkpoint Requested = refl
same_metadata old new targets blocks checkpoint Inflight = ap said_by.Claims targets
same_metadata old new targets blocks checkpoint Completed =
    λ i. said_by.Delta (record { checkpoint = checkpoint i; groups = written (λ target. writes_among target (blocks i)) 0 (targets i) })

pub stage : (old new : Instant) → IsNoMore old new → IsSameStage old new
stage old new less = record {
  action = less.action;
  state = less.state;
  start = less.start;
  said = λ s reached. same_metadata old new less.targets less.blocks less.checkpoint s;
}

module _ (Related : Instant → Instant → Type 0) where
  pub record WasInstant (before : Option Instant) (found : Instant) : Type 0 where
    pub old : Instant
    pub was : before ≡ Some old
    pub same : Related old found

  pub record IsInstant (after : Option Instant) (old : Instant) : Type 0 where
    pub found : Instant
    pub is : after ≡ Some found
    pub same : Related old found

  -- the instants are those that were there, and each is related to what it was
  pub record KeepsLine (A : Table) (H K : History) : Type 0 where
    pub old : (t : ℕ) (found : Instant) → instant_of A K t ≡ Some found → WasInstant (instant_of A H t) found
    pub new : (t : ℕ) (old : Instant) → instant_of A H t ≡ Some old → IsInstant (instant_of A K t) old

pub line_weaker : (P Q : Instant → Instant → Type 0) → ((i j : Instant) → P i j → Q i j) → (A : Table) (H K : History) → KeepsLine P A H K → KeepsLine Q A H K
line_weaker P Q less A H K line = record {
  old = λ t found is. let was = line.old t found is in record { old = was.old; was = was.was; same = less was.old found was.same };
  new = λ t old is. let now = line.new t old is in record { found = now.found; is = now.is; same = less old now.found now.same };
}

pub line_same : (A : Table) (H K : History) → ((t : ℕ) → instant_of A K t ≡ instant_of A H t) → KeepsLine IsNoMore A H K
line_same A H K same = record {
  old = λ t found is. record { old = found; was = sym (same t) ∙ is; same = same_instant found };
  new = λ t old is. record { found = old; is = same t ∙ is; same = same_instant old };
}

pub line_changed : (P : Instant → Instant → Type 0) (A : Table) (H K : History) (t : ℕ) (f : Instant → Instant) → ((i : Instant) → P i i) → ((i : Instant) → instant_of A H t ≡ Some i → P i (f i))
    → ((u : ℕ) → instant_of A K u ≡ cond (t == u) (option_map f (instant_of A H u)) (instant_of A H u)) → KeepsLine P A H K
line_changed P A H K t f itself less same = record { old = old; new = new }
  where
    old : (u : ℕ) (found : Instant) → instant_of A K u ≡ Some found → WasInstant P (instant_of A H u) found
    old u found is = by_change (change t u f (instant_of A H u) found (sym (same u) ∙ is))
      where
        by_change : IsChanged t u f (instant_of A H u) found → WasInstant P (instant_of A H u) found
        by_change changed = record { old = changed.old; was = changed.was; same = by_case changed.by }
          where
            by_case : ((t ≡ u) × (found ≡ f changed.old)) ⊎ ((t ≡ u → ⊥) × (found ≡ changed.old)) → P changed.old found
            by_case (inl here) = subst (P changed.old) (sym here.1) (less changed.old (ap (instant_of A H) here.0 ∙ changed.was))
            by_case (inr other) = subst (P changed.old) (sym other.1) (itself changed.old)

    new : (u : ℕ) (i : Instant) → instant_of A H u ≡ Some i → IsInstant P (instant_of A K u) i
    new u i is = by_test (t == u) refl (same u ∙ ap (λ o. cond (t == u) (option_map f o) o) is)
      where
        one : (t == u) ≡ true → t ≡ u
        one test = grind (arith, nat_tests)

        by_test : (b : Bool) → (t == u) ≡ b → instant_of A K u ≡ cond b (Some (f i)) (Some i) → IsInstant P (instant_of A K u) i
        by_test true test e = record { found = f i; is = e; same = less i (ap (instant_of A H) (one test) ∙ is) }
        by_test false test e = record { found = i; is = e; same = itself i }

pub line_less : (A : Table) (H K : History) (t : ℕ) (f : Instant → Instant) → ((i : Instant) → IsNoMore i (f i))
    → ((u : ℕ) → instant_of A K u ≡ cond (t == u) (option_map f (instant_of A H u)) (instant_of A H u)) → KeepsLine IsNoMore A H K
line_less A H K t f less same = line_changed IsNoMore A H K t f same_instant (λ i at. less i) same

-- ---- a step that makes a file of the timeline

-- the instant t of an action has come to a state
pub record Advances (A : Table) (H K : History) (t : ℕ) (s : State) (found : Instant) : Type 0 where
  pub at : instant_of A K t ≡ Some found
  pub action : found.action ≡ Delta
  pub state : found.state ≡ s
  pub others : (u : ℕ) → (t ≡ u → ⊥) → instant_of A K u ≡ instant_of A H u
  pub before : (action : Action) (r : State) → HasReached (instant_of A H t) action r → HasReached (instant_of A K t) action r
  pub after : (action : Action) (r : State) → HasReached (instant_of A K t) action r → ((action ≡ Delta) × (r ≡ s)) ⊎ HasReached (instant_of A H t) action r
  -- what its earlier files say is the same
  pub said : (i : Instant) → instant_of A H t ≡ Some i → (r : State) → has_reached i.state r ≡ true → metadata found r ≡ metadata i r
  -- and what was completed is another one
  pub pending : (i : Instant) → instant_of A H t ≡ Some i → i.state ≡ Completed → ⊥

not_itself : (t u : ℕ) → (t ≡ u → ⊥) → (t == u) ≡ false
not_itself t u apart = by_test (t == u) refl
  where
    by_test : (b : Bool) → (t == u) ≡ b → (t == u) ≡ false
    by_test true is = absurd (apart (grind (arith, nat_tests)))
    by_test false is = is

itself : (t : ℕ) → (t == t) ≡ true
itself t = grind (arith, nat_tests)

pub advances_begun : (A : Table) (H : History) (e : Entry) (t : ℕ) (job : Job) → instant_of A H t ≡ None
    → ((u : ℕ) → instant_of A (e ∷ H) u ≡ cond (t == u) (Some (begun job (completions A H))) (instant_of A H u)) → Advances A H (e ∷ H) t Requested (begun job (completions A H))
advances_begun A H e t job none same = record {
  at = here;
  action = refl;
  state = refl;
  others = λ u apart. same u ∙ ap (λ b. cond b (Some (begun job (completions A H))) (instant_of A H u)) (not_itself t u apart);
  before = λ action r reached. absurd (subst (λ (o : Option Instant). HasReached o action r) none reached);
  after = λ action r reached. inl (first action r (subst (λ (o : Option Instant). HasReached o action r) here reached));
  said = λ i is r reached. absurd (none_some (sym none ∙ is));
  pending = λ i is done. absurd (none_some (sym none ∙ is));
}
  where
    here : instant_of A (e ∷ H) t ≡ Some (begun job (completions A H))
    here = same t ∙ ap (λ b. cond b (Some (begun job (completions A H))) (instant_of A H t)) (itself t)

    first : (action : Action) (r : State) → (Delta ≡ action) × (has_reached Requested r ≡ true) → (action ≡ Delta) × (r ≡ Requested)
    first action Requested reached = (sym reached.0, refl)
    first action Inflight reached = let wrong : false ≡ true = reached.1 in absurd cc
    first action Completed reached = let wrong : false ≡ true = reached.1 in absurd cc

-- from requested to inflight, and from inflight to completed
abbrev pub IsNextState : State → State → Type 0
IsNextState Requested Inflight = Unit {0}
IsNextState Inflight Completed = Unit {0}
IsNextState _ _ = ⊥

reached_more : (from to r : State) → IsNextState from to → has_reached from r ≡ true → has_reached to r ≡ true
reached_more Requested Inflight Requested next is = refl
reached_more Requested Inflight Inflight next is = refl
reached_more Requested Inflight Completed next is = is
reached_more Inflight Completed r next is = refl
reached_more _ _ r next is = absurd next

reached_less : (from to r : State) → IsNextState from to → has_reached to r ≡ true → (r ≡ to) ⊎ (has_reached from r ≡ true)
reached_less Requested Inflight Requested next is = inr refl
reached_less Requested Inflight Inflight next is = inl refl
reached_less Requested Inflight Completed next is = let wrong : false ≡ true = is in absurd cc
reached_less Inflight Completed Requested next is = inr refl
reached_less Inflight Completed Inflight next is = inr refl
reached_less Inflight Completed Completed next is = inl refl
reached_less _ _ r next is = absurd next

not_done : (from to : State) → IsNextState from to → from ≡ Completed → ⊥
not_done Requested Inflight next is = let wrong : has_reached Requested Completed ≡ true = ap (λ s. has_reached s Completed) is in cc
not_done Inflight Completed next is = let wrong : has_reached Inflight Completed ≡ true = ap (λ s. has_reached s Completed) is in cc
not_done _ _ next is = absurd next

pub advances_changed : (A : Table) (H : History) (e : Entry) (t : ℕ) (f : Instant → Instant) (i : Instant) (to : State) → instant_of A H t ≡ Some i → i.action ≡ Delta → IsNextState i.state to
    → (f i).action ≡ i.action → (f i).state ≡ to → ((r : State) → has_reached i.state r ≡ true → metadata (f i) r ≡ metadata i r)
    → ((u : ℕ) → instant_of A (e ∷ H) u ≡ cond (t == u) (option_map f (instant_of A H u)) (instant_of A H u)) → Advances A H (e ∷ H) t to (f i)
advances_changed A H e t f i to is delta next action came said same = record {
  at = here;
  action = action ∙ delta;
  state = came;
  others = λ u apart. same u ∙ ap (λ b. cond b (option_map f (instant_of A H u)) (instant_of A H u)) (not_itself t u apart);
  before = λ a r reached. subst (λ (o : Option Instant). HasReached o a r) (sym here) (further a r (subst (λ (o : Option Instant). HasReached o a r) is reached));
  after = λ a r reached. back a r (subst (λ (o : Option Instant). HasReached o a r) here reached);
  said = λ j at r reached.
      let one : j ≡ i = some_same (sym at ∙ is) in
      said r (ap (λ (k : Instant). has_reached k.state r) (sym one) ∙ reached) ∙ ap (λ (k : Instant). metadata k r) (sym one);
  pending = λ j at done. not_done i.state to next (ap (λ (k : Instant). k.state) (some_same (sym is ∙ at)) ∙ done);
}
  where
    here : instant_of A (e ∷ H) t ≡ Some (f i)
    here = same t ∙ ap (λ b. cond b (option_map f (instant_of A H t)) (instant_of A H t)) (itself t) ∙ ap (option_map f) is

    further : (a : Action) (r : State) → HasReached (Some i) a r → HasReached (Some (f i)) a r
    further a r reached = (action ∙ reached.0, ap (λ s. has_reached s r) came ∙ reached_more i.state to r next reached.1)

    back : (a : Action) (r : State) → HasReached (Some (f i)) a r → ((a ≡ Delta) × (r ≡ to)) ⊎ HasReached (instant_of A H t) a r
    back a r reached = by_case (reached_less i.state to r next (ap (λ s. has_reached s r) (sym came) ∙ reached.1))
      where
        by_case : (r ≡ to) ⊎ (has_reached i.state r ≡ true) → ((a ≡ Delta) × (r ≡ to)) ⊎ HasReached (instant_of A H t) a r
        by_case (inl last) = inl (sym reached.0 ∙ action ∙ delta, last)
        by_case (inr old) = inr (subst (λ (o : Option Instant). HasReached o a r) (sym is) (sym action ∙ reached.0, old))

pub number_cases : (t u : ℕ) → (t ≡ u) ⊎ (t ≡ u → ⊥)
number_cases t u = by_test (t == u) refl
  where
    by_test : (b : Bool) → (t == u) ≡ b → (t ≡ u) ⊎ (t ≡ u → ⊥)
    by_test true is = inl (grind (arith, nat_tests))
    by_test false isnt = inr (λ same. grind (arith, nat_tests))

-- ---- the greatest time

greatest_time-least : (A : Table) (H : History) → A.last ≤ greatest_time A H
greatest_time-least A [] = omega arith
greatest_time-least A (e ∷ H) = upto (greatest_time-least A H)
  where
    upto : A.last ≤ greatest_time A H → A.last ≤ max (greatest_time A H) (time_drawn e.reply)
    upto le = omega (arith, le)

first_upto : (A : Table) → greatest_in A.instants ≤ A.last → first_time ≤ A.last
first_upto A last = let first = first_least A.instants in omega (arith, first, last)

pub le_or_lt : (a b : ℕ) → (a ≤ b) ⊎ (b < a)
le_or_lt a b = by_test (nat_le a b) refl
  where
    by_test : (t : Bool) → nat_le a b ≡ t → (a ≤ b) ⊎ (b < a)
    by_test true is = inl (grind (arith, nat_tests))
    by_test false isnt = inr (grind (arith, nat_tests))

pub greatest_was : (A : Table) (H : History) → IsOpened A → greatest_in A.instants ≤ A.last → greatest_in (after_history A H).instants ≤ greatest_time A H
greatest_was A H opened last = greatest_least (after_history A H).instants (greatest_time A H) first all
  where
    first : first_time ≤ greatest_time A H
    first = let a = first_upto A last in let b = greatest_time-least A H in omega (arith, a, b)

    all : (t : ℕ) (i : Instant) → instant_at (after_history A H).instants t ≡ Some i → t ≤ greatest_time A H
    all t i is = by_order (le_or_lt t (greatest_time A H))
      where
        by_order : (t ≤ greatest_time A H) ⊎ (greatest_time A H < t) → t ≤ greatest_time A H
        by_order (inl le) = le
        by_order (inr above) = absurd (none_some (sym (undrawn A H opened t above) ∙ sym (at_after A H t) ∙ is))
