-- In a table that began without instants all blocks go to current slices of live groups.
use Rattle.std.proofs.Common.{◌≡◌, ◌<◌, ℕ, zero, suc, Bool, true, false, cond, ◌&&◌, List, [], ◌∷◌, map, length, Option, Some, None, option_map, slice_get, refl, sym, ap, subst, ◌∙◌, arith}
use Rattle.std.specs.Prelude.{◌==◌, IsSomeAnd}
use Rattle.std.specs.Option.{option_map_or}
use Rattle.std.specs.List.{AllByRecursion}
use Rattle.hudi_base.specs.declared.file_group.GroupRef.{GroupRef}
use Rattle.hudi_base.specs.declared.file_group.Target.{Target}
use Rattle.key_index.proofs.FirstTiles.{each-among}
use Rattle.file_names.specs.declared.file_name.State.TheVariants as state
use Rattle.table_history.specs.Answers.{Answers, May, Owns}
use Rattle.table_history.specs.Histories.{History}
use Rattle.table_history.specs.Instants.{instant_after, instant_of, completions, begun, entered, with_block, completed, failed, abandoned}
use Rattle.table_history.specs.JobLaw.{Work, IsLegal}
use Rattle.table_history.specs.Logs.{target_at}
use Rattle.table_history.specs.Tables.{Table, Instant, fresh}
use Rattle.table_history.specs.Targets.{AreTargets, is_asked, is_live, target_of_group}
use Rattle.table_history.specs.declared.job.Job.{Job}
use Rattle.table_history.specs.declared.reply.Reply.{Reply}
use Rattle.table_history.specs.declared.reply.Reply.TheVariants as reply
use Rattle.table_history.specs.declared.step.PartitionSlots.{PartitionSlots}
use Rattle.table_history.specs.declared.step.Step.{Step}
use Rattle.table_history.specs.declared.step.Step.TheVariants.{Begin, Enter, Append, Finish, Abandon}
use Rattle.table_history.proofs.Bounds.{number}
use Rattle.table_props.specs.PropsTexts.{Told as Properties}

-- the current slice of a live group
pub record IsOwn (A : Table) (s : Target) : Type 0 where
  pub live : is_live A s.group ≡ true
  pub slice : s ≡ target_of_group s.group

abbrev pub AreOwn : Table → List Target → Type 0
AreOwn A targets = AllByRecursion (IsOwn A) targets

both : (a b : Bool) → (a && b) ≡ true → (a ≡ true) × (b ≡ true)
both true b h = (refl, h)
both false b h = (h, cc)

own_each : (A : Table) (gs : List GroupRef) → AllByRecursion (λ g. is_live A g ≡ true) gs → AreOwn A (map target_of_group gs)
own_each A [] all = tt
own_each A (g ∷ gs) all = (record { live = all.0; slice = refl }, own_each A gs all.1)

-- such are the targets that a deltacommit enters with
pub of_slots : (A : Table) (slots : List PartitionSlots) (targets : List Target) → AreTargets A slots targets → AreOwn A targets
of_slots A slots targets are =
    subst (AreOwn A) (sym are.are)
    (own_each A are.groups (each-among (λ g. is_live A g ≡ true) are.groups (λ g among. (both (is_live A g) (is_asked slots g) (sym (are.live.are g) ∙ among)).0)))

-- what is at a number of those is one
pub own_at : (A : Table) (targets : List Target) (number : ℕ) (s : Target) → AreOwn A targets → slice_get targets number ≡ Some s → IsOwn A s
own_at A [] number s all is = absurd (no_some is)
  where
    no_some : None ≡ Some s → ⊥
    no_some e = cc
own_at A (r ∷ targets) zero s all is = let same : r ≡ s = (let there : Some r ≡ Some s = is in cc) in subst (IsOwn A) same all.0
own_at A (r ∷ targets) (suc n) s all is = own_at A targets n s all.1 is

pub get_within : {X : Type 0} (xs : List X) (number : ℕ) → number < length xs → (x : X) × (slice_get xs number ≡ Some x)
get_within [] number below = absurd (omega (arith, below))
get_within (x ∷ xs) zero below = (x, refl)
get_within (x ∷ xs) (suc n) below = get_within xs n (omega (arith, below))

-- ---- each instant

-- its targets are such slices, and while it was only requested it has no block
pub record IsPlain (A : Table) (i : Instant) : Type 0 where
  pub targets : AreOwn A i.targets
  pub blocks : i.state ≡ state.Requested → i.blocks ≡ []

abbrev pub ArePlain : Table → Option Instant → Type 0
ArePlain A None = Unit {0}
ArePlain A (Some i) = IsPlain A i

changed : (A : Table) (t u : ℕ) (f : Instant → Instant) (b : Bool) (o : Option Instant) → (t == u) ≡ b → ((i : Instant) → t ≡ u → o ≡ Some i → IsPlain A i → IsPlain A (f i)) → ArePlain A o
    → ArePlain A (cond b (option_map f o) o)
changed A t u f true None is step plain = tt
changed A t u f false None is step plain = tt
changed A t u f true (Some i) is step plain = step i (number t u is) refl plain
changed A t u f false (Some i) is step plain = plain

plain_begun : (A : Table) (job : Job) (n : ℕ) (b : Bool) (o : Option Instant) → ArePlain A o → ArePlain A (cond b (Some (begun job n)) o)
plain_begun A job n true o plain = record { targets = tt; blocks = λ _. refl }
plain_begun A job n false o plain = plain

not_inflight : state.Inflight ≡ state.Requested → ⊥
not_inflight e = cc

not_completed : state.Completed ≡ state.Requested → ⊥
not_completed e = cc

-- a block goes to an instant that is inflight
with_one : (A : Table) (i : Instant) (target writes : ℕ) (bytes : List ℕ) → i.state ≡ state.Inflight → IsPlain A i → IsPlain A (with_block target writes bytes i)
with_one A i target writes bytes inflight plain = record { targets = plain.targets; blocks = λ requested. absurd (not_inflight (sym inflight ∙ requested)) }

inflight_of : (o : Option Instant) (j : Job) (target : ℕ) (i : Instant) → IsSomeAnd o (λ i. (i.owner ≡ Some j) × ((i.state ≡ state.Inflight) × (target < length i.targets))) → o ≡ Some i → i.state ≡ state.Inflight
inflight_of None j target i owns is = absurd owns
inflight_of (Some k) j target i owns is = let same : k ≡ i = cc in ap (λ (x : Instant). x.state) (sym same) ∙ owns.1.0

-- a change that keeps state, targets and blocks
kept : (A : Table) (f : Instant → Instant) (i : Instant) → (f i).targets ≡ i.targets → (f i).state ≡ i.state → (f i).blocks ≡ i.blocks → IsPlain A i → IsPlain A (f i)
kept A f i targets state_is blocks plain = record { targets = subst (AreOwn A) (sym targets) plain.targets; blocks = λ requested. blocks ∙ plain.blocks (sym state_is ∙ requested) }

module _ (A : Table) (H : History) (j : Job) (u n : ℕ) (plain : ArePlain A (instant_of A H u)) where
  abbrev o : Option Instant
  o = instant_of A H u

  failed_at : (t : ℕ) → ArePlain A (cond (t == u) (option_map failed o) o)
  failed_at t = changed A t u failed (t == u) o refl (λ i same is. kept A failed i refl refl refl) plain

  plain_then : (s : Step) (r : Reply) → May A H j s → Answers A H s r → ArePlain A (instant_after u n j s r o)
  plain_then Begin (reply.Began t) may answers = plain_begun A j n (t == u) o plain
  plain_then (Enter t slots) (reply.Entered targets) may answers =
      changed A t u (entered targets) (t == u) o refl
      (λ i same is before. record { targets = of_slots A slots targets answers; blocks = λ requested. absurd (not_inflight requested) }) plain
  plain_then (Append t target writes bytes) (reply.Placed version at) may answers =
      changed A t u (with_block target writes bytes) (t == u) o refl
      (λ i same is before. with_one A i target writes bytes (inflight_of (instant_of A H t) j target i may (ap (instant_of A H) same ∙ is)) before) plain
  plain_then (Finish t checkpoint) (reply.Completed v) may answers =
      changed A t u (completed n checkpoint) (t == u) o refl
      (λ i same is before. record { targets = before.targets; blocks = λ requested. absurd (not_completed requested) }) plain
  plain_then (Abandon t) reply.Done may answers = changed A t u abandoned (t == u) o refl (λ i same is. kept A abandoned i refl refl refl) plain
  plain_then (Enter t slots) reply.Fault may answers = failed_at t
  plain_then (Enter t slots) (reply.Damaged name cause) may answers = failed_at t
  plain_then (Append t target writes bytes) reply.Fault may answers = failed_at t
  plain_then (Finish t checkpoint) reply.Fault may answers = failed_at t
  plain_then (Finish t checkpoint) (reply.Damaged name cause) may answers = failed_at t
  plain_then s r may answers = plain

pub instants_plain : (work : Work) (props : Properties) (H : History) → IsLegal work (fresh props) H → (u : ℕ) → ArePlain (fresh props) (instant_of (fresh props) H u)
instants_plain work props [] legal u = tt
instants_plain work props (e ∷ H) legal u =
    plain_then (fresh props) H e.job u (completions (fresh props) H) (instants_plain work props H legal.0 u) e.step e.reply legal.1.may legal.1.answers

-- ---- where appends go

pub record IsAppending (A : Table) (H : History) (t target : ℕ) (s : Target) : Type 0 where
  pub i : Instant
  pub is : instant_of A H t ≡ Some i
  pub inflight : i.state ≡ state.Inflight
  pub to : slice_get i.targets target ≡ Some s
  pub own : IsOwn A s

pub appending : (A : Table) (H : History) (j : Job) (t target : ℕ) → ArePlain A (instant_of A H t) → Owns A H j t (λ i. (i.state ≡ state.Inflight) × (target < length i.targets))
    → (s : Target) × IsAppending A H t target s
appending A H j t target = by (instant_of A H t) refl
  where
    by : (o : Option Instant) → instant_of A H t ≡ o → ArePlain A o → IsSomeAnd o (λ i. (i.owner ≡ Some j) × ((i.state ≡ state.Inflight) × (target < length i.targets)))
        → (s : Target) × IsAppending A H t target s
    by None is plain owns = absurd owns
    by (Some i) is plain owns =
        let found = get_within i.targets target owns.1.1 in
        (found.0, record { i = i; is = is; inflight = owns.1.0; to = found.1; own = own_at A i.targets target found.0 plain.targets found.1 })

pub goes_there : (A : Table) (H : History) (t target : ℕ) (s : Target) → IsAppending A H t target s → target_at A H t target ≡ Some s
goes_there A H t target s to = ap (λ (o : Option Instant). slice_get (option_map_or (λ (i : Instant). i.targets) o []) target) to.is ∙ to.to
