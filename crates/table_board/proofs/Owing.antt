-- The steps that are owed: one for each owned instant and each live pin at least.
use Rattle.std.proofs.Common.{◌≡◌, ◌≤◌, ◌+◌, ◌==◌, ℕ, Bool, true, false, cond, List, [], ◌∷◌, length, Option, Some, None, option_map, refl, sym, ap, ◌∙◌, arith}
use Rattle.std.specs.Prelude.{option_and_then, IsSomeAnd}
use Rattle.std.proofs.lemmas.Bool.Decides.{nat_tests}
use Rattle.table_core.specs.ControlTables.{IsLeaving}
use Rattle.table_history.specs.Answers.{May}
use Rattle.table_history.specs.Concerns.{IsOpened}
use Rattle.table_history.specs.Histories.{History}
use Rattle.table_history.specs.Instants.{instant_after, instant_of, owner_of, completions, begun, entered, with_block, completed, failed, abandoned}
use Rattle.table_history.specs.Pins.{pin_after, pin_of}
use Rattle.table_history.specs.Tables.{Table, Instant, instant_at}
use Rattle.table_history.specs.declared.job.Job.{Job}
use Rattle.table_history.specs.declared.reply.Reply.{Reply}
use Rattle.table_history.specs.declared.reply.Reply.TheVariants as reply
use Rattle.table_history.specs.declared.step.Step.{Step}
use Rattle.table_history.specs.declared.step.Step.TheVariants.{Begin, Enter, Append, Finish, Pin, Unpin, Abandon}
use Rattle.table_history.specs.declared.view.LivePin.{LivePin}
use Rattle.table_board.specs.Owed.{is_among, without, owned_after, owned_instants, pins_after, live_pins, owed_steps, owed_after}

-- ---- lists

same_number : (u t : ℕ) → (u == t) ≡ true → u ≡ t
same_number u t h = grind (arith, nat_tests)

one_test : (t u v : ℕ) (b : Bool) (us : List ℕ) → (t == u) ≡ b → (t == v) ≡ false → is_among v us ≡ is_among v (without t us)
    → is_among v (u ∷ us) ≡ is_among v (cond b (without t us) (u ∷ without t us))
one_test t u v true us same apart before =
    let other : (u == v) ≡ false = let is = same_number t u same in grind (arith, nat_tests) in
    rw other before
one_test t u v false us differs apart before = ap (λ b. cond (u == v) true b) before

pub still_among : (t v : ℕ) (us : List ℕ) → (t == v) ≡ false → is_among v us ≡ is_among v (without t us)
still_among t v [] apart = refl
still_among t v (u ∷ us) apart = one_test t u v (t == u) us refl apart (still_among t v us apart)

no_longer : (t u : ℕ) (b : Bool) (us : List ℕ) → length (without t us) ≤ length us → length (cond b (without t us) (u ∷ without t us)) ≤ length (u ∷ us)
no_longer t u true us before = omega arith
no_longer t u false us before = omega arith

without_le : (t : ℕ) (us : List ℕ) → length (without t us) ≤ length us
without_le t [] = omega arith
without_le t (u ∷ us) = no_longer t u (t == u) us (without_le t us)

turned : (t u : ℕ) → (t == u) ≡ (u == t)
turned t u = grind (arith, nat_tests)

shorter : (t u : ℕ) (b : Bool) (us : List ℕ) → length (without t us) ≤ length us → (is_among t us ≡ true → length (without t us) + 1 ≤ length us)
    → cond b true (is_among t us) ≡ true → length (cond b (without t us) (u ∷ without t us)) + 1 ≤ length (u ∷ us)
shorter t u true us le before among = omega arith
shorter t u false us le before among = let h : length (without t us) + 1 ≤ length us = before among in omega arith

pub without_shorter : (t : ℕ) (us : List ℕ) → is_among t us ≡ true → length (without t us) + 1 ≤ length us
without_shorter t [] among = absurd (no among)
  where
    no : false ≡ true → ⊥
    no is = cc
without_shorter t (u ∷ us) among =
    let h : cond (t == u) true (is_among t us) ≡ true = rw (turned t u) among in
    shorter t u (t == u) us (without_le t us) (without_shorter t us) h

-- ---- owned instants

abbrev owner_in : Option Instant → Option Job
owner_in o = option_and_then (λ i. i.owner) o

none_owns : {X : Type 0} {x : X} → None ≡ Some x → ⊥
none_owns is = cc

kept : (f : Instant → Instant) → ((i : Instant) → (f i).owner ≡ i.owner) → (b : Bool) (o : Option Instant) → owner_in (cond b (option_map f o) o) ≡ owner_in o
kept f same true None = refl
kept f same true (Some i) = same i
kept f same false o = refl

taken : (f : Instant → Instant) → ((i : Instant) → (f i).owner ≡ None) → (u t : ℕ) (b : Bool) (o : Option Instant) (j : Job) (us : List ℕ) → (u == t) ≡ b
    → (owner_in o ≡ Some j → is_among t us ≡ true) → owner_in (cond b (option_map f o) o) ≡ Some j → is_among t (without u us) ≡ true
taken f gone u t true None j us here before is = absurd (none_owns is)
taken f gone u t true (Some i) j us here before is = absurd (none_owns (sym (gone i) ∙ is))
taken f gone u t false o j us here before is = sym (still_among u t us here) ∙ before is

drawn : (t n : ℕ) (j k : Job) (o : Option Instant) (b : Bool) (us : List ℕ) → (owner_in o ≡ Some j → is_among t us ≡ true)
    → owner_in (cond b (Some (begun k n)) o) ≡ Some j → cond b true (is_among t us) ≡ true
drawn t n j k o true us before is = refl
drawn t n j k o false us before is = before is

one_owned : (t n : ℕ) (k j : Job) (s : Step) (r : Reply) (o : Option Instant) (us : List ℕ) → (owner_in o ≡ Some j → is_among t us ≡ true)
    → owner_in (instant_after t n k s r o) ≡ Some j → is_among t (owned_after s r us) ≡ true
one_owned t n k j Begin (reply.Began u) o us before is = drawn t n j k o (u == t) us before is
one_owned t n k j Begin _ o us before is = before is
one_owned t n k j (Enter u slots) (reply.Entered targets) o us before is = before (sym (kept (entered targets) (λ i. refl) (u == t) o) ∙ is)
one_owned t n k j (Enter u slots) reply.Fault o us before is = before (sym (kept failed (λ i. refl) (u == t) o) ∙ is)
one_owned t n k j (Enter u slots) (reply.Damaged name cause) o us before is = before (sym (kept failed (λ i. refl) (u == t) o) ∙ is)
one_owned t n k j (Enter u slots) _ o us before is = before is
one_owned t n k j (Append u target writes bytes) (reply.Placed version at) o us before is = before (sym (kept (with_block target writes bytes) (λ i. refl) (u == t) o) ∙ is)
one_owned t n k j (Append u target writes bytes) reply.Fault o us before is = before (sym (kept failed (λ i. refl) (u == t) o) ∙ is)
one_owned t n k j (Append u target writes bytes) _ o us before is = before is
one_owned t n k j (Finish u checkpoint) (reply.Completed v) o us before is = taken (completed n checkpoint) (λ i. refl) u t (u == t) o j us refl before is
one_owned t n k j (Finish u checkpoint) reply.Fault o us before is = before (sym (kept failed (λ i. refl) (u == t) o) ∙ is)
one_owned t n k j (Finish u checkpoint) (reply.Damaged name cause) o us before is = before (sym (kept failed (λ i. refl) (u == t) o) ∙ is)
one_owned t n k j (Finish u checkpoint) _ o us before is = before is
one_owned t n k j (Abandon u) reply.Done o us before is = taken abandoned (λ i. refl) u t (u == t) o j us refl before is
one_owned t n k j (Abandon u) _ o us before is = before is
one_owned t n k j _ r o us before is = before is

at_first : (A : Table) → IsOpened A → (t : ℕ) (o : Option Instant) (j : Job) → instant_at A.instants t ≡ o → owner_in o ≡ Some j → ⊥
at_first A opened t None j at is = none_owns is
at_first A opened t (Some i) j at is = none_owns (sym (opened t i at).0 ∙ is)

pub owned_is_among : (A : Table) (H : History) → IsOpened A → (t : ℕ) (j : Job) → owner_of A H t ≡ Some j → is_among t (owned_instants H) ≡ true
owned_is_among A [] opened t j is = absurd (at_first A opened t (instant_at A.instants t) j refl is)
owned_is_among A (e ∷ H) opened t j is =
    one_owned t (completions A H) e.job j e.step e.reply (instant_of A H t) (owned_instants H) (owned_is_among A H opened t j) is

-- ---- live pins

pinned : (p : ℕ) (live made : LivePin) (o : Option LivePin) (b : Bool) (us : List ℕ) → (o ≡ Some live → is_among p us ≡ true)
    → cond b (Some made) o ≡ Some live → cond b true (is_among p us) ≡ true
pinned p live made o true us before is = refl
pinned p live made o false us before is = before is

unpinned : (q p : ℕ) (live : LivePin) (o : Option LivePin) (b : Bool) (us : List ℕ) → (q == p) ≡ b → (o ≡ Some live → is_among p us ≡ true)
    → cond b None o ≡ Some live → is_among p (without q us) ≡ true
unpinned q p live o true us here before is = absurd (none_owns is)
unpinned q p live o false us here before is = sym (still_among q p us here) ∙ before is

one_pinned : (p : ℕ) (k : Job) (live : LivePin) (s : Step) (r : Reply) (o : Option LivePin) (us : List ℕ) → (o ≡ Some live → is_among p us ≡ true)
    → pin_after p k s r o ≡ Some live → is_among p (pins_after s r us) ≡ true
one_pinned p k live (Pin at bases_only) (reply.Pinned view) o us before is = pinned p live _ o (view.pin == p) us before is
one_pinned p k live (Pin at bases_only) _ o us before is = before is
one_pinned p k live (Unpin q) reply.Done o us before is = unpinned q p live o (q == p) us refl before is
one_pinned p k live (Unpin q) _ o us before is = before is
one_pinned p k live _ r o us before is = before is

pub live_is_among : (H : History) (p : ℕ) (live : LivePin) → pin_of H p ≡ Some live → is_among p (live_pins H) ≡ true
live_is_among [] p live is = absurd (none_owns is)
live_is_among (e ∷ H) p live is = one_pinned p e.job live e.step e.reply (pin_of H p) (live_pins H) (live_is_among H p live) is

-- ---- what is owed

owns_among : (A : Table) (H : History) (P : Instant → Type 0) (t : ℕ) (j : Job) (o : Option Instant) → IsOpened A → instant_of A H t ≡ o
    → IsSomeAnd o (λ i. (i.owner ≡ Some j) × P i) → is_among t (owned_instants H) ≡ true
owns_among A H P t j None opened at owns = absurd owns
owns_among A H P t j (Some i) opened at owns = owned_is_among A H opened t j (ap owner_in at ∙ owns.0)

pinned_among : (H : History) (p : ℕ) (j : Job) (o : Option LivePin) → pin_of H p ≡ o → IsSomeAnd o (λ live. live.job ≡ j) → is_among p (live_pins H) ≡ true
pinned_among H p j None at owns = absurd owns
pinned_among H p j (Some live) at owns = live_is_among H p live at

-- one more entry owes no more than is counted
pub owed_le : (A : Table) (H : History) (j : Job) (s : Step) (r : Reply) (n : ℕ) → IsOpened A → May A H j s → owed_steps H ≤ n
    → owed_steps (record { job = j; step = s; reply = r } ∷ H) ≤ owed_after s r n
owed_le A H j Begin (reply.Began t) n opened may le = omega arith
owed_le A H j Begin _ n opened may le = le
owed_le A H j (Pin at bases_only) (reply.Pinned view) n opened may le = omega arith
owed_le A H j (Pin at bases_only) _ n opened may le = le
owed_le A H j (Finish t checkpoint) (reply.Completed u) n opened may le =
    let h : length (without t (owned_instants H)) + 1 ≤ length (owned_instants H) =
    without_shorter t (owned_instants H) (owns_among A H _ t j (instant_of A H t) opened refl may) in
    omega arith
owed_le A H j (Finish t checkpoint) _ n opened may le = le
owed_le A H j (Unpin pin) reply.Done n opened may le =
    let h : length (without pin (live_pins H)) + 1 ≤ length (live_pins H) =
    without_shorter pin (live_pins H) (pinned_among H pin j (pin_of H pin) refl may) in
    omega arith
owed_le A H j (Unpin pin) _ n opened may le = le
owed_le A H j (Abandon t) reply.Done n opened may le =
    let h : length (without t (owned_instants H)) + 1 ≤ length (owned_instants H) =
    without_shorter t (owned_instants H) (owns_among A H _ t j (instant_of A H t) opened refl may) in
    omega arith
owed_le A H j (Abandon t) _ n opened may le = le
owed_le A H j _ r n opened may le = le

pub owed_after_le : (s : Step) (r : Reply) (n : ℕ) → owed_after s r n ≤ n + 1
owed_after_le Begin (reply.Began t) n = omega arith
owed_after_le Begin _ n = omega arith
owed_after_le (Pin at bases_only) (reply.Pinned view) n = omega arith
owed_after_le (Pin at bases_only) _ n = omega arith
owed_after_le (Finish t checkpoint) (reply.Completed u) n = omega arith
owed_after_le (Finish t checkpoint) _ n = omega arith
owed_after_le (Unpin pin) reply.Done n = omega arith
owed_after_le (Unpin pin) _ n = omega arith
owed_after_le (Abandon t) reply.Done n = omega arith
owed_after_le (Abandon t) _ n = omega arith
owed_after_le _ r n = omega arith

-- a job that leaves owed it
pub owes_one : (A : Table) (H : History) (j : Job) (s : Step) → IsOpened A → May A H j s → IsLeaving s → 1 ≤ owed_steps H
owes_one A H j (Unpin pin) opened may leaves =
    let h : length (without pin (live_pins H)) + 1 ≤ length (live_pins H) =
    without_shorter pin (live_pins H) (pinned_among H pin j (pin_of H pin) refl may) in
    omega arith
owes_one A H j (Abandon t) opened may leaves =
    let h : length (without t (owned_instants H)) + 1 ≤ length (owned_instants H) =
    without_shorter t (owned_instants H) (owns_among A H _ t j (instant_of A H t) opened refl may) in
    omega arith
owes_one A H j _ opened may leaves = absurd leaves
