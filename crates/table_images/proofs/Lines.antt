-- The instants of the table after a history.
use Rattle.std.proofs.Common.{◌≡◌, ◌⊎◌, inl, inr, ◌≤◌, ◌==◌, ℕ, Bool, true, false, cond, List, [], ◌∷◌, map, Option, Some, None, option_map, max, refl, sym, ap, ◌∙◌, subst, arith}
use Rattle.std.specs.Prelude.{◌||◌}
use Rattle.std.specs.List.{list_any}
use Rattle.std.proofs.lemmas.Bool.Decides.{nat_tests}
use Rattle.hudi_base.specs.InstantTime.{first_time}
use Rattle.table_history.specs.After.{after_history, greatest_in, instants_at, times_of}
use Rattle.table_history.specs.Histories.{History}
use Rattle.table_history.specs.Instants.{instant_after, instant_of, completions, begun, entered, with_block, completed, failed, abandoned}
use Rattle.table_history.specs.Tables.{Table, Instant, instant_at}
use Rattle.table_history.specs.declared.entry.Entry.{Entry}
use Rattle.table_history.specs.declared.job.Job.{Job}
use Rattle.table_history.specs.declared.reply.Reply.{Reply}
use Rattle.table_history.specs.declared.reply.Reply.TheVariants as reply
use Rattle.table_history.specs.declared.step.Step.{Step}
use Rattle.table_history.specs.declared.step.Step.TheVariants.{Begin, Enter, Append, Finish, Pin, Unpin, Read, Abandon}

-- ---- an instant that is changed, or not

pub number : (u t : ℕ) → (u == t) ≡ true → u ≡ t
number u t h = grind (arith, nat_tests)

pub other_number : (u t : ℕ) → (u == t) ≡ false → u ≡ t → ⊥
other_number u t h same = grind (arith, nat_tests)

pub some_same : {X : Type 0} {x y : X} → Some x ≡ Some y → x ≡ y
some_same is = cc

pub none_some : {X : Type 0} {x : X} → None ≡ Some x → ⊥
none_some is = cc

-- what is found at u after the instant at t was changed
pub record IsChanged (t u : ℕ) (f : Instant → Instant) (before : Option Instant) (found : Instant) : Type 0 where
  pub old : Instant
  pub was : before ≡ Some old
  pub by : ((t ≡ u) × (found ≡ f old)) ⊎ ((t ≡ u → ⊥) × (found ≡ old))

pub change : (t u : ℕ) (f : Instant → Instant) (before : Option Instant) (found : Instant) → cond (t == u) (option_map f before) before ≡ Some found → IsChanged t u f before found
change t u f before found is = by_test (t == u) refl before is
  where
    by_test : (b : Bool) → (t == u) ≡ b → (o : Option Instant) → cond b (option_map f o) o ≡ Some found → IsChanged t u f o found
    by_test true here None is = absurd (none_some is)
    by_test true here (Some i) is = record { old = i; was = refl; by = inl (number t u here, sym (some_same is)) }
    by_test false other None is = absurd (none_some is)
    by_test false other (Some i) is = record { old = i; was = refl; by = inr (other_number t u other, sym (some_same is)) }

-- what is found at u after an instant was made at t
pub record IsMore (t u : ℕ) (new : Instant) (before : Option Instant) (found : Instant) : Type 0 where
  pub by : ((t ≡ u) × (found ≡ new)) ⊎ ((t ≡ u → ⊥) × (before ≡ Some found))

pub more : (t u : ℕ) (new : Instant) (before : Option Instant) (found : Instant) → cond (t == u) (Some new) before ≡ Some found → IsMore t u new before found
more t u new before found is = by_test (t == u) refl is
  where
    by_test : (b : Bool) → (t == u) ≡ b → cond b (Some new) before ≡ Some found → IsMore t u new before found
    by_test true here is = record { by = inl (number t u here, sym (some_same is)) }
    by_test false other is = record { by = inr (other_number t u other, is) }

-- ---- no instant comes without its time

still_none : (f : Instant → Instant) (b : Bool) → cond b (option_map f None) None ≡ None
still_none f true = refl
still_none f false = refl

abbrev draws : ℕ → Reply → Bool
draws t (reply.Began u) = u == t
draws t _ = false

none_after : (t n : ℕ) (j : Job) (s : Step) (r : Reply) → draws t r ≡ false → instant_after t n j s r None ≡ None
none_after t n j Begin (reply.Began u) h = rw h refl
none_after t n j Begin _ h = refl
none_after t n j (Enter u slots) (reply.Entered targets) h = still_none (entered targets) (u == t)
none_after t n j (Enter u slots) reply.Fault h = still_none failed (u == t)
none_after t n j (Enter u slots) (reply.Damaged name cause) h = still_none failed (u == t)
none_after t n j (Enter u slots) _ h = refl
none_after t n j (Append u target writes bytes) (reply.Placed version at) h = still_none (with_block target writes bytes) (u == t)
none_after t n j (Append u target writes bytes) reply.Fault h = still_none failed (u == t)
none_after t n j (Append u target writes bytes) _ h = refl
none_after t n j (Finish u checkpoint) (reply.Completed v) h = still_none (completed n checkpoint) (u == t)
none_after t n j (Finish u checkpoint) reply.Fault h = still_none failed (u == t)
none_after t n j (Finish u checkpoint) (reply.Damaged name cause) h = still_none failed (u == t)
none_after t n j (Finish u checkpoint) _ h = refl
none_after t n j (Abandon u) reply.Done h = still_none abandoned (u == t)
none_after t n j (Abandon u) _ h = refl
none_after t n j (Pin at bases_only) r h = refl
none_after t n j (Unpin pin) r h = refl
none_after t n j (Read from file at len) r h = refl

is_listed : List ℕ → ℕ → Bool
is_listed ts t = list_any (λ u. u == t) ts

not_either : (a b : Bool) → (a || b) ≡ false → (a ≡ false) × (b ≡ false)
not_either true b h = cc
not_either false b h = (refl, h)

drawn_or_listed : (A : Table) (H : History) (e : Entry) (t : ℕ) (r : Reply) → e.reply ≡ r → list_any (λ u. u == t) (times_of A (e ∷ H)) ≡ false
    → (draws t r ≡ false) × (list_any (λ u. u == t) (times_of A H) ≡ false)
drawn_or_listed A H e t (reply.Began u) is h = not_either (u == t) (list_any (λ u. u == t) (times_of A H)) (rw is at h)
drawn_or_listed A H e t r is h = (refl, rw is at h)

first_listed : (line : List (ℕ × Instant)) (t : ℕ) → list_any (λ u. u == t) (map (λ known. known.0) line) ≡ false → instant_at line t ≡ None
first_listed [] t h = refl
first_listed (known ∷ line) t h =
    let apart = not_either (known.0 == t) (list_any (λ u. u == t) (map (λ known. known.0) line)) h in
    ap (λ b. cond b (Some known.1) (instant_at line t)) apart.0 ∙ first_listed line t apart.1

none_unlisted : (A : Table) (H : History) (t : ℕ) → list_any (λ u. u == t) (times_of A H) ≡ false → instant_of A H t ≡ None
none_unlisted A [] t h = first_listed A.instants t h
none_unlisted A (e ∷ H) t h =
    let apart = drawn_or_listed A H e t e.reply refl h in
    ap (λ o. instant_after t (completions A H) e.job e.step e.reply o) (none_unlisted A H t apart.1) ∙ none_after t (completions A H) e.job e.step e.reply apart.0

-- ---- the instants that are listed

in_list : (A : Table) (H : History) (ts : List ℕ) (t : ℕ) → instant_at (instants_at A H ts) t ≡ cond (list_any (λ u. u == t) ts) (instant_of A H t) None
in_list A H [] t = refl
in_list A H (u ∷ ts) t = by_test (u == t) refl (instant_of A H u) refl (in_list A H ts t)
  where
    none_either : (b : Bool) → instant_of A H t ≡ None → cond b (instant_of A H t) None ≡ instant_of A H t
    none_either true is = refl
    none_either false is = sym is

    by_test : (b : Bool) → (u == t) ≡ b → (o : Option Instant) → instant_of A H u ≡ o
        → instant_at (instants_at A H ts) t ≡ cond (list_any (λ u. u == t) ts) (instant_of A H t) None
        → instant_at (instants_at A H (u ∷ ts)) t ≡ cond ((u == t) || list_any (λ u. u == t) ts) (instant_of A H t) None
    by_test true here None is rest =
        let same : instant_of A H t ≡ None = ap (instant_of A H) (sym (number u t here)) ∙ is in
        rw (is, here) (rest ∙ none_either _ same)
    by_test true here (Some i) is rest =
        let same : instant_of A H t ≡ Some i = ap (instant_of A H) (sym (number u t here)) ∙ is in
        rw (is, here) (sym same)
    by_test false other None is rest = rw (is, other) rest
    by_test false other (Some i) is rest = rw (is, other) rest

-- the table after a history has the history's instants
pub at_after : (A : Table) (H : History) (t : ℕ) → instant_at (after_history A H).instants t ≡ instant_of A H t
at_after A H t = in_list A H (times_of A H) t ∙ by_test (list_any (λ u. u == t) (times_of A H)) refl
  where
    by_test : (b : Bool) → list_any (λ u. u == t) (times_of A H) ≡ b → cond b (instant_of A H t) None ≡ instant_of A H t
    by_test true listed = refl
    by_test false unlisted = sym (none_unlisted A H t unlisted)

-- ---- the greatest time

under_first : (n first g : ℕ) → first ≤ g → first ≤ max n g
under_first n first g le = omega (arith, le)

pub first_least : (line : List (ℕ × Instant)) → first_time ≤ greatest_in line
first_least [] = omega arith
first_least (known ∷ line) = under_first known.0 first_time (greatest_in line) (first_least line)

pub under_greatest : (line : List (ℕ × Instant)) (t : ℕ) (i : Instant) → instant_at line t ≡ Some i → t ≤ greatest_in line
under_greatest [] t i is = absurd (none_some is)
under_greatest (known ∷ line) t i is = by_test (known.0 == t) refl is (under_greatest line t i)
  where
    by_test : (b : Bool) → (known.0 == t) ≡ b → cond b (Some known.1) (instant_at line t) ≡ Some i → (instant_at line t ≡ Some i → t ≤ greatest_in line) → t ≤ max known.0 (greatest_in line)
    by_test true here is more = let same = number known.0 t here in omega (arith, same)
    by_test false other is more = let le = more is in omega (arith, le)

itself : (n : ℕ) → (n == n) ≡ true
itself n = grind (arith, nat_tests)

pub greatest_least : (line : List (ℕ × Instant)) (m : ℕ) → first_time ≤ m → ((t : ℕ) (i : Instant) → instant_at line t ≡ Some i → t ≤ m) → greatest_in line ≤ m
greatest_least [] m first all = first
greatest_least (known ∷ line) m first all = both (all known.0 known.1 (ap (λ b. cond b (Some known.1) (instant_at line known.0)) (itself known.0))) (greatest_least line m first rest)
  where
    both : known.0 ≤ m → greatest_in line ≤ m → max known.0 (greatest_in line) ≤ m
    both a b = omega (arith, a, b)

    by_test : (t : ℕ) (i : Instant) (b : Bool) → (known.0 == t) ≡ b → instant_at line t ≡ Some i → t ≤ m
    by_test t i true here is = subst (λ n. n ≤ m) (number known.0 t here) (all known.0 known.1 (ap (λ b. cond b (Some known.1) (instant_at line known.0)) (itself known.0)))
    by_test t i false other is = all t i (ap (λ b. cond b (Some known.1) (instant_at line t)) other ∙ is)

    rest : (t : ℕ) (i : Instant) → instant_at line t ≡ Some i → t ≤ m
    rest t i is = by_test t i (known.0 == t) refl is

-- ---- an instant stays

pub stays_changed : (f : Instant → Instant) (b : Bool) (i : Instant) → (found : Instant) × (cond b (option_map f (Some i)) (Some i) ≡ Some found)
stays_changed f true i = (f i, refl)
stays_changed f false i = (i, refl)

stays_begun : (new : Instant) (b : Bool) (i : Instant) → (found : Instant) × (cond b (Some new) (Some i) ≡ Some found)
stays_begun new true i = (new, refl)
stays_begun new false i = (i, refl)

stays : (t n : ℕ) (j : Job) (s : Step) (r : Reply) (i : Instant) → (found : Instant) × (instant_after t n j s r (Some i) ≡ Some found)
stays t n j Begin (reply.Began u) i = stays_begun (begun j n) (u == t) i
stays t n j Begin _ i = (i, refl)
stays t n j (Enter u slots) (reply.Entered targets) i = stays_changed (entered targets) (u == t) i
stays t n j (Enter u slots) reply.Fault i = stays_changed failed (u == t) i
stays t n j (Enter u slots) (reply.Damaged name cause) i = stays_changed failed (u == t) i
stays t n j (Enter u slots) _ i = (i, refl)
stays t n j (Append u target writes bytes) (reply.Placed version at) i = stays_changed (with_block target writes bytes) (u == t) i
stays t n j (Append u target writes bytes) reply.Fault i = stays_changed failed (u == t) i
stays t n j (Append u target writes bytes) _ i = (i, refl)
stays t n j (Finish u checkpoint) (reply.Completed v) i = stays_changed (completed n checkpoint) (u == t) i
stays t n j (Finish u checkpoint) reply.Fault i = stays_changed failed (u == t) i
stays t n j (Finish u checkpoint) (reply.Damaged name cause) i = stays_changed failed (u == t) i
stays t n j (Finish u checkpoint) _ i = (i, refl)
stays t n j (Abandon u) reply.Done i = stays_changed abandoned (u == t) i
stays t n j (Abandon u) _ i = (i, refl)
stays t n j (Pin at bases_only) r i = (i, refl)
stays t n j (Unpin pin) r i = (i, refl)
stays t n j (Read from file at len) r i = (i, refl)

-- the greatest time in the names of the timeline never falls
pub greatest_rises : (A : Table) (H : History) (e : Entry) → greatest_in (after_history A H).instants ≤ greatest_in (after_history A (e ∷ H)).instants
greatest_rises A H e =
    greatest_least (after_history A H).instants (greatest_in (after_history A (e ∷ H)).instants) (first_least (after_history A (e ∷ H)).instants) (λ t i is.
    let still = stays t (completions A H) e.job e.step e.reply i in
    under_greatest (after_history A (e ∷ H)).instants t still.0
    (at_after A (e ∷ H) t ∙ ap (instant_after t (completions A H) e.job e.step e.reply) (sym (at_after A H t) ∙ is) ∙ still.1))
