-- The numbers of a timeline's files, and the order of their names.
use Rattle.std.proofs.Common.{◌≡◌, ◌≢◌, ◌⊎◌, inl, inr, ℕ, ◌+◌, ◌*◌, ◌<◌, ◌≤◌, ◌&&◌, Bool, true, false, List, [], ◌∷◌, ◌++◌, length, refl, sym, ◌∙◌, ap, subst, arith}
use Rattle.std.specs.Prelude.{◌↔◌, ◌==◌, if◌then◌else◌, codes}
use Rattle.std.specs.Ordering.{nat_cmp, ordering_then}
use Rattle.std.specs.Cmp.{nat_cmp_is}
use Rattle.std.specs.Cmp.Lexicographic.{slice_cmp}
use Rattle.std.specs.List.{Contains}
use Rattle.std.specs.declared.cmp.Ordering.{Ordering}
use Rattle.std.specs.declared.cmp.Ordering.TheVariants.{Less, Equal, Greater}
use Rattle.std.proofs.lemmas.Bool.{and_parts, cases_order}
use Rattle.hudi_base.specs.InstantTime.{IsTime, time_text}
use Rattle.hudi_base.proofs.Times.{length-time_text}
use Rattle.hudi_base.proofs.TimeOrder.{time_text_ordered}
use Rattle.file_names.specs.FileName.{name_of, instant_ending}
use Rattle.file_names.specs.declared.file_name.Action.{Action}
use Rattle.file_names.specs.declared.file_name.Action.TheVariants.{Delta, Compaction, Replace, Clean, Rollback}
use Rattle.file_names.specs.declared.file_name.FileName.TheVariants.{Instant}
use Rattle.file_names.specs.declared.file_name.State.{State}
use Rattle.file_names.specs.declared.file_name.State.TheVariants.{Requested, Inflight, Completed}
use Rattle.instant_line.specs.LineFiles.{IsBefore, ComesSecond}
use Rattle.instant_line.specs.NameOrder.{action_rank, state_rank, name_number, entry_number, HasBetween}

-- ---- the numbers

action_of : ℕ → Action
action_of n = if n == 0 then Clean else (if n == 1 then Compaction else (if n == 2 then Delta else (if n == 3 then Replace else Rollback)))

action_of-rank : (a : Action) → action_of (action_rank a) ≡ a
unfolding action_of
action_of-rank Delta = refl
action_of-rank Compaction = refl
action_of-rank Replace = refl
action_of-rank Clean = refl
action_of-rank Rollback = refl

pub action_rank-injective : (a b : Action) → action_rank a ≡ action_rank b → a ≡ b
action_rank-injective a b e = sym (action_of-rank a) ∙ ap action_of e ∙ action_of-rank b

state_of : ℕ → State
state_of n = if n == 0 then Completed else (if n == 1 then Inflight else Requested)

state_of-rank : (s : State) → state_of (state_rank s) ≡ s
unfolding state_of
state_of-rank Requested = refl
state_of-rank Inflight = refl
state_of-rank Completed = refl

pub state_rank-injective : (s r : State) → state_rank s ≡ state_rank r → s ≡ r
state_rank-injective s r e = sym (state_of-rank s) ∙ ap state_of e ∙ state_of-rank r

pub action_rank-range : (a : Action) → action_rank a ≤ 4
action_rank-range Delta = omega arith
action_rank-range Compaction = omega arith
action_rank-range Replace = omega arith
action_rank-range Clean = omega arith
action_rank-range Rollback = omega arith

pub state_rank-range : (s : State) → state_rank s ≤ 2
state_rank-range Requested = omega arith
state_rank-range Inflight = omega arith
state_rank-range Completed = omega arith

-- a number tells its time, its action and its state
pub record AreSame (t u : ℕ) (a b : Action) (s r : State) : Type 0 where
  pub time : t ≡ u
  pub action : a ≡ b
  pub state : s ≡ r

parts : (t u x y v w : ℕ) → x ≤ 4 → y ≤ 4 → v ≤ 2 → w ≤ 2 → t * 15 + (x * 3 + v) ≡ u * 15 + (y * 3 + w) → (t ≡ u) × (x ≡ y) × (v ≡ w)
parts t u x y v w hx hy hv hw e = (omega arith, omega arith, omega arith)

pub number-same : (t u : ℕ) (a b : Action) (s r : State) → name_number t a s ≡ name_number u b r → AreSame t u a b s r
unfolding name_number
number-same t u a b s r e =
    let all = parts t u (action_rank a) (action_rank b) (state_rank s) (state_rank r) (action_rank-range a) (action_rank-range b) (state_rank-range s) (state_rank-range r) e in
    record { time = all.0; action = action_rank-injective a b all.1; state = state_rank-injective s r all.2 }

pub entry-same : (x y : ℕ × Action × State) → entry_number x ≡ entry_number y → x ≡ y
entry-same x y e =
    let same = number-same x.0 y.0 x.1 y.1 x.2 y.2 e in
    λ i. (same.time i, same.action i, same.state i)

-- ---- the endings of the files of one time

unfoldable pub rank : Action → State → ℕ
rank a s = action_rank a * 3 + state_rank s

same : Ordering → Ordering → Bool
same Less Less = true
same Equal Equal = true
same Greater Greater = true
same _ _ = false

same-equal : (o p : Ordering) → same o p ≡ true → o ≡ p
unfolding same
same-equal Less Less e = refl
same-equal Less Equal e = cc
same-equal Less Greater e = cc
same-equal Equal Less e = cc
same-equal Equal Equal e = refl
same-equal Equal Greater e = cc
same-equal Greater Less e = cc
same-equal Greater Equal e = cc
same-equal Greater Greater e = refl

abbrev all_actions : (Action → Bool) → Bool
all_actions p = p Delta && (p Compaction && (p Replace && (p Clean && p Rollback)))

abbrev all_states : (State → Bool) → Bool
all_states p = p Requested && (p Inflight && p Completed)

at_action : (p : Action → Bool) → all_actions p ≡ true → (a : Action) → p a ≡ true
at_action p all a =
    let first = and_parts (p Delta) (p Compaction && (p Replace && (p Clean && p Rollback))) all in
    let second = and_parts (p Compaction) (p Replace && (p Clean && p Rollback)) first.1 in
    let third = and_parts (p Replace) (p Clean && p Rollback) second.1 in
    let fourth = and_parts (p Clean) (p Rollback) third.1 in
    elim a as (λ b. p b ≡ true) [ Delta ↦ first.0 | Compaction ↦ second.0 | Replace ↦ third.0 | Clean ↦ fourth.0 | Rollback ↦ fourth.1 ]

at_state : (p : State → Bool) → all_states p ≡ true → (s : State) → p s ≡ true
at_state p all s =
    let first = and_parts (p Requested) (p Inflight && p Completed) all in
    let second = and_parts (p Inflight) (p Completed) first.1 in
    elim s as (λ r. p r ≡ true) [ Requested ↦ first.0 | Inflight ↦ second.0 | Completed ↦ second.1 ]

abbrev in_order : Action → State → Action → State → Bool
in_order a s b r = same (slice_cmp nat_cmp (instant_ending a s) (instant_ending b r)) (nat_cmp (rank a s) (rank b r))

abbrev all_after : Action → State → Bool
all_after a s = all_actions (λ b. all_states (λ r. in_order a s b r))

all_in_order : all_actions (λ a. all_states (λ s. all_after a s)) ≡ true
unfolding same rank
all_in_order = refl

pub endings-order : (a b : Action) (s r : State) → slice_cmp nat_cmp (instant_ending a s) (instant_ending b r) ≡ nat_cmp (rank a s) (rank b r)
endings-order a b s r =
    same-equal _ _
    (at_state (λ x. in_order a s b x)
    (at_action (λ x. all_states (λ y. in_order a s x y))
    (at_state (λ x. all_after a x) (at_action (λ x. all_states (λ y. all_after x y)) all_in_order a) s) b) r)

-- ---- whole names

same_prefix : (xs ys zs : List ℕ) → slice_cmp nat_cmp (xs ++ ys) (xs ++ zs) ≡ slice_cmp nat_cmp ys zs
same_prefix [] ys zs = refl
same_prefix (x ∷ xs) ys zs =
    ap (λ (o : Ordering). ordering_then o (slice_cmp nat_cmp (xs ++ ys) (xs ++ zs))) (sym (nat_cmp_is x x Equal refl)) ∙ same_prefix xs ys zs

less_prefix : (xs ys us vs : List ℕ) → length xs ≡ length ys → slice_cmp nat_cmp xs ys ≡ Less → slice_cmp nat_cmp (xs ++ us) (ys ++ vs) ≡ Less
less_prefix [] [] us vs e less = cc
less_prefix [] (y ∷ ys) us vs e less = absurd (omega arith)
less_prefix (x ∷ xs) [] us vs e less = absurd (omega arith)
less_prefix (x ∷ xs) (y ∷ ys) us vs e less =
    by_first (nat_cmp x y) (less_prefix xs ys us vs (omega arith)) less
  where
    by_first : (o : Ordering) → (slice_cmp nat_cmp xs ys ≡ Less → slice_cmp nat_cmp (xs ++ us) (ys ++ vs) ≡ Less) → ordering_then o (slice_cmp nat_cmp xs ys) ≡ Less → ordering_then o (slice_cmp nat_cmp (xs ++ us) (ys ++ vs)) ≡ Less
    by_first Less rest h = refl
    by_first Equal rest h = rest h
    by_first Greater rest h = cc

nat_cmp-less : (x y : ℕ) → nat_cmp x y ≡ Less → x < y
nat_cmp-less x y e = elim (cases_order x y) [
  | inl at ↦ let other = nat_cmp_is x y Equal at in cc
  | inr side ↦ elim side [ inl below ↦ below | inr above ↦ let other = nat_cmp_is x y Greater above in cc ]
]

pub same_time-order : (table : List ℕ) (t : ℕ) (a b : Action) (s r : State)
    → slice_cmp nat_cmp (name_of table (Instant t a s)) (name_of table (Instant t b r)) ≡ nat_cmp (rank a s) (rank b r)
unfolding name_of
same_time-order table t a b s r =
    same_prefix (codes ".hoodie/") (time_text t ++ instant_ending a s) (time_text t ++ instant_ending b r)
    ∙ same_prefix (time_text t) (instant_ending a s) (instant_ending b r) ∙ endings-order a b s r

pub before-rank : (t : ℕ) (a b : Action) (s r : State) → IsBefore (Instant t a s) (Instant t b r) → rank a s < rank b r
before-rank t a b s r before = nat_cmp-less (rank a s) (rank b r) (sym (same_time-order [] t a b s r) ∙ before [])

pub rank-before : (t : ℕ) (a b : Action) (s r : State) → rank a s < rank b r → IsBefore (Instant t a s) (Instant t b r)
rank-before t a b s r below table = same_time-order table t a b s r ∙ sym (nat_cmp_is (rank a s) (rank b r) Less below)

time-before : (t u : ℕ) (a b : Action) (s r : State) → IsTime t → IsTime u → t < u → IsBefore (Instant t a s) (Instant u b r)
unfolding name_of
time-before t u a b s r pt pu below table =
    same_prefix (codes ".hoodie/") (time_text t ++ instant_ending a s) (time_text u ++ instant_ending b r)
    ∙ less_prefix (time_text t) (time_text u) (instant_ending a s) (instant_ending b r) (length-time_text t ∙ sym (length-time_text u)) (time_text_ordered t u pt pu below)

split : (t u x y : ℕ) → x < 15 → y < 15 → t * 15 + x < u * 15 + y → (t < u) ⊎ ((t ≡ u) × (x < y))
split t u x y hx hy e = elim (cases_order t u) [
  | inl at ↦ inr (at, omega arith)
  | inr side ↦ elim side [ inl below ↦ inl below | inr above ↦ absurd (omega arith) ]
]

rank-range : (a : Action) (s : State) → rank a s < 15
unfolding rank
rank-range a s = let x = action_rank-range a in let y = state_rank-range s in omega arith

pub number-before : (t u : ℕ) (a b : Action) (s r : State) → IsTime t → IsTime u → name_number t a s < name_number u b r → IsBefore (Instant t a s) (Instant u b r)
unfolding name_number rank
number-before t u a b s r pt pu below = elim (split t u (rank a s) (rank b r) (rank-range a s) (rank-range b r) below) [
  | inl earlier ↦ time-before t u a b s r pt pu earlier
  | inr here ↦ subst (λ v. IsBefore (Instant t a s) (Instant v b r)) here.0 (rank-before t a b s r here.1)
]

-- ---- what a search for numbers finds

pub has-one : (es : List (ℕ × Action × State)) (t : ℕ) (a : Action) (s : State) (n : ℕ) → n ≡ name_number t a s → HasBetween es n (n + 1) ↔ Contains es (t, a, s)
has-one es t a s n is = (
  λ found.
      let e : entry_number found.entry ≡ entry_number (t, a, s) = let low = found.from in let high = found.below in omega arith in
      subst (Contains es) (entry-same found.entry (t, a, s) e) found.among,
  λ has. record { entry = (t, a, s); among = has; from = omega arith; below = omega arith },
)

second-parts : (t u x y v w : ℕ) → x ≤ 4 → y ≤ 4 → v ≤ 2 → t * 15 + (0 * 3 + 0) ≤ u * 15 + (x * 3 + v) → u * 15 + (x * 3 + v) < t * 15 + (y * 3 + 0) → (u ≡ t) × (x < y)
second-parts t u x y v w hx hy hv low high = (omega arith, omega arith)

pub has-second : (es : List (ℕ × Action × State)) (t : ℕ) (a : Action) (s : State)
    → HasBetween es (name_number t Clean Completed) (name_number t a Completed) ↔ ComesSecond (λ u other at. Contains es (u, other, at)) t a s
unfolding name_number rank
has-second es t a s = (
  λ found.
      let e = found.entry in
      let all = second-parts t e.0 (action_rank e.1) (action_rank a) (state_rank e.2) 0 (action_rank-range e.1) (action_rank-range a) (state_rank-range e.2) found.from found.below in
      let other : e.1 ≢ a = λ same. (let r = ap action_rank same in let low = all.1 in omega arith) in
      let low : rank e.1 e.2 < rank a s = let below = all.1 in let range = state_rank-range e.2 in omega arith in
      (e.1, e.2, other, subst (λ u. Contains es (u, e.1, e.2)) all.0 found.among, rank-before t e.1 a e.2 s low),
  λ second.
      let below = before-rank t second.0 a second.1 s second.4 in
      let ne : action_rank second.0 ≢ action_rank a = λ e. second.2 (action_rank-injective second.0 a e) in
      let v = state_rank-range second.1 in
      let w = state_rank-range s in
      record { entry = (t, second.0, second.1); among = second.3; from = omega arith; below = omega arith },
)
