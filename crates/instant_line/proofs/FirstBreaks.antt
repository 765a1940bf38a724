-- The first name that breaks a timeline.
use Rattle.std.proofs.Common.{◌≡◌, ◌⊎◌, inl, inr, ℕ, ◌+◌, ◌<◌, ◌≤◌, Bool, true, false, List, length, get_or, refl, sym, ◌∙◌, ap, subst, arith}
use Rattle.std.specs.Prelude.{◌↔◌, nat_le, slice_get, Option, Some, None, if◌then◌else◌}
use Rattle.std.specs.List.{Contains}
use Rattle.std.proofs.lemmas.Bool.{cases_order}
use Rattle.std.proofs.lemmas.Bool.Decides.{nat_tests}
use Rattle.std.proofs.lemmas.Option.{slice_get_read, slice_get_within}
use Rattle.hudi_base.specs.InstantTime.{IsTime}
use Rattle.file_names.specs.declared.file_name.Action.{Action}
use Rattle.file_names.specs.declared.file_name.FileName.{FileName}
use Rattle.file_names.specs.declared.file_name.FileName.TheVariants.{Instant}
use Rattle.file_names.specs.declared.file_name.State.{State}
use Rattle.file_names.specs.declared.file_name.State.TheVariants.{Requested, Inflight, Completed}
use Rattle.instant_line.specs.FirstBreak.{BreaksIn, BreaksWith, IsBreak, earlier, IsFirstBelow, IsFirst}
use Rattle.instant_line.specs.LineFiles.{LacksEarlier, Breaks, BreaksAt, BreaksFirst}
use Rattle.instant_line.specs.NameOrder.{AreEntries, name_number}
use Rattle.instant_line.proofs.Moves.{Begun}
use Rattle.instant_line.proofs.NameNumbers.{number-same, number-before}

-- ---- one more name

below-or-at : (j i : ℕ) → j < i + 1 → (j < i) ⊎ (j ≡ i)
below-or-at j i h = elim (cases_order j i) [
  | inl at ↦ inr at
  | inr side ↦ elim side [ inl low ↦ inl low | inr high ↦ absurd (omega arith) ]
]

-- the name at a place, in the two ways of reading it
read-at : (names : List FileName) (i j : ℕ) (name other : FileName) → i < length names → name ≡ get_or names i name → j ≡ i → slice_get names j ≡ Some other → name ≡ other
read-at names i j name other within at same read =
    let own : slice_get names i ≡ Some name = slice_get_read names (length names) i name refl within at in
    let moved : slice_get names i ≡ Some other = sym (ap (slice_get names) same) ∙ read in
    cc

-- what a break with a number says of the file at its place
with-number : (es : List Begun) (name : FileName) (n : ℕ) (u : ℕ) (other : Action) (at : State) → BreaksWith es name n → name ≡ Instant u other at → IsTime u × (n ≡ name_number u other at)
with-number es name n u other at b is =
    let same : Instant b.t b.action b.state ≡ Instant u other at = sym b.is ∙ is in
    let time : b.t ≡ u = cc in
    let action : b.action ≡ other = cc in
    let state : b.state ≡ at = cc in
    (subst IsTime time b.time, b.numbered ∙ (λ k. name_number (time k) (action k) (state k)))

first-here : (es : List Begun) (names : List FileName) (i n : ℕ) (name : FileName) → i < length names → name ≡ get_or names i name → BreaksWith es name n
    → ((j u : ℕ) (other : Action) (at : State) → j < i → slice_get names j ≡ Some (Instant u other at) → BreaksIn es u other at → IsTime u × (n < name_number u other at))
    → IsFirstBelow es names (i + 1) (i, n)
first-here es names i n name within read b before = record {
  t = b.t;
  action = b.action;
  state = b.state;
  below = omega arith;
  is = slice_get_read names (length names) i name refl within read ∙ ap Some b.is;
  time = b.time;
  breaks = b.breaks;
  numbered = b.numbered;
  least = λ j u other at short is breaks. elim (below-or-at j i short) [
    | inl low ↦ let more = before j u other at low is breaks in (more.0, inl more.1)
    | inr same ↦
        let own = with-number es name n u other at b (read-at names i j name (Instant u other at) within read same is) in
        (own.0, inr (own.1, omega arith))
  ];
}

first-kept : (es : List Begun) (names : List FileName) (i : ℕ) (first : ℕ × ℕ) → IsFirstBelow es names i first
    → ((j u : ℕ) (other : Action) (at : State) → j ≡ i → slice_get names j ≡ Some (Instant u other at) → BreaksIn es u other at → IsTime u × (first.1 ≤ name_number u other at))
    → IsFirstBelow es names (i + 1) first
first-kept es names i first f here = record {
  t = f.t;
  action = f.action;
  state = f.state;
  below = let low = f.below in omega arith;
  is = f.is;
  time = f.time;
  breaks = f.breaks;
  numbered = f.numbered;
  least = λ j u other at short is breaks. elim (below-or-at j i short) [
    | inl low ↦ f.least j u other at low is breaks
    | inr same ↦
        let own = here j u other at same is breaks in
        let below = f.below in (
          own.0,
          elim (cases_order first.1 (name_number u other at)) [
            | inl equal ↦ inr (equal, omega arith)
            | inr side ↦ elim side [ inl less ↦ inl less | inr more ↦ (let le = own.1 in absurd (omega arith)) ]
          ],
        )
  ];
}

first-pick : (es : List Begun) (names : List FileName) (i n : ℕ) (name : FileName) (first : ℕ × ℕ) (keeps : Bool) → nat_le first.1 n ≡ keeps → i < length names → name ≡ get_or names i name
    → IsFirstBelow es names i first → BreaksWith es name n → IsFirst es names (i + 1) (if keeps then Some first else Some (i, n))
first-pick es names i n name first true test within read f b =
    first-kept es names i first f
    (λ j u other at same is breaks.
    let own = with-number es name n u other at b (read-at names i j name (Instant u other at) within read same is) in
    let le : first.1 ≤ n = grind (arith, nat_tests) in
    (own.0, let e = own.1 in omega arith))
first-pick es names i n name first false test within read f b =
    first-here es names i n name within read b
    (λ j u other at low is breaks.
    let own = f.least j u other at low is breaks in
    let more : n < first.1 = grind (arith, nat_tests) in
    (own.0, elim own.1 [ inl less ↦ omega arith | inr equal ↦ (let e = equal.0 in omega arith) ]))

pub first-step : (es : List Begun) (names : List FileName) (i : ℕ) (name : FileName) (first : Option (ℕ × ℕ)) (found : Option ℕ) → i < length names → name ≡ get_or names i name
    → IsFirst es names i first → IsBreak es name found → IsFirst es names (i + 1) (earlier first i found)
first-step es names i name None None within read f b = λ j u other at short is breaks. elim (below-or-at j i short) [
  | inl low ↦ f j u other at low is breaks
  | inr same ↦ b u other at (read-at names i j name (Instant u other at) within read same is) breaks
]
first-step es names i name (Some first) None within read f b =
    first-kept es names i first f
    (λ j u other at same is breaks. absurd (b u other at (read-at names i j name (Instant u other at) within read same is) breaks))
first-step es names i name None (Some n) within read f b =
    first-here es names i n name within read b (λ j u other at low is breaks. absurd (f j u other at low is breaks))
first-step es names i name (Some first) (Some n) within read f b =
    first-pick es names i n name first (nat_le first.1 n) refl within read f b

-- ---- among all names

lacks-same : (has other : ℕ → Action → State → Type 0) → ((t : ℕ) (a : Action) (s : State) → has t a s ↔ other t a s) → (t : ℕ) (a : Action) (s : State) → LacksEarlier has t a s → LacksEarlier other t a s
lacks-same has other same t a Requested lacks = lacks
lacks-same has other same t a Inflight lacks = λ there. lacks ((same t a Requested).1 there)
lacks-same has other same t a Completed lacks = λ there. lacks ((same t a Inflight).1 there)

pub breaks-same : (has other : ℕ → Action → State → Type 0) → ((t : ℕ) (a : Action) (s : State) → has t a s ↔ other t a s) → (t : ℕ) (a : Action) (s : State) → Breaks has t a s → Breaks other t a s
breaks-same has other same t a s breaks = elim breaks [
  | inl lacks ↦ inl (lacks-same has other same t a s lacks)
  | inr second ↦ inr (second.0, second.1, second.2, (same t second.0 second.1).0 second.3, second.4)
]

at-entries : (es : List Begun) (names : List FileName) → AreEntries es names → (t : ℕ) (a : Action) (s : State) → Breaks (λ u b r. Contains names (Instant u b r)) t a s → BreaksIn es t a s
at-entries es names same t a s breaks =
    breaks-same (λ u b r. Contains names (Instant u b r)) (λ u b r. Contains es (u, b, r)) (λ u b r. ((same u b r).1, (same u b r).0)) t a s breaks

pub none-breaks : (es : List Begun) (names : List FileName) → AreEntries es names → IsFirst es names (length names) None → (i t : ℕ) (a : Action) (s : State) → BreaksAt names i t a s → ⊥
none-breaks es names same none i t a s b = none i t a s (slice_get_within names i (Instant t a s) b.is) b.is (at-entries es names same t a s b.breaks)

pub first-breaks : (es : List Begun) (names : List FileName) (first : ℕ × ℕ) → AreEntries es names → IsFirst es names (length names) (Some first) → BreaksFirst names first.0
first-breaks es names first same f = record {
  t = f.t;
  action = f.action;
  state = f.state;
  here = record {
    is = f.is;
    breaks = breaks-same (λ u b r. Contains es (u, b, r)) (λ u b r. Contains names (Instant u b r)) same f.t f.action f.state f.breaks;
  };
  first = λ j u other at b.
      let own = f.least j u other at (slice_get_within names j (Instant u other at) b.is) b.is (at-entries es names same u other at b.breaks) in
      elim own.1 [
        | inl less ↦ inl (number-before f.t u f.action other f.state at f.time own.0 (subst (λ n. n < name_number u other at) f.numbered less))
        | inr equal ↦
            let all = number-same f.t u f.action other f.state at (sym f.numbered ∙ equal.0) in
            inr (λ k. Instant (all.time k) (all.action k) (all.state k), equal.1)
      ];
}
