-- What a timeline says of each time tells all of it.
use Rattle.std.proofs.Common.{◌≡◌, ◌≢◌, inl, inr, ℕ, suc, ◌<◌, List, [], ◌∷◌, get_or, refl, sym, ◌∙◌, ap, arith}
use Rattle.std.specs.Prelude.{◌↔◌}
use Rattle.std.specs.List.{Contains}
use Rattle.std.proofs.lemmas.List.{get_or_default}
use Rattle.std.proofs.lemmas.List.Elements.{Contains-append_right, All-contains}
use Rattle.std.proofs.lemmas.Option.{slice_get_within, get_or_from_slice_get}
use Rattle.file_names.specs.declared.file_name.Action.{Action}
use Rattle.file_names.specs.declared.file_name.FileName.{FileName}
use Rattle.file_names.specs.declared.file_name.FileName.TheVariants.{Instant}
use Rattle.file_names.specs.declared.file_name.State.{State}
use Rattle.file_names.specs.declared.file_name.State.TheVariants.{Requested, Inflight, Completed}
use Rattle.instant_line.specs.Line.{Line, IsLine, IsAt}
use Rattle.instant_line.specs.LineFiles.{LacksEarlier, HasFile, AreFilesOf, BreaksAt}
use Rattle.instant_line.proofs.InTime.{same-place, cons-cases, cons-here}
use Rattle.instant_line.specs.Line.{AreInTime}
use Rattle.instant_line.proofs.Moves.{Done, Begun, done_time, begun_time, pending-at, pending-has}

-- ---- one stage

one-member : {X : Type 0} (n : X → ℕ) (xs : List X) (x y : X) → AreInTime n xs → Contains xs x → Contains xs y → n x ≡ n y → x ≡ y
one-member n xs x y rises first second same =
    let e : n (get_or xs first.0 x) ≡ n (get_or xs second.0 x) =
    ap n first.2 ∙ same ∙ sym (ap n (get_or_default xs second.0 x y second.1 ∙ second.2)) in
    let at : first.0 ≡ second.0 = same-place n xs first.0 second.0 x rises first.1 second.1 e in
    sym first.2 ∙ ap (λ k. get_or xs k x) at ∙ get_or_default xs second.0 x y second.1 ∙ second.2

of-pending : (line : Line) (t : ℕ) (a b : Action) (s r : State) → IsLine line → Contains line.pending (t, a, s) → Contains line.pending (t, b, r) → (a ≡ b) × (s ≡ r)
of-pending line t a b s r is first second =
    let e : (t, a, s) ≡ (t, b, r) = one-member begun_time line.pending (t, a, s) (t, b, r) is.pending first second refl in
    (ap (λ (z : Begun). z.1) e, ap (λ (z : Begun). z.2) e)

pub stage-one : (line : Line) (t : ℕ) (a b : Action) (s r : State) → IsLine line → IsAt line t a s → IsAt line t b r → (a ≡ b) × (s ≡ r)
stage-one line t a b Requested Requested is first second = of-pending line t a b Requested Requested is first second
stage-one line t a b Requested Inflight is first second = of-pending line t a b Requested Inflight is first second
stage-one line t a b Requested Completed is first second = absurd (is.apart (t, b) (t, a, Requested) second first refl)
stage-one line t a b Inflight Requested is first second = of-pending line t a b Inflight Requested is first second
stage-one line t a b Inflight Inflight is first second = of-pending line t a b Inflight Inflight is first second
stage-one line t a b Inflight Completed is first second = absurd (is.apart (t, b) (t, a, Inflight) second first refl)
stage-one line t a b Completed Requested is first second = absurd (is.apart (t, a) (t, b, Requested) first second refl)
stage-one line t a b Completed Inflight is first second = absurd (is.apart (t, a) (t, b, Inflight) first second refl)
stage-one line t a b Completed Completed is first second =
    (ap (λ (z : Done). z.1) (one-member done_time line.completed (t, a) (t, b) is.completed first second refl), refl)

-- ---- the same instants

rises-rest : {X : Type 0} (n : X → ℕ) (x : X) (xs : List X) → AreInTime n (x ∷ xs) → AreInTime n xs
rises-rest n x xs rises i j d below short = rises (suc i) (suc j) d (omega arith) (omega arith)

first-below : {X : Type 0} (n : X → ℕ) (x z : X) (xs : List X) → AreInTime n (x ∷ xs) → Contains xs z → n x < n z
first-below n x z xs rises has =
    let short = has.1 in
    let low : n x < n (get_or xs has.0 z) = rises 0 (suc has.0) z (omega arith) (omega arith) in
    let e : n (get_or xs has.0 z) ≡ n z = ap n has.2 in
    omega arith

rest-has : {X : Type 0} (n : X → ℕ) (x y : X) (xs ys : List X) → AreInTime n (x ∷ xs) → x ≡ y → ((z : X) → Contains (x ∷ xs) z → Contains (y ∷ ys) z) → (z : X) → Contains xs z → Contains ys z
rest-has n x y xs ys rises e all z has = elim (cons-cases y ys z (all z (Contains-append_right (x ∷ []) xs z has))) [
  | inl here ↦ (let low = first-below n x z xs rises has in let same : n x ≡ n z = ap n (e ∙ here) in absurd (omega arith))
  | inr rest ↦ rest
]

same-first : {X : Type 0} (n : X → ℕ) (x y : X) (xs ys : List X) → AreInTime n (x ∷ xs) → AreInTime n (y ∷ ys) → Contains (y ∷ ys) x → Contains (x ∷ xs) y → x ≡ y
same-first n x y xs ys first second has-x has-y = elim (cons-cases y ys x has-x) [
  | inl here ↦ sym here
  | inr later ↦ elim (cons-cases x xs y has-y) [
    | inl here ↦ here
    | inr behind ↦ (let low = first-below n y x ys second later in let high = first-below n x y xs first behind in absurd (omega arith))
  ]
]

same-members : {X : Type 0} (n : X → ℕ) (xs ys : List X) → AreInTime n xs → AreInTime n ys → ((z : X) → Contains xs z ↔ Contains ys z) → xs ≡ ys
same-members n [] [] first second same = refl
same-members n [] (y ∷ ys) first second same = absurd (let none = (same y).1 (cons-here y ys) in let short = none.1 in omega arith)
same-members n (x ∷ xs) [] first second same = absurd (let none = (same x).0 (cons-here x xs) in let short = none.1 in omega arith)
same-members n (x ∷ xs) (y ∷ ys) first second same =
    let e : x ≡ y = same-first n x y xs ys first second ((same x).0 (cons-here x xs)) ((same y).1 (cons-here y ys)) in
    let rest : xs ≡ ys = same-members n xs ys (rises-rest n x xs first) (rises-rest n y ys second)
    (λ z. (rest-has n x y xs ys first e (λ w. (same w).0) z, rest-has n y x ys xs second (sym e) (λ w. (same w).1) z)) in
    λ i. e i ∷ rest i

-- what both say of each time
abbrev pub AreAlike : Line → Line → Type 0
AreAlike x y = (t : ℕ) (a : Action) (s : State) → IsAt x t a s ↔ IsAt y t a s

same-pending : (x y : Line) → IsLine x → ((t : ℕ) (a : Action) (s : State) → IsAt x t a s → IsAt y t a s) → (z : Begun) → Contains x.pending z → Contains y.pending z
same-pending x y is same z has =
    let un : z.2 ≢ Completed = All-contains (λ (w : Begun). w.2 ≢ Completed) x.pending z is.unfinished has in
    pending-has y.completed y.pending z.0 z.1 z.2 un (same z.0 z.1 z.2 (pending-at x.completed x.pending is z has))

pub line-same : (x y : Line) → IsLine x → IsLine y → AreAlike x y → x ≡ y
line-same x y first second same =
    let done : x.completed ≡ y.completed = same-members done_time x.completed y.completed first.completed second.completed (λ z. same z.0 z.1 Completed) in
    let begun : x.pending ≡ y.pending = same-members begun_time x.pending y.pending first.pending second.pending
    (λ z. (same-pending x y first (λ t a s. (same t a s).0) z, same-pending y x second (λ t a s. (same t a s).1) z)) in
    λ i. record { completed = done i; pending = begun i }

-- ---- the files of a line

-- a file tells a state of its instant, at or behind its own
file-stage : (line : Line) (t : ℕ) (a : Action) (s : State) → HasFile line t a s → (r : State) × IsAt line t a r
file-stage line t a Completed file = (Completed, file)
file-stage line t a Inflight file = elim file [ inl here ↦ (Inflight, here) | inr done ↦ (Completed, done) ]
file-stage line t a Requested file = elim file [
  | inl here ↦ (Requested, here)
  | inr later ↦ elim later [ inl here ↦ (Inflight, here) | inr done ↦ (Completed, done) ]
]

name-has : (names : List FileName) (i t : ℕ) (a : Action) (s : State) → BreaksAt names i t a s → Contains names (Instant t a s)
name-has names i t a s b = (i, slice_get_within names i (Instant t a s) b.is, get_or_from_slice_get names i (Instant t a s) (Instant t a s) b.is)

pub files-unbroken : (line : Line) (names : List FileName) (i t : ℕ) (a : Action) (s : State) → IsLine line → AreFilesOf line names → BreaksAt names i t a s → ⊥
files-unbroken line names i t a s is files b = elim b.breaks [
  | inl lacks ↦ by_state s lacks ((files t a s).0 (name-has names i t a s b))
  | inr second ↦
      let own = file-stage line t a s ((files t a s).0 (name-has names i t a s b)) in
      let their = file-stage line t second.0 second.1 ((files t second.0 second.1).0 second.3) in
      second.2 (stage-one line t second.0 a their.0 own.0 is their.1 own.1).0
]
  where
    by_state : (r : State) → LacksEarlier (λ u other at. Contains names (Instant u other at)) t a r → HasFile line t a r → ⊥
    by_state Requested lacks file = lacks
    by_state Inflight lacks file = lacks ((files t a Requested).1 (elim file [ inl here ↦ inr (inl here) | inr done ↦ inr (inr done) ]))
    by_state Completed lacks file = lacks ((files t a Inflight).1 (inr file))

-- a requested instant has no file of a later state, and an inflight one no completed one
requested-alone : (line : Line) (t : ℕ) (a : Action) → IsLine line → IsAt line t a Requested → HasFile line t a Inflight → ⊥
requested-alone line t a is at file = elim file [
  | inl here ↦ (let e : Requested ≡ Inflight = (stage-one line t a a Requested Inflight is at here).1 in cc)
  | inr done ↦ (let e : Requested ≡ Completed = (stage-one line t a a Requested Completed is at done).1 in cc)
]

inflight-alone : (line : Line) (t : ℕ) (a : Action) → IsLine line → IsAt line t a Inflight → HasFile line t a Completed → ⊥
inflight-alone line t a is at done = let e : Inflight ≡ Completed = (stage-one line t a a Inflight Completed is at done).1 in cc

-- which files a line has tells its instants
stage-files : (x y : Line) (names : List FileName) → IsLine y → AreFilesOf x names → AreFilesOf y names → (t : ℕ) (a : Action) (s : State) → IsAt y t a s → IsAt x t a s
stage-files x y names is first second t a Completed at = (first t a Completed).0 ((second t a Completed).1 at)
stage-files x y names is first second t a Inflight at = elim ((first t a Inflight).0 ((second t a Inflight).1 (inl at))) [
  | inl here ↦ here
  | inr done ↦ absurd (inflight-alone y t a is at ((second t a Completed).0 ((first t a Completed).1 done)))
]
stage-files x y names is first second t a Requested at = elim ((first t a Requested).0 ((second t a Requested).1 (inl at))) [
  | inl here ↦ here
  | inr later ↦ absurd (requested-alone y t a is at ((second t a Inflight).0 ((first t a Inflight).1 later)))
]

pub line-of-files : (x y : Line) (names : List FileName) → IsLine x → IsLine y → AreFilesOf x names → AreFilesOf y names → x ≡ y
line-of-files x y names is-x is-y first second =
    line-same x y is-x is-y (λ t a s. (stage-files y x names is-x second first t a s, stage-files x y names is-y first second t a s))
