-- Rows and columns of cells.
use Rattle.std.proofs.Common.{◌≡◌, ℕ, zero, suc, ◌+◌, ◌-◌, ◌<◌, ◌≤◌, List, [], ◌∷◌, ◌++◌, length, take, drop, map, get_or, reverse, refl, sym, ap, subst, ◌∙◌, arith}
use Rattle.std.specs.List.{AllByRecursion, range_with_len}
use Rattle.std.proofs.Math.Seq.{take-append_seam, get_or-append_seam}
use Rattle.std.proofs.lemmas.List.{length-append, length-take, get_or-take, reverse-reverse, take_more, map-append, length-map, get_or-append_right, get_or-drop}
use Rattle.hudi_base.specs.declared.value.Value.{Value}
use Rattle.hudi_base.specs.declared.value.Value.TheVariants.{Null}
use Rattle.base_cells.specs.Turned.{cells_at, turned}
use Rattle.std.proofs.lemmas.Grind.{reverse_onto}
use Rattle.parquet_pages.proofs.BitsLemmas.{take_all}

-- what a `pop` of a list of so many cells gives and leaves
pub popped : (last : ℕ) (old new : List Value) (cell : Value) → length old ≡ suc last → old ≡ new ++ cell ∷ [] → (new ≡ take last old) × (get_or old last Null ≡ cell)
popped last old new cell len e =
    let n : length new ≡ last = omega (arith, length-append new (cell ∷ []), ap length e, len) in (
      sym (take-append_seam new (cell ∷ [])) ∙ ap (λ (k : ℕ). take k (new ++ cell ∷ [])) n ∙ ap (take last) (sym e),
      ap (λ (xs : List Value). get_or xs last Null) e ∙ ap (λ (k : ℕ). get_or (new ++ cell ∷ []) k Null) (sym n) ∙ get_or-append_seam new cell [] Null,
    )

take-less : (m n : ℕ) (xs : List Value) → m ≤ n → take m (take n xs) ≡ take m xs
take-less zero n xs le = refl
take-less (suc m) zero xs le = absurd (omega arith)
take-less (suc m) (suc n) [] le = refl
take-less (suc m) (suc n) (x ∷ xs) le = ap (λ (ys : List Value). x ∷ ys) (take-less m n xs (omega arith))

-- fewer of fewer
pub takes-less : (m n : ℕ) (lists : List (List Value)) → m ≤ n → map (take m) (map (take n) lists) ≡ map (take m) lists
takes-less m n [] le = refl
takes-less m n (cells ∷ lists) le = ap (λ (x : List Value). x ∷ map (take m) (map (take n) lists)) (take-less m n cells le) ∙ ap (λ (xs : List (List Value)). take m cells ∷ xs) (takes-less m n lists le)

-- a cell that is among the first
pub cells_at-takes : (i n : ℕ) (lists : List (List Value)) → i < n → cells_at (map (take n) lists) i ≡ cells_at lists i
cells_at-takes i n [] lt = refl
cells_at-takes i n (cells ∷ lists) lt = ap (λ (x : Value). x ∷ cells_at (map (take n) lists) i) (get_or-take n cells i Null lt) ∙ ap (λ (xs : List Value). get_or cells i Null ∷ xs) (cells_at-takes i n lists lt)

-- the first cells of lists that have as many
pub takes-long : (k n : ℕ) (lists : List (List Value)) → k ≤ n → AllByRecursion (λ cells. length cells ≡ n) lists → AllByRecursion (λ cells. length cells ≡ k) (map (take k) lists)
takes-long k n [] le all = tt
takes-long k n (cells ∷ lists) le all = (omega (arith, length-take k cells, all.0), takes-long k n lists le all.1)

-- one of lists that have as many
pub long_at : (n i : ℕ) (lists : List (List Value)) (d : List Value) → i < length lists → AllByRecursion (λ cells. length cells ≡ n) lists → length (get_or lists i d) ≡ n
long_at n i [] d lt all = absurd (omega arith)
long_at n zero (cells ∷ lists) d lt all = all.0
long_at n (suc i) (cells ∷ lists) d lt all = long_at n i lists d (omega arith) all.1

-- the cell of one list more
pub cells_at-more : (i last : ℕ) (lists : List (List Value)) (d : List Value) → i < length lists → cells_at (take (i + 1) lists) last ≡ cells_at (take i lists) last ++ get_or (get_or lists i d) last Null ∷ []
cells_at-more i last lists d lt =
    ap (λ (xs : List (List Value)). cells_at xs last) (take_more lists i d lt) ∙ map-append (λ (cells : List Value). get_or cells last Null) (take i lists) (get_or lists i d ∷ [])

-- the list at an index, in front of which the last cells were taken away
pub not_yet_taken : (last i : ℕ) (xs ys : List (List Value)) (d : List Value) → i < length xs → ys ≡ map (take last) (take i xs) ++ drop i xs → get_or ys i d ≡ get_or xs i d
not_yet_taken last i xs ys d lt e =
    let len : length (map (take {A = Value} last) (take i xs)) ≡ i = length-map (take i xs) (take {A = Value} last) ∙ length-take i xs ∙ omega arith in
    ap (λ (lists : List (List Value)). get_or lists i d) e ∙ get_or-append_right (map (take last) (take i xs)) (drop i xs) i i d len (omega arith) ∙ get_or-drop i xs (i - i) d ∙ ap (λ (k : ℕ). get_or xs k d) (omega arith)

-- ---- the loop over the indices, from the last one

-- lists that have as many cells are their first cells
pub takes-all : (n : ℕ) (lists : List (List Value)) → AllByRecursion (λ cells. length cells ≡ n) lists → lists ≡ map (take n) lists
takes-all n [] all = refl
takes-all n (cells ∷ lists) all = ap (λ (x : List Value). x ∷ lists) (sym (take_all n cells (omega (arith, all.0)))) ∙ ap (λ (xs : List (List Value)). take n cells ∷ xs) (takes-all n lists all.1)

pub left_long : (left n : ℕ) (lists rest : List (List Value)) → 0 < left → left ≤ n → rest ≡ map (take left) lists → AllByRecursion (λ cells. length cells ≡ n) lists → AllByRecursion (λ cells. length cells ≡ suc (left - 1)) rest
left_long left n lists rest some le e all =
    let one : left ≡ suc (left - 1) = omega arith in
    subst (λ (xs : List (List Value)). AllByRecursion (λ (cells : List Value). length cells ≡ suc (left - 1)) xs) (sym e)
    (subst (λ (k : ℕ). AllByRecursion (λ (cells : List Value). length cells ≡ k) (map (take left) lists)) one (takes-long left n lists le all))

range_step : (f : ℕ → List Value) (m k : ℕ) → reverse (map f (range_with_len m (suc k))) ≡ reverse (map f (range_with_len (m + 1) k)) ++ f m ∷ []
range_step f m k = reverse_onto (map f (range_with_len (m + 1) k)) (f m) []

pub turned_step : (left n : ℕ) (lists rest : List (List Value)) (cells : List Value) (before after : List (List Value)) → 0 < left → left ≤ n → rest ≡ map (take left) lists → cells ≡ cells_at rest (left - 1)
    → before ≡ reverse (map (cells_at lists) (range_with_len left (n - left))) → after ≡ before ++ cells ∷ [] → after ≡ reverse (map (cells_at lists) (range_with_len (left - 1) (n - (left - 1))))
turned_step left n lists rest cells before after some le e is f g =
    let one : left - 1 + 1 ≡ left = omega arith in
    let count : n - (left - 1) ≡ suc (n - left) = omega arith in
    let cell : cells ≡ cells_at lists (left - 1) = is ∙ ap (λ (xs : List (List Value)). cells_at xs (left - 1)) e ∙ cells_at-takes (left - 1) left lists (omega arith) in
    g ∙ ap (λ (xs : List (List Value)). xs ++ cells ∷ []) f ∙ ap (λ (x : List Value). reverse (map (cells_at lists) (range_with_len left (n - left))) ++ x ∷ []) cell
    ∙ sym (ap (λ (k : ℕ). reverse (map (cells_at lists) (range_with_len (left - 1) k))) count
    ∙ range_step (cells_at lists) (left - 1) (n - left)
    ∙ ap (λ (k : ℕ). reverse (map (cells_at lists) (range_with_len k (n - left))) ++ cells_at lists (left - 1) ∷ []) one)

pub turned_none : (n : ℕ) (lists : List (List Value)) → [] ≡ reverse (map (cells_at lists) (range_with_len n (n - n)))
turned_none n lists = let none : 0 ≡ n - n = omega arith in ap (λ (k : ℕ). reverse (map (cells_at lists) (range_with_len n k))) none

pub turned_end : (left n : ℕ) (lists backwards : List (List Value)) → left ≤ 0 → backwards ≡ reverse (map (cells_at lists) (range_with_len left (n - left))) → reverse backwards ≡ turned n lists
unfolding turned
turned_end left n lists backwards none e =
    let zero_left : left ≡ 0 = omega arith in
    let count : n - left ≡ n = omega arith in
    ap (reverse {A = List Value}) e ∙ reverse-reverse (map (cells_at lists) (range_with_len left (n - left)))
    ∙ ap (λ (k : ℕ). map (cells_at lists) (range_with_len left k)) count ∙ ap (λ (k : ℕ). map (cells_at lists) (range_with_len k n)) zero_left
