-- The lines of bytes, one taken off the front.
use Rattle.std.proofs.Common.{◌≡◌, ℕ, zero, suc, ◌+◌, ◌<◌, ◌≤◌, List, [], ◌∷◌, length, get_or, take, drop, Bool, true, false, eqb, refl, ap, ◌∙◌, arith, add-one}
use Rattle.std.specs.List.{slice_split, onto_first}
use Rattle.std.specs.Str.Lines.{lines, lines_of_parts, strip_carriage_return}
use Rattle.std.proofs.lemmas.List.Splits.{slice_split-cons_yes, slice_split-cons_no, length-slice_split}

abbrev ends_line : ℕ → Bool
ends_line byte = eqb byte 10

-- the part before the first line feed, and the parts behind it
split_at_feed : (bs : List ℕ) (n : ℕ) → n < length bs → ((k : ℕ) → k < n → ends_line (get_or bs k 0) ≡ false) → ends_line (get_or bs n 0) ≡ true
    → slice_split ends_line bs ≡ take n bs ∷ slice_split ends_line (drop (suc n) bs)
split_at_feed [] n h before here = absurd (omega arith)
split_at_feed (b ∷ bs) zero h before here = slice_split-cons_yes ends_line b bs here
split_at_feed (b ∷ bs) (suc n) h before here =
    slice_split-cons_no ends_line b bs (before 0 (omega arith))
    ∙ ap (onto_first b) (split_at_feed bs n (omega arith) (λ k l. before (suc k) (omega arith)) here)

-- without a line feed there is one part
split_nowhere : (bs : List ℕ) → ((k : ℕ) → k < length bs → ends_line (get_or bs k 0) ≡ false) → slice_split ends_line bs ≡ bs ∷ []
split_nowhere [] none = refl
split_nowhere (b ∷ bs) none =
    slice_split-cons_no ends_line b bs (none 0 (omega arith))
    ∙ ap (onto_first b) (split_nowhere bs (λ k l. none (suc k) (omega arith)))

-- a part with others behind it is a line that has ended
ended_part : (part : List ℕ) (parts : List (List ℕ)) → 0 < length parts → lines_of_parts (part ∷ parts) ≡ strip_carriage_return part ∷ lines_of_parts parts
ended_part part [] h = absurd (omega arith)
ended_part part (next ∷ parts) h = refl

passes_not : (b : Bool) → ¬ (b ≡ true) → b ≡ false
passes_not true h = absurd (h refl)
passes_not false h = refl

-- no byte at a place from 0 up to n is a line feed
abbrev pub NoFeed : List ℕ → ℕ → Type 0
NoFeed bs n = (k : ℕ) → 0 ≤ k → k < n → ¬ (ends_line (get_or bs k 0) ≡ true)

pub lines-at_feed : (bs : List ℕ) (n : ℕ) → n < length bs → NoFeed bs n → ends_line (get_or bs n 0) ≡ true
    → lines bs ≡ strip_carriage_return (take n bs) ∷ lines (drop (n + 1) bs)
lines-at_feed bs n h before here =
    let none = λ (k : ℕ) (l : k < n). passes_not _ (before k (omega arith) l) in
    let some : 0 < length (slice_split ends_line (drop (suc n) bs)) = omega (arith, length-slice_split ends_line (drop (suc n) bs)) in
    rw (add-one, split_at_feed bs n h none here) (ended_part (take n bs) _ some)

last_part : (bs : List ℕ) → 0 < length bs → lines_of_parts (bs ∷ []) ≡ bs ∷ []
last_part bs h = let e : eqb (length bs) 0 ≡ false = grind arith in rw e refl

pub lines-last : (bs : List ℕ) → 0 < length bs → NoFeed bs (length bs) → lines bs ≡ bs ∷ []
lines-last bs h none =
    ap lines_of_parts (split_nowhere bs (λ k l. passes_not _ (none k (omega arith) l))) ∙ last_part bs h
