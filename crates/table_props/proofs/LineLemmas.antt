-- Lines of a text.
use Rattle.std.proofs.Common.{◌≡◌, ℕ, ◌+◌, ◌<◌, ◌==◌, Bool, true, false, cond, List, [], ◌∷◌, length, take, drop, nat_lt, Option, Some, None, option_map, refl, ap, ◌∙◌, arith, length-drop}
use Rattle.std.specs.List.{slice_split, onto_first, position_or_len}
use Rattle.std.proofs.lemmas.Bool.Decides.{nat_tests}
use Rattle.std.proofs.lemmas.List.Splits.{slice_split_first, slice_split-cons_no, length-slice_split}
use Rattle.table_forms.specs.Pieces.{split_once}
use Rattle.table_props.specs.PropsTexts.{unended, lines_of}

abbrev ends_line : ℕ → Bool
ends_line b = b == 10

-- a part with others behind it is a line that has ended
ended_part : (part : List ℕ) (parts : List (List ℕ)) → 0 < length parts → unended (part ∷ parts) ≡ part ∷ unended parts
ended_part part [] h = absurd (omega arith)
ended_part part (next ∷ parts) h = refl

pub passes_first : {A : Type 0} (p : A → Bool) (x : A) (xs : List A) → p x ≡ true → nat_lt (position_or_len p (x ∷ xs)) (length (x ∷ xs)) ≡ true
passes_first p x xs e = rw e (grind (arith, nat_tests))

pub fails_first : {A : Type 0} (p : A → Bool) (x : A) (xs : List A) → p x ≡ false → nat_lt (position_or_len p (x ∷ xs)) (length (x ∷ xs)) ≡ false → nat_lt (position_or_len p xs) (length xs) ≡ false
fails_first p x xs e over = let h = rw e at over in grind (arith, nat_tests)

over_step : (p : ℕ → Bool) (x : ℕ) (xs : List ℕ) (b : Bool) → p x ≡ b → nat_lt (position_or_len p (x ∷ xs)) (length (x ∷ xs)) ≡ false
    → (nat_lt (position_or_len p xs) (length xs) ≡ false → slice_split p xs ≡ xs ∷ []) → slice_split p (x ∷ xs) ≡ (x ∷ xs) ∷ []
over_step p x xs true e over more = let h = passes_first p x xs e in absurd cc
over_step p x xs false e over more = slice_split-cons_no p x xs e ∙ ap (onto_first x) (more (fails_first p x xs e over))

-- where no element passes, the list is the one part
slice_split_over : (p : ℕ → Bool) (xs : List ℕ) → nat_lt (position_or_len p xs) (length xs) ≡ false → slice_split p xs ≡ xs ∷ []
slice_split_over p [] over = refl
slice_split_over p (x ∷ xs) over = over_step p x xs (p x) refl over (slice_split_over p xs)

module _ (bs : List ℕ) where
  abbrev first_feed : ℕ
  first_feed = position_or_len ends_line bs

  abbrev split_if : Bool → Option (List ℕ × List ℕ)
  split_if test = option_map (λ at. (take at bs, drop (at + 1) bs)) (cond test (Some first_feed) None)

  step : (line rest : List ℕ) (test : Bool) → nat_lt first_feed (length bs) ≡ test → split_if test ≡ Some (line, rest) → (lines_of bs ≡ line ∷ lines_of rest) × (length rest < length bs)
  unfolding lines_of
  step line rest false e is = absurd cc
  step line rest true e is =
      let within : first_feed < length bs = grind (arith, nat_tests) in
      let some : 0 < length (slice_split ends_line (drop (first_feed + 1) bs)) = omega (arith, length-slice_split ends_line (drop (first_feed + 1) bs)) in
      let same : ◌≡◌ {A = List ℕ × List ℕ} (take first_feed bs, drop (first_feed + 1) bs) (line, rest) = cc in
      let lines : take first_feed bs ≡ line = ap (λ (p : List ℕ × List ℕ). p.0) same in
      let rests : drop (first_feed + 1) bs ≡ rest = ap (λ (p : List ℕ × List ℕ). p.1) same in (
        ap unended (slice_split_first ends_line bs 0 within) ∙ ended_part (take first_feed bs) _ some ∙ ap (λ (p : List ℕ × List ℕ). p.0 ∷ unended (slice_split ends_line p.1)) same,
        omega (arith, length-drop (first_feed + 1) bs, ap length rests),
      )

  pub lines_step : (line rest : List ℕ) → split_once 10 bs ≡ Some (line, rest) → (lines_of bs ≡ line ∷ lines_of rest) × (length rest < length bs)
  lines_step line rest is = step line rest (nat_lt first_feed (length bs)) refl is

  end : (test : Bool) → nat_lt first_feed (length bs) ≡ test → split_if test ≡ None → lines_of bs ≡ unended (bs ∷ [])
  unfolding lines_of
  end true e is = absurd cc
  end false e is = ap unended (slice_split_over ends_line bs e)

  -- without a line feed
  pub lines_end : split_once 10 bs ≡ None → lines_of bs ≡ unended (bs ∷ [])
  lines_end is = end (nat_lt first_feed (length bs)) refl is
