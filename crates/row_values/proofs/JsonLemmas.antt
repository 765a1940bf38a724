-- The values of fields, one after another.
use Rattle.std.proofs.Common.{◌≡◌, ℕ, ◌+◌, ◌<◌, ◌≤◌, if◌then◌else◌, Bool, true, false, List, [], ◌∷◌, ◌++◌, length, get_or, drop, Option, Some, None, Result, Ok, Err, ◌⊎◌, inl, inr, refl, sym, ap, subst, ◌∙◌}
use Rattle.std.proofs.lemmas.List.{drop_more, drop_all}
use Rattle.serde_json.specs.Data.{Data}
use Rattle.hudi_base.specs.declared.value.Value.{Value}
use Rattle.row_values.specs.declared.flat_field.FlatField.{FlatField}
use Rattle.payload_merge.specs.declared.row_error.RowError.{RowError}
use Rattle.payload_merge.specs.declared.row_error.RowError.TheVariants.{Memory, Mismatch}
use Rattle.row_values.specs.JsonRows.{AnswersValues, member_value, values_from, values_of_json, with_value}

module _ (only : Bool) (d : Data) (fields : List FlatField) (i : ℕ) (found : List Value) (total : Result (List Value) ℕ) where
  -- what the fields from this one on give is what all give
  abbrev pub Left : Type 0
  Left = values_from only d (drop i fields) found ≡ total

  one_more : (f : FlatField) → i < length fields → f ≡ get_or fields i f → Left
      → with_value (member_value d f) (length found) (λ v. values_from only d (drop (i + 1) fields) (found ++ v ∷ [])) ≡ total
  unfolding values_from
  one_more f within is left =
      sym (ap (λ (fs : List FlatField). values_from only d fs found) (drop_more fields i f within ∙ ap (λ (g : FlatField). g ∷ drop (i + 1) fields) (sym is))) ∙ left

  pub values_more : (f : FlatField) (v : Value) → i < length fields → f ≡ get_or fields i f → member_value d f ≡ Some v → Left
      → values_from only d (drop (i + 1) fields) (found ++ v ∷ []) ≡ total
  values_more f v within is told left =
      sym (ap (λ (o : Option Value). with_value o (length found) (λ u. values_from only d (drop (i + 1) fields) (found ++ u ∷ []))) told) ∙ one_more f within is left

  pub values_stop : (f : FlatField) → i < length fields → f ≡ get_or fields i f → member_value d f ≡ None → Left → total ≡ Err (length found)
  values_stop f within is told left =
      sym (one_more f within is left) ∙ ap (λ (o : Option Value). with_value o (length found) (λ u. values_from only d (drop (i + 1) fields) (found ++ u ∷ []))) told

  at_end : length fields ≤ i → Left → values_from only d [] found ≡ total
  at_end over left = sym (ap (λ (fs : List FlatField). values_from only d fs found) (drop_all i fields over)) ∙ left

  pub values_end : length fields ≤ i → only ≡ true → Left → total ≡ Ok found
  unfolding values_from
  values_end over is left = let f : Bool → Result (List Value) ℕ = λ b. (if b then Ok found else Err (length found)) in sym (at_end over left) ∙ ap f is

  pub values_other : length fields ≤ i → only ≡ false → Left → total ≡ Err (length found)
  unfolding values_from
  values_other over is left = let f : Bool → Result (List Value) ℕ = λ b. (if b then Ok found else Err (length found)) in sym (at_end over left) ∙ ap f is

-- the refusal of a place
pub answers_mismatch : (fields : List FlatField) (d : Data) (error : RowError) (place n : ℕ) → (error ≡ Mismatch place) ⊎ (error ≡ Memory) → values_of_json fields d ≡ Err n → place ≡ n → AnswersValues fields d (Err error)
answers_mismatch fields d error place n (inl e) told same =
    let err : ℕ → Result (List Value) ℕ = λ k. Err k in
    subst (λ (r : RowError). AnswersValues fields d (Err r)) (sym e) (told ∙ ap err (sym same))
answers_mismatch fields d error place n (inr e) told same = subst (λ (r : RowError). AnswersValues fields d (Err r)) (sym e) refl
