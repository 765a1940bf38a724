-- An operation changes the file that it names and no other.
use Rattle.std.proofs.Common.{◌≡◌, ◌⊎◌, inl, inr, ℕ, Bool, true, false, cond, List, [], ◌++◌, Option, Some, None, unwrap_or, Ordering, refl, sym, ap, ◌∙◌}
use Rattle.std.specs.Ordering.{nat_cmp, eq_by_cmp, is_eq}
use Rattle.std.specs.declared.cmp.Ordering.TheVariants.{Less, Equal, Greater}
use Rattle.std.specs.Cmp.Lexicographic.{slice_cmp}
use Rattle.std.specs.FinMap.{get, insert, get-insert, get-remove}
use Rattle.std.proofs.lemmas.Cmp.{nat_list_cmp_total, tied_itself}
use Rattle.std.proofs.lemmas.Map.Lookups.{exact_bytes}
use Rattle.hudi_base.specs.Files.{FileMap, changed, content}
use Rattle.hudi_base.specs.declared.operation.Operation.{Operation}
use Rattle.hudi_base.specs.declared.operation.Operation.TheVariants.{Create, Append, Remove}
use Rattle.table_images.specs.Frames.{name_of_operation}

abbrev same_name : List ℕ → List ℕ → Bool
same_name = eq_by_cmp (slice_cmp nat_cmp)

is_same : (q n : List ℕ) → same_name q n ≡ true → q ≡ n
is_same q n e = by_order (slice_cmp nat_cmp q n) refl e
  where
    by_order : (r : Ordering) → slice_cmp nat_cmp q n ≡ r → is_eq r ≡ true → q ≡ n
    by_order Less is e = cc
    by_order Equal is e = exact_bytes q n is
    by_order Greater is e = cc

itself : (q : List ℕ) → same_name q q ≡ true
itself q = ap is_eq (tied_itself nat_list_cmp_total q)

-- two names are one, or they aren't
pub one_name : (q n : List ℕ) → (q ≡ n) ⊎ (q ≡ n → ⊥)
one_name q n = by_test (same_name q n) refl
  where
    by_test : (b : Bool) → same_name q n ≡ b → (q ≡ n) ⊎ (q ≡ n → ⊥)
    by_test true is = inl (is_same q n is)
    by_test false isnt = inr (λ same. let yes : same_name q n ≡ true = ap (same_name q) (sym same) ∙ itself q in let wrong : true ≡ false = sym yes ∙ isnt in cc)

other_name : (q n : List ℕ) → (q ≡ n → ⊥) → same_name q n ≡ false
other_name q n apart = by_test (same_name q n) refl
  where
    by_test : (b : Bool) → same_name q n ≡ b → same_name q n ≡ false
    by_test true is = absurd (apart (is_same q n is))
    by_test false is = is

pub get_here : (files : FileMap) (name bytes : List ℕ) → get (insert files name bytes) name ≡ Some bytes
get_here files name bytes = get-insert nat_list_cmp_total files name bytes name ∙ ap (λ b. cond b (Some bytes) (get files name)) (itself name)

pub get_apart : (files : FileMap) (name bytes q : List ℕ) → (q ≡ name → ⊥) → get (insert files name bytes) q ≡ get files q
get_apart files name bytes q apart = get-insert nat_list_cmp_total files name bytes q ∙ ap (λ b. cond b (Some bytes) (get files q)) (other_name q name apart)

-- the frame: an operation leaves every other file
pub elsewhere : (files : FileMap) (operation : Operation) (q : List ℕ) → (q ≡ name_of_operation operation → ⊥) → get (changed files operation) q ≡ get files q
elsewhere files (Create name bytes) q apart = get_apart files name bytes q apart
elsewhere files (Append name bytes) q apart = get_apart files name (content files name ++ bytes) q apart
elsewhere files (Remove name) q apart = get-remove nat_list_cmp_total files name q ∙ ap (λ b. cond b None (get files q)) (other_name q name apart)

pub same_content : (files others : FileMap) (name : List ℕ) → get files name ≡ get others name → content files name ≡ content others name
same_content files others name same = ap (λ (o : Option (List ℕ)). unwrap_or o []) same
