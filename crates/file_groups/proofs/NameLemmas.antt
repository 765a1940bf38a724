-- Looking up the names of files.
use Rattle.std.proofs.Common.{◌≡◌, ℕ, zero, suc, ◌<◌, ◌≤◌, Bool, true, false, ◌||◌, nat_lt, List, [], ◌∷◌, length, get_or, Ok, Err, Result, Less, Equal, Greater, refl, sym, ap, ◌∙◌, arith}
use Rattle.std.specs.Prelude.{is_ok}
use Rattle.std.specs.List.{list_any, All, AllByRecursion}
use Rattle.std.specs.List.Sorted.{IsBinarySearchResult, IsPartitionPoint, IsSearchInRange, IsSorted}
use Rattle.std.specs.Ordering.{nat_cmp}
use Rattle.std.specs.Cmp.Lexicographic.{slice_cmp}
use Rattle.std.specs.Str.{bytes_eq}
use Rattle.std.proofs.lemmas.Bool.Decides.{nat_tests}
use borrow.Author.Tests.{ltb-true}
use Rattle.std.proofs.lemmas.Cmp.{nat_list_cmp_total}
use Rattle.std.proofs.lemmas.List.Elements.{recursion_from_All}
use Rattle.std.proofs.lemmas.List.Sorted.{searchable_from_sorted, list_any-IsPermutation}
use Rattle.std.specs.Cmp.Lexicographic.{texts_ties}
use Rattle.file_names.specs.declared.file_name.FileName.{FileName}
use Rattle.file_names.specs.declared.file_name.FileName.TheVariants.{Instant, Base, Log, Properties, Other}
use Rattle.file_groups.specs.Names.{names_of, IsNameTable}
use Rattle.file_groups.specs.Views.{is_named, is_among}

-- ---- by binary search

none_any : (name : List ℕ) (names : List (List ℕ)) → AllByRecursion (λ other. bytes_eq other name ≡ false) names → list_any (λ other. bytes_eq other name) names ≡ false
none_any name [] none = refl
none_any name (x ∷ xs) none = rw (none.0, none_any name xs none.1) refl

or_right : (b : Bool) → (b || true) ≡ true
or_right true = refl
or_right false = refl

some_any : (name : List ℕ) (names : List (List ℕ)) (i : ℕ) → i < length names → bytes_eq (get_or names i []) name ≡ true → list_any (λ other. bytes_eq other name) names ≡ true
some_any name [] i below is = absurd (omega arith)
some_any name (x ∷ xs) zero below is = rw is refl
some_any name (x ∷ xs) (suc i) below is = rw (some_any name xs i (omega arith) is) (or_right (bytes_eq x name))

equal_names : (y name : List ℕ) → slice_cmp nat_cmp y name ≡ Equal → bytes_eq y name ≡ true
equal_names y name e = texts_ties y name ∙ rw e refl

lesser_names : (y name : List ℕ) → slice_cmp nat_cmp y name ≡ Less → bytes_eq y name ≡ false
lesser_names y name e = texts_ties y name ∙ rw e refl

greater_names : (y name : List ℕ) → slice_cmp nat_cmp y name ≡ Greater → bytes_eq y name ≡ false
greater_names y name e = texts_ties y name ∙ rw e refl

pub searched_names : (names : List (List ℕ)) (name : List ℕ) (found : Result ℕ ℕ) → IsSorted (slice_cmp nat_cmp) names → IsSearchInRange found (length names)
    → IsBinarySearchResult (λ y. slice_cmp nat_cmp y name) names found → is_ok found ≡ list_any (λ other. bytes_eq other name) names
searched_names names name (Ok i) sorted range told = sym (some_any name names i range (equal_names (get_or names i []) name (told [])))
searched_names names name (Err i) sorted range told =
    let point = told (searchable_from_sorted nat_list_cmp_total (λ (y : List ℕ). y) names name sorted) in
    let each : All (λ other. bytes_eq other name ≡ false) names = λ k d below. by k d below (nat_lt k i) refl point in
    sym (none_any name names (recursion_from_All (λ other. bytes_eq other name ≡ false) names each))
  where
    by : (k : ℕ) (d : List ℕ) → k < length names → (b : Bool) → nat_lt k i ≡ b → IsPartitionPoint (λ y. slice_cmp nat_cmp y name ≡ Less) (λ y. slice_cmp nat_cmp y name ≡ Greater) names i
        → bytes_eq (get_or names k d) name ≡ false
    by k d below true e point = lesser_names (get_or names k d) name (point.0 k d (omega arith) (ltb-true _ _ e))
    by k d below false e point = let over : i ≤ k = grind (arith, nat_tests) in greater_names (get_or names k d) name (point.1 k d over below)

-- ---- of files

one_name : (table name : List ℕ) (file : FileName) (n : ℕ) (files : List (FileName × ℕ))
    → list_any (λ other. bytes_eq other name) (names_of table ((file, n) ∷ files)) ≡ (is_named table name file || list_any (λ other. bytes_eq other name) (names_of table files))
one_name table name (Instant t action state) n files = refl
one_name table name (Base group token t) n files = refl
one_name table name (Log group slice version token) n files = refl
one_name table name Properties n files = refl
one_name table name Other n files = refl

names_any : (table name : List ℕ) (files : List (FileName × ℕ)) → list_any (λ other. bytes_eq other name) (names_of table files) ≡ is_among table files name
names_any table name [] = refl
names_any table name (f ∷ files) = one_name table name f.0 f.1 files ∙ ap (λ b. is_named table name f.0 || b) (names_any table name files)

-- a table of names tells which names the files have
pub table_tells : (table : List ℕ) (files : List (FileName × ℕ)) (names : List (List ℕ)) → IsNameTable table files names
    → (name : List ℕ) → list_any (λ other. bytes_eq other name) names ≡ is_among table files name
table_tells table files names is name =
    sym (list_any-IsPermutation (λ other. bytes_eq other name) (names_of table files) names is.all) ∙ names_any table name files
