-- The test of a partition's path tells paths.
use Rattle.std.proofs.Common.{◌≡◌, ◌≢◌, ◌≤◌, ℕ, Bool, true, false, ◌&&◌, ◌==◌, not, leb, List, length, refl, sym, ap, ◌∙◌, arith}
use Rattle.std.specs.Prelude.{◌↔◌, IsTrue, slice_index}
use Rattle.std.specs.List.{list_all}
use Rattle.std.proofs.lemmas.Bool.{and_parts, leb-true, false_from_ne_true}
use Rattle.std.proofs.lemmas.Bool.Decides.{nat_tests}
use Rattle.table_forms.specs.NameForms.{IsPartitionPath, is_partition_byte}
use Rattle.table_jobs.specs.NewRows.{is_path}

other : (a b : ℕ) → not (a == b) ≡ true → a ≢ b
other a b apart = grind (arith, nat_tests)

apart : (a b : ℕ) → a ≢ b → not (a == b) ≡ true
apart a b ne = grind (arith, nat_tests)

at_most : (a b : ℕ) → a ≤ b → leb a b ≡ true
at_most a b le = grind (arith, nat_tests)

pub path_from_test : (text : List ℕ) → is_path text ≡ true → IsPartitionPath text
path_from_test text passes =
    let four = and_parts (leb 1 (length text) && leb (length text) 200 && not (slice_index text 0 == 46)) (list_all is_partition_byte text) passes in
    let three = and_parts (leb 1 (length text) && leb (length text) 200) (not (slice_index text 0 == 46)) four.0 in
    let two = and_parts (leb 1 (length text)) (leb (length text) 200) three.0 in
    record { filled = leb-true _ _ two.0; short = leb-true _ _ two.1; seen = other (slice_index text 0) 46 three.1; bytes = four.1 }

all_true : (a b : Bool) → a ≡ true → b ≡ true → (a && b) ≡ true
all_true true b is more = more
all_true false b is more = is

pub test_from_path : (text : List ℕ) → IsPartitionPath text → is_path text ≡ true
test_from_path text path =
    all_true (leb 1 (length text) && leb (length text) 200 && not (slice_index text 0 == 46)) (list_all is_partition_byte text)
    (all_true (leb 1 (length text) && leb (length text) 200) (not (slice_index text 0 == 46))
    (all_true (leb 1 (length text)) (leb (length text) 200) (at_most 1 (length text) path.filled) (at_most (length text) 200 path.short)) (apart (slice_index text 0) 46 path.seen))
    path.bytes

-- a function that tells paths gives what the test gives
pub path_told : (told : Bool) (text : List ℕ) → (IsTrue told ↔ IsPartitionPath text) → told ≡ is_path text
path_told true text tells = sym (test_from_path text (tells.0 refl))
path_told false text tells = sym (false_from_ne_true (is_path text) (λ passes. let wrong : false ≡ true = tells.1 (path_from_test text passes) in cc))
