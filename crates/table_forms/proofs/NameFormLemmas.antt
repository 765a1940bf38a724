-- The names of tables and of partitions: their bytes.
use Rattle.std.proofs.lemmas.Str.{IsUtf8-from_ascii}
use Rattle.std.proofs.Common.{◌≡◌, ℕ, zero, suc, ◌<◌, IsAscii, IsUtf8, true, not, nat_eq, List, [], ◌∷◌, refl, arith}
use Rattle.std.proofs.lemmas.Bool.Decides.{nat_tests}
use Rattle.std.specs.List.{list_all}
use Rattle.table_forms.specs.NameForms.{IsPartitionPath, is_partition_byte}
use Rattle.table_forms.proofs.PieceLemmas.{lacks, and_parts, both}

not_slash : (b : ℕ) → is_partition_byte b ≡ true → not (nat_eq b 47) ≡ true
not_slash b h = grind (arith, nat_tests)

ascii_byte : (b : ℕ) → is_partition_byte b ≡ true → b < 128
ascii_byte b h = grind (arith, nat_tests)

no_slashes : (text : List ℕ) → list_all is_partition_byte text ≡ true → lacks 47 text ≡ true
no_slashes [] h = refl
no_slashes (b ∷ bs) h =
    let parts = and_parts (is_partition_byte b) (list_all is_partition_byte bs) h in
    both (not (nat_eq b 47)) (lacks 47 bs) (not_slash b parts.0) (no_slashes bs parts.1)

-- a partition's path is one folder
pub partition_has_no_slash : (text : List ℕ) → IsPartitionPath text → lacks 47 text ≡ true
partition_has_no_slash text path = no_slashes text path.bytes

ascii_bytes : (text : List ℕ) → list_all is_partition_byte text ≡ true → IsAscii text
ascii_bytes [] h i = omega arith
ascii_bytes (b ∷ bs) h zero = ascii_byte b (and_parts (is_partition_byte b) (list_all is_partition_byte bs) h).0
ascii_bytes (b ∷ bs) h (suc i) = ascii_bytes bs (and_parts (is_partition_byte b) (list_all is_partition_byte bs) h).1 i

-- it is a text
pub IsUtf8-partition : (text : List ℕ) → IsPartitionPath text → IsUtf8 text
IsUtf8-partition text path = IsUtf8-from_ascii text (ascii_bytes text path.bytes)
