-- The names of tables: their bytes.
use Rattle.std.proofs.Common.{◌≡◌, ℕ, zero, suc, ◌<◌, ◌&&◌, IsTrue, IsAscii, IsUtf8, true, nat_le, List, [], ◌∷◌, length, arith}
use Rattle.std.proofs.lemmas.Bool.Decides.{nat_tests}
use Rattle.std.proofs.lemmas.Str.{IsUtf8-from_ascii}
use Rattle.std.specs.List.{list_all}
use Rattle.table_forms.specs.NameForms.{is_table_name_byte}
use Rattle.table_forms.proofs.PieceLemmas.{and_parts}
use Rattle.table_props.specs.Keys.{is_table_name}

ascii_byte : (b : ℕ) → is_table_name_byte b ≡ true → b < 128
ascii_byte b h = grind (arith, nat_tests)

ascii_bytes : (text : List ℕ) → list_all is_table_name_byte text ≡ true → IsAscii text
ascii_bytes [] h i = omega arith
ascii_bytes (b ∷ bs) h zero = ascii_byte b (and_parts (is_table_name_byte b) (list_all is_table_name_byte bs) h).0
ascii_bytes (b ∷ bs) h (suc i) = ascii_bytes bs (and_parts (is_table_name_byte b) (list_all is_table_name_byte bs) h).1 i

name_bytes : (text : List ℕ) → IsTrue (is_table_name text) → list_all is_table_name_byte text ≡ true
name_bytes text h = (and_parts (nat_le 1 (length text) && nat_le (length text) 64) (list_all is_table_name_byte text) h).1

pub IsUtf8-table_name : (text : List ℕ) → IsTrue (is_table_name text) → IsUtf8 text
IsUtf8-table_name text h = IsUtf8-from_ascii text (ascii_bytes text (name_bytes text h))

no_feed : (b : ℕ) → is_table_name_byte b ≡ true → (b ≡ 10 → ⊥)
no_feed b h e = grind (arith, nat_tests)
