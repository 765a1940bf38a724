-- File ids: their pieces, and what these are made of.
use Rattle.std.proofs.Common.{◌≡◌, ℕ, zero, suc, ◌/◌, ◌<◌, ◌%◌, List, [], ◌∷◌, ◌++◌, length, refl, inl, arith, append_assoc, IsUtf8}
use Rattle.std.proofs.lemmas.Bool.Decides.{nat_tests}
use Rattle.std.proofs.lemmas.Str.{IsUtf8-from_ascii, IsUtf8-append, IsAscii-drop}
use Rattle.std.proofs.lemmas.Str.Ascii.{IsAscii-nil}
use Rattle.std.specs.Str.{IsAscii}
use Rattle.hudi_base.specs.declared.file_group.GroupRef.{GroupRef}
use Rattle.uuid.specs.Text.{hyphenated_text, lower}
use Rattle.uuid.proofs.TextLemmas.{hyphenated_ascii, by_index_length}
use Rattle.file_names.specs.FileId.{hex_digit, four_digits, tail_of, born_text, file_id}

ascii_one : (c : ℕ) (xs : List ℕ) → c < 128 → IsAscii xs → IsAscii (c ∷ xs)
ascii_one c xs small rest zero = small
ascii_one c xs small rest (suc i) = rest i

hex_digit_ascii : (n : ℕ) → hex_digit (n % 16) < 128
hex_digit_ascii n = grind (arith, nat_tests)

four_digits_ascii : (n : ℕ) → IsAscii (four_digits n)
four_digits_ascii n =
    let a : ℕ = hex_digit (n / 4096 % 16) in
    let b : ℕ = hex_digit (n / 256 % 16) in
    let c : ℕ = hex_digit (n / 16 % 16) in
    let d : ℕ = hex_digit (n % 16) in
    ascii_one a (b ∷ c ∷ d ∷ []) (hex_digit_ascii (n / 4096)) (ascii_one b (c ∷ d ∷ []) (hex_digit_ascii (n / 256))
    (ascii_one c (d ∷ []) (hex_digit_ascii (n / 16)) (ascii_one d [] (hex_digit_ascii n) IsAscii-nil)))

tail_ascii : (table partition : List ℕ) → IsAscii (tail_of table partition)
unfolding tail_of
tail_ascii table partition = IsAscii-drop (hyphenated_text lower _) 9 (hyphenated_ascii lower _ (inl refl))

pub IsUtf8-zero : IsUtf8 (48 ∷ [])
IsUtf8-zero = IsUtf8-from_ascii (48 ∷ []) (ascii_one 48 [] (omega arith) IsAscii-nil)

pub IsUtf8-file_id : (table : List ℕ) (group : GroupRef) → IsUtf8 (born_text group.born) → IsUtf8 (file_id table group)
unfolding file_id
IsUtf8-file_id table group born =
    let hyphen : IsUtf8 (45 ∷ []) = IsUtf8-from_ascii (45 ∷ []) (ascii_one 45 [] (omega arith) IsAscii-nil) in
    let tail : IsUtf8 (tail_of table group.partition) = IsUtf8-from_ascii _ (tail_ascii table group.partition) in
    let behind : IsUtf8 (45 ∷ (tail_of table group.partition ++ (45 ∷ born_text group.born))) =
    IsUtf8-append (45 ∷ []) _ hyphen (IsUtf8-append _ _ tail (IsUtf8-append (45 ∷ []) _ hyphen born)) in
    IsUtf8-append (four_digits group.lo) _ (IsUtf8-from_ascii _ (four_digits_ascii group.lo))
    (IsUtf8-append (four_digits group.hi) _ (IsUtf8-from_ascii _ (four_digits_ascii group.hi)) behind)

-- the pieces one after another, as they are pushed
pub file_id-pushed : (table : List ℕ) (group : GroupRef)
    → (((((four_digits group.lo ++ four_digits group.hi) ++ 45 ∷ []) ++ tail_of table group.partition) ++ 45 ∷ []) ++ born_text group.born) ≡ file_id table group
unfolding file_id
file_id-pushed table group = simp append_assoc

pub hyphenated_length : (xs : List ℕ) → length (hyphenated_text lower xs) ≡ 36
hyphenated_length xs = by_index_length 36 _

pub ruleset id_pieces = (IsUtf8-zero, IsUtf8-file_id, file_id-pushed, hyphenated_length)
