-- A list of two words.
use Rattle.std.proofs.Common.{◌≡◌, List, [], ◌∷◌, length, map, get_or, String, Global, string_bytes, arith}

-- by its places
pub two_words : (words : List (String Global)) (a b : String Global) → length words ≡ 2 → a ≡ get_or words 0 a → b ≡ get_or words 1 b
    → map string_bytes words ≡ string_bytes a ∷ string_bytes b ∷ []
two_words [] a b two first second = absurd (omega arith)
two_words (x ∷ []) a b two first second = absurd (omega arith)
two_words (x ∷ y ∷ []) a b two first second = let p : a ≡ x = first in let q : b ≡ y = second in cc
two_words (x ∷ y ∷ z ∷ more) a b two first second = absurd (omega arith)
