-- The names of types, symbols and fields: "Names" of the Avro specification, without namespaces.
use Rattle.std.specs.Prelude.{ℕ, List, [], ◌∷◌, Bool, false, ◌&&◌, ◌||◌, ◌==◌}
use Rattle.std.specs.Char.{is_ascii_alphabetic, is_ascii_alphanumeric}
use Rattle.std.specs.List.{list_all, list_any}
use Rattle.std.specs.Str.{bytes_eq}

-- an ASCII letter or `_`
abbrev pub begins_name : ℕ → Bool
begins_name byte = is_ascii_alphabetic byte || (byte == 95)

-- the same, or a digit
abbrev pub continues_name : ℕ → Bool
continues_name byte = is_ascii_alphanumeric byte || (byte == 95)

abbrev pub is_name : List ℕ → Bool
is_name [] = false
is_name (byte ∷ bytes) = begins_name byte && list_all continues_name bytes

-- one of the names is this one
abbrev pub is_among : List (List ℕ) → List ℕ → Bool
is_among names name = list_any (λ other. bytes_eq other name) names
