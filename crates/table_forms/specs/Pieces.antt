-- Pieces of a text around a byte.
use Rattle.std.specs.Prelude.{ℕ, ◌+◌, ◌==◌, List, take, drop, Option, option_map, position}

-- what stands before the first of these bytes, and what after it
abbrev pub split_once : ℕ → List ℕ → Option (List ℕ × List ℕ)
split_once separator text = option_map (λ at. (take at text, drop (at + 1) text)) (position (λ b. b == separator) text)
