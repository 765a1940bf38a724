-- Adding to the end of a text.
use Rattle.std.specs.Prelude.{◌≡◌, ℕ, List, ◌++◌, length, take, Result, Ok, Err}

-- This was added at the end; or, after an error, what stood there still begins the text.
abbrev pub Puts : {E : Type 0} → Result (Unit {0}) E → List ℕ → List ℕ → List ℕ → Type 0
Puts (Ok _) old new text = new ≡ old ++ text
Puts (Err _) old new text = take (length old) new ≡ old
