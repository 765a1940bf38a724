-- What a reader leaves is a part of its bytes, and an error stands within them. Loops over fields end by it; no clause of
-- a public call speaks of it.
use Rattle.std.specs.Prelude.{ℕ, ◌≤◌, ℤ, List, length, Ok, Err}
use Rattle.byte_fields.specs.Reading.{left_of, Reading}

-- an error has at most so many bytes from its item on, and a value at most so many after it
abbrev pub Within : {A : Type 0} → ℕ → ℕ → Reading A → Type 0
Within error_limit rest_limit (Ok x) = length x.1 ≤ rest_limit
Within error_limit rest_limit (Err error) = left_of error ≤ error_limit

-- what is read of any bytes stays within them
abbrev pub Stays : {A : Type 0} → (List ℕ → Reading A) → Type 0
Stays read = (bytes : List ℕ) → Within (length bytes) (length bytes) (read bytes)

-- what takes a field's value stays within the field
abbrev pub TakeStays : {S : Type 0} → (S → ℤ → ℕ → ℕ → List ℕ → Reading S) → Type 0
TakeStays {S} take = (so_far : S) (id : ℤ) (kind left : ℕ) (bytes : List ℕ) → length bytes ≤ left →
    Within left (length bytes) (take so_far id kind left bytes)
