-- What the calls of this crate answer. This project's own.
use Rattle.std.specs.Prelude.{◌≡◌, Result, Ok, Err}
use Rattle.base_cells.specs.declared.base_error.BaseError.{BaseError}
use Rattle.base_cells.specs.declared.base_error.BaseError.TheVariants.{Memory, BadBase}

-- The answer is what reading gives, unless memory has run out. `view` turns its value into the definition's.
abbrev pub Answers : {X Y : Type 0} → (X → Y) → Result X BaseError → Result Y BaseError → Type 0
Answers view (Ok x) read = read ≡ Ok (view x)
Answers view (Err Memory) read = Unit {0}
Answers view (Err (BadBase cause at)) read = read ≡ Err (BadBase cause at)
