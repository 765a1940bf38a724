-- Steps of reading a base file, each of which may refuse it. This project's own.
use Rattle.std.specs.Prelude.{List, ◌++◌, Result, Ok, Err}
use Rattle.base_cells.specs.declared.base_error.BaseError.{BaseError}

-- the second step, if the first gave a value
infixl 10 ◌>>=◌
abbrev pub ◌>>=◌ : {A B : Type 0} → Result A BaseError → (A → Result B BaseError) → Result B BaseError
(Ok x) >>= f = f x
(Err error) >>= f = Err error

-- what was read, behind what was read before
abbrev pub behind : {A : Type 0} → List A → Result (List A) BaseError → Result (List A) BaseError
behind before read = read >>= λ more. Ok (before ++ more)
