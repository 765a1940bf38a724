-- What reading is: a value and the bytes after it, or an item that can't be read. This project's own.
use Rattle.std.specs.Prelude.{◌≡◌, ℕ, ◌+◌, List, ◌++◌, length, Bool, if◌then◌else◌, Option, Some, None, Result, Ok, Err}
use Rattle.byte_fields.specs.declared.field_error.FieldError.{FieldError}
use Rattle.byte_fields.specs.declared.field_error.FieldError.TheVariants.{Short, Bad}

-- ---- errors

-- how many bytes there are from the item's first one on
abbrev pub left_of : FieldError → ℕ
left_of (Short left) = left
left_of (Bad left) = left

-- the same error of the item that begins with these bytes
abbrev pub of_item : List ℕ → FieldError → FieldError
of_item item (Short left) = Short (length item)
of_item item (Bad left) = Bad (length item)

-- ---- the steps of a reading

-- what a reader of an A gives: the value and the bytes after it
abbrev pub Reading : Type 0 → Type 0
Reading A = Result (A × List ℕ) FieldError

-- the second step, if the first gave a value
infixl 10 ◌>>=◌
abbrev pub ◌>>=◌ : {A B : Type 0} → Result A FieldError → (A → Result B FieldError) → Result B FieldError
(Ok x) >>= f = f x
(Err error) >>= f = Err error

-- what is wrong inside an item is wrong at the item's first byte
abbrev pub as_item : {A : Type 0} → List ℕ → Result A FieldError → Result A FieldError
as_item item (Ok x) = Ok x
as_item item (Err error) = Err (of_item item error)

-- a value that passes a test, or else the item is bad
abbrev pub only_if : {A : Type 0} → Bool → List ℕ → A → Result A FieldError
only_if test item x = if test then Ok x else Err (Bad (length item))

-- a value that is there, or else the item is bad
abbrev pub only_some : {A : Type 0} → Option A → List ℕ → Result A FieldError
only_some (Some x) item = Ok x
only_some None item = Err (Bad (length item))

-- ---- readers

-- The reader answers what reading gives. `view` turns the reader's value into the definition's.
abbrev pub Gives : {X Y : Type 0} → (X → Y) → Result X FieldError → Result Y FieldError → Type 0
Gives view (Ok x) read = read ≡ Ok (view x)
Gives view (Err error) read = read ≡ Err error

-- The same of a reader that takes memory, whose errors are those of reading and, as None, that memory has run out.
abbrev pub GivesOrNoMemory : {X Y E : Type 0} → (E → Option FieldError) → (X → Y) → Result X E → Result Y FieldError → Type 0
GivesOrNoMemory error_of view (Ok x) read = read ≡ Ok (view x)
GivesOrNoMemory error_of view (Err e) read = IsErrorOrNone (error_of e) read
  where
    IsErrorOrNone : {Y : Type 0} → Option FieldError → Result Y FieldError → Type 0
    IsErrorOrNone (Some error) read = read ≡ Err error
    IsErrorOrNone None read = Unit {0}

-- ---- bytes that come later

-- Later bytes change nothing of this: a value was read, or the item is bad.
abbrev pub IsSettled : {A : Type 0} → Result A FieldError → Type 0
IsSettled (Ok x) = Unit {0}
IsSettled (Err (Short left)) = ⊥
IsSettled (Err (Bad left)) = Unit {0}

-- the same reading with so many more bytes behind it
abbrev pub with_more : {A : Type 0} → List ℕ → Reading A → Reading A
with_more more (Ok found) = Ok (found.0, found.1 ++ more)
with_more more (Err (Short left)) = Err (Short (left + length more))
with_more more (Err (Bad left)) = Err (Bad (left + length more))

-- bytes that come later change nothing but `Short`
abbrev pub Settles : {A : Type 0} → (List ℕ → Reading A) → Type 0
Settles read = (bytes more : List ℕ) → IsSettled (read bytes) → read (bytes ++ more) ≡ with_more more (read bytes)
