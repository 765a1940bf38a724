-- What readers give; for private clauses.
use Rattle.std.specs.Prelude.{◌≡◌, List, ℕ, Result, Ok, Err}
use Rattle.byte_fields.specs.Reading.{Reading}
use Rattle.avro_value.specs.declared.errors.ReadError.{ReadError}
use Rattle.avro_value.specs.declared.errors.ReadError.TheVariants.{Memory, Field}

-- The reader answers what reading gives, unless memory has run out. `view` turns its value into the definition's.
abbrev pub Fails : {Y : Type 0} → ReadError → Reading Y → Type 0
Fails Memory read = Unit {0}
Fails (Field error) read = read ≡ Err error

abbrev pub Reads : {X Y : Type 0} → (X → Y × List ℕ) → Result X ReadError → Reading Y → Type 0
Reads view (Ok x) read = read ≡ Ok (view x)
Reads view (Err error) read = Fails error read
