-- What readers that take memory give; for private clauses.
use Rattle.std.specs.Prelude.{◌≡◌, ◌-◌, List, ℕ, FitsSigned, Result, Ok, Err}
use Rattle.std.specs.Int.{w64}
use Rattle.byte_fields.specs.declared.field_error.FieldError.{FieldError}
use Rattle.payload_merge.specs.declared.row.Write.{Write}
use Rattle.payload_merge.specs.declared.row.Write.TheVariants.{Put, Del}
use Rattle.block_contents.specs.declared.read_error.ReadError.{ReadError}
use Rattle.block_contents.specs.declared.read_error.ReadError.TheVariants.{Memory, Field}
use Rattle.payload_merge.specs.declared.row_error.RowError.{RowError}
use Rattle.payload_merge.specs.declared.row_error.RowError.TheVariants as errors
use Rattle.byte_fields.specs.Reading.{left_of, of_item}
use Rattle.block_contents.specs.declared.deletes.DeleteRef.{DeleteRef}

-- The reader answers what reading gives, unless memory has run out. `view` turns its value into the definition's.
abbrev pub Fails : {Y : Type 0} → ReadError → Result Y FieldError → Type 0
Fails Memory read = Unit {0}
Fails (Field error) read = read ≡ Err error

abbrev pub Reads : {X Y : Type 0} → (X → Y) → Result X ReadError → Result Y FieldError → Type 0
Reads view (Ok x) read = read ≡ Ok (view x)
Reads view (Err error) read = Fails error read

-- a lent delete as a delete in a partition
abbrev pub delete_in : List ℕ → DeleteRef → Write
delete_in partition lent = Del partition lent.key.now lent.rank

-- the same error of the item that begins with these bytes
abbrev pub error_of_item : List ℕ → ReadError → ReadError
error_of_item item Memory = Memory
error_of_item item (Field error) = Field (of_item item error)

-- the error of a content of so many bytes
abbrev pub row_error : ℕ → ReadError → RowError
row_error total Memory = errors.Memory
row_error total (Field error) = errors.BadContent (total - left_of error)

-- the rank of a delete has 64 bits, as any that the program holds
abbrev pub HasRank : Write → Type 0
HasRank (Del partition key rank) = FitsSigned w64 rank
HasRank (Put row) = Unit {0}
