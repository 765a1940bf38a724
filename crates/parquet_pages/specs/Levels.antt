-- Definition levels of one bit, which tell a value from a null: "Run Length Encoding / Bit-Packing Hybrid" of the Parquet
-- format's encodings, behind its length of four bytes. True says that there is a value.
use Rattle.std.specs.Prelude.{ℕ, zero, suc, ◌+◌, ◌*◌, ◌/◌, ◌%◌, Bool, not, nat_le, ◌==◌, if◌then◌else◌, List, [], ◌∷◌, ◌++◌, length, take, replicate, Result, Ok, Err}
use Rattle.std.specs.Bool.{beq}
use Rattle.std.specs.List.{flat_map}
use Rattle.byteorder.specs.Endian.{big_number, little_number, little_bytes}
use Rattle.byte_fields.specs.declared.field_error.FieldError.{FieldError}
use Rattle.byte_fields.specs.declared.field_error.FieldError.TheVariants.{Short, Bad}
use Rattle.byte_fields.specs.Reading.{Reading, ◌>>=◌, only_if}
use Rattle.byte_fields.specs.Numbers.{number_at}
use Rattle.byte_fields.specs.Varints.{varint, varint_at}
use Rattle.byte_fields.specs.Prefixed.{with_length, bytes_at, prefixed_at}

-- ---- written: the longest runs of equal levels, each as how often and which

-- a level as a byte
abbrev pub level_byte : Bool → ℕ
level_byte level = if level then 1 else 0

-- a run before others: it makes one with the first of them if both are of the same level
abbrev pub join : ℕ × Bool → List (ℕ × Bool) → List (ℕ × Bool)
join first [] = first ∷ []
join first (run ∷ runs) = if beq first.1 run.1 then (first.0 + run.0, run.1) ∷ runs else first ∷ run ∷ runs

-- the longest runs of levels
unfoldable pub runs_of : List Bool → List (ℕ × Bool)
runs_of [] = []
runs_of (level ∷ levels) = join (1, level) (runs_of levels)

-- a run: an even header, which is twice its length, and the level
abbrev pub run_bytes : ℕ × Bool → List ℕ
run_bytes run = varint (2 * run.0) ++ level_byte run.1 ∷ []

-- the runs of levels
abbrev pub levels_body : List Bool → List ℕ
levels_body levels = flat_map run_bytes (runs_of levels)

-- the same behind their length
abbrev pub levels_bytes : List Bool → List ℕ
levels_bytes levels = with_length (little_bytes 4) (levels_body levels)

-- ---- read

-- the eight bits of a byte, least first
abbrev pub byte_bits : ℕ → List Bool
byte_bits byte =
    (byte % 2 == 1) ∷ (byte / 2 % 2 == 1) ∷ (byte / 4 % 2 == 1) ∷ (byte / 8 % 2 == 1)
    ∷ (byte / 16 % 2 == 1) ∷ (byte / 32 % 2 == 1) ∷ (byte / 64 % 2 == 1) ∷ (byte / 128 % 2 == 1) ∷ []

-- the bits of bytes
unfoldable pub bits_of : List ℕ → List Bool
bits_of [] = []
bits_of (byte ∷ bytes) = byte_bits byte ++ bits_of bytes

-- A run of n times the level in the byte behind the header, which is bad where n is 0, as a byte above 1 is.
unfoldable pub repeated_at : ℕ → List ℕ → List ℕ → Reading (List Bool)
repeated_at n header bytes =
    only_if (not (n == 0)) header bytes >>= λ bytes.
    number_at big_number 1 bytes >>= λ byte.
    only_if (nat_le byte.0 1) bytes (replicate n (byte.0 == 1), byte.1)

-- a run of the bits of n bytes
unfoldable pub packed_at : ℕ → List ℕ → Reading (List Bool)
packed_at n bytes = bytes_at n bytes >>= λ content. Ok (bits_of content.0, content.1)

-- a run of either kind, which its header tells
unfoldable pub run_at : List ℕ → Reading (List Bool)
run_at bytes =
    varint_at 64 bytes >>= λ header.
    if header.0 % 2 == 0 then repeated_at (header.0 / 2) bytes header.1 else packed_at (header.0 / 2) header.1

-- Runs up to the last byte. Each takes a byte at least, so as many steps as there are bytes are enough.
unfoldable pub runs_at : ℕ → List ℕ → Result (List Bool) FieldError
runs_at zero bytes = Ok []
runs_at (suc steps) [] = Ok []
runs_at (suc steps) (byte ∷ bytes) =
    run_at (byte ∷ bytes) >>= λ run. runs_at steps run.1 >>= λ more. Ok (run.0 ++ more)

-- the first so many of the levels that were read
abbrev pub taken : ℕ → Result (List Bool) FieldError → Result (List Bool) FieldError
taken count read = read >>= λ levels. Ok (take count levels)

-- an error in the first part of the bytes, behind which there are so many more
abbrev pub error_behind : ℕ → FieldError → FieldError
error_behind more (Short left) = Short (left + more)
error_behind more (Bad left) = Bad (left + more)

-- what is read of the first part of the bytes, behind which there are so many more
abbrev pub with_behind : {A : Type 0} → ℕ → Result A FieldError → Result A FieldError
with_behind more (Ok x) = Ok x
with_behind more (Err error) = Err (error_behind more error)

-- the first so many levels, which have to be there; those past the count are ignored
abbrev pub first_levels : ℕ → List Bool → List ℕ → Reading (List Bool)
first_levels count levels rest =
    if nat_le count (length levels) then Ok (take count levels, rest) else Err (Short (length rest))

-- so many levels
unfoldable pub levels_at : ℕ → List ℕ → Reading (List Bool)
levels_at count bytes =
    prefixed_at (number_at little_number 4) bytes >>= λ content.
    with_behind (length content.1) (runs_at (length content.0) content.0) >>= λ levels.
    first_levels count levels content.1
