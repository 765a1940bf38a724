-- What stands at the beginning of bytes, by the order in which the fields are read.
use Rattle.std.specs.Prelude.{ℕ, ◌+◌, ◌-◌, List, length, take, drop, codes, Bool, not, ◌&&◌, ◌==◌, nat_lt, nat_eq, if◌then◌else◌, Result, Ok, Err}
use Rattle.std.specs.List.{starts_with}
use Rattle.std.specs.Str.{is_utf8, bytes_eq}
use Rattle.byteorder.specs.Endian.{big_number}
use Rattle.byte_fields.specs.declared.field_error.FieldError.{FieldError}
use Rattle.byte_fields.specs.Reading.{Reading, ◌>>=◌, as_item, only_if, only_some, left_of}
use Rattle.byte_fields.specs.Numbers.{number_at, after_number}
use Rattle.byte_fields.specs.Prefixed.{length_then_bytes_at, prefixed_at}
use Rattle.hudi_base.specs.InstantTime.{time_of}
use Rattle.log_block.specs.Form.{magic, type_with_number, key_number, entry_count}
use Rattle.log_block.specs.declared.block.Block.{Block}
use Rattle.log_block.specs.declared.block.Block.TheVariants.{Data, Delete, Rollback}
use Rattle.log_block.specs.declared.block.BlockRead.{BlockRead}
use Rattle.log_block.specs.declared.block.BlockRead.TheVariants.{Whole, Torn, Bad}
use Rattle.log_block.specs.declared.format.BlockType.{BlockType}
use Rattle.log_block.specs.declared.format.BlockType.TheVariants as types
use Rattle.log_block.specs.declared.format.HeaderKey.{HeaderKey}
use Rattle.log_block.specs.declared.format.HeaderKey.TheVariants as keys

-- ---- the header

-- `Reading`, `do` and `only_if` are those of `byte_fields` (specs/Reading.antt): an answer with the bytes behind it, or a refusal.

-- the text of the entry of that key
unfoldable pub entry_at : HeaderKey → List ℕ → Reading (List ℕ)
entry_at key bytes = do
  rest ← after_number big_number 4 (key_number key) bytes
  prefixed_at (number_at big_number 4) rest

-- the time in the entry of that key
unfoldable pub time_at : HeaderKey → List ℕ → Reading ℕ
time_at key bytes = do
  text ← entry_at key bytes
  time ← only_some (time_of text.0) bytes
  Ok (time, text.1)

-- the bytes after the number of entries that the header of a block of that type has
unfoldable pub after_count : BlockType → List ℕ → Result (List ℕ) FieldError
after_count of bytes = after_number big_number 4 (entry_count of) bytes

-- the time and the schema of a data block
unfoldable pub data_header_at : List ℕ → Result (ℕ × List ℕ × List ℕ) FieldError
data_header_at bytes = as_item bytes do
  entries ← after_count types.Data bytes
  instant ← time_at keys.InstantTime entries
  schema ← entry_at keys.Schema instant.1
  only_if (is_utf8 schema.0) bytes (instant.0, schema.0, schema.1)

-- the time of a delete block
unfoldable pub delete_header_at : List ℕ → Reading ℕ
delete_header_at bytes = as_item bytes do
  entries ← after_count types.Delete bytes
  time_at keys.InstantTime entries

-- the time of a rollback block and that of its target
unfoldable pub rollback_header_at : List ℕ → Result (ℕ × ℕ × List ℕ) FieldError
rollback_header_at bytes = as_item bytes do
  entries ← after_count types.Command bytes
  instant ← time_at keys.InstantTime entries
  target ← time_at keys.TargetInstantTime instant.1
  command ← entry_at keys.CommandBlockType target.1
  only_if (bytes_eq command.0 (codes "0")) bytes (instant.0, target.0, command.1)

-- ---- the block

-- the type of a block
unfoldable pub type_at : List ℕ → Reading BlockType
type_at bytes = do
  number ← number_at big_number 4 bytes
  found ← only_some (type_with_number number.0) bytes
  Ok (found, number.1)

-- the header and the content of a block of that type
unfoldable pub parts_at : BlockType → List ℕ → Reading Block
parts_at types.Data bytes = do
  header ← data_header_at bytes
  content ← length_then_bytes_at (number_at big_number 8) header.2
  Ok (Data header.0 header.1 content.0, content.1)
parts_at types.Delete bytes = do
  header ← delete_header_at bytes
  content ← length_then_bytes_at (number_at big_number 8) header.1
  Ok (Delete header.0 content.0, content.1)
parts_at types.Command bytes = do
  header ← rollback_header_at bytes
  rest ← after_number big_number 8 0 header.2
  Ok (Rollback header.0 header.1, rest)

-- the block's last bytes: a footer without entries, and the size
unfoldable pub ends_at : ℕ → List ℕ → Result (Unit {0}) FieldError
ends_at size bytes = do
  rest ← after_number big_number 4 0 bytes
  only_if (length rest == 8 && big_number 8 rest == size) rest tt

-- what stands behind the length, up to the block's end
unfoldable pub inside_at : List ℕ → Result Block FieldError
inside_at bytes = do
  rest ← after_number big_number 4 1 bytes
  found ← type_at rest
  parts ← parts_at found.0 found.1
  ended ← ends_at (length bytes + 6) parts.1
  Ok parts.0

-- ---- what stands at the beginning

-- of the first six bytes those that are there are the magic's
abbrev pub begins : List ℕ → Bool
begins bytes = starts_with nat_eq magic (take 6 bytes)

-- how many bytes the block has behind its length, from the first eight bytes after the magic
abbrev pub length_of : List ℕ → ℕ
length_of bytes = big_number 8 (drop 6 bytes)

-- a block that ends at that offset, or the offset of its first bad field
abbrev pub outcome : ℕ → Result Block FieldError → BlockRead
outcome end (Ok block) = Whole block end
outcome end (Err error) = Bad (end - left_of error)

-- the block that begins there, or why there is none
unfoldable pub block_at : List ℕ → BlockRead
block_at bytes =
    if not (begins bytes) then Bad 0
    else if nat_lt (length bytes) 14 then Torn
    else if nat_lt (length bytes - 14) (length_of bytes) then Torn
    else outcome (14 + length_of bytes) (inside_at (take (length_of bytes) (drop 14 bytes)))
