-- The form of a block: a profile of the log format of Apache Hudi, in which no field is left open. Numbers are
-- unsigned, with the highest byte first.
use Rattle.std.specs.Prelude.{ℕ, ◌+◌, ◌<◌, ◌^◌, List, [], ◌++◌, length, codes, IsUtf8, ◌==◌, if◌then◌else◌, Option, Some, None}
use Rattle.byteorder.specs.Endian.{big_bytes}
use Rattle.byte_fields.specs.Prefixed.{with_length}
use Rattle.hudi_base.specs.InstantTime.{IsTime, time_text}
use Rattle.log_block.specs.declared.block.Block.{Block}
use Rattle.log_block.specs.declared.block.Block.TheVariants.{Data, Delete, Rollback}
use Rattle.log_block.specs.declared.format.BlockType.{BlockType}
use Rattle.log_block.specs.declared.format.BlockType.TheVariants as types
use Rattle.log_block.specs.declared.format.HeaderKey.{HeaderKey}
use Rattle.log_block.specs.declared.format.HeaderKey.TheVariants as keys

-- what each block begins with
abbrev pub magic : List ℕ
magic = codes "#HUDI#"

-- ---- types and keys

-- the number of a type; 2 is for corrupt blocks, which are never written
abbrev pub type_number : BlockType → ℕ
type_number types.Command = 0
type_number types.Delete = 1
type_number types.Data = 3

-- the type with that number
abbrev pub type_with_number : ℕ → Option BlockType
type_with_number number =
    if number == 0 then Some types.Command
    else if number == 1 then Some types.Delete
    else if number == 3 then Some types.Data
    else None

-- the type of a block
abbrev pub type_of : Block → BlockType
type_of (Data instant schema content) = types.Data
type_of (Delete instant content) = types.Delete
type_of (Rollback instant target) = types.Command

-- the number of a key
abbrev pub key_number : HeaderKey → ℕ
key_number keys.InstantTime = 0
key_number keys.TargetInstantTime = 1
key_number keys.Schema = 2
key_number keys.CommandBlockType = 3

-- how many entries the header of a block of that type has
abbrev pub entry_count : BlockType → ℕ
entry_count types.Command = 3
entry_count types.Delete = 1
entry_count types.Data = 2

-- ---- the header

-- an entry of a header: the number of its key, and a text behind its length
unfoldable pub entry : HeaderKey → List ℕ → List ℕ
entry key text = big_bytes 4 (key_number key) ++ with_length (big_bytes 4) text

-- The number of entries, then the entries in the order of their keys: the time of the block's instant; of data the schema; of
-- a rollback the time of its target, and the command, 0.
unfoldable pub header : Block → List ℕ
header (Data instant schema content) =
    big_bytes 4 (entry_count types.Data) ++ entry keys.InstantTime (time_text instant) ++ entry keys.Schema schema
header (Delete instant content) = big_bytes 4 (entry_count types.Delete) ++ entry keys.InstantTime (time_text instant)
header (Rollback instant target) =
    big_bytes 4 (entry_count types.Command) ++ entry keys.InstantTime (time_text instant)
    ++ entry keys.TargetInstantTime (time_text target) ++ entry keys.CommandBlockType (codes "0")

-- ---- the block

-- what the block holds
abbrev pub content_of : Block → List ℕ
content_of (Data instant schema content) = content
content_of (Delete instant content) = content
content_of (Rollback instant target) = []

-- from the version, which is 1, to the footer, which has no entries
unfoldable pub fields : BlockType → List ℕ → List ℕ → List ℕ
fields of header content =
    big_bytes 4 1 ++ big_bytes 4 (type_number of) ++ header ++ with_length (big_bytes 8) content ++ big_bytes 4 0

-- the fields of a block
abbrev pub fields_of : Block → List ℕ
fields_of block = fields (type_of block) (header block) (content_of block)

-- the magic, the length (how many bytes stand behind it), the fields, and the size (how many bytes stand before it)
unfoldable pub frame : List ℕ → List ℕ
frame inside = magic ++ big_bytes 8 (length inside + 8) ++ inside ++ big_bytes 8 (length inside + 14)

-- the one form of a block
abbrev pub block_bytes : Block → List ℕ
block_bytes block = frame (fields_of block)

-- how many bytes of it stand before the size
abbrev pub size_of : Block → ℕ
size_of block = length (fields_of block) + 14

-- ---- what has a form

-- a schema is a text in UTF-8, and its length fits four bytes
abbrev pub SchemaFits : Block → Type 0
SchemaFits (Data instant schema content) = IsUtf8 schema × (length schema < 2 ^ 32)
SchemaFits (Delete instant content) = Unit {0}
SchemaFits (Rollback instant target) = Unit {0}

-- the times are of instants
abbrev pub TimesFit : Block → Type 0
TimesFit (Data instant schema content) = IsTime instant
TimesFit (Delete instant content) = IsTime instant
TimesFit (Rollback instant target) = IsTime instant × IsTime target

-- what has a form
pub record Fits (block : Block) : Type 0 where
  pub schema : SchemaFits block
  pub times : TimesFit block
  pub size : size_of block < 2 ^ 64
