-- The texts of log files: whole blocks, and then nothing or a torn rest.
use Rattle.std.specs.Prelude.{◌≡◌, ◌⊎◌, ℕ, zero, suc, List, [], ◌∷◌, ◌++◌, length, drop, Some}
use Rattle.std.specs.FinMap.{get}
use Rattle.std.specs.List.{AllByRecursion}
use Rattle.hudi_base.specs.Files.{FileMap}
use Rattle.file_names.specs.FileName.{name_of, IsNamed}
use Rattle.file_names.specs.declared.file_name.FileName.{FileName}
use Rattle.hudi_base.specs.declared.file_group.GroupRef.{GroupRef}
use Rattle.file_names.specs.declared.file_name.FileName.TheVariants as file
use Rattle.file_names.specs.declared.file_name.Token.{Token}
use Rattle.log_block.specs.Form.{Fits, block_bytes}
use Rattle.log_block.specs.Reading.{block_at}
use Rattle.log_block.specs.declared.block.Block.{Block}
use Rattle.log_block.specs.declared.block.BlockRead.{BlockRead}
use Rattle.log_block.specs.declared.block.BlockRead.TheVariants.{Whole, Torn}
use Rattle.table_history.specs.Tables.{Table}

-- the bytes of blocks, one behind another
abbrev pub bytes_of_blocks : List Block → List ℕ
bytes_of_blocks [] = []
bytes_of_blocks (block ∷ blocks) = block_bytes block ++ bytes_of_blocks blocks

-- bytes that are these blocks and then nothing or a torn rest
pub record IsLogOf (blocks : List Block) (bytes : List ℕ) : Type 0 where
  pub fit : AllByRecursion Fits blocks
  pub rest : List ℕ
  pub are : bytes ≡ bytes_of_blocks blocks ++ rest
  pub torn : (rest ≡ []) ⊎ (block_at rest ≡ Torn)

-- whole blocks, and then nothing or a torn rest
abbrev pub IsLogText : List ℕ → Type 0
IsLogText bytes = (blocks : List Block) × IsLogOf blocks bytes

-- ---- which blocks stand in bytes

-- the whole blocks that bytes begin with, so many at most
abbrev pub first_blocks : ℕ → List ℕ → List Block
first_blocks zero bytes = []
first_blocks (suc most) bytes = at (block_at bytes) (λ len. first_blocks most (drop len bytes))
  where
    at : BlockRead → (ℕ → List Block) → List Block
    at (Whole block len) behind = block ∷ behind len
    at _ behind = []

-- all of them: there are no more than bytes
unfoldable pub blocks_in : List ℕ → List Block
blocks_in bytes = first_blocks (length bytes) bytes

-- ---- the log files of a table

-- the file is there, with these bytes
pub record HasFile (image : FileMap) (A : Table) (of : FileName) (bytes : List ℕ) : Type 0 where
  pub named : IsNamed of
  pub there : get image (name_of A.props.name of) ≡ Some bytes

-- each log is such a text
unfoldable pub WholeBlocks : FileMap → Table → Type 0
WholeBlocks image A =
    (group : GroupRef) (slice version : ℕ) (token : Token) (bytes : List ℕ)
    → HasFile image A (file.Log group slice version token) bytes → IsLogText bytes
