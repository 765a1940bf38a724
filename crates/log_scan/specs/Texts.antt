-- The text of a log: whole blocks and then nothing, a torn rest, or a bad front.
use Rattle.std.specs.Prelude.{◌≡◌, ℕ, zero, suc, ◌+◌, List, [], ◌∷◌, ◌++◌, length, drop, Some, None, Result, Ok, Err}
use Rattle.log_block.specs.Form.{block_bytes}
use Rattle.log_block.specs.Reading.{block_at}
use Rattle.log_block.specs.declared.block.Block.{Block}
use Rattle.log_block.specs.declared.block.BlockRead.{BlockRead}
use Rattle.log_block.specs.declared.block.BlockRead.TheVariants.{Whole, Bad}
use Rattle.log_scan.specs.declared.found.Scan.{Scan}
use Rattle.log_scan.specs.declared.found.ScanError.{ScanError}
use Rattle.log_scan.specs.declared.found.ScanError.TheVariants as error

-- the bytes of blocks, one behind another
abbrev pub bytes_of_blocks : List Block → List ℕ
bytes_of_blocks [] = []
bytes_of_blocks (block ∷ blocks) = block_bytes block ++ bytes_of_blocks blocks

-- a block before others
abbrev pub with_block : Block → Result Scan ℕ → Result Scan ℕ
with_block block (Ok found) = Ok (record found { blocks = block ∷ found.blocks })
with_block block (Err at) = Err at

-- the blocks from an offset on, where these bytes stand, or the offset at which they are no log text; so many blocks at
-- most
abbrev pub scan_from : ℕ → ℕ → List ℕ → Result Scan ℕ
scan_from most offset [] = Ok (record { blocks = []; torn_at = None })
scan_from zero offset (byte ∷ bytes) = Ok (record { blocks = []; torn_at = None })
scan_from (suc most) offset (byte ∷ bytes) = by (block_at (byte ∷ bytes)) (λ len. scan_from most (offset + len) (drop len (byte ∷ bytes)))
  where
    by : BlockRead → (ℕ → Result Scan ℕ) → Result Scan ℕ
    by (Whole block len) behind = with_block block (behind len)
    by (Bad at) behind = Err (offset + at)
    by _ behind = Ok (record { blocks = []; torn_at = Some offset })

-- all blocks: there are no more than bytes
unfoldable pub scan_of : List ℕ → Result Scan ℕ
scan_of bytes = scan_from (length bytes) 0 bytes

-- the answer is what the text says; of blocks, memory may be wanting
abbrev pub Answers : Result Scan ScanError → Result Scan ℕ → Type 0
Answers (Ok found) text = text ≡ Ok found
Answers (Err (error.BadLog at)) text = text ≡ Err at
Answers (Err error.Memory) text = Unit {0}
