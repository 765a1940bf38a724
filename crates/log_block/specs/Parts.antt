-- The parts of a block that lie in the bytes read, which contracts of private functions speak of.
use Rattle.std.specs.Prelude.{◌≡◌, ◌⊎◌, ℕ, ◌+◌, ◌<◌, ◌≤◌, List, length, take, drop}
use Rattle.log_block.specs.declared.block.Block.{Block}
use Rattle.log_block.specs.declared.block.Block.TheVariants.{Data, Delete, Rollback}
use Rattle.log_block.specs.declared.parts.Parts.{Parts}
use Rattle.log_block.specs.declared.parts.Parts.TheVariants as parts
use Rattle.log_block.specs.Reading.{length_of}

-- the parts as a block
abbrev pub block_of : Parts → Block
block_of (parts.Data instant schema content) = Data instant schema.now content.now
block_of (parts.Delete instant content) = Delete instant content.now
block_of (parts.Rollback instant target) = Rollback instant target

-- the bytes end before the length is whole, or before the block's end
abbrev pub EndsEarly : List ℕ → Type 0
EndsEarly bytes = (length bytes < 14) ⊎ (length bytes < 14 + length_of bytes)

-- the bytes behind the length, up to the block's end
pub record IsInside (bytes inside : List ℕ) : Type 0 where
  pub bytes_are : inside ≡ take (length_of bytes) (drop 14 bytes)
  pub within : 14 + length_of bytes ≤ length bytes
