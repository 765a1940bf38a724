-- What `read_block` answers, and when which answer comes.
use Rattle.std.specs.Prelude.{◌≡◌, ◌⊎◌, ℕ, ◌+◌, ◌<◌, ◌≤◌, true, false, List, length, take}
use Rattle.log_block.specs.declared.block.Block.{Block}
use Rattle.log_block.specs.declared.block.BlockRead.{BlockRead}
use Rattle.log_block.specs.declared.block.BlockRead.TheVariants.{Whole, Torn, Bad, Memory}
use Rattle.log_block.specs.Form.{block_bytes, Fits}
use Rattle.log_block.specs.Reading.{begins, length_of}

-- a whole block
abbrev pub IsWhole : BlockRead → Type 0
IsWhole (Whole block len) = Unit {0}
IsWhole Torn = ⊥
IsWhole (Bad offset) = ⊥
IsWhole Memory = ⊥

-- The answer is what the bytes begin with; where that is a whole block, memory may have run out.
abbrev pub Answers : BlockRead → BlockRead → Type 0
Answers (Whole block len) there = there ≡ Whole block len
Answers Torn there = there ≡ Torn
Answers (Bad offset) there = there ≡ Bad offset
Answers Memory there = IsWhole there

-- A block may begin, and the bytes end before its length is whole, or before its end.
abbrev pub IsTorn : List ℕ → Type 0
IsTorn bytes = (begins bytes ≡ true) × ((length bytes < 14) ⊎ (length bytes < 14 + length_of bytes))

-- the first bytes are the form of the block
pub record IsWritten (bytes : List ℕ) (block : Block) (len : ℕ) : Type 0 where
  pub within : len ≤ length bytes
  pub form : take len bytes ≡ block_bytes block
  pub fits : Fits block

-- The offset of a bad field: 0 where there is no magic, else behind the length and not behind the block's end.
abbrev pub IsBadOffset : List ℕ → ℕ → Type 0
IsBadOffset bytes offset =
    ((offset ≡ 0) × (begins bytes ≡ false))
    ⊎ ((14 ≤ offset) × (offset ≤ 14 + length_of bytes) × (14 + length_of bytes ≤ length bytes))

-- of a whole block and its length
abbrev pub IfWhole : BlockRead → (Block → ℕ → Type 0) → Type 0
IfWhole (Whole block len) P = P block len
IfWhole Torn P = Unit {0}
IfWhole (Bad offset) P = Unit {0}
IfWhole Memory P = Unit {0}

-- of the offset of a bad field
abbrev pub IfBad : BlockRead → (ℕ → Type 0) → Type 0
IfBad (Whole block len) P = Unit {0}
IfBad Torn P = Unit {0}
IfBad (Bad offset) P = P offset
IfBad Memory P = Unit {0}
