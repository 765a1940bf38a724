use Rattle.std.proofs.Common.{◌≡◌, ◌≤◌, ◌++◌, length, take, drop}
use Rattle.parquet_pages.specs.Levels.{bits_of}
use Rattle.parquet_pages.proofs.bits.push_bytes.Given as goal

abbrev pub invariant-loop-byte : goal.invariant-loop-byte
invariant-loop-byte l =
    (length l.bits.items ≤ l.most)
    × (take l.most (l.bits.items ++ bits_of (drop l.byte-index l.bytes)) ≡ take l.most (l.initial.bits.items ++ bits_of l.bytes))
