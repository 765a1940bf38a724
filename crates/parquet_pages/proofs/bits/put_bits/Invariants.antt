use Rattle.std.proofs.Common.{◌≡◌, ◌++◌, length}
use Rattle.parquet_pages.specs.Plain.{bit_bytes, bytes_for}
use Rattle.parquet_pages.proofs.bits.put_bits.Given as goal

abbrev pub invariant-loop-rest : goal.invariant-loop-rest
invariant-loop-rest l =
    l.out.items ++ bit_bytes (bytes_for (length l.rest)) l.rest ≡ l.initial.out.items ++ bit_bytes (bytes_for (length l.bits)) l.bits

abbrev pub decreases-loop-rest : goal.decreases-loop-rest
decreases-loop-rest l = length l.rest
