use Rattle.std.proofs.Common.{arith}
use Rattle.byte_fields.specs.Varints.{varint_at}
use Rattle.byte_fields.specs.Prefixed.{prefixed_at}
use Rattle.thrift_compact.proofs.WithinLemmas.{Stays-Ok, Stays-Err, binary_stays}
use Rattle.thrift_compact.proofs.reader.TReader.binary.Goals as goal

pub invariant_of-self : goal.invariant_of-self
invariant_of-self c = omega (arith, Stays-Ok (prefixed_at (varint_at 32)) _ _ _ (binary_stays) c.in-Ok.ensures, c.self.invariant)

pub in_total-requires : goal.in_total-requires
in_total-requires c = omega (arith, Stays-Err (prefixed_at (varint_at 32)) _ _ (binary_stays) c.in-Err.ensures, c.self.invariant)
