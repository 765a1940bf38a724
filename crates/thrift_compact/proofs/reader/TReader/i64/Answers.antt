use Rattle.std.proofs.Common.{arith}
use Rattle.byte_fields.specs.Varints.{zigzag_at}
use Rattle.thrift_compact.proofs.WithinLemmas.{Stays-Ok, Stays-Err, zigzag_at_stays}
use Rattle.thrift_compact.proofs.reader.TReader.i64.Goals as goal

pub invariant_of-self : goal.invariant_of-self
invariant_of-self c = omega (arith, Stays-Ok (zigzag_at 64) _ _ _ (zigzag_at_stays 64) c.in-Ok.ensures, c.self.invariant)

pub in_total-requires : goal.in_total-requires
in_total-requires c = omega (arith, Stays-Err (zigzag_at 64) _ _ (zigzag_at_stays 64) c.in-Err.ensures, c.self.invariant)
