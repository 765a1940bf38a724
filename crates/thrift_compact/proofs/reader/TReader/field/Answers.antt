use Rattle.std.proofs.Common.{arith}
use Rattle.thrift_compact.specs.Heads.{field_at}
use Rattle.thrift_compact.proofs.WithinLemmas.{Stays-Ok, Stays-Err, field_at_stays}
use Rattle.thrift_compact.proofs.reader.TReader.field.Goals as goal

pub invariant_of-self : goal.invariant_of-self
invariant_of-self c = omega (arith, Stays-Ok (field_at _) _ _ _ (field_at_stays _) c.in-Ok.ensures, c.self.invariant)

pub in_total-requires : goal.in_total-requires
in_total-requires c = omega (arith, Stays-Err (field_at _) _ _ (field_at_stays _) c.in-Err.ensures, c.self.invariant)
