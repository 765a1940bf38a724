use Rattle.std.proofs.Common.{arith}
use Rattle.thrift_compact.specs.Heads.{list_at}
use Rattle.thrift_compact.proofs.WithinLemmas.{Stays-Ok, Stays-Err, list_at_stays}
use Rattle.thrift_compact.proofs.reader.TReader.list.Goals as goal

pub invariant_of-self : goal.invariant_of-self
invariant_of-self c = omega (arith, Stays-Ok (list_at) _ _ _ (list_at_stays) c.in-Ok.ensures, c.self.invariant)

pub in_total-requires : goal.in_total-requires
in_total-requires c = omega (arith, Stays-Err (list_at) _ _ (list_at_stays) c.in-Err.ensures, c.self.invariant)
