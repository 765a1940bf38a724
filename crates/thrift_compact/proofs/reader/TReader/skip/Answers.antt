use Rattle.std.proofs.Common.{arith}
use Rattle.thrift_compact.specs.Values.{value_at}
use Rattle.thrift_compact.proofs.WithinLemmas.{Stays-Ok, Stays-Err, value_at_stays}
use Rattle.thrift_compact.proofs.reader.TReader.skip.Goals as goal

pub invariant_of-self : goal.invariant_of-self
invariant_of-self c = omega (arith, Stays-Ok (value_at 32 c.args.kind) _ _ _ (value_at_stays 32 c.args.kind) c.in-Ok.ensures, c.self.invariant)

pub in_total-requires : goal.in_total-requires
in_total-requires c = omega (arith, Stays-Err (value_at 32 c.args.kind) _ _ (value_at_stays 32 c.args.kind) c.in-Err.ensures, c.self.invariant)
