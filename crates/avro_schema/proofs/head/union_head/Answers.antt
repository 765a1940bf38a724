use Rattle.std.proofs.Common.{arith}
use Rattle.avro_schema.proofs.HeadLemmas.{head_of_branches}
use Rattle.avro_schema.proofs.head.union_head.Goals as goal

pub returns-in-len1-up : goal.returns-in-len1-up
returns-in-len1-up c = head_of_branches c.args.values.now (omega arith)
