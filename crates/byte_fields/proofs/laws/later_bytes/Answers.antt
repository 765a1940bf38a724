use Rattle.byte_fields.proofs.VarintLemmas.{varint_at_settles, zigzag_at_settles}
use Rattle.byte_fields.proofs.laws.later_bytes.Goals as goal

pub returns-clause-varints : goal.returns-clause-varints
returns-clause-varints c = varint_at_settles

pub returns-clause-zigzags : goal.returns-clause-zigzags
returns-clause-zigzags c = zigzag_at_settles
