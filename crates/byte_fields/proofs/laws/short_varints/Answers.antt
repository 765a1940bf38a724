use Rattle.byte_fields.proofs.VarintLemmas.{varint_at-short, short-varint_at}
use Rattle.byte_fields.proofs.laws.short_varints.Goals as goal

pub returns : goal.returns
returns c = λ w left bytes. (varint_at-short w left bytes, λ ends. short-varint_at w left bytes ends.0 ends.1)
