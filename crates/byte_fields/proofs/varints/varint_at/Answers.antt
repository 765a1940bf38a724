use Rattle.std.proofs.Common.{sym, refl, ◌∙◌}
use Rattle.byte_fields.proofs.VarintLemmas.{one_group}
use Rattle.byte_fields.proofs.varints.varint_at.Goals as goal

pub returns-in-len1-up : goal.returns-in-len1-up
returns-in-len1-up c = one_group _ c.in-len1-up.len_at_least c.if-byte-lt128.true ∙ rw (sym c.from.ensures) refl
