use Rattle.std.proofs.Common.{ℕ, zero, suc, ◌<◌, IsUtf8, codes, subst, sym, arith}
use Rattle.std.specs.List.{slice_index}
use Rattle.std.proofs.lemmas.Str.{IsUtf8-from_ascii}
use Rattle.plain_rows.proofs.codec.PlainRowsTableCodec.schema_text.Goals as goal

ascii : (i : ℕ) → slice_index (codes "r1") i < 128
ascii zero = omega arith
ascii (suc zero) = omega arith
ascii (suc (suc i)) = omega arith

pub returns-clause-utf8 : goal.returns-clause-utf8
returns-clause-utf8 c = subst IsUtf8 (sym c.self.invariant.1) (IsUtf8-from_ascii (codes "r1") ascii)
