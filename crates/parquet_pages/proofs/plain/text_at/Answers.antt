use Rattle.std.proofs.Common.{Err, sym, ap, ◌∙◌}
use Rattle.byte_fields.proofs.PrefixedLemmas.{text_at-Ok, text_at-Bad}
use Rattle.parquet_pages.proofs.plain.text_at.Goals as goal

pub returns-in-Some : goal.returns-in-Some
returns-in-Some c = rw c.in-Some.ensures.0 (text_at-Ok _ _ _ _ c.in_ok-content.ensures c.in-Some.ensures.1)

pub returns-in-None : goal.returns-in-None
returns-in-None c = text_at-Bad _ _ _ _ c.in_ok-content.ensures c.in-None.ensures ∙ ap Err (sym c.bad.ensures)
