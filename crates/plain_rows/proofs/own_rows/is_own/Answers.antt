use Rattle.std.proofs.Common.{sym, ◌∙◌}
use Rattle.plain_rows.proofs.TextParts.{own_if_sized}
use Rattle.plain_rows.proofs.own_rows.is_own.Goals as goal

pub returns-then-is_sized_text : goal.returns-then-is_sized_text
returns-then-is_sized_text c =
    own_if_sized c.args.row.now c.as_slice.result.now c.as_slice-then-is_sized_text.result.now c.is_sized_text-then-is_sized_text.result
    c.as_slice.ensures c.as_slice-then-is_sized_text.ensures (sym c.is_sized_text.ensures ∙ c.if-is_sized_text.true) c.is_sized_text-then-is_sized_text.ensures
