use Rattle.std.proofs.Common.{◌≡◌, true, sym, subst}
use Rattle.std.specs.Str.{IsUtf8}
use Rattle.std.proofs.lemmas.Str.{is_utf8-from_IsUtf8}
use Rattle.hudi_base.specs.declared.value.Value.{Value}
use Rattle.row_columns.specs.Base.{is_held}
use Rattle.row_columns.proofs.rows.lend.Goals as goal

pub returns-in-Text-clause-held : goal.returns-in-Text-clause-held
returns-in-Text-clause-held c =
    subst (λ (v : Value). is_held v ≡ true) (sym c.in-Text.is) (is_utf8-from_IsUtf8 c.in-Text.text (subst IsUtf8 c.as_str.ensures c.as_str.utf8))
