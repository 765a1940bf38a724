use Rattle.std.proofs.Common.{◌∙◌, List, ℕ, ap, sym, subst}
use Rattle.std.specs.Str.{IsUtf8}
use Rattle.hudi_base.specs.Calendar.{civil_of}
use Rattle.hudi_base.specs.InstantTime.{civil_text, time_text}
use Rattle.hudi_base.proofs.Times.{IsUtf8-time_text}
use Rattle.hudi_base.proofs.instant_time.InstantTime.text.Goals as goal

pub returns-clause-value : goal.returns-clause-value
unfolding time_text
returns-clause-value c = c.text.ensures ∙ ap civil_text (c.of_ms.ensures ∙ ap civil_of c.self.view_is)

pub returns-clause-utf8 : goal.returns-clause-utf8
unfolding time_text
returns-clause-utf8 c =
    let shown = ap civil_text c.of_ms.ensures in
    let P : List ℕ → Type 0 = λ text. IsUtf8 text in
    subst P (sym (c.text.ensures ∙ shown)) (IsUtf8-time_text c.self.inside.since_1970 c.self.invariant)
