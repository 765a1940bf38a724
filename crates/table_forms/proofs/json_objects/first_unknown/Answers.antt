use Rattle.std.proofs.Common.{◌≡◌, ℕ, Bool, true, false, List, Some, Bor, not, string_bytes, sym, ap, ◌∙◌}
use Rattle.std.specs.List.{list_any}
use Rattle.std.specs.Str.{bytes_eq}
use Rattle.table_forms.proofs.JsonObjectLemmas.{find_first, find_later}
use Rattle.table_forms.proofs.json_objects.first_unknown.Goals as goal

pub returns-then-not-is_known-clause-value : goal.returns-then-not-is_known-clause-value
returns-then-not-is_known-clause-value c =
    let test : List ℕ → Bool = λ name. not (list_any (λ (k : Bor (List ℕ)). bytes_eq k.now name) c.args.known.now) in
    let passes : test (string_bytes c.in-Some.name.now) ≡ true =
    ap test (sym c.as_str.ensures.value) ∙ ap not (sym c.is_known.ensures ∙ c.if-not-is_known.true) in
    ap Some c.as_str-then-not-is_known.ensures.value ∙ sym (find_first test _ _ _ c.in-Some.ensures.steps passes) ∙ c.loop-name.invariant

pub loop-name-preserved : goal.loop-name-preserved
loop-name-preserved c =
    let test : List ℕ → Bool = λ name. not (list_any (λ (k : Bor (List ℕ)). bytes_eq k.now name) c.args.known.now) in
    let fails : test (string_bytes c.in-Some.name.now) ≡ false =
    ap test (sym c.as_str.ensures.value) ∙ ap not (sym c.is_known.ensures ∙ c.if-not-is_known.false) in
    sym (find_later test _ _ _ c.in-Some.ensures.steps fails) ∙ c.loop-name.invariant
