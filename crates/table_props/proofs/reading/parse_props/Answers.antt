use Rattle.std.proofs.Common.{ℕ, List, [], Some, None, map, Bor, sym, ap, ◌∙◌}
use Rattle.table_props.specs.PropsTexts.{first_bad}
use Rattle.table_props.proofs.ToldLemmas.{read_by_lines, answers_same}
use Rattle.table_props.proofs.reading.parse_props.Goals as goal

pub returns-in-Some-clause-exact : goal.returns-in-Some-clause-exact
returns-in-Some-clause-exact c =
    let texts = map (λ (line : Bor (List ℕ)). line.now) in
    read_by_lines c.args.bytes.now (texts c.in_ok-lines.lines.items) (Some c.in-Some.place) c.in_ok-lines.ensures
    (ap (λ (ls : List (Bor (List ℕ))). first_bad [] (texts ls)) (sym c.deref.ensures.value) ∙ sym c.in_ok-place.ensures.place ∙ c.in-Some.is)

pub returns-clause-exact : goal.returns-clause-exact
returns-clause-exact c =
    let texts = map (λ (line : Bor (List ℕ)). line.now) in
    let same = ap texts c.deref-in-None.ensures.value ∙ c.in_ok-lines.ensures in
    let none = ap (λ (ls : List (Bor (List ℕ))). first_bad [] (texts ls)) (c.deref-in-None.ensures.value ∙ sym c.deref.ensures.value) ∙ sym c.in_ok-place.ensures.place ∙ c.in-None.is in
    answers_same c.props_in.result _ _ (sym (read_by_lines c.args.bytes.now (texts c.deref-in-None.result.now) None same none)) c.props_in.ensures.exact
