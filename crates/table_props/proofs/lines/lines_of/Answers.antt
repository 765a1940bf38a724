use Rattle.std.proofs.Common.{ℕ, List, [], ◌∷◌, ◌++◌, map, Bor, sym, ap, ◌∙◌, append_assoc}
use Rattle.std.proofs.lemmas.List.{map_push}
use Rattle.table_props.specs.PropsTexts.{lines_of}
use Rattle.table_props.proofs.LineLemmas.{lines_step, lines_end}
use Rattle.table_props.proofs.lines.lines_of.Goals as goal

pub lines-preserved : goal.lines-preserved
lines-preserved c =
    let texts = map (λ (line : Bor (List ℕ)). line.now) in
    let found : List (Bor (List ℕ)) = c.lines.lines.items in
    let step = lines_step c.lines.rest.now c.in-Some.line.now c.in-Some.after.now (sym c.in-Some.ensures) in
    let more = ap texts c.in_ok-push_line.ensures ∙ map_push (λ (line : Bor (List ℕ)). line.now) found c.in-Some.line in
    c.lines.invariant ∙ ap (λ (ls : List (List ℕ)). texts found ++ ls) step.0
    ∙ sym (append_assoc (texts found) (c.in-Some.line.now ∷ []) (lines_of c.in-Some.after.now))
    ∙ ap (λ (ls : List (List ℕ)). ls ++ lines_of c.in-Some.after.now) (sym more)

pub returns : goal.returns
returns c =
    let texts = map (λ (line : Bor (List ℕ)). line.now) in
    c.in_ok-push_last.ensures
    ∙ ap (λ (ls : List (List ℕ)). texts c.lines.lines.items ++ ls) (sym (lines_end c.lines.rest.now (sym c.in_default.ensures)))
    ∙ sym c.lines.invariant
