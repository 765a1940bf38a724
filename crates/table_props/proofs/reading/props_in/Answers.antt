use Rattle.std.proofs.Common.{ℕ, List, Option, map, option_map, Bor, sym, ap, ◌∙◌}
use Rattle.table_props.specs.PropsTexts.{told_of}
use Rattle.table_props.specs.declared.props.Props.{Props}
use Rattle.table_props.proofs.ToldLemmas.{is_told}
use Rattle.table_props.proofs.reading.props_in.Goals as goal

pub returns-in-Some-clause-told : goal.returns-in-Some-clause-told
returns-in-Some-clause-told c =
    is_told (map (λ (line : Bor (List ℕ)). line.now) c.args.lines.now) (told_of c.in-Some.props) c.requires
    (sym c.in_ok-props.ensures ∙ ap (λ (o : Option Props). option_map told_of o) c.in-Some.is)
