use Rattle.std.proofs.Common.{◌≡◌, List, ℕ, Ok, subst}
use Rattle.table_props.specs.PropsTexts.{read_props, told_of}
use Rattle.table_open.proofs.making.properties_text.Goals as goal

pub returns-in-Ok-clause-reads_back : goal.returns-in-Ok-clause-reads_back
returns-in-Ok-clause-reads_back c = λ told.
    let P : List ℕ → Type 0 = λ text. read_props text ≡ Ok (told_of c.args.props.now) in
    subst P c.in-Ok.ensures.text (c.in-Ok.ensures.reads_back told)
