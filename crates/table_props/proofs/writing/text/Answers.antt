use Rattle.std.proofs.Common.{ap, ◌∙◌}
use Rattle.table_props.specs.PropsTexts.{told_of, read_props}
use Rattle.table_props.proofs.BackLemmas.{written_is_read}
use Rattle.table_props.proofs.writing.text.Goals as goal

pub returns-clause-reads_back : goal.returns-clause-reads_back
returns-clause-reads_back c = λ told.
    ap read_props (c.from_vec.ensures ∙ c.in_ok-out.ensures.text)
    ∙ written_is_read (told_of c.args.props.now) told (c.in_ok-out.ensures.named told.schema.0 told.schema.1)
