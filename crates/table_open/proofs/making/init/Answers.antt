use Rattle.std.proofs.Common.{◌≡◌, List, ℕ, subst, ◌∙◌}
use Rattle.hudi_base.specs.Store.{Creates}
use Rattle.hudi_base.specs.declared.store.Made.{Made}
use Rattle.hudi_base.specs.declared.store.Made.TheVariants.{Created, Exists, Failed}
use Rattle.table_props.specs.PropsTexts.{props_text, told_of}
use Rattle.table_open.proofs.Made.{created_so, none_or_table}
use Rattle.table_open.proofs.making.init.Goals as goal

pub returns-in-Created-clause-makes : goal.returns-in-Created-clause-makes
returns-in-Created-clause-makes g c =
    created_so (g.S.Store.is_honest c.args.store.now) _ _ (told_of c.args.props.now) _ _ Created (c.in-Ok.ensures (told_of c.args.props.now)) (c.as_slice.ensures ∙ c.in-Ok-properties_text.ensures.text)
    c.in-Created.ensures.answer

pub returns-in-Exists-clause-makes : goal.returns-in-Exists-clause-makes
returns-in-Exists-clause-makes g c =
    created_so (g.S.Store.is_honest c.args.store.now) _ _ (told_of c.args.props.now) _ _ Exists (c.in-Ok.ensures (told_of c.args.props.now)) (c.as_slice.ensures ∙ c.in-Ok-properties_text.ensures.text)
    c.in-Exists.ensures.answer

pub returns-in-Created-clause-images : goal.returns-in-Created-clause-images
returns-in-Created-clause-images g c = λ told. none_or_table (told_of c.args.props.now) told (c.in-Ok-properties_text.ensures.reads_back told)
