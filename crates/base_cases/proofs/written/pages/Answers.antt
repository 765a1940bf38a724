use Rattle.std.proofs.Common.{◌∙◌, List, [], ◌∷◌, ap, refl}
use Rattle.std.specs.Prelude.{codes, pos}
use Rattle.hudi_base.specs.declared.column.Column.{Column}
use Rattle.hudi_base.specs.declared.value.Value.{Value}
use Rattle.hudi_base.specs.declared.value.Value.TheVariants.{Int, Text}
use Rattle.base_writer.specs.GroupParts.{group_parts}
use Rattle.base_cases.specs.Sample.{the_columns}
use Rattle.base_cases.proofs.written.pages.Goals as goal

abbrev the_first : List Value
the_first = Text (codes "a") ∷ Int (pos 1) ∷ []

pub add-requires : goal.add-requires
add-requires c = rw (c.requires, c.in_ok-first.ensures) (refl, refl, (refl, refl, tt))

pub add-requires-2 : goal.add-requires-2
add-requires-2 c = rw (c.requires, c.in_ok-second.ensures) (refl, refl, (refl, refl, tt))

pub returns : goal.returns
returns c =
    let one = c.in_ok-add.ensures [] c.in_ok-pages.ensures in
    let two = c.in_ok-add-2.ensures (c.in_ok-first.first ∷ []) one in
    two ∙ ap (λ (columns : List Column). group_parts columns (c.in_ok-first.first ∷ c.in_ok-second.second ∷ [])) c.requires
    ∙ ap (λ (cells : List Value). group_parts the_columns (cells ∷ c.in_ok-second.second ∷ [])) c.in_ok-first.ensures
    ∙ ap (λ (cells : List Value). group_parts the_columns (the_first ∷ cells ∷ [])) c.in_ok-second.ensures
