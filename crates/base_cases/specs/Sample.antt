-- The columns of the cases, and the rows of the file that is written.
use Rattle.std.specs.Prelude.{pos, true, false, codes, List, [], ◌∷◌}
use Rattle.hudi_base.specs.declared.column.Column.{Column}
use Rattle.hudi_base.specs.declared.value.Value.{Value}
use Rattle.hudi_base.specs.declared.value.Value.TheVariants.{Null, Int, Text}

-- `k`, a required text, and `v`, an optional number of 32 bits
abbrev pub the_columns : List Column
the_columns =
    (record { name = codes "k"; physical = pos 6; optional = false; utf8 = true })
    ∷ (record { name = codes "v"; physical = pos 1; optional = true; utf8 = false }) ∷ []

abbrev pub the_rows : List (List Value)
the_rows = (Text (codes "a") ∷ Int (pos 1) ∷ []) ∷ (Text (codes "b") ∷ Null ∷ []) ∷ []
