-- Histories whose names have a form.
use Rattle.std.specs.Prelude.{[], ◌∷◌}
use Rattle.table_history.specs.Histories.{History}
use Rattle.table_history.specs.Tables.{Table}
use Rattle.table_images.specs.Runs.{NamesFit}

-- each entry's drawn time, and the numbers in the names of its log, fit
abbrev pub AllNamesFit : Table → History → Type 0
AllNamesFit A [] = Unit {0}
AllNamesFit A (e ∷ H) = NamesFit A H e.step e.reply × AllNamesFit A H
