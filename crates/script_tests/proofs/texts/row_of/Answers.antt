use Rattle.script_tests.proofs.texts.row_of.Goals as goal

pub returns : goal.returns
returns c = let told = c.in_ok-row.ensures in (told.0, told.3.0)
