-- Jobs that have made no entry yet, and what they are given.
use Rattle.std.specs.Prelude.{◌≡◌, ℕ, List, [], codes, map}
use Rattle.job_script.specs.Rows.{value_of_input}
use Rattle.job_script.specs.declared.script.InputRow.{InputRow}
use Rattle.table_board.specs.Boards.{Origin, placed_own}
use Rattle.table_history.specs.Histories.{History}
use Rattle.upsert_writer.specs.declared.batch.PutRow.{PutRow}
use Rattle.upsert_writer.specs.declared.batch.PutRow.TheVariants.{Fits}

-- the job of a line in lane 1 has made no entry
abbrev pub IsNew : ℕ → History → Type 0
IsNew line H = placed_own (record { lane = 1; line = line }) H ≡ []

-- rows of a script as a writer is given them
abbrev pub are_given : List InputRow → List PutRow
are_given rows = map (λ row. Fits (value_of_input row)) rows

-- the board is one of the table of the tests
abbrev pub IsOfTable : Origin → Type 0
IsOfTable origin = origin.props.name ≡ codes "r1"
