use Rattle.table_images.proofs.Opened.{fresh_stands, fresh_just_opened}
use Rattle.table_images.proofs.laws.properties_are_a_fresh_table.Goals as goal

pub returns : goal.returns
returns c = record { stands = fresh_stands; opened = fresh_just_opened }
