use Rattle.row_values.proofs.ToldLemmas.{told_places}
use Rattle.row_values.proofs.laws.told_properties_have_typed_places.Goals as goal

pub returns : goal.returns
returns c = told_places
