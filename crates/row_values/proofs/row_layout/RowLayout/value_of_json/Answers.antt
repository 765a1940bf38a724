use Rattle.std.proofs.Common.{refl}
use Rattle.row_values.proofs.CellLemmas.{fields_fit}
use Rattle.row_values.proofs.row_layout.RowLayout.value_of_json.Goals as goal

pub returns-clause-fits : goal.returns-clause-fits
returns-clause-fits c = (c.in_ok-values_of_json.field-0, refl, fields_fit c.args.self.now.fields c.in_ok-values_of_json.field-0 (rw c.as_slice.ensures at c.in_ok-values_of_json.ensures.fits))
