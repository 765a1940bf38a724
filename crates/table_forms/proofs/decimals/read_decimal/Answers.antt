use Rattle.table_forms.proofs.DecimalLemmas.{decimal_of-exact}
use Rattle.table_forms.proofs.decimals.read_decimal.Goals as goal

pub returns-clause-value : goal.returns-clause-value
returns-clause-value c = decimal_of-exact c.args.text.now c.decimal_digits.result c.decimal_digits.ensures
