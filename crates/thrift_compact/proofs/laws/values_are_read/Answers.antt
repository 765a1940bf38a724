use Rattle.thrift_compact.proofs.GrammarLemmas.{value_known}
use Rattle.thrift_compact.proofs.laws.values_are_read.Goals as goal

pub returns-clause-found : goal.returns-clause-found
returns-clause-found c = λ levels kind. (value_known levels kind).took

pub returns-clause-again : goal.returns-clause-again
returns-clause-again c = λ levels kind. (value_known levels kind).again
