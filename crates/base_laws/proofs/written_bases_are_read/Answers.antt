use Rattle.base_laws.proofs.Whole.{written_again}
use Rattle.base_laws.proofs.written_bases_are_read.Goals as goal

pub returns : goal.returns
returns c = written_again
