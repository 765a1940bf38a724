use Rattle.table_core.proofs.PinLemmas.{unpinned_taken}
use Rattle.table_core.proofs.control.Control.take_unpin.Goals as goal

pub returns : goal.returns
returns c = λ A H job is. unpinned_taken A H c.args.self.now job c.args.pin _ is c.remove.ensures
