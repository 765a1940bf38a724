use Rattle.table_core.proofs.Taken.{begun_taken}
use Rattle.table_core.proofs.control.Control.take_begin.Goals as goal

pub returns-in-Began : goal.returns-in-Began
returns-in-Began c = rw c.in-Began.is (λ A H job is above. begun_taken A H c.args.self.now job c.in-Began.t is above)
