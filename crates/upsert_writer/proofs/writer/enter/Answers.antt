use Rattle.upsert_writer.proofs.WriterSteps.{one_step, no_step}
use Rattle.upsert_writer.proofs.writer.enter.Goals as goal

pub returns-in-Fault-clause-wrote : goal.returns-in-Fault-clause-wrote
returns-in-Fault-clause-wrote g c = λ form batch asks before. c.leave.ensures.wrote form batch (one_step form batch _ _ _ _ _ _ c.in-Fault.ensures.mine asks before)

pub returns-in-Damaged-clause-wrote : goal.returns-in-Damaged-clause-wrote
returns-in-Damaged-clause-wrote g c = λ form batch asks before. c.leave-in-Damaged.ensures.wrote form batch (one_step form batch _ _ _ _ _ _ c.in-Damaged.ensures.mine asks before)

pub returns-in-Memory-clause-wrote : goal.returns-in-Memory-clause-wrote
returns-in-Memory-clause-wrote g c = λ form batch asks before. c.leave-in-Memory.ensures.wrote form batch (no_step form batch _ _ c.in-Memory.ensures.mine before)
