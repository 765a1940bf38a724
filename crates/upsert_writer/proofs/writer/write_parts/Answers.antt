use Rattle.upsert_writer.proofs.TargetWrites.{may_each}
use Rattle.upsert_writer.proofs.writer.write_parts.Goals as goal

pub returns-in_default-clause-wrote : goal.returns-in_default-clause-wrote
returns-in_default-clause-wrote g c = λ before. c.leave.ensures.wrote _ c.args.batch before

pub append_all-requires-clause-may : goal.append_all-requires-clause-may
append_all-requires-clause-may g c =
    may_each (g.K.RowCodec.own_row c.args.codec.now) g.T.Work.holds (g.T.Steps.job c.args.steps.now) _ c.args.t c.args.batch c.args.targets.now _
    c.in-Ok.ensures c.requires.ready c.requires.holds
