use Rattle.std.proofs.Common.{◌≡◌, arith}
use Rattle.std.proofs.lemmas.Option.{slice_get-get_or}
use Rattle.upsert_writer.specs.Blocks.{BlockForm}
use Rattle.upsert_writer.proofs.WriterSteps.{one_step, no_step, may_append, is_append}
use Rattle.upsert_writer.proofs.writer.append.Goals as goal

pub block_of-requires : goal.block_of-requires
block_of-requires g c =
    let may = c.requires.may _ (slice_get-get_or c.args.targets.now c.args.number c.index-targets-number.result c.requires.number) in
    record { of_kind = may.of_kind; counted = may.counted }

pub returns-in_default-clause-wrote : goal.returns-in_default-clause-wrote
returns-in_default-clause-wrote g c = λ batch is before. c.leave.ensures.wrote _ batch before

pub apply-requires : goal.apply-requires
apply-requires g c =
    let same : c.in-Ok-Ok.target ≡ c.args.number = omega (arith, c.in-Ok-Ok.ensures') in
    let may = c.requires.may _ (slice_get-get_or c.args.targets.now c.args.number c.index-targets-number.result c.requires.number) in
    may_append (record { Asks = g.T.Work.asks; Holds = g.T.Work.holds }) _ _ c.args.t c.args.targets.now c.args.number c.in-Ok-Ok.target c.index-targets-number.result c.in-Ok-Ok.block.writes c.in-Ok-Ok.block.bytes
    c.requires.so_far.phase same c.requires.number (may.holds c.in-Ok-Ok.block.writes c.in-Ok-Ok.block.bytes c.in-Ok-Ok.ensures)

pub returns-in-Placed-clause-wrote : goal.returns-in-Placed-clause-wrote
returns-in-Placed-clause-wrote g c = λ batch is before.
    let form : BlockForm = record { reading = g.K.RowCodec.block_rows c.args.codec.now; table = g.K.TableCodec.table_name c.args.codec.now; schema = g.K.TableCodec.schema c.args.codec.now } in
    let same : c.in-Ok-Ok.target ≡ c.args.number = omega (arith, c.in-Ok-Ok.ensures') in
    one_step form batch _ _ _ _ _ _ c.in-Placed.ensures.mine
    (is_append form batch c.args.own c.args.t _ c.args.targets.now c.args.number c.in-Ok-Ok.target c.index-targets-number.result c.in-Ok-Ok.block.writes c.in-Ok-Ok.block.bytes
    c.requires.so_far.given same c.requires.number
    (is _ (slice_get-get_or c.args.targets.now c.args.number c.index-targets-number.result c.requires.number)) c.in-Ok-Ok.ensures) before

pub returns-in-Fault-clause-wrote : goal.returns-in-Fault-clause-wrote
returns-in-Fault-clause-wrote g c = λ batch is before.
    let form : BlockForm = record { reading = g.K.RowCodec.block_rows c.args.codec.now; table = g.K.TableCodec.table_name c.args.codec.now; schema = g.K.TableCodec.schema c.args.codec.now } in
    let same : c.in-Ok-Ok.target ≡ c.args.number = omega (arith, c.in-Ok-Ok.ensures') in
    c.leave-in-Fault.ensures.wrote form batch (one_step form batch _ _ _ _ _ _ c.in-Fault.ensures.mine
    (is_append form batch c.args.own c.args.t _ c.args.targets.now c.args.number c.in-Ok-Ok.target c.index-targets-number.result c.in-Ok-Ok.block.writes c.in-Ok-Ok.block.bytes
    c.requires.so_far.given same c.requires.number
    (is _ (slice_get-get_or c.args.targets.now c.args.number c.index-targets-number.result c.requires.number)) c.in-Ok-Ok.ensures) before)

pub returns-in-Memory-clause-wrote : goal.returns-in-Memory-clause-wrote
returns-in-Memory-clause-wrote g c = λ batch is before. c.leave-in-Memory.ensures.wrote _ batch (no_step _ batch _ _ c.in-Memory.ensures.mine before)
