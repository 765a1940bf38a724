use Rattle.hudi_base.specs.Streams.{SinkState}
use Rattle.script_run.specs.Outcome.{Moment, moment}
use Rattle.script_run.proofs.Meanings.{ends_well, told}
use Rattle.script_run.proofs.solo.hudi_run_solo.Goals as goal

pub returns : goal.returns
returns g c =
    let honest = g.S.Store.is_honest c.args.store in
    let words = c.args.words.now in
    let before : Moment = moment (g.S.Store.state c.args.store) (g.R.Source.state c.args.input.now) (g.C.Clock.state c.args.clock) in
    let now : Moment = moment (g.S.Store.state c.decide-ended.result.store) (g.R.Source.state c.decide-ended.new.input) (g.C.Clock.state c.decide-ended.result.clock) in
    let old : SinkState = g.O.Sink.state c.args.output.now in
    let new : SinkState = g.O.Sink.state c.tell-status.new.output in
    let run = told c.decide-ended.result.verdict words honest before now c.tell-status.result old new c.decide-ended.ensures c.tell-status.ensures in
    record { run = run; ends_well = λ smooth. ends_well run.0 words honest before now c.tell-status.result old new smooth run.1.0 run.1.1 }
