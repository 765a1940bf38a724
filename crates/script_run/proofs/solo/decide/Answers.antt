use Rattle.script_jobs.specs.Scripts.{said_script}
use Rattle.script_run.proofs.Meanings.{came_means, early_means}
use Rattle.script_run.proofs.Rising.{is_read}
use Rattle.script_run.proofs.solo.decide.Goals as goal

pub run_script-requires : goal.run_script-requires
run_script-requires g c = is_read _ (said_script c.in-Ok.script) c.in-Ok.ensures.says

pub returns-in-Ok : goal.returns-in-Ok
returns-in-Ok g c =
    came_means c.run_script.result.verdict c.args.words.now (said_script c.in-Ok.script) (g.S.Store.is_honest c.args.store) (g.S.Store.state c.args.store) (g.S.Store.state c.run_script.result.store)
    (g.R.Source.state c.args.input.now) (g.R.Source.state c.read_script.new.input) (g.C.Clock.state c.args.clock) (g.C.Clock.state c.run_script.result.clock)
    c.in-Ok.ensures c.run_script.ensures

pub returns-in-Err : goal.returns-in-Err
returns-in-Err g c =
    early_means c.in-Err.verdict c.args.words.now (g.S.Store.is_honest c.args.store) (g.S.Store.state c.args.store) (g.C.Clock.state c.args.clock) (g.R.Source.state c.args.input.now)
    (g.R.Source.state c.read_script.new.input) c.in-Err.ensures
