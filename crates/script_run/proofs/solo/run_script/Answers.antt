use Rattle.std.proofs.Common.{sym, subst}
use Rattle.hudi_base.specs.Files.{Told}
use Rattle.script_jobs.specs.Scripts.{said_script}
use Rattle.script_run.specs.Outcome.{IsWithoutFiles}
use Rattle.script_run.proofs.Endings.{came_earlier}
use Rattle.script_run.proofs.Meanings.{listed_came}
use Rattle.script_run.proofs.solo.run_script.Goals as goal

pub run_new-requires-clause-fresh : goal.run_new-requires-clause-fresh
run_new-requires-clause-fresh g c = subst (λ (told : Told). IsWithoutFiles told) (sym c.in-Ok.ensures.same) c.in-Ok.ensures.listed

pub returns-in-Ok : goal.returns-in-Ok
returns-in-Ok g c =
    came_earlier c.run_new.result.verdict (said_script c.args.script) (g.S.Store.is_honest c.args.store) (g.S.Store.is_honest c.find_no_file.new.store) (g.S.Store.state c.args.store)
    (g.S.Store.state c.find_no_file.new.store) (g.S.Store.state c.run_new.result.store) (g.C.Clock.state c.args.clock) (g.C.Clock.state c.run_new.result.clock)
    c.in-Ok.ensures.honest.0 c.in-Ok.ensures.same c.in-Ok.ensures.count c.run_new.ensures

pub returns-in-Err : goal.returns-in-Err
returns-in-Err g c =
    listed_came c.in-Err.verdict (said_script c.args.script) (g.S.Store.is_honest c.args.store) (g.S.Store.state c.args.store) (g.S.Store.state c.find_no_file.new.store) (g.C.Clock.state c.args.clock)
    c.in-Err.ensures.same c.in-Err.ensures.listed
