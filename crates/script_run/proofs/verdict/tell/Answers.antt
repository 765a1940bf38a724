use Rattle.std.proofs.Common.{[], inl, inr, refl}
use Rattle.script_run.specs.Outcome.{text_of}
use Rattle.script_run.proofs.EndParts.{written_none}
use Rattle.script_run.proofs.verdict.tell.Goals as goal

pub returns-in_default : goal.returns-in_default
unfolding text_of
returns-in_default g c = inr (c.in_default.ensures.memory, inl (refl, written_none (g.O.Sink.state c.args.output.now).written []))
