-- After Abandon nothing is owed.
use Rattle.std.proofs.Common.{◌≡◌, ℕ, refl}
use Rattle.table_history.specs.JobLaw.{Work, Phase, Fresh, Drawn, Writes, Committed, Owes, Reads, Leaves, Ended, Allows, next_phase}
use Rattle.table_history.specs.declared.job.Job.{Job}
use Rattle.table_history.specs.declared.reply.Reply.{Reply}
use Rattle.table_history.specs.declared.step.Step.TheVariants.{Abandon}

pub leaving : (work : Work) (job : Job) (p : Phase) (t : ℕ) (r : Reply) → Allows work job p (Abandon t) → next_phase p (Abandon t) r ≡ Ended
leaving work job Fresh t r may = absurd may
leaving work job (Drawn u) t r may = refl
leaving work job (Writes u targets placed) t r may = refl
leaving work job (Committed u) t r may = refl
leaving work job (Owes u) t r may = refl
leaving work job (Reads pin files at) t r may = absurd may
leaving work job (Leaves pin) t r may = refl
leaving work job Ended t r may = refl
