-- A pin that is let go.
use Rattle.std.proofs.Common.{◌≡◌, ℕ, refl, sym}
use Rattle.table_history.specs.JobLaw.{Work, Phase, Fresh, Drawn, Writes, Committed, Owes, Reads, Leaves, Ended, Allows, next_phase}
use Rattle.table_history.specs.declared.job.Job.{Job}
use Rattle.table_history.specs.declared.reply.Reply.{Reply}
use Rattle.table_history.specs.declared.step.Step.TheVariants.{Unpin}
use Rattle.table_query.specs.Reading.{MayLeave}

pub may_unpin : (work : Work) (job : Job) (pin : ℕ) (p : Phase) → MayLeave pin p → Allows work job p (Unpin pin)
may_unpin work job pin (Reads q files at) may = sym may
may_unpin work job pin (Leaves q) may = sym may
may_unpin work job pin Fresh may = absurd may
may_unpin work job pin (Drawn t) may = absurd may
may_unpin work job pin (Writes t targets placed) may = absurd may
may_unpin work job pin (Committed t) may = absurd may
may_unpin work job pin (Owes t) may = absurd may
may_unpin work job pin Ended may = absurd may

pub unpinned : (pin : ℕ) (p : Phase) (r : Reply) → MayLeave pin p → next_phase p (Unpin pin) r ≡ Ended
unpinned pin (Reads q files at) r may = refl
unpinned pin (Leaves q) r may = refl
unpinned pin Fresh r may = absurd may
unpinned pin (Drawn t) r may = absurd may
unpinned pin (Writes t targets placed) r may = absurd may
unpinned pin (Committed t) r may = absurd may
unpinned pin (Owes t) r may = absurd may
unpinned pin Ended r may = absurd may
