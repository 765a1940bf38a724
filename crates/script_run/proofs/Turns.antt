-- A job that comes behind those of lower lines.
use Rattle.std.proofs.Common.{◌≡◌, ℕ, ◌+◌, ◌<◌, ◌≤◌, true, false, List, [], ◌∷◌, ◌++◌, refl, sym, ap, subst, ◌∙◌, arith}
use Rattle.std.proofs.lemmas.Bool.Decides.{nat_tests}
use Rattle.std.specs.List.{AllByRecursion}
use Rattle.table_answers.specs.InTurn.{IsMadeBy}
use Rattle.table_board.specs.Boards.{placed_own}
use Rattle.table_board.specs.Later.{AddsOwn}
use Rattle.table_board.proofs.Lanes.{own_of_placed}
use Rattle.table_core.specs.declared.job_reply.JobReply.{JobReply}
use Rattle.table_history.specs.Histories.{History, is_job, own}
use Rattle.table_history.specs.JobLaw.{entries_of}
use Rattle.table_history.specs.declared.entry.Entry.{Entry}
use Rattle.table_history.specs.declared.job.Job.{Job}
use Rattle.script_jobs.specs.Scripts.{SaidJob}
use Rattle.script_run.specs.Lines.{AnswersLine}
use Rattle.script_run.specs.Parts.{AreBelow}
use Rattle.script_run.specs.Runs.{RanLine, RunTable, job_of}

other_line : (job e : Job) → e.line < job.line → is_job job e ≡ false
other_line job e below = grind (arith, nat_tests)

itself : (job : Job) → is_job job job ≡ true
itself job = grind (arith, nat_tests)

-- a job of a higher line has no entry
pub none_placed : (job : Job) (H : History) → AreBelow job.line H → placed_own job H ≡ []
none_placed job [] below = refl
none_placed job (e ∷ H) below = rw (other_line job e.job below.0) (none_placed job H below.1)

none_own : (job : Job) (H : History) → AreBelow job.line H → own job H ≡ []
none_own job [] below = refl
none_own job (e ∷ H) below = rw (other_line job e.job below.0) (none_own job H below.1)

own_mine : (job : Job) (mine before : List Entry) → AllByRecursion (λ e. e.job ≡ job) mine → own job before ≡ [] → own job (mine ++ before) ≡ mine
own_mine job [] before all first = first
own_mine job (e ∷ mine) before all first =
    let same : is_job job e.job ≡ true = ap (is_job job) all.0 ∙ itself job in
    rw same (ap (λ es. e ∷ es) (own_mine job mine before all.1 first))

-- the entries that it made
pub made : (job : Job) (before after : History) (adds : AddsOwn job before after) → AreBelow job.line before → IsMadeBy job before after adds.mine
made job before after adds below = record { are = adds.are; all = adds.own; first = none_own job before below }

pub ran_line : (table : RunTable) (job : SaidJob) (of : Job) (before mid after : History) (reply : JobReply) → of ≡ job_of job → mid ≡ before → AreBelow job.line before
    → AddsOwn of mid after → AnswersLine table.layout job.what (entries_of (placed_own of after)) reply → RanLine table ⊥ job before after reply
ran_line table job of before mid after reply is same below adds answers =
    let own_job = job_of job in
    let adds_own : AddsOwn own_job before after = subst (λ (H : History). AddsOwn own_job H after) same (subst (λ (j : Job). AddsOwn j mid after) is adds) in
    let first = none_own own_job before below in
    let mine_is : entries_of (placed_own of after) ≡ adds_own.mine =
    ap (λ (j : Job). entries_of (placed_own j after)) is ∙ own_of_placed own_job after ∙ ap (own own_job) adds_own.are ∙ own_mine own_job adds_own.mine before adds_own.own first in
    record {
      mine = adds_own.mine;
      made = made own_job before after adds_own below;
      answers = subst (λ (es : List Entry). AnswersLine table.layout job.what es reply) mine_is answers;
      comes = λ none. absurd none;
    }

-- ---- the lines of entries

below_more : (number next : ℕ) (H : History) → number ≤ next → AreBelow number H → AreBelow next H
below_more number next [] le below = tt
below_more number next (e ∷ H) le below = let lower = below.0 in (omega arith, below_more number next H le below.1)

of_line : (job : Job) (mine : List Entry) → AllByRecursion (λ e. e.job ≡ job) mine → (before : History) → AreBelow (job.line + 1) before → AreBelow (job.line + 1) (mine ++ before)
of_line job [] all before below = below
of_line job (e ∷ mine) all before below =
    let line : e.job.line ≡ job.line = ap (λ (j : Job). j.line) all.0 in
    (omega (arith, line), of_line job mine all.1 before below)

pub below_next : (table : RunTable) (Stood : Type 0) (job : SaidJob) (before after : History) (reply : JobReply) → AreBelow job.line before → RanLine table Stood job before after reply
    → AreBelow (job.line + 1) after
below_next table Stood job before after reply below ran =
    subst (AreBelow (job.line + 1)) (sym ran.made.are)
    (of_line (job_of job) ran.mine ran.made.all before (below_more job.line (job.line + 1) before (omega arith) below))

pub below_raised : (number next : ℕ) (H : History) → number ≤ next → AreBelow number H → AreBelow next H
below_raised = below_more
