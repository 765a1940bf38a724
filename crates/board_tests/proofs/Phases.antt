-- How far jobs are after an entry of one.
use Rattle.std.proofs.Common.{◌≡◌, ◌≢◌, ℕ, Bool, false, cond, List, [], ◌∷◌, refl, sym, ap, ◌∙◌, subst}
use Rattle.table_board.proofs.Lanes.{own_more}
use Rattle.table_board.specs.Boards.{after_step}
use Rattle.table_history.specs.Histories.{History, own, is_job}
use Rattle.table_history.specs.JobLaw.{Phase, Fresh, phase, next_phase}
use Rattle.table_history.specs.declared.entry.Entry.{Entry}
use Rattle.table_history.specs.declared.job.Job.{Job}
use Rattle.table_history.specs.declared.reply.Reply.{Reply}
use Rattle.table_history.specs.declared.reply.Reply.TheVariants as reply
use Rattle.table_history.specs.declared.step.Step.{Step}
use Rattle.board_tests.specs.Lanes.{IsFresh, KeepsFresh}

pub at_next : (j : Job) (s : Step) (r : Reply) (H K : History) (p : Phase) → K ≡ record { job = j; step = s; reply = r } ∷ H
    → phase (own j H) ≡ p → phase (own j K) ≡ next_phase p s r
at_next j s r H K p is at =
    let P : History → Type 0 = λ K. phase (own j K) ≡ next_phase p s r in
    subst P (sym is) (own_more j s r H ∙ ap (λ p. next_phase p s r) at)

passed_over : (b : Bool) (e : Entry) (es : List Entry) → b ≡ false → cond b (e ∷ es) es ≡ es
passed_over b e es is = rw is refl

-- the step of a job leaves the others as far as they were
pub others_stay : (j : Job) (s : Step) (r : Reply) (H K : History) → K ≡ after_step j s r H → KeepsFresh j H K
others_stay j s reply.Memory H K is other apart fresh = ap (λ H. phase (own other H)) is ∙ fresh
others_stay j s r H K is other apart fresh =
    ap (λ H. phase (own other H)) is ∙ ap phase (passed_over (is_job other j) (record { job = j; step = s; reply = r }) (own other H) apart) ∙ fresh

pub others_on : (j : Job) (H K L : History) → KeepsFresh j H K → KeepsFresh j K L → KeepsFresh j H L
others_on j H K L one two other apart fresh = two other apart (one other apart fresh)

-- before the first entry no job has made one
pub at_first : (H : History) (j : Job) → H ≡ [] → IsFresh H j
at_first H j is = ap (λ H. phase (own j H)) is
