-- Jobs one after another, and one more.
use Rattle.std.proofs.Common.{◌≡◌, ◌||◌, ℕ, ◌+◌, Bool, true, false, List, [], ◌∷◌, ◌++◌, Result, Ok, Err, map, refl, sym, ap, subst, ◌∙◌, append_assoc, append-nil}
use Rattle.std.proofs.lemmas.List.{map-append}
use Rattle.std.specs.Prelude.{IsErr, MatchResult}
use Rattle.std.specs.declared.alloc.AllocError.{AllocError}
use Rattle.script_texts.specs.Texts.{job_text, jobs_text}
use Rattle.script_jobs.specs.Scripts.{SaidJob, said_job}
use Rattle.script_jobs.specs.declared.script.Job.{Job}
use Rattle.table_core.specs.declared.job_reply.JobReply.{JobReply}
use Rattle.table_history.specs.Histories.{History}
use Rattle.script_run.specs.Outcome.{any_failed, is_failure}
use Rattle.script_run.specs.Parts.{AreBelow, AreFrom, AreNext, RanNext, RanSoFar, StoppedAt}
use Rattle.script_run.specs.Runs.{RanJobs, RanLine, RunTable}
use Rattle.script_run.proofs.Turns.{below_next, below_raised}

one_job : (table : RunTable) (Stood : Type 0) (job : SaidJob) (reply : JobReply) (before between after : History) → between ≡ before → RanLine table Stood job between after reply
    → RanJobs table Stood (job ∷ []) (reply ∷ []) before after
one_job table Stood job reply before between after same ran = (after, subst (λ (H : History). RanLine table Stood job H after reply) same ran, refl)

-- one more job behind others
pub ran_more : (table : RunTable) (Stood : Type 0) (jobs : List SaidJob) (replies : List JobReply) (job : SaidJob) (reply : JobReply) (before between after : History)
    → RanJobs table Stood jobs replies before between → RanLine table Stood job between after reply → RanJobs table Stood (jobs ++ job ∷ []) (replies ++ reply ∷ []) before after
ran_more table Stood [] [] job reply before between after all ran = one_job table Stood job reply before between after all ran
ran_more table Stood [] (r ∷ replies) job reply before between after all ran = absurd all
ran_more table Stood (j ∷ jobs) [] job reply before between after all ran = absurd all
ran_more table Stood (j ∷ jobs) (r ∷ replies) job reply before between after all ran =
    (all.0, all.1, ran_more table Stood jobs replies job reply all.0 between after all.2 ran)

pub text_more : (table : RunTable) (Stood : Type 0) (jobs : List SaidJob) (replies : List JobReply) (job : SaidJob) (reply : JobReply) (before between : History)
    → RanJobs table Stood jobs replies before between → jobs_text table.layout (jobs ++ job ∷ []) (replies ++ reply ∷ []) ≡ jobs_text table.layout jobs replies ++ job_text table.layout job reply
text_more table Stood [] [] job reply before between all = append-nil (job_text table.layout job reply)
text_more table Stood [] (r ∷ replies) job reply before between all = absurd all
text_more table Stood (j ∷ jobs) [] job reply before between all = absurd all
text_more table Stood (j ∷ jobs) (r ∷ replies) job reply before between all =
    ap (λ (text : List ℕ). job_text table.layout j r ++ text) (text_more table Stood jobs replies job reply all.0 between all.2)
    ∙ sym (append_assoc (job_text table.layout j r) (jobs_text table.layout jobs replies) (job_text table.layout job reply))

or_first : (a b c d : Bool) → b ≡ (c || d) → (a || b) ≡ ((a || c) || d)
or_first true b c d is = refl
or_first false b c d is = is

or_false : (b : Bool) → (b || false) ≡ b
or_false true = refl
or_false false = refl

pub failed_more : (replies : List JobReply) (reply : JobReply) → any_failed (replies ++ reply ∷ []) ≡ (any_failed replies || is_failure reply)
failed_more [] reply = or_false (is_failure reply)
failed_more (r ∷ replies) reply = or_first (is_failure r) _ _ _ (failed_more replies reply)

-- ---- one more job of a script

-- the text behind the line of the making, with a job more
printed_more : (table : RunTable) (made : List ℕ) (jobs : List SaidJob) (replies : List JobReply) (job : SaidJob) (reply : JobReply) (H : History)
    → RanJobs table ⊥ jobs replies [] H → (made ++ jobs_text table.layout jobs replies) ++ job_text table.layout job reply ≡ made ++ jobs_text table.layout (jobs ++ job ∷ []) (replies ++ reply ∷ [])
printed_more table made jobs replies job reply H ran =
    append_assoc made (jobs_text table.layout jobs replies) (job_text table.layout job reply) ∙ ap (λ (t : List ℕ). made ++ t) (sym (text_more table ⊥ jobs replies job reply [] H ran))

pub ran_next : (table : RunTable) (made : List ℕ) (jobs : List SaidJob) (job : SaidJob) (H K : History) (text more : List ℕ) (failed fails : Bool)
    → RanSoFar table made jobs H text failed → RanNext table job H K (Ok fails) text more → RanSoFar table made (jobs ++ job ∷ []) K more (failed || fails)
ran_next table made jobs job H K text more failed fails so_far next = record {
  replies = so_far.replies ++ next.reply ∷ [];
  ran = ran_more table ⊥ jobs so_far.replies job next.reply [] H K so_far.ran next.ran;
  failure = failed_more so_far.replies next.reply ∙ ap (λ (b : Bool). b || is_failure next.reply) so_far.failure ∙ ap (λ (b : Bool). failed || b) (sym next.told.0);
  printed = next.told.1 ∙ ap (λ (t : List ℕ). t ++ job_text table.layout job next.reply) so_far.printed ∙ printed_more table made jobs so_far.replies job next.reply H so_far.ran;
}

pub stopped : (table : RunTable) (made : List ℕ) (jobs : List SaidJob) (job : SaidJob) (rest all : List SaidJob) (H K : History) (text more : List ℕ) (failed : Bool) (error : AllocError)
    → RanSoFar table made jobs H text failed → RanNext table job H K (Err error) text more → (jobs ++ job ∷ []) ++ rest ≡ all → StoppedAt table made all K more
stopped table made jobs job rest all H K text more failed error so_far next is = record {
  first = jobs ++ job ∷ [];
  later = rest;
  are = sym is;
  replies = so_far.replies ++ next.reply ∷ [];
  ran = ran_more table ⊥ jobs so_far.replies job next.reply [] H K so_far.ran next.ran;
  rest = job_text table.layout job next.reply;
  printed = sym (printed_more table made jobs so_far.replies job next.reply H so_far.ran)
      ∙ ap (λ (t : List ℕ). t ++ job_text table.layout job next.reply) (sym so_far.printed ∙ sym next.told);
}

pub next_more : (table : RunTable) (job : SaidJob) (rest : List SaidJob) (H K : History) (result : Result Bool AllocError) (text more : List ℕ)
    → AreNext (job ∷ rest) H → RanNext table job H K result text more → AreNext rest K
next_more table job rest H K result text more next ran = record {
  number = job.line + 1;
  below = below_next table ⊥ job H K ran.reply (below_raised next.number job.line H next.from.0 next.below) ran.ran;
  from = next.from.2;
}

pub next_below : (job : SaidJob) (rest : List SaidJob) (H : History) (next : AreNext (job ∷ rest) H) → AreBelow job.line H
next_below job rest H next = below_raised next.number job.line H next.from.0 next.below

-- ---- at first

pub none_ran : (table : RunTable) (H : History) (text : List ℕ) → H ≡ [] → RanSoFar table text [] H text false
none_ran table H text fresh = record { replies = []; ran = fresh; failure = refl; printed = sym (append-nil text) }

pub all_next : (jobs : List SaidJob) (H : History) → H ≡ [] → AreFrom 1 jobs → AreNext jobs H
all_next jobs H fresh from = record { number = 1; below = subst (AreBelow 1) (sym fresh) tt; from = from }

pub on_err : {A E : Type 0} (P : A → Type 0) (Q : E → Type 0) (r : Result A E) → IsErr r → ((error : E) → Q error) → MatchResult r P Q
on_err P Q (Ok x) is q = cc
on_err P Q (Err e) is q = q e

-- ---- jobs as they are taken

pub taken : (before : List Job) (job : Job) (rest items all : List Job) → before ++ items ≡ all → items ≡ job ∷ rest → (before ++ job ∷ []) ++ rest ≡ all
taken before job rest items all whole is = append_assoc before (job ∷ []) rest ∙ ap (λ (jobs : List Job). before ++ jobs) (sym is) ∙ whole

pub said_more : (before : List Job) (job : Job) → map said_job before ++ said_job job ∷ [] ≡ map said_job (before ++ job ∷ [])
said_more before job = sym (map-append said_job before (job ∷ []))

-- by what they say
pub taken_jobs : (before : List Job) (job : Job) (rest items all : List Job) → before ++ items ≡ all → items ≡ job ∷ rest → (map said_job before ++ said_job job ∷ []) ++ map said_job rest ≡ map said_job all
taken_jobs before job rest items all whole is =
    ap (λ (said : List SaidJob). said ++ map said_job rest) (said_more before job) ∙ sym (map-append said_job (before ++ job ∷ []) rest) ∙ ap (map said_job) (taken before job rest items all whole is)

pub or_true : (a b : Bool) → a ≡ true → (a || b) ≡ a
or_true a b is = rw is refl

pub or_other : (a b : Bool) → a ≡ false → (a || b) ≡ b
or_other a b is = rw is refl
