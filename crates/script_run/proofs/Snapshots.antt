-- The snapshots of a run are folds of the instants that were completed when they began.
use Rattle.std.proofs.Common.{◌≡◌, inl, inr, true, ℕ, List, [], ◌∷◌, ◌++◌, Result, Ok, Err, refl, sym, ap, subst, ◌∙◌, append_assoc}
use Rattle.std.specs.List.{AllByRecursion}
use Rattle.key_index.specs.Tiling.{IsBuckets}
use Rattle.payload_merge.specs.declared.row.Write.{Write}
use Rattle.script_jobs.specs.Jobs.{Said, init, upsert, delete, snapshot}
use Rattle.script_jobs.specs.Scripts.{SaidJob}
use Rattle.table_answers.specs.InTurn.{CarriesForm, IsInTurn, IsMadeBy}
use Rattle.table_answers.specs.NamedRuns.{AllNamesFit}
use Rattle.table_answers.proofs.Beginnings.{legal_before, named_before}
use Rattle.table_answers.proofs.Batches.{batch_written, given_written}
use Rattle.table_answers.proofs.Made.{next_turn, query_carries, writer_carries}
use Rattle.table_answers.proofs.SnapshotAnswers.{snapshot_is_fold}
use Rattle.table_board.specs.HonestRuns.{IsUndamaged}
use Rattle.table_core.specs.declared.job_reply.JobReply.{JobReply}
use Rattle.table_core.specs.declared.job_reply.JobReply.TheVariants.{Committed}
use Rattle.table_history.specs.Answers.{is_completed}
use Rattle.table_history.specs.Histories.{History}
use Rattle.table_history.specs.JobLaw.{IsLegal}
use Rattle.table_history.specs.declared.entry.Entry.{Entry}
use Rattle.table_history.specs.declared.job.Job.{Job}
use Rattle.upsert_writer.specs.Answers.{AnswersBatch}
use Rattle.upsert_writer.specs.Batches.{Refusal}
use Rattle.script_run.specs.Batches.{any_batch}
use Rattle.script_run.specs.Lines.{AnswersLine, batch_of, blocks_of}
use Rattle.script_run.specs.Runs.{ComesTo, ComesToBatch, IsUndamagedAnswer, RanJobs, RanLine, RunTable, job_of, table_at_first}
use Rattle.script_run.proofs.Tellings.{line_undamaged}

-- ---- parts of a history

pub before_of : {A : Type 0} (P : A → Type 0) (more es : List A) → AllByRecursion P (more ++ es) → AllByRecursion P es
before_of P [] es all = all
before_of P (e ∷ more) es all = before_of P more es all.1

first_of : {A : Type 0} (P : A → Type 0) (es before : List A) → AllByRecursion P (es ++ before) → AllByRecursion P es
first_of P [] before all = tt
first_of P (e ∷ es) before all = (all.0, first_of P es before all.1)

-- a history that goes on from another
pub record From (before after : History) : Type 0 where
  pub more : List Entry
  pub is : after ≡ more ++ before

pub from_itself : (H : History) → From H H
from_itself H = record { more = []; is = refl }

from_on : (a b c : History) → From a b → From b c → From a c
from_on a b c one two = record { more = two.more ++ one.more; is = two.is ∙ ap (λ (H : History). two.more ++ H) one.is ∙ sym (append_assoc two.more one.more a) }

from_line : (table : RunTable) (Stood : Type 0) (job : SaidJob) (reply : JobReply) (before after : History) → RanLine table Stood job before after reply → From before after
from_line table Stood job reply before after ran = record { more = ran.mine; is = ran.made.are }

pub from_jobs : (table : RunTable) (Stood : Type 0) (jobs : List SaidJob) (replies : List JobReply) (before after : History) → RanJobs table Stood jobs replies before after → From before after
from_jobs table Stood [] [] before after same = record { more = []; is = same }
from_jobs table Stood [] (r ∷ replies) before after ran = absurd ran
from_jobs table Stood (j ∷ jobs) [] before after ran = absurd ran
from_jobs table Stood (j ∷ jobs) (r ∷ replies) before after ran =
    from_on before ran.0 after (from_line table Stood j r before ran.0 ran.1) (from_jobs table Stood jobs replies ran.0 after ran.2)

-- ---- what holds of a whole history, and of each one before it

-- partitions may begin with so many groups, its entries are legal to the byte, their names have a form, and none is damaged
pub record IsWhole (table : RunTable) (H : History) : Type 0 where
  pub buckets : IsBuckets table.props.buckets
  pub legal : IsLegal any_batch (table_at_first table) H
  pub named : AllNamesFit (table_at_first table) H
  pub undamaged : AllByRecursion IsUndamaged H

pub whole_before : (table : RunTable) (before after : History) → From before after → IsWhole table after → IsWhole table before
whole_before table before after from whole = record {
  buckets = whole.buckets;
  legal = legal_before any_batch (table_at_first table) before from.more (subst (IsLegal any_batch (table_at_first table)) from.is whole.legal);
  named = named_before (table_at_first table) before from.more (subst (AllNamesFit (table_at_first table)) from.is whole.named);
  undamaged = before_of IsUndamaged from.more before (subst (AllByRecursion IsUndamaged) from.is whole.undamaged);
}

-- jobs came in turn, and their appends carry writes
pub record Turned (table : RunTable) (H : History) : Type 0 where
  pub turn : IsInTurn H
  pub carries : CarriesForm (blocks_of table.layout) H

pub turned_first : (table : RunTable) → Turned table []
turned_first table = record { turn = tt; carries = tt }

-- one by one: a batch that is refused made no entry
batch_carries : (table : RunTable) (batch : Result (List Write) Refusal) (job : Job) (before after : History) (mine : List Entry) (reply : JobReply) → CarriesForm (blocks_of table.layout) before
    → IsMadeBy job before after mine → AnswersBatch (blocks_of table.layout) batch mine reply → CarriesForm (blocks_of table.layout) after
batch_carries table (Ok writes) job before after mine reply carries made answers = writer_carries (blocks_of table.layout) writes before after job mine carries made answers.wrote
batch_carries table (Err refusal) job before after mine reply carries made answers =
    subst (CarriesForm (blocks_of table.layout)) (sym (made.are ∙ ap (λ (es : List Entry). es ++ before) answers.0)) carries

line_carries : (table : RunTable) (said : Said) (job : Job) (before after : History) (mine : List Entry) (reply : JobReply) → CarriesForm (blocks_of table.layout) before → IsMadeBy job before after mine
    → AnswersLine table.layout said mine reply → CarriesForm (blocks_of table.layout) after
line_carries table (init props) job before after mine reply carries made answers = absurd answers
line_carries table (upsert rows) job before after mine reply carries made answers = batch_carries table (batch_of table.layout (upsert rows)) job before after mine reply carries made answers
line_carries table (delete keys) job before after mine reply carries made answers = batch_carries table (batch_of table.layout (delete keys)) job before after mine reply carries made answers
line_carries table (snapshot at) job before after mine reply carries made answers = query_carries (blocks_of table.layout) at before after job mine carries made answers.pins

turned_next : (table : RunTable) (Stood : Type 0) (job : SaidJob) (reply : JobReply) (before after : History) → Turned table before → RanLine table Stood job before after reply → Turned table after
turned_next table Stood job reply before after turned ran = record {
  turn = next_turn before after (job_of job) ran.mine turned.turn ran.made;
  carries = line_carries table job.what (job_of job) before after ran.mine reply turned.carries ran.made ran.answers;
}

-- ---- what answers come to

batch_completed : (table : RunTable) (batch : Result (List Write) Refusal) (job : Job) (before after : History) (mine : List Entry) (t : ℕ) → IsMadeBy job before after mine
    → AnswersBatch (blocks_of table.layout) batch mine (Committed t) → IsWhole table after → is_completed (table_at_first table) after t ≡ true
batch_completed table (Ok writes) job before after mine t made answers whole =
    (batch_written any_batch (blocks_of table.layout) table.props writes before after job mine t made whole.legal answers.wrote answers.answers).completed
batch_completed table (Err refusal) job before after mine t made (none, inl refused) whole = cc
batch_completed table (Err refusal) job before after mine t made (none, inr wanting) whole = cc

batch_comes : (table : RunTable) (batch : Result (List Write) Refusal) (job : Job) (before after : History) (mine : List Entry) (reply : JobReply) → IsMadeBy job before after mine
    → AnswersBatch (blocks_of table.layout) batch mine reply → IsWhole table after → ComesToBatch table batch after reply
batch_comes table batch job before after mine (Committed t) made answers whole = record {
  completed = batch_completed table batch job before after mine t made answers whole;
  wrote = given_written any_batch (blocks_of table.layout) table.props batch before after job mine t made whole.legal answers;
}
batch_comes table batch job before after mine reply made answers whole = tt

comes_to : (table : RunTable) (said : Said) (job : Job) (before after : History) (mine : List Entry) (reply : JobReply) → IsMadeBy job before after mine → AnswersLine table.layout said mine reply
    → Turned table before → IsWhole table after → ComesTo table said before after reply
comes_to table (init props) job before after mine reply made answers turned whole = absurd answers
comes_to table (upsert rows) job before after mine reply made answers turned whole = batch_comes table (batch_of table.layout (upsert rows)) job before after mine reply made answers whole
comes_to table (delete keys) job before after mine reply made answers turned whole = batch_comes table (batch_of table.layout (delete keys)) job before after mine reply made answers whole
comes_to table (snapshot at) job before after mine reply made answers turned whole =
    let entries : AllByRecursion IsUndamaged mine = first_of IsUndamaged mine before (subst (AllByRecursion IsUndamaged) made.are whole.undamaged) in
    let named : AllNamesFit (table_at_first table) before = named_before (table_at_first table) before mine (subst (AllNamesFit (table_at_first table)) made.are whole.named) in
    snapshot_is_fold any_batch (blocks_of table.layout) table.props before after job mine at reply whole.buckets made whole.legal named turned.turn turned.carries entries answers

-- where the whole history stands for what was done, so does each snapshot
pub with_snapshots : (table : RunTable) (Stood : Type 0) (jobs : List SaidJob) (replies : List JobReply) (before after H : History) → RanJobs table ⊥ jobs replies before after → Turned table before
    → From after H → (Stood → IsWhole table H) → RanJobs table Stood jobs replies before after
with_snapshots table Stood [] [] before after H same turned from whole = same
with_snapshots table Stood [] (r ∷ replies) before after H ran turned from whole = absurd ran
with_snapshots table Stood (j ∷ jobs) [] before after H ran turned from whole = absurd ran
with_snapshots table Stood (j ∷ jobs) (r ∷ replies) before after H ran turned from whole =
    let between = ran.0 in
    let line = ran.1 in
    let then : From between H = from_on between after H (from_jobs table ⊥ jobs replies between after ran.2) from in (
      between,
      record {
        mine = line.mine;
        made = line.made;
        answers = line.answers;
        comes = λ stood. comes_to table j.what (job_of j) before between line.mine r line.made line.answers turned (whole_before table between H then (whole stood));
      },
      with_snapshots table Stood jobs replies between after H ran.2 (turned_next table ⊥ j r before between turned line) from whole,
    )

-- no answer tells of damage
pub answers_undamaged : (table : RunTable) (Stood : Type 0) (jobs : List SaidJob) (replies : List JobReply) (before after H : History) → RanJobs table Stood jobs replies before after → Stood
    → From after H → AllByRecursion IsUndamaged H → AllByRecursion IsUndamagedAnswer replies
answers_undamaged table Stood [] [] before after H same stood from all = tt
answers_undamaged table Stood [] (r ∷ replies) before after H ran stood from all = absurd ran
answers_undamaged table Stood (j ∷ jobs) [] before after H ran stood from all = absurd ran
answers_undamaged table Stood (j ∷ jobs) (r ∷ replies) before after H ran stood from all =
    let line = ran.1 in
    let then : From ran.0 H = from_on ran.0 after H (from_jobs table Stood jobs replies ran.0 after ran.2) from in
    let entries : AllByRecursion IsUndamaged ran.0 = before_of IsUndamaged then.more ran.0 (subst (AllByRecursion IsUndamaged) then.is all) in
    let mine : AllByRecursion IsUndamaged line.mine = first_of IsUndamaged line.mine before (subst (AllByRecursion IsUndamaged) line.made.are entries) in
    (line_undamaged table j.what line.mine before ran.0 r mine line.answers (line.comes stood), answers_undamaged table Stood jobs replies ran.0 after H ran.2 stood from all)
