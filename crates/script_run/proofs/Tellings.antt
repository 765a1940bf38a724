-- What a job's own entries tell of damage and of faults.
use Rattle.std.proofs.Common.{◌≡◌, inl, inr, ℕ, ◌+◌, ◌≤◌, List, [], ◌∷◌, Option, Some, None, IfSome, Result, Ok, Err, sym, ap, subst, arith}
use Rattle.std.specs.List.{AllByRecursion}
use Rattle.payload_merge.specs.declared.row.Write.{Write}
use Rattle.script_jobs.specs.Jobs.{Said, init, upsert, delete, snapshot}
use Rattle.table_board.specs.Boards.{fault_of, faults_among}
use Rattle.table_board.specs.HonestRuns.{IsUndamaged, IsUndamagedReply}
use Rattle.table_core.specs.declared.job_reply.JobReply.{JobReply}
use Rattle.table_core.specs.declared.job_reply.JobReply.TheVariants as job
use Rattle.table_history.specs.Histories.{History}
use Rattle.table_history.specs.declared.entry.Entry.{Entry}
use Rattle.table_history.specs.declared.reply.Reply.{Reply}
use Rattle.table_history.specs.declared.reply.Reply.TheVariants as reply
use Rattle.table_history.specs.declared.view.View.{View}
use Rattle.table_jobs.specs.Replies.{IsTold, ending, first_of_two, told}
use Rattle.table_query.specs.Answers.{IsAnswer, reply_with}
use Rattle.table_query.specs.GroupReading.{Damage, TableReading}
use Rattle.table_query.specs.ReadBytes.{bytes_read, pinned}
use Rattle.row_values.specs.declared.row_layout.RowLayout.{RowLayout}
use Rattle.upsert_writer.specs.Answers.{AnswersBatch}
use Rattle.upsert_writer.specs.Batches.{Refusal}
use Rattle.script_run.specs.Lines.{AnswersLine, batch_of, blocks_of, reading_of}
use Rattle.script_run.specs.Runs.{ComesTo, IsUndamagedAnswer, RunTable}

-- ---- damage

ending_undamaged : (r : Reply) (other : Option JobReply) → IsUndamagedReply r → IfSome other IsUndamagedAnswer → IfSome (first_of_two (ending r) other) IsUndamagedAnswer
ending_undamaged (reply.Completed t) other whole before = tt
ending_undamaged (reply.NotCompleted t) other whole before = tt
ending_undamaged reply.TimeOver other whole before = tt
ending_undamaged reply.Fault other whole before = tt
ending_undamaged (reply.Damaged name cause) other whole before = absurd whole
ending_undamaged r other whole before = before

pub told_undamaged : (mine : List Entry) → AllByRecursion IsUndamaged mine → IfSome (told mine) IsUndamagedAnswer
told_undamaged [] all = tt
told_undamaged (e ∷ mine) all = ending_undamaged e.reply (told mine) all.0 (told_undamaged mine all.1)

as_told : (o : Option JobReply) (given : JobReply) → IsTold o given → IfSome o IsUndamagedAnswer → IsUndamagedAnswer given
as_told (Some answer) given is whole = subst IsUndamagedAnswer (sym is) whole
as_told None given is whole = subst IsUndamagedAnswer (sym is) tt

snapshot_undamaged : (table : RunTable) (at : Option ℕ) (H after : History) (given : JobReply) → ComesTo table (snapshot at) H after given → IsUndamagedAnswer given
snapshot_undamaged table at H after (job.Damaged name cause place) is = absurd is
snapshot_undamaged table at H after given is = tt

batch_undamaged : (layout : RowLayout) (batch : Result (List Write) Refusal) (mine : List Entry) (given : JobReply) → AllByRecursion IsUndamaged mine → AnswersBatch (blocks_of layout) batch mine given
    → IsUndamagedAnswer given
batch_undamaged layout (Ok writes) mine given all answers = as_told (told mine) given answers.answers.told (told_undamaged mine all)
batch_undamaged layout (Err refusal) mine given all (none, inl refused) = subst IsUndamagedAnswer (sym refused) tt
batch_undamaged layout (Err refusal) mine given all (none, inr wanting) = subst IsUndamagedAnswer (sym wanting) tt

pub line_undamaged : (table : RunTable) (said : Said) (mine : List Entry) (H after : History) (given : JobReply) → AllByRecursion IsUndamaged mine → AnswersLine table.layout said mine given
    → ComesTo table said H after given → IsUndamagedAnswer given
line_undamaged table (init props) mine H after given all answers is = absurd answers
line_undamaged table (upsert rows) mine H after given all answers is = batch_undamaged table.layout (batch_of table.layout (upsert rows)) mine given all answers
line_undamaged table (delete keys) mine H after given all answers is = batch_undamaged table.layout (batch_of table.layout (delete keys)) mine given all answers
line_undamaged table (snapshot at) mine H after given all answers is = snapshot_undamaged table at H after given is

-- ---- faults

ending_fault : (r : Reply) (other : Option JobReply) (n : ℕ) → first_of_two (ending r) other ≡ Some job.Fault → (other ≡ Some job.Fault → 1 ≤ n) → 1 ≤ n + fault_of r
ending_fault (reply.Completed t) other n is before = cc
ending_fault (reply.NotCompleted t) other n is before = cc
ending_fault reply.TimeOver other n is before = cc
ending_fault reply.Fault other n is before = omega arith
ending_fault (reply.Damaged name cause) other n is before = cc
ending_fault r other n is before = let some = before is in omega (arith, some)

told_fault : (mine : List Entry) → told mine ≡ Some job.Fault → 1 ≤ faults_among mine
told_fault [] is = cc
told_fault (e ∷ mine) is = ending_fault e.reply (told mine) (faults_among mine) is (told_fault mine)

as_told_fault : (o : Option JobReply) → IsTold o job.Fault → o ≡ Some job.Fault
as_told_fault (Some answer) is = ap Some (sym is)
as_told_fault None is = cc

not_made : (t : Option ℕ) (writes : Result (List Write) Damage) → job.Fault ≡ reply_with t writes → ⊥
not_made t (Ok writes) is = cc
not_made t (Err damage) is = cc

as_answered_fault : (reading : TableReading) (o : Option JobReply) (view : Option View) (bytes : ℕ → List ℕ) → IsAnswer reading o view bytes job.Fault → o ≡ Some job.Fault
as_answered_fault reading (Some answer) view bytes is = ap Some (sym is)
as_answered_fault reading None None bytes is = cc
as_answered_fault reading None (Some view) bytes is = absurd (not_made view.t _ is.1)

batch_fault : (layout : RowLayout) (batch : Result (List Write) Refusal) (mine : List Entry) → AnswersBatch (blocks_of layout) batch mine job.Fault → 1 ≤ faults_among mine
batch_fault layout (Ok writes) mine answers = told_fault mine (as_told_fault (told mine) answers.answers.told)
batch_fault layout (Err refusal) mine (none, inl refused) = cc
batch_fault layout (Err refusal) mine (none, inr wanting) = cc

pub line_fault : (layout : RowLayout) (said : Said) (mine : List Entry) → AnswersLine layout said mine job.Fault → 1 ≤ faults_among mine
line_fault layout (init props) mine answers = absurd answers
line_fault layout (upsert rows) mine answers = batch_fault layout (batch_of layout (upsert rows)) mine answers
line_fault layout (delete keys) mine answers = batch_fault layout (batch_of layout (delete keys)) mine answers
line_fault layout (snapshot at) mine answers =
    told_fault mine (as_answered_fault (reading_of layout) (told mine) (pinned mine) (bytes_read mine) answers.answer)
