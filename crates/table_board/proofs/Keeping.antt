-- What a board keeps.
use Rattle.std.proofs.Common.{◌≡◌, ◌≢◌, ◌≤◌, ◌+◌, ℕ, ℤ, List, ◌∷◌, refl, sym, subst, arith}
use Rattle.hudi_base.specs.Store.{StoreState}
use Rattle.table_core.specs.ControlTables.{IsControl, IsAsked, IsLeaving}
use Rattle.table_core.specs.declared.control.Control.{Control}
use Rattle.table_history.proofs.OwnEntries.{linked, may_ask}
use Rattle.table_history.specs.Answers.{May, Answers, IsNext}
use Rattle.table_history.specs.Histories.{History, own}
use Rattle.table_history.specs.JobLaw.{Work, Allows, IsLegal, IsReplyOf, phase}
use Rattle.table_history.specs.Operations.{Decides, operation}
use Rattle.table_history.specs.Tables.{Table, fresh}
use Rattle.table_history.specs.declared.entry.Entry.{Entry}
use Rattle.table_history.specs.declared.job.Job.{Job}
use Rattle.table_history.specs.declared.operation.Decision.{Decision}
use Rattle.table_history.specs.declared.operation.Op.{Op}
use Rattle.table_history.specs.declared.reply.Reply.{Reply}
use Rattle.table_history.specs.declared.reply.Reply.TheVariants as reply
use Rattle.table_history.specs.declared.step.Step.{Step}
use Rattle.table_history.specs.declared.step.Step.TheVariants.{Unpin, Read, Abandon}
use Rattle.table_board.proofs.Knowing.{same_phase}
use Rattle.table_board.proofs.Owing.{owed_le, owed_after_le, owes_one}
use Rattle.table_board.proofs.Changing.{changes}
use Rattle.table_board.proofs.Replying.{reply_answers, reply_fits, asked_length}
use Rattle.table_board.specs.Boards.{Keeps, BoardKeeps, Origin}
use Rattle.table_board.specs.Journals.{JournalState}
use Rattle.table_board.specs.KnownEntries.{known_reply, known_entry, known_entries}
use Rattle.table_board.specs.Outcomes.{MayEnd, Leaves, Performs, HasAskedLength, reply_after}
use Rattle.table_board.specs.StoreChanges.{Changes}
use Rattle.table_board.specs.Owed.{owed_steps, owed_after}
use Rattle.table_board.specs.declared.acting.Outcome.{Outcome}
use Rattle.table_board.specs.declared.acting.Outcome.TheVariants.{Memory}
use Rattle.table_props.specs.PropsTexts.{Told as Properties, told_of}

-- an origin of these parts
abbrev pub origin_of : Properties → ℕ → ℕ → Origin
origin_of props faults done = record { props = props; faults = faults; done = done }

-- the tables of another state of the control are of the same table
pub renamed : (work : Work) (props : Properties) (c : Control) (j : JournalState) → Keeps work (fresh props) c j → BoardKeeps work c j
renamed work props c j keeps =
    let P : Table → Type 0 = λ A. Keeps work A c j in subst P (λ i. fresh (sym keeps.tables.props i)) keeps

-- a job that keeps its law may ask the machine
pub may_of : (work : Work) (A : Table) (c : Control) (j : JournalState) (job : Job) (s : Step) → Keeps work A c j
    → Allows work job (phase (own job j.entries)) s → May A (known_entries A j.entries) job s
may_of work A c j job s keeps allows =
    let K = known_entries A j.entries in
    let P = λ (p : _). Allows work job p s in
    may_ask work A K job (phase (own job K)) s (linked work A K keeps.tables.opened keeps.legal job)
    (subst P (sym (same_phase A j.entries job)) allows)

pub asked_of : (work : Work) (c : Control) (j : JournalState) (job : Job) (s : Step) → BoardKeeps work c j
    → Allows work job (phase (own job j.entries)) s → IsAsked c job s
asked_of work c j job s keeps allows = record {
  table = fresh (told_of c.props);
  history = known_entries (fresh (told_of c.props)) j.entries;
  tables = keeps.tables;
  may = may_of work (fresh (told_of c.props)) c j job s keeps allows;
}

-- room that was made changes nothing else
pub kept_same : (work : Work) (A : Table) (c d : Control) (j k : JournalState) → Keeps work A c j
    → ((A : Table) (H : History) → IsControl A H c → IsControl A H d)
    → k.entries ≡ j.entries → k.owed ≡ j.owed → j.room ≤ k.room → Keeps work A d k
kept_same work A c d j k keeps tables entries owed room = record {
  legal = let P : History → Type 0 = λ H. IsLegal work A (known_entries A H) in subst P (sym entries) keeps.legal;
  tables = let P : History → Type 0 = λ H. IsControl A (known_entries A H) d in subst P (sym entries) (tables A (known_entries A j.entries) keeps.tables);
  owed = let P : History → Type 0 = λ H. owed_steps (known_entries A H) ≤ k.owed in subst P (sym entries) (let h = keeps.owed in omega arith);
  room = let h = keeps.room in omega arith;
}

known_owed : (A : Table) (H : History) (s : Step) (r : Reply) (n : ℕ) → owed_after s (known_reply A H s r) n ≡ owed_after s r n
known_owed A H (Read from file at len) (reply.Piece bytes) n = refl
known_owed A H (Read from file at len) _ n = refl
known_owed A H _ r n = refl

-- one entry more
pub kept_more : (work : Work) (A : Table) (c d : Control) (j k : JournalState) (e : Entry) → Keeps work A c j
    → Allows work e.job (phase (own e.job j.entries)) e.step
    → IsNext A (known_entries A j.entries) (known_entry A (known_entries A j.entries) e)
    → ((A : Table) (H : History) → IsControl A H c → IsNext A H (known_entry A H e) → IsControl A (known_entry A H e ∷ H) d)
    → k.entries ≡ e ∷ j.entries → k.owed ≡ owed_after e.step e.reply j.owed → k.room + 1 ≡ j.room
    → owed_after e.step e.reply j.owed + 1 ≤ j.room → Keeps work A d k
kept_more work A c d j k e keeps allows next takes entries owed room enough =
    let K = known_entries A j.entries in
    let law = let P = λ (p : _). Allows work e.job p e.step in subst P (sym (same_phase A j.entries e.job)) allows in
    let le : owed_steps (known_entry A K e ∷ K) ≤ owed_after e.step (known_reply A K e.step e.reply) j.owed =
    owed_le A K e.job e.step (known_reply A K e.step e.reply) j.owed keeps.tables.opened next.may keeps.owed in
    let same : owed_after e.step (known_reply A K e.step e.reply) j.owed ≡ owed_after e.step e.reply j.owed = known_owed A K e.step e.reply j.owed in
    record {
      legal = let P : History → Type 0 = λ H. IsLegal work A (known_entries A H) in subst P (sym entries) (keeps.legal, next, law);
      tables = let P : History → Type 0 = λ H. IsControl A (known_entries A H) d in subst P (sym entries) (takes A K keeps.tables next);
      owed = let P : History → Type 0 = λ H. owed_steps (known_entries A H) ≤ k.owed in subst P (sym entries) (let h : owed_steps (known_entry A K e ∷ K) ≤ k.owed = omega arith in h);
      room = omega arith;
    }

-- the entry of a step that was decided
pub next_of : (work : Work) (A : Table) (c : Control) (j : JournalState) (job : Job) (s : Step) (now : ℤ) (d : Decision) (o : Outcome) → Keeps work A c j
    → Allows work job (phase (own job j.entries)) s → Decides A (known_entries A j.entries) s now d → MayEnd d.op o → o ≢ Memory
    → IsNext A (known_entries A j.entries) (known_entry A (known_entries A j.entries) (record { job = job; step = s; reply = reply_after o d.op d.reply }))
next_of work A c j job s now d o keeps allows decides ends known =
    let K = known_entries A j.entries in
    let may = may_of work A c j job s keeps allows in
    record {
      may = may;
      answers =
          let P = λ (p : Op). Answers A K s (known_reply A K s (reply_after o p d.reply)) in
          let Q = λ (p : Op). MayEnd p o in
          subst P (sym decides.op) (reply_answers A K job s d.reply o may decides.answers (subst Q decides.op ends) known);
    }

-- the entry by which a job leaves
left_answers : (A : Table) (H : History) (s : Step) → IsLeaving s → Answers A H s (known_reply A H s reply.Done)
left_answers A H (Unpin pin) leaves = tt
left_answers A H (Abandon t) leaves = tt
left_answers A H _ leaves = absurd leaves

pub left_of : (work : Work) (A : Table) (c : Control) (j : JournalState) (job : Job) (s : Step) → Keeps work A c j
    → Allows work job (phase (own job j.entries)) s → IsLeaving s
    → IsNext A (known_entries A j.entries) (known_entry A (known_entries A j.entries) (record { job = job; step = s; reply = reply.Done }))
left_of work A c j job s keeps allows leaves = record {
  may = may_of work A c j job s keeps allows;
  answers = left_answers A (known_entries A j.entries) s leaves;
}

pub left_room : (work : Work) (A : Table) (c : Control) (j : JournalState) (job : Job) (s : Step) → Keeps work A c j
    → Allows work job (phase (own job j.entries)) s → IsLeaving s → owed_after s reply.Done j.owed + 1 ≤ j.room
left_room work A c j job s keeps allows leaves =
    let one = owes_one A (known_entries A j.entries) job s keeps.tables.opened (may_of work A c j job s keeps allows) leaves in
    fewer s leaves keeps.owed one keeps.room
  where
    fewer : {o n r : ℕ} (s : Step) → IsLeaving s → o ≤ n → 1 ≤ o → n ≤ r → owed_after s reply.Done n + 1 ≤ r
    fewer (Unpin pin) leaves le one room = omega arith
    fewer (Abandon t) leaves le one room = omega arith
    fewer _ leaves le one room = absurd leaves

-- ---- a step that was decided

pub acted : (work : Work) (A : Table) (c c1 c2 : Control) (j j1 j2 : JournalState) (job : Job) (s : Step) (now : ℤ) (d : Decision) (o : Outcome) (r : Reply)
    → Keeps work A c j → Allows work job (phase (own job j.entries)) s
    → Decides A (known_entries A j.entries) s now d → MayEnd d.op o → o ≢ Memory → r ≡ reply_after o d.op d.reply
    → ((A : Table) (H : History) → IsControl A H c → IsControl A H c1) → j1.entries ≡ j.entries → j1.owed ≡ j.owed → j.room ≤ j1.room → j.owed + 2 ≤ j1.room
    → ((A : Table) (H : History) → IsControl A H c1 → IsNext A H (known_entry A H (record { job = job; step = s; reply = r }))
    → IsControl A (known_entry A H (record { job = job; step = s; reply = r }) ∷ H) c2)
    → j2.entries ≡ record { job = job; step = s; reply = r } ∷ j1.entries → j2.owed ≡ owed_after s r j1.owed → j2.room + 1 ≡ j1.room
    → Keeps work A c2 j2
acted work A c c1 c2 j j1 j2 job s now d o r keeps allows decides ends known is tables entries owed room enough takes added owes left =
    let e : Entry = record { job = job; step = s; reply = r } in
    let keeps1 : Keeps work A c1 j1 = kept_same work A c c1 j j1 keeps tables entries owed room in
    let law : Allows work job (phase (own job j1.entries)) s = let P : History → Type 0 = λ H. Allows work job (phase (own job H)) s in subst P (sym entries) allows in
    let next : IsNext A (known_entries A j.entries) (known_entry A (known_entries A j.entries) e) =
    let P : Reply → Type 0 = λ r. IsNext A (known_entries A j.entries) (known_entry A (known_entries A j.entries) (record { job = job; step = s; reply = r })) in
    subst P (sym is) (next_of work A c j job s now d o keeps allows decides ends known) in
    let next1 : IsNext A (known_entries A j1.entries) (known_entry A (known_entries A j1.entries) e) =
    let P : History → Type 0 = λ H. IsNext A (known_entries A H) (known_entry A (known_entries A H) e) in subst P (sym entries) next in
    let le : owed_after s r j1.owed ≤ j1.owed + 1 = owed_after_le s r j1.owed in
    kept_more work A c1 c2 j1 j2 e keeps1 law next1 takes added owes left (omega arith)

pub reply_of : (work : Work) (A : Table) (c : Control) (j : JournalState) (job : Job) (s : Step) (now : ℤ) (d : Decision) (o : Outcome)
    → Keeps work A c j → Allows work job (phase (own job j.entries)) s
    → Decides A (known_entries A j.entries) s now d → MayEnd d.op o → o ≢ Memory → IsReplyOf s (reply_after o d.op d.reply)
reply_of work A c j job s now d o keeps allows decides ends known =
    let K = known_entries A j.entries in
    let may = may_of work A c j job s keeps allows in
    let Q : Op → Type 0 = λ p. MayEnd p o in
    let P : Op → Type 0 = λ p. HasAskedLength s (reply_after o p d.reply) in
    reply_fits A K s (reply_after o d.op d.reply) (next_of work A c j job s now d o keeps allows decides ends known).answers
    (subst P (sym decides.op) (asked_length A K job s d.reply o may decides.answers (subst Q decides.op ends)))

pub changes_of : (honest : Type 0) (A : Table) (K : History) (s : Step) (now : ℤ) (d : Decision) (o : Outcome) (old new : StoreState)
    → Decides A K s now d → Performs honest d.op old new o
    → Changes honest (operation A K s (reply_after o d.op d.reply)) (reply_after o d.op d.reply) old.told new.told
changes_of honest A K s now d o old new decides performs =
    let P : Op → Type 0 = λ p. Changes honest (operation A K s (reply_after o p d.reply)) (reply_after o p d.reply) old.told new.told in
    let Q : Op → Type 0 = λ p. MayEnd p o in
    let R : Op → Type 0 = λ p. Leaves honest p old.told new.told o in
    subst P (sym decides.op) (changes honest A K s d.reply o old.told new.told decides.succeeds (subst Q decides.op performs.ends) (subst R decides.op performs.leaves))
