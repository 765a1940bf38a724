-- What does not depend on the bytes of the pieces that were read.
use Rattle.std.proofs.Common.{◌≡◌, ℕ, Bool, true, false, cond, List, [], ◌∷◌, refl, ap, ◌∙◌, max}
use Rattle.table_history.specs.Histories.{History, own, is_job}
use Rattle.table_history.specs.JobLaw.{Phase, Fresh, Drawn, Writes, Committed, Owes, Reads, Leaves, Ended, next_phase, phase}
use Rattle.table_history.specs.Tables.{Table}
use Rattle.table_history.specs.Times.{greatest_time, time_drawn}
use Rattle.table_history.specs.declared.entry.Entry.{Entry}
use Rattle.table_history.specs.declared.job.Job.{Job}
use Rattle.table_history.specs.declared.reply.Reply.{Reply}
use Rattle.table_history.specs.declared.reply.Reply.TheVariants as reply
use Rattle.table_history.specs.declared.step.Reader.{Reader}
use Rattle.table_history.specs.declared.step.Step.{Step}
use Rattle.table_history.specs.declared.step.Step.TheVariants.{Read}
use Rattle.table_board.specs.KnownEntries.{known_reply, known_entry, known_entries}

-- ---- phases

piece_phase : (p : Phase) (from : Reader) (file at len : ℕ) (b c : List ℕ)
    → next_phase p (Read from file at len) (reply.Piece b) ≡ next_phase p (Read from file at len) (reply.Piece c)
piece_phase Fresh from file at len b c = refl
piece_phase (Drawn t) from file at len b c = refl
piece_phase (Writes t targets placed) from file at len b c = refl
piece_phase (Committed t) from file at len b c = refl
piece_phase (Owes t) from file at len b c = refl
piece_phase (Reads pin files done) from file at len b c = refl
piece_phase (Leaves pin) from file at len b c = refl
piece_phase Ended from file at len b c = refl

pub same_next : (A : Table) (H : History) (p : Phase) (s : Step) (r : Reply) → next_phase p s (known_reply A H s r) ≡ next_phase p s r
same_next A H p (Read from file at len) (reply.Piece bytes) = piece_phase p from file at len _ bytes
same_next A H p (Read from file at len) _ = refl
same_next A H p _ r = refl

same_own : (job : Job) (e f : Entry) (H K : History) (b : Bool) → phase (own job H) ≡ phase (own job K)
    → ((p : Phase) → next_phase p e.step e.reply ≡ next_phase p f.step f.reply)
    → phase (cond b (e ∷ own job H) (own job H)) ≡ phase (cond b (f ∷ own job K) (own job K))
same_own job e f H K true before next = next (phase (own job H)) ∙ ap (λ p. next_phase p f.step f.reply) before
same_own job e f H K false before next = before

pub same_phase : (A : Table) (H : History) (job : Job) → phase (own job (known_entries A H)) ≡ phase (own job H)
same_phase A [] job = refl
same_phase A (e ∷ H) job =
    same_own job (known_entry A (known_entries A H) e) e (known_entries A H) H (is_job job e.job) (same_phase A H job)
    (λ p. same_next A (known_entries A H) p e.step e.reply)

-- ---- times

same_drawn : (A : Table) (H : History) (s : Step) (r : Reply) → time_drawn (known_reply A H s r) ≡ time_drawn r
same_drawn A H (Read from file at len) (reply.Piece bytes) = refl
same_drawn A H (Read from file at len) _ = refl
same_drawn A H _ r = refl

pub same_greatest : (A : Table) (H : History) → greatest_time A (known_entries A H) ≡ greatest_time A H
same_greatest A [] = refl
same_greatest A (e ∷ H) =
    ap (λ g. max g (time_drawn (known_reply A (known_entries A H) e.step e.reply))) (same_greatest A H)
    ∙ ap (λ d. max (greatest_time A H) d) (same_drawn A (known_entries A H) e.step e.reply)
