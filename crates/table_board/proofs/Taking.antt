-- What an entry changes in the control, by the bytes that the table knows.
use Rattle.std.proofs.Common.{◌≡◌, ℕ, true, false, ◌∷◌, refl, sym, ◌∙◌, add-zero}
use Rattle.table_core.specs.ControlTables.{IsControl}
use Rattle.table_core.specs.declared.control.Control.{Control}
use Rattle.table_core.proofs.Taken.{slice_after, same_last, IsQuiet}
use Rattle.table_history.proofs.Apart.{same_slice}
use Rattle.table_history.specs.Answers.{Answers, IsNext}
use Rattle.table_history.specs.Histories.{History}
use Rattle.table_history.specs.Instants.{completed_instants}
use Rattle.table_history.specs.Logs.{attempts}
use Rattle.table_history.specs.Pins.{pins_made}
use Rattle.table_history.specs.Tables.{Table}
use Rattle.table_history.specs.Times.{greatest_time}
use Rattle.table_history.specs.declared.entry.Entry.{Entry}
use Rattle.table_history.specs.declared.job.Job.{Job}
use Rattle.table_history.specs.declared.reply.Reply.{Reply}
use Rattle.table_history.specs.declared.reply.Reply.TheVariants as reply
use Rattle.table_history.specs.declared.step.Reader.{Reader}
use Rattle.table_history.specs.declared.step.Reader.TheVariants as reader
use Rattle.table_history.specs.declared.step.Step.{Step}
use Rattle.table_history.specs.declared.step.Step.TheVariants.{Read}
use Rattle.table_board.specs.KnownEntries.{known_reply, known_entry, is_read}

-- ---- steps that read nothing

same_reply : (A : Table) (H : History) (s : Step) (r : Reply) → is_read s ≡ false → known_reply A H s r ≡ r
same_reply A H (Read from file at len) r not = absurd (differ not)
  where
    differ : true ≡ false → ⊥
    differ is = cc
same_reply A H _ r not = refl

pub same_entry : (A : Table) (H : History) (e : Entry) → is_read e.step ≡ false → known_entry A H e ≡ e
same_entry A H e not = λ i. record { job = e.job; step = e.step; reply = same_reply A H e.step e.reply not i }

-- ---- reads

read_is_quiet : (A : Table) (H : History) (from : Reader) (file at len : ℕ) (r : Reply) → Answers A H (Read from file at len) r → IsQuiet r
read_is_quiet A H (reader.Pin pin) file at len (reply.Piece bytes) answers = tt
read_is_quiet A H (reader.Pin pin) file at len reply.Fault answers = tt
read_is_quiet A H (reader.Pin pin) file at len (reply.Damaged name cause) answers = tt
read_is_quiet A H (reader.Pin pin) file at len _ answers = absurd answers

same_completed : (A : Table) (H : History) (j : Job) (s : Step) (r : Reply) → IsQuiet r → completed_instants A (record { job = j; step = s; reply = r } ∷ H) ≡ completed_instants A H
same_completed A H j s (reply.Completed t) quiet = absurd quiet
same_completed A H j s _ quiet = refl

same_pins_made : (H : History) (j : Job) (s : Step) (r : Reply) → IsQuiet r → pins_made (record { job = j; step = s; reply = r } ∷ H) ≡ pins_made H
same_pins_made H j s (reply.Pinned view) quiet = absurd quiet
same_pins_made H j s _ quiet = refl

quiet_read : (A : Table) (H : History) (control : Control) (j : Job) (from : Reader) (file at len : ℕ) (r : Reply) → IsControl A H control → IsQuiet r
    → IsControl A (record { job = j; step = Read from file at len; reply = r } ∷ H) control
quiet_read A H control j from file at len r is quiet = record {
  opened = is.opened;
  fit = is.fit;
  props = is.props;
  buckets = is.buckets;
  session = is.session;
  last = is.last ∙ sym (same_last (greatest_time A H) r quiet);
  completed = is.completed ∙ sym (same_completed A H j (Read from file at len) r quiet);
  targets = is.targets;
  writes = is.writes;
  slices = λ s. slice_after A H _ s _ (same_slice A H (record { job = j; step = Read from file at len; reply = r }) s refl) (is.slices s);
  attempts = is.attempts ∙ sym (add-zero (attempts A H));
  pins = is.pins;
  pins_made = is.pins_made ∙ sym (same_pins_made H j (Read from file at len) r quiet);
}

taken_by_step : (A : Table) (H : History) (control : Control) (j : Job) (s : Step) (r : Reply) → is_read s ≡ true → IsControl A H control → Answers A H s r
    → IsControl A (record { job = j; step = s; reply = r } ∷ H) control
taken_by_step A H control j (Read from file at len) r reads is answers = quiet_read A H control j from file at len r is (read_is_quiet A H from file at len r answers)
taken_by_step A H control j _ r reads is answers = absurd (differ reads)
  where
    differ : false ≡ true → ⊥
    differ is = cc

pub read_taken : (A : Table) (H : History) (control : Control) (e : Entry) → is_read e.step ≡ true → IsControl A H control → IsNext A H e
    → IsControl A (e ∷ H) control
read_taken A H control e reads is next = taken_by_step A H control e.job e.step e.reply reads is next.answers
