-- An entry changes nothing of an instant or a pin that it isn't about.
use Rattle.std.proofs.Common.{◌≡◌, ℕ, false, ◌∷◌, Option, refl, ap, ◌+◌, arith}
use Rattle.hudi_base.specs.declared.file_group.Target.{Target}
use Rattle.table_history.specs.Concerns.{concerns, concerns_pin, touches, SameSlice}
use Rattle.table_history.specs.Logs.{greatest_version, failures, known_length, is_unused, logs_of}
use Rattle.table_history.specs.Histories.{History}
use Rattle.table_history.specs.Instants.{instant_after, instant_of, completions}
use Rattle.table_history.specs.Pins.{pin_after, pin_of}
use Rattle.table_history.specs.declared.view.LivePin.{LivePin}
use Rattle.table_history.specs.Tables.{Table, Instant}
use Rattle.table_history.specs.declared.entry.Entry.{Entry}
use Rattle.table_history.specs.declared.job.Job.{Job}
use Rattle.table_history.specs.declared.reply.Reply.{Reply}
use Rattle.table_history.specs.declared.reply.Reply.TheVariants as reply
use Rattle.table_history.specs.declared.step.Step.{Step}
use Rattle.table_history.specs.declared.step.Step.TheVariants.{Begin, Enter, Append, Finish, Pin, Unpin, Abandon}

same_instant : (t n : ℕ) (j : Job) (s : Step) (r : Reply) (before : Option Instant) → concerns s r t ≡ false → instant_after t n j s r before ≡ before
same_instant t n j Begin (reply.Began u) before h = rw h refl
same_instant t n j Begin _ before h = refl
same_instant t n j (Enter u slots) (reply.Entered targets) before h = rw h refl
same_instant t n j (Enter u slots) reply.Fault before h = rw h refl
same_instant t n j (Enter u slots) (reply.Damaged name cause) before h = rw h refl
same_instant t n j (Enter u slots) _ before h = refl
same_instant t n j (Append u target writes bytes) (reply.Placed version at) before h = rw h refl
same_instant t n j (Append u target writes bytes) reply.Fault before h = rw h refl
same_instant t n j (Append u target writes bytes) _ before h = refl
same_instant t n j (Finish u checkpoint) (reply.Completed v) before h = rw h refl
same_instant t n j (Finish u checkpoint) reply.Fault before h = rw h refl
same_instant t n j (Finish u checkpoint) (reply.Damaged name cause) before h = rw h refl
same_instant t n j (Finish u checkpoint) _ before h = refl
same_instant t n j (Abandon u) reply.Done before h = rw h refl
same_instant t n j (Abandon u) _ before h = refl
same_instant t n j _ r before h = refl

same_pin : (p : ℕ) (j : Job) (s : Step) (r : Reply) (before : Option LivePin) → concerns_pin s r p ≡ false → pin_after p j s r before ≡ before
same_pin p j (Unpin q) reply.Done before h = rw h refl
same_pin p j (Unpin q) _ before h = refl
same_pin p j (Pin at bases_only) (reply.Pinned view) before h = rw h refl
same_pin p j _ r before h = refl

pub instant_of-apart : (A : Table) (H : History) (e : Entry) (t : ℕ) → concerns e.step e.reply t ≡ false → instant_of A (e ∷ H) t ≡ instant_of A H t
instant_of-apart A H e t h = same_instant t (completions A H) e.job e.step e.reply (instant_of A H t) h

pub pin_of-apart : (H : History) (e : Entry) (p : ℕ) → concerns_pin e.step e.reply p ≡ false → pin_of (e ∷ H) p ≡ pin_of H p
pin_of-apart H e p h = same_pin p e.job e.step e.reply (pin_of H p) h

-- ---- slices

same_failures : (A : Table) (H : History) (j : Job) (s : Step) (r : Reply) (target : Target) → touches A H s target ≡ false → failures A (record { job = j; step = s; reply = r } ∷ H) target ≡ failures A H target
same_failures A H j (Append t number writes bytes) reply.Fault s h = rw h (omega arith)
same_failures A H j (Append t number writes bytes) _ s h = omega arith
same_failures A H j _ r s h = omega arith

same_length : (A : Table) (H : History) (j : Job) (s : Step) (r : Reply) (target : Target) (v : ℕ) → touches A H s target ≡ false
    → known_length A (record { job = j; step = s; reply = r } ∷ H) target v ≡ known_length A H target v
same_length A H j (Append t number writes bytes) (reply.Placed u at) s v h = rw h (omega arith)
same_length A H j (Append t number writes bytes) _ s v h = omega arith
same_length A H j _ r s v h = omega arith

same_unused : (A : Table) (H : History) (j : Job) (s : Step) (r : Reply) (target : Target) → touches A H s target ≡ false
    → is_unused A (record { job = j; step = s; reply = r } ∷ H) target ≡ is_unused A H target
same_unused A H j (Append t number writes bytes) (reply.Placed u at) s h = rw h refl
same_unused A H j (Append t number writes bytes) reply.Fault s h = rw h refl
same_unused A H j (Append t number writes bytes) _ s h = refl
same_unused A H j _ r s h = refl

same_logs : (A : Table) (H : History) (j : Job) (s : Step) (r : Reply) (target : Target) → touches A H s target ≡ false
    → logs_of A (record { job = j; step = s; reply = r } ∷ H) target ≡ logs_of A H target
same_logs A H j (Append t number writes bytes) (reply.Placed u at) s h = rw h refl
same_logs A H j (Append t number writes bytes) _ s h = refl
same_logs A H j _ r s h = refl

pub same_slice : (A : Table) (H : History) (e : Entry) (s : Target) → touches A H e.step s ≡ false → SameSlice A H (e ∷ H) s
same_slice A H e s h = record {
  version = ap (λ n. 1 + greatest_version A.files s + n) (same_failures A H e.job e.step e.reply s h);
  length = λ v. same_length A H e.job e.step e.reply s v h;
  unused = same_unused A H e.job e.step e.reply s h;
  opened = λ used. rw used refl;
  logs = same_logs A H e.job e.step e.reply s h;
}
