-- What pins change in the tables.
use Rattle.std.proofs.Common.{◌≡◌, ◌+◌, ◌==◌, ℕ, Bool, true, false, cond, List, [], ◌∷◌, Option, Some, None, unwrap_or, refl, sym, ap, ◌∙◌, add-zero}
use Rattle.std.specs.Prelude.{slice_get, option_and_then}
use Rattle.std.specs.Ordering.{nat_cmp}
use Rattle.table_core.specs.ControlTables.{IsControl}
use Rattle.table_core.specs.Rooms.{found}
use Rattle.table_core.specs.declared.control.Control.{Control}
use Rattle.table_core.specs.declared.rooms.Rooms.{Rooms}
use Rattle.table_core.proofs.Taken.{slice_after, same_last}
use Rattle.table_history.proofs.Apart.{same_slice}
use Rattle.table_history.specs.Histories.{History}
use Rattle.table_history.specs.Logs.{attempts}
use Rattle.table_history.specs.Pins.{pin_of, part_at, files_of_view}
use Rattle.table_history.specs.Tables.{Table}
use Rattle.table_history.specs.Times.{greatest_time}
use Rattle.table_history.specs.declared.job.Job.{Job}
use Rattle.table_history.specs.declared.reply.Reply.TheVariants.{Pinned, Done}
use Rattle.table_history.specs.declared.step.Reader.TheVariants as reader
use Rattle.table_history.specs.declared.step.Step.TheVariants.{Pin, Unpin}
use Rattle.table_history.specs.declared.view.LivePin.{LivePin}
use Rattle.table_history.specs.declared.view.Part.{Part}
use Rattle.table_history.specs.declared.view.View.{View}

-- the file of a live pin, if there is one
abbrev file_at : Option LivePin → ℕ → Option Part
file_at live file = option_and_then (λ live. part_at live.view file) live

pinned_part : (b : Bool) (parts : List Part) (o p : Option (List Part)) (job : Job) (view : View) (live : Option LivePin) (file : ℕ) → parts ≡ files_of_view view
    → p ≡ cond b (Some parts) o → slice_get (unwrap_or o []) file ≡ file_at live file
    → slice_get (unwrap_or p []) file ≡ file_at (cond b (Some (record { job = job; view = view })) live) file
pinned_part true parts o p job view live file files here before =
    ap (λ p. slice_get (unwrap_or p []) file) here ∙ ap (λ parts. slice_get parts file) files
pinned_part false parts o p job view live file files here before = ap (λ p. slice_get (unwrap_or p []) file) here ∙ before

unpinned_part : (b : Bool) (o p : Option (List Part)) (live : Option LivePin) (file : ℕ) → p ≡ cond b None o
    → slice_get (unwrap_or o []) file ≡ file_at live file → slice_get (unwrap_or p []) file ≡ file_at (cond b None live) file
unpinned_part true o p live file here before = ap (λ p. slice_get (unwrap_or p []) file) here
unpinned_part false o p live file here before = ap (λ p. slice_get (unwrap_or p []) file) here ∙ before

pub pinned_taken : (A : Table) (H : History) (control : Control) (job : Job) (at : Option ℕ) (bases_only : Bool) (view : View) (pins : Rooms ℕ (List Part)) (left : List Part)
    → IsControl A H control → control.pinning ≡ files_of_view view
    → ((q : ℕ) → found nat_cmp pins q ≡ cond (view.pin == q) (Some control.pinning) (found nat_cmp control.pins q))
    → IsControl A (record { job = job; step = Pin at bases_only; reply = Pinned view } ∷ H) (record control { pins = pins; pins_made = control.pins_made + 1; pinning = left })
pinned_taken A H control job at bases_only view pins left is files put = record {
  opened = is.opened;
  fit = is.fit;
  props = is.props;
  buckets = is.buckets;
  session = is.session;
  last = is.last ∙ sym (same_last (greatest_time A H) Done tt);
  completed = is.completed;
  targets = is.targets;
  writes = is.writes;
  slices = λ s. slice_after A H _ s _ (same_slice A H (record { job = job; step = Pin at bases_only; reply = Pinned view }) s refl) (is.slices s);
  attempts = is.attempts ∙ sym (add-zero (attempts A H));
  pins = elim [ reader.Pin q ↦ λ file. pinned_part (view.pin == q) control.pinning (found nat_cmp control.pins q) (found nat_cmp pins q) job view (pin_of H q) file files (put q) (is.pins (reader.Pin q) file) ];
  pins_made = ap (λ n. n + 1) is.pins_made;
}

pub unpinned_taken : (A : Table) (H : History) (control : Control) (job : Job) (pin : ℕ) (pins : Rooms ℕ (List Part))
    → IsControl A H control → ((q : ℕ) → found nat_cmp pins q ≡ cond (pin == q) None (found nat_cmp control.pins q))
    → IsControl A (record { job = job; step = Unpin pin; reply = Done } ∷ H) (record control { pins = pins })
unpinned_taken A H control job pin pins is gone = record {
  opened = is.opened;
  fit = is.fit;
  props = is.props;
  buckets = is.buckets;
  session = is.session;
  last = is.last ∙ sym (same_last (greatest_time A H) Done tt);
  completed = is.completed;
  targets = is.targets;
  writes = is.writes;
  slices = λ s. slice_after A H _ s _ (same_slice A H (record { job = job; step = Unpin pin; reply = Done }) s refl) (is.slices s);
  attempts = is.attempts ∙ sym (add-zero (attempts A H));
  pins = elim [ reader.Pin q ↦ λ file. unpinned_part (pin == q) (found nat_cmp control.pins q) (found nat_cmp pins q) (pin_of H q) file (gone q) (is.pins (reader.Pin q) file) ];
  pins_made = is.pins_made;
}
