-- What an entry changes in the tables.
use Rattle.std.proofs.Common.{◌≡◌, ◌<◌, ◌==◌, ℕ, Bool, true, false, cond, List, [], ◌∷◌, Option, Some, None, option_map, max, refl, sym, ap, ◌∙◌, arith, add-zero}
use Rattle.std.specs.Option.{option_map_or}
use Rattle.std.proofs.lemmas.Bool.Decides.{nat_tests}
use Rattle.hudi_base.specs.declared.file_group.Target.{Target}
use Rattle.table_core.specs.ControlTables.{IsControl, IsSlice, IsInUse, targets_in, writes_in}
use Rattle.table_core.specs.SliceStates.{SliceState}
use Rattle.table_core.specs.declared.control.Control.{Control}
use Rattle.table_history.proofs.Apart.{same_slice}
use Rattle.table_history.proofs.Bounds.{undrawn}
use Rattle.table_history.specs.Concerns.{SameSlice}
use Rattle.table_history.specs.Histories.{History}
use Rattle.table_history.specs.Instants.{instant_of, completed_instants, completions, begun}
use Rattle.table_history.specs.Logs.{is_unused, attempts}
use Rattle.table_history.specs.Metadata.{writes_among}
use Rattle.table_history.specs.Pins.{pins_made}
use Rattle.table_history.specs.Tables.{Table, Instant}
use Rattle.table_history.specs.Times.{greatest_time, time_drawn}
use Rattle.table_history.specs.declared.job.Job.{Job}
use Rattle.table_history.specs.declared.log_file.LogFile.{LogFile}
use Rattle.table_history.specs.declared.reply.Reply.{Reply}
use Rattle.table_history.specs.declared.reply.Reply.TheVariants as reply
use Rattle.table_history.specs.declared.step.Step.{Step}
use Rattle.table_history.specs.declared.step.Step.TheVariants.{Begin}

-- ---- slices that an entry doesn't touch

in_use_after : (A : Table) (H K : History) (s : Target) (version : ℕ) (unused : Bool) (logs : List LogFile) → SameSlice A H K s → unused ≡ is_unused A H s
    → IsInUse A H s version unused logs → IsInUse A K s version unused logs
in_use_after A H K s version true logs same used known = same.length version ∙ known
in_use_after A H K s version false [] same used known = known
in_use_after A H K s version false (log ∷ more) same used known = (known.0 ∙ sym (same.length version), known.1 ∙ sym (same.opened (sym used)))

pub slice_after : (A : Table) (H K : History) (s : Target) (slice : SliceState) → SameSlice A H K s → IsSlice A H s slice → IsSlice A K s slice
slice_after A H K s slice same is = record {
  logs = is.logs ∙ sym same.logs;
  version = is.version ∙ sym same.version;
  unused = is.unused ∙ sym same.unused;
  in_use = in_use_after A H K s slice.version slice.unused slice.logs same is.unused is.in_use;
  later = λ v above. same.length v ∙ is.later v above;
}

-- ---- targets

-- the targets of an instant, if there is one
abbrev pub targets_of_one : Option Instant → List Target
targets_of_one o = option_map_or (λ i. i.targets) o []

pub kept : (f : Instant → Instant) → ((i : Instant) → (f i).targets ≡ i.targets) → (b : Bool) (o : Option Instant) → targets_of_one (cond b (option_map f o) o) ≡ targets_of_one o
kept f same true None = refl
kept f same true (Some i) = same i
kept f same false o = refl

-- what is kept of an instant, if there is one
pub kept_in : {X : Type 0} (of : Instant → X) (none : X) (f : Instant → Instant) → ((i : Instant) → of (f i) ≡ of i) → (b : Bool) (o : Option Instant)
    → option_map_or of (cond b (option_map f o) o) none ≡ option_map_or of o none
kept_in of none f same true None = refl
kept_in of none f same true (Some i) = same i
kept_in of none f same false o = refl

-- ---- replies that change little

-- it draws no time, completes no instant and makes no pin
abbrev pub IsQuiet : Reply → Type 0
IsQuiet (reply.Began t) = ⊥
IsQuiet (reply.Completed t) = ⊥
IsQuiet (reply.Pinned view) = ⊥
IsQuiet _ = Unit {0}

pub same_last : (g : ℕ) (r : Reply) → IsQuiet r → max g (time_drawn r) ≡ g
same_last g (reply.Began t) quiet = absurd quiet
same_last g _ quiet = grind (arith, nat_tests)

same_completed : (A : Table) (H : History) (j : Job) (s : Step) (r : Reply) → IsQuiet r → completed_instants A (record { job = j; step = s; reply = r } ∷ H) ≡ completed_instants A H
same_completed A H j s (reply.Completed t) quiet = absurd quiet
same_completed A H j s _ quiet = refl

same_pins_made : (H : History) (j : Job) (s : Step) (r : Reply) → IsQuiet r → pins_made (record { job = j; step = s; reply = r } ∷ H) ≡ pins_made H
same_pins_made H j s (reply.Pinned view) quiet = absurd quiet
same_pins_made H j s _ quiet = refl

-- ---- Begin

drawn_last : (g t : ℕ) → g < t → t ≡ max g t
drawn_last g t above = grind (arith, nat_tests)

same_number : (u t : ℕ) → (u == t) ≡ true → u ≡ t
same_number u t h = grind (arith, nat_tests)

begun_targets : (A : Table) (H : History) (control : Control) (t q : ℕ) (j : Job) (b : Bool) → (t == q) ≡ b → IsControl A H control → greatest_time A H < t
    → targets_in control q ≡ targets_of_one (cond b (Some (begun j (completions A H))) (instant_of A H q))
begun_targets A H control t q j true here is above =
    let below : greatest_time A H < q = let same = same_number t q here in grind (arith, nat_tests) in
    is.targets q ∙ ap targets_of_one (undrawn A H is.opened q below)
begun_targets A H control t q j false here is above = is.targets q

begun_writes : (A : Table) (H : History) (control : Control) (t q target : ℕ) (j : Job) (b : Bool) → (t == q) ≡ b → IsControl A H control → greatest_time A H < t
    → writes_in control q target ≡ option_map_or (λ i. writes_among target i.blocks) (cond b (Some (begun j (completions A H))) (instant_of A H q)) 0
begun_writes A H control t q target j true here is above =
    let below : greatest_time A H < q = let same = same_number t q here in grind (arith, nat_tests) in
    is.writes q target ∙ ap (λ o. option_map_or (λ i. writes_among target i.blocks) o 0) (undrawn A H is.opened q below)
begun_writes A H control t q target j false here is above = is.writes q target

pub begun_taken : (A : Table) (H : History) (control : Control) (j : Job) (t : ℕ) → IsControl A H control → greatest_time A H < t
    → IsControl A (record { job = j; step = Begin; reply = reply.Began t } ∷ H) (record control { last = t })
begun_taken A H control j t is above = record {
  opened = is.opened;
  fit = is.fit;
  props = is.props;
  buckets = is.buckets;
  session = is.session;
  last = drawn_last (greatest_time A H) t above;
  completed = is.completed;
  targets = λ q. begun_targets A H control t q j (t == q) refl is above;
  writes = λ q target. begun_writes A H control t q target j (t == q) refl is above;
  slices = λ s. slice_after A H _ s _ (same_slice A H (record { job = j; step = Begin; reply = reply.Began t }) s refl) (is.slices s);
  attempts = is.attempts ∙ sym (add-zero (attempts A H));
  pins = is.pins;
  pins_made = is.pins_made;
}
