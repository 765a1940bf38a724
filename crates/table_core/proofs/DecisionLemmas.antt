-- What the control decides is what the machine answers.
use Rattle.std.proofs.Common.{◌≡◌, ℕ, ℤ, List, [], ◌∷◌, Bool, true, false, cond, Some, refl, sym, ap, ◌∙◌}
use Rattle.std.specs.Prelude.{slice_get}
use Rattle.hudi_base.specs.declared.file_group.Target.{Target}
use Rattle.file_names.specs.FileName.{name_of}
use Rattle.file_names.specs.declared.file_name.FileName.TheVariants.{Log}
use Rattle.table_core.specs.ControlTables.{IsControl, IsSlice, IsInUse, targets_in, slice_in}
use Rattle.table_core.specs.Placements.{placement}
use Rattle.table_core.specs.SliceStates.{SliceState, first_length, first_attempt, length_in_use, attempt_of}
use Rattle.table_core.specs.declared.control.Control.{Control}
use Rattle.table_history.specs.Answers.{AppendAnswers}
use Rattle.table_history.specs.Histories.{History}
use Rattle.table_history.specs.Logs.{target_at, version_in_use, known_length, attempts, opened_at, attempt_in_use, log_name}
use Rattle.table_history.specs.Operations.{Decides, appends}
use Rattle.table_history.specs.Tables.{Table}
use Rattle.table_history.specs.declared.log_file.LogFile.{LogFile}
use Rattle.table_history.specs.declared.operation.Op.TheVariants as op
use Rattle.table_history.specs.declared.reply.Reply.TheVariants.{Placed}
use Rattle.table_history.specs.declared.step.Step.TheVariants.{Append}

-- ---- the version in use

length_known : (A : Table) (H : History) (s : Target) (version : ℕ) (unused : Bool) (logs : List LogFile) → IsInUse A H s version unused logs
    → cond unused 0 (first_length logs) ≡ known_length A H s version
length_known A H s version true logs known = sym known
length_known A H s version false [] known = absurd known
length_known A H s version false (log ∷ more) known = known.0

attempt_known : (A : Table) (H : History) (s : Target) (version : ℕ) (unused : Bool) (logs : List LogFile) → IsInUse A H s version unused logs
    → cond unused (attempts A H) (first_attempt logs) ≡ cond unused (attempts A H) (opened_at A H s)
attempt_known A H s version true logs known = refl
attempt_known A H s version false [] known = absurd known
attempt_known A H s version false (log ∷ more) known = known.1

pub length_of_slice : (A : Table) (H : History) (s : Target) (slice : SliceState) → IsSlice A H s slice → length_in_use slice ≡ known_length A H s slice.version
length_of_slice A H s slice is = length_known A H s slice.version slice.unused slice.logs is.in_use

pub attempt_of_slice : (A : Table) (H : History) (s : Target) (slice : SliceState) (made : ℕ) → IsSlice A H s slice → made ≡ attempts A H
    → attempt_of slice made ≡ attempt_in_use A H s
attempt_of_slice A H s slice made is all =
    ap (λ n. cond slice.unused n (first_attempt slice.logs)) all
    ∙ attempt_known A H s slice.version slice.unused slice.logs is.in_use
    ∙ ap (λ b. cond b (attempts A H) (opened_at A H s)) is.unused

-- ---- appends

target_known : (A : Table) (H : History) (control : Control) (t target : ℕ) (s : Target) → IsControl A H control
    → slice_get (targets_in control t) target ≡ Some s → target_at A H t target ≡ Some s
target_known A H control t target s is at = ap (λ targets. slice_get targets target) (sym (is.targets t)) ∙ at

append_answers : (A : Table) (H : History) (t target : ℕ) (s : Target) (version length : ℕ) → target_at A H t target ≡ Some s → version ≡ version_in_use A H s
    → length ≡ known_length A H s version → AppendAnswers A H t target (Placed version length)
append_answers A H t target s version length at first second = rw at (first, second)

append_operates : (A : Table) (H : History) (t target : ℕ) (s : Target) (bytes : List ℕ) (version attempt : ℕ) → target_at A H t target ≡ Some s
    → version ≡ version_in_use A H s → attempt ≡ attempt_in_use A H s → op.Append (log_name A s version attempt) bytes ≡ appends A H bytes (target_at A H t target)
append_operates A H t target s bytes version attempt at first second =
    rw (first, second) (ap (appends A H bytes) (sym at))

pub append_decides : (A : Table) (H : History) (control : Control) (t target writes : ℕ) (s : Target) (bytes : List ℕ) (now : ℤ) → IsControl A H control
    → slice_get (targets_in control t) target ≡ Some s → Decides A H (Append t target writes bytes) now (placement control s (slice_in control s) bytes)
append_decides A H control t target writes s bytes now is at =
    let slice = slice_in control s in
    let here = target_known A H control t target s is at in
    let known = is.slices s in
    record {
      answers = append_answers A H t target s slice.version (length_in_use slice) here known.version (length_of_slice A H s slice known);
      succeeds = tt;
      draws = tt;
      op = ap (λ table. op.Append (name_of table (Log s.group s.slice slice.version (record { session = control.session; attempt = attempt_of slice control.attempts }))) bytes) (ap (λ props. props.name) is.props)
          ∙ ap (λ session. op.Append (name_of A.props.name (Log s.group s.slice slice.version (record { session = session; attempt = attempt_of slice control.attempts }))) bytes) is.session
          ∙ append_operates A H t target s bytes slice.version (attempt_of slice control.attempts) here known.version (attempt_of_slice A H s slice control.attempts known is.attempts);
    }
