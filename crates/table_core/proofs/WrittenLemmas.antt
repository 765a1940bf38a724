-- Targets with their writes, one by one.
use Rattle.std.proofs.Common.{◌≡◌, ◌<◌, ◌+◌, ℕ, ℤ, Option, List, [], ◌∷◌, ◌++◌, length, take, get_or, refl, sym, ap, ◌∙◌, arith, length-take-le, add-zero}
use Rattle.std.proofs.lemmas.List.{take_more}
use Rattle.hudi_base.specs.declared.file_group.Target.{Target}
use Rattle.commit_meta.specs.Texts.{meta_bytes}
use Rattle.commit_meta.specs.declared.meta.Meta.TheVariants as meta
use Rattle.file_names.specs.FileName.{name_of}
use Rattle.file_names.specs.declared.file_name.Action.TheVariants.{Delta}
use Rattle.file_names.specs.declared.file_name.FileName.TheVariants as file
use Rattle.file_names.specs.declared.file_name.State.TheVariants as state
use Rattle.table_core.specs.ControlTables.{IsControl, targets_in, writes_in}
use Rattle.table_core.specs.declared.control.Control.{Control}
use Rattle.table_history.specs.Histories.{History}
use Rattle.table_history.specs.Metadata.{written, written_by}
use Rattle.table_history.specs.Operations.{Decides}
use Rattle.table_history.specs.Tables.{Table}
use Rattle.table_history.specs.declared.operation.Op.TheVariants as op
use Rattle.table_history.specs.declared.reply.Reply.TheVariants.{Completed}
use Rattle.table_history.specs.declared.step.Step.TheVariants.{Finish}

written-append : (writes : ℕ → ℕ) (number : ℕ) (targets : List Target) (s : Target) → written writes number (targets ++ s ∷ []) ≡ written writes number targets ++ (s, writes (number + length targets)) ∷ []
written-append writes number [] s = ap (λ n. (s, writes n) ∷ []) (sym (add-zero number))
written-append writes number (first ∷ targets) s =
    let same : number + 1 + length targets ≡ number + length (first ∷ targets) = omega arith in
    ap (λ rest. (first, writes number) ∷ rest) (written-append writes (number + 1) targets s ∙ ap (λ n. written writes (number + 1) targets ++ (s, writes n) ∷ []) same)

-- one target more
pub written-next : (writes : ℕ → ℕ) (i : ℕ) (targets : List Target) (s : Target) → i < length targets → s ≡ get_or targets i s
    → written writes 0 (take (i + 1) targets) ≡ written writes 0 (take i targets) ++ (s, writes i) ∷ []
written-next writes i targets s within is =
    let taken : length (take i targets) ≡ i = length-take-le i targets (omega (arith, within)) in
    let same : 0 + length (take i targets) ≡ i = omega (arith, taken) in
    ap (written writes 0) (take_more targets i s within ∙ ap (λ (x : Target). take i targets ++ x ∷ []) (sym is))
    ∙ written-append writes 0 (take i targets) s
    ∙ ap (λ n. written writes 0 (take i targets) ++ (s, writes n) ∷ []) same

-- ---- what the control has of them

same_written : (A : Table) (H : History) (control : Control) (t : ℕ) → IsControl A H control → written (writes_in control t) 0 (targets_in control t) ≡ written_by A H t
same_written A H control t is = λ i. written (λ target. is.writes t target i) 0 (is.targets t i)

pub finish_decides : (A : Table) (H : History) (control : Control) (t : ℕ) (checkpoint : Option ℕ) (groups : List (Target × ℕ)) (now : ℤ) → IsControl A H control
    → groups ≡ written (writes_in control t) 0 (targets_in control t)
    → Decides A H (Finish t checkpoint) now (record {
      reply = Completed t;
      op = op.Create (name_of control.props.name (file.Instant t Delta state.Completed)) (meta_bytes control.props.name (meta.Delta (record { checkpoint = checkpoint; groups = groups })));
    })
finish_decides A H control t checkpoint groups now is same = record {
  answers = refl;
  succeeds = tt;
  draws = tt;
  op = λ i. op.Create (name_of ((is.props i).name) (file.Instant t Delta state.Completed)) (meta_bytes ((is.props i).name) (meta.Delta (record { checkpoint = checkpoint; groups = all i })));
}
  where
    all : groups ≡ written_by A H t
    all = same ∙ same_written A H control t is
