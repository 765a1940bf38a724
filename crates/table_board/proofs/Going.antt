-- A step leads to a later state.
use Rattle.std.proofs.Common.{◌≡◌, inl, inr, ◌≤◌, ℕ, List, [], ◌∷◌, ◌++◌, take, Option, Some, None, option_map, refl, sym, ap, ◌∙◌, subst}
use Rattle.std.specs.Prelude.{◌↔◌, is_some}
use Rattle.hudi_base.specs.Clock.{ClockState}
use Rattle.hudi_base.specs.Faults.{CountsFault}
use Rattle.hudi_base.specs.Files.{FileMap, Told, after, changed}
use Rattle.hudi_base.specs.Store.{StoreState, IsLeftBy}
use Rattle.hudi_base.specs.declared.operation.Operation.{Operation}
use Rattle.hudi_base.specs.declared.operation.Operation.TheVariants.{Append}
use Rattle.table_history.specs.declared.operation.Op.{Op}
use Rattle.table_history.specs.declared.operation.Op.TheVariants as op
use Rattle.table_history.specs.declared.reply.Reply.{Reply}
use Rattle.table_history.specs.declared.reply.Reply.TheVariants as reply
use Rattle.table_history.specs.declared.step.Step.{Step}
use Rattle.table_images.specs.Runs.{whole}
use Rattle.table_images.proofs.Lines.{some_same}
use Rattle.table_board.proofs.Drawing.{asked_later}
use Rattle.table_board.proofs.Honest.{told_after}
use Rattle.table_history.specs.Histories.{History}
use Rattle.table_history.specs.declared.job.Job.{Job}
use Rattle.table_board.specs.Boards.{after_step, AsksClock, Origin}
use Rattle.table_board.specs.Later.{DoesMore, IsLater, IsLaterSolo, ToldLater}
use Rattle.table_board.specs.LaterLaws.{told_itself}
use Rattle.table_board.specs.StoreChanges.{after_op, Changes, LeavesAtFault, LeftBy}

told_same : (honest : Type 0) (old new : Told) → new ≡ old → ToldLater honest old new
told_same honest old new same = subst (λ (t : Told). ToldLater honest old t) (sym same) (told_itself honest old)

still_some : (operation : Operation) (o : Option FileMap) → is_some (option_map (λ files. changed files operation) o) ≡ is_some o
still_some operation None = refl
still_some operation (Some files) = refl

told_more : (honest : Type 0) (old : Told) (did : Option Operation) → ToldLater honest old (told_after old did)
told_more honest old None = told_itself honest old
told_more honest old (Some operation) = record {
  first = refl;
  files = still_some operation old.files;
  operations = λ h operations is. (operation ∷ [], ap (option_map (λ os. os ++ operation ∷ [])) is);
}

told_by : (honest : Type 0) (old new : Told) (did : Option Operation) → new ≡ told_after old did → ToldLater honest old new
told_by honest old new did is = subst (λ (t : Told). ToldLater honest old t) (sym is) (told_more honest old did)

after_whole : (old : Told) (p : Op) → after_op old p ≡ told_after old (whole p)
after_whole old op.Nothing = refl
after_whole old (op.Create name bytes) = refl
after_whole old (op.Append name bytes) = refl
after_whole old (op.Remove name) = refl
after_whole old (op.Read name at len) = refl

left_later : (name bytes : List ℕ) (old new : Told) → IsLeftBy (Append name bytes) old new → ToldLater (Unit {0}) old new
left_later name bytes old new (inl same) = told_same (Unit {0}) old new same
left_later name bytes old new (inr (n, left)) = told_by (Unit {0}) old new (Some (Append name (take n bytes))) left.appended

left_by : (p : Op) (old new : Told) → LeftBy p old new → ToldLater (Unit {0}) old new
left_by (op.Append name bytes) old new left = left_later name bytes old new left
left_by op.Nothing old new left = told_same (Unit {0}) old new left
left_by (op.Create name bytes) old new left = told_same (Unit {0}) old new left
left_by (op.Remove name) old new left = told_same (Unit {0}) old new left
left_by (op.Read name at len) old new left = told_same (Unit {0}) old new left

told_later : (honest : Type 0) (p : Op) (r : Reply) (old new : Told) → Changes honest p r old new → ToldLater honest old new
told_later honest p reply.Fault old new leaves =
    record { first = leaves.first; files = leaves.files; operations = λ h. (left_by p old new (leaves.leaves h)).operations tt }
told_later honest p (reply.Damaged name cause) old new same = told_same honest old new same
told_later honest p reply.Memory old new same = told_same honest old new same
told_later honest p _ old new is = told_by honest old new (whole p) (is ∙ after_whole old p)

pub stepped : (from to : Origin) (was now : Type 0) (old new : StoreState) (before after : ClockState) (p : Op) (s : Step) (r : Reply) (failed : Type 0) → to ≡ from → (was ↔ now)
    → Changes was p r old.told new.told → CountsFault old.faults new.faults failed → AsksClock s before after → IsLater from to was now old new before after
stepped from to was now old new before after p s r failed same honest changes counts asks =
    record { origin = same; honest = honest; told = told_later was p r old.told new.told changes; faults = counts.never_falls; most = asked_later s before after asks }

-- what it adds to the entries
pub stepped_alone : (j : Job) (s : Step) (r : Reply) (H K : History) (Later : Type 0) → K ≡ after_step j s r H → Later → IsLaterSolo j j H K Later
stepped_alone j s reply.Memory H K Later is board = record { job_is = refl; adds = record { mine = []; are = is; own = tt }; board = board }
stepped_alone j s r H K Later is board =
    record { job_is = refl; adds = record { mine = record { job = j; step = s; reply = r } ∷ []; are = is; own = (refl, tt) }; board = board }
