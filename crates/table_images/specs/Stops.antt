-- What a stop leaves of a run, said of any relation between files and histories: a step law, and what follows from it
-- of every image.
use Rattle.std.specs.Prelude.{◌≡◌, ◌⊎◌, ℕ, ◌∷◌, ◌++◌, length, Some}
use Rattle.hudi_base.specs.Files.{FileMap}
use Rattle.hudi_base.specs.declared.operation.Operation.{Operation}
use Rattle.table_history.specs.Histories.{History}
use Rattle.table_history.specs.JobLaw.{Work, IsLegal}
use Rattle.table_history.specs.Tables.{Table}
use Rattle.table_images.specs.Runs.{Happened, Run, MayHappen, IsPossible, history_of, operations_of, changed_by, failing}

-- An entry after which files and history are related where they were before it.
abbrev pub KeepsAll : Work → Table → (FileMap → History → Type 0) → Type 0
KeepsAll work A Related =
    (files : FileMap) (H : History) (h : Happened) → Related files H → IsLegal work A H → MayHappen work A H h
    → IsPossible files h.did → Related (changed_by files h.did) (h.entry ∷ H)

-- The image is of the moment after the first k operations: those of the entries so far.
pub record IsBetween (Related : FileMap → History → Type 0) (R : Run) (k : ℕ) (image : FileMap) : Type 0 where
  pub later : Run
  pub so_far : Run
  pub split : R ≡ later ++ so_far
  pub counts : length (operations_of so_far) ≡ k
  pub related : Related image (history_of so_far)

-- The image is of a moment within the operation after these: it is what the entry's step leaves where it fails, or
-- where it is done whole.
pub record IsWithin (Related : FileMap → History → Type 0) (R : Run) (k : ℕ) (image : FileMap) : Type 0 where
  pub later : Run
  pub next : Happened
  pub so_far : Run
  pub split : R ≡ later ++ next ∷ so_far
  pub counts : length (operations_of so_far) ≡ k
  pub operation : Operation
  pub does : next.did ≡ Some operation
  pub related : Related image (failing next.entry ∷ history_of so_far) ⊎ Related image (next.entry ∷ history_of so_far)

-- what a stop leaves after the first k operations and before the one after these has ended
abbrev pub IsAtStop : (FileMap → History → Type 0) → Run → ℕ → FileMap → Type 0
IsAtStop Related R k image = IsBetween Related R k image ⊎ IsWithin Related R k image
