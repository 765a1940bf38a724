-- What a board keeps over an honest store whose files stood for the table when the board was made.
use Rattle.std.specs.Prelude.{◌≡◌, ◌≤◌, ℕ, ℤ, ◌+◌, List, ◌++◌, length, take, Some, IfSome, IsSome}
use Rattle.std.specs.List.{AllByRecursion}
use Rattle.hudi_base.specs.Files.{FileMap, IsImage, Told, changed_all}
use Rattle.hudi_base.specs.Store.{StoreState}
use Rattle.hudi_base.specs.declared.operation.Operation.{Operation}
use Rattle.table_history.specs.Histories.{History}
use Rattle.table_core.specs.declared.control.Control.{Control}
use Rattle.table_history.specs.JobLaw.{Work, IsReplyOf}
use Rattle.table_history.specs.Tables.{Table, fresh}
use Rattle.table_history.specs.declared.entry.Entry.{Entry}
use Rattle.table_history.specs.declared.reply.Reply.{Reply}
use Rattle.table_history.specs.declared.reply.Reply.TheVariants.{Damaged}
use Rattle.table_images.specs.Blocks.{HoldsBlocks}
use Rattle.table_images.specs.Runs.{Run, IsRun, history_of, operations_of}
use Rattle.table_images.specs.Stands.{IsJustOpened, StandsAfter, StandsFor}
use Rattle.table_images.specs.StoreRuns.{IsRunOn}
use Rattle.table_images.specs.Stops.{IsAtStop}
use Rattle.table_board.specs.Boards.{IsBoard, Origin, table_of}
use Rattle.table_board.specs.Journals.{JournalState}
use Rattle.table_board.specs.KnownEntries.{known_entries}
use Rattle.table_props.specs.PropsTexts.{told_of}

-- the files when the board was made: the first files after the first so many operations
abbrev pub files_then : FileMap → ℕ → List Operation → FileMap
files_then first done operations = changed_all first (take done operations)

-- The store is honest and tells its files and its operations; and when so many of these were done, its files stood for
-- the table, which was just opened.
pub record Stood (is_honest : Type 0) (told : Told) (A : Table) (done : ℕ) (first : FileMap)
    (operations : List Operation) : Type 0 where
  pub honest : is_honest
  pub tells_files : IsSome told.files
  pub tells_operations : told.operations ≡ Some operations
  pub tells_first : told.first ≡ Some first
  pub stands : StandsFor (files_then first done operations) A 0
  pub opened : IsJustOpened (files_then first done operations) A

-- no file was found to exist that should be new, or to be missing or too short
abbrev pub IsUndamagedReply : Reply → Type 0
IsUndamagedReply (Damaged name cause) = ⊥
IsUndamagedReply _ = Unit {0}

abbrev pub IsUndamaged : Entry → Type 0
IsUndamaged e = IsUndamagedReply e.reply

-- the entries are those of a run on the store, with the very bytes that the table knows, and none is damaged
pub record RunsTrue (work : Work) (A : Table) (files : FileMap) (before : List Operation) (told : Told) (H : History)
    : Type 0 where
  pub run : IsRunOn work A files before H told
  pub known : known_entries A H ≡ H
  pub undamaged : AllByRecursion IsUndamaged H

-- what a board keeps of it: an honest store did no fewer operations than when the board was made
pub record KeepsRun (work : Work) (A : Table) (done : ℕ) (honest : Type 0) (told : Told) (H : History) : Type 0 where
  pub grown : honest → IfSome told.operations (λ operations. done ≤ length operations)
  pub true_to : HoldsBlocks work.Holds → (first : FileMap) (operations : List Operation)
      → Stood honest told A done first operations
      → RunsTrue work A (files_then first done operations) (take done operations) told H

-- each entry's reply is one that its step may have
abbrev pub HasOwnReply : Entry → Type 0
HasOwnReply e = IsReplyOf e.step e.reply

-- What always holds of a board.
pub record BoardHolds (work : Work) (control : Control) (journal : JournalState) (faults done : ℕ) (honest : Type 0)
    (store : StoreState) (most : ℤ) : Type 0 where
  pub always : IsBoard work control journal faults store.faults most
  pub replies : AllByRecursion HasOwnReply journal.entries
  pub on_honest : KeepsRun work (fresh (told_of control.props)) done honest store.told journal.entries

-- ---- what follows

-- this holds of the first files and the operations, where the store is honest and stood at the origin
abbrev pub WhereStood : Type 0 → Told → Origin → (FileMap → List Operation → Type 0) → Type 0
WhereStood honest told origin Holds =
    (first : FileMap) (operations : List Operation) → Stood honest told (table_of origin) origin.done first operations
    → Holds first operations

-- How the entries came about: a run that has them, whose operations are those since the board was made, in order; and
-- every image that a stop leaves at or within any of these stands for the table after the entries up to it, or with the
-- step under way, failed or done whole.
pub record StandsThroughout (work : Work) (A : Table) (first : FileMap) (done : ℕ) (operations : List Operation)
    (H : History) : Type 0 where
  pub run : Run
  pub entries : history_of run ≡ H
  pub legal : IsRun work A (files_then first done operations) run
  pub in_order : operations ≡ take done operations ++ operations_of run
  pub images : (k : ℕ) (image : FileMap) → k ≤ length (operations_of run) → IsImage first operations (done + k) image
      → IsAtStop (StandsAfter A) run k image
