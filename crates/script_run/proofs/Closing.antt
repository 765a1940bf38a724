-- A run, from the board that was made for it to the board that is closed.
use Rattle.std.proofs.Common.{◌≡◌, ℕ, Bool, List, map, reverse, Result, sym, ap, subst}
use Rattle.std.specs.Prelude.{MatchResult}
use Rattle.std.specs.declared.alloc.AllocError.{AllocError}
use Rattle.script_texts.specs.Marks.{marks_text}
use Rattle.script_jobs.specs.Scripts.{SaidJob, SaidScript}
use Rattle.script_texts.specs.Texts.{init_text}
use Rattle.table_board.specs.Boards.{BoardState, Origin}
use Rattle.table_board.specs.Later.{IsLater}
use Rattle.table_core.specs.Marks.{mark_of}
use Rattle.table_history.specs.Histories.{History}
use Rattle.table_history.specs.declared.entry.Mark.{Mark}
use Rattle.script_run.specs.Runs.{RunTable}
use Rattle.script_run.specs.Outcome.{IsMadeBy, IsWithoutFiles, jobs_of}
use Rattle.script_run.specs.Parts.{CameTo, Prints, RanSoFar, StoppedAt}
use Rattle.script_run.specs.declared.verdict.Verdict.{Verdict}
use Rattle.script_run.proofs.Endings.{came_to}
use Rattle.script_run.proofs.LaterBoards.{LaterBoard, Seen}
use Rattle.script_run.proofs.WholeRuns.{IsMadeOver, Journal, run_of}

abbrev pub RanOn : RunTable → List ℕ → List SaidJob → History → List ℕ → Result Bool AllocError → Type 0
RanOn table made jobs H lines ran = MatchResult ran (λ failed. RanSoFar table made jobs H lines failed) (λ error. StoppedAt table made jobs H lines)

abbrev pub JournalOf : {S C : Type 0} → Seen S C → BoardState S C → Type 0
JournalOf seen board = Journal board.origin board.entries (seen.is_honest board.store) (seen.state board.store) (seen.clock board.clock).most

-- a board that was made with its table over this store, and what it came to
pub closed : {S C : Type 0} (seen : Seen S C) (script : SaidScript) (table : RunTable) → IsMadeBy script table → (ran : Result Bool AllocError) (lines : List ℕ) (marks : List Mark) (verdict : Verdict)
    (new board : BoardState S C) (store : S) (clock : C) → IsMadeOver new.origin table (seen.is_honest store) (seen.is_honest new.store) (seen.state store) (seen.state new.store)
    → LaterBoard seen new board → JournalOf seen board
    → marks ≡ map mark_of (reverse board.entries) → RanOn table (init_text script.init) (jobs_of script) board.entries lines ran → Prints ran lines (marks_text marks) verdict → IsWithoutFiles (seen.state store).told
    → CameTo verdict script (seen.is_honest store) (seen.state store) (seen.state board.store) (seen.clock clock) (seen.clock board.clock)
closed {S} {C} seen script table of_script ran lines marks verdict new board store clock made later journal marks_are came prints fresh =
    let made_now : IsMadeOver board.origin table (seen.is_honest store) (seen.is_honest new.store) (seen.state store) (seen.state new.store) =
    subst (λ (origin : Origin). IsMadeOver origin table (seen.is_honest store) (seen.is_honest new.store) (seen.state store) (seen.state new.store)) (sym later.origin) made in
    let over_now : IsLater board.origin board.origin (seen.is_honest new.store) (seen.is_honest board.store) (seen.state new.store) (seen.state board.store) (seen.clock new.clock) (seen.clock board.clock) =
    subst (λ (origin : Origin). IsLater origin board.origin (seen.is_honest new.store) (seen.is_honest board.store) (seen.state new.store) (seen.state board.store) (seen.clock new.clock) (seen.clock board.clock))
    (sym later.origin) later in
    came_to script table of_script ran lines (marks_text marks) verdict board.entries (seen.is_honest store) (seen.state store) (seen.state board.store) (seen.clock clock) (seen.clock board.clock) fresh
    (ap marks_text marks_are) came prints
    (λ jobs replies all.
    run_of table board.origin (seen.is_honest store) (seen.is_honest new.store) (seen.is_honest board.store) (seen.state store) (seen.state new.store) (seen.state board.store) (seen.clock new.clock)
    (seen.clock board.clock) jobs replies board.entries made_now over_now journal all)
