-- A board that was just made.
use Rattle.std.proofs.Common.{◌≡◌, ◌≤◌, ◌+◌, ℕ, ℤ, [], IfSome, length, inl, sym, subst, arith}
use Rattle.std.specs.List.{AllByRecursion}
use Rattle.hudi_base.specs.Files.{IsReplay}
use Rattle.hudi_base.specs.Store.{StoreState}
use Rattle.table_core.specs.ControlTables.{IsControl}
use Rattle.table_core.specs.declared.control.Control.{Control}
use Rattle.table_history.specs.Histories.{History}
use Rattle.table_history.specs.JobLaw.{IsLegal, Work}
use Rattle.table_history.specs.Tables.{Table, fresh}
use Rattle.table_props.specs.PropsTexts.{told_of}
use Rattle.table_board.specs.Boards.{DrawnTimes, IsNewTable, faults_among}
use Rattle.table_board.specs.HonestRuns.{BoardHolds, HasOwnReply, KeepsRun}
use Rattle.table_board.specs.Journals.{JournalState}
use Rattle.table_board.specs.KnownEntries.{known_entries}
use Rattle.table_board.specs.Owed.{owed_steps}
use Rattle.table_board.proofs.Running.{run_begins}

pub board_begins : (work : Work) (control : Control) (journal : JournalState) (faults done : ℕ) (honest : Type 0) (store : StoreState) (most : ℤ) → journal.entries ≡ [] → journal.owed ≡ 0
    → IsNewTable control → faults ≡ store.faults → IfSome store.told.operations (λ operations. done ≡ length operations) → IsReplay store.told
    → BoardHolds work control journal faults done honest store most
board_begins work control journal faults done honest store most none owed new counted count replay =
    let A : Table = fresh (told_of control.props) in
    record {
      always = record {
        keeps = record {
          legal = subst (λ (H : History). IsLegal work A (known_entries A H)) (sym none) tt;
          tables = subst (λ (H : History). IsControl A (known_entries A H) control) (sym none) new;
          owed = subst (λ (H : History). owed_steps (known_entries A H) ≤ journal.owed) (sym none) (omega arith);
          room = subst (λ (n : ℕ). n ≤ journal.room) (sym owed) (omega arith);
        };
        faults = inl (subst (λ (H : History). faults + faults_among H ≤ store.faults) (sym none) (omega (arith, counted)));
        drawn = subst (λ (H : History). DrawnTimes A most H) (sym none) tt;
      };
      replies = subst (AllByRecursion HasOwnReply) (sym none) tt;
      on_honest = subst (λ (H : History). KeepsRun work A done honest store.told H) (sym none) (run_begins work A done honest store.told replay count);
    }
