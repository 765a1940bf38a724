-- What contracts see of a journal.
use Rattle.std.specs.Prelude.{◌≡◌, ℕ, List, map}
use Rattle.table_core.specs.Marks.{mark_of}
use Rattle.table_history.specs.Histories.{History}
use Rattle.table_history.specs.declared.entry.Entry.{Entry}
use Rattle.table_history.specs.declared.entry.Mark.{Mark}

-- the entries, how many more are owed at most, and for how many there is room
pub record JournalState : Type 0 where
  pub entries : History
  pub owed : ℕ
  pub room : ℕ

-- each entry has its mark
abbrev pub HasMarks : List Entry → List Mark → Type 0
HasMarks entries marks = marks ≡ map mark_of entries
