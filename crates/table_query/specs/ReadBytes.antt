-- What a query has pinned and read, by its own entries, of which the last comes first.
use Rattle.std.specs.Prelude.{◌≡◌, ◌<◌, ◌+◌, false, ℕ, ◌==◌, if◌then◌else◌, List, [], ◌∷◌, ◌++◌, length, slice_get, Option, Some, None}
use Rattle.table_history.specs.declared.entry.Entry.{Entry}
use Rattle.table_history.specs.declared.reply.Reply.{Reply}
use Rattle.table_history.specs.declared.reply.Reply.TheVariants.{Piece, Pinned}
use Rattle.table_history.specs.declared.step.Step.{Step}
use Rattle.table_history.specs.declared.step.Step.TheVariants.{Pin, Unpin, Read}
use Rattle.table_history.specs.declared.view.Part.{Part}
use Rattle.table_history.specs.declared.view.View.{View}

abbrev pub piece_of : Step → Reply → ℕ → List ℕ
piece_of (Read from number at len) (Piece bytes) file = if number == file then bytes else []
piece_of _ _ file = []

-- the bytes of a file, by its number in the view: its pieces, one behind another
abbrev pub bytes_read : List Entry → ℕ → List ℕ
bytes_read [] file = []
bytes_read (e ∷ es) file = bytes_read es file ++ piece_of e.step e.reply file

-- the view that was pinned
abbrev pub pinned : List Entry → Option View
pinned [] = None
pinned (e ∷ es) = by e.reply (pinned es)
  where
    by : Reply → Option View → Option View
    by (Pinned view) before = Some view
    by _ before = before

-- A step of a query of this instant, of the latest where none is named: it pins all files, reads, or lets its pin go.
abbrev pub IsQueryStep : Option ℕ → Step → Type 0
IsQueryStep at (Pin asked bases_only) = (asked ≡ at) × (bases_only ≡ false)
IsQueryStep at (Read from number offset len) = Unit {0}
IsQueryStep at (Unpin pin) = Unit {0}
IsQueryStep at _ = ⊥

-- each of a job's own entries is such a step
abbrev pub PinsAt : Option ℕ → List Entry → Type 0
PinsAt at [] = Unit {0}
PinsAt at (e ∷ es) = IsQueryStep at e.step × PinsAt at es

-- each file of these parts was read to its end, which are numbered from here on
abbrev pub IsReadWhole : (ℕ → List ℕ) → ℕ → List Part → Type 0
IsReadWhole bytes first parts = (k : ℕ) (part : Part) → slice_get parts k ≡ Some part → length (bytes (first + k)) ≡ part.length

-- a step reads no file from this number on
abbrev pub IsBefore : ℕ → Step → Type 0
IsBefore number (Read from file offset len) = file < number
IsBefore number _ = Unit {0}

-- none of a job's own entries does, answered or failed
abbrev pub ReadsBefore : ℕ → List Entry → Type 0
ReadsBefore number [] = Unit {0}
ReadsBefore number (e ∷ es) = IsBefore number e.step × ReadsBefore number es
