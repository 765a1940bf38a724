-- The entries of a history as the machine answers them. A store that isn't honest may give any bytes of a file. Here
-- each piece that was read has the bytes that the table knows. What a table does next rests on this form alone: no
-- later step depends on the bytes of a piece.
use Rattle.std.specs.Prelude.{ℕ, Bool, true, false, List, [], ◌∷◌, take, drop}
use Rattle.std.specs.Option.{option_map_or}
use Rattle.table_history.specs.Histories.{History}
use Rattle.table_history.specs.Logs.{bytes_of}
use Rattle.table_history.specs.Operations.{part_read}
use Rattle.table_history.specs.Tables.{Table}
use Rattle.table_history.specs.declared.entry.Entry.{Entry}
use Rattle.table_history.specs.declared.reply.Reply.{Reply}
use Rattle.table_history.specs.declared.reply.Reply.TheVariants.{Piece}
use Rattle.table_history.specs.declared.step.Reader.{Reader}
use Rattle.table_history.specs.declared.step.Step.{Step}
use Rattle.table_history.specs.declared.step.Step.TheVariants.{Read}

-- a piece of a file that a reader has, by the bytes that the table knows
abbrev pub known_piece : Table → History → Reader → ℕ → ℕ → ℕ → List ℕ
known_piece A H from file at len =
    option_map_or (λ part. take len (drop at (bytes_of A H part.name))) (part_read H from file) []

abbrev pub known_reply : Table → History → Step → Reply → Reply
known_reply A H (Read from file at len) (Piece bytes) = Piece (known_piece A H from file at len)
known_reply A H step reply = reply

abbrev pub known_entry : Table → History → Entry → Entry
known_entry A H e = record { job = e.job; step = e.step; reply = known_reply A H e.step e.reply }

abbrev pub known_entries : Table → History → History
known_entries A [] = []
known_entries A (e ∷ H) = known_entry A (known_entries A H) e ∷ known_entries A H

abbrev pub is_read : Step → Bool
is_read (Read from file at len) = true
is_read _ = false
