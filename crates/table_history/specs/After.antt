-- The table after a history, and the table as it is opened again.
use Rattle.std.specs.Prelude.{ℕ, ◌+◌, max, List, [], ◌∷◌, map, Option, Some, None}
use Rattle.hudi_base.specs.InstantTime.{first_time}
use Rattle.file_names.specs.declared.file_name.FileName.{FileName}
use Rattle.file_names.specs.declared.file_name.FileName.TheVariants.{Base, Log}
use Rattle.table_history.specs.Histories.{History}
use Rattle.table_history.specs.Instants.{instant_of, completions}
use Rattle.table_history.specs.Logs.{files_of}
use Rattle.table_history.specs.Tables.{Table, Instant, KnownFile}
use Rattle.table_history.specs.Times.{greatest_time}
use Rattle.table_history.specs.declared.reply.Reply.{Reply}
use Rattle.table_history.specs.declared.reply.Reply.TheVariants.{Began}

-- the times of the instants, those drawn last first
abbrev pub times_of : Table → History → List ℕ
times_of A [] = map (λ known. known.0) A.instants
times_of A (e ∷ H) = after e.reply (times_of A H)
  where
    after : Reply → List ℕ → List ℕ
    after (Began t) before = t ∷ before
    after _ before = before

abbrev pub instants_at : Table → History → List ℕ → List (ℕ × Instant)
instants_at A H [] = []
instants_at A H (t ∷ more) = with (instant_of A H t) (instants_at A H more)
  where
    with : Option Instant → List (ℕ × Instant) → List (ℕ × Instant)
    with None rest = rest
    with (Some i) rest = (t, i) ∷ rest

abbrev pub after_history : Table → History → Table
after_history A H = record {
  props = A.props;
  instants = instants_at A H (times_of A H);
  completed = completions A H;
  earliest = A.earliest;
  files = files_of A H;
  session = A.session;
  last = greatest_time A H;
}

-- one more than the greatest session in the names, 0 where there is none
abbrev pub next_session : List KnownFile → ℕ
next_session [] = 0
next_session (known ∷ more) = max (of known.file) (next_session more)
  where
    of : FileName → ℕ
    of (Base group token t) = token.session + 1
    of (Log group slice version token) = token.session + 1
    of _ = 0

-- the greatest time in the names of the timeline
abbrev pub greatest_in : List (ℕ × Instant) → ℕ
greatest_in [] = first_time
greatest_in (known ∷ more) = max known.0 (greatest_in more)

-- The table as it is opened again: nobody owns an instant, the session and the last time come from the names, and the files
-- are those that stand in the store.
abbrev pub reopened : Table → List KnownFile → Table
reopened A files = record A {
  instants = map (λ known. (known.0, record known.1 { owner = None })) A.instants;
  files = files;
  session = next_session files;
  last = greatest_in A.instants;
}
