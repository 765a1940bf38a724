-- What a snapshot has to answer: the fold of the instants that are completed at its pin.
use Rattle.std.specs.Prelude.{◌≡◌, ℕ, nat_le, List, [], map, filter, Option, Some, None}
use Rattle.payload_merge.specs.Fold.{InstantWrites, fold, rows_of}
use Rattle.payload_merge.specs.declared.row.Row.{Row}
use Rattle.table_core.specs.declared.job_reply.JobReply.{JobReply}
use Rattle.table_core.specs.declared.job_reply.JobReply.TheVariants.{Rows, Damaged}
use Rattle.table_history.specs.Histories.{History}
use Rattle.table_history.specs.Instants.{completed_instants}
use Rattle.table_history.specs.Pins.{pinned_instant}
use Rattle.table_history.specs.Tables.{Table}
use Rattle.table_answers.specs.InstantWrites.{writes_of}
use Rattle.upsert_writer.specs.Blocks.{BlockForm}

-- the instants that are completed after a history, up to a time, each with its writes
abbrev pub instants_up_to : BlockForm → Table → History → ℕ → List InstantWrites
instants_up_to form A H t =
    map (λ u. record { instant = u; writes = writes_of form A H u }) (filter (λ u. nat_le u t) (completed_instants A H))

-- the rows that they leave, in the order of their keys; none where there is no instant
abbrev pub rows_at : BlockForm → Table → History → Option ℕ → List Row
rows_at form A H None = []
rows_at form A H (Some t) = rows_of (fold (instants_up_to form A H t))

-- the pinned instant, and the rows that the completed instants up to it leave
pub record IsSnapshot (form : BlockForm) (A : Table) (H : History) (at time : Option ℕ) (rows : List Row) : Type 0 where
  pub at_is : time ≡ pinned_instant A H at
  pub rows_are : rows ≡ rows_at form A H time

-- An answer with rows is the snapshot after the history at which the query pinned, and no file is damaged.
abbrev pub AnswersSnapshot : BlockForm → Table → History → Option ℕ → JobReply → Type 0
AnswersSnapshot form A H at (Rows time rows) = IsSnapshot form A H at time rows
AnswersSnapshot form A H at (Damaged name cause place) = ⊥
AnswersSnapshot form A H at given = Unit {0}
