-- Rows and the cells of their fields.
use Rattle.std.specs.Prelude.{◌≡◌, ◌≢◌, ◌≤◌, ◌<◌, ◌++◌, ℕ, ℤ, pos, List, length, All, Option, Some, None, option_and_then, slice_get, codes, Result, Ok, Err}
use Rattle.std.specs.Fmt.{decimal}
use Rattle.hudi_base.specs.InstantTime.{time_text}
use Rattle.hudi_base.specs.declared.value.Value.{Value, Int, Long, Text}
use Rattle.avro_schema.specs.Written.{written}
use Rattle.table_forms.specs.NameForms.{IsPartitionPath}
use Rattle.payload_merge.specs.declared.row.Row.{Row}
use Rattle.payload_merge.specs.declared.row_error.RowError.{RowError}
use Rattle.payload_merge.specs.declared.row_error.RowError.TheVariants.{Memory, NoKey, BadPartition, NoOrdering, TooLarge}
use Rattle.row_values.specs.declared.row_layout.RowLayout.{RowLayout}
use Rattle.row_values.specs.Cells.{AreCells, IsShortCell, record_of_cells}

-- ---- what cells say

abbrev pub text_in : Value → Option (List ℕ)
text_in (Text content) = Some content
text_in _ = None

abbrev pub number_in : Value → Option ℤ
number_in (Int number) = Some number
number_in (Long number) = Some number
number_in _ = None

-- the text of the cell at a place
abbrev pub text_at : ℕ → List Value → Option (List ℕ)
text_at place cells = option_and_then text_in (slice_get cells place)

-- the rank: the ordering field's number, which may not be null, or 0 where there is no ordering field
abbrev pub rank_in : Option ℕ → List Value → Option ℤ
rank_in None cells = Some (pos 0)
rank_in (Some place) cells = option_and_then number_in (slice_get cells place)

-- the body of a row: the written form of the record of its cells
abbrev pub body_of : RowLayout → List Value → List ℕ
body_of layout cells = written (record_of_cells layout.fields cells)

-- ---- the rows of a table

-- the cells are a row's: one for each field, none of them too long, and they agree with its body, key, partition and rank
pub record AreCellsOf (layout : RowLayout) (row : Row) (cells : List Value) : Type 0 where
  pub fit : AreCells layout.fields cells
  pub short : All IsShortCell cells
  pub body : row.body ≡ body_of layout cells
  pub key : text_at layout.key cells ≡ Some row.key
  pub partition : text_at layout.partition cells ≡ Some row.partition
  pub rank : rank_in layout.ordering cells ≡ Some row.rank

-- a row of the table
abbrev pub IsOwnRow : RowLayout → Row → Type 0
IsOwnRow layout row = (cells : List Value) × AreCellsOf layout row cells

-- where a row was written: its instant and its place in the batch
abbrev pub seqno_text : ℕ → ℕ → List ℕ
seqno_text instant seq = time_text instant ++ codes "_0_" ++ decimal seq

-- ---- new rows, and why cells make none

abbrev pub IsRecordKey : List ℕ → Type 0
IsRecordKey key = (1 ≤ length key) × (length key ≤ 1000)

-- the record key is one
pub record HasKey (layout : RowLayout) (cells : List Value) : Type 0 where
  pub key : List ℕ
  pub there : text_at layout.key cells ≡ Some key
  pub fits : IsRecordKey key

-- the partition is a path
pub record HasPartition (layout : RowLayout) (cells : List Value) : Type 0 where
  pub partition : List ℕ
  pub there : text_at layout.partition cells ≡ Some partition
  pub path : IsPartitionPath partition

-- The answer for a row of an instant and a place in its batch: the row, or the first refusal. Memory may be wanting at
-- any time, and nothing else comes.
abbrev pub AnswersRow : RowLayout → List Value → ℕ → ℕ → Result Row RowError → Type 0
AnswersRow layout cells instant seq (Ok row) =
    AreCellsOf layout row cells × IsRecordKey row.key × IsPartitionPath row.partition × (length row.body ≤ 65536) × (row.commit ≡ instant) × (row.seq ≡ seq)
AnswersRow layout cells instant seq (Err NoKey) = ¬ HasKey layout cells
AnswersRow layout cells instant seq (Err BadPartition) = HasKey layout cells × (¬ HasPartition layout cells)
AnswersRow layout cells instant seq (Err NoOrdering) = HasKey layout cells × HasPartition layout cells × (rank_in layout.ordering cells ≡ None)
AnswersRow layout cells instant seq (Err TooLarge) =
    HasKey layout cells × HasPartition layout cells × (rank_in layout.ordering cells ≢ None) × (65536 < length (body_of layout cells))
AnswersRow layout cells instant seq (Err error) = error ≡ Memory
