-- Which rows and writes stand in the contents of log blocks and in base files. What the bytes of a row are is a
-- codec's matter, so that a definition below any codec is handed a reading: a function from bytes to what they hold.
-- A codec's meanings fill it.
use Rattle.std.specs.Prelude.{◌≡◌, ℕ, List, [], ◌∷◌, ◌++◌, Option, Some, None, Result, Ok, Err, All, map}
use Rattle.std.specs.Option.{option_and_then, option_map}
use Rattle.std.specs.FinMap.{empty}
use Rattle.hudi_base.specs.declared.value.Value.{Value}
use Rattle.payload_merge.specs.declared.row.Row.{Row}
use Rattle.payload_merge.specs.declared.row.Write.{Write}
use Rattle.payload_merge.specs.declared.row.Write.TheVariants.{Put}
use Rattle.payload_merge.specs.Fold.{RowTable, table_after_all}

-- where a data content stands: the instant of its block, and the partition and the file id of its file group
pub record DataPlace : Type 0 where
  pub instant : ℕ
  pub partition : List ℕ
  pub file_id : List ℕ

-- the rows of a data content at its place, in batch order, or the offset at which it has no reading
abbrev pub DataReading : Type 0
DataReading = DataPlace → List ℕ → Result (List Row) ℕ

-- the deletes of a delete content in a partition, in batch order, or the offset at which it has no reading
abbrev pub DeleteReading : Type 0
DeleteReading = List ℕ → List ℕ → Result (List Write) ℕ

-- the rows of a base file of a partition, or none where the bytes are no base file
abbrev pub BaseReading : Type 0
BaseReading = List ℕ → List ℕ → Option (List Row)

-- the row of a partition for which the cells of a base file stand, or the place of the first bad cell, from 0
abbrev pub CellsReading : Type 0
CellsReading = List ℕ → List Value → Result Row ℕ

-- the rows carry the instant and lie in the partition
abbrev pub AreRowsOf : ℕ → List ℕ → List Row → Type 0
AreRowsOf instant partition rows = All (λ row. (row.commit ≡ instant) × (row.partition ≡ partition)) rows

-- the puts of rows that were read
abbrev pub puts_of : Result (List Row) ℕ → Result (List Write) ℕ
puts_of (Ok rows) = Ok (map Put rows)
puts_of (Err offset) = Err offset

-- the writes of a data content
abbrev pub data_writes : DataReading → DataPlace → List ℕ → Result (List Write) ℕ
data_writes reading place content = puts_of (reading place content)

-- how both kinds of content are read
pub record ContentReading : Type 0 where
  pub rows : DataReading
  pub deletes : DeleteReading

-- the content of a block that writes rows: of a data block or of a delete block
pub data Content : Type 0 where
  DataContent : List ℕ → Content
  DeleteContent : List ℕ → Content

-- a content and its place
pub record PlacedContent : Type 0 where
  pub place : DataPlace
  pub content : Content

-- the writes of a whole content, in batch order, or the offset at which it has no reading
abbrev pub content_writes : ContentReading → DataPlace → Content → Result (List Write) ℕ
content_writes reading place (DataContent bytes) = data_writes reading.rows place bytes
content_writes reading place (DeleteContent bytes) = reading.deletes place.partition bytes

-- the writes, or none where there is no reading
abbrev pub writes_if_read : Result (List Write) ℕ → Option (List Write)
writes_if_read (Ok writes) = Some writes
writes_if_read (Err offset) = None

-- the writes of contents one after another, or none where one of them has no reading
abbrev pub contents_writes : ContentReading → List PlacedContent → Option (List Write)
contents_writes reading [] = Some []
contents_writes reading (first ∷ rest) =
    option_and_then (λ writes. option_map (λ later. writes ++ later) (contents_writes reading rest)) (writes_if_read (content_writes reading first.place first.content))

-- the table that the rows of a base file make, or none where the bytes are no base file
abbrev pub table_of_base : BaseReading → List ℕ → List ℕ → Option RowTable
table_of_base reading partition bytes = option_map (λ rows. table_after_all empty (map Put rows)) (reading partition bytes)

-- the table that the writes of contents make of one, or none where one of them has no reading
abbrev pub table_of_contents : ContentReading → RowTable → List PlacedContent → Option RowTable
table_of_contents reading table contents = option_map (table_after_all table) (contents_writes reading contents)

-- each of these data contents reads as the rows that stand beside it
abbrev pub ReadAs : DataReading → List (DataPlace × List ℕ) → List (List Row) → Type 0
ReadAs reading [] [] = Unit {0}
ReadAs reading [] (rows ∷ more) = ⊥
ReadAs reading (first ∷ rest) [] = ⊥
ReadAs reading (first ∷ rest) (rows ∷ more) = (reading first.0 first.1 ≡ Ok rows) × ReadAs reading rest more

-- a data content at its place
abbrev pub data_content : DataPlace × List ℕ → PlacedContent
data_content placed = record { place = placed.0; content = DataContent placed.1 }
