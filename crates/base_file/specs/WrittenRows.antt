-- Which bytes are written of rows: the written file of cells that stand for them. This project's own.
use Rattle.std.specs.Prelude.{◌≡◌, ◌<◌, ◌*◌, ℕ, List, [], ◌∷◌, ◌++◌, length, slice_get, Some, Ok}
use Rattle.std.specs.List.{AllZip}
use Rattle.hudi_base.specs.declared.column.Column.{Column}
use Rattle.hudi_base.specs.declared.value.Value.{Value}
use Rattle.hudi_base.specs.declared.value.Value.TheVariants.{Text}
use Rattle.column_cells.specs.Cells.{AreCellsOf}
use Rattle.parquet_meta.specs.declared.row_group.RowGroup.{RowGroup}
use Rattle.payload_merge.specs.declared.row.Row.{Row}
use Rattle.payload_merge.specs.Contents.{CellsReading}
use Rattle.base_cells.specs.Ends.{magic}
use Rattle.base_cells.specs.Written.{group_len, group_pages, groups_pages, group_of, groups_of, groups_in, meta_of, file_bytes}
use Rattle.parquet_pages.specs.Parts.{Parts}
use Rattle.base_writer.specs.Fitting.{HasForm}
use Rattle.base_writer.specs.GroupParts.{group_parts}

-- what cells mean to a codec, and which column has the file id, in a file of this id
pub record Meaning : Type 0 where
  pub columns : List Column
  pub reading : CellsReading
  pub place : ℕ
  pub file : List ℕ

abbrev pub meaning : List Column → CellsReading → ℕ → List ℕ → Meaning
meaning columns reading place file = record { columns = columns; reading = reading; place = place; file = file }

-- cells of the columns that stand for the row and name the file
pub record StandsFor (m : Meaning) (cells : List Value) (row : Row) : Type 0 where
  pub of_the_columns : AreCellsOf m.columns cells
  pub reads_back : m.reading row.partition cells ≡ Ok row
  pub names_the_file : slice_get cells m.place ≡ Some (Text m.file)

-- the written file of rows of cells that stand for these rows, whose footer has a written form
pub record IsFileOf (m : Meaning) (rows : List Row) (bytes : List ℕ) : Type 0 where
  pub table : List (List Value)
  pub stand : AllZip (StandsFor m) table rows
  pub written : bytes ≡ file_bytes m.columns table
  pub form : HasForm (meta_of m.columns table)

-- ---- for private clauses

-- cells that stand for these rows were added to a row group
pub record AreAdded (m : Meaning) (rows : List Row) (parts : List Parts) : Type 0 where
  pub table : List (List Value)
  pub stand : AllZip (StandsFor m) table rows
  pub are : parts ≡ group_parts m.columns table

-- a row group of these rows was added
pub record IsPut (m : Meaning) (rows : List Row) (old new : List ℕ) (groups more : List RowGroup) : Type 0 where
  pub table : List (List Value)
  pub stand : AllZip (StandsFor m) table rows
  pub pages : new ≡ old ++ group_pages m.columns table
  pub group : more ≡ groups ++ group_of (length old) m.columns table ∷ []

-- the beginning and the pages of these rows, with what the footer will say
pub record IsBegun (m : Meaning) (rows : List Row) (bytes : List ℕ) (groups : List RowGroup) : Type 0 where
  pub table : List (List Value)
  pub stand : AllZip (StandsFor m) table rows
  pub pages : bytes ≡ magic ++ groups_pages m.columns (groups_in table)
  pub groups_are : groups ≡ groups_of 4 m.columns (groups_in table)

-- rows that fill row groups
abbrev pub AreFull : List Row → Type 0
AreFull rows = (k : ℕ) × (length rows ≡ k * group_len)
