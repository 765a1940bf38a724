-- What has to be said of a table in a law on its written file.
use Rattle.std.specs.Prelude.{List, IsTrue}
use Rattle.std.specs.List.{AllByRecursion}
use Rattle.hudi_base.specs.declared.column.Column.{Column}
use Rattle.hudi_base.specs.declared.value.Value.{Value}
use Rattle.column_cells.specs.Cells.{has_known_type}
use Rattle.parquet_meta.specs.ReadBack.{IsTypedFileMeta}
use Rattle.parquet_pages.specs.Pages.{IsTyped}
use Rattle.base_cells.specs.Written.{meta_of}

-- What the types of the code say, and a ghost table lacks: columns of known types, as a codec's are, numbers of their types
-- and texts in UTF-8.
pub record IsTypedTable (columns : List Column) (table : List (List Value)) : Type 0 where
  pub known : AllByRecursion (λ column. IsTrue (has_known_type column)) columns
  pub cells : AllByRecursion (AllByRecursion IsTyped) table
  pub footer : IsTypedFileMeta (meta_of columns table)
