-- What is kept of the cells of a page while they come one after another. This project's own.
use Rattle.std.specs.Prelude.{ℕ, Bool, if◌then◌else◌, List, [], ◌∷◌, ◌++◌, length, map}
use Rattle.std.specs.List.{flat_map}
use Rattle.column_cells.specs.Cells.{is_number}
use Rattle.hudi_base.specs.declared.column.Column.{Column}
use Rattle.hudi_base.specs.declared.value.Value.{Value}
use Rattle.parquet_meta.specs.Written.{page_header_bytes}
use Rattle.parquet_pages.specs.Levels.{levels_bytes}
use Rattle.parquet_pages.specs.Plain.{value_bytes, truths_of, bit_bytes, bytes_for}
use Rattle.parquet_pages.specs.Pages.{has_value, header_of}

-- the levels of an optional column, the booleans, and the bytes of the other values
pub record Parts : Type 0 where
  pub levels : List Bool
  pub truths : List Bool
  pub values : List ℕ

abbrev pub parts_of : Column → List Value → Parts
parts_of column cells = record {
  levels = if column.optional then map has_value cells else [];
  truths = truths_of cells;
  values = flat_map value_bytes cells;
}

-- with one cell more
abbrev pub part_with : Column → Value → Parts → Parts
part_with column cell parts = record {
  levels = if column.optional then parts.levels ++ has_value cell ∷ [] else parts.levels;
  truths = parts.truths ++ truths_of (cell ∷ []);
  values = parts.values ++ value_bytes cell;
}

-- the values of a page with these parts, its body, and the page of so many cells
abbrev pub parts_values : Column → Parts → List ℕ
parts_values column parts =
    if is_number 0 column.physical then bit_bytes (bytes_for (length parts.truths)) parts.truths else parts.values

abbrev pub parts_body : Column → Parts → List ℕ
parts_body column parts =
    (if column.optional then levels_bytes parts.levels else []) ++ parts_values column parts

abbrev pub parts_page : Column → ℕ → Parts → List ℕ
parts_page column count parts =
    page_header_bytes (header_of (length (parts_body column parts)) count) ++ parts_body column parts
