-- A written file is read back.
use Rattle.std.proofs.Common.{◌≡◌, ℕ, Bool, true, List, [], ◌∷◌, ◌++◌, length, drop, map, Some, None, Result, Ok, Err, refl, sym, ap, ◌∙◌, arith}
use Rattle.std.specs.Prelude.{if◌then◌else◌}
use Rattle.std.specs.Option.{option_and_then}
use Rattle.std.specs.Result.{result_ok}
use Rattle.std.specs.List.{AllZip, AllByRecursion}
use Rattle.hudi_base.specs.declared.column.Column.{Column}
use Rattle.hudi_base.specs.declared.value.Value.{Value}
use Rattle.column_cells.specs.Cells.{AreCellsOf}
use Rattle.parquet_meta.specs.declared.file_meta.FileMeta.{FileMeta}
use Rattle.parquet_meta.specs.Footers.{footer_of, first_unsupported}
use Rattle.parquet_meta.specs.Written.{file_meta_bytes}
use Rattle.parquet_meta.specs.ReadBack.{meta_read, element_read}
use Rattle.parquet_meta.proofs.FooterLemmas.{footer_again}
use Rattle.parquet_meta.proofs.FitLemmas.{file_meta_fits}
use Rattle.payload_merge.specs.declared.row.Row.{Row}
use Rattle.base_cells.specs.declared.base_error.BaseError.{BaseError}
use Rattle.base_cells.specs.declared.base_error.BaseError.TheVariants.{BadBase}
use Rattle.base_cells.specs.declared.base_error.BaseCause.TheVariants as cause
use Rattle.base_cells.specs.Binding.{◌>>=◌}
use Rattle.base_cells.specs.Ends.{magic, footer_start, plain_or, meta_or, plain_meta_at}
use Rattle.base_cells.specs.Columns.{is_meta_of, meta_at}
use Rattle.base_cells.specs.Cells.{groups_at}
use Rattle.base_cells.specs.Written.{root_of, groups_in, groups_pages, meta_of, with_ends, file_bytes}
use Rattle.base_file.specs.BaseFiles.{rows_behind, rows_of_cells, keys_differ, row_key, rows_or, base_at}
use Rattle.base_file.specs.WrittenRows.{Meaning, StandsFor, IsFileOf}
use Rattle.base_writer.specs.Fitting.{HasForm}
use Rattle.base_laws.specs.Written.{IsTypedTable}
use Rattle.base_laws.proofs.GroupsAgain.{IsGroup, all_of, groups_again, grouped_again, grouped_are}
use Rattle.base_laws.proofs.FooterAgain.{all_plain, meta_again}
use Rattle.base_laws.proofs.EndsAgain.{tail_of, in_three, drop_front, footer_found}

-- ---- rows of cells

rows_again : (m : Meaning) (partition : List ℕ) (table : List (List Value)) (rows : List Row) → AllZip (StandsFor m) table rows → AllByRecursion (λ row. row.partition ≡ partition) rows → rows_of_cells m.reading partition table ≡ Some rows
unfolding rows_of_cells
rows_again m partition [] [] all lie = refl
rows_again m partition [] (row ∷ rows) all lie = absurd all
rows_again m partition (cells ∷ table) [] all lie = absurd all
rows_again m partition (cells ∷ table) (row ∷ rows) all lie =
    ap (λ (r : Result Row ℕ). option_and_then (λ row. rows_behind (row ∷ []) (rows_of_cells m.reading partition table)) (result_ok r)) (ap (λ (p : List ℕ). m.reading p cells) (sym lie.0) ∙ all.0.reads_back)
    ∙ ap (rows_behind (row ∷ [])) (rows_again m partition table rows all.1 lie.1)

each_of : (m : Meaning) (table : List (List Value)) (rows : List Row) → AllZip (StandsFor m) table rows → AllByRecursion (AreCellsOf m.columns) table
each_of m [] [] all = tt
each_of m [] (row ∷ rows) all = absurd all
each_of m (cells ∷ table) [] all = absurd all
each_of m (cells ∷ table) (row ∷ rows) all = (all.0.of_the_columns, each_of m table rows all.1)

-- ---- the footer

plain_again : (columns : List Column) (table : List (List Value)) → IsTypedTable columns table → first_unsupported (meta_read (meta_of columns table)).schema ≡ None
unfolding meta_of
plain_again columns table is = all_plain columns (element_read (root_of (length columns))) is.known

plain_meta_again : (columns : List Column) (table : List (List Value)) → HasForm (meta_of columns table) → IsTypedTable columns table → plain_meta_at (file_bytes columns table) ≡ Ok (meta_read (meta_of columns table))
unfolding plain_meta_at file_bytes
plain_meta_again columns table form is =
    ap (λ (r : Result (List ℕ) BaseError). r >>= λ footer. meta_or start (length footer) (footer_of footer)) (footer_found (groups_pages columns (groups_in table)) footer form.short)
    ∙ ap (meta_or start (length footer)) (footer_again (meta_of columns table) (file_meta_fits (meta_of columns table) form.fits is.footer))
    ∙ ap (plain_or start (meta_read (meta_of columns table))) (plain_again columns table is)
  where
    footer : List ℕ
    footer = file_meta_bytes (meta_of columns table)

    start : ℕ
    start = footer_start (with_ends (groups_pages columns (groups_in table)) footer)

meta_at_again : (columns : List Column) (table : List (List Value)) → HasForm (meta_of columns table) → IsTypedTable columns table → AllByRecursion (IsGroup columns) (groups_in table) → all_of (groups_in table) ≡ table → meta_at columns (file_bytes columns table) ≡ Ok (meta_read (meta_of columns table))
unfolding meta_at
meta_at_again columns table form is are all =
    ap (λ (r : Result FileMeta BaseError). r >>= λ meta. if is_meta_of columns meta then Ok meta else Err (BadBase cause.Columns (footer_start (file_bytes columns table)))) (plain_meta_again columns table form is)
    ∙ ap (λ (b : Bool). if b then Ok (meta_read (meta_of columns table)) else Err (BadBase cause.Columns (footer_start (file_bytes columns table)))) (meta_again columns table are all)

-- ---- the row groups

groups_found : (columns : List Column) (table : List (List Value)) → AllByRecursion (IsGroup columns) (groups_in table) → all_of (groups_in table) ≡ table → groups_at columns (file_bytes columns table) (meta_read (meta_of columns table)).groups ≡ Ok table
unfolding file_bytes meta_of
groups_found columns table are all =
    let pages = groups_pages columns (groups_in table) in
    let footer = file_meta_bytes (meta_of columns table) in
    let rest = footer ++ tail_of (length footer) in
    groups_again 4 columns (groups_in table) (with_ends pages footer) rest are (ap (drop 4) (in_three pages footer) ∙ drop_front 4 magic (pages ++ rest) refl)
    ∙ ap (λ (xs : List (List Value)). Ok xs) all

-- ---- all of it

pub written_again : (m : Meaning) (rows : List Row) (partition bytes : List ℕ) → (written : IsFileOf m rows bytes) → IsTypedTable m.columns written.table → AllByRecursion (λ row. row.partition ≡ partition) rows → keys_differ [] (map row_key rows) ≡ true → base_at m.columns m.reading partition bytes ≡ Ok rows
unfolding base_at
written_again m rows partition bytes written is lie differ =
    ap (base_at m.columns m.reading partition) written.written
    ∙ ap (λ (r : Result FileMeta BaseError). r >>= λ meta. after (groups_at m.columns file meta.groups)) (meta_at_again m.columns table written.form is are all)
    ∙ ap after (groups_found m.columns table are all)
    ∙ ap (rows_or (footer_start file)) (rows_again m partition table rows written.stand lie)
    ∙ ap (λ (b : Bool). if b then Ok rows else Err (BadBase cause.Row (footer_start file))) differ
  where
    table : List (List Value)
    table = written.table

    file : List ℕ
    file = file_bytes m.columns table

    after : Result (List (List Value)) BaseError → Result (List Row) BaseError
    after r = r >>= λ cells. rows_or (footer_start file) (rows_of_cells m.reading partition cells)

    are : AllByRecursion (IsGroup m.columns) (groups_in table)
    are = grouped_are m.columns (length table) table (each_of m table rows written.stand) is.cells

    all : all_of (groups_in table) ≡ table
    all = grouped_again (length table) table (omega arith)
