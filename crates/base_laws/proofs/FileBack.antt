-- A base file by its form is read.
use Rattle.std.proofs.Common.{◌≡◌, ℕ, Bool, List, [], ◌∷◌, length, Option, Some, Result, Ok, Err, refl, ap, ◌∙◌}
use Rattle.std.specs.Prelude.{if◌then◌else◌}
use Rattle.std.specs.Option.{option_and_then}
use Rattle.std.specs.Result.{result_ok}
use Rattle.std.specs.List.{AllZip}
use Rattle.byte_fields.specs.declared.field_error.FieldError.{FieldError}
use Rattle.hudi_base.specs.declared.column.Column.{Column}
use Rattle.hudi_base.specs.declared.value.Value.{Value}
use Rattle.parquet_meta.specs.declared.file_meta.FileMeta.{FileMeta}
use Rattle.parquet_meta.specs.Footers.{footer_of}
use Rattle.parquet_meta.proofs.GrammarLemmas.{footer_back}
use Rattle.payload_merge.specs.Contents.{CellsReading}
use Rattle.payload_merge.specs.declared.row.Row.{Row}
use Rattle.base_cells.specs.declared.base_error.BaseError.{BaseError}
use Rattle.base_cells.specs.declared.base_error.BaseError.TheVariants.{BadBase}
use Rattle.base_cells.specs.declared.base_error.BaseCause.TheVariants as cause
use Rattle.base_cells.specs.Binding.{◌>>=◌}
use Rattle.base_cells.specs.Ends.{footer_start, footer_bytes_at, plain_or, meta_or, plain_meta_at}
use Rattle.base_cells.specs.Columns.{is_meta_of, meta_at}
use Rattle.base_cells.specs.Cells.{groups_at}
use Rattle.base_file.specs.BaseFiles.{rows_behind, rows_of_cells, rows_or, base_at}
use Rattle.base_laws.specs.BaseForm.{StandFor, IsBaseFile}
use Rattle.base_laws.proofs.CellsBack.{groups_back}
use Rattle.base_laws.proofs.EndsAgain.{footer_found}

rows_back : (reading : CellsReading) (partition : List ℕ) (table : List (List Value)) (rows : List Row) → AllZip (StandFor reading partition) table rows → rows_of_cells reading partition table ≡ Some rows
unfolding rows_of_cells
rows_back reading partition [] [] all = refl
rows_back reading partition [] (row ∷ rows) all = absurd all
rows_back reading partition (cells ∷ table) [] all = absurd all
rows_back reading partition (cells ∷ table) (row ∷ rows) all =
    ap (λ (r : Result Row ℕ). option_and_then (λ row. rows_behind (row ∷ []) (rows_of_cells reading partition table)) (result_ok r)) all.0
    ∙ ap (rows_behind (row ∷ [])) (rows_back reading partition table rows all.1)

footer_is : (columns : List Column) (reading : CellsReading) (partition bytes : List ℕ) (rows : List Row) → (is : IsBaseFile columns reading partition bytes rows) → footer_bytes_at bytes ≡ Ok is.footer
footer_is columns reading partition bytes rows is = ap footer_bytes_at is.ends ∙ footer_found is.pages is.footer is.short

meta_back : (columns : List Column) (reading : CellsReading) (partition bytes : List ℕ) (rows : List Row) → (is : IsBaseFile columns reading partition bytes rows) → meta_at columns bytes ≡ Ok is.meta
unfolding meta_at plain_meta_at
meta_back columns reading partition bytes rows is =
    ap (λ (r : Result (List ℕ) BaseError). after (r >>= λ footer. meta_or start (length footer) (footer_of footer))) (footer_is columns reading partition bytes rows is)
    ∙ ap (λ (r : Result FileMeta FieldError). after (meta_or start (length is.footer) r)) (footer_back is.meta is.footer is.is_footer)
    ∙ ap (λ (o : Option ℕ). after (plain_or start is.meta o)) is.supported
    ∙ ap (λ (b : Bool). if b then Ok is.meta else Err (BadBase cause.Columns start)) is.of_the_columns
  where
    start : ℕ
    start = footer_start bytes

    after : Result FileMeta BaseError → Result FileMeta BaseError
    after r = r >>= λ meta. if is_meta_of columns meta then Ok meta else Err (BadBase cause.Columns start)

pub file_back : (columns : List Column) (reading : CellsReading) (partition bytes : List ℕ) (rows : List Row) → IsBaseFile columns reading partition bytes rows → base_at columns reading partition bytes ≡ Ok rows
unfolding base_at
file_back columns reading partition bytes rows is =
    ap (λ (r : Result FileMeta BaseError). r >>= λ meta. after (groups_at columns bytes meta.groups)) (meta_back columns reading partition bytes rows is)
    ∙ ap after (groups_back columns bytes is.meta.groups is.cells is.groups)
    ∙ ap (rows_or start) (rows_back reading partition is.cells rows is.stand)
    ∙ ap (λ (b : Bool). if b then Ok rows else Err (BadBase cause.Row start)) is.differ
  where
    start : ℕ
    start = footer_start bytes

    after : Result (List (List Value)) BaseError → Result (List Row) BaseError
    after r = r >>= λ cells. rows_or start (rows_of_cells reading partition cells)
