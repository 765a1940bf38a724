-- What is read as a base file has its form.
use Rattle.std.proofs.Common.{◌≡◌, ℕ, ◌-◌, ◌<◌, ◌≤◌, ◌^◌, Bool, true, false, List, [], ◌∷◌, ◌++◌, length, take, drop, map, Option, Some, None, Result, Ok, Err, refl, sym, ap, subst, ◌∙◌, arith}
use Rattle.std.specs.Prelude.{if◌then◌else◌, ◌||◌, ◌&&◌, nat_lt, nat_eq, not, pos, sum_by}
use Rattle.std.specs.Option.{option_and_then}
use Rattle.std.specs.Result.{result_ok}
use Rattle.std.specs.List.{AllZip, list_all, starts_with, ends_with}
use Rattle.std.specs.Ordering.{int_eq}
use Rattle.std.specs.Cmp.Lexicographic.{same_text}
use Rattle.std.proofs.lemmas.Bool.{ltb-false}
use Rattle.std.proofs.lemmas.List.{length-take, length-drop, drop-drop, take-append-drop}
use Rattle.byteorder.specs.Endian.{little_bytes, little_number}
use Rattle.byte_fields.specs.declared.field_error.FieldError.{FieldError}
use Rattle.byte_fields.proofs.NumberLemmas.{little4}
use Rattle.byte_fields.proofs.ReadingLemmas.{IsBytes, IsBytes-take, IsBytes-drop}
use Rattle.hudi_base.specs.declared.column.Column.{Column}
use Rattle.hudi_base.specs.declared.value.Value.{Value}
use Rattle.parquet_meta.specs.declared.file_meta.FileMeta.{FileMeta}
use Rattle.parquet_meta.specs.Footers.{footer_of, first_unsupported}
use Rattle.parquet_meta.proofs.GrammarLemmas.{footer_took}
use Rattle.parquet_pages.proofs.PageAgainLemmas.{both_true}
use Rattle.payload_merge.specs.Contents.{CellsReading}
use Rattle.payload_merge.specs.declared.row.Row.{Row}
use Rattle.base_cells.specs.declared.base_error.BaseError.{BaseError}
use Rattle.base_cells.specs.declared.base_error.BaseError.TheVariants.{BadBase}
use Rattle.base_cells.specs.declared.base_error.BaseCause.TheVariants as cause
use Rattle.base_cells.specs.Binding.{◌>>=◌}
use Rattle.base_cells.specs.Ends.{magic, footer_len, footer_start, footer_bytes_at, plain_or, meta_or, plain_meta_at}
use Rattle.base_cells.specs.Columns.{is_schema, is_group_of, rows_of, is_meta_of, meta_at}
use Rattle.base_cells.specs.Cells.{groups_at}
use Rattle.base_cells.specs.Written.{with_ends}
use Rattle.base_cells.proofs.PageLemmas.{same_Ok}
use Rattle.base_file.specs.BaseFiles.{rows_behind, rows_of_cells, keys_differ, row_key, rows_or, base_at}
use Rattle.base_laws.specs.BaseForm.{StandFor, IsBaseFile}
use Rattle.base_laws.proofs.CellsFound.{groups_found}
use Rattle.base_laws.proofs.EndsAgain.{tail_of, in_three}

-- ---- both ends

-- the last eight bytes are the length and the four bytes
tail_is : (xs : List ℕ) → IsBytes xs → length xs ≡ 8 → magic ≡ drop 4 xs → xs ≡ tail_of (little_number 4 xs)
tail_is xs fits long last =
    let four : length (take 4 xs) ≡ 4 = omega (arith, length-take 4 xs) in
    let number : little_number 4 xs ≡ little_number 4 (take 4 xs) =
    ap (little_number 4) (sym (take-append-drop 4 xs)) ∙ little4.reads_first (take 4 xs) (drop 4 xs) (omega arith) in
    let first : take 4 xs ≡ little_bytes 4 (little_number 4 xs) =
    sym (little4.writes_back (take 4 xs) four (IsBytes-take 4 xs fits)) ∙ ap (little_bytes 4) (sym number) in
    sym (take-append-drop 4 xs) ∙ ap (λ (ys : List ℕ). ys ++ drop 4 xs) first ∙ ap (λ (ys : List ℕ). little_bytes 4 (little_number 4 xs) ++ ys) (sym last)

-- a file of both ends around its pages and its footer
pub record HasEnds (bytes footer : List ℕ) : Type 0 where
  pub pages : List ℕ
  pub are : bytes ≡ with_ends pages footer
  pub short : length footer < 2 ^ 32

ends_are : (bytes : List ℕ) → IsBytes bytes → 12 ≤ length bytes → magic ≡ take 4 bytes → magic ≡ drop (length bytes - 4) bytes → footer_len bytes ≤ length bytes - 12 → HasEnds bytes (take (footer_len bytes) (drop (footer_start bytes) bytes))
ends_are bytes fits long first last few =
    let n = length bytes in
    let len = footer_len bytes in
    let start = footer_start bytes in
    let footer = take len (drop start bytes) in
    let pages = take (start - 4) (drop 4 bytes) in
    let tail = drop (n - 8) bytes in
    let tail_long : length tail ≡ 8 = omega (arith, length-drop (n - 8) bytes) in
    let tail_last : magic ≡ drop 4 tail = last ∙ sym (drop-drop 4 (n - 8) bytes ∙ ap (λ (k : ℕ). drop k bytes) (omega arith)) in
    let footer_long : length footer ≡ len = omega (arith, length-take len (drop start bytes), length-drop start bytes) in
    let behind_footer : drop len (drop start bytes) ≡ tail_of (length footer) =
    drop-drop len start bytes ∙ ap (λ (k : ℕ). drop k bytes) (omega arith) ∙ tail_is tail (IsBytes-drop (n - 8) bytes fits) tail_long tail_last ∙ ap tail_of (sym footer_long) in
    let behind_pages : drop (start - 4) (drop 4 bytes) ≡ footer ++ tail_of (length footer) =
    drop-drop (start - 4) 4 bytes ∙ ap (λ (k : ℕ). drop k bytes) (omega arith) ∙ sym (take-append-drop len (drop start bytes)) ∙ ap (λ (ys : List ℕ). footer ++ ys) behind_footer in
    record {
      pages = pages;
      are = sym (take-append-drop 4 bytes) ∙ ap (λ (ys : List ℕ). ys ++ drop 4 bytes) (sym first)
          ∙ ap (λ (ys : List ℕ). magic ++ ys) (sym (take-append-drop (start - 4) (drop 4 bytes)) ∙ ap (λ (ys : List ℕ). pages ++ ys) behind_pages)
          ∙ sym (in_three pages footer);
      short = omega (arith, footer_long, little4.number_fits tail (IsBytes-drop (n - 8) bytes fits));
    }

ends_found : (bytes footer : List ℕ) → IsBytes bytes → footer_bytes_at bytes ≡ Ok footer → HasEnds bytes footer
unfolding footer_bytes_at
ends_found bytes footer fits e = by_front (nat_lt (length bytes) 12) (starts_with nat_eq bytes magic) refl refl e
  where
    found : List ℕ
    found = take (footer_len bytes) (drop (footer_start bytes) bytes)

    by_footer : (c : Bool) → nat_lt (length bytes) 12 ≡ false → starts_with nat_eq bytes magic ≡ true → ends_with nat_eq bytes magic ≡ true → nat_lt (length bytes - 12) (footer_len bytes) ≡ c → (if c then Err (BadBase cause.Footer (length bytes - 8)) else Ok found) ≡ Ok footer → HasEnds bytes footer
    by_footer true long starts ends few f = absurd cc
    by_footer false long starts ends few f =
        subst (HasEnds bytes) (same_Ok found footer f)
        (ends_are bytes fits (ltb-false (length bytes) 12 long) (same_text magic (take 4 bytes) (sym starts)) (same_text magic (drop (length bytes - 4) bytes) (sym ends)) (ltb-false (length bytes - 12) (footer_len bytes) few))

    by_back : (b : Bool) → nat_lt (length bytes) 12 ≡ false → starts_with nat_eq bytes magic ≡ true → ends_with nat_eq bytes magic ≡ b
        → (if not b then Err (BadBase cause.Magic (length bytes - 4)) else if nat_lt (length bytes - 12) (footer_len bytes) then Err (BadBase cause.Footer (length bytes - 8)) else Ok found) ≡ Ok footer → HasEnds bytes footer
    by_back true long starts ends f = by_footer (nat_lt (length bytes - 12) (footer_len bytes)) long starts ends refl f
    by_back false long starts ends f = absurd cc

    by_front : (a b : Bool) → nat_lt (length bytes) 12 ≡ a → starts_with nat_eq bytes magic ≡ b
        → (if a || not b then Err (BadBase cause.Magic 0) else if not (ends_with nat_eq bytes magic) then Err (BadBase cause.Magic (length bytes - 4)) else if nat_lt (length bytes - 12) (footer_len bytes) then Err (BadBase cause.Footer (length bytes - 8)) else Ok found) ≡ Ok footer → HasEnds bytes footer
    by_front true b long starts f = absurd cc
    by_front false false long starts f = absurd cc
    by_front false true long starts f = by_back (ends_with nat_eq bytes magic) long starts refl f

-- ---- the footer

pub record HasMeta (columns : List Column) (bytes : List ℕ) (meta : FileMeta) : Type 0 where
  pub footer : List ℕ
  pub ends : HasEnds bytes footer
  pub is_footer : footer_of footer ≡ Ok meta
  pub supported : first_unsupported meta.schema ≡ None
  pub of_the_columns : is_meta_of columns meta ≡ true

plain_found : (bytes : List ℕ) (meta : FileMeta) → IsBytes bytes → plain_meta_at bytes ≡ Ok meta → (footer : List ℕ) × HasEnds bytes footer × (footer_of footer ≡ Ok meta) × (first_unsupported meta.schema ≡ None)
unfolding plain_meta_at
plain_found bytes meta fits e = by_bytes (footer_bytes_at bytes) refl e
  where
    start : ℕ
    start = footer_start bytes

    Found : Type 0
    Found = (footer : List ℕ) × HasEnds bytes footer × (footer_of footer ≡ Ok meta) × (first_unsupported meta.schema ≡ None)

    by_plain : (footer : List ℕ) (m : FileMeta) (o : Option ℕ) → HasEnds bytes footer → footer_of footer ≡ Ok m → first_unsupported m.schema ≡ o → plain_or start m o ≡ Ok meta → Found
    by_plain footer m None ends is none f =
        let same : m ≡ meta = same_Ok m meta f in
        (footer, ends, is ∙ ap (λ (x : FileMeta). Ok x) same, subst (λ (x : FileMeta). first_unsupported x.schema ≡ None) same none)
    by_plain footer m (Some i) ends is some f = absurd cc

    by_meta : (footer : List ℕ) (r : Result FileMeta FieldError) → HasEnds bytes footer → footer_of footer ≡ r → meta_or start (length footer) r ≡ Ok meta → Found
    by_meta footer (Ok m) ends is f = by_plain footer m (first_unsupported m.schema) ends is refl f
    by_meta footer (Err error) ends is f = absurd cc

    by_bytes : (r : Result (List ℕ) BaseError) → footer_bytes_at bytes ≡ r → (r >>= λ footer. meta_or start (length footer) (footer_of footer)) ≡ Ok meta → Found
    by_bytes (Ok footer) is f = by_meta footer (footer_of footer) (ends_found bytes footer fits is) refl f
    by_bytes (Err error) is f = absurd cc

meta_found : (columns : List Column) (bytes : List ℕ) (meta : FileMeta) → IsBytes bytes → meta_at columns bytes ≡ Ok meta → HasMeta columns bytes meta
unfolding meta_at
meta_found columns bytes meta fits e = by_meta (plain_meta_at bytes) refl e
  where
    by_test : (m : FileMeta) (b : Bool) → plain_meta_at bytes ≡ Ok m → is_meta_of columns m ≡ b → (if b then Ok m else Err (BadBase cause.Columns (footer_start bytes))) ≡ Ok meta → HasMeta columns bytes meta
    by_test m true is of f =
        let same : m ≡ meta = same_Ok m meta f in
        let found = plain_found bytes meta fits (is ∙ ap (λ (x : FileMeta). Ok x) same) in
        record {
          footer = found.0;
          ends = found.1;
          is_footer = found.2;
          supported = found.3;
          of_the_columns = subst (λ (x : FileMeta). is_meta_of columns x ≡ true) same of;
        }
    by_test m false is of f = absurd cc

    by_meta : (r : Result FileMeta BaseError) → plain_meta_at bytes ≡ r → (r >>= λ meta. if is_meta_of columns meta then Ok meta else Err (BadBase cause.Columns (footer_start bytes))) ≡ Ok meta → HasMeta columns bytes meta
    by_meta (Ok m) is f = by_test m (is_meta_of columns m) is refl f
    by_meta (Err error) is f = absurd cc

groups_of_columns : (columns : List Column) (meta : FileMeta) → is_meta_of columns meta ≡ true → list_all (is_group_of columns) meta.groups ≡ true
groups_of_columns columns meta is =
    (both_true (is_schema columns meta.schema) (list_all (is_group_of columns) meta.groups) ((both_true (is_schema columns meta.schema && list_all (is_group_of columns) meta.groups) (int_eq meta.num_rows (pos (sum_by rows_of meta.groups))) is).0)).1

-- ---- the rows

same_Some : {A : Type 0} (x y : A) → Some x ≡ Some y → x ≡ y
same_Some x y e = cc

rows_found : (reading : CellsReading) (partition : List ℕ) (table : List (List Value)) (rows : List Row) → rows_of_cells reading partition table ≡ Some rows → AllZip (StandFor reading partition) table rows
unfolding rows_of_cells
rows_found reading partition [] rows e = subst (AllZip (StandFor reading partition) []) (same_Some [] rows e) tt
rows_found reading partition (cells ∷ table) rows e = by_row (λ more f. rows_found reading partition table more f) (reading partition cells) refl e
  where
    IsAgain : Type 0
    IsAgain = (more : List Row) → rows_of_cells reading partition table ≡ Some more → AllZip (StandFor reading partition) table more

    by_more : IsAgain → (row : Row) → reading partition cells ≡ Ok row → (o : Option (List Row)) → rows_of_cells reading partition table ≡ o → rows_behind (row ∷ []) o ≡ Some rows → AllZip (StandFor reading partition) (cells ∷ table) rows
    by_more again row is (Some more) f g = subst (AllZip (StandFor reading partition) (cells ∷ table)) (same_Some (row ∷ more) rows g) (is, again more f)
    by_more again row is None f g = absurd cc

    by_row : IsAgain → (r : Result Row ℕ) → reading partition cells ≡ r → option_and_then (λ row. rows_behind (row ∷ []) (rows_of_cells reading partition table)) (result_ok r) ≡ Some rows → AllZip (StandFor reading partition) (cells ∷ table) rows
    by_row again (Ok row) is f = by_more again row is (rows_of_cells reading partition table) refl f
    by_row again (Err place) is f = absurd cc

-- ---- all of it

pub file_found : (columns : List Column) (reading : CellsReading) (partition bytes : List ℕ) (rows : List Row) → IsBytes bytes → base_at columns reading partition bytes ≡ Ok rows → IsBaseFile columns reading partition bytes rows
unfolding base_at
file_found columns reading partition bytes rows fits e = by_meta (meta_at columns bytes) refl e
  where
    start : ℕ
    start = footer_start bytes

    Found : Type 0
    Found = IsBaseFile columns reading partition bytes rows

    by_keys : (meta : FileMeta) (table : List (List Value)) (found : List Row) (b : Bool) → HasMeta columns bytes meta → groups_at columns bytes meta.groups ≡ Ok table → rows_of_cells reading partition table ≡ Some found → keys_differ [] (map row_key found) ≡ b
        → (if b then Ok found else Err (BadBase cause.Row start)) ≡ Ok rows → Found
    by_keys meta table found true has cells are differ f =
        let same : found ≡ rows = same_Ok found rows f in
        record {
          pages = has.ends.pages;
          footer = has.footer;
          ends = has.ends.are;
          short = has.ends.short;
          meta = meta;
          is_footer = footer_took meta has.footer has.is_footer;
          supported = has.supported;
          of_the_columns = has.of_the_columns;
          cells = table;
          groups = groups_found columns bytes meta.groups table fits (groups_of_columns columns meta has.of_the_columns) cells;
          stand = rows_found reading partition table rows (are ∙ ap (λ (x : List Row). Some x) same);
          differ = subst (λ (x : List Row). keys_differ [] (map row_key x) ≡ true) same differ;
        }
    by_keys meta table found false has cells are differ f = absurd cc

    by_rows : (meta : FileMeta) (table : List (List Value)) (o : Option (List Row)) → HasMeta columns bytes meta → groups_at columns bytes meta.groups ≡ Ok table → rows_of_cells reading partition table ≡ o → rows_or start o ≡ Ok rows → Found
    by_rows meta table (Some found) has cells are f = by_keys meta table found (keys_differ [] (map row_key found)) has cells are refl f
    by_rows meta table None has cells are f = absurd cc

    by_groups : (meta : FileMeta) (r : Result (List (List Value)) BaseError) → HasMeta columns bytes meta → groups_at columns bytes meta.groups ≡ r → (r >>= λ cells. rows_or start (rows_of_cells reading partition cells)) ≡ Ok rows → Found
    by_groups meta (Ok table) has is f = by_rows meta table (rows_of_cells reading partition table) has is refl f
    by_groups meta (Err error) has is f = absurd cc

    by_meta : (r : Result FileMeta BaseError) → meta_at columns bytes ≡ r → (r >>= λ meta. groups_at columns bytes meta.groups >>= λ cells. rows_or start (rows_of_cells reading partition cells)) ≡ Ok rows → Found
    by_meta (Ok meta) is f = by_groups meta (groups_at columns bytes meta.groups) (meta_found columns bytes meta fits is) refl f
    by_meta (Err error) is f = absurd cc
