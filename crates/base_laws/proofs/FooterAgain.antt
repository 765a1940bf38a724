-- A written footer tells of a file of its columns.
use Rattle.std.proofs.Common.{◌≡◌, ℕ, ℤ, pos, zero, suc, ◌+◌, ◌<◌, Bool, true, false, cond, List, [], ◌∷◌, length, map, get_or, Some, None, refl, sym, ap, ◌∙◌, arith, sum_by}
use Rattle.std.specs.Prelude.{◌&&◌, not, if◌then◌else◌, IsTrue, nat_lt}
use Rattle.std.specs.Option.{option_map}
use Rattle.std.specs.List.{AllByRecursion, list_all, position_or_len}
use Rattle.std.specs.Ordering.{int_eq}
use Rattle.std.specs.Str.{bytes_eq}
use Rattle.std.proofs.lemmas.Bool.{le-ltb}
use Rattle.std.proofs.lemmas.Bool.Decides.{Decides-int_eq}
use Rattle.std.proofs.lemmas.Slice.Eq.{bytes_eq-Decides}
use Rattle.std.proofs.lemmas.List.{length-append}
use Rattle.std.proofs.lemmas.List.Sums.{sum_by-cons, position_or_len_is}
use Rattle.hudi_base.specs.declared.column.Column.{Column}
use Rattle.hudi_base.specs.declared.value.Value.{Value}
use Rattle.column_cells.specs.Cells.{is_number, has_known_type}
use Rattle.parquet_meta.specs.declared.element.Element.{Element}
use Rattle.parquet_meta.specs.Footers.{is_plain, first_unsupported}
use Rattle.parquet_meta.specs.ReadBack.{element_read, meta_read}
use Rattle.base_cells.specs.Columns.{repetition_of, is_leaf_of, are_leaves, is_schema, is_chunk_of, are_chunks, is_group_of, rows_of, is_meta_of}
use Rattle.base_cells.specs.Turned.{turned}
use Rattle.base_cells.specs.Written.{chunk_of, chunks_of, group_of, groups_of, groups_in, leaf_of, root_of, meta_of, group_pages}
use Rattle.parquet_pages.specs.Pages.{page_bytes}
use Rattle.base_laws.proofs.GroupsAgain.{IsGroup, IsList, all_of, columns_long, lists_of}

same_int : (x : ℤ) → int_eq x x ≡ true
same_int x = (Decides-int_eq x x).1 refl

same_bytes : (x : List ℕ) → bytes_eq x x ≡ true
same_bytes x = (bytes_eq-Decides x x).1 refl

both : (a b : Bool) → a ≡ true → b ≡ true → (a && b) ≡ true
both a b p q = ap (λ (x : Bool). x && b) p ∙ q

all_three : (a b c : Bool) → a ≡ true → b ≡ true → c ≡ true → (a && b && c) ≡ true
all_three a b c p q r = ap (λ (x : Bool). x && b && c) p ∙ ap (λ (x : Bool). true && x && c) q ∙ r

-- ---- the schema

abbrev pub leaves_read : List Column → List Element
leaves_read columns = map element_read (map leaf_of columns)

leaf_again : (column : Column) → is_leaf_of column (element_read (leaf_of column)) ≡ true
leaf_again column = all_three (int_eq column.physical column.physical) (int_eq (repetition_of column) (repetition_of column)) (bytes_eq column.name column.name) (same_int column.physical) (same_int (repetition_of column)) (same_bytes column.name)

leaves_again : (columns : List Column) → are_leaves columns (leaves_read columns) ≡ true
leaves_again [] = refl
leaves_again (column ∷ columns) = both (is_leaf_of column (element_read (leaf_of column))) (are_leaves columns (leaves_read columns)) (leaf_again column) (leaves_again columns)

schema_again : (columns : List Column) → is_schema columns (element_read (root_of (length columns)) ∷ leaves_read columns) ≡ true
schema_again columns = both (int_eq (pos (length columns)) (pos (length columns))) (are_leaves columns (leaves_read columns)) (same_int (pos (length columns))) (leaves_again columns)

-- ---- the columns are plain

not_repeated : (optional : Bool) → not (is_number 2 (if optional then pos 1 else pos 0)) ≡ true
not_repeated true = refl
not_repeated false = refl

leaf_plain : (column : Column) → has_known_type column ≡ true → is_plain (element_read (leaf_of column)) ≡ true
leaf_plain column known = all_three true (not (is_number 2 (repetition_of column))) (has_known_type column) refl (not_repeated column.optional) known

each_plain : (columns : List Column) (root : Element) (i : ℕ) → AllByRecursion (λ column. IsTrue (has_known_type column)) columns → i < length (leaves_read columns) → not (is_plain (get_or (leaves_read columns) i root)) ≡ false
each_plain [] root i known lt = absurd (omega arith)
each_plain (column ∷ columns) root zero known lt = ap not (leaf_plain column known.0)
each_plain (column ∷ columns) root (suc i) known lt = each_plain columns root i known.1 (omega arith)

none_strange : (columns : List Column) (root : Element) → AllByRecursion (λ column. IsTrue (has_known_type column)) columns → position_or_len (λ element. not (is_plain element)) (leaves_read columns) ≡ length (leaves_read columns)
none_strange columns root known =
    position_or_len_is (λ (element : Element). not (is_plain element)) (leaves_read columns) (length (leaves_read columns)) root (omega arith) (λ k lt. each_plain columns root k known lt) (λ lt. absurd (omega arith))

pub all_plain : (columns : List Column) (root : Element) → AllByRecursion (λ column. IsTrue (has_known_type column)) columns → first_unsupported (root ∷ leaves_read columns) ≡ None
all_plain columns root known =
    let n = length (leaves_read columns) in
    ap (λ (k : ℕ). option_map (λ (i : ℕ). i + 1) (cond (nat_lt k n) (Some k) None)) (none_strange columns root known)
    ∙ ap (λ (b : Bool). option_map (λ (i : ℕ). i + 1) (cond b (Some n) None)) (le-ltb n n (omega arith))

-- ---- the row groups

chunk_again : (n at : ℕ) (column : Column) (cells : List Value) → length cells ≡ n → is_chunk_of (pos n) column (chunk_of at column cells) ≡ true
chunk_again n at column cells count =
    all_three (int_eq column.physical column.physical) (bytes_eq column.name column.name) (int_eq (pos (length cells)) (pos n)) (same_int column.physical) (same_bytes column.name) (ap (λ (k : ℕ). int_eq (pos k) (pos n)) count ∙ same_int (pos n))

chunks_told : (n at : ℕ) (columns : List Column) (lists : List (List Value)) → length columns ≡ length lists → AllByRecursion (IsList n) lists → are_chunks (pos n) columns (chunks_of at columns lists) ≡ true
chunks_told n at [] [] long are = refl
chunks_told n at [] (cells ∷ lists) long are = absurd (omega arith)
chunks_told n at (column ∷ columns) [] long are = absurd (omega arith)
chunks_told n at (column ∷ columns) (cells ∷ lists) long are =
    let size = length (page_bytes column cells) in
    both (is_chunk_of (pos n) column (chunk_of at column cells)) (are_chunks (pos n) columns (chunks_of (at + size) columns lists)) (chunk_again n at column cells are.0.0) (chunks_told n (at + size) columns lists (omega arith) are.1)

groups_told : (at : ℕ) (columns : List Column) (groups : List (List (List Value))) → AllByRecursion (IsGroup columns) groups → list_all (is_group_of columns) (groups_of at columns groups) ≡ true
groups_told at columns [] are = refl
groups_told at columns (rows ∷ groups) are =
    let typed = are.0.typed in
    both (is_group_of columns (group_of at columns rows)) (list_all (is_group_of columns) (groups_of (at + length (group_pages columns rows)) columns groups)) (chunks_told (length rows) at columns (turned (length columns) rows) (columns_long columns rows) (lists_of columns rows typed)) (groups_told (at + length (group_pages columns rows)) columns groups are.1)

rows_told : (at : ℕ) (columns : List Column) (groups : List (List (List Value))) → sum_by rows_of (groups_of at columns groups) ≡ length (all_of groups)
rows_told at columns [] = refl
rows_told at columns (rows ∷ groups) =
    let next = at + length (group_pages columns rows) in
    sum_by-cons rows_of (group_of at columns rows) (groups_of next columns groups) ∙ ap (λ (k : ℕ). length rows + k) (rows_told next columns groups) ∙ sym (length-append rows (all_of groups))

pub meta_again : (columns : List Column) (table : List (List Value)) → AllByRecursion (IsGroup columns) (groups_in table) → all_of (groups_in table) ≡ table → is_meta_of columns (meta_read (meta_of columns table)) ≡ true
unfolding meta_of
meta_again columns table are all =
    let groups = groups_of 4 columns (groups_in table) in
    all_three (is_schema columns (element_read (root_of (length columns)) ∷ leaves_read columns)) (list_all (is_group_of columns) groups) (int_eq (pos (length table)) (pos (sum_by rows_of groups)))
    (schema_again columns) (groups_told 4 columns (groups_in table) are)
    (ap (λ (k : ℕ). int_eq (pos (length table)) (pos k)) (rows_told 4 columns (groups_in table) ∙ ap (length {A = List Value}) all) ∙ same_int (pos (length table)))
