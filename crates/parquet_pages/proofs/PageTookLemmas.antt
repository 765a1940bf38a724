-- What is read as a page is one.
use Rattle.std.proofs.Common.{◌≡◌, ℕ, zero, suc, ◌+◌, ◌-◌, ◌^◌, ◌<◌, ◌≤◌, Bool, true, false, List, [], ◌∷◌, ◌++◌, length, map, take, drop, replicate, Some, None, Ok, Err, Result, Option, ℤ, pos, negsuc, refl, sym, ap, subst, ◌∙◌, append_assoc, arith, inl, inr}
use Rattle.std.specs.Prelude.{◌&&◌, ◌||◌, not, nat_le, if◌then◌else◌, option_and_then, MatchBool, count_by, FitsSigned}
use Rattle.std.specs.List.{flat_map, list_all}
use Rattle.std.specs.Str.{is_utf8}
use Rattle.std.specs.Int.{Width, w32, w64, cast_signed, cast_unsigned}
use Rattle.std.specs.Ordering.{int_eq}
use Rattle.std.proofs.lemmas.Int.{of_z-to_z}
use Rattle.std.proofs.lemmas.Str.{IsUtf8-from_is_utf8}
use Rattle.std.proofs.lemmas.Bool.{leb-true}
use Rattle.std.proofs.lemmas.List.Sums.{sum_by-cons}
use Rattle.std.proofs.Math.Seq.{drop-append_seam}
use Rattle.std.proofs.lemmas.Bool.Decides.{Decides-int_eq}
use Rattle.std.proofs.lemmas.List.{append-nil, length-append, length-take, length-map, length-replicate, take-append-drop}
use mir.ValLaws.{to_z-Fits}
use mir.Val.{bits}
use Rattle.byteorder.specs.Endian.{little_number, little_bytes}
use Rattle.byte_fields.specs.declared.field_error.FieldError.TheVariants.{Bad}
use Rattle.byte_fields.specs.Reading.{Reading, ◌>>=◌, only_if}
use Rattle.byte_fields.specs.Numbers.{number_at, signed_at}
use Rattle.byte_fields.specs.Prefixed.{bytes_at, prefixed_at, text_at, nonnegative}
use Rattle.byte_fields.proofs.ReadingLemmas.{IsBytes, IsBytes-take, IsBytes-drop, Takes, Reads, bind-Ok, only_if-Ok, read_once}
use Rattle.byte_fields.proofs.NumberLemmas.{IsOrder, TakesNumber, little4, little8, number_at_reads}
use Rattle.byte_fields.proofs.PrefixedLemmas.{TakesPrefixed, prefixed_at_reads, number_length_reads, bytes_at_reads}
use Rattle.thrift_compact.proofs.GrammarLemmas.{if_Ok}
use Rattle.column_cells.specs.Cells.{is_cell, is_number}
use Rattle.hudi_base.specs.declared.column.Column.{Column}
use Rattle.hudi_base.specs.declared.value.Value.{Value}
use Rattle.hudi_base.specs.declared.value.Value.TheVariants as value
use Rattle.parquet_meta.specs.declared.page_header.PageHeader.{PageHeader}
use Rattle.parquet_meta.specs.Reading.{with_value}
use Rattle.parquet_meta.specs.PageHeaders.{page_header_at}
use Rattle.parquet_meta.specs.Structs.{IsHeader}
use Rattle.parquet_meta.proofs.GrammarLemmas.{page_header_known}
use Rattle.parquet_pages.specs.declared.page_error.PageError.{PageError}
use Rattle.parquet_pages.specs.Levels.{bits_of, levels_at}
use Rattle.parquet_pages.specs.Plain.{value_bytes, bytes_for, truths_of, array_at, value_at, cell_at, cells_at, boolean_cells, booleans_at, values_at}
use Rattle.parquet_pages.specs.Pages.{has_value, IsTyped, body_at, whole, body_size, page_cells, strange_encoding, cells_or, behind_header, page_behind, page_at}
use Rattle.parquet_pages.specs.Forms.{IsShortValue, AreCells, AreBits, AreValues, AreNullable, IsBody, IsPage, IsLevels}
use Rattle.parquet_pages.proofs.CellsLemmas.{length-bits_of}
use Rattle.parquet_pages.proofs.FormLemmas.{levels_took}
use Rattle.parquet_pages.proofs.PageAgainLemmas.{is_pos, both_true}

-- ---- a value that isn't a boolean

with_value-Ok : {A S : Type 0} (set : A → S) (r : Reading A) (s : S) (rest : List ℕ) → with_value set r ≡ Ok (s, rest) → (x : A) × (r ≡ Ok (x, rest)) × (set x ≡ s)
with_value-Ok {A} {S} set (Ok x) s rest e =
    let same = read_once (set x.0, x.1) (s, rest) (Ok (set x.0, x.1)) refl e in
    (x.0, ap (λ (t : List ℕ). Ok (x.0, t)) (ap (λ (p : S × List ℕ). p.1) same), ap (λ (p : S × List ℕ). p.0) same)
with_value-Ok set (Err error) s rest e = absurd cc

record TookSigned (w : Width) (k : ℕ) (bytes : List ℕ) (n : ℤ) (rest : List ℕ) : Type 0 where
  parts : bytes ≡ little_bytes k (cast_unsigned w n) ++ rest
  rest_fits : IsBytes rest
  fits : FitsSigned w n

signed_took : (w : Width) (k : ℕ) (bytes rest : List ℕ) (n : ℤ) → IsOrder little_number little_bytes k → ((x : ℕ) → x < 256 ^ k → x < 2 ^ bits w) → IsBytes bytes → signed_at little_number w k bytes ≡ Ok (n, rest) → TookSigned w k bytes n rest
unfolding signed_at
signed_took w k bytes rest n order wide fits e =
    let first = bind-Ok (number_at little_number k bytes) (λ found. Ok (cast_signed w found.0, found.1)) (n, rest) e in
    let t = subst (Reads (length bytes) (λ x. TakesNumber little_bytes k bytes x.0 x.1)) first.1 (number_at_reads little_number little_bytes k bytes order fits) in
    let same = read_once (cast_signed w first.0.0, first.0.1) (n, rest) (Ok (cast_signed w first.0.0, first.0.1)) refl first.2 in
    let signed : cast_signed w first.0.0 ≡ n = ap (λ (p : ℤ × List ℕ). p.0) same in
    let after : first.0.1 ≡ rest = ap (λ (p : ℤ × List ℕ). p.1) same in
    let small : first.0.0 < 2 ^ bits w = wide first.0.0 t.below in
    let back : first.0.0 ≡ cast_unsigned w n = sym (of_z-to_z w first.0.0 small) ∙ ap (cast_unsigned w) signed in
    record {
      parts = t.takes.parts ∙ ap (λ (x : ℕ). little_bytes k x ++ first.0.1) back ∙ ap (λ (r : List ℕ). little_bytes k (cast_unsigned w n) ++ r) after;
      rest_fits = subst IsBytes after t.takes.rest_fits;
      fits = subst (FitsSigned w) signed (to_z-Fits w first.0.0 (record { fits = small }));
    }

prefix_took : (bytes content rest : List ℕ) → IsBytes bytes → prefixed_at (number_at little_number 4) bytes ≡ Ok (content, rest) → TakesPrefixed (little_bytes 4) (λ len. len < 256 ^ 4) bytes content rest
prefix_took bytes content rest fits e =
    subst (Reads (length bytes) (λ x. TakesPrefixed (little_bytes 4) (λ len. len < 256 ^ 4) bytes x.0 x.1)) e
    (prefixed_at_reads (number_at little_number 4) (little_bytes 4) (λ len. len < 256 ^ 4) bytes (number_length_reads little_number little_bytes 4 bytes little4 fits))

-- a cell and its bytes
record TookCell (column : Column) (bytes : List ℕ) (level : Bool) (cell : Value) (rest : List ℕ) : Type 0 where
  parts : bytes ≡ value_bytes cell ++ rest
  rest_fits : IsBytes rest
  told : has_value cell ≡ level
  cell_is : is_cell column cell ≡ true
  typed : IsTyped cell
  short : IsShortValue cell

number_took : (column : Column) (k : ℕ) (utf8 : Bool) → (is_number k column.physical ≡ true) → utf8 ≡ true → (is_number k column.physical && utf8) ≡ true
number_took column k utf8 a b = ap (λ (x : Bool). x && utf8) a ∙ b

array_took : (column : Column) (utf8 : Bool) (bytes rest : List ℕ) (cell : Value) → column.utf8 ≡ utf8 → is_number 6 column.physical ≡ true → IsBytes bytes → array_at utf8 bytes ≡ Ok (cell, rest) → TookCell column bytes true cell rest
unfolding array_at text_at
array_took column true bytes rest cell is six fits e =
    let first = with_value-Ok value.Text (text_at (number_at little_number 4) bytes) cell rest e in
    let second = bind-Ok (prefixed_at (number_at little_number 4) bytes) (λ content. only_if (is_utf8 content.0) bytes content) (first.0, rest) first.1 in
    let third = only_if-Ok (is_utf8 second.0.0) bytes second.0 (first.0, rest) second.2 in
    let read : prefixed_at (number_at little_number 4) bytes ≡ Ok (first.0, rest) = second.1 ∙ ap (λ (p : List ℕ × List ℕ). Ok p) third.1 in
    let t = prefix_took bytes first.0 rest fits read in
    let utf8 : is_utf8 first.0 ≡ true = ap (λ (p : List ℕ × List ℕ). is_utf8 p.0) (sym third.1) ∙ third.0 in
    subst (λ (c : Value). TookCell column bytes true c rest) first.2 (record {
      parts = t.takes.parts;
      rest_fits = t.takes.rest_fits;
      told = refl;
      cell_is = number_took column 6 column.utf8 six is;
      typed = IsUtf8-from_is_utf8 first.0 utf8;
      short = omega (arith, t.below);
    })
array_took column false bytes rest cell is six fits e =
    let first = with_value-Ok value.Bytes (prefixed_at (number_at little_number 4) bytes) cell rest e in
    let t = prefix_took bytes first.0 rest fits first.1 in
    subst (λ (c : Value). TookCell column bytes true c rest) first.2 (record {
      parts = t.takes.parts;
      rest_fits = t.takes.rest_fits;
      told = refl;
      cell_is = number_took column 6 (not column.utf8) six (ap not is);
      typed = tt;
      short = omega (arith, t.below);
    })

value_took : (column : Column) (bytes rest : List ℕ) (cell : Value) → IsBytes bytes → value_at column bytes ≡ Ok (cell, rest) → TookCell column bytes true cell rest
unfolding value_at
value_took column bytes rest cell fits e =
    elim (if_Ok (is_number 1 column.physical) (with_value value.Int (signed_at little_number w32 4 bytes)) (if is_number 2 column.physical then with_value value.Long (signed_at little_number w64 8 bytes) else (if is_number 6 column.physical then array_at column.utf8 bytes else Err (Bad (length bytes)))) (cell, rest) e) [
      | inl one ↦
          let first = with_value-Ok value.Int (signed_at little_number w32 4 bytes) cell rest one.1 in
          let t = signed_took w32 4 bytes rest first.0 little4 (λ x lt. omega arith) fits first.1 in
          subst (λ (c : Value). TookCell column bytes true c rest) first.2 (record { parts = t.parts; rest_fits = t.rest_fits; told = refl; cell_is = one.0; typed = t.fits; short = tt })
      | inr more ↦ elim (if_Ok (is_number 2 column.physical) (with_value value.Long (signed_at little_number w64 8 bytes)) (if is_number 6 column.physical then array_at column.utf8 bytes else Err (Bad (length bytes))) (cell, rest) more.1) [
        | inl two ↦
            let first = with_value-Ok value.Long (signed_at little_number w64 8 bytes) cell rest two.1 in
            let t = signed_took w64 8 bytes rest first.0 little8 (λ x lt. omega arith) fits first.1 in
            subst (λ (c : Value). TookCell column bytes true c rest) first.2 (record { parts = t.parts; rest_fits = t.rest_fits; told = refl; cell_is = two.0; typed = t.fits; short = tt })
        | inr last ↦ elim (if_Ok (is_number 6 column.physical) (array_at column.utf8 bytes) (Err (Bad (length bytes))) (cell, rest) last.1) [
          | inl six ↦ array_took column column.utf8 bytes rest cell refl six.0 fits six.1
          | inr none ↦ absurd cc
        ]
      ]
    ]

-- a level of the column: only an optional one has nulls
abbrev pub Allows : Bool → List Bool → Type 0
Allows optional levels = list_all (λ level. level || optional) levels ≡ true

cell_took : (column : Column) (level : Bool) (bytes rest : List ℕ) (cell : Value) → (level || column.optional) ≡ true → IsBytes bytes → cell_at column level bytes ≡ Ok (cell, rest) → TookCell column bytes level cell rest
cell_took column true bytes rest cell allowed fits e = value_took column bytes rest cell fits e
cell_took column false bytes rest cell allowed fits e =
    let same = read_once (value.Null, bytes) (cell, rest) (Ok (value.Null, bytes)) refl e in
    let after : bytes ≡ rest = ap (λ (p : Value × List ℕ). p.1) same in
    subst (λ (c : Value). TookCell column bytes false c rest) (ap (λ (p : Value × List ℕ). p.0) same) (record { parts = after; rest_fits = subst IsBytes after fits; told = refl; cell_is = allowed; typed = tt; short = tt })

pub record TookCells (column : Column) (bytes : List ℕ) (levels : List Bool) (cells : List Value) (rest : List ℕ) : Type 0 where
  pub parts : bytes ≡ flat_map value_bytes cells ++ rest
  pub told : map has_value cells ≡ levels
  pub are : AreCells column cells

pub cells_took : (column : Column) (levels : List Bool) (bytes rest : List ℕ) (cells : List Value) → Allows column.optional levels → IsBytes bytes → cells_at column levels bytes ≡ Ok (cells, rest) → TookCells column bytes levels cells rest
unfolding cells_at
cells_took column [] bytes rest cells allowed fits e =
    let same = read_once ([], bytes) (cells, rest) (Ok ([], bytes)) refl e in
    subst (λ (c : List Value). TookCells column bytes [] c rest) (ap (λ (p : List Value × List ℕ). p.0) same) (record { parts = ap (λ (p : List Value × List ℕ). p.1) same; told = refl; are = record { each = refl; typed = tt; short = tt } })
cells_took column (level ∷ levels) bytes rest cells allowed fits e =
    let both = both_true (level || column.optional) (list_all (λ l. l || column.optional) levels) allowed in
    let first = bind-Ok (cell_at column level bytes) (λ cell. cells_at column levels cell.1 >>= λ more. Ok (cell.0 ∷ more.0, more.1)) (cells, rest) e in
    let second = bind-Ok (cells_at column levels first.0.1) (λ more. Ok (first.0.0 ∷ more.0, more.1)) (cells, rest) first.2 in
    let same = read_once (first.0.0 ∷ second.0.0, second.0.1) (cells, rest) (Ok (first.0.0 ∷ second.0.0, second.0.1)) refl second.2 in
    let a = cell_took column level bytes first.0.1 first.0.0 both.0 fits first.1 in
    let b = cells_took column levels first.0.1 second.0.1 second.0.0 both.1 a.rest_fits second.1 in
    let values : List ℕ = flat_map value_bytes second.0.0 in
    subst (λ (c : List Value). TookCells column bytes (level ∷ levels) c rest) (ap (λ (p : List Value × List ℕ). p.0) same) (record {
      parts = a.parts ∙ ap (λ (t : List ℕ). value_bytes first.0.0 ++ t) (b.parts ∙ ap (λ (t : List ℕ). values ++ t) (ap (λ (p : List Value × List ℕ). p.1) same)) ∙ sym (append_assoc (value_bytes first.0.0) values rest);
      told = ap (λ (l : Bool). l ∷ map has_value second.0.0) a.told ∙ ap (λ (t : List Bool). level ∷ t) b.told;
      are = record { each = ap (λ (x : Bool). x && list_all (is_cell column) second.0.0) a.cell_is ∙ b.are.each; typed = (a.typed, b.are.typed); short = (a.short, b.are.short) };
    })

-- ---- booleans

boolean_took : (column : Column) (levels bits : List Bool) → is_number 0 column.physical ≡ true → Allows column.optional levels → count_by (λ level. level) levels ≤ length bits → (past : List Bool) × (bits ≡ truths_of (boolean_cells levels bits) ++ past) × (map has_value (boolean_cells levels bits) ≡ levels) × AreCells column (boolean_cells levels bits) × (count_by (λ level. level) levels ≡ length (truths_of (boolean_cells levels bits)))
unfolding boolean_cells
boolean_took column [] bits zero_type allowed enough = (bits, refl, refl, record { each = refl; typed = tt; short = tt }, refl)
boolean_took column (false ∷ levels) bits zero_type allowed enough =
    let both = both_true column.optional (list_all (λ l. l || column.optional) levels) allowed in
    let one : count_by (λ level. level) (false ∷ levels) ≡ 0 + count_by (λ level. level) levels = sum_by-cons (λ (b : Bool). if b then 1 else 0) false levels in
    let more = boolean_took column levels bits zero_type both.1 (omega arith) in
    (more.0, more.1, ap (λ (t : List Bool). false ∷ t) more.2, record { each = ap (λ (x : Bool). x && list_all (is_cell column) (boolean_cells levels bits)) both.0 ∙ more.3.each; typed = (tt, more.3.typed); short = (tt, more.3.short) }, one ∙ (let s : 0 + count_by (λ level. level) levels ≡ length (truths_of (boolean_cells levels bits)) = omega (arith, more.4) in s))
boolean_took column (true ∷ levels) [] zero_type allowed enough =
    let one : count_by (λ level. level) (true ∷ levels) ≡ 1 + count_by (λ level. level) levels = sum_by-cons (λ (b : Bool). if b then 1 else 0) true levels in
    absurd (omega (arith, one, enough))
boolean_took column (true ∷ levels) (bit ∷ bits) zero_type allowed enough =
    let one : count_by (λ level. level) (true ∷ levels) ≡ 1 + count_by (λ level. level) levels = sum_by-cons (λ (b : Bool). if b then 1 else 0) true levels in
    let more = boolean_took column levels bits zero_type allowed (omega (arith, one, enough)) in
    (more.0, ap (λ (t : List Bool). bit ∷ t) more.1, ap (λ (t : List Bool). true ∷ t) more.2, record { each = ap (λ (x : Bool). x && list_all (is_cell column) (boolean_cells levels bits)) zero_type ∙ more.3.each; typed = (tt, more.3.typed); short = (tt, more.3.short) }, one ∙ (let s : 1 + count_by (λ level. level) levels ≡ suc (length (truths_of (boolean_cells levels bits))) = omega (arith, more.4) in s))

pub record TookValues (column : Column) (bytes : List ℕ) (levels : List Bool) (cells : List Value) (rest : List ℕ) : Type 0 where
  pub values : List ℕ
  pub parts : bytes ≡ values ++ rest
  pub told : map has_value cells ≡ levels
  pub are : AreCells column cells
  pub values_are : AreValues column cells values

booleans_took : (column : Column) (levels : List Bool) (bytes rest : List ℕ) (cells : List Value) → is_number 0 column.physical ≡ true → Allows column.optional levels → IsBytes bytes → booleans_at levels bytes ≡ Ok (cells, rest) → (values : List ℕ) × (bytes ≡ values ++ rest) × (map has_value cells ≡ levels) × AreCells column cells × AreBits (truths_of cells) values
unfolding booleans_at
booleans_took column levels bytes rest cells zero_type allowed fits e =
    let count : ℕ = count_by (λ level. level) levels in
    let first = bind-Ok (bytes_at (bytes_for count) bytes) (λ content. Ok (boolean_cells levels (bits_of content.0), content.1)) (cells, rest) e in
    let content : List ℕ = first.0.0 in
    let t = subst (Reads (length bytes) (λ x. Takes bytes x.0 x.1 × (length x.0 ≡ bytes_for count))) first.1 (bytes_at_reads (bytes_for count) bytes fits) in
    let same = read_once (boolean_cells levels (bits_of content), first.0.1) (cells, rest) (Ok (boolean_cells levels (bits_of content), first.0.1)) refl first.2 in
    let b = boolean_took column levels (bits_of content) zero_type allowed (omega (arith, length-bits_of content, t.1)) in
    subst (λ (c : List Value). (values : List ℕ) × (bytes ≡ values ++ rest) × (map has_value c ≡ levels) × AreCells column c × AreBits (truths_of c) values) (ap (λ (p : List Value × List ℕ). p.0) same) (content, t.0.parts ∙ ap (λ (r : List ℕ). content ++ r) (ap (λ (p : List Value × List ℕ). p.1) same), b.2, b.3, record { past = b.0; first = b.1; needed = t.1 ∙ ap bytes_for b.4 })

values_took : (column : Column) (levels : List Bool) (bytes rest : List ℕ) (cells : List Value) → Allows column.optional levels → IsBytes bytes → values_at column levels bytes ≡ Ok (cells, rest) → TookValues column bytes levels cells rest
unfolding values_at
values_took column levels bytes rest cells allowed fits e = by_type (is_number 0 column.physical) refl e
  where
    is_bits : (b : Bool) → is_number 0 column.physical ≡ b → (values : List ℕ) → MatchBool b (AreBits (truths_of cells) values) (values ≡ flat_map value_bytes cells) → AreValues column cells values
    is_bits b is values h = subst (λ (x : Bool). MatchBool x (AreBits (truths_of cells) values) (values ≡ flat_map value_bytes cells)) (sym is) h

    by_type : (b : Bool) → is_number 0 column.physical ≡ b → (if b then booleans_at levels bytes else cells_at column levels bytes) ≡ Ok (cells, rest) → TookValues column bytes levels cells rest
    by_type true is f = (let t = booleans_took column levels bytes rest cells is allowed fits f in record { values = t.0; parts = t.1; told = t.2; are = t.3; values_are = is_bits true is t.0 t.4 })
    by_type false is f = (let t = cells_took column levels bytes rest cells allowed fits f in record { values = flat_map value_bytes cells; parts = t.parts; told = t.told; are = t.are; values_are = is_bits false is (flat_map value_bytes cells) refl })

-- ---- bodies

all_allowed : (levels : List Bool) → Allows true levels
all_allowed [] = refl
all_allowed (true ∷ levels) = all_allowed levels
all_allowed (false ∷ levels) = all_allowed levels

full_allowed : (optional : Bool) (n : ℕ) → Allows optional (replicate n true)
full_allowed optional zero = refl
full_allowed optional (suc n) = full_allowed optional n

fits_behind : (bytes prefix rest : List ℕ) → IsBytes bytes → bytes ≡ prefix ++ rest → IsBytes rest
fits_behind bytes prefix rest fits e = subst IsBytes (ap (drop (length prefix)) e ∙ drop-append_seam prefix rest) (IsBytes-drop (length prefix) bytes fits)

body_took : (column : Column) (count : ℕ) (bytes rest : List ℕ) (cells : List Value) → IsBytes bytes → body_at column count bytes ≡ Ok (cells, rest) → (body : List ℕ) × (bytes ≡ body ++ rest) × (length cells ≡ count) × AreCells column cells × IsBody column cells body
unfolding body_at
body_took column count bytes rest cells fits e = by_optional column.optional refl e
  where
    is_body : (b : Bool) → column.optional ≡ b → (body : List ℕ) → MatchBool b (AreNullable column cells body) (AreValues column cells body) → IsBody column cells body
    is_body b is body h = subst (λ (x : Bool). MatchBool x (AreNullable column cells body) (AreValues column cells body)) (sym is) h

    by_optional : (b : Bool) → column.optional ≡ b → (if b then (levels_at count bytes >>= λ levels. values_at column levels.0 levels.1) else values_at column (replicate count true) bytes) ≡ Ok (cells, rest) → (body : List ℕ) × (bytes ≡ body ++ rest) × (length cells ≡ count) × AreCells column cells × IsBody column cells body
    by_optional true is f =
        let first = bind-Ok (levels_at count bytes) (λ levels. values_at column levels.0 levels.1) (cells, rest) f in
        let l = levels_took count bytes first.0.1 first.0.0 fits first.1 in
        let t = values_took column first.0.0 first.0.1 rest cells (subst (λ (o : Bool). Allows o first.0.0) (sym is) (all_allowed first.0.0)) (fits_behind bytes l.0 first.0.1 fits l.1) first.2 in
        (l.0 ++ t.values, l.1 ∙ ap (λ (r : List ℕ). l.0 ++ r) t.parts ∙ sym (append_assoc l.0 t.values rest), sym (length-map cells has_value) ∙ ap length t.told ∙ l.3, t.are, is_body true is (l.0 ++ t.values) (record { levels = l.0; values = t.values; parts = refl; tell = subst (λ (x : List Bool). IsLevels x l.0) (sym t.told) l.2; are = t.values_are }))
    by_optional false is f =
        let t = values_took column (replicate count true) bytes rest cells (full_allowed column.optional count) fits f in
        (t.values, t.parts, sym (length-map cells has_value) ∙ ap length t.told ∙ length-replicate count true, t.are, is_body false is t.values t.values_are)

-- ---- pages

bind-Some : {A B : Type 0} (f : A → Option B) (o : Option A) (y : B) → option_and_then f o ≡ Some y → (x : A) × (o ≡ Some x) × (f x ≡ Some y)
bind-Some f (Some x) y e = (x, refl, e)
bind-Some f None y e = absurd cc

nonnegative_took : (z : ℤ) (n : ℕ) → nonnegative z ≡ Some n → z ≡ pos n
nonnegative_took (pos m) n e = (let s : m ≡ n = cc in ap pos s)
nonnegative_took (negsuc m) n e = absurd cc

whole_took : {A : Type 0} (r : Reading A) (x : A) → whole r ≡ Some x → r ≡ Ok (x, [])
whole_took (Ok (x', [])) x e = (let s : x' ≡ x = cc in ap (λ (y : _). Ok (y, [])) s)
whole_took (Ok (x', byte ∷ bytes)) x e = absurd cc
whole_took (Err error) x e = absurd cc

record TookSize (h : PageHeader) (available size : ℕ) : Type 0 where
  kind : h.kind ≡ pos 0
  same : h.uncompressed ≡ h.compressed
  compressed : h.compressed ≡ pos size
  within : size ≤ available

size_took : (h : PageHeader) (available size : ℕ) → body_size h available ≡ Some size → TookSize h available size
size_took h available size e = by_test (is_number 0 h.kind && int_eq h.uncompressed h.compressed) refl e
  where
    by_le : (n : ℕ) (b : Bool) → nat_le n available ≡ b → (let p : Option ℕ = if b then Some n else None in p) ≡ Some size → (n ≡ size) × (size ≤ available)
    by_le n true is f = (let s : n ≡ size = cc in (s, subst (λ (k : ℕ). k ≤ available) s (leb-true _ _ is)))
    by_le n false is f = absurd cc

    by_test : (b : Bool) → (is_number 0 h.kind && int_eq h.uncompressed h.compressed) ≡ b → (let o : Option ℕ = if b then option_and_then (λ n. let p : Option ℕ = if nat_le n available then Some n else None in p) (nonnegative h.compressed) else None in o) ≡ Some size → TookSize h available size
    by_test false is f = absurd cc
    by_test true is f =
        let both = both_true (is_number 0 h.kind) (int_eq h.uncompressed h.compressed) is in
        let first = bind-Some (λ n. let p : Option ℕ = if nat_le n available then Some n else None in p) (nonnegative h.compressed) size f in
        let le = by_le first.0 (nat_le first.0 available) refl first.2 in
        record {
          kind = is_pos 0 h.kind both.0;
          same = (Decides-int_eq h.uncompressed h.compressed).0 both.1;
          compressed = nonnegative_took h.compressed first.0 first.1 ∙ ap pos le.0;
          within = le.1;
        }

strange_took : (column : Column) (h : PageHeader) → strange_encoding column h ≡ None → (h.encoding ≡ pos 0) × (column.optional ≡ true → h.def_encoding ≡ pos 3)
strange_took column h e = by_plain (is_number 0 h.encoding) refl e
  where
    by_rle : (o b : Bool) → (let p : Option ℤ = if o && not b then Some h.def_encoding else None in p) ≡ None → o ≡ true → b ≡ true
    by_rle true true f is = refl
    by_rle true false f is = absurd cc
    by_rle false b f is = absurd cc

    by_plain : (b : Bool) → is_number 0 h.encoding ≡ b → (let p : Option ℤ = if not b then Some h.encoding else (if column.optional && not (is_number 3 h.def_encoding) then Some h.def_encoding else None) in p) ≡ None → (h.encoding ≡ pos 0) × (column.optional ≡ true → h.def_encoding ≡ pos 3)
    by_plain true is f = (is_pos 0 h.encoding is, λ o. is_pos 3 h.def_encoding (by_rle column.optional (is_number 3 h.def_encoding) f o))
    by_plain false is f = absurd cc

page_cells_took : (column : Column) (h : PageHeader) (rest header : List ℕ) (cells : List Value) (size : ℕ) → IsBytes rest → IsHeader h header → strange_encoding column h ≡ None → page_cells column h rest ≡ Some (cells, size) → (body : List ℕ) × (rest ≡ body ++ drop size rest) × (length body ≡ size) × IsPage column cells (header ++ body)
unfolding page_cells
page_cells_took column h rest header cells size fits is_header plain e =
    let first = bind-Some (λ n. option_and_then (λ count. option_and_then (λ found. Some (found, n)) (whole (body_at column count (take n rest)))) (nonnegative h.values)) (body_size h (length rest)) (cells, size) e in
    let second = bind-Some (λ count. option_and_then (λ found. Some (found, first.0)) (whole (body_at column count (take first.0 rest)))) (nonnegative h.values) (cells, size) first.2 in
    let third = bind-Some (λ found. Some (found, first.0)) (whole (body_at column second.0 (take first.0 rest))) (cells, size) second.2 in
    let pair = some_pair (third.0, first.0) (cells, size) third.2 in
    let size_is : first.0 ≡ size = ap (λ (p : List Value × ℕ). p.1) pair in
    let read : body_at column second.0 (take first.0 rest) ≡ Ok (cells, []) = whole_took (body_at column second.0 (take first.0 rest)) third.0 third.1 ∙ ap (λ (c : List Value). Ok (c, [])) (ap (λ (p : List Value × ℕ). p.0) pair) in
    let told = size_took h (length rest) first.0 first.1 in
    let b = body_took column second.0 (take first.0 rest) [] cells (IsBytes-take first.0 rest fits) read in
    let body : take first.0 rest ≡ b.0 = b.1 ∙ append-nil b.0 in
    let long : length b.0 ≡ first.0 = sym (ap length body) ∙ omega (arith, length-take first.0 rest, told.within) in
    let strange = strange_took column h plain in (
      b.0,
      sym (take-append-drop first.0 rest) ∙ ap (λ (t : List ℕ). t ++ drop first.0 rest) body ∙ ap (λ (n : ℕ). b.0 ++ drop n rest) size_is,
      long ∙ size_is,
      record {
        header = header;
        body = b.0;
        told = h;
        parts = refl;
        is_header = is_header;
        is_data_page = record {
          kind = told.kind;
          uncompressed = told.same ∙ told.compressed ∙ ap pos (sym long);
          compressed = told.compressed ∙ ap pos (sym long);
          values = nonnegative_took h.values second.0 second.1 ∙ ap pos (sym b.2);
          plain = strange.0;
          rle = strange.1;
        };
        are_cells = b.3;
        is_body = b.4;
      },
    )
  where
    some_pair : (p q : List Value × ℕ) → Some p ≡ Some q → p ≡ q
    some_pair p q f = cc

pub page_took : (column : Column) (bytes : List ℕ) (cells : List Value) (n : ℕ) → IsBytes bytes → page_at column bytes ≡ Ok (cells, n) → (page rest : List ℕ) × (bytes ≡ page ++ rest) × (length page ≡ n) × IsPage column cells page
page_took column bytes cells n fits e = by_header (page_header_at bytes) refl e
  where
    ok_pair : (p q : List Value × ℕ) → (let r : Result (List Value × ℕ) PageError = Ok p in r) ≡ Ok q → p ≡ q
    ok_pair p q f = cc

    by_cells : (h : PageHeader) (rest header : List ℕ) (o : Option (List Value × ℕ)) → bytes ≡ header ++ rest → IsHeader h header → strange_encoding column h ≡ None → page_cells column h rest ≡ o → cells_or (length bytes - length rest) o ≡ Ok (cells, n) → (page rest : List ℕ) × (bytes ≡ page ++ rest) × (length page ≡ n) × IsPage column cells page
    by_cells h rest header None parts is plain read f = absurd cc
    by_cells h rest header (Some found) parts is plain read f =
        let pair = ok_pair (found.0, length bytes - length rest + found.1) (cells, n) f in
        let cells_is : found.0 ≡ cells = ap (λ (p : List Value × ℕ). p.0) pair in
        let n_is : length bytes - length rest + found.1 ≡ n = ap (λ (p : List Value × ℕ). p.1) pair in
        let t = page_cells_took column h rest header cells found.1 (fits_behind bytes header rest fits parts) is plain (read ∙ ap (λ (c : List Value). Some (c, found.1)) cells_is) in
        (header ++ t.0, drop found.1 rest, parts ∙ ap (λ (r : List ℕ). header ++ r) t.1 ∙ sym (append_assoc header t.0 (drop found.1 rest)), omega (arith, length-append header t.0, t.2, n_is, ap length parts, length-append header rest), t.3)

    by_strange : (h : PageHeader) (rest header : List ℕ) (o : Option ℤ) → bytes ≡ header ++ rest → IsHeader h header → strange_encoding column h ≡ o → behind_header column (length bytes - length rest) h rest o ≡ Ok (cells, n) → (page rest : List ℕ) × (bytes ≡ page ++ rest) × (length page ≡ n) × IsPage column cells page
    by_strange h rest header (Some encoding) parts is strange f = absurd cc
    by_strange h rest header None parts is strange f = by_cells h rest header (page_cells column h rest) parts is strange refl f

    by_header : (r : Reading PageHeader) → page_header_at bytes ≡ r → page_behind column (length bytes) r ≡ Ok (cells, n) → (page rest : List ℕ) × (bytes ≡ page ++ rest) × (length page ≡ n) × IsPage column cells page
    by_header (Err error) read f = absurd cc
    by_header (Ok found) read f = (let t = page_header_known.takes.took bytes found.1 found.0 read in by_strange found.0 found.1 t.0 (strange_encoding column found.0) t.1 t.2 refl f)
