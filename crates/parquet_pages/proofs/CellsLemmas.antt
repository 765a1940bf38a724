-- Cells, one after another.
use Rattle.std.proofs.Common.{◌≡◌, ltb, Err, ℕ, zero, suc, ◌+◌, ◌-◌, ◌*◌, ◌<◌, ◌≤◌, Bool, true, false, List, [], ◌∷◌, ◌++◌, length, get_or, take, drop, replicate, Ok, refl, sym, ap, ◌∙◌, append_assoc, add-one, arith}
use Rattle.std.specs.List.{flat_map}
use Rattle.std.proofs.Math.Seq.{drop-cons}
use Rattle.std.proofs.Math.ListN.{drop_of_length-le}
use Rattle.std.proofs.lemmas.List.{append-nil, length-append, length-take, length-drop}
use Rattle.parquet_pages.proofs.BitsLemmas.{take_all}
use Rattle.byte_fields.specs.declared.field_error.FieldError.{FieldError}
use Rattle.std.specs.Prelude.{if◌then◌else◌}
use Rattle.byte_fields.specs.declared.field_error.FieldError.TheVariants.{Short}
use Rattle.byte_fields.specs.Prefixed.{bytes_at}
use Rattle.byte_fields.specs.Reading.{Reading, ◌>>=◌}
use Rattle.byte_fields.proofs.ReadingLemmas.{read_once}
use Rattle.hudi_base.specs.declared.column.Column.{Column}
use Rattle.hudi_base.specs.declared.value.Value.{Value}
use Rattle.hudi_base.specs.declared.value.Value.TheVariants as value
use Rattle.parquet_meta.specs.Reading.{with_value}
use Rattle.parquet_pages.specs.Levels.{byte_bits, bits_of}
use Rattle.parquet_pages.specs.Plain.{value_bytes, cell_at, cells_at, boolean_cells}

-- ---- bits of bytes

pub length-bits_of : (bytes : List ℕ) → length (bits_of bytes) ≡ 8 * length bytes
unfolding bits_of
length-bits_of [] = refl
length-bits_of (byte ∷ bytes) = omega (arith, length-append (byte_bits byte) (bits_of bytes), length-bits_of bytes)

-- ---- reading

-- the cells so far, and those that are left
abbrev pub with_cells : Column → List Value → List Bool → List ℕ → Reading (List Value)
with_cells column cells levels bytes = with_value (λ more. cells ++ more) (cells_at column levels bytes)

cells_cons : (column : Column) (cells longer : List Value) (level : Bool) (levels : List Bool) (bytes rest : List ℕ) → with_value (λ cell. cells ++ cell ∷ []) (cell_at column level bytes) ≡ Ok (longer, rest) → with_cells column cells (level ∷ levels) bytes ≡ with_cells column longer levels rest
unfolding cells_at
cells_cons column cells longer level levels bytes rest e = by_cell (cell_at column level bytes) e
  where
    regroup : (cell : Value) (r : Reading (List Value)) → with_value (λ more. cells ++ more) (r >>= λ more. Ok (cell ∷ more.0, more.1)) ≡ with_value (λ more. (cells ++ cell ∷ []) ++ more) r
    regroup cell (Ok more) = ap (λ t. Ok (t, more.1)) (sym (append_assoc cells (cell ∷ []) more.0))
    regroup cell (Err error) = refl

    by_cell : (r : Reading Value) → with_value (λ cell. cells ++ cell ∷ []) r ≡ Ok (longer, rest) → with_value (λ more. cells ++ more) (r >>= λ cell. cells_at column levels cell.1 >>= λ more. Ok (cell.0 ∷ more.0, more.1)) ≡ with_cells column longer levels rest
    by_cell (Ok cell) f =
        let same = read_once (cells ++ cell.0 ∷ [], cell.1) (longer, rest) (Ok (cells ++ cell.0 ∷ [], cell.1)) refl f in
        regroup cell.0 (cells_at column levels cell.1)
        ∙ ap (λ (t : List Value). with_cells column t levels cell.1) (ap (λ (p : List Value × List ℕ). p.0) same)
        ∙ ap (λ (t : List ℕ). with_cells column longer levels t) (ap (λ (p : List Value × List ℕ). p.1) same)
    by_cell (Err error) f = absurd cc

cells_cons-Err : (column : Column) (cells : List Value) (level : Bool) (levels : List Bool) (bytes : List ℕ) (error : FieldError) → with_value (λ cell. cells ++ cell ∷ []) (cell_at column level bytes) ≡ Err error → with_cells column cells (level ∷ levels) bytes ≡ Err error
unfolding cells_at
cells_cons-Err column cells level levels bytes error e = by_cell (cell_at column level bytes) e
  where
    by_cell : (r : Reading Value) → with_value (λ cell. cells ++ cell ∷ []) r ≡ Err error → with_value (λ more. cells ++ more) (r >>= λ cell. cells_at column levels cell.1 >>= λ more. Ok (cell.0 ∷ more.0, more.1)) ≡ Err error
    by_cell (Ok cell) f = absurd cc
    by_cell (Err other) f = cc

drop-level : (i : ℕ) (levels : List Bool) → i < length levels → drop i levels ≡ get_or levels i false ∷ drop (i + 1) levels
drop-level i levels lt = drop-cons levels i false lt ∙ ap (λ (k : ℕ). get_or levels i false ∷ drop k levels) (sym (add-one i))

pub cells_next : (column : Column) (i : ℕ) (cells longer : List Value) (levels : List Bool) (bytes rest : List ℕ) → i < length levels → with_value (λ cell. cells ++ cell ∷ []) (cell_at column (get_or levels i false) bytes) ≡ Ok (longer, rest) → with_cells column cells (drop i levels) bytes ≡ with_cells column longer (drop (i + 1) levels) rest
cells_next column i cells longer levels bytes rest lt e =
    ap (λ (t : List Bool). with_cells column cells t bytes) (drop-level i levels lt)
    ∙ cells_cons column cells longer (get_or levels i false) (drop (i + 1) levels) bytes rest e

pub cells_Err : (column : Column) (i : ℕ) (cells : List Value) (levels : List Bool) (bytes : List ℕ) (error : FieldError) → i < length levels → with_value (λ cell. cells ++ cell ∷ []) (cell_at column (get_or levels i false) bytes) ≡ Err error → with_cells column cells (drop i levels) bytes ≡ Err error
cells_Err column i cells levels bytes error lt e =
    ap (λ (t : List Bool). with_cells column cells t bytes) (drop-level i levels lt)
    ∙ cells_cons-Err column cells (get_or levels i false) (drop (i + 1) levels) bytes error e

cells_none : (column : Column) (cells : List Value) (levels : List Bool) (bytes : List ℕ) → levels ≡ [] → with_cells column cells levels bytes ≡ Ok (cells, bytes)
unfolding cells_at
cells_none column cells levels bytes none = ap (λ (t : List Bool). with_cells column cells t bytes) none ∙ ap (λ (t : List Value). Ok (t, bytes)) (append-nil cells)

pub cells_end : (column : Column) (i : ℕ) (cells : List Value) (levels : List Bool) (bytes : List ℕ) → length levels ≤ i → with_cells column cells (drop i levels) bytes ≡ Ok (cells, bytes)
cells_end column i cells levels bytes past = cells_none column cells (drop i levels) bytes (drop_of_length-le levels past)

-- the same where no cell is null

replicate-suc : (n m : ℕ) → n ≡ 1 + m → replicate n true ≡ true ∷ replicate m true
replicate-suc n m e = ap (λ (k : ℕ). replicate k true) (let s : n ≡ suc m = omega arith in s)

pub full_next : (column : Column) (n m : ℕ) (cells longer : List Value) (bytes rest : List ℕ) → n ≡ 1 + m → with_value (λ cell. cells ++ cell ∷ []) (cell_at column true bytes) ≡ Ok (longer, rest) → with_cells column cells (replicate n true) bytes ≡ with_cells column longer (replicate m true) rest
full_next column n m cells longer bytes rest one e =
    ap (λ (t : List Bool). with_cells column cells t bytes) (replicate-suc n m one) ∙ cells_cons column cells longer true (replicate m true) bytes rest e

pub full_Err : (column : Column) (n m : ℕ) (cells : List Value) (bytes : List ℕ) (error : FieldError) → n ≡ 1 + m → with_value (λ cell. cells ++ cell ∷ []) (cell_at column true bytes) ≡ Err error → with_cells column cells (replicate n true) bytes ≡ Err error
full_Err column n m cells bytes error one e =
    ap (λ (t : List Bool). with_cells column cells t bytes) (replicate-suc n m one) ∙ cells_cons-Err column cells true (replicate m true) bytes error e

pub full_end : (column : Column) (n : ℕ) (cells : List Value) (bytes : List ℕ) → n ≤ 0 → with_cells column cells (replicate n true) bytes ≡ Ok (cells, bytes)
full_end column n cells bytes none = cells_none column cells (replicate n true) bytes (ap (λ (k : ℕ). replicate k true) (let z : n ≡ 0 = omega arith in z))

-- no cell yet
pub with_none : (column : Column) (levels : List Bool) (bytes : List ℕ) → with_cells column [] levels bytes ≡ cells_at column levels bytes
with_none column levels bytes = same (cells_at column levels bytes)
  where
    same : (r : Reading (List Value)) → with_value (λ more. [] ++ more) r ≡ r
    same (Ok more) = refl
    same (Err error) = refl

-- ---- booleans

pub boolean_none : (i : ℕ) (levels bits : List Bool) → length levels ≤ i → boolean_cells (drop i levels) bits ≡ []
unfolding boolean_cells
boolean_none i levels bits past = ap (λ (t : List Bool). boolean_cells t bits) (drop_of_length-le levels past)

pub boolean_null : (i : ℕ) (levels bits : List Bool) → i < length levels → get_or levels i false ≡ false → boolean_cells (drop i levels) bits ≡ value.Null ∷ boolean_cells (drop (i + 1) levels) bits
unfolding boolean_cells
boolean_null i levels bits lt is =
    ap (λ (t : List Bool). boolean_cells t bits) (drop-level i levels lt ∙ ap (λ (b : Bool). b ∷ drop (i + 1) levels) is)

pub boolean_some : (i : ℕ) (levels bits : List Bool) → i < length levels → get_or levels i false ≡ true → 0 < length bits → boolean_cells (drop i levels) bits ≡ value.Boolean (get_or bits 0 false) ∷ boolean_cells (drop (i + 1) levels) (drop 1 bits)
unfolding boolean_cells
boolean_some i levels [] lt is some = absurd (omega arith)
boolean_some i levels (bit ∷ bits) lt is some =
    ap (λ (t : List Bool). boolean_cells t (bit ∷ bits)) (drop-level i levels lt ∙ ap (λ (b : Bool). b ∷ drop (i + 1) levels) is)

pub boolean_over : (i : ℕ) (levels bits : List Bool) → i < length levels → get_or levels i false ≡ true → length bits < 1 → boolean_cells (drop i levels) bits ≡ []
unfolding boolean_cells
boolean_over i levels [] lt is none = ap (λ (t : List Bool). boolean_cells t []) (drop-level i levels lt ∙ ap (λ (b : Bool). b ∷ drop (i + 1) levels) is)
boolean_over i levels (bit ∷ bits) lt is none = absurd (omega arith)

-- ---- writing

pub value_le : (i : ℕ) (cells : List Value) (d : Value) → i < length cells → length (value_bytes (get_or cells i d)) ≤ length (flat_map value_bytes cells)
value_le i [] d lt = absurd (omega arith)
value_le zero (cell ∷ cells) d lt = omega (arith, length-append (value_bytes cell) (flat_map value_bytes cells))
value_le (suc i) (cell ∷ cells) d lt = omega (arith, length-append (value_bytes cell) (flat_map value_bytes cells), value_le i cells d (omega arith))

-- ---- the bytes of booleans

pub content_length : (n : ℕ) (bytes content rest : List ℕ) → bytes_at n bytes ≡ Ok (content, rest) → length content ≤ n
unfolding bytes_at
content_length n bytes content rest e = by_test (ltb (length bytes) n) e
  where
    by_test : (b : Bool) → (let r : Reading (List ℕ) = if b then Err (Short (length bytes)) else Ok (take n bytes, drop n bytes) in r) ≡ Ok (content, rest) → length content ≤ n
    by_test true f = absurd cc
    by_test false f =
        let same = read_once (take n bytes, drop n bytes) (content, rest) (Ok (take n bytes, drop n bytes)) refl f in
        omega (arith, ap (λ (p : List ℕ × List ℕ). length p.0) same, length-take n bytes)

-- one more cell

next_cell : (cells cells' more : List Value) (cell : Value) (whole front : List Value) → cells' ≡ cells ++ cell ∷ [] → front ≡ cell ∷ more → cells ++ front ≡ whole → cells' ++ more ≡ whole
next_cell cells cells' more cell whole front added first kept =
    ap (λ (t : List Value). t ++ more) added ∙ append_assoc cells (cell ∷ []) more ∙ ap (λ (t : List Value). cells ++ t) (sym first) ∙ kept

pub step_some : (i : ℕ) (levels left left' : List Bool) (cells cells' whole : List Value) → i < length levels → get_or levels i false ≡ true → 1 ≤ length left → cells' ≡ cells ++ value.Boolean (get_or left 0 false) ∷ [] → left' ≡ take (length left - 1) (drop 1 left) → cells ++ boolean_cells (drop i levels) left ≡ whole → cells' ++ boolean_cells (drop (i + 1) levels) left' ≡ whole
step_some i levels left left' cells cells' whole lt is some added behind kept =
    let rest : left' ≡ drop 1 left = behind ∙ take_all (length left - 1) (drop 1 left) (omega (arith, length-drop 1 left)) in
    ap (λ (t : List Bool). cells' ++ boolean_cells (drop (i + 1) levels) t) rest
    ∙ next_cell cells cells' (boolean_cells (drop (i + 1) levels) (drop 1 left)) (value.Boolean (get_or left 0 false)) whole (boolean_cells (drop i levels) left) added (boolean_some i levels left lt is (omega arith)) kept

pub step_null : (i : ℕ) (levels left left' : List Bool) (cells cells' whole : List Value) → i < length levels → get_or levels i false ≡ false → cells' ≡ cells ++ value.Null ∷ [] → left' ≡ left → cells ++ boolean_cells (drop i levels) left ≡ whole → cells' ++ boolean_cells (drop (i + 1) levels) left' ≡ whole
step_null i levels left left' cells cells' whole lt is added same kept =
    ap (λ (t : List Bool). cells' ++ boolean_cells (drop (i + 1) levels) t) same
    ∙ next_cell cells cells' (boolean_cells (drop (i + 1) levels) left) value.Null whole (boolean_cells (drop i levels) left) added (boolean_null i levels left lt is) kept
