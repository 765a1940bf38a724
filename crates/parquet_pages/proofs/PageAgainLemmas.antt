-- A written page is read back.
use Rattle.std.proofs.Common.{◌≡◌, ℕ, ◌^◌, ◌<◌, ◌≤◌, Bool, true, false, List, [], ◌∷◌, ◌++◌, length, map, Ok, ℤ, pos, negsuc, refl, sym, ap, ◌∙◌, append_assoc, arith}
use Rattle.std.specs.Prelude.{◌&&◌, not, FitsSigned, IsUtf8}
use Rattle.std.specs.List.{flat_map, list_all, AllByRecursion}
use Rattle.std.specs.Int.{w32, w64, cast_signed, cast_unsigned}
use Rattle.std.proofs.lemmas.Int.{to_z-of_z}
use Rattle.std.proofs.lemmas.Bool.{eqb-true}
use Rattle.std.proofs.lemmas.List.{length-append}
use Rattle.byteorder.specs.Endian.{little_number, little_bytes}
use Rattle.byte_fields.specs.Reading.{Reading, ◌>>=◌}
use Rattle.byte_fields.specs.Numbers.{number_at, signed_at}
use Rattle.byte_fields.specs.Prefixed.{with_length, prefixed_at, text_at}
use Rattle.byte_fields.proofs.NumberLemmas.{little4, little8, number_at_again}
use Rattle.byte_fields.proofs.PrefixedLemmas.{prefixed_at_again, number_length, text_at_again}
use Rattle.column_cells.specs.Cells.{is_cell, is_number}
use Rattle.hudi_base.specs.declared.column.Column.{Column}
use Rattle.hudi_base.specs.declared.value.Value.{Value}
use Rattle.hudi_base.specs.declared.value.Value.TheVariants as value
use Rattle.parquet_meta.specs.Reading.{with_value}
use Rattle.parquet_pages.specs.Plain.{value_bytes, array_at, value_at, cell_at, cells_at}
use Rattle.parquet_pages.specs.Pages.{has_value, IsTyped}
use Rattle.parquet_pages.specs.Forms.{IsShortValue}

-- ---- values that aren't booleans

pub is_pos : (k : ℕ) (z : ℤ) → is_number k z ≡ true → z ≡ pos k
is_pos k (pos n) is = ap pos (eqb-true n k is)
is_pos k (negsuc n) is = absurd cc

pub both_true : (a b : Bool) → (a && b) ≡ true → (a ≡ true) × (b ≡ true)
both_true true true is = (refl, refl)
both_true true false is = absurd cc
both_true false b is = absurd cc

unsigned_below-32 : (n : ℤ) → FitsSigned w32 n → cast_unsigned w32 n < 256 ^ 4
unsigned_below-32 (pos n) fits = omega (arith, fits.sfits)
unsigned_below-32 (negsuc n) fits = omega arith

unsigned_below-64 : (n : ℤ) → FitsSigned w64 n → cast_unsigned w64 n < 256 ^ 8
unsigned_below-64 (pos n) fits = omega (arith, fits.sfits)
unsigned_below-64 (negsuc n) fits = omega arith

int_again : (n : ℤ) (rest : List ℕ) → FitsSigned w32 n → signed_at little_number w32 4 (little_bytes 4 (cast_unsigned w32 n) ++ rest) ≡ Ok (n, rest)
unfolding signed_at
int_again n rest fits =
    ap (λ (r : Reading ℕ). r >>= λ found. Ok (cast_signed w32 found.0, found.1)) (number_at_again little_number little_bytes 4 (cast_unsigned w32 n) rest little4 (unsigned_below-32 n fits))
    ∙ ap (λ (z : ℤ). Ok (z, rest)) (to_z-of_z w32 n fits)

long_again : (n : ℤ) (rest : List ℕ) → FitsSigned w64 n → signed_at little_number w64 8 (little_bytes 8 (cast_unsigned w64 n) ++ rest) ≡ Ok (n, rest)
unfolding signed_at
long_again n rest fits =
    ap (λ (r : Reading ℕ). r >>= λ found. Ok (cast_signed w64 found.0, found.1)) (number_at_again little_number little_bytes 8 (cast_unsigned w64 n) rest little8 (unsigned_below-64 n fits))
    ∙ ap (λ (z : ℤ). Ok (z, rest)) (to_z-of_z w64 n fits)

with_length-le : (content : List ℕ) → length content ≤ length (with_length (little_bytes 4) content)
unfolding with_length
with_length-le content = omega (arith, length-append (little_bytes 4 (length content)) content)

content_again : (content rest : List ℕ) → length content < 2 ^ 32 → prefixed_at (number_at little_number 4) (with_length (little_bytes 4) content ++ rest) ≡ Ok (content, rest)
content_again content rest short = prefixed_at_again (number_at little_number 4) (little_bytes 4) content rest (number_length little_number little_bytes 4 (length content) little4 (omega arith))

text_again : (content rest : List ℕ) → length content < 2 ^ 32 → IsUtf8 content → text_at (number_at little_number 4) (with_length (little_bytes 4) content ++ rest) ≡ Ok (content, rest)
text_again content rest short utf8 = text_at_again (number_at little_number 4) (little_bytes 4) content rest (number_length little_number little_bytes 4 (length content) little4 (omega arith)) utf8

-- what is read of each type
choose : ℤ → Bool → List ℕ → Reading Value
choose z utf8 bytes = value_at (record { name = []; physical = z; optional = false; utf8 = utf8 }) bytes

choose_is : (column : Column) (bytes : List ℕ) → value_at column bytes ≡ choose column.physical column.utf8 bytes
unfolding choose value_at
choose_is column bytes = refl

array_again : (utf8 : Bool) (cell : Value) (rest : List ℕ) → is_cell (record { name = []; physical = pos 6; optional = false; utf8 = utf8 }) cell ≡ true → IsTyped cell → IsShortValue cell → array_at utf8 (value_bytes cell ++ rest) ≡ Ok (cell, rest)
unfolding array_at
array_again true (value.Text text) rest is typed short = ap (with_value value.Text) (text_again text rest short typed)
array_again true _ rest is typed short = absurd cc
array_again false (value.Bytes content) rest is typed short = ap (with_value value.Bytes) (content_again content rest short)
array_again false _ rest is typed short = absurd cc

int_value : (z : ℤ) (utf8 : Bool) (n : ℤ) (rest : List ℕ) → z ≡ pos 1 → FitsSigned w32 n → choose z utf8 (value_bytes (value.Int n) ++ rest) ≡ Ok (value.Int n, rest)
unfolding choose value_at
int_value z utf8 n rest is fits = ap (λ (y : ℤ). choose y utf8 (value_bytes (value.Int n) ++ rest)) is ∙ ap (with_value value.Int) (int_again n rest fits)

long_value : (z : ℤ) (utf8 : Bool) (n : ℤ) (rest : List ℕ) → z ≡ pos 2 → FitsSigned w64 n → choose z utf8 (value_bytes (value.Long n) ++ rest) ≡ Ok (value.Long n, rest)
unfolding choose value_at
long_value z utf8 n rest is fits = ap (λ (y : ℤ). choose y utf8 (value_bytes (value.Long n) ++ rest)) is ∙ ap (with_value value.Long) (long_again n rest fits)

bytes_value : (z : ℤ) (utf8 : Bool) (content rest : List ℕ) → (is_number 6 z && not utf8) ≡ true → length content < 2 ^ 32 → choose z utf8 (value_bytes (value.Bytes content) ++ rest) ≡ Ok (value.Bytes content, rest)
unfolding choose value_at
bytes_value z true content rest is short = absurd (let b = both_true (is_number 6 z) false is in let no : false ≡ true = b.1 in cc)
bytes_value z false content rest is short =
    ap (λ (y : ℤ). choose y false (value_bytes (value.Bytes content) ++ rest)) (is_pos 6 z (both_true (is_number 6 z) true is).0)
    ∙ array_again false (value.Bytes content) rest refl tt short

text_value : (z : ℤ) (utf8 : Bool) (text rest : List ℕ) → (is_number 6 z && utf8) ≡ true → IsUtf8 text → length text < 2 ^ 32 → choose z utf8 (value_bytes (value.Text text) ++ rest) ≡ Ok (value.Text text, rest)
unfolding choose value_at
text_value z false text rest is typed short = absurd (let b = both_true (is_number 6 z) false is in let no : false ≡ true = b.1 in cc)
text_value z true text rest is typed short =
    ap (λ (y : ℤ). choose y true (value_bytes (value.Text text) ++ rest)) (is_pos 6 z (both_true (is_number 6 z) true is).0)
    ∙ array_again true (value.Text text) rest refl typed short

-- a cell of a column that isn't boolean
cell_again : (column : Column) (cell : Value) (rest : List ℕ) → is_number 0 column.physical ≡ false → is_cell column cell ≡ true → IsTyped cell → IsShortValue cell → cell_at column (has_value cell) (value_bytes cell ++ rest) ≡ Ok (cell, rest)
cell_again column value.Null rest other is typed short = refl
cell_again column (value.Boolean truth) rest other is typed short = absurd (let no : false ≡ true = sym other ∙ is in cc)
cell_again column (value.Int n) rest other is typed short = choose_is column (value_bytes (value.Int n) ++ rest) ∙ int_value column.physical column.utf8 n rest (is_pos 1 column.physical is) typed
cell_again column (value.Long n) rest other is typed short = choose_is column (value_bytes (value.Long n) ++ rest) ∙ long_value column.physical column.utf8 n rest (is_pos 2 column.physical is) typed
cell_again column (value.Bytes content) rest other is typed short = choose_is column (value_bytes (value.Bytes content) ++ rest) ∙ bytes_value column.physical column.utf8 content rest is short
cell_again column (value.Text text) rest other is typed short = choose_is column (value_bytes (value.Text text) ++ rest) ∙ text_value column.physical column.utf8 text rest is typed short
cell_again column _ rest other is typed short = absurd cc

pub cells_again : (column : Column) (cells : List Value) (rest : List ℕ) → is_number 0 column.physical ≡ false → list_all (is_cell column) cells ≡ true → AllByRecursion IsTyped cells → AllByRecursion IsShortValue cells → cells_at column (map has_value cells) (flat_map value_bytes cells ++ rest) ≡ Ok (cells, rest)
unfolding cells_at
cells_again column [] rest other is typed short = refl
cells_again column (cell ∷ cells) rest other is typed short =
    let both = both_true (is_cell column cell) (list_all (is_cell column) cells) is in
    let more : List ℕ = flat_map value_bytes cells in
    ap (λ (b : List ℕ). cells_at column (has_value cell ∷ map has_value cells) b) (append_assoc (value_bytes cell) more rest)
    ∙ ap (λ (r : Reading Value). r >>= λ cell. cells_at column (map has_value cells) cell.1 >>= λ others. Ok (cell.0 ∷ others.0, others.1)) (cell_again column cell (more ++ rest) other both.0 typed.0 short.0)
    ∙ ap (λ (r : Reading (List Value)). r >>= λ others. Ok (cell ∷ others.0, others.1)) (cells_again column cells rest other both.1 typed.1 short.1)

-- what a short body holds is short
pub shorts : (cells : List Value) → length (flat_map value_bytes cells) < 2 ^ 32 → AllByRecursion IsShortValue cells
shorts [] small = tt
shorts (value.Bytes content ∷ cells) small =
    let sum = length-append (value_bytes (value.Bytes content)) (flat_map value_bytes cells) in
    (omega (arith, sum, with_length-le content), shorts cells (omega (arith, sum)))
shorts (value.Text text ∷ cells) small =
    let sum = length-append (value_bytes (value.Text text)) (flat_map value_bytes cells) in
    (omega (arith, sum, with_length-le text), shorts cells (omega (arith, sum)))
shorts (value.Int n ∷ cells) small = (tt, shorts cells (omega (arith, length-append (value_bytes (value.Int n)) (flat_map value_bytes cells))))
shorts (value.Long n ∷ cells) small = (tt, shorts cells (omega (arith, length-append (value_bytes (value.Long n)) (flat_map value_bytes cells))))
shorts (_ ∷ cells) small = (tt, shorts cells small)
