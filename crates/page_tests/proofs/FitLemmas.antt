-- The pages of the tests are short, and their cells are of their columns.
use Rattle.std.proofs.Common.{◌≡◌, ◌+◌, true, false, List, [], ◌∷◌, length, pos, negsuc, refl, ap, arith}
use Rattle.std.specs.List.{flat_map}
use Rattle.hudi_base.specs.declared.column.Column.{Column}
use Rattle.hudi_base.specs.declared.value.Value.{Value}
use Rattle.hudi_base.specs.declared.value.Value.TheVariants as value
use Rattle.parquet_pages.specs.Plain.{value_bytes}
use Rattle.parquet_pages.specs.Pages.{FitsPage}
use Rattle.parquet_pages.proofs.SizeLemmas.{pages_short}

pub ints_fit : (column : Column) (cells : List Value) → column.physical ≡ pos 1 → column.optional ≡ true → cells ≡ value.Int (pos 1) ∷ value.Null ∷ value.Int (negsuc 0) ∷ [] → FitsPage column cells
ints_fit column cells physical optional is =
    let values : length (flat_map value_bytes cells) ≡ 8 = ap (λ (cs : List Value). length (flat_map value_bytes cs)) is in
    let three : length cells ≡ 3 = ap length is in
    record { each = rw (is, physical, optional) refl; count = omega arith; size = omega (arith, pages_short column cells) }

pub truths_fit : (column : Column) (cells : List Value) → column.physical ≡ pos 0 → cells ≡ value.Boolean true ∷ value.Boolean false ∷ value.Boolean true ∷ [] → FitsPage column cells
truths_fit column cells physical is =
    let values : length (flat_map value_bytes cells) ≡ 0 = ap (λ (cs : List Value). length (flat_map value_bytes cs)) is in
    let three : length cells ≡ 3 = ap length is in
    record { each = rw (is, physical) refl; count = omega arith; size = omega (arith, pages_short column cells) }
