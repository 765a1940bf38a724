-- Parts of pages.
use Rattle.std.proofs.Common.{◌≡◌, ℕ, ◌≤◌, Bool, true, List, [], ◌++◌, length, map, ap, arith}
use Rattle.std.specs.Prelude.{if◌then◌else◌}
use Rattle.std.proofs.lemmas.List.{length-append}
use Rattle.byteorder.specs.Endian.{little_bytes}
use Rattle.byte_fields.specs.Prefixed.{with_length}
use Rattle.hudi_base.specs.declared.column.Column.{Column}
use Rattle.hudi_base.specs.declared.value.Value.{Value}
use Rattle.parquet_pages.specs.Levels.{levels_body, levels_bytes}
use Rattle.parquet_pages.specs.Plain.{values_bytes}
use Rattle.parquet_pages.specs.Pages.{has_value, body_bytes}

-- the levels of a body are a part of it
pub levels_le : (column : Column) (cells : List Value) → column.optional ≡ true → length (levels_body (map has_value cells)) ≤ length (body_bytes column cells)
unfolding with_length
levels_le column cells is =
    let body : List ℕ = levels_body (map has_value cells) in
    let parts : body_bytes column cells ≡ levels_bytes (map has_value cells) ++ values_bytes column cells = ap (λ (b : Bool). (if b then levels_bytes (map has_value cells) else []) ++ values_bytes column cells) is in
    omega (arith, ap length parts, length-append (levels_bytes (map has_value cells)) (values_bytes column cells), length-append (little_bytes 4 (length body)) body)
