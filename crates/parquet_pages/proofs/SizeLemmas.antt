-- How long written levels and pages are.
use Rattle.std.proofs.Common.{◌≡◌, ℕ, ℤ, suc, ◌+◌, ◌*◌, ◌≤◌, Bool, true, false, List, [], ◌∷◌, length, map, drop, ap, arith, refl}
use Rattle.std.specs.Prelude.{if◌then◌else◌, zero}
use Rattle.std.specs.Bool.{beq}
use Rattle.std.specs.List.{flat_map}
use Rattle.std.proofs.lemmas.List.{length-append, length-map}
use Rattle.byteorder.specs.Endian.{little_bytes}
use Rattle.byte_fields.specs.Varints.{varint, zigzag}
use Rattle.byte_fields.specs.Prefixed.{with_length}
use Rattle.byte_fields.proofs.NumberLemmas.{little4}
use Rattle.byte_fields.proofs.VarintLemmas.{length-varint}
use Rattle.column_cells.specs.Cells.{is_number}
use Rattle.hudi_base.specs.declared.column.Column.{Column}
use Rattle.hudi_base.specs.declared.value.Value.{Value}
use Rattle.hudi_base.specs.declared.value.Value.TheVariants as value
use Rattle.parquet_meta.specs.declared.page_header.PageHeader.{PageHeader}
use Rattle.parquet_meta.specs.Written.{number_bytes, page_header_bytes}
use Rattle.parquet_pages.specs.Levels.{run_bytes, join, runs_of, levels_body, levels_bytes}
use Rattle.parquet_pages.specs.Plain.{value_bytes, bit_bytes, bytes_for, truths_of, values_bytes}
use Rattle.parquet_pages.specs.Pages.{has_value, body_bytes, header_of, page_bytes}

-- ---- levels

run_le : (run : ℕ × Bool) → length (run_bytes run) ≤ 11
run_le run = omega (arith, length-append (varint (2 * run.0)) ((if run.1 then 1 else 0) ∷ []), length-varint (2 * run.0))

join_le : (run : ℕ × Bool) (runs : List (ℕ × Bool)) → length (flat_map run_bytes (join run runs)) ≤ 11 + length (flat_map run_bytes runs)
join_le run [] = omega (arith, length-append (run_bytes run) [], run_le run)
join_le run (first ∷ runs) = by_level (beq run.1 first.1)
  where
    by_level : (b : Bool) → length (flat_map run_bytes (if b then (run.0 + first.0, first.1) ∷ runs else run ∷ first ∷ runs)) ≤ 11 + length (flat_map run_bytes (first ∷ runs))
    by_level true = omega (arith, length-append (run_bytes (run.0 + first.0, first.1)) (flat_map run_bytes runs), run_le (run.0 + first.0, first.1), length-append (run_bytes first) (flat_map run_bytes runs))
    by_level false = omega (arith, length-append (run_bytes run) (flat_map run_bytes (first ∷ runs)), run_le run)

pub levels_short : (levels : List Bool) → length (levels_body levels) ≤ 11 * length levels
unfolding runs_of
levels_short [] = omega arith
levels_short (level ∷ levels) = omega (arith, join_le (1, level) (runs_of levels), levels_short levels)

-- ---- values

truths_le : (cells : List Value) → length (truths_of cells) ≤ length cells
truths_le [] = omega arith
truths_le (value.Boolean truth ∷ cells) = omega (arith, truths_le cells)
truths_le (_ ∷ cells) = omega (arith, truths_le cells)

pub length-bit_bytes : (n : ℕ) (bits : List Bool) → length (bit_bytes n bits) ≡ n
unfolding bit_bytes
length-bit_bytes zero bits = refl
length-bit_bytes (suc n) bits = ap suc (length-bit_bytes n (drop 8 bits))

values_le : (column : Column) (cells : List Value) → length (values_bytes column cells) ≤ length cells + length (flat_map value_bytes cells)
unfolding values_bytes
values_le column cells = by_type (is_number 0 column.physical)
  where
    by_type : (b : Bool) → length (if b then bit_bytes (bytes_for (length (truths_of cells))) (truths_of cells) else flat_map value_bytes cells) ≤ length cells + length (flat_map value_bytes cells)
    by_type true = omega (arith, length-bit_bytes (bytes_for (length (truths_of cells))) (truths_of cells), truths_le cells)
    by_type false = omega arith

-- ---- pages

number_le : (n : ℤ) → length (number_bytes n) ≤ 10
number_le n = length-varint (zigzag n)

header_le : (h : PageHeader) → length (page_header_bytes h) ≤ 80
header_le h =
    simp length-append (omega (arith, number_le h.kind, number_le h.uncompressed, number_le h.compressed, number_le h.values, number_le h.encoding, number_le h.def_encoding, number_le h.rep_encoding))

body_le : (column : Column) (cells : List Value) → length (body_bytes column cells) ≤ 4 + 12 * length cells + length (flat_map value_bytes cells)
unfolding with_length
body_le column cells = omega (arith, length-append (let l : List ℕ = if column.optional then levels_bytes (map has_value cells) else [] in l) (values_bytes column cells), by_optional column.optional, values_le column cells)
  where
    by_optional : (b : Bool) → length (let l : List ℕ = if b then levels_bytes (map has_value cells) else [] in l) ≤ 4 + 11 * length cells
    by_optional true =
        let body : List ℕ = levels_body (map has_value cells) in
        omega (arith, length-append (little_bytes 4 (length body)) body, little4.length_bytes (length body), levels_short (map has_value cells), length-map cells has_value)
    by_optional false = omega arith

pub pages_short : (column : Column) (cells : List Value) → length (page_bytes column cells) ≤ 84 + 12 * length cells + length (flat_map value_bytes cells)
pages_short column cells =
    let body : List ℕ = body_bytes column cells in
    let header : List ℕ = page_header_bytes (header_of (length body) (length cells)) in
    omega (arith, length-append header body, header_le (header_of (length body) (length cells)), body_le column cells)
