use Rattle.std.proofs.Common.{◌≡◌, length, take}
use Rattle.std.specs.List.{flat_map, zip}
use Rattle.row_values.specs.Cells.{cells_view}
use Rattle.row_values.proofs.CellLemmas.{field_bytes}
use Rattle.row_records.proofs.lengths.fields_length.Given as goal

-- the values so far
abbrev pub invariant-loop-i : goal.invariant-loop-i
invariant-loop-i l = l.sum ≡ length (flat_map field_bytes (take l.i (zip l.fields (cells_view l.cells))))
