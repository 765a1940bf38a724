use Rattle.std.proofs.Common.{◌≡◌, map, take, All}
use Rattle.avro_schema.specs.Fits.{Fits}
use Rattle.row_values.specs.Layouts.{own_type}
use Rattle.serde_json.specs.View.{view}
use Rattle.upsert_writer.specs.BatchFits.{IsFit}
use Rattle.script_run.specs.Lines.{given_row}
use Rattle.script_run.proofs.lines.given_rows.Given as goal

-- the rows so far, as they are given
abbrev pub invariant-loop-row : goal.invariant-loop-row
invariant-loop-row l = record {
  rows : l.given ≡ map (λ row. given_row l.codec.records.own (view row)) (take l.row-index l.rows);
  fit : All (IsFit (Fits (own_type l.codec.records.own))) l.given;
}
