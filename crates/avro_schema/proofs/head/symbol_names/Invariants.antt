use Rattle.std.proofs.Common.{◌≡◌, [], drop}
use Rattle.serde_json.specs.View.{items_view}
use Rattle.avro_schema.specs.Heads.{symbols_from}
use Rattle.avro_schema.proofs.head.symbol_names.Given as goal

-- the symbols so far and those that follow
abbrev pub invariant-loop-value : goal.invariant-loop-value
invariant-loop-value l = symbols_from l.found (items_view (drop l.value-index l.values)) ≡ symbols_from [] (items_view l.values)
