use Rattle.std.proofs.Common.{◌≡◌, map, take}
use Rattle.serde_json.specs.View.{view}
use Rattle.meta_parts.proofs.form.SequenceForm.to_json.Given as goal

abbrev pub invariant-loop-x : goal.invariant-loop-x
invariant-loop-x g l = map view l.values.items ≡ map (g.T.Form.writes l.table) (take l.x-index l.x-items)
