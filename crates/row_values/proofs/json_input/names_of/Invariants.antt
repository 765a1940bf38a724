use Rattle.std.proofs.Common.{◌≡◌, map, take}
use Rattle.row_values.proofs.json_input.names_of.Given as goal

-- the names so far
abbrev pub invariant-loop-field : goal.invariant-loop-field
invariant-loop-field l = map (λ name. name.now) l.names.items ≡ map (λ field. field.name) (take l.field-index l.fields)
