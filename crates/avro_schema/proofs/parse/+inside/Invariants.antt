use Rattle.std.proofs.Common.{◌≡◌, ◌+◌, ◌*◌, [], map, drop}
use Rattle.serde_json.specs.View.{items_view}
use Rattle.avro_schema.specs.AvroTypes.{type_of, field_of}
use Rattle.avro_schema.specs.SchemaTexts.{head_within, type_within, branches_from, fields_from}
use Rattle.avro_schema.proofs.parse.+inside.Given as goal

-- the branches so far and those that follow
abbrev pub invariant-branches_of-loop-value : goal.invariant-branches_of-loop-value
invariant-branches_of-loop-value l =
    branches_from (head_within l.levels) (type_within l.levels) (map type_of l.found) (items_view (drop l.value-index l.values))
    ≡ branches_from (head_within l.levels) (type_within l.levels) [] (items_view l.values)

-- the fields so far and those that follow, and the names of those so far
abbrev pub invariant-fields_of-loop-value : goal.invariant-fields_of-loop-value
invariant-fields_of-loop-value l = record {
  read : fields_from (head_within l.levels) (type_within l.levels) (map field_of l.found) (items_view (drop l.value-index l.values))
      ≡ fields_from (head_within l.levels) (type_within l.levels) [] (items_view l.values);
  names : l.names ≡ map (λ f. f.0) (map field_of l.found);
}

abbrev pub decreases-type_within : goal.decreases-type_within
decreases-type_within l = 8 * l.levels + 0

abbrev pub decreases-inner_type : goal.decreases-inner_type
decreases-inner_type l = 8 * l.levels + 1

abbrev pub decreases-branch_after : goal.decreases-branch_after
decreases-branch_after l = 8 * l.levels + 1

abbrev pub decreases-only_inner : goal.decreases-only_inner
decreases-only_inner l = 8 * l.levels + 2

abbrev pub decreases-field_after : goal.decreases-field_after
decreases-field_after l = 8 * l.levels + 2

abbrev pub decreases-placed_branch : goal.decreases-placed_branch
decreases-placed_branch l = 8 * l.levels + 3

abbrev pub decreases-placed_field : goal.decreases-placed_field
decreases-placed_field l = 8 * l.levels + 3

abbrev pub decreases-branches_of : goal.decreases-branches_of
decreases-branches_of l = 8 * l.levels + 4

abbrev pub decreases-fields_of : goal.decreases-fields_of
decreases-fields_of l = 8 * l.levels + 4

abbrev pub decreases-union_inside : goal.decreases-union_inside
decreases-union_inside l = 8 * l.levels + 5

abbrev pub decreases-record_inside : goal.decreases-record_inside
decreases-record_inside l = 8 * l.levels + 5
