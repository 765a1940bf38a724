-- The heads of unions.
use Rattle.std.proofs.Common.{◌≡◌, ◌≤◌, List, [], ◌∷◌, length, Ok, refl, arith}
use Rattle.serde_json.specs.Data.{array}
use Rattle.serde_json.specs.View.{items_view}
use Rattle.serde_json.specs.declared.value.Value.{Value}
use Rattle.avro_schema.specs.Heads.{union, head_of}

pub head_of_branches : (values : List Value) → 1 ≤ length values → head_of (array (items_view values)) ≡ Ok (union (items_view values))
unfolding head_of
head_of_branches [] filled = absurd (omega arith)
head_of_branches (value ∷ values) filled = refl
