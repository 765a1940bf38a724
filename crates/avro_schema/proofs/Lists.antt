-- Lists: tests of their elements. Options: what is seen of a reference.
use Rattle.std.proofs.Common.{◌≡◌, ℕ, Bool, true, false, not, is_some, List, [], ◌∷◌, map, Option, Some, None, option_map, is_none, Bor, refl, ap}
use Rattle.std.specs.List.{list_any}
use Rattle.std.specs.Str.{bytes_eq}
use Rattle.avro_schema.specs.declared.schema.Schema.{Schema}
use Rattle.avro_schema.specs.AvroTypes.{type_of}
use Rattle.avro_schema.specs.Names.{is_among}
use Rattle.avro_schema.specs.SchemaTexts.{kind_of}

pub is_among_kinds : (kind : List ℕ) (found : List Schema) → is_among (map kind_of (map type_of found)) kind ≡ list_any (λ branch. bytes_eq (kind_of (type_of branch)) kind) found
is_among_kinds kind [] = refl
is_among_kinds kind (x ∷ xs) = rw (is_among_kinds kind xs) refl

pub is_none_of : (answer : Bool) (o : Option (Bor (List ℕ))) (seen : Option (List ℕ)) → is_some o ≡ not answer → option_map (λ text. text.now) o ≡ seen → answer ≡ is_none seen
is_none_of true (Some text) seen told e = absurd cc
is_none_of false (Some text) seen told e = ap is_none e
is_none_of true None seen told e = ap is_none e
is_none_of false None seen told e = absurd cc
