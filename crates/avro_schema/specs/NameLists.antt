-- Lists of names with a table of them; for private clauses.
use Rattle.std.specs.Prelude.{◌≡◌, ℕ, List, is_some}
use Rattle.std.specs.Borrow.{Bor}
use Rattle.std.specs.BTreeMap.{BTreeMap, get_by}
use Rattle.std.specs.Cmp.Lexicographic.{slice_cmp}
use Rattle.std.specs.Ordering.{nat_cmp}
use Rattle.avro_schema.specs.Names.{is_among}

-- the keys of the table are the names of the list
abbrev pub IsTableOf : {X : Type 0} → List (List ℕ) → BTreeMap (Bor (List ℕ)) X → Type 0
IsTableOf names table = (name : List ℕ) → is_some (get_by (λ k. slice_cmp nat_cmp name k.now) table) ≡ is_among names name
