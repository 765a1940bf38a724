-- The branches and fields of a schema, and of the type that it stands for.
use Rattle.std.proofs.Common.{◌≡◌, ℕ, zero, suc, ◌+◌, ◌≤◌, ◌<◌, List, [], ◌∷◌, length, get_or, drop, map, refl, sym, ap, ◌∙◌, arith, rules}
use Rattle.std.proofs.lemmas.List.{drop_more}
use Rattle.std.proofs.Math.ListN.{drop_of_length-le}
use Rattle.avro_schema.specs.declared.schema.Schema.{Schema, Array, Map, the_lemmas}
use Rattle.avro_schema.specs.declared.schema.Field.{Field}
use Rattle.avro_schema.specs.AvroTypes.{type_of, field_of, branches_of, fields_of, field, no_fields, array_of, map_of}
use Rattle.avro_schema.specs.Reading.{branch_count, branch_at, value_at}

pub branch_count_of : (branches : List Schema) → branch_count (branches_of (map type_of branches)) ≡ length branches
branch_count_of [] = refl
branch_count_of (x ∷ xs) = ap suc (branch_count_of xs)

pub branch_at_of : (branches : List Schema) (i : ℕ) (or : Schema) (left : ℕ) (bs : List ℕ) → i < length branches → branch_at (branches_of (map type_of branches)) i left bs ≡ value_at (type_of (get_or branches i or)) left bs
branch_at_of [] i or left bs below = absurd (omega arith)
branch_at_of (x ∷ xs) zero or left bs below = refl
branch_at_of (x ∷ xs) (suc i) or left bs below = branch_at_of xs i or left bs (omega arith)

pub fields_drop : (fields : List Field) (i : ℕ) (f : Field) → i < length fields → f ≡ get_or fields i f
    → fields_of (map field_of (drop i fields)) ≡ field (field_of f).0 (field_of f).1 (fields_of (map field_of (drop (i + 1) fields)))
fields_drop fields i f below is =
    ap (λ (fs : List Field). fields_of (map field_of fs)) (drop_more fields i f below) ∙ ap (λ (g : Field). field (field_of g).0 (field_of g).1 (fields_of (map field_of (drop (i + 1) fields)))) (sym is)

pub fields_over : (fields : List Field) (i : ℕ) → length fields ≤ i → fields_of (map field_of (drop i fields)) ≡ no_fields
fields_over fields i over = ap (λ (fs : List Field). fields_of (map field_of fs)) (drop_of_length-le fields over)

pub branch_at_is : (branches : List Schema) (i : ℕ) (x : Schema) (left : ℕ) (bs : List ℕ) → i < length branches → x ≡ get_or branches i x → branch_at (branches_of (map type_of branches)) i left bs ≡ value_at (type_of x) left bs
branch_at_is branches i x left bs below is = branch_at_of branches i x left bs below ∙ ap (λ (y : Schema). value_at (type_of y) left bs) (sym is)

pub type_of_Array : (item : Schema) → type_of (Array item) ≡ array_of (type_of item)
type_of_Array item = search (rules, the_lemmas)

pub type_of_Map : (value : Schema) → type_of (Map value) ≡ map_of (type_of value)
type_of_Map value = search (rules, the_lemmas)
