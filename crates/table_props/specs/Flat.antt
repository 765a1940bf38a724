-- Flat schemas: records of fields of primitive types, some of which may be null. The rules are this project's own.
use Rattle.std.specs.Prelude.{ℕ, List, [], ◌∷◌, Bool, true, false, not, ◌&&◌, nat_eq, if◌then◌else◌, Option, Some, None, is_none, unwrap_or, position, codes}
use Rattle.std.specs.List.{starts_with}
use Rattle.avro_schema.specs.AvroTypes.{AvroType, null, boolean, int, long, bytes, string, union_of, record_of, Branches, no_branches, branch, Fields, no_fields, field}

-- a type whose values are one cell each
abbrev pub is_cell_type : AvroType → Bool
is_cell_type boolean = true
is_cell_type int = true
is_cell_type long = true
is_cell_type bytes = true
is_cell_type string = true
is_cell_type _ = false

abbrev pub is_string_type : AvroType → Bool
is_string_type string = true
is_string_type _ = false

abbrev pub is_null_type : AvroType → Bool
is_null_type null = true
is_null_type _ = false

-- the second of two branches, where the first is null
abbrev pub branch_beside_null : Branches → Option AvroType
branch_beside_null (branch first (branch second no_branches)) = if is_null_type first then Some second else None
branch_beside_null _ = None

-- the type beside null, in a union of null and one other type in this order; else the type itself
abbrev pub type_beside_null : AvroType → AvroType
type_beside_null (union_of branches) = unwrap_or (branch_beside_null branches) (union_of branches)
type_beside_null type = type

-- a whole number, or null and a whole number
abbrev pub is_number_type : AvroType → Bool
is_number_type int = true
is_number_type long = true
is_number_type _ = false

abbrev pub is_rank_type : AvroType → Bool
is_rank_type type = is_number_type (type_beside_null type)

-- a cell's type, or null and one of these
abbrev pub is_flat_type : AvroType → Bool
is_flat_type type = is_cell_type (type_beside_null type)

-- a name that isn't kept for the columns before a table's own
abbrev pub is_own_name : List ℕ → Bool
is_own_name name = not (starts_with nat_eq name (codes "_hoodie_"))

abbrev pub is_flat_field : List ℕ × AvroType → Bool
is_flat_field f = is_flat_type f.1 && is_own_name f.0

-- the place of the first field that isn't flat
abbrev pub first_not_flat : List (List ℕ × AvroType) → Option ℕ
first_not_flat fields = position (λ f. not (is_flat_field f)) fields

-- the names and types of fields
abbrev pub listed : Fields → List (List ℕ × AvroType)
listed no_fields = []
listed (field name type more) = (name, type) ∷ listed more

-- the fields of a record; another type has none
abbrev pub fields_in : AvroType → List (List ℕ × AvroType)
fields_in (record_of name fields) = listed fields
fields_in _ = []

-- a record of flat fields
abbrev pub is_flat : AvroType → Bool
is_flat (record_of name fields) = is_none (first_not_flat (listed fields))
is_flat _ = false
