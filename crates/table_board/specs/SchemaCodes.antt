-- A code of the schemas in the properties that a board shows: the constructors one behind another, each behind its parts. It says
-- nothing of a board; the prover tells values apart by it.
use Rattle.std.specs.Prelude.{◌≡◌, ℕ, ◌==◌, List, [], ◌∷◌, ◌++◌, if◌then◌else◌, refl}
use Rattle.std.proofs.Common.{ap, sym, ◌∙◌, append-nil, append_assoc}
use Rattle.std.specs.Coded.{Coded, code_by, coded×, coded_list, coded_ℕ}
use Rattle.avro_schema.specs.AvroTypes.{AvroType, null, boolean, int, long, bytes, string, fixed_of, enum_of, array_of, map_of, union_of, record_of, Branches, no_branches, branch, Fields, no_fields, field}

-- a constructor: its number, a name, a size, symbols
abbrev Sign : Type 0
Sign = ℕ × (List ℕ × (ℕ × List (List ℕ)))

abbrev sign : ℕ → Sign
sign number = (number, ([], (0, [])))

abbrev named : ℕ → List ℕ → Sign
named number name = (number, (name, (0, [])))

abbrev mutual
  signs : AvroType → List Sign
  signs null = sign 0 ∷ []
  signs boolean = sign 1 ∷ []
  signs int = sign 2 ∷ []
  signs long = sign 3 ∷ []
  signs bytes = sign 4 ∷ []
  signs string = sign 5 ∷ []
  signs (fixed_of name size) = (6, (name, (size, []))) ∷ []
  signs (enum_of name symbols) = (7, (name, (0, symbols))) ∷ []
  signs (array_of item) = signs item ++ sign 8 ∷ []
  signs (map_of value) = signs value ++ sign 9 ∷ []
  signs (union_of branches) = branch_signs branches ++ sign 10 ∷ []
  signs (record_of name fields) = field_signs fields ++ named 11 name ∷ []

  branch_signs : Branches → List Sign
  branch_signs no_branches = sign 12 ∷ []
  branch_signs (branch type branches) = signs type ++ (branch_signs branches ++ sign 13 ∷ [])

  field_signs : Fields → List Sign
  field_signs no_fields = sign 14 ∷ []
  field_signs (field name type fields) = signs type ++ (field_signs fields ++ named 15 name ∷ [])

-- what was read so far, the last one first
data Part : Type 0 where
  type_part : AvroType → Part
  branches_part : Branches → Part
  fields_part : Fields → Part

abbrev array_on : List Part → List Part
array_on (type_part item ∷ rest) = type_part (array_of item) ∷ rest
array_on rest = rest

abbrev map_on : List Part → List Part
map_on (type_part value ∷ rest) = type_part (map_of value) ∷ rest
map_on rest = rest

abbrev union_on : List Part → List Part
union_on (branches_part branches ∷ rest) = type_part (union_of branches) ∷ rest
union_on rest = rest

abbrev record_on : List ℕ → List Part → List Part
record_on name (fields_part fields ∷ rest) = type_part (record_of name fields) ∷ rest
record_on name rest = rest

abbrev branch_on : List Part → List Part
branch_on (branches_part branches ∷ (type_part type ∷ rest)) = branches_part (branch type branches) ∷ rest
branch_on rest = rest

abbrev field_on : List ℕ → List Part → List Part
field_on name (fields_part fields ∷ (type_part type ∷ rest)) = fields_part (field name type fields) ∷ rest
field_on name rest = rest

abbrev step : Sign → List Part → List Part
step (number, (name, (size, symbols))) parts =
    if number == 0 then type_part null ∷ parts else
    if number == 1 then type_part boolean ∷ parts else
    if number == 2 then type_part int ∷ parts else
    if number == 3 then type_part long ∷ parts else
    if number == 4 then type_part bytes ∷ parts else
    if number == 5 then type_part string ∷ parts else
    if number == 6 then type_part (fixed_of name size) ∷ parts else
    if number == 7 then type_part (enum_of name symbols) ∷ parts else
    if number == 8 then array_on parts else
    if number == 9 then map_on parts else
    if number == 10 then union_on parts else
    if number == 11 then record_on name parts else
    if number == 12 then branches_part no_branches ∷ parts else
    if number == 13 then branch_on parts else
    if number == 14 then fields_part no_fields ∷ parts else field_on name parts

abbrev read : List Sign → List Part → List Part
read [] parts = parts
read (s ∷ more) parts = read more (step s parts)

abbrev first_type : List Part → AvroType
first_type (type_part type ∷ rest) = type
first_type rest = null

read_on : (one more : List Sign) (parts : List Part) → read (one ++ more) parts ≡ read more (read one parts)
read_on [] more parts = refl
read_on (s ∷ one) more parts = read_on one more (step s parts)

mutual
  read_type : (type : AvroType) (parts : List Part) → read (signs type) parts ≡ type_part type ∷ parts
  read_type null parts = refl
  read_type boolean parts = refl
  read_type int parts = refl
  read_type long parts = refl
  read_type bytes parts = refl
  read_type string parts = refl
  read_type (fixed_of name size) parts = refl
  read_type (enum_of name symbols) parts = refl
  read_type (array_of item) parts = read_on (signs item) (sign 8 ∷ []) parts ∙ ap (read (sign 8 ∷ [])) (read_type item parts)
  read_type (map_of value) parts = read_on (signs value) (sign 9 ∷ []) parts ∙ ap (read (sign 9 ∷ [])) (read_type value parts)
  read_type (union_of branches) parts = read_on (branch_signs branches) (sign 10 ∷ []) parts ∙ ap (read (sign 10 ∷ [])) (read_branches branches parts)
  read_type (record_of name fields) parts = read_on (field_signs fields) (named 11 name ∷ []) parts ∙ ap (read (named 11 name ∷ [])) (read_fields fields parts)

  read_branches : (branches : Branches) (parts : List Part) → read (branch_signs branches) parts ≡ branches_part branches ∷ parts
  read_branches no_branches parts = refl
  read_branches (branch type branches) parts =
      read_on (signs type) (branch_signs branches ++ sign 13 ∷ []) parts ∙ ap (read (branch_signs branches ++ sign 13 ∷ [])) (read_type type parts)
      ∙ read_on (branch_signs branches) (sign 13 ∷ []) (type_part type ∷ parts) ∙ ap (read (sign 13 ∷ [])) (read_branches branches (type_part type ∷ parts))

  read_fields : (fields : Fields) (parts : List Part) → read (field_signs fields) parts ≡ fields_part fields ∷ parts
  read_fields no_fields parts = refl
  read_fields (field name type fields) parts =
      read_on (signs type) (field_signs fields ++ named 15 name ∷ []) parts ∙ ap (read (field_signs fields ++ named 15 name ∷ [])) (read_type type parts)
      ∙ read_on (field_signs fields) (named 15 name ∷ []) (type_part type ∷ parts) ∙ ap (read (named 15 name ∷ [])) (read_fields fields (type_part type ∷ parts))

pub schema_code : Coded AvroType
schema_code =
    code_by (List Sign) (coded_list (coded× coded_ℕ (coded× (coded_list coded_ℕ) (coded× coded_ℕ (coded_list (coded_list coded_ℕ))))))
    signs (λ code. first_type (read code [])) (λ type. ap first_type (read_type type []))
