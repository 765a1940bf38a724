-- JSON objects with exactly the members that are expected. The rules are this project's own; JSON is what serde_json
-- reads.
use Rattle.std.specs.Prelude.{◌≢◌, ℕ, IsTrue, not, if◌then◌else◌, List, [], ◌∷◌, Option, Some, None, option_and_then}
use Rattle.std.specs.List.{find, list_any}
use Rattle.std.specs.Str.{bytes_eq, is_utf8}
use Rattle.std.specs.Ordering.{nat_cmp, is_gt}
use Rattle.std.specs.declared.cmp.Ordering.TheVariants.{Less}
use Rattle.std.specs.Cmp.Lexicographic.{slice_cmp}
use Rattle.serde_json.specs.Data.{Data, object, Items, Members, no_members, member}
use Rattle.serde_json.specs.Find.{get, as_str, as_number, as_u64, as_array}
use Rattle.serde_json.specs.Read.{read}

-- the JSON value of bytes, which are UTF-8
unfoldable pub json_of : List ℕ → Option Data
json_of bytes = if is_utf8 bytes then read bytes else None

-- the names of the members, in their order, which is that of the bytes
abbrev pub names_of_members : Members → List (List ℕ)
names_of_members no_members = []
names_of_members (member name value more) = name ∷ names_of_members more

abbrev pub member_names : Data → List (List ℕ)
member_names (object members) = names_of_members members
member_names _ = []

-- the first member with none of these names
unfoldable pub least_unknown : List (List ℕ) → Data → Option (List ℕ)
least_unknown known value = find (λ name. not (list_any (λ k. bytes_eq k name) known)) (member_names value)

-- the object has a member of this name, which is none of these
abbrev pub HasUnknown : List (List ℕ) → Data → List ℕ → Type 0
HasUnknown known value name = IsTrue (list_any (λ n. bytes_eq n name) (member_names value)) × IsTrue (not (list_any (λ k. bytes_eq k name) known))

-- and none of these is before it in byte order
abbrev pub IsLeastUnknown : List (List ℕ) → Data → List ℕ → Type 0
IsLeastUnknown known value name = (other : List ℕ) → HasUnknown known value other → slice_cmp nat_cmp other name ≢ Less

-- the lesser of two names, in byte order, where there are any
abbrev pub lesser_name : Option (List ℕ) → Option (List ℕ) → Option (List ℕ)
lesser_name None b = b
lesser_name (Some a) None = Some a
lesser_name (Some a) (Some b) = if is_gt (slice_cmp nat_cmp a b) then Some b else Some a

-- what the members of an object say: a text, a whole number from 0 that fits 64 bits, an array
abbrev pub text_at : List ℕ → Data → Option (List ℕ)
text_at name value = option_and_then as_str (get name value)

abbrev pub number_at : List ℕ → Data → Option ℕ
number_at name value = option_and_then as_u64 (option_and_then as_number (get name value))

abbrev pub items_at : List ℕ → Data → Option Items
items_at name value = option_and_then as_array (get name value)
