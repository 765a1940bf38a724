-- Values in JSON, and the members of objects. JSON is what serde_json reads. A reader gives none where the value is
-- another one than it reads.
use Rattle.std.specs.Prelude.{ℕ, ◌^◌, nat_lt, if◌then◌else◌, List, [], ◌∷◌, Option, Some, None, is_none, option_map, option_and_then}
use Rattle.std.specs.Str.{bytes_eq}
use Rattle.hudi_base.specs.InstantTime.{time_of}
use Rattle.file_names.specs.FileName.{action_name}
use Rattle.file_names.specs.declared.file_name.Action.{Action}
use Rattle.file_names.specs.declared.file_name.Action.TheVariants as action
use Rattle.serde_json.specs.Data.{Data, null, Items, no_items, item}
use Rattle.serde_json.specs.Find.{get, as_str, as_number, as_u64, as_array}
use Rattle.table_forms.specs.JsonObjects.{least_unknown}

-- what is found in one value goes on to what is found with it
infixl 10 ◌>>=◌
abbrev pub ◌>>=◌ : {A B : Type 0} → Option A → (A → Option B) → Option B
found >>= f = option_and_then f found

-- a text, a number of 64 bits, one of 32 bits, and a time
abbrev pub text_in : Data → Option (List ℕ)
text_in d = as_str d

abbrev pub number_in : Data → Option ℕ
number_in d = as_number d >>= as_u64

abbrev pub number_32_in : Data → Option ℕ
number_32_in d = number_in d >>= λ n. if nat_lt n (2 ^ 32) then Some n else None

abbrev pub time_in : Data → Option ℕ
time_in d = as_str d >>= time_of

-- the action that a rollback takes back: a deltacommit or a replacecommit
abbrev pub kind_of_name : List ℕ → Option Action
kind_of_name text =
    if bytes_eq text (action_name action.Delta) then Some action.Delta
    else if bytes_eq text (action_name action.Replace) then Some action.Replace
    else None

abbrev pub kind_in : Data → Option Action
kind_in d = text_in d >>= kind_of_name

-- null, or a value
abbrev pub or_null : {A : Type 0} → (Data → Option A) → Data → Option (Option A)
or_null reads null = Some None
or_null reads d = option_map Some (reads d)

-- the values of the items, where each item has one
abbrev pub all_of : {A : Type 0} → (Data → Option A) → Items → Option (List A)
all_of reads no_items = Some []
all_of reads (item d ds) = reads d >>= λ x. option_map (λ xs. x ∷ xs) (all_of reads ds)

-- an array of values
abbrev pub list_in : {A : Type 0} → (Data → Option A) → Data → Option (List A)
list_in reads d = as_array d >>= all_of reads

-- the value of a member
abbrev pub at_member : {A : Type 0} → (Data → Option A) → List ℕ → Data → Option A
at_member reads name d = get name d >>= reads

-- what was found, where the object has no other members than these
abbrev pub only : {A : Type 0} → List (List ℕ) → Data → Option A → Option A
only known d found = if is_none (least_unknown known d) then found else None
