-- What the entries of lines tell, none of which is refused.
use Rattle.std.proofs.Common.{◌≡◌, ℕ, Bool, true, false, not, ◌||◌, cond, is_some, IsTrue, List, [], ◌∷◌, ◌++◌, length, Option, Some, None, option_and_then, refl, ap, subst, ◌∙◌}
use Rattle.std.specs.Str.{bytes_eq}
use Rattle.std.proofs.lemmas.Slice.Eq.{bytes_eq-Decides}
use Rattle.table_forms.specs.Decimals.{decimal_of}
use Rattle.table_forms.specs.Pieces.{split_once}
use Rattle.table_props.specs.declared.property_key.PropertyKey.{PropertyKey}
use Rattle.table_props.specs.declared.property_key.PropertyKey.TheVariants.{TableName, TableType, TableVersion, KeyField, PartitionField, OrderingField, LayoutVersion, Buckets, TableSchema}
use Rattle.table_props.specs.Keys.{key_text, key_of, is_allowed, is_table_name, is_bucket_count}
use Rattle.table_props.specs.PropsTexts.{Entries, entries_in, value_if, value_of, value_in, is_bad, is_bad_split, is_bad_entry, first_bad, ◌>>=◌}

pub bind_Some : {A B : Type 0} (o : Option A) (f : A → Option B) (y : B) → (o >>= f) ≡ Some y → (x : A) × (o ≡ Some x) × (f x ≡ Some y)
bind_Some (Some x) f y e = (x, refl, e)
bind_Some None f y e = absurd cc

pub same_bytes : (xs ys : List ℕ) → bytes_eq xs ys ≡ true → xs ≡ ys
same_bytes xs ys e = (bytes_eq-Decides xs ys).0 e

pub some_is : {A : Type 0} (x y : A) → ◌≡◌ {A = Option A} (Some x) (Some y) → x ≡ y
some_is x y e = cc

pub key_of_text : (key : PropertyKey) → key_of (key_text key) ≡ Some key
unfolding key_of
key_of_text TableName = refl
key_of_text TableType = refl
key_of_text TableVersion = refl
key_of_text KeyField = refl
key_of_text PartitionField = refl
key_of_text OrderingField = refl
key_of_text LayoutVersion = refl
key_of_text Buckets = refl
key_of_text TableSchema = refl

not_refused : (known allowed : Bool) → (known || not allowed) ≡ false → allowed ≡ true
not_refused true allowed e = absurd cc
not_refused false true e = refl
not_refused false false e = absurd cc

-- a value that a line gives, which isn't refused
module _ (key : PropertyKey) (value : List ℕ) (before : List (List ℕ)) (line : List ℕ) where
  entry_allowed : (parts : List ℕ × List ℕ) (same : Bool) → bytes_eq parts.0 (key_text key) ≡ same → cond same (Some parts.1) None ≡ Some value
      → is_bad_entry before (key_of parts.0) parts.1 ≡ false → is_allowed key value ≡ true
  entry_allowed parts false e is fine = absurd cc
  entry_allowed parts true e is fine =
      let own : key_of parts.0 ≡ Some key = ap key_of (same_bytes parts.0 (key_text key) e) ∙ key_of_text key in
      let told : parts.1 ≡ value = cc in
      let allowed = not_refused (is_some (value_in key before)) (is_allowed key parts.1) (rw own at fine) in
      subst (λ (v : List ℕ). is_allowed key v ≡ true) told allowed

  split_allowed : (o : Option (List ℕ × List ℕ)) → value_if key o ≡ Some value → is_bad_split before line o ≡ false → is_allowed key value ≡ true
  split_allowed None is fine = absurd cc
  split_allowed (Some parts) is fine = entry_allowed parts (bytes_eq parts.0 (key_text key)) refl is fine

  line_allowed : value_of key line ≡ Some value → is_bad before line ≡ false → is_allowed key value ≡ true
  unfolding value_of is_bad
  line_allowed is fine = split_allowed (split_once 61 line) is fine

none_first : (bad : Bool) (place : ℕ) (more : Option ℕ) → cond bad (Some place) more ≡ None → (bad ≡ false) × (more ≡ None)
none_first true place more e = absurd cc
none_first false place more e = (refl, e)

allowed_step : (key : PropertyKey) (value : List ℕ) (before : List (List ℕ)) (line : List ℕ) (later o : Option (List ℕ)) → value_of key line ≡ o → is_bad before line ≡ false
    → (later ≡ Some value → is_allowed key value ≡ true) → cond (is_some o) o later ≡ Some value → is_allowed key value ≡ true
allowed_step key value before line later (Some v) e fine more found = line_allowed key value before line (e ∙ found) fine
allowed_step key value before line later None e fine more found = more found

pub allowed_in : (key : PropertyKey) (value : List ℕ) (before lines : List (List ℕ)) → first_bad before lines ≡ None → value_in key lines ≡ Some value → is_allowed key value ≡ true
allowed_in key value before [] none is = absurd cc
allowed_in key value before (line ∷ lines) none is =
    let fine = none_first (is_bad before line) (length before) (first_bad (before ++ line ∷ []) lines) none in
    allowed_step key value before line (value_in key lines) (value_of key line) refl fine.0 (allowed_in key value (before ++ line ∷ []) lines fine.1) is

-- the lines have these entries
pub record HasEntries (lines : List (List ℕ)) (e : Entries) : Type 0 where
  pub name : value_in TableName lines ≡ Some e.name
  pub buckets : option_and_then decimal_of (value_in Buckets lines) ≡ Some e.buckets

pub entries_parts : (lines : List (List ℕ)) (e : Entries) → entries_in lines ≡ Some e → HasEntries lines e
unfolding entries_in
entries_parts lines e is =
    let name = bind_Some (value_in TableName lines) _ e is in
    let type = bind_Some (value_in TableType lines) _ e name.2 in
    let version = bind_Some (value_in TableVersion lines) _ e type.2 in
    let key_field = bind_Some (value_in KeyField lines) _ e version.2 in
    let partition_field = bind_Some (value_in PartitionField lines) _ e key_field.2 in
    let layout = bind_Some (value_in LayoutVersion lines) _ e partition_field.2 in
    let buckets = bind_Some (option_and_then decimal_of (value_in Buckets lines)) _ e layout.2 in
    let schema = bind_Some (value_in TableSchema lines) _ e buckets.2 in
    let own : record { name = name.0; key_field = key_field.0; partition_field = partition_field.0; ordering_field = value_in OrderingField lines; buckets = buckets.0; schema = schema.0 } ≡ e = some_is _ e schema.2 in record {
      name = name.1 ∙ ap (λ (x : Entries). Some x.name) own;
      buckets = buckets.1 ∙ ap (λ (x : Entries). Some x.buckets) own;
    }

-- the name is a table's
pub name_allowed : (lines : List (List ℕ)) (e : Entries) → first_bad [] lines ≡ None → entries_in lines ≡ Some e → IsTrue (is_table_name e.name)
unfolding is_allowed
name_allowed lines e none is = allowed_in TableName e.name [] lines none (entries_parts lines e is).name

count_allowed : (value : Option (List ℕ)) (count : ℕ) → option_and_then decimal_of value ≡ Some count → ((v : List ℕ) → value ≡ Some v → is_allowed Buckets v ≡ true) → is_bucket_count count ≡ true
unfolding is_allowed
count_allowed None count e allowed = absurd cc
count_allowed (Some v) count e allowed = rw e at (allowed v refl)

-- the number of buckets is within its limits
pub buckets_allowed : (lines : List (List ℕ)) (e : Entries) → first_bad [] lines ≡ None → entries_in lines ≡ Some e → IsTrue (is_bucket_count e.buckets)
buckets_allowed lines e none is =
    count_allowed (value_in Buckets lines) e.buckets (entries_parts lines e is).buckets (λ v told. allowed_in Buckets v [] lines none told)
