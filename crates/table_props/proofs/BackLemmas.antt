-- The written text of properties says them again.
use Rattle.std.proofs.Common.{◌≡◌, ℕ, ◌+◌, ◌<◌, ◌≤◌, ◌^◌, ◌&&◌, ◌||◌, Bool, true, false, not, cond, is_some, is_ok, nat_le, IsTrue, List, [], ◌∷◌, ◌++◌, map, length, Option, Some, None, IfSome, option_map, option_and_then, Ok, codes, refl, sym, ap, ◌∙◌, append_assoc, arith}
use Rattle.std.proofs.lemmas.Bool.Decides.{nat_tests}
use Rattle.std.proofs.lemmas.List.{map_push}
use Rattle.std.specs.Fmt.{decimal}
use Rattle.std.specs.List.{list_all}
use Rattle.std.specs.Str.{bytes_eq}
use Rattle.table_forms.specs.Decimals.{decimal_of}
use Rattle.table_forms.specs.NameForms.{is_table_name_byte}
use Rattle.table_forms.specs.Pieces.{split_once}
use Rattle.table_forms.proofs.DecimalLemmas.{decimal_of-IsDecimal}
use Rattle.table_forms.proofs.PieceLemmas.{lacks, and_parts, lacks-append, lacks-cons, split_once-here}
use Rattle.avro_schema.specs.AvroTypes.{AvroType}
use Rattle.avro_schema.specs.SchemaTexts.{type_named, type_text}
use Rattle.table_props.specs.declared.property_key.PropertyKey.{PropertyKey}
use Rattle.table_props.specs.declared.property_key.PropertyKey.TheVariants.{TableName, TableType, TableVersion, KeyField, PartitionField, OrderingField, LayoutVersion, Buckets, TableSchema}
use Rattle.table_props.specs.Keys.{key_text, is_allowed, is_table_name, is_bucket_count, is_some_bucket_count}
use Rattle.table_props.specs.Flat.{fields_in, is_flat, is_rank_type, is_string_type}
use Rattle.table_props.specs.PropsTexts.{Told, Entries, Places, IsTold, HasField, lines_of, value_if, value_of, value_in, is_bad, is_bad_split, is_bad_entry, first_bad, entries_in, places_in, told_in, place_of, ordering_place, entry_text, line_text, field_name, ordering_line, props_text, told_or, read_props}
use Rattle.table_props.proofs.EntryLemmas.{key_of_text}
use Rattle.table_props.proofs.FeedLemmas.{lacks-table_name, lacks-decimal, lacks-schema}
use Rattle.table_props.proofs.LineLemmas.{lines_step}
use Rattle.table_props.proofs.SchemaNames.{schema_named, lacks-field_at}
use Rattle.table_props.proofs.ToldLemmas.{read_by_lines}

-- a key and its value
abbrev Entry : Type 0
Entry = PropertyKey × List ℕ

abbrev entry_line : Entry → List ℕ
entry_line e = entry_text e.0 e.1

key_lacks_sign : (key : PropertyKey) → lacks 61 (key_text key) ≡ true
key_lacks_sign TableName = refl
key_lacks_sign TableType = refl
key_lacks_sign TableVersion = refl
key_lacks_sign KeyField = refl
key_lacks_sign PartitionField = refl
key_lacks_sign OrderingField = refl
key_lacks_sign LayoutVersion = refl
key_lacks_sign Buckets = refl
key_lacks_sign TableSchema = refl

key_lacks_feed : (key : PropertyKey) → lacks 10 (key_text key) ≡ true
key_lacks_feed TableName = refl
key_lacks_feed TableType = refl
key_lacks_feed TableVersion = refl
key_lacks_feed KeyField = refl
key_lacks_feed PartitionField = refl
key_lacks_feed OrderingField = refl
key_lacks_feed LayoutVersion = refl
key_lacks_feed Buckets = refl
key_lacks_feed TableSchema = refl

-- ---- what the lines of entries say

split_line : (e : Entry) → split_once 61 (entry_line e) ≡ Some (key_text e.0, e.1)
split_line e = split_once-here 61 (key_text e.0) e.1 (key_lacks_sign e.0)

-- the value of the first entry with the key
abbrev lookup : PropertyKey → List Entry → Option (List ℕ)
lookup key [] = None
lookup key (e ∷ es) = cond (bytes_eq (key_text e.0) (key_text key)) (Some e.1) (lookup key es)

value_of_line : (key : PropertyKey) (e : Entry) → value_of key (entry_line e) ≡ cond (bytes_eq (key_text e.0) (key_text key)) (Some e.1) None
unfolding value_of
value_of_line key e = ap (value_if key) (split_line e)

first_of_two : (b : Bool) (v : List ℕ) (r s : Option (List ℕ)) → r ≡ s → cond (is_some (cond b (Some v) None)) (cond b (Some v) None) r ≡ cond b (Some v) s
first_of_two true v r s e = refl
first_of_two false v r s e = e

value_in_lines : (key : PropertyKey) (es : List Entry) → value_in key (map entry_line es) ≡ lookup key es
value_in_lines key [] = refl
value_in_lines key (e ∷ es) =
    ap (λ (o : Option (List ℕ)). cond (is_some o) o (value_in key (map entry_line es))) (value_of_line key e)
    ∙ first_of_two (bytes_eq (key_text e.0) (key_text key)) e.1 (value_in key (map entry_line es)) (lookup key es) (value_in_lines key es)

is_bad_line : (before : List Entry) (e : Entry) → is_bad (map entry_line before) (entry_line e) ≡ (is_some (lookup e.0 before) || not (is_allowed e.0 e.1))
unfolding is_bad
is_bad_line before e =
    ap (is_bad_split (map entry_line before) (entry_line e)) (split_line e)
    ∙ ap (λ (k : Option PropertyKey). is_bad_entry (map entry_line before) k e.1) (key_of_text e.0)
    ∙ ap (λ (o : Option (List ℕ)). is_some o || not (is_allowed e.0 e.1)) (value_in_lines e.0 before)

-- no key comes twice, and each value is allowed
AreFine : List Entry → List Entry → Type 0
AreFine before [] = Unit {0}
AreFine before (e ∷ es) = (is_some (lookup e.0 before) ≡ false) × (is_allowed e.0 e.1 ≡ true) × AreFine (before ++ e ∷ []) es

fine_line : (known allowed : Bool) → known ≡ false → allowed ≡ true → (known || not allowed) ≡ false
fine_line known allowed new may = rw (new, may) refl

none_bad : (before es : List Entry) → AreFine before es → first_bad (map entry_line before) (map entry_line es) ≡ None
unfolding AreFine
none_bad before [] fine = refl
none_bad before (e ∷ es) fine =
    ap (λ (b : Bool). cond b (Some (length (map entry_line before))) (first_bad (map entry_line before ++ entry_line e ∷ []) (map entry_line es)))
    (is_bad_line before e ∙ fine_line (is_some (lookup e.0 before)) (is_allowed e.0 e.1) fine.0 fine.1)
    ∙ ap (λ (ls : List (List ℕ)). first_bad ls (map entry_line es)) (sym (map_push entry_line before e))
    ∙ none_bad (before ++ e ∷ []) es fine.2

-- ---- their text

ended : List Entry → List ℕ
ended [] = []
ended (e ∷ es) = entry_line e ++ 10 ∷ ended es

AreLines : List Entry → Type 0
AreLines [] = Unit {0}
AreLines (e ∷ es) = (lacks 10 e.1 ≡ true) × AreLines es

line_lacks : (e : Entry) → lacks 10 e.1 ≡ true → lacks 10 (entry_line e) ≡ true
line_lacks e none = lacks-append 10 (key_text e.0) (61 ∷ e.1) (key_lacks_feed e.0) (lacks-cons 10 61 e.1 (λ is. omega (arith, is)) none)

no_lines : lines_of [] ≡ []
unfolding lines_of
no_lines = refl

lines_of_ended : (es : List Entry) → AreLines es → lines_of (ended es) ≡ map entry_line es
unfolding ended AreLines
lines_of_ended [] are = no_lines
lines_of_ended (e ∷ es) are =
    (lines_step (entry_line e ++ 10 ∷ ended es) (entry_line e) (ended es) (split_once-here 10 (entry_line e) (ended es) (line_lacks e are.0))).0
    ∙ ap (λ (ls : List (List ℕ)). entry_line e ∷ ls) (lines_of_ended es are.1)

-- ---- the entries of properties

module _ (name key_name partition_name buckets schema : List ℕ) where
  abbrev first_entries : List Entry → List Entry
  first_entries more = (TableName, name) ∷ (TableType, codes "MERGE_ON_READ") ∷ (TableVersion, codes "6") ∷ (KeyField, key_name) ∷ (PartitionField, partition_name) ∷ more

  abbrev last_entries : List Entry
  last_entries = (LayoutVersion, codes "1") ∷ (Buckets, buckets) ∷ (TableSchema, schema) ∷ []

  abbrev entries_with : Option (List ℕ) → List Entry
  entries_with None = first_entries last_entries
  entries_with (Some ordering_name) = first_entries ((OrderingField, ordering_name) ∷ last_entries)

  abbrev ordering_text : Option (List ℕ) → List ℕ
  ordering_text None = []
  ordering_text (Some ordering_name) = line_text OrderingField ordering_name

  abbrev text_with : Option (List ℕ) → List ℕ
  text_with ordering =
      line_text TableName name ++ line_text TableType (codes "MERGE_ON_READ") ++ line_text TableVersion (codes "6") ++ line_text KeyField key_name ++ line_text PartitionField partition_name
      ++ ordering_text ordering ++ line_text LayoutVersion (codes "1") ++ line_text Buckets buckets ++ line_text TableSchema schema

eight : (a b c d e g h i n : List ℕ) → (a ++ n) ++ (b ++ n) ++ (c ++ n) ++ (d ++ n) ++ (e ++ n) ++ [] ++ (g ++ n) ++ (h ++ n) ++ (i ++ n)
    ≡ a ++ (n ++ (b ++ (n ++ (c ++ (n ++ (d ++ (n ++ (e ++ (n ++ (g ++ (n ++ (h ++ (n ++ (i ++ n))))))))))))))
eight a b c d e g h i n = simp append_assoc

nine : (a b c d e f g h i n : List ℕ) → (a ++ n) ++ (b ++ n) ++ (c ++ n) ++ (d ++ n) ++ (e ++ n) ++ (f ++ n) ++ (g ++ n) ++ (h ++ n) ++ (i ++ n)
    ≡ a ++ (n ++ (b ++ (n ++ (c ++ (n ++ (d ++ (n ++ (e ++ (n ++ (f ++ (n ++ (g ++ (n ++ (h ++ (n ++ (i ++ n))))))))))))))))
nine a b c d e f g h i n = simp append_assoc

ended_text : (name key_name partition_name buckets schema : List ℕ) (ordering : Option (List ℕ))
    → text_with name key_name partition_name buckets schema ordering ≡ ended (entries_with name key_name partition_name buckets schema ordering)
unfolding ended
ended_text name key_name partition_name buckets schema None =
    eight (entry_text TableName name) (entry_text TableType (codes "MERGE_ON_READ")) (entry_text TableVersion (codes "6")) (entry_text KeyField key_name) (entry_text PartitionField partition_name)
    (entry_text LayoutVersion (codes "1")) (entry_text Buckets buckets) (entry_text TableSchema schema) (10 ∷ [])
ended_text name key_name partition_name buckets schema (Some ordering_name) =
    nine (entry_text TableName name) (entry_text TableType (codes "MERGE_ON_READ")) (entry_text TableVersion (codes "6")) (entry_text KeyField key_name) (entry_text PartitionField partition_name)
    (entry_text OrderingField ordering_name) (entry_text LayoutVersion (codes "1")) (entry_text Buckets buckets) (entry_text TableSchema schema) (10 ∷ [])

-- ---- what they say

entries_read : (lines : List (List ℕ)) (name type version key_field partition_field layout schema : List ℕ) (ordering_field : Option (List ℕ)) (buckets : ℕ)
    → value_in TableName lines ≡ Some name → value_in TableType lines ≡ Some type → value_in TableVersion lines ≡ Some version → value_in KeyField lines ≡ Some key_field
    → value_in PartitionField lines ≡ Some partition_field → value_in LayoutVersion lines ≡ Some layout → option_and_then decimal_of (value_in Buckets lines) ≡ Some buckets
    → value_in TableSchema lines ≡ Some schema → value_in OrderingField lines ≡ ordering_field
    → entries_in lines ≡ Some (record { name = name; key_field = key_field; partition_field = partition_field; ordering_field = ordering_field; buckets = buckets; schema = schema })
unfolding entries_in
entries_read lines name type version key_field partition_field layout schema ordering_field buckets h1 h2 h3 h4 h5 h6 h7 h8 h9 = rw (h1, h2, h3, h4, h5, h6, h7, h8, h9) refl

entries_again : (name key_name partition_name bucket_text schema : List ℕ) (buckets : ℕ) (ordering : Option (List ℕ)) → decimal_of bucket_text ≡ Some buckets
    → entries_in (map entry_line (entries_with name key_name partition_name bucket_text schema ordering))
    ≡ Some (record { name = name; key_field = key_name; partition_field = partition_name; ordering_field = ordering; buckets = buckets; schema = schema })
entries_again name key_name partition_name bucket_text schema buckets None dec =
    let es = entries_with name key_name partition_name bucket_text schema None in
    entries_read (map entry_line es) name (codes "MERGE_ON_READ") (codes "6") key_name partition_name (codes "1") schema None buckets
    (value_in_lines TableName es) (value_in_lines TableType es) (value_in_lines TableVersion es) (value_in_lines KeyField es) (value_in_lines PartitionField es) (value_in_lines LayoutVersion es)
    (ap (option_and_then decimal_of) (value_in_lines Buckets es) ∙ dec) (value_in_lines TableSchema es) (value_in_lines OrderingField es)
entries_again name key_name partition_name bucket_text schema buckets (Some ordering_name) dec =
    let es = entries_with name key_name partition_name bucket_text schema (Some ordering_name) in
    entries_read (map entry_line es) name (codes "MERGE_ON_READ") (codes "6") key_name partition_name (codes "1") schema (Some ordering_name) buckets
    (value_in_lines TableName es) (value_in_lines TableType es) (value_in_lines TableVersion es) (value_in_lines KeyField es) (value_in_lines PartitionField es) (value_in_lines LayoutVersion es)
    (ap (option_and_then decimal_of) (value_in_lines Buckets es) ∙ dec) (value_in_lines TableSchema es) (value_in_lines OrderingField es)

places_read : (e : Entries) (schema : AvroType) (key partition : ℕ) (ordering : Option ℕ) → is_flat schema ≡ true → place_of is_string_type e.key_field (fields_in schema) ≡ Some key
    → place_of is_string_type e.partition_field (fields_in schema) ≡ Some partition → ordering_place e.ordering_field (fields_in schema) ≡ Some ordering
    → places_in e schema ≡ Some (record { key = key; partition = partition; ordering = ordering })
unfolding places_in
places_read e schema key partition ordering h1 h2 h3 h4 = rw (h1, h2, h3, h4) refl

told_read : (lines : List (List ℕ)) (e : Entries) (schema : AvroType) (p : Places) → entries_in lines ≡ Some e → type_named e.schema ≡ Ok schema → places_in e schema ≡ Some p
    → told_in lines ≡ Some (record { name = e.name; schema = schema; key = p.key; partition = p.partition; ordering = p.ordering; buckets = e.buckets })
unfolding told_in
told_read lines e schema p h1 h2 h3 = rw (h1, h2, h3) refl

fine_entries : (name key_name partition_name bucket_text schema : List ℕ) (ordering : Option (List ℕ)) → is_allowed TableName name ≡ true → is_allowed Buckets bucket_text ≡ true
    → is_allowed TableSchema schema ≡ true → AreFine [] (entries_with name key_name partition_name bucket_text schema ordering)
unfolding AreFine is_allowed
fine_entries name key_name partition_name bucket_text schema None a b c =
    (refl, a, (refl, refl, (refl, refl, (refl, refl, (refl, refl, (refl, refl, (refl, b, (refl, c, tt))))))))
fine_entries name key_name partition_name bucket_text schema (Some ordering_name) a b c =
    (refl, a, (refl, refl, (refl, refl, (refl, refl, (refl, refl, (refl, refl, (refl, refl, (refl, b, (refl, c, tt)))))))))

abbrev IfLacks : Option (List ℕ) → Type 0
IfLacks None = Unit {0}
IfLacks (Some name) = lacks 10 name ≡ true

line_entries : (name key_name partition_name bucket_text schema : List ℕ) (ordering : Option (List ℕ)) → lacks 10 name ≡ true → lacks 10 key_name ≡ true → lacks 10 partition_name ≡ true
    → lacks 10 bucket_text ≡ true → lacks 10 schema ≡ true → IfLacks ordering → AreLines (entries_with name key_name partition_name bucket_text schema ordering)
unfolding AreLines
line_entries name key_name partition_name bucket_text schema None n k p b s o = (n, (refl, (refl, (k, (p, (refl, (b, (s, tt))))))))
line_entries name key_name partition_name bucket_text schema (Some ordering_name) n k p b s o = (n, (refl, (refl, (k, (p, (o, (refl, (b, (s, tt)))))))))

name_fine : (name : List ℕ) → IsTrue (is_table_name name) → is_allowed TableName name ≡ true
unfolding is_allowed
name_fine name is = is

buckets_fine : (buckets : ℕ) (text : List ℕ) → decimal_of text ≡ Some buckets → IsTrue (is_bucket_count buckets) → is_allowed Buckets text ≡ true
unfolding is_allowed
buckets_fine buckets text dec is = ap is_some_bucket_count dec ∙ is

schema_fine : (text : List ℕ) (schema : AvroType) → type_named text ≡ Ok schema → is_allowed TableSchema text ≡ true
unfolding is_allowed
schema_fine text schema named = ap is_ok named

bucket_limits : (buckets : ℕ) → IsTrue (is_bucket_count buckets) → (0 < buckets) × (buckets < 2 ^ 64)
bucket_limits buckets is =
    let parts = and_parts (nat_le 1 buckets) (nat_le buckets 1024) is in
    let low : 1 ≤ buckets = grind (arith, nat_tests, parts.0) in
    let high : buckets ≤ 1024 = grind (arith, nat_tests, parts.1) in
    (omega arith, omega arith)

table_name_bytes : (name : List ℕ) → IsTrue (is_table_name name) → list_all is_table_name_byte name ≡ true
table_name_bytes name is = (and_parts (nat_le 1 (length name) && nat_le (length name) 64) (list_all is_table_name_byte name) is).1

-- the ordering field's name, where there is one
abbrev ordering_name : AvroType → Option ℕ → Option (List ℕ)
ordering_name schema None = None
ordering_name schema (Some place) = Some (field_name schema place)

ordering_again : (schema : AvroType) (ordering : Option ℕ) → IfSome ordering (HasField schema is_rank_type) → ordering_place (ordering_name schema ordering) (fields_in schema) ≡ Some ordering
ordering_again schema None has = refl
ordering_again schema (Some place) has = ap (λ (o : Option ℕ). option_map Some o) has

ordering_lacks : (schema : AvroType) (ordering : Option ℕ) → ((place : ℕ) → lacks 10 (field_name schema place) ≡ true) → IfLacks (ordering_name schema ordering)
ordering_lacks schema None none = tt
ordering_lacks schema (Some place) none = none place

text_again : (told : Told) (ordering : Option ℕ) → told.ordering ≡ ordering
    → props_text told ≡ ended (entries_with told.name (field_name told.schema told.key) (field_name told.schema told.partition) (decimal told.buckets) (type_text told.schema) (ordering_name told.schema ordering))
unfolding props_text
text_again told None is =
    ap (λ (o : Option ℕ). line_text TableName told.name ++ line_text TableType (codes "MERGE_ON_READ") ++ line_text TableVersion (codes "6")
    ++ line_text KeyField (field_name told.schema told.key) ++ line_text PartitionField (field_name told.schema told.partition)
    ++ ordering_line told.schema o ++ line_text LayoutVersion (codes "1") ++ line_text Buckets (decimal told.buckets) ++ line_text TableSchema (type_text told.schema)) is
    ∙ ended_text told.name (field_name told.schema told.key) (field_name told.schema told.partition) (decimal told.buckets) (type_text told.schema) None
text_again told (Some place) is =
    ap (λ (o : Option ℕ). line_text TableName told.name ++ line_text TableType (codes "MERGE_ON_READ") ++ line_text TableVersion (codes "6")
    ++ line_text KeyField (field_name told.schema told.key) ++ line_text PartitionField (field_name told.schema told.partition)
    ++ ordering_line told.schema o ++ line_text LayoutVersion (codes "1") ++ line_text Buckets (decimal told.buckets) ++ line_text TableSchema (type_text told.schema)) is
    ∙ ended_text told.name (field_name told.schema told.key) (field_name told.schema told.partition) (decimal told.buckets) (type_text told.schema) (Some (field_name told.schema place))

-- what some text says is read from its written text
pub written_is_read : (told : Told) → IsTold told → type_named (type_text told.schema) ≡ Ok told.schema → read_props (props_text told) ≡ Ok told
written_is_read told is named =
    let key_name = field_name told.schema told.key in
    let partition_name = field_name told.schema told.partition in
    let buckets = decimal told.buckets in
    let schema = type_text told.schema in
    let ordering = ordering_name told.schema told.ordering in
    let es = entries_with told.name key_name partition_name buckets schema ordering in
    let limits = bucket_limits told.buckets is.buckets in
    let dec : decimal_of buckets ≡ Some told.buckets = decimal_of-IsDecimal told.buckets buckets (record { fits = limits.1; written = refl }) in
    let names = schema_named is.schema.0 told.schema is.schema.1 in
    let lacks_at = λ (place : ℕ). lacks-field_at (fields_in told.schema) place names in
    let lines = lines_of_ended es (line_entries told.name key_name partition_name buckets schema ordering (lacks-table_name told.name (table_name_bytes told.name is.name)) (lacks_at told.key) (lacks_at told.partition) (lacks-decimal told.buckets limits.0 limits.1) (lacks-schema told.schema is.flat) (ordering_lacks told.schema told.ordering lacks_at)) in
    let none = none_bad [] es (fine_entries told.name key_name partition_name buckets schema ordering (name_fine told.name is.name) (buckets_fine told.buckets buckets dec is.buckets) (schema_fine schema told.schema named)) in
    let e : Entries = record { name = told.name; key_field = key_name; partition_field = partition_name; ordering_field = ordering; buckets = told.buckets; schema = schema } in
    let p : Places = record { key = told.key; partition = told.partition; ordering = told.ordering } in
    let places = places_read e told.schema told.key told.partition told.ordering is.flat is.key is.partition (ordering_again told.schema told.ordering is.ordering) in
    let read = told_read (map entry_line es) e told.schema p (entries_again told.name key_name partition_name buckets schema told.buckets ordering dec) named places in
    read_by_lines (props_text told) (map entry_line es) None (sym (ap lines_of (text_again told told.ordering refl) ∙ lines)) none
    ∙ ap (told_or (length (map entry_line es) + 1)) read
