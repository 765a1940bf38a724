-- The keys of `hoodie.properties` and their values. The keys that begin with `hoodie.` are Hudi's; those that begin
-- with `profile.` and the limits are this project's own.
use Rattle.std.specs.Prelude.{ℕ, List, Bool, true, false, ◌&&◌, nat_le, if◌then◌else◌, Option, Some, None, is_ok, codes, length}
use Rattle.std.specs.List.{list_all}
use Rattle.std.specs.Str.{bytes_eq}
use Rattle.table_forms.specs.Decimals.{decimal_of}
use Rattle.table_forms.specs.NameForms.{is_table_name_byte}
use Rattle.avro_schema.specs.SchemaTexts.{type_named}
use Rattle.table_props.specs.declared.property_key.PropertyKey.{PropertyKey}
use Rattle.table_props.specs.declared.property_key.PropertyKey.TheVariants.{TableName, TableType, TableVersion, KeyField, PartitionField, OrderingField, LayoutVersion, Buckets, TableSchema}

abbrev pub key_text : PropertyKey → List ℕ
key_text TableName = codes "hoodie.table.name"
key_text TableType = codes "hoodie.table.type"
key_text TableVersion = codes "hoodie.table.version"
key_text KeyField = codes "hoodie.table.recordkey.fields"
key_text PartitionField = codes "hoodie.table.partition.fields"
key_text OrderingField = codes "hoodie.table.precombine.field"
key_text LayoutVersion = codes "hoodie.timeline.layout.version"
key_text Buckets = codes "profile.buckets"
key_text TableSchema = codes "profile.schema"

-- the key with this text
unfoldable pub key_of : List ℕ → Option PropertyKey
key_of text =
    if bytes_eq text (key_text TableName) then Some TableName
    else (if bytes_eq text (key_text TableType) then Some TableType
    else (if bytes_eq text (key_text TableVersion) then Some TableVersion
    else (if bytes_eq text (key_text KeyField) then Some KeyField
    else (if bytes_eq text (key_text PartitionField) then Some PartitionField
    else (if bytes_eq text (key_text OrderingField) then Some OrderingField
    else (if bytes_eq text (key_text LayoutVersion) then Some LayoutVersion
    else (if bytes_eq text (key_text Buckets) then Some Buckets
    else (if bytes_eq text (key_text TableSchema) then Some TableSchema
    else None))))))))

-- ---- what a key's value may be, by itself

-- 1 to 64 letters, digits, `_` and `-`
abbrev pub is_table_name : List ℕ → Bool
is_table_name value = nat_le 1 (length value) && nat_le (length value) 64 && list_all is_table_name_byte value

abbrev pub is_bucket_count : ℕ → Bool
is_bucket_count count = nat_le 1 count && nat_le count 1024

abbrev pub is_some_bucket_count : Option ℕ → Bool
is_some_bucket_count (Some count) = is_bucket_count count
is_some_bucket_count None = false

-- a field may have any name here: whether there is one of that name is said of the whole text
unfoldable pub is_allowed : PropertyKey → List ℕ → Bool
is_allowed TableName value = is_table_name value
is_allowed TableType value = bytes_eq value (codes "MERGE_ON_READ")
is_allowed TableVersion value = bytes_eq value (codes "6")
is_allowed KeyField value = true
is_allowed PartitionField value = true
is_allowed OrderingField value = true
is_allowed LayoutVersion value = bytes_eq value (codes "1")
is_allowed Buckets value = is_some_bucket_count (decimal_of value)
is_allowed TableSchema value = is_ok (type_named value)
