-- A page's header: PageHeader and DataPageHeader of the Parquet format's "parquet.thrift". The others of their fields are
-- passed over.
use Rattle.std.specs.Prelude.{ℕ, ℤ, if◌then◌else◌, List, Option, Some, None, option_and_then}
use Rattle.byte_fields.specs.Reading.{Reading}
use Rattle.parquet_meta.specs.declared.page_header.PageHeader.{PageHeader}
use Rattle.parquet_meta.specs.declared.page_header.DataPage.{DataPage}
use Rattle.parquet_meta.specs.declared.page_header.DataPageFields.{DataPageFields}
use Rattle.parquet_meta.specs.declared.page_header.PageHeaderFields.{PageHeaderFields}
use Rattle.parquet_meta.specs.Reading.{is_number, typed_at, i32_field_at, other_field_at, with_value, whole_at}

-- ---- DataPageHeader: num_values, encoding, definition_level_encoding, repetition_level_encoding, all required

abbrev pub no_data_page_fields : DataPageFields
no_data_page_fields = record { values = None; encoding = None; def_encoding = None; rep_encoding = None }

unfoldable pub data_page_field_at : DataPageFields → ℤ → ℕ → ℕ → List ℕ → Reading DataPageFields
data_page_field_at so_far id kind left bytes =
    if is_number 1 id then with_value (λ n. record so_far { values = Some n }) (i32_field_at kind left bytes) else
    if is_number 2 id then with_value (λ n. record so_far { encoding = Some n }) (i32_field_at kind left bytes) else
    if is_number 3 id then with_value (λ n. record so_far { def_encoding = Some n }) (i32_field_at kind left bytes) else
    if is_number 4 id then with_value (λ n. record so_far { rep_encoding = Some n }) (i32_field_at kind left bytes) else
    other_field_at so_far kind bytes

abbrev pub data_page_of : DataPageFields → Option DataPage
data_page_of fields =
    option_and_then (λ values.
    option_and_then (λ encoding.
    option_and_then (λ def_encoding.
    option_and_then (λ rep_encoding.
    Some (record { values = values; encoding = encoding; def_encoding = def_encoding; rep_encoding = rep_encoding }))
    fields.rep_encoding) fields.def_encoding) fields.encoding) fields.values

abbrev pub data_page_at : List ℕ → Reading DataPage
data_page_at = whole_at data_page_field_at no_data_page_fields data_page_of

-- ---- PageHeader: type, uncompressed_page_size, compressed_page_size, data_page_header, which is required here too

abbrev pub no_page_header_fields : PageHeaderFields
no_page_header_fields = record { kind = None; uncompressed = None; compressed = None; page = None }

unfoldable pub page_header_field_at : PageHeaderFields → ℤ → ℕ → ℕ → List ℕ → Reading PageHeaderFields
page_header_field_at so_far id kind left bytes =
    if is_number 1 id then with_value (λ n. record so_far { kind = Some n }) (i32_field_at kind left bytes) else
    if is_number 2 id then with_value (λ n. record so_far { uncompressed = Some n }) (i32_field_at kind left bytes) else
    if is_number 3 id then with_value (λ n. record so_far { compressed = Some n }) (i32_field_at kind left bytes) else
    if is_number 5 id then with_value (λ p. record so_far { page = Some p })
    (typed_at 12 data_page_at kind left bytes) else
    other_field_at so_far kind bytes

abbrev pub page_header_of : PageHeaderFields → Option PageHeader
page_header_of fields =
    option_and_then (λ kind.
    option_and_then (λ uncompressed.
    option_and_then (λ compressed.
    option_and_then (λ page.
    Some (record {
      kind = kind;
      uncompressed = uncompressed;
      compressed = compressed;
      values = page.values;
      encoding = page.encoding;
      def_encoding = page.def_encoding;
      rep_encoding = page.rep_encoding;
    }))
    fields.page) fields.compressed) fields.uncompressed) fields.kind

-- a page's header at the beginning of the bytes
abbrev pub page_header_at : List ℕ → Reading PageHeader
page_header_at = whole_at page_header_field_at no_page_header_fields page_header_of
