-- What every content of a block begins with, and the items behind it. The form is this project's own.
use Rattle.std.specs.Prelude.{ℕ, zero, suc, ◌-◌, ◌==◌, List, [], ◌∷◌, ◌++◌, length, flat_map, Result, Ok, Err}
use Rattle.byteorder.specs.Endian.{big_bytes, big_number}
use Rattle.byte_fields.specs.declared.field_error.FieldError.{FieldError}
use Rattle.byte_fields.specs.Reading.{Reading, ◌>>=◌, as_item, left_of, only_if}
use Rattle.byte_fields.specs.Numbers.{number_at, after_number}

-- the version, which is 3, the number of items, and the items in their written forms
unfoldable pub content_bytes : {A : Type 0} → (A → List ℕ) → List A → List ℕ
content_bytes item_bytes items = big_bytes 4 3 ++ (big_bytes 4 (length items) ++ flat_map item_bytes items)

-- the number of items, behind the version
unfoldable pub head_at : List ℕ → Reading ℕ
head_at bytes = do
  rest ← after_number big_number 4 3 bytes
  number_at big_number 4 rest

-- the same as one item of the reading
unfoldable pub count_at : List ℕ → Reading ℕ
count_at bytes = as_item bytes (head_at bytes)

-- so many items, each read by `read`
unfoldable pub items_at : {A : Type 0} → (List ℕ → Reading A) → ℕ → List ℕ → Reading (List A)
items_at read zero bytes = Ok ([], bytes)
items_at read (suc more) bytes = do
  item ← read bytes
  items ← items_at read more item.1
  Ok (item.0 ∷ items.0, items.1)

-- the items of a content, behind which nothing stands
unfoldable pub content_at : {A : Type 0} → (List ℕ → Reading A) → List ℕ → Result (List A) FieldError
content_at read bytes = do
  count ← count_at bytes
  items ← items_at read count.0 count.1
  only_if (length items.1 == 0) items.1 items.0

-- the same with offsets: the items, or the offset of the first byte of what can't be read
abbrev pub with_offset : {A : Type 0} → ℕ → Result A FieldError → Result A ℕ
with_offset total (Ok x) = Ok x
with_offset total (Err error) = Err (total - left_of error)
