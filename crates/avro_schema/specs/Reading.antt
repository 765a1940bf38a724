-- Reading a value under a type: the value and the bytes after it, or the first primitive that can't be read. A law ties
-- it to the relation of `Grammar`. So many items of arrays and entries of maps may be read at most, all those inside
-- counted; each reader hands on how many are left.
use Rattle.std.specs.Prelude.{ℕ, zero, suc, ◌+◌, ◌-◌, ◌==◌, ℤ, pos, negsuc, Bool, true, nat_lt, nat_le, if◌then◌else◌, List, [], ◌∷◌, ◌++◌, length, Option, Some, None, Result, Ok, Err}
use Rattle.byteorder.specs.Endian.{big_number}
use Rattle.hudi_base.specs.declared.value.Value.{Value, Null, Boolean, Int, Long, Bytes, Text, Fixed, Enum, Array, Map, Union, Record}
use Rattle.hudi_base.specs.declared.value.Value.TheViews.{roll-Pair}
use Rattle.hudi_base.specs.declared.value.Pair.{Pair}
use Rattle.byte_fields.specs.declared.field_error.FieldError.{FieldError}
use Rattle.byte_fields.specs.declared.field_error.FieldError.TheVariants.{Bad}
use Rattle.byte_fields.specs.Reading.{Reading, ◌>>=◌, only_if, only_some}
use Rattle.byte_fields.specs.Numbers.{number_at}
use Rattle.byte_fields.specs.Varints.{zigzag_at}
use Rattle.byte_fields.specs.Prefixed.{bytes_at, prefixed_at, nonnegative, long_length_at, text_at}
use Rattle.avro_schema.specs.AvroTypes.{AvroType, null, boolean, int, long, bytes, string, fixed_of, enum_of, array_of, map_of, union_of, record_of, Branches, no_branches, branch, Fields, no_fields, field}

-- ---- primitives

unfoldable pub boolean_at : List ℕ → Reading Bool
boolean_at bs = do
  byte ← number_at big_number 1 bs
  only_if (nat_lt byte.0 2) bs (byte.0 == 1, byte.1)

-- an index below a count
unfoldable pub index_at : ℕ → List ℕ → Reading ℕ
index_at count bs = do
  number ← zigzag_at 32 bs
  index ← only_some (nonnegative number.0) bs
  only_if (nat_lt index count) bs (index, number.1)

-- ---- readers that hand on how many items are left

abbrev pub Limited : Type 0 → Type 0
Limited A = ℕ → List ℕ → Reading (A × ℕ)

-- what reads no item
abbrev pub plain : {A : Type 0} → (A → Value) → ℕ → Reading A → Reading (Value × ℕ)
plain make left read = read >>= λ found. Ok ((make found.0, left), found.1)

-- a value that is made of what was read
abbrev pub made : {A : Type 0} → (A → Value) → Reading (A × ℕ) → Reading (Value × ℕ)
made make read = read >>= λ found. Ok ((make found.0.0, found.0.1), found.1)

-- the items that were found, and n that follow
unfoldable pub items_from : {A : Type 0} → Limited A → ℕ → List A → Limited (List A)
items_from read zero found left bs = Ok ((found, left), bs)
items_from read (suc n) found left bs = do
  next ← read left bs
  items_from read n (found ++ next.0.0 ∷ []) next.0.1 next.1

-- what stands before the items of a block: how many they are, and where it is told the number of their bytes, with how
-- many bytes there are from it on
abbrev pub BlockHead : Type 0
BlockHead = ℕ × Option (ℕ × ℕ)

abbrev pub sized_head : ℕ → List ℕ → ℤ → List ℕ → Reading BlockHead
sized_head left bs (pos n) rest = only_if (nat_le n left) bs ((n, None), rest)
sized_head left bs (negsuc n) rest = do
  count ← only_if (nat_le (n + 1) left) bs (n + 1)
  size ← long_length_at rest
  Ok ((count, Some (size.0, length rest)), size.1)

-- more items than are left are bad at their count
unfoldable pub block_head_at : ℕ → List ℕ → Reading BlockHead
block_head_at left bs = zigzag_at 64 bs >>= λ count. sized_head left bs count.0 count.1

-- what was told of the items' bytes is right, where so many bytes were there before them and so many after them
abbrev pub has_size : Option (ℕ × ℕ) → ℕ → ℕ → Result Bool FieldError
has_size None before after = Ok true
has_size (Some size) before after = if after + size.0 == before then Ok true else Err (Bad size.1)

-- the items that were found, and those of a block
unfoldable pub block_from : {A : Type 0} → Limited A → BlockHead → List A → Limited (List A)
block_from read head found left bs = do
  block ← items_from read head.0 found (left - head.0) bs
  right ← has_size head.1 (length bs) (length block.1)
  Ok block

-- The items that were found, and those of the blocks that follow, of which there are fewer than so many. Each has an
-- item, so there is one more block at most than items are left.
unfoldable pub blocks_from : {A : Type 0} → Limited A → ℕ → List A → Limited (List A)
blocks_from read zero found left bs = Err (Bad (length bs))
blocks_from read (suc most) found left bs = do
  head ← block_head_at left bs
  if head.0.0 == 0 then Ok ((found, left), head.1) else (block_from read head.0 found left head.1 >>= λ block. blocks_from read most block.0.0 block.0.1 block.1)

unfoldable pub blocks_at : {A : Type 0} → Limited A → Limited (List A)
blocks_at read left bs = blocks_from read (left + 1) [] left bs

-- an entry of a map
unfoldable pub entry_at : Limited Value → Limited Pair
entry_at read left bs = do
  key ← text_at long_length_at bs
  value ← read left key.1
  Ok ((roll-Pair (record { key = key.0; value = value.0.0 }), value.0.1), value.1)

-- ---- types

abbrev pub branch_count : Branches → ℕ
branch_count no_branches = 0
branch_count (branch type more) = suc (branch_count more)

abbrev mutual
  pub value_at : AvroType → Limited Value
  value_at null left bs = Ok ((Null, left), bs)
  value_at boolean left bs = plain Boolean left (boolean_at bs)
  value_at int left bs = plain Int left (zigzag_at 32 bs)
  value_at long left bs = plain Long left (zigzag_at 64 bs)
  value_at bytes left bs = plain Bytes left (prefixed_at long_length_at bs)
  value_at string left bs = plain Text left (text_at long_length_at bs)
  value_at (fixed_of name size) left bs = plain Fixed left (bytes_at size bs)
  value_at (enum_of name symbols) left bs = plain Enum left (index_at (length symbols) bs)
  value_at (array_of inner) left bs = made Array (blocks_at (value_at inner) left bs)
  value_at (map_of inner) left bs = made Map (blocks_at (entry_at (value_at inner)) left bs)
  value_at (union_of branches) left bs = do
    index ← index_at (branch_count branches) bs
    made (Union index.0) (branch_at branches index.0 left index.1)
  value_at (record_of name fields) left bs = made Record (fields_from fields [] left bs)

  -- under the branch at an index, of which there is none elsewhere
  pub branch_at : Branches → ℕ → Limited Value
  branch_at no_branches index left bs = Err (Bad (length bs))
  branch_at (branch type more) zero left bs = value_at type left bs
  branch_at (branch type more) (suc index) left bs = branch_at more index left bs

  -- the values that were found, and those of the fields that follow
  pub fields_from : Fields → List Value → Limited (List Value)
  fields_from no_fields found left bs = Ok ((found, left), bs)
  fields_from (field name type more) found left bs = do
    next ← value_at type left bs
    fields_from more (found ++ next.0.0 ∷ []) next.0.1 next.1
