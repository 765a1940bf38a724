-- Where a refusal stands, and what is left after a value: within the bytes.
use Rattle.std.proofs.Common.{◌≡◌, ◌==◌, ℕ, zero, suc, ◌+◌, ◌-◌, ◌^◌, ◌≤◌, true, ltb, List, [], ◌∷◌, ◌++◌, length, take, drop, Option, Some, None, Ok, Err, ℤ, pos, negsuc, subst, arith}
use Rattle.std.specs.Prelude.{nat_le, position}
use Rattle.std.specs.Str.{is_utf8}
use Rattle.std.proofs.lemmas.Bool.{cond_both}
use Rattle.std.proofs.lemmas.List.{length-drop}
use Rattle.byteorder.specs.Endian.{big_number}
use Rattle.byte_fields.specs.declared.field_error.FieldError.{FieldError}
use Rattle.byte_fields.specs.declared.field_error.FieldError.TheVariants.{Short, Bad}
use Rattle.byte_fields.specs.Reading.{left_of, Reading, ◌>>=◌, only_if, only_some}
use Rattle.byte_fields.specs.Numbers.{number_at}
use Rattle.byte_fields.specs.Varints.{is_last, groups_number, groups_to, groups_at, varint_at, unzigzag, zigzag_at}
use Rattle.byte_fields.specs.Prefixed.{bytes_at, length_then_bytes_at, prefixed_at, nonnegative, long_length_at, text_at}
use Rattle.byte_fields.proofs.ReadingLemmas.{Reads, Reads-then, Reads-within, Reads-as_item, Reads-only_if, Reads-only_some}
use Rattle.hudi_base.specs.declared.value.Value.{Value, Boolean, Int, Long, Bytes, Text, Fixed, Enum, Array, Map, Union, Record}
use Rattle.hudi_base.specs.declared.value.Value.TheViews.{roll-Pair}
use Rattle.avro_schema.specs.AvroTypes.{AvroType, null, boolean, int, long, bytes, string, fixed_of, enum_of, array_of, map_of, union_of, record_of, Branches, no_branches, branch, Fields, no_fields, field}
use Rattle.avro_schema.specs.Reading.{Limited, BlockHead, plain, made, boolean_at, index_at, items_from, sized_head, block_head_at, has_size, block_from, blocks_from, blocks_at, entry_at, value_at, branch_at, fields_from, branch_count}

-- no more bytes are left than there were
abbrev Shorter : {A : Type 0} → ℕ → A × List ℕ → Type 0
Shorter limit x = length x.1 ≤ limit

-- a refusal stands within the bytes, and what is left of them after a value isn't longer
abbrev pub IsWithin : {A : Type 0} → List ℕ → Reading A → Type 0
IsWithin bs read = Reads (length bs) (Shorter (length bs)) read

-- a second reader behind a first one
behind : {A B : Type 0} (bs : List ℕ) (r : Reading A) (f : A × List ℕ → Reading B) → IsWithin bs r → ((x : A × List ℕ) → IsWithin x.1 (f x)) → IsWithin bs (r >>= f)
behind bs r f first second =
    Reads-then (length bs) (Shorter (length bs)) (Shorter (length bs)) r f first
    (λ x le. Reads-within (length x.1) (length bs) (Shorter (length x.1)) (Shorter (length bs)) (f x) le (second x) (λ y more. omega arith))

-- a value made of what was read
same_rest : {A B : Type 0} (bs : List ℕ) (r : Reading A) (f : A × List ℕ → B) → IsWithin bs r → IsWithin bs (r >>= λ x. Ok (f x, x.1))
same_rest bs r f first = Reads-then (length bs) (Shorter (length bs)) (Shorter (length bs)) r (λ x. Ok (f x, x.1)) first (λ x le. le)

-- ---- primitives

groups_within : (bs : List ℕ) → IsWithin bs (groups_at bs)
unfolding groups_at
groups_within bs = from (position is_last (take 10 bs))
  where
    from : (o : Option ℕ) → IsWithin bs (groups_to o bs)
    from (Some last) = omega (arith, length-drop (last + 1) bs)
    from None = cond_both (ltb (length bs) 10) (Err (Short (length bs))) (Err (Bad (length bs))) (IsWithin bs) (λ short. omega arith) (λ long. omega arith)

varint_within : (w : ℕ) (bs : List ℕ) → IsWithin bs (varint_at w bs)
unfolding varint_at
varint_within w bs =
    Reads-then (length bs) (Shorter (length bs)) (Shorter (length bs)) (groups_at bs) (λ g. only_if (ltb (groups_number g.0) (2 ^ w)) bs (groups_number g.0, g.1)) (groups_within bs)
    (λ g le. Reads-only_if (length bs) (Shorter (length bs)) (ltb (groups_number g.0) (2 ^ w)) bs (groups_number g.0, g.1) (omega arith) (λ yes. le))

zigzag_within : (w : ℕ) (bs : List ℕ) → IsWithin bs (zigzag_at w bs)
unfolding zigzag_at
zigzag_within w bs = same_rest bs (varint_at w bs) (λ x. unzigzag x.0) (varint_within w bs)

length_within : (bs : List ℕ) → IsWithin bs (long_length_at bs)
unfolding long_length_at
length_within bs =
    Reads-then (length bs) (Shorter (length bs)) (Shorter (length bs)) (zigzag_at 64 bs) (λ long. only_some (nonnegative long.0) bs >>= λ n. Ok (n, long.1)) (zigzag_within 64 bs)
    (λ long le. Reads-then (length bs) (λ n. Unit {0}) (Shorter (length bs)) (only_some (nonnegative long.0) bs) (λ n. Ok (n, long.1))
    (Reads-only_some (length bs) (λ n. Unit {0}) (nonnegative long.0) bs (omega arith) (λ n is. tt)) (λ n is. le))

bytes_within : (n : ℕ) (bs : List ℕ) → IsWithin bs (bytes_at n bs)
unfolding bytes_at
bytes_within n bs =
    cond_both (ltb (length bs) n) (Err (Short (length bs))) (Ok (take n bs, drop n bs)) (IsWithin bs) (λ short. omega arith) (λ long. omega (arith, length-drop n bs))

prefixed_within : (bs : List ℕ) → IsWithin bs (prefixed_at long_length_at bs)
unfolding prefixed_at length_then_bytes_at
prefixed_within bs =
    Reads-as_item bs (Shorter (length bs)) (length_then_bytes_at long_length_at bs) (behind bs (long_length_at bs) (λ len. bytes_at len.0 len.1) (length_within bs) (λ len. bytes_within len.0 len.1))

text_within : (bs : List ℕ) → IsWithin bs (text_at long_length_at bs)
unfolding text_at
text_within bs =
    Reads-then (length bs) (Shorter (length bs)) (Shorter (length bs)) (prefixed_at long_length_at bs) (λ found. only_if (is_utf8 found.0) bs found) (prefixed_within bs)
    (λ found le. Reads-only_if (length bs) (Shorter (length bs)) (is_utf8 found.0) bs found (omega arith) (λ yes. le))

byte_within : (bs : List ℕ) → IsWithin bs (number_at big_number 1 bs)
unfolding number_at
byte_within bs =
    cond_both (ltb (length bs) 1) (Err (Short (length bs))) (Ok (big_number 1 bs, drop 1 bs)) (IsWithin bs) (λ short. omega arith) (λ long. omega (arith, length-drop 1 bs))

boolean_within : (bs : List ℕ) → IsWithin bs (boolean_at bs)
unfolding boolean_at
boolean_within bs =
    Reads-then (length bs) (Shorter (length bs)) (Shorter (length bs)) (number_at big_number 1 bs) (λ byte. only_if (ltb byte.0 2) bs (byte.0 == 1, byte.1)) (byte_within bs)
    (λ byte le. Reads-only_if (length bs) (Shorter (length bs)) (ltb byte.0 2) bs (byte.0 == 1, byte.1) (omega arith) (λ yes. le))

index_within : (count : ℕ) (bs : List ℕ) → IsWithin bs (index_at count bs)
unfolding index_at
index_within count bs =
    Reads-then (length bs) (Shorter (length bs)) (Shorter (length bs)) (zigzag_at 32 bs) (λ number. only_some (nonnegative number.0) bs >>= λ index. only_if (ltb index count) bs (index, number.1)) (zigzag_within 32 bs)
    (λ number le. Reads-then (length bs) (λ n. Unit {0}) (Shorter (length bs)) (only_some (nonnegative number.0) bs) (λ index. only_if (ltb index count) bs (index, number.1))
    (Reads-only_some (length bs) (λ n. Unit {0}) (nonnegative number.0) bs (omega arith) (λ n is. tt))
    (λ index is. Reads-only_if (length bs) (Shorter (length bs)) (ltb index count) bs (index, number.1) (omega arith) (λ yes. le)))

-- ---- items and blocks

abbrev pub AllWithin : {A : Type 0} → Limited A → Type 0
AllWithin read = (left : ℕ) (bs : List ℕ) → IsWithin bs (read left bs)

-- what was told of a block's size stands within the bytes
abbrev HeadShorter : ℕ → BlockHead × List ℕ → Type 0
HeadShorter limit x = (length x.1 ≤ limit) × SizeShorter x.0.1
  where
    SizeShorter : Option (ℕ × ℕ) → Type 0
    SizeShorter None = Unit {0}
    SizeShorter (Some size) = size.1 ≤ limit

head_within : (left : ℕ) (bs : List ℕ) → Reads (length bs) (HeadShorter (length bs)) (block_head_at left bs)
unfolding block_head_at
head_within left bs =
    Reads-then (length bs) (Shorter (length bs)) (HeadShorter (length bs)) (zigzag_at 64 bs) (λ count. sized_head left bs count.0 count.1) (zigzag_within 64 bs) (λ count le. from count.0 count.1 le)
  where
    from : (z : ℤ) (rest : List ℕ) → length rest ≤ length bs → Reads (length bs) (HeadShorter (length bs)) (sized_head left bs z rest)
    from (pos n) rest le = Reads-only_if (length bs) (HeadShorter (length bs)) (nat_le n left) bs ((n, None), rest) (omega arith) (λ yes. (le, tt))
    from (negsuc n) rest le =
        Reads-then (length bs) (λ k. Unit {0}) (HeadShorter (length bs)) (only_if (nat_le (n + 1) left) bs (n + 1)) (λ k. long_length_at rest >>= λ size. Ok ((k, Some (size.0, length rest)), size.1))
        (Reads-only_if (length bs) (λ k. Unit {0}) (nat_le (n + 1) left) bs (n + 1) (omega arith) (λ yes. tt))
        (λ k is. Reads-then (length bs) (Shorter (length rest)) (HeadShorter (length bs)) (long_length_at rest) (λ size. Ok ((k, Some (size.0, length rest)), size.1))
        (Reads-within (length rest) (length bs) (Shorter (length rest)) (Shorter (length rest)) (long_length_at rest) le (length_within rest) (λ size less. less))
        (λ size less. (omega arith, le)))

module _ {A : Type 0} (read : Limited A) (all : AllWithin read) where
  items_within : (n : ℕ) (found : List A) (left : ℕ) (bs : List ℕ) → IsWithin bs (items_from read n found left bs)
  unfolding items_from
  items_within zero found left bs = omega arith
  items_within (suc n) found left bs =
      behind bs (read left bs) (λ next. items_from read n (found ++ next.0.0 ∷ []) next.0.1 next.1) (all left bs) (λ next. items_within n (found ++ next.0.0 ∷ []) next.0.1 next.1)

  -- a block, behind whose head so many bytes were there at its beginning
  block_within : (limit : ℕ) (head : BlockHead) (found : List A) (left : ℕ) (after : List ℕ) → HeadShorter limit (head, after) → Reads limit (Shorter limit) (block_from read head found left after)
  unfolding block_from
  block_within limit head found left after le =
      Reads-then limit (Shorter limit) (Shorter limit) (items_from read head.0 found (left - head.0) after) (λ block. has_size head.1 (length after) (length block.1) >>= λ right. Ok block)
      (Reads-within (length after) limit (Shorter (length after)) (Shorter limit) (items_from read head.0 found (left - head.0) after) le.0 (items_within head.0 found (left - head.0) after) (λ block less. omega arith))
      (λ block less. Reads-then limit (λ right. Unit {0}) (Shorter limit) (has_size head.1 (length after) (length block.1)) (λ right. Ok block) (sized head.1 le (length block.1)) (λ right is. less))
    where
      sized : (size : Option (ℕ × ℕ)) → HeadShorter limit ((head.0, size), after) → (rest : ℕ) → Reads limit (λ right. Unit {0}) (has_size size (length after) rest)
      sized None le rest = tt
      sized (Some size) le rest = cond_both (rest + size.0 == length after) (Ok true) (Err (Bad size.1)) (Reads limit (λ right. Unit {0})) (λ yes. tt) (λ no. le.1)

  blocks_within : (most : ℕ) (found : List A) (left : ℕ) (bs : List ℕ) → IsWithin bs (blocks_from read most found left bs)
  unfolding blocks_from
  blocks_within zero found left bs = omega arith
  blocks_within (suc most) found left bs =
      Reads-then (length bs) (HeadShorter (length bs)) (Shorter (length bs)) (block_head_at left bs) _ (head_within left bs)
      (λ head le. cond_both (head.0.0 == 0) (Ok ((found, left), head.1)) (block_from read head.0 found left head.1 >>= λ block. blocks_from read most block.0.0 block.0.1 block.1) (Reads (length bs) (Shorter (length bs)))
      (λ none. le.0)
      (λ some. Reads-then (length bs) (Shorter (length bs)) (Shorter (length bs)) (block_from read head.0 found left head.1) (λ block. blocks_from read most block.0.0 block.0.1 block.1) (block_within (length bs) head.0 found left head.1 le)
      (λ block less. Reads-within (length block.1) (length bs) (Shorter (length block.1)) (Shorter (length bs)) (blocks_from read most block.0.0 block.0.1 block.1) less (blocks_within most block.0.0 block.0.1 block.1) (λ y more. omega arith))))

  all_blocks_within : AllWithin (blocks_at read)
  unfolding blocks_at
  all_blocks_within left bs = blocks_within (left + 1) [] left bs

entries_within : (read : Limited Value) → AllWithin read → AllWithin (entry_at read)
unfolding entry_at
entries_within read all left bs =
    behind bs (text_at long_length_at bs) (λ key. read left key.1 >>= λ value. Ok ((roll-Pair (record { key = key.0; value = value.0.0 }), value.0.1), value.1)) (text_within bs)
    (λ key. same_rest key.1 (read left key.1) (λ value. (roll-Pair (record { key = key.0; value = value.0.0 }), value.0.1)) (all left key.1))

-- ---- by induction over types

plain_within : {A : Type 0} (make : A → Value) (left : ℕ) (bs : List ℕ) (read : Reading A) → IsWithin bs read → IsWithin bs (plain make left read)
plain_within make left bs read is = same_rest bs read (λ found. (make found.0, left)) is

made_within : {A : Type 0} (make : A → Value) (bs : List ℕ) (read : Reading (A × ℕ)) → IsWithin bs read → IsWithin bs (made make read)
made_within make bs read is = same_rest bs read (λ found. (make found.0.0, found.0.1)) is

mutual
  pub type_within : (type : AvroType) → AllWithin (value_at type)
  type_within null left bs = omega arith
  type_within boolean left bs = plain_within Boolean left bs (boolean_at bs) (boolean_within bs)
  type_within int left bs = plain_within Int left bs (zigzag_at 32 bs) (zigzag_within 32 bs)
  type_within long left bs = plain_within Long left bs (zigzag_at 64 bs) (zigzag_within 64 bs)
  type_within bytes left bs = plain_within Bytes left bs (prefixed_at long_length_at bs) (prefixed_within bs)
  type_within string left bs = plain_within Text left bs (text_at long_length_at bs) (text_within bs)
  type_within (fixed_of name size) left bs = plain_within Fixed left bs (bytes_at size bs) (bytes_within size bs)
  type_within (enum_of name symbols) left bs = plain_within Enum left bs (index_at (length symbols) bs) (index_within (length symbols) bs)
  type_within (array_of inner) left bs = made_within Array bs (blocks_at (value_at inner) left bs) (all_blocks_within (value_at inner) (type_within inner) left bs)
  type_within (map_of inner) left bs = made_within Map bs (blocks_at (entry_at (value_at inner)) left bs) (all_blocks_within (entry_at (value_at inner)) (entries_within (value_at inner) (type_within inner)) left bs)
  type_within (union_of branches) left bs =
      behind bs (index_at (branch_count branches) bs) (λ index. made (Union index.0) (branch_at branches index.0 left index.1)) (index_within (branch_count branches) bs)
      (λ index. made_within (Union index.0) index.1 (branch_at branches index.0 left index.1) (branch_within branches index.0 left index.1))
  type_within (record_of name fields) left bs = made_within Record bs (fields_from fields [] left bs) (fields_within fields [] left bs)

  branch_within : (branches : Branches) (n : ℕ) → AllWithin (branch_at branches n)
  branch_within no_branches n left bs = omega arith
  branch_within (branch type more) zero left bs = type_within type left bs
  branch_within (branch type more) (suc n) left bs = branch_within more n left bs

  fields_within : (fields : Fields) (found : List Value) → AllWithin (fields_from fields found)
  fields_within no_fields found left bs = omega arith
  fields_within (field name type more) found left bs =
      behind bs (value_at type left bs) (λ next. fields_from more (found ++ next.0.0 ∷ []) next.0.1 next.1) (type_within type left bs) (λ next. fields_within more (found ++ next.0.0 ∷ []) next.0.1 next.1)

-- an error stands within the bytes
pub error_within : (type : AvroType) (left : ℕ) (bs : List ℕ) (error : FieldError) → value_at type left bs ≡ Err error → left_of error ≤ length bs
error_within type left bs error e = subst (IsWithin bs) e (type_within type left bs)
