-- Readings stay within their bytes.
use Rattle.std.proofs.Common.{◌≡◌, ℕ, zero, suc, ◌+◌, ◌^◌, ◌≤◌, Bool, true, false, ltb, List, [], ◌∷◌, length, take as take_first, drop, Option, Some, None, Ok, Err, ℤ, pos, subst, arith}
use Rattle.std.specs.Prelude.{position, ◌==◌, ◌&&◌, int_le, ◌+ℤ◌, if◌then◌else◌}
use Rattle.std.specs.Option.{option_map_or}
use Rattle.std.proofs.lemmas.List.{length-drop}
use Rattle.byte_fields.specs.declared.field_error.FieldError.{FieldError}
use Rattle.byte_fields.specs.declared.field_error.FieldError.TheVariants.{Short, Bad}
use Rattle.byte_fields.specs.Reading.{left_of, Reading, ◌>>=◌, as_item, only_if, only_some}
use Rattle.byte_fields.specs.Varints.{is_last, groups_number, groups_to, groups_at, varint_at, unzigzag, zigzag_at}
use Rattle.byte_fields.specs.Prefixed.{bytes_at, length_then_bytes_at, prefixed_at}
use Rattle.thrift_compact.specs.declared.skipping.Shape.{Shape}
use Rattle.thrift_compact.specs.declared.skipping.Shape.TheVariants.{OfScalar, OfContainer}
use Rattle.thrift_compact.specs.declared.skipping.Scalar.{Scalar}
use Rattle.thrift_compact.specs.declared.skipping.Scalar.TheVariants.{Empty, Byte, I16, I32, I64, Double, Binary}
use Rattle.thrift_compact.specs.declared.skipping.Container.{Container}
use Rattle.thrift_compact.specs.declared.skipping.Container.TheVariants.{Items, Pairs, Fields}
use Rattle.thrift_compact.specs.Types.{is_type, is_boolean, shape_of}
use Rattle.thrift_compact.specs.Heads.{high_half, low_half, id_at, field_at, size_at, list_at, pair_types_at, map_parts_at, map_at}
use Rattle.thrift_compact.specs.Within.{Within, Stays, TakeStays}
use Rattle.thrift_compact.specs.Values.{Passing, passed, passing, fields_at, times_at, item_at, pair_at, scalar_at, container_at, too_deep_at, shaped_at, value_at}

pub Stays-Ok : {A : Type 0} (read : List ℕ → Reading A) (bytes rest : List ℕ) (x : A) → Stays read → read bytes ≡ Ok (x, rest) → length rest ≤ length bytes
Stays-Ok read bytes rest x stays e = subst (Within (length bytes) (length bytes)) e (stays bytes)

pub Stays-Err : {A : Type 0} (read : List ℕ → Reading A) (bytes : List ℕ) (error : FieldError) → Stays read → read bytes ≡ Err error → left_of error ≤ length bytes
Stays-Err {A} read bytes error stays e = subst (Within {A = A} (length bytes) (length bytes)) e (stays bytes)

-- ---- the steps of a reading

pub Within-weaken : {A : Type 0} (l m l' m' : ℕ) (r : Reading A) → l ≤ l' → m ≤ m' → Within l m r → Within l' m' r
Within-weaken l m l' m' (Ok x) le le' h = omega arith
Within-weaken l m l' m' (Err error) le le' h = omega arith

pub Within-then : {A B : Type 0} (l m n : ℕ) (r : Reading A) (f : A × List ℕ → Reading B) → Within l m r → ((x : A × List ℕ) → length x.1 ≤ m → Within l n (f x)) → Within l n (r >>= f)
Within-then l m n (Ok x) f first next = next x first
Within-then l m n (Err error) f first next = first

pub Within-as_item : {A : Type 0} (l m : ℕ) (item : List ℕ) (r : Reading A) → Within l m r → Within (length item) m (as_item item r)
Within-as_item l m item (Ok x) h = h
Within-as_item l m item (Err (Short left)) h = omega arith
Within-as_item l m item (Err (Bad left)) h = omega arith

pub Within-only_if : {A : Type 0} (l m : ℕ) (test : Bool) (item : List ℕ) (x : A × List ℕ) → length item ≤ l → length x.1 ≤ m → Within l m (only_if test item x)
Within-only_if l m true item x le le' = le'
Within-only_if l m false item x le le' = le

pub Within-if : {A : Type 0} (l m : ℕ) (test : Bool) (x y : Reading A) → Within l m x → Within l m y → Within l m (if test then x else y)
Within-if l m true x y h k = h
Within-if l m false x y h k = k

pub Within-passed : {A : Type 0} (l m : ℕ) (r : Reading A) → Within l m r → Within l m (passed r)
Within-passed l m (Ok x) h = h
Within-passed l m (Err error) h = h

-- ---- numbers and bytes

groups_at_stays : Stays groups_at
unfolding groups_at
groups_at_stays bytes = from (position is_last (take_first 10 bytes))
  where
    from : (o : Option ℕ) → Within (length bytes) (length bytes) (groups_to o bytes)
    from (Some last) = omega (arith, length-drop (last + 1) bytes)
    from None = Within-if {A = List ℕ} (length bytes) (length bytes) (ltb (length bytes) 10) (Err (Short (length bytes))) (Err (Bad (length bytes))) (omega arith) (omega arith)

pub varint_at_stays : (w : ℕ) → Stays (varint_at w)
unfolding varint_at
varint_at_stays w bytes =
    Within-then (length bytes) (length bytes) (length bytes) (groups_at bytes) (λ groups. only_if (ltb (groups_number groups.0) (2 ^ w)) bytes (groups_number groups.0, groups.1)) (groups_at_stays bytes)
    (λ groups le. Within-only_if (length bytes) (length bytes) (ltb (groups_number groups.0) (2 ^ w)) bytes (groups_number groups.0, groups.1) (omega arith) le)

pub zigzag_at_stays : (w : ℕ) → Stays (zigzag_at w)
unfolding zigzag_at
zigzag_at_stays w bytes = Within-then (length bytes) (length bytes) (length bytes) (varint_at w bytes) (λ found. Ok (unzigzag found.0, found.1)) (varint_at_stays w bytes) (λ found le. le)

pub bytes_at_stays : (n : ℕ) → Stays (bytes_at n)
unfolding bytes_at
bytes_at_stays n bytes = Within-if (length bytes) (length bytes) (ltb (length bytes) n) (Err (Short (length bytes))) (Ok (take_first n bytes, drop n bytes)) (omega arith) (omega (arith, length-drop n bytes))

pub binary_stays : Stays (prefixed_at (varint_at 32))
unfolding prefixed_at length_then_bytes_at
binary_stays bytes =
    Within-as_item (length bytes) (length bytes) bytes (length_then_bytes_at (varint_at 32) bytes)
    (Within-then (length bytes) (length bytes) (length bytes) (varint_at 32 bytes) (λ len. bytes_at len.0 len.1) (varint_at_stays 32 bytes)
    (λ len le. Within-weaken (length len.1) (length len.1) (length bytes) (length bytes) (bytes_at len.0 len.1) le le (bytes_at_stays len.0 len.1)))

-- ---- heads

id_at_stays : (last : ℤ) (difference : ℕ) → Stays (id_at last difference)
unfolding id_at
id_at_stays last difference bytes =
    Within-if (length bytes) (length bytes) (difference == 0) (zigzag_at 16 bytes) (only_if (int_le (last +ℤ pos difference) (pos 32767)) bytes (last +ℤ pos difference, bytes))
    (zigzag_at_stays 16 bytes) (Within-only_if (length bytes) (length bytes) (int_le (last +ℤ pos difference) (pos 32767)) bytes (last +ℤ pos difference, bytes) (omega arith) (omega arith))

-- a field's head has a byte at least
pub field_at_within : (last : ℤ) (byte : ℕ) (rest : List ℕ) → Within (length (byte ∷ rest)) (length rest) (field_at last (byte ∷ rest))
unfolding field_at
field_at_within last byte rest =
    Within-if (length (byte ∷ rest)) (length rest) (byte == 0) (Ok (None, rest)) (if is_type (low_half byte) then as_item (byte ∷ rest) (id_at last (high_half byte) rest >>= λ id. Ok (Some (id.0, low_half byte), id.1)) else Err (Bad (length (byte ∷ rest))))
    (omega arith)
    (Within-if (length (byte ∷ rest)) (length rest) (is_type (low_half byte)) (as_item (byte ∷ rest) (id_at last (high_half byte) rest >>= λ id. Ok (Some (id.0, low_half byte), id.1))) (Err (Bad (length (byte ∷ rest))))
    (Within-as_item (length rest) (length rest) (byte ∷ rest) (id_at last (high_half byte) rest >>= λ id. Ok (Some (id.0, low_half byte), id.1))
    (Within-then (length rest) (length rest) (length rest) (id_at last (high_half byte) rest) (λ id. Ok (Some (id.0, low_half byte), id.1)) (id_at_stays last (high_half byte) rest) (λ id le. le)))
    (omega arith))

pub field_at_stays : (last : ℤ) → Stays (field_at last)
unfolding field_at
field_at_stays last [] = omega arith
field_at_stays last (byte ∷ rest) = Within-weaken (length (byte ∷ rest)) (length rest) (length (byte ∷ rest)) (length (byte ∷ rest)) (field_at last (byte ∷ rest)) (omega arith) (omega arith) (field_at_within last byte rest)

size_at_stays : (half : ℕ) → Stays (size_at half)
unfolding size_at
size_at_stays half bytes = Within-if (length bytes) (length bytes) (half == 15) (varint_at 32 bytes) (Ok (half, bytes)) (varint_at_stays 32 bytes) (omega arith)

pub list_at_stays : Stays list_at
unfolding list_at
list_at_stays [] = omega arith
list_at_stays (byte ∷ rest) =
    Within-if (length (byte ∷ rest)) (length (byte ∷ rest)) (is_type (low_half byte)) (as_item (byte ∷ rest) (size_at (high_half byte) rest >>= λ size. Ok ((low_half byte, size.0), size.1))) (Err (Bad (length (byte ∷ rest))))
    (Within-as_item (length rest) (length (byte ∷ rest)) (byte ∷ rest) (size_at (high_half byte) rest >>= λ size. Ok ((low_half byte, size.0), size.1))
    (Within-then (length rest) (length rest) (length (byte ∷ rest)) (size_at (high_half byte) rest) (λ size. Ok ((low_half byte, size.0), size.1)) (size_at_stays (high_half byte) rest) (λ size le. omega arith)))
    (omega arith)

pair_types_at_stays : Stays pair_types_at
unfolding pair_types_at
pair_types_at_stays [] = omega arith
pair_types_at_stays (byte ∷ rest) = Within-only_if (length (byte ∷ rest)) (length (byte ∷ rest)) (is_type (high_half byte) && is_type (low_half byte)) (byte ∷ rest) ((high_half byte, low_half byte), rest) (omega arith) (omega arith)

map_parts_at_stays : Stays map_parts_at
unfolding map_parts_at
map_parts_at_stays bytes =
    Within-then (length bytes) (length bytes) (length bytes) (varint_at 32 bytes) (λ size. if size.0 == 0 then Ok (None, size.1) else (pair_types_at size.1 >>= λ types. Ok (Some (size.0, types.0.0, types.0.1), types.1))) (varint_at_stays 32 bytes)
    (λ size le. Within-if (length bytes) (length bytes) (size.0 == 0) (Ok (None, size.1)) (pair_types_at size.1 >>= λ types. Ok (Some (size.0, types.0.0, types.0.1), types.1)) le
    (Within-then (length bytes) (length size.1) (length bytes) (pair_types_at size.1) (λ types. Ok (Some (size.0, types.0.0, types.0.1), types.1))
    (Within-weaken (length size.1) (length size.1) (length bytes) (length size.1) (pair_types_at size.1) le (omega arith) (pair_types_at_stays size.1))
    (λ types less. omega arith)))

pub map_at_stays : Stays map_at
unfolding map_at
map_at_stays bytes = Within-as_item (length bytes) (length bytes) bytes (map_parts_at bytes) (map_parts_at_stays bytes)

-- ---- fields

pub fields_at_stays : {S : Type 0} (take : S → ℤ → ℕ → ℕ → List ℕ → Reading S) → TakeStays take → (steps : ℕ) (last : ℤ) (so_far : S) → Stays (fields_at take steps last so_far)
unfolding fields_at
fields_at_stays take stays zero last so_far bytes = omega arith
fields_at_stays {S} take stays (suc steps) last so_far bytes =
    Within-then (length bytes) (length bytes) (length bytes) (field_at last bytes) (λ head. option_map_or (λ field. take so_far field.0 field.1 (length bytes) head.1 >>= λ next. fields_at take steps field.0 next.0 next.1) head.0 (Ok (so_far, head.1))) (field_at_stays last bytes)
    (λ head le. after (λ id next rest. fields_at_stays take stays steps id next rest) head.0 head.1 le)
  where
    after : ((id : ℤ) (next : S) → Stays (fields_at take steps id next)) → (o : Option (ℤ × ℕ)) (rest : List ℕ) → length rest ≤ length bytes → Within (length bytes) (length bytes) (option_map_or (λ field. take so_far field.0 field.1 (length bytes) rest >>= λ next. fields_at take steps field.0 next.0 next.1) o (Ok (so_far, rest)))
    after again None rest le = le
    after again (Some field) rest le =
        Within-then (length bytes) (length rest) (length bytes) (take so_far field.0 field.1 (length bytes) rest) (λ next. fields_at take steps field.0 next.0 next.1) (stays so_far field.0 field.1 (length bytes) rest le)
        (λ next less. Within-weaken (length next.1) (length next.1) (length bytes) (length bytes) (fields_at take steps field.0 next.0 next.1) (omega arith) (omega arith) (again field.0 next.0 next.1))

-- ---- values

times_at_stays : (count : ℕ) (read : List ℕ → Passing) → Stays read → Stays (times_at count read)
unfolding times_at
times_at_stays zero read stays bytes = omega arith
times_at_stays (suc count) read stays bytes =
    Within-then (length bytes) (length bytes) (length bytes) (read bytes) (λ first. times_at count read first.1) (stays bytes)
    (λ first le. Within-weaken (length first.1) (length first.1) (length bytes) (length bytes) (times_at count read first.1) le le (times_at_stays count read stays first.1))

scalar_at_stays : (scalar : Scalar) → Stays (scalar_at scalar)
unfolding scalar_at
scalar_at_stays Empty bytes = omega arith
scalar_at_stays Byte bytes = Within-passed (length bytes) (length bytes) (bytes_at 1 bytes) (bytes_at_stays 1 bytes)
scalar_at_stays I16 bytes = Within-passed (length bytes) (length bytes) (zigzag_at 16 bytes) (zigzag_at_stays 16 bytes)
scalar_at_stays I32 bytes = Within-passed (length bytes) (length bytes) (zigzag_at 32 bytes) (zigzag_at_stays 32 bytes)
scalar_at_stays I64 bytes = Within-passed (length bytes) (length bytes) (zigzag_at 64 bytes) (zigzag_at_stays 64 bytes)
scalar_at_stays Double bytes = Within-passed (length bytes) (length bytes) (bytes_at 8 bytes) (bytes_at_stays 8 bytes)
scalar_at_stays Binary bytes = Within-passed (length bytes) (length bytes) (prefixed_at (varint_at 32) bytes) (binary_stays bytes)

item_at_stays : (value : ℕ → List ℕ → Passing) → ((kind : ℕ) → Stays (value kind)) → (kind : ℕ) → Stays (item_at value kind)
unfolding item_at
item_at_stays value stays kind bytes = Within-if (length bytes) (length bytes) (is_boolean kind) (passed (bytes_at 1 bytes)) (value kind bytes) (Within-passed (length bytes) (length bytes) (bytes_at 1 bytes) (bytes_at_stays 1 bytes)) (stays kind bytes)

pair_at_stays : (value : ℕ → List ℕ → Passing) → ((kind : ℕ) → Stays (value kind)) → (key_kind value_kind : ℕ) → Stays (pair_at value key_kind value_kind)
unfolding pair_at
pair_at_stays value stays key_kind value_kind bytes =
    Within-then (length bytes) (length bytes) (length bytes) (item_at value key_kind bytes) (λ key. item_at value value_kind key.1) (item_at_stays value stays key_kind bytes)
    (λ key le. Within-weaken (length key.1) (length key.1) (length bytes) (length bytes) (item_at value value_kind key.1) le le (item_at_stays value stays value_kind key.1))

-- a field that is passed over stays within itself
pub passing_stays : (value : ℕ → List ℕ → Passing) → ((kind : ℕ) → Stays (value kind)) → TakeStays (passing value)
passing_stays value stays so_far id kind left bytes le = Within-weaken (length bytes) (length bytes) left (length bytes) (value kind bytes) le (omega arith) (stays kind bytes)

container_at_stays : (value : ℕ → List ℕ → Passing) → ((kind : ℕ) → Stays (value kind)) → (container : Container) → Stays (container_at value container)
unfolding container_at
container_at_stays value stays Items bytes =
    Within-then (length bytes) (length bytes) (length bytes) (list_at bytes) (λ head. times_at head.0.1 (item_at value head.0.0) head.1) (list_at_stays bytes)
    (λ head le. Within-weaken (length head.1) (length head.1) (length bytes) (length bytes) (times_at head.0.1 (item_at value head.0.0) head.1) le le (times_at_stays head.0.1 (item_at value head.0.0) (item_at_stays value stays head.0.0) head.1))
container_at_stays value stays Pairs bytes =
    Within-then (length bytes) (length bytes) (length bytes) (map_at bytes) (λ head. option_map_or (λ pairs. times_at pairs.0 (pair_at value pairs.1 pairs.2) head.1) head.0 (Ok (tt, head.1))) (map_at_stays bytes)
    (λ head le. after head.0 head.1 le)
  where
    after : (o : Option (ℕ × ℕ × ℕ)) (rest : List ℕ) → length rest ≤ length bytes → Within (length bytes) (length bytes) (option_map_or (λ pairs. times_at pairs.0 (pair_at value pairs.1 pairs.2) rest) o (Ok (tt, rest)))
    after None rest le = le
    after (Some pairs) rest le = Within-weaken (length rest) (length rest) (length bytes) (length bytes) (times_at pairs.0 (pair_at value pairs.1 pairs.2) rest) le le (times_at_stays pairs.0 (pair_at value pairs.1 pairs.2) (pair_at_stays value stays pairs.1 pairs.2) rest)
container_at_stays value stays Fields bytes = fields_at_stays (passing value) (passing_stays value stays) (length bytes) (pos 0) tt bytes

too_deep_at_stays : (container : Container) → Stays (too_deep_at container)
too_deep_at_stays container [] = omega arith
too_deep_at_stays container (byte ∷ rest) = omega arith

value_of_shape_stays : (container : Container → List ℕ → Passing) → ((shape : Container) → Stays (container shape)) → (bytes : List ℕ) (o : Option Shape) → Within (length bytes) (length bytes) (only_some o bytes >>= λ shape. shaped_at container shape bytes)
value_of_shape_stays container stays bytes None = omega arith
value_of_shape_stays container stays bytes (Some (OfScalar scalar)) = scalar_at_stays scalar bytes
value_of_shape_stays container stays bytes (Some (OfContainer shape)) = stays shape bytes

pub value_at_stays : (levels kind : ℕ) → Stays (value_at levels kind)
unfolding value_at
value_at_stays zero kind bytes = value_of_shape_stays too_deep_at too_deep_at_stays bytes (shape_of kind)
value_at_stays (suc levels) kind bytes = value_of_shape_stays (container_at (value_at levels)) (container_at_stays (value_at levels) (value_at_stays levels)) bytes (shape_of kind)
