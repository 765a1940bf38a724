-- The equations of what is said of a value from its parts.
use Rattle.std.proofs.Common.{if◌then◌else◌, ◌≡◌, ℕ, ◌+◌, Bool, List, [], ◌∷◌, ◌++◌, length, map, ℤ, refl, ◌∙◌, rules, arith}
use Rattle.std.specs.Prelude.{sum_by, flat_map}
use Rattle.std.proofs.lemmas.List.Sums.{sum_by-cons}
use Rattle.byte_fields.specs.Varints.{varint, zigzag}
use Rattle.byte_fields.specs.Prefixed.{with_length, long_bytes}
use Rattle.hudi_base.specs.declared.value.Value.{Value, Null, Boolean, Int, Long, Bytes, Text, Fixed, Enum, Array, Map, Union, Record, the_lemmas}
use Rattle.hudi_base.specs.declared.value.Pair.{Pair, out-Pair}
use Rattle.avro_schema.specs.Written.{written, written_entry, block_of, item_count, entry_count}

-- ---- how many items there are

pub item_count-Null : item_count Null ≡ 0
item_count-Null = search (rules, the_lemmas)

pub item_count-Boolean : (b : Bool) → item_count (Boolean b) ≡ 0
item_count-Boolean b = search (rules, the_lemmas)

pub item_count-Int : (z : ℤ) → item_count (Int z) ≡ 0
item_count-Int z = search (rules, the_lemmas)

pub item_count-Long : (z : ℤ) → item_count (Long z) ≡ 0
item_count-Long z = search (rules, the_lemmas)

pub item_count-Bytes : (content : List ℕ) → item_count (Bytes content) ≡ 0
item_count-Bytes content = search (rules, the_lemmas)

pub item_count-Text : (content : List ℕ) → item_count (Text content) ≡ 0
item_count-Text content = search (rules, the_lemmas)

pub item_count-Fixed : (content : List ℕ) → item_count (Fixed content) ≡ 0
item_count-Fixed content = search (rules, the_lemmas)

pub item_count-Enum : (n : ℕ) → item_count (Enum n) ≡ 0
item_count-Enum n = search (rules, the_lemmas)

pub item_count-Union : (n : ℕ) (v : Value) → item_count (Union n v) ≡ item_count v
item_count-Union n v = search (rules, the_lemmas)

array_count : (vs : List Value) → item_count (Array vs) ≡ sum_by (λ n. n + 1) (map item_count vs)
array_count vs = search (rules, the_lemmas)

map_count : (pairs : List Pair) → item_count (Map pairs) ≡ sum_by (λ n. n + 1) (map entry_count pairs)
map_count pairs = search (rules, the_lemmas)

record_count : (vs : List Value) → item_count (Record vs) ≡ sum_by (λ n. n) (map item_count vs)
record_count vs = search (rules, the_lemmas)

pub entry_count-is : (pair : Pair) → entry_count pair ≡ item_count (out-Pair pair).value
entry_count-is pair = search (rules, the_lemmas)

one_more : {A : Type 0} (f : A → ℕ) (xs : List A) → sum_by (λ n. n + 1) (map f xs) ≡ sum_by f xs + length xs
one_more f [] = refl
one_more f (x ∷ xs) = omega (arith, one_more f xs, sum_by-cons (λ n. n + 1) (f x) (map f xs), sum_by-cons f x xs)

same_sum : {A : Type 0} (f : A → ℕ) (xs : List A) → sum_by (λ n. n) (map f xs) ≡ sum_by f xs
same_sum f [] = refl
same_sum f (x ∷ xs) = omega (arith, same_sum f xs, sum_by-cons (λ n. n) (f x) (map f xs), sum_by-cons f x xs)

pub item_count-Array : (vs : List Value) → item_count (Array vs) ≡ sum_by item_count vs + length vs
item_count-Array vs = array_count vs ∙ one_more item_count vs

pub item_count-Map : (pairs : List Pair) → item_count (Map pairs) ≡ sum_by entry_count pairs + length pairs
item_count-Map pairs = map_count pairs ∙ one_more entry_count pairs

pub item_count-Record : (vs : List Value) → item_count (Record vs) ≡ sum_by item_count vs
item_count-Record vs = record_count vs ∙ same_sum item_count vs

-- ---- the written form

pub written-Null : written Null ≡ []
written-Null = search (rules, the_lemmas)

pub written-Boolean : (b : Bool) → written (Boolean b) ≡ (if b then 1 else 0) ∷ []
written-Boolean b = search (rules, the_lemmas)

pub written-Int : (z : ℤ) → written (Int z) ≡ varint (zigzag z)
written-Int z = search (rules, the_lemmas)

pub written-Long : (z : ℤ) → written (Long z) ≡ varint (zigzag z)
written-Long z = search (rules, the_lemmas)

pub written-Bytes : (content : List ℕ) → written (Bytes content) ≡ with_length long_bytes content
written-Bytes content = search (rules, the_lemmas)

pub written-Text : (content : List ℕ) → written (Text content) ≡ with_length long_bytes content
written-Text content = search (rules, the_lemmas)

pub written-Fixed : (content : List ℕ) → written (Fixed content) ≡ content
written-Fixed content = search (rules, the_lemmas)

pub written-Enum : (n : ℕ) → written (Enum n) ≡ long_bytes n
written-Enum n = search (rules, the_lemmas)

pub written-Array : (vs : List Value) → written (Array vs) ≡ block_of (map written vs)
written-Array vs = search (rules, the_lemmas)

pub written-Map : (pairs : List Pair) → written (Map pairs) ≡ block_of (map written_entry pairs)
written-Map pairs = search (rules, the_lemmas)

pub written-Union : (n : ℕ) (v : Value) → written (Union n v) ≡ long_bytes n ++ written v
written-Union n v = search (rules, the_lemmas)

pub written-Record : (vs : List Value) → written (Record vs) ≡ flat_map (λ bs. bs) (map written vs)
written-Record vs = search (rules, the_lemmas)

pub written_entry-is : (pair : Pair) → written_entry pair ≡ with_length long_bytes (out-Pair pair).key ++ written (out-Pair pair).value
written_entry-is pair = search (rules, the_lemmas)
