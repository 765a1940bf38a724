-- What is a value stays one where more levels are allowed, and what makes up a value is one.
use Rattle.std.proofs.Common.{◌≡◌, ℕ, zero, suc, ◌+◌, List, [], ◌∷◌, ◌++◌, ℤ, pos, refl, subst, arith, inl, inr}
use Rattle.byte_fields.specs.Varints.{zigzag}
use Rattle.thrift_compact.specs.declared.skipping.Scalar.TheVariants.{I32, I64, Binary}
use Rattle.thrift_compact.specs.declared.skipping.Container.{Container}
use Rattle.thrift_compact.specs.declared.skipping.Container.TheVariants.{Items, Pairs, Fields}
use Rattle.thrift_compact.specs.Types.{shape_of}
use Rattle.thrift_compact.specs.Grammar.{IsSize, IsBinary, IsItem, AreParts, IsListHead, IsPair, RawField, AreFields, IsContainer, IsValue}

-- ---- values with more levels

pub part_more : (V W : List ℕ → Type 0) → ((bytes : List ℕ) → V bytes → W bytes) → (n : ℕ) (bytes : List ℕ) → AreParts V n bytes → AreParts W n bytes
part_more V W more zero bytes is = is
part_more V W more (suc n) bytes is = (is.0, is.1, is.2, more is.0 is.3, part_more V W more n is.1 is.4)

pub item_more : (V W : ℕ → List ℕ → Type 0) → ((kind : ℕ) (bytes : List ℕ) → V kind bytes → W kind bytes) → (kind : ℕ) (bytes : List ℕ) → IsItem V kind bytes → IsItem W kind bytes
item_more V W more kind bytes is = elim is [ inl byte ↦ inl byte | inr value ↦ inr (value.0, more kind bytes value.1) ]

pub fields_more : (V W : ℕ → List ℕ → Type 0) → ((kind : ℕ) (bytes : List ℕ) → V kind bytes → W kind bytes) → (last : ℤ) (fields : List RawField) (bytes : List ℕ) → AreFields V last fields bytes → AreFields W last fields bytes
fields_more V W more last [] bytes is = is
fields_more V W more last (field ∷ fields) bytes is =
    (is.0, is.1, is.2, is.3, more field.kind field.value is.4, fields_more V W more field.id fields is.1 is.5)

container_more : (V W : ℕ → List ℕ → Type 0) → ((kind : ℕ) (bytes : List ℕ) → V kind bytes → W kind bytes) → (container : Container) (bytes : List ℕ) → IsContainer V container bytes → IsContainer W container bytes
container_more V W more Items bytes is =
    (is.0, is.1, is.2, is.3, is.4, is.5, part_more (IsItem V is.0) (IsItem W is.0) (item_more V W more is.0) is.1 is.3 is.6)
container_more V W more Pairs bytes is =
    elim is [
      | inl none ↦ inl none
      | inr some ↦ inr (some.0, some.1, some.2, some.3, some.4, some.5, some.6, some.7, some.8, some.9, part_more (IsPair V some.1 some.2) (IsPair W some.1 some.2) (λ pair p. (p.0, p.1, p.2, item_more V W more some.1 p.0 p.3, item_more V W more some.2 p.1 p.4)) some.0 some.5 some.10)
    ]
container_more V W more Fields bytes is = (is.0, fields_more V W more (pos 0) is.0 bytes is.1)

value_more : (levels kind : ℕ) (bytes : List ℕ) → IsValue levels kind bytes → IsValue (suc levels) kind bytes
unfolding IsValue
value_more zero kind bytes is = inl is
value_more (suc levels) kind bytes is =
    elim is [
      | inl scalar ↦ inl scalar
      | inr container ↦ inr (container.0, container.1, container_more (IsValue levels) (IsValue (suc levels)) (value_more levels) container.0 bytes container.2)
    ]

pub value_plus : (levels n kind : ℕ) (bytes : List ℕ) → IsValue levels kind bytes → IsValue (levels + n) kind bytes
value_plus levels zero kind bytes is = (let e : levels ≡ levels + 0 = omega arith in subst (λ (k : ℕ). IsValue k kind bytes) e is)
value_plus levels (suc n) kind bytes is =
    let e : suc (levels + n) ≡ levels + suc n = omega arith in
    subst (λ (k : ℕ). IsValue k kind bytes) e (value_more (levels + n) kind bytes (value_plus levels n kind bytes is))

pub value_before : (n levels kind : ℕ) (bytes : List ℕ) → IsValue levels kind bytes → IsValue (n + levels) kind bytes
value_before n levels kind bytes is =
    let e : levels + n ≡ n + levels = omega arith in
    subst (λ (k : ℕ). IsValue k kind bytes) e (value_plus levels n kind bytes is)

-- ---- what makes up a value

pub number32_is : (n : ℤ) (bytes : List ℕ) → IsSize 32 (zigzag n) bytes → IsValue 0 5 bytes
unfolding IsValue shape_of
number32_is n bytes is = (I32, refl, (n, is))

pub number64_is : (n : ℤ) (bytes : List ℕ) → IsSize 64 (zigzag n) bytes → IsValue 0 6 bytes
unfolding IsValue shape_of
number64_is n bytes is = (I64, refl, (n, is))

pub binary_is : (bytes : List ℕ) → IsBinary bytes → IsValue 0 8 bytes
unfolding IsValue shape_of
binary_is bytes is = (Binary, refl, is)

pub list_is : (levels kind n : ℕ) (head items bytes : List ℕ) → bytes ≡ head ++ items → IsListHead kind n head → AreParts (IsItem (IsValue levels) kind) n items → IsValue (suc levels) 9 bytes
unfolding IsValue shape_of
list_is levels kind n head items bytes parts is all = inr (Items, refl, (kind, n, head, items, parts, is, all))

pub struct_is : (levels : ℕ) (fields : List RawField) (bytes : List ℕ) → AreFields (IsValue levels) (pos 0) fields bytes → IsValue (suc levels) 12 bytes
unfolding IsValue shape_of
struct_is levels fields bytes is = inr (Fields, refl, (fields, is))
