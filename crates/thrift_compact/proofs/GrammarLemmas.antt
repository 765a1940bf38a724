-- What is passed over is what the grammar says, and no less.
use Rattle.std.proofs.Common.{◌≡◌, ℕ, zero, suc, ◌/◌, ◌%◌, ◌^◌, ◌≤◌, Bool, true, false, List, [], ◌∷◌, ◌++◌, length, take, drop, Option, Some, None, Ok, Err, ℤ, pos, ◌+ℤ◌, refl, sym, ap, subst, ◌∙◌, append_assoc, arith, inl, inr, ltb, lit≤}
use Rattle.std.specs.Prelude.{◌==◌, ◌⊎◌, ◌≢◌, int_le, if◌then◌else◌, ◌&&◌}
use Rattle.std.specs.Option.{option_map_or}
use Rattle.std.proofs.Math.Nat.{pow-le-pow_right}
use Rattle.std.proofs.lemmas.Bool.{eq-eqb, ne_eqb, eqb-true, eqb-false, ltb-false}
use Rattle.std.proofs.lemmas.List.{length-take, take-append-drop}
use Rattle.byte_fields.specs.declared.field_error.FieldError.TheVariants.{Short, Bad}
use Rattle.byte_fields.specs.Reading.{Reading, ◌>>=◌, as_item, only_if, only_some}
use Rattle.byte_fields.specs.Varints.{varint_at, zigzag, zigzag_at, unzigzag}
use Rattle.byte_fields.specs.Prefixed.{bytes_at, length_then_bytes_at, prefixed_at}
use Rattle.byte_fields.proofs.ReadingLemmas.{bind-Ok, as_item-Ok, only_if-Ok, read_once, bind_is, as_item_is}
use Rattle.byte_fields.proofs.VarintLemmas.{varint_at_found, varint_at_again, zigzag_at_took, unzigzag-zigzag}
use Rattle.byte_fields.proofs.PrefixedLemmas.{bytes_at_again}
use Rattle.thrift_compact.specs.declared.skipping.Shape.{Shape}
use Rattle.thrift_compact.specs.declared.skipping.Shape.TheVariants.{OfScalar, OfContainer}
use Rattle.thrift_compact.specs.declared.skipping.Scalar.{Scalar}
use Rattle.thrift_compact.specs.declared.skipping.Scalar.TheVariants.{Empty, Byte, I16, I32, I64, Double, Binary}
use Rattle.thrift_compact.specs.declared.skipping.Container.{Container}
use Rattle.thrift_compact.specs.declared.skipping.Container.TheVariants.{Items, Pairs, Fields}
use Rattle.thrift_compact.specs.Types.{is_type, is_boolean, shape_of}
use Rattle.thrift_compact.specs.Heads.{high_half, low_half, id_at, field_at, size_at, list_at, pair_types_at, map_parts_at, map_at}
use Rattle.thrift_compact.specs.Values.{Passing, passed, passing, fields_at, times_at, item_at, pair_at, scalar_at, container_at, too_deep_at, shaped_at, value_at}
use Rattle.thrift_compact.specs.Within.{Stays}
use Rattle.thrift_compact.proofs.WithinLemmas.{passing_stays, value_at_stays}
use Rattle.thrift_compact.proofs.FieldsLemmas.{fields_at-stop, fields_at-next}
use Rattle.thrift_compact.specs.Grammar.{IsSize, IsBinary, IsScalar, IsItem, AreParts, IsListHead, IsPair, IsPairTypes, IsMap, RawField, IsFieldHead, AreFields, IsContainer, IsValue}

-- ---- readers that are known

-- what the reader takes are the bytes that P says, with the value
pub record Takes {A : Type 0} (read : List ℕ → Reading A) (P : A → List ℕ → Type 0) : Type 0 where
  pub took : (bytes rest : List ℕ) (x : A) → read bytes ≡ Ok (x, rest) → (value : List ℕ) × (bytes ≡ value ++ rest) × P x value
  pub again : (value rest : List ℕ) (x : A) → P x value → read (value ++ rest) ≡ Ok (x, rest)

-- the same of a reader that passes over
pub record Known (read : List ℕ → Passing) (P : List ℕ → Type 0) : Type 0 where
  pub took : (bytes rest : List ℕ) → read bytes ≡ Ok (tt, rest) → (value : List ℕ) × (bytes ≡ value ++ rest) × P value
  pub again : (value rest : List ℕ) → P value → read (value ++ rest) ≡ Ok (tt, rest)

-- ---- numbers and bytes

pub size_takes : (w : ℕ) → w ≤ 64 → Takes (varint_at w) (λ n bytes. IsSize w n bytes)
size_takes w le = record {
  took = λ bytes rest n e. (let f = varint_at_found w n bytes rest le e in (f.0, f.1, (f.2, f.3)));
  again = λ value rest n is. varint_at_again w value rest n is.0 is.1;
}

pub number_takes : (w : ℕ) → w ≤ 64 → Takes (zigzag_at w) (λ z bytes. IsSize w (zigzag z) bytes)
unfolding zigzag_at
number_takes w le = record {
  took = λ bytes rest z e. (
      let t = zigzag_at_took w bytes z rest e in
      let wide : 2 ^ w ≤ 2 ^ 64 = pow-le-pow_right (omega arith) le in
      (t.groups, t.parts, (record { groups = t.is_groups; at_most_ten = t.at_most_ten; number = t.number; below = omega (arith, t.below) }, t.below)));
  again = λ value rest z is.
      ap (λ (r : Reading ℕ). r >>= λ found. Ok (unzigzag found.0, found.1)) (varint_at_again w value rest (zigzag z) is.0 is.1)
      ∙ ap (λ (y : ℤ). Ok (y, rest)) (unzigzag-zigzag z);
}

-- one of two results
pub if_Ok : {A : Type 0} (test : Bool) (x y : Reading A) (found : A × List ℕ) → (if test then x else y) ≡ Ok found → ((test ≡ true) × (x ≡ Ok found)) ⊎ ((test ≡ false) × (y ≡ Ok found))
if_Ok true x y found e = inl (refl, e)
if_Ok false x y found e = inr (refl, e)

bytes_takes : (n : ℕ) → Takes (bytes_at n) (λ content bytes. (content ≡ bytes) × (length bytes ≡ n))
unfolding bytes_at
bytes_takes n = record {
  took = λ bytes rest content e.
      elim (if_Ok (ltb (length bytes) n) (Err (Short (length bytes))) (Ok (take n bytes, drop n bytes)) (content, rest) e) [
        | inl short ↦ absurd cc
        | inr long ↦
            let same = read_once (take n bytes, drop n bytes) (content, rest) (Ok (take n bytes, drop n bytes)) refl long.1 in
            let front : take n bytes ≡ content = ap (λ (p : List ℕ × List ℕ). p.0) same in
            let back : drop n bytes ≡ rest = ap (λ (p : List ℕ × List ℕ). p.1) same in
            let le : n ≤ length bytes = ltb-false _ _ long.0 in
            (take n bytes, sym (take-append-drop n bytes) ∙ ap (λ (t : List ℕ). take n bytes ++ t) back, (sym front, omega (arith, length-take n bytes)))
      ];
  again = λ value rest content is.
      ap (λ (k : ℕ). bytes_at k (value ++ rest)) (sym is.1) ∙ bytes_at_again value rest ∙ ap (λ (c : List ℕ). Ok (c, rest)) (sym is.0);
}

pub binary_takes : Takes (prefixed_at (varint_at 32)) (λ content bytes. (size : List ℕ) × (bytes ≡ size ++ content) × IsSize 32 (length content) size)
unfolding prefixed_at length_then_bytes_at
binary_takes = record {
  took = λ bytes rest content e. (
      let whole = as_item-Ok bytes (varint_at 32 bytes >>= λ len. bytes_at len.0 len.1) (content, rest) e in
      let first = bind-Ok (varint_at 32 bytes) (λ len. bytes_at len.0 len.1) (content, rest) whole in
      let size = (size_takes 32 (lit≤ tt)).took bytes first.0.1 first.0.0 first.1 in
      let body = (bytes_takes first.0.0).took first.0.1 rest content first.2 in
      let parts : bytes ≡ (size.0 ++ content) ++ rest = size.1 ∙ ap (λ (t : List ℕ). size.0 ++ t) (body.1 ∙ ap (λ (t : List ℕ). t ++ rest) (sym body.2.0)) ∙ sym (append_assoc size.0 content rest) in
      let len : first.0.0 ≡ length content = sym (ap length body.2.0 ∙ body.2.1) in
      (size.0 ++ content, parts, (size.0, refl, subst (λ (n : ℕ). IsSize 32 n size.0) len size.2)));
  again = λ value rest content is.
      ap (λ (b : List ℕ). as_item b (varint_at 32 b >>= λ len. bytes_at len.0 len.1)) (ap (λ (t : List ℕ). t ++ rest) is.1 ∙ append_assoc is.0 content rest)
      ∙ as_item_is (is.0 ++ (content ++ rest)) (varint_at 32 (is.0 ++ (content ++ rest)) >>= λ len. bytes_at len.0 len.1) (content, rest)
      (bind_is (varint_at 32 (is.0 ++ (content ++ rest))) (length content, content ++ rest) (λ len. bytes_at len.0 len.1) ((size_takes 32 (lit≤ tt)).again is.0 (content ++ rest) (length content) is.2)
      ∙ bytes_at_again content rest);
}

-- ---- readers that pass over

passed_Ok : {A : Type 0} (r : Reading A) (rest : List ℕ) → passed r ≡ Ok (tt, rest) → (x : A) × (r ≡ Ok (x, rest))
passed_Ok (Ok x) rest e =
    let same = read_once (tt, x.1) (tt, rest) (Ok (tt, x.1)) refl e in
    (x.0, ap (λ (t : List ℕ). Ok (x.0, t)) (ap (λ (p : Unit {0} × List ℕ). p.1) same))
passed_Ok (Err error) rest e = absurd cc

known_passed : {A : Type 0} (read : List ℕ → Reading A) (P : A → List ℕ → Type 0) → Takes read P → Known (λ bytes. passed (read bytes)) (λ bytes. (x : A) × P x bytes)
known_passed read P takes = record {
  took = λ bytes rest e. (let found = passed_Ok (read bytes) rest e in let t = takes.took bytes rest found.0 found.1 in (t.0, t.1, (found.0, t.2)));
  again = λ value rest is. ap (λ r. passed r) (takes.again value rest is.0 is.1);
}

known_weaken : (read : List ℕ → Passing) (P Q : List ℕ → Type 0) → Known read P → ((bytes : List ℕ) → P bytes → Q bytes) → ((bytes : List ℕ) → Q bytes → P bytes) → Known read Q
known_weaken read P Q known there back = record {
  took = λ bytes rest e. (let t = known.took bytes rest e in (t.0, t.1, there t.0 t.2));
  again = λ value rest is. known.again value rest (back value is);
}

known_then : (read next : List ℕ → Passing) (P Q : List ℕ → Type 0) → Known read P → Known next Q → Known (λ bytes. read bytes >>= λ first. next first.1) (λ bytes. (first more : List ℕ) × (bytes ≡ first ++ more) × P first × Q more)
known_then read next P Q known after = record {
  took = λ bytes rest e. (
      let first = bind-Ok (read bytes) (λ found. next found.1) (tt, rest) e in
      let a = known.took bytes first.0.1 first.1 in
      let b = after.took first.0.1 rest first.2 in
      (a.0 ++ b.0, a.1 ∙ ap (λ (t : List ℕ). a.0 ++ t) b.1 ∙ sym (append_assoc a.0 b.0 rest), (a.0, b.0, refl, a.2, b.2)));
  again = λ value rest is.
      ap (λ (b : List ℕ). read b >>= λ found. next found.1) (ap (λ (t : List ℕ). t ++ rest) is.2 ∙ append_assoc is.0 is.1 rest)
      ∙ bind_is (read (is.0 ++ (is.1 ++ rest))) (tt, is.1 ++ rest) (λ found. next found.1) (known.again is.0 (is.1 ++ rest) is.3)
      ∙ after.again is.1 rest is.4;
}

parts_known : (read : List ℕ → Passing) (P : List ℕ → Type 0) → Known read P → (n : ℕ) → Known (times_at n read) (AreParts P n)
unfolding times_at
parts_known read P known zero = record {
  took = λ bytes rest e. ([], ap (λ (p : Unit {0} × List ℕ). p.1) (read_once (tt, bytes) (tt, rest) (Ok (tt, bytes)) refl e), refl);
  again = λ value rest is. ap (λ (v : List ℕ). Ok (tt, v ++ rest)) is;
}
parts_known read P known (suc n) = known_then read (times_at n read) P (AreParts P n) known (parts_known read P known n)

scalar_known : (scalar : Scalar) → Known (scalar_at scalar) (IsScalar scalar)
unfolding scalar_at
scalar_known Empty = record {
  took = λ bytes rest e. ([], ap (λ (p : Unit {0} × List ℕ). p.1) (read_once (tt, bytes) (tt, rest) (Ok (tt, bytes)) refl e), refl);
  again = λ value rest is. ap (λ (v : List ℕ). Ok (tt, v ++ rest)) is;
}
scalar_known Byte = known_weaken (λ bytes. passed (bytes_at 1 bytes)) (λ bytes. (content : List ℕ) × ((content ≡ bytes) × (length bytes ≡ 1))) (IsScalar Byte) (known_passed (bytes_at 1) _ (bytes_takes 1)) (λ bytes is. is.1.1) (λ bytes is. (bytes, (refl, is)))
scalar_known I16 = known_passed (zigzag_at 16) _ (number_takes 16 (lit≤ tt))
scalar_known I32 = known_passed (zigzag_at 32) _ (number_takes 32 (lit≤ tt))
scalar_known I64 = known_passed (zigzag_at 64) _ (number_takes 64 (lit≤ tt))
scalar_known Double = known_weaken (λ bytes. passed (bytes_at 8 bytes)) (λ bytes. (content : List ℕ) × ((content ≡ bytes) × (length bytes ≡ 8))) (IsScalar Double) (known_passed (bytes_at 8) _ (bytes_takes 8)) (λ bytes is. is.1.1) (λ bytes is. (bytes, (refl, is)))
scalar_known Binary = known_weaken (λ bytes. passed (prefixed_at (varint_at 32) bytes)) (λ bytes. (content : List ℕ) × ((size : List ℕ) × (bytes ≡ size ++ content) × IsSize 32 (length content) size)) IsBinary (known_passed (prefixed_at (varint_at 32)) _ binary_takes) (λ bytes is. (is.1.0, is.0, is.1.1, is.1.2)) (λ bytes is. (is.1, (is.0, is.2, is.3)))

item_known : (value : ℕ → List ℕ → Passing) (Value : ℕ → List ℕ → Type 0) → ((kind : ℕ) → Known (value kind) (Value kind)) → (kind : ℕ) → Known (item_at value kind) (IsItem Value kind)
unfolding item_at
item_known value Value known kind = record {
  took = λ bytes rest e.
      elim (if_Ok (is_boolean kind) (passed (bytes_at 1 bytes)) (value kind bytes) (tt, rest) e) [
        | inl passes ↦ (let t = one.took bytes rest passes.1 in (t.0, t.1, inl (passes.0, t.2)))
        | inr fails ↦ (let t = (known kind).took bytes rest fails.1 in (t.0, t.1, inr (fails.0, t.2)))
      ];
  again = λ v rest is.
      elim is [
        | inl passes ↦ ap (λ (b : Bool). if b then passed (bytes_at 1 (v ++ rest)) else value kind (v ++ rest)) passes.0 ∙ one.again v rest passes.1
        | inr fails ↦ ap (λ (b : Bool). if b then passed (bytes_at 1 (v ++ rest)) else value kind (v ++ rest)) fails.0 ∙ (known kind).again v rest fails.1
      ];
}
  where
    one : Known (λ bytes. passed (bytes_at 1 bytes)) (λ bytes. length bytes ≡ 1)
    one = known_weaken (λ bytes. passed (bytes_at 1 bytes)) (λ bytes. (content : List ℕ) × ((content ≡ bytes) × (length bytes ≡ 1))) (λ bytes. length bytes ≡ 1) (known_passed (bytes_at 1) _ (bytes_takes 1)) (λ bytes is. is.1.1) (λ bytes is. (bytes, (refl, is)))

pair_known : (value : ℕ → List ℕ → Passing) (Value : ℕ → List ℕ → Type 0) → ((kind : ℕ) → Known (value kind) (Value kind)) → (key_kind value_kind : ℕ) → Known (pair_at value key_kind value_kind) (IsPair Value key_kind value_kind)
unfolding pair_at
pair_known value Value known key_kind value_kind = known_then (item_at value key_kind) (item_at value value_kind) (IsItem Value key_kind) (IsItem Value value_kind) (item_known value Value known key_kind) (item_known value Value known value_kind)

-- ---- lists

pub list_takes : Takes list_at (λ head bytes. IsListHead head.0 head.1 bytes)
unfolding list_at size_at
list_takes = record { took = λ bytes rest head e. took bytes rest head e; again = λ value rest head is. again value rest head is }
  where
    took : (bytes rest : List ℕ) (head : ℕ × ℕ) → list_at bytes ≡ Ok (head, rest) → (value : List ℕ) × (bytes ≡ value ++ rest) × IsListHead head.0 head.1 value
    took [] rest head e = absurd cc
    took (byte ∷ tail) rest head e =
        elim (if_Ok (is_type (low_half byte)) (as_item (byte ∷ tail) (size_at (high_half byte) tail >>= λ size. Ok ((low_half byte, size.0), size.1))) (Err (Bad (length (byte ∷ tail)))) (head, rest) e) [
          | inl passes ↦
              let whole = as_item-Ok (byte ∷ tail) (size_at (high_half byte) tail >>= λ size. Ok ((low_half byte, size.0), size.1)) (head, rest) passes.1 in
              let first = bind-Ok (size_at (high_half byte) tail) (λ size. Ok ((low_half byte, size.0), size.1)) (head, rest) whole in
              let same = read_once ((low_half byte, first.0.0), first.0.1) (head, rest) (Ok ((low_half byte, first.0.0), first.0.1)) refl first.2 in
              let kind : head.0 ≡ byte % 16 = sym (ap (λ (p : (ℕ × ℕ) × List ℕ). p.0.0) same) in
              let size : first.0.0 ≡ head.1 = ap (λ (p : (ℕ × ℕ) × List ℕ). p.0.1) same in
              let after : first.0.1 ≡ rest = ap (λ (p : (ℕ × ℕ) × List ℕ). p.1) same in
              let known : is_type head.0 ≡ true = ap is_type kind ∙ passes.0 in
              elim (if_Ok (high_half byte == 15) (varint_at 32 tail) (Ok (high_half byte, tail)) first.0 first.1) [
                | inl long ↦
                    let t = (size_takes 32 (lit≤ tt)).took tail first.0.1 first.0.0 long.1 in
                    (byte ∷ t.0, ap (λ (b : List ℕ). byte ∷ b) (t.1 ∙ ap (λ (b : List ℕ). t.0 ++ b) after), (known, kind, inl (eqb-true _ _ long.0, subst (λ (n : ℕ). IsSize 32 n t.0) size t.2)))
                | inr few ↦
                    let at = read_once (high_half byte, tail) first.0 (Ok (high_half byte, tail)) refl few.1 in
                    let n : head.1 ≡ byte / 16 = sym size ∙ sym (ap (λ (p : ℕ × List ℕ). p.0) at) in
                    let none : tail ≡ rest = ap (λ (p : ℕ × List ℕ). p.1) at ∙ after in
                    (byte ∷ [], ap (λ (b : List ℕ). byte ∷ b) none, (known, kind, inr (eqb-false _ _ few.0, n, refl)))
              ]
          | inr fails ↦ absurd cc
        ]

    again : (value rest : List ℕ) (head : ℕ × ℕ) → IsListHead head.0 head.1 value → list_at (value ++ rest) ≡ Ok (head, rest)
    again [] rest head is = absurd is
    again (byte ∷ more) rest head is =
        let known : is_type (byte % 16) ≡ true = ap is_type (sym is.1) ∙ is.0 in
        elim is.2 [
          | inl long ↦ rw (known, long.0, (size_takes 32 (lit≤ tt)).again more rest head.1 long.1) (ap (λ (k : ℕ). Ok ((k, head.1), rest)) (sym is.1))
          | inr few ↦ rw (known, ne_eqb (byte / 16) 15 few.0) (ap (λ (x : (ℕ × ℕ) × List ℕ). Ok x) (pairs (byte % 16) head.0 (byte / 16) head.1 (more ++ rest) rest (sym is.1) (sym few.1) (ap (λ (b : List ℕ). b ++ rest) few.2)))
        ]
      where
        pairs : (a a' b b' : ℕ) (c c' : List ℕ) → a ≡ a' → b ≡ b' → c ≡ c' → (let x : (ℕ × ℕ) × List ℕ = ((a, b), c) in x) ≡ ((a', b'), c')
        pairs a a' b b' c c' e f g = cc

-- ---- fields

id_takes : (last : ℤ) (half : ℕ) → Takes (id_at last half) (λ id bytes. ((half ≡ 0) × IsSize 16 (zigzag id) bytes) ⊎ ((half ≢ 0) × (id ≡ last +ℤ pos half) × (int_le id (pos 32767) ≡ true) × (bytes ≡ [])))
unfolding id_at
id_takes last half = record { took = λ bytes rest id e. took bytes rest id e; again = λ value rest id is. again value rest id is }
  where
    took : (bytes rest : List ℕ) (id : ℤ) → id_at last half bytes ≡ Ok (id, rest) → (value : List ℕ) × (bytes ≡ value ++ rest) × (((half ≡ 0) × IsSize 16 (zigzag id) value) ⊎ ((half ≢ 0) × (id ≡ last +ℤ pos half) × (int_le id (pos 32767) ≡ true) × (value ≡ [])))
    took bytes rest id e =
        elim (if_Ok (half == 0) (zigzag_at 16 bytes) (only_if (int_le (last +ℤ pos half) (pos 32767)) bytes (last +ℤ pos half, bytes)) (id, rest) e) [
          | inl long ↦ (let t = (number_takes 16 (lit≤ tt)).took bytes rest id long.1 in (t.0, t.1, inl (eqb-true _ _ long.0, t.2)))
          | inr short ↦
              let found = only_if-Ok (int_le (last +ℤ pos half) (pos 32767)) bytes (last +ℤ pos half, bytes) (id, rest) short.1 in
              let same : last +ℤ pos half ≡ id = ap (λ (p : ℤ × List ℕ). p.0) found.1 in
              ([], ap (λ (p : ℤ × List ℕ). p.1) found.1, inr (eqb-false _ _ short.0, sym same, ap (λ (z : ℤ). int_le z (pos 32767)) (sym same) ∙ found.0, refl))
        ]

    again : (value rest : List ℕ) (id : ℤ) → ((half ≡ 0) × IsSize 16 (zigzag id) value) ⊎ ((half ≢ 0) × (id ≡ last +ℤ pos half) × (int_le id (pos 32767) ≡ true) × (value ≡ [])) → id_at last half (value ++ rest) ≡ Ok (id, rest)
    again value rest id is =
        elim is [
          | inl long ↦ rw (eq-eqb half 0 long.0) ((number_takes 16 (lit≤ tt)).again value rest id long.1)
          | inr short ↦ rw (ne_eqb half 0 short.0, ← short.1, short.2, short.3) refl
        ]

same_value : {A : Type 0} (x y : A) (o p : Option A) → o ≡ Some x → p ≡ Some y → o ≡ p → x ≡ y
same_value x y o p e f g = cc

not_both : {A : Type 0} (x : A) (o : Option A) → o ≡ None → o ≡ Some x → ⊥
not_both x o e f = cc

pub field_took : (last : ℤ) (bytes rest : List ℕ) (id : ℤ) (kind : ℕ) → field_at last bytes ≡ Ok (Some (id, kind), rest) → (head : List ℕ) × (bytes ≡ head ++ rest) × IsFieldHead last id kind head
unfolding field_at
field_took last [] rest id kind e = absurd cc
field_took last (byte ∷ tail) rest id kind e =
    elim (if_Ok (byte == 0) (Ok (None, tail)) (if is_type (low_half byte) then as_item (byte ∷ tail) (id_at last (high_half byte) tail >>= λ id. Ok (Some (id.0, low_half byte), id.1)) else Err (Bad (length (byte ∷ tail)))) (Some (id, kind), rest) e) [
      | inl stop ↦ absurd (stopped (read_once (None, tail) (Some (id, kind), rest) (Ok (None, tail)) refl stop.1))
      | inr field ↦ elim (if_Ok (is_type (low_half byte)) (as_item (byte ∷ tail) (id_at last (high_half byte) tail >>= λ id. Ok (Some (id.0, low_half byte), id.1))) (Err (Bad (length (byte ∷ tail)))) (Some (id, kind), rest) field.1) [
        | inl passes ↦
            let whole = as_item-Ok (byte ∷ tail) (id_at last (high_half byte) tail >>= λ id. Ok (Some (id.0, low_half byte), id.1)) (Some (id, kind), rest) passes.1 in
            let first = bind-Ok (id_at last (high_half byte) tail) (λ id. Ok (Some (id.0, low_half byte), id.1)) (Some (id, kind), rest) whole in
            let same = parts first.0.0 id (low_half byte) kind first.0.1 rest (read_once (Some (first.0.0, low_half byte), first.0.1) (Some (id, kind), rest) (Ok (Some (first.0.0, low_half byte), first.0.1)) refl first.2) in
            let t = (id_takes last (high_half byte)).took tail first.0.1 first.0.0 first.1 in
            (byte ∷ t.0, ap (λ (b : List ℕ). byte ∷ b) (t.1 ∙ ap (λ (b : List ℕ). t.0 ++ b) same.2), (eqb-false _ _ field.0, ap is_type (sym same.1) ∙ passes.0, sym same.1, subst (λ (z : ℤ). ((high_half byte ≡ 0) × IsSize 16 (zigzag z) t.0) ⊎ ((high_half byte ≢ 0) × (z ≡ last +ℤ pos (high_half byte)) × (int_le z (pos 32767) ≡ true) × (t.0 ≡ []))) same.0 t.2))
        | inr fails ↦ absurd cc
      ]
    ]
  where
    stopped : (let p : Option (ℤ × ℕ) × List ℕ = (None, tail) in p) ≡ (Some (id, kind), rest) → ⊥
    stopped same = not_both (id, kind) None refl (ap (λ (p : Option (ℤ × ℕ) × List ℕ). p.0) same)

    parts : (z z' : ℤ) (k k' : ℕ) (r r' : List ℕ) → (let p : Option (ℤ × ℕ) × List ℕ = (Some (z, k), r) in p) ≡ (Some (z', k'), r') → (z ≡ z') × (k ≡ k') × (r ≡ r')
    parts z z' k k' r r' same =
        let both = same_value (z, k) (z', k') (Some (z, k)) (Some (z', k')) refl refl (ap (λ (p : Option (ℤ × ℕ) × List ℕ). p.0) same) in
        (ap (λ (q : ℤ × ℕ). q.0) both, ap (λ (q : ℤ × ℕ). q.1) both, ap (λ (p : Option (ℤ × ℕ) × List ℕ). p.1) same)

pub field_again : (last : ℤ) (head rest : List ℕ) (id : ℤ) (kind : ℕ) → IsFieldHead last id kind head → field_at last (head ++ rest) ≡ Ok (Some (id, kind), rest)
unfolding field_at
field_again last [] rest id kind is = absurd is
field_again last (byte ∷ more) rest id kind is =
    let known : is_type (byte % 16) ≡ true = ap is_type (sym is.2) ∙ is.1 in
    rw (ne_eqb byte 0 is.0, known)
    (ap (λ (r : Reading ℤ). as_item (byte ∷ (more ++ rest)) (r >>= λ id. Ok (Some (id.0, low_half byte), id.1))) ((id_takes last (high_half byte)).again more rest id is.3)
    ∙ ap (λ (k : ℕ). Ok (Some (id, k), rest)) (sym is.2))

-- the stop byte
pub stop_is : (last : ℤ) (bytes tail : List ℕ) → field_at last bytes ≡ Ok (None, tail) → bytes ≡ 0 ∷ tail
unfolding field_at
stop_is last [] tail e = absurd cc
stop_is last (byte ∷ more) tail e =
    elim (if_Ok (byte == 0) (Ok (None, more)) (if is_type (low_half byte) then as_item (byte ∷ more) (id_at last (high_half byte) more >>= λ id. Ok (Some (id.0, low_half byte), id.1)) else Err (Bad (length (byte ∷ more)))) (None, tail) e) [
      | inl stop ↦
          let same : more ≡ tail = ap (λ (p : Option (ℤ × ℕ) × List ℕ). p.1) (read_once (None, more) (None, tail) (Ok (None, more)) refl stop.1) in
          ap (λ (b : ℕ). b ∷ more) (eqb-true _ _ stop.0) ∙ ap (λ (t : List ℕ). 0 ∷ t) same
      | inr field ↦ elim (if_Ok (is_type (low_half byte)) (as_item (byte ∷ more) (id_at last (high_half byte) more >>= λ id. Ok (Some (id.0, low_half byte), id.1))) (Err (Bad (length (byte ∷ more)))) (None, tail) field.1) [
        | inl passes ↦
            let whole = as_item-Ok (byte ∷ more) (id_at last (high_half byte) more >>= λ id. Ok (Some (id.0, low_half byte), id.1)) (None, tail) passes.1 in
            let first = bind-Ok (id_at last (high_half byte) more) (λ id. Ok (Some (id.0, low_half byte), id.1)) (None, tail) whole in
            let same = read_once (Some (first.0.0, low_half byte), first.0.1) (None, tail) (Ok (Some (first.0.0, low_half byte), first.0.1)) refl first.2 in
            absurd (not_both (first.0.0, low_half byte) None refl (sym (ap (λ (p : Option (ℤ × ℕ) × List ℕ). p.0) same)))
        | inr fails ↦ absurd cc
      ]
    ]

regroup : (a b c d : List ℕ) → a ++ (b ++ (c ++ d)) ≡ (a ++ (b ++ c)) ++ d
regroup a b c d = sym (append_assoc a (b ++ c) d ∙ ap (λ (t : List ℕ). a ++ t) (append_assoc b c d))

-- a struct's fields
fields_took : (value : ℕ → List ℕ → Passing) (Value : ℕ → List ℕ → Type 0) → ((kind : ℕ) → Known (value kind) (Value kind)) → (steps : ℕ) (last : ℤ) (bytes rest : List ℕ) → fields_at (passing value) steps last tt bytes ≡ Ok (tt, rest) → (taken : List ℕ) × (bytes ≡ taken ++ rest) × ((fields : List RawField) × AreFields Value last fields taken)
unfolding fields_at
fields_took value Value known zero last bytes rest e = absurd cc
fields_took value Value known (suc steps) last bytes rest e =
    let first = bind-Ok (field_at last bytes) (λ head. option_map_or (λ field. passing value tt field.0 field.1 (length bytes) head.1 >>= λ next. fields_at (passing value) steps field.0 next.0 next.1) head.0 (Ok (tt, head.1))) (tt, rest) e in
    after (λ id more f. fields_took value Value known steps id more rest f) first.0.0 first.0.1 first.1 first.2
  where
    after : ((id : ℤ) (more : List ℕ) → fields_at (passing value) steps id tt more ≡ Ok (tt, rest) → (taken : List ℕ) × (more ≡ taken ++ rest) × ((fields : List RawField) × AreFields Value id fields taken))
        → (o : Option (ℤ × ℕ)) (tail : List ℕ) → field_at last bytes ≡ Ok (o, tail) → option_map_or (λ field. passing value tt field.0 field.1 (length bytes) tail >>= λ next. fields_at (passing value) steps field.0 next.0 next.1) o (Ok (tt, tail)) ≡ Ok (tt, rest)
        → (taken : List ℕ) × (bytes ≡ taken ++ rest) × ((fields : List RawField) × AreFields Value last fields taken)
    after again None tail head e =
        let same : tail ≡ rest = ap (λ (p : Unit {0} × List ℕ). p.1) (read_once (tt, tail) (tt, rest) (Ok (tt, tail)) refl e) in
        (0 ∷ [], stop_is last bytes tail head ∙ ap (λ (b : List ℕ). 0 ∷ b) same, ([], refl))
    after again (Some field) tail head e =
        let h = field_took last bytes tail field.0 field.1 head in
        let next = bind-Ok (value field.1 tail) (λ next. fields_at (passing value) steps field.0 next.0 next.1) (tt, rest) e in
        let v = (known field.1).took tail next.0.1 next.1 in
        let more = again field.0 next.0.1 next.2 in
        let parts : bytes ≡ (h.0 ++ (v.0 ++ more.0)) ++ rest = h.1 ∙ ap (λ (b : List ℕ). h.0 ++ b) (v.1 ∙ ap (λ (b : List ℕ). v.0 ++ b) more.1) ∙ regroup h.0 v.0 more.0 rest in
        (h.0 ++ (v.0 ++ more.0), parts, ((record { id = field.0; kind = field.1; value = v.0 }) ∷ more.2.0, (h.0, more.0, refl, h.2, v.2, more.2.1)))

fields_again : (value : ℕ → List ℕ → Passing) (Value : ℕ → List ℕ → Type 0) → ((kind : ℕ) → Known (value kind) (Value kind)) → ((kind : ℕ) → Stays (value kind)) → (fields : List RawField) (last : ℤ) (taken rest : List ℕ) → AreFields Value last fields taken → fields_at (passing value) (length (taken ++ rest)) last tt (taken ++ rest) ≡ Ok (tt, rest)
unfolding field_at
fields_again value Value known stays [] last taken rest is =
    ap (λ (v : List ℕ). fields_at (passing value) (length (v ++ rest)) last tt (v ++ rest)) is ∙ fields_at-stop (passing value) last tt (0 ∷ rest) rest refl
fields_again value Value known stays (field ∷ fields) last taken rest is =
    let bytes : List ℕ = is.0 ++ (field.value ++ (is.1 ++ rest)) in
    let parts : taken ++ rest ≡ bytes = ap (λ (v : List ℕ). v ++ rest) is.2 ∙ append_assoc is.0 (field.value ++ is.1) rest ∙ ap (λ (t : List ℕ). is.0 ++ t) (append_assoc field.value is.1 rest) in
    ap (λ (b : List ℕ). fields_at (passing value) (length b) last tt b) parts
    ∙ fields_at-next (passing value) (passing_stays value stays) last tt bytes (field.value ++ (is.1 ++ rest)) field.id field.kind tt (is.1 ++ rest) (field_again last is.0 (field.value ++ (is.1 ++ rest)) field.id field.kind is.3) ((known field.kind).again field.value (is.1 ++ rest) is.4)
    ∙ fields_again value Value known stays fields field.id is.1 rest is.5

-- ---- maps

and_both : (a b : Bool) → (a && b) ≡ true → (a ≡ true) × (b ≡ true)
and_both true true e = (refl, refl)
and_both true false e = absurd cc
and_both false b e = absurd cc

pair_types_takes : Takes pair_types_at (λ types bytes. (byte : ℕ) × ((bytes ≡ byte ∷ []) × IsPairTypes types.0 types.1 byte))
unfolding pair_types_at
pair_types_takes = record { took = λ bytes rest types e. took bytes rest types e; again = λ value rest types is. again value rest types is }
  where
    took : (bytes rest : List ℕ) (types : ℕ × ℕ) → pair_types_at bytes ≡ Ok (types, rest) → (value : List ℕ) × (bytes ≡ value ++ rest) × ((byte : ℕ) × ((value ≡ byte ∷ []) × IsPairTypes types.0 types.1 byte))
    took [] rest types e = absurd cc
    took (byte ∷ tail) rest types e =
        let found = only_if-Ok (is_type (high_half byte) && is_type (low_half byte)) (byte ∷ tail) ((high_half byte, low_half byte), tail) (types, rest) e in
        let both = and_both (is_type (high_half byte)) (is_type (low_half byte)) found.0 in
        let key : types.0 ≡ byte / 16 = sym (ap (λ (p : (ℕ × ℕ) × List ℕ). p.0.0) found.1) in
        let val : types.1 ≡ byte % 16 = sym (ap (λ (p : (ℕ × ℕ) × List ℕ). p.0.1) found.1) in
        (byte ∷ [], ap (λ (b : List ℕ). byte ∷ b) (ap (λ (p : (ℕ × ℕ) × List ℕ). p.1) found.1), (byte, (refl, record { key = key; value = val; known_key = ap is_type key ∙ both.0; known_value = ap is_type val ∙ both.1 })))

    again : (value rest : List ℕ) (types : ℕ × ℕ) → (byte : ℕ) × ((value ≡ byte ∷ []) × IsPairTypes types.0 types.1 byte) → pair_types_at (value ++ rest) ≡ Ok (types, rest)
    again value rest types is =
        let byte : ℕ = is.0 in
        let t = is.1.1 in
        let key : is_type (byte / 16) ≡ true = ap is_type (sym t.key) ∙ t.known_key in
        let val : is_type (byte % 16) ≡ true = ap is_type (sym t.value) ∙ t.known_value in
        ap (λ (v : List ℕ). pair_types_at (v ++ rest)) is.1.0
        ∙ rw (key, val) (ap (λ (k : ℕ). Ok ((k, byte % 16), rest)) (sym t.key) ∙ ap (λ (l : ℕ). Ok ((types.0, l), rest)) (sym t.value))

-- the head of a map
abbrev MapHead : Option (ℕ × ℕ × ℕ) → List ℕ → Type 0
MapHead None bytes = IsSize 32 0 bytes
MapHead (Some pairs) bytes = (byte : ℕ) × (size : List ℕ) × (bytes ≡ size ++ byte ∷ []) × (pairs.0 ≢ 0) × IsSize 32 pairs.0 size × IsPairTypes pairs.1 pairs.2 byte

map_took : (bytes rest : List ℕ) (o : Option (ℕ × ℕ × ℕ)) → map_at bytes ≡ Ok (o, rest) → (value : List ℕ) × (bytes ≡ value ++ rest) × MapHead o value
unfolding map_at map_parts_at
map_took bytes rest o e =
    let whole = as_item-Ok bytes (map_parts_at bytes) (o, rest) e in
    let first = bind-Ok (varint_at 32 bytes) (λ size. if size.0 == 0 then Ok (None, size.1) else (pair_types_at size.1 >>= λ types. Ok (Some (size.0, types.0.0, types.0.1), types.1))) (o, rest) whole in
    let n : ℕ = first.0.0 in
    let more : List ℕ = first.0.1 in
    let size = (size_takes 32 (lit≤ tt)).took bytes more n first.1 in
    elim (if_Ok (n == 0) (Ok (None, more)) (pair_types_at more >>= λ types. Ok (Some (n, types.0.0, types.0.1), types.1)) (o, rest) first.2) [
      | inl none ↦
          let same = read_once (None, more) (o, rest) (Ok (None, more)) refl none.1 in
          let head : MapHead None size.0 = subst (λ (k : ℕ). IsSize 32 k size.0) (eqb-true _ _ none.0) size.2 in
          (size.0, size.1 ∙ ap (λ (t : List ℕ). size.0 ++ t) (ap (λ (p : Option (ℕ × ℕ × ℕ) × List ℕ). p.1) same), subst (λ (p : Option (ℕ × ℕ × ℕ)). MapHead p size.0) (ap (λ (p : Option (ℕ × ℕ × ℕ) × List ℕ). p.0) same) head)
      | inr some ↦
          let second = bind-Ok (pair_types_at more) (λ types. Ok (Some (n, types.0.0, types.0.1), types.1)) (o, rest) some.1 in
          let types = pair_types_takes.took more second.0.1 second.0.0 second.1 in
          let same = read_once (Some (n, second.0.0.0, second.0.0.1), second.0.1) (o, rest) (Ok (Some (n, second.0.0.0, second.0.0.1), second.0.1)) refl second.2 in
          let byte : ℕ = types.2.0 in
          let head : MapHead (Some (n, second.0.0.0, second.0.0.1)) (size.0 ++ byte ∷ []) = (byte, size.0, refl, eqb-false _ _ some.0, size.2, types.2.1.1) in
          let parts : bytes ≡ (size.0 ++ byte ∷ []) ++ rest = size.1 ∙ ap (λ (t : List ℕ). size.0 ++ t) (types.1 ∙ ap (λ (v : List ℕ). v ++ second.0.1) types.2.1.0) ∙ sym (append_assoc size.0 (byte ∷ []) second.0.1) ∙ ap (λ (t : List ℕ). (size.0 ++ byte ∷ []) ++ t) (ap (λ (p : Option (ℕ × ℕ × ℕ) × List ℕ). p.1) same) in
          (size.0 ++ byte ∷ [], parts, subst (λ (p : Option (ℕ × ℕ × ℕ)). MapHead p (size.0 ++ byte ∷ [])) (ap (λ (p : Option (ℕ × ℕ × ℕ) × List ℕ). p.0) same) head)
    ]

map_again_none : (size rest : List ℕ) → IsSize 32 0 size → map_at (size ++ rest) ≡ Ok (None, rest)
unfolding map_at map_parts_at
map_again_none size rest is =
    ap (λ (r : Reading ℕ). as_item (size ++ rest) (r >>= λ size. if size.0 == 0 then Ok (None, size.1) else (pair_types_at size.1 >>= λ types. Ok (Some (size.0, types.0.0, types.0.1), types.1)))) ((size_takes 32 (lit≤ tt)).again size rest 0 is)

map_again_some : (size rest : List ℕ) (n key_kind value_kind byte : ℕ) → n ≢ 0 → IsSize 32 n size → IsPairTypes key_kind value_kind byte → map_at (size ++ byte ∷ rest) ≡ Ok (Some (n, key_kind, value_kind), rest)
unfolding map_at map_parts_at
map_again_some size rest n key_kind value_kind byte some is types =
    ap (λ (r : Reading ℕ). as_item (size ++ byte ∷ rest) (r >>= λ size. if size.0 == 0 then Ok (None, size.1) else (pair_types_at size.1 >>= λ types. Ok (Some (size.0, types.0.0, types.0.1), types.1)))) ((size_takes 32 (lit≤ tt)).again size (byte ∷ rest) n is)
    ∙ ap (λ (b : Bool). as_item (size ++ byte ∷ rest) (if b then Ok (None, byte ∷ rest) else (pair_types_at (byte ∷ rest) >>= λ types. Ok (Some (n, types.0.0, types.0.1), types.1)))) (ne_eqb n 0 some)
    ∙ ap (λ (r : Reading (ℕ × ℕ)). as_item (size ++ byte ∷ rest) (r >>= λ types. Ok (Some (n, types.0.0, types.0.1), types.1))) (pair_types_takes.again (byte ∷ []) rest (key_kind, value_kind) (byte, (refl, types)))

-- ---- containers and values

container_known : (value : ℕ → List ℕ → Passing) (Value : ℕ → List ℕ → Type 0) → ((kind : ℕ) → Known (value kind) (Value kind)) → ((kind : ℕ) → Stays (value kind)) → (container : Container) → Known (container_at value container) (IsContainer Value container)
unfolding container_at
container_known value Value known stays Items = record {
  took = λ bytes rest e. (
      let first = bind-Ok (list_at bytes) (λ head. times_at head.0.1 (item_at value head.0.0) head.1) (tt, rest) e in
      let head = list_takes.took bytes first.0.1 first.0.0 first.1 in
      let items = (parts_known (item_at value first.0.0.0) (IsItem Value first.0.0.0) (item_known value Value known first.0.0.0) first.0.0.1).took first.0.1 rest first.2 in
      (head.0 ++ items.0, head.1 ∙ ap (λ (t : List ℕ). head.0 ++ t) items.1 ∙ sym (append_assoc head.0 items.0 rest), (first.0.0.0, first.0.0.1, head.0, items.0, refl, head.2, items.2)));
  again = λ v rest is.
      ap (λ (b : List ℕ). list_at b >>= λ head. times_at head.0.1 (item_at value head.0.0) head.1) (ap (λ (t : List ℕ). t ++ rest) is.4 ∙ append_assoc is.2 is.3 rest)
      ∙ ap (λ (r : Reading (ℕ × ℕ)). r >>= λ head. times_at head.0.1 (item_at value head.0.0) head.1) (list_takes.again is.2 (is.3 ++ rest) (is.0, is.1) is.5)
      ∙ (parts_known (item_at value is.0) (IsItem Value is.0) (item_known value Value known is.0) is.1).again is.3 rest is.6;
}
container_known value Value known stays Pairs = record { took = λ bytes rest e. took bytes rest e; again = λ v rest is. again v rest is }
  where
    after : Option (ℕ × ℕ × ℕ) → List ℕ → Passing
    after o more = option_map_or (λ pairs. times_at pairs.0 (pair_at value pairs.1 pairs.2) more) o (Ok (tt, more))

    by_head : (bytes rest : List ℕ) (o : Option (ℕ × ℕ × ℕ)) (more head : List ℕ) → bytes ≡ head ++ more → MapHead o head → after o more ≡ Ok (tt, rest) → (v : List ℕ) × (bytes ≡ v ++ rest) × IsMap Value v
    by_head bytes rest None more head parts is e =
        (head, parts ∙ ap (λ (t : List ℕ). head ++ t) (ap (λ (p : Unit {0} × List ℕ). p.1) (read_once (tt, more) (tt, rest) (Ok (tt, more)) refl e)), inl is)
    by_head bytes rest (Some pairs) more head parts is e =
        let t = (parts_known (pair_at value pairs.1 pairs.2) (IsPair Value pairs.1 pairs.2) (pair_known value Value known pairs.1 pairs.2) pairs.0).took more rest e in
        let all : bytes ≡ (is.1 ++ is.0 ∷ t.0) ++ rest = parts ∙ ap (λ (h : List ℕ). h ++ more) is.2 ∙ append_assoc is.1 (is.0 ∷ []) more ∙ ap (λ (m : List ℕ). is.1 ++ is.0 ∷ m) t.1 ∙ sym (append_assoc is.1 (is.0 ∷ t.0) rest) in
        (is.1 ++ is.0 ∷ t.0, all, inr (pairs.0, pairs.1, pairs.2, is.0, is.1, t.0, refl, is.3, is.4, is.5, t.2))

    took : (bytes rest : List ℕ) → container_at value Pairs bytes ≡ Ok (tt, rest) → (v : List ℕ) × (bytes ≡ v ++ rest) × IsMap Value v
    took bytes rest e =
        let first = bind-Ok (map_at bytes) (λ head. after head.0 head.1) (tt, rest) e in
        let head = map_took bytes first.0.1 first.0.0 first.1 in
        by_head bytes rest first.0.0 first.0.1 head.0 head.1 head.2 first.2

    again : (v rest : List ℕ) → IsMap Value v → container_at value Pairs (v ++ rest) ≡ Ok (tt, rest)
    again v rest is =
        elim is [
          | inl none ↦ ap (λ (r : Reading (Option (ℕ × ℕ × ℕ))). r >>= λ head. after head.0 head.1) (map_again_none v rest none)
          | inr some ↦
              ap (λ (b : List ℕ). map_at b >>= λ head. after head.0 head.1) (ap (λ (t : List ℕ). t ++ rest) some.6 ∙ append_assoc some.4 (some.3 ∷ some.5) rest)
              ∙ ap (λ (r : Reading (Option (ℕ × ℕ × ℕ))). r >>= λ head. after head.0 head.1) (map_again_some some.4 (some.5 ++ rest) some.0 some.1 some.2 some.3 some.7 some.8 some.9)
              ∙ (parts_known (pair_at value some.1 some.2) (IsPair Value some.1 some.2) (pair_known value Value known some.1 some.2) some.0).again some.5 rest some.10
        ]
container_known value Value known stays Fields = record {
  took = λ bytes rest e. fields_took value Value known (length bytes) (pos 0) bytes rest e;
  again = λ v rest is. fields_again value Value known stays is.0 (pos 0) v rest is.1;
}

pub value_known : (levels kind : ℕ) → Known (value_at levels kind) (IsValue levels kind)
unfolding value_at IsValue
value_known zero kind = record {
  took = λ bytes rest e. at_zero bytes rest (shape_of kind) refl e;
  again = λ v rest is. ap (λ (o : Option Shape). only_some o (v ++ rest) >>= λ shape. shaped_at too_deep_at shape (v ++ rest)) is.1 ∙ (scalar_known is.0).again v rest is.2;
}
  where
    at_zero : (bytes rest : List ℕ) (o : Option Shape) → shape_of kind ≡ o → (only_some o bytes >>= λ shape. shaped_at too_deep_at shape bytes) ≡ Ok (tt, rest) → (v : List ℕ) × (bytes ≡ v ++ rest) × ((scalar : Scalar) × (shape_of kind ≡ Some (OfScalar scalar)) × IsScalar scalar v)
    at_zero bytes rest None is e = absurd cc
    at_zero bytes rest (Some (OfScalar scalar)) is e = (let t = (scalar_known scalar).took bytes rest e in (t.0, t.1, (scalar, is, t.2)))
    at_zero [] rest (Some (OfContainer container)) is e = absurd cc
    at_zero (byte ∷ bytes) rest (Some (OfContainer container)) is e = absurd cc
value_known (suc levels) kind = level (value_known levels)
  where
    level : ((kind : ℕ) → Known (value_at levels kind) (IsValue levels kind)) → Known (value_at (suc levels) kind) (IsValue (suc levels) kind)
    level inner = record {
      took = λ bytes rest e. below bytes rest (shape_of kind) refl e;
      again = λ v rest is. elim is [
        | inl scalar ↦ ap (λ (o : Option Shape). only_some o (v ++ rest) >>= λ shape. shaped_at (container_at (value_at levels)) shape (v ++ rest)) scalar.1 ∙ (scalar_known scalar.0).again v rest scalar.2
        | inr container ↦ ap (λ (o : Option Shape). only_some o (v ++ rest) >>= λ shape. shaped_at (container_at (value_at levels)) shape (v ++ rest)) container.1 ∙ (container_known (value_at levels) (IsValue levels) inner (value_at_stays levels) container.0).again v rest container.2
      ];
    }
      where
        below : (bytes rest : List ℕ) (o : Option Shape) → shape_of kind ≡ o → (only_some o bytes >>= λ shape. shaped_at (container_at (value_at levels)) shape bytes) ≡ Ok (tt, rest) → (v : List ℕ) × (bytes ≡ v ++ rest) × IsValue (suc levels) kind v
        below bytes rest None is e = absurd cc
        below bytes rest (Some (OfScalar scalar)) is e = (let t = (scalar_known scalar).took bytes rest e in (t.0, t.1, inl (scalar, is, t.2)))
        below bytes rest (Some (OfContainer container)) is e = (let t = (container_known (value_at levels) (IsValue levels) inner (value_at_stays levels) container).took bytes rest e in (t.0, t.1, inr (container, is, t.2)))
