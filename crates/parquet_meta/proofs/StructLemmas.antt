-- What the readers of fields, lists and structs take is what the forms say, and no less.
use Rattle.std.proofs.Common.{◌≡◌, ℕ, zero, suc, ◌+◌, Bool, true, false, List, [], ◌∷◌, ◌++◌, length, Option, Some, None, Ok, Err, ℤ, pos, refl, sym, ap, subst, ◌∙◌, append_assoc, arith, inl, inr}
use Rattle.std.specs.Prelude.{◌==◌, if◌then◌else◌, MatchBool}
use Rattle.std.specs.Option.{option_map_or}
use Rattle.std.proofs.lemmas.Bool.{eq-eqb, eqb-true}
use Rattle.byte_fields.specs.declared.field_error.FieldError.TheVariants.{Bad}
use Rattle.byte_fields.specs.Reading.{Reading, ◌>>=◌, only_if, only_some}
use Rattle.byte_fields.specs.Varints.{zigzag_at}
use Rattle.byte_fields.proofs.ReadingLemmas.{bind-Ok, only_if-Ok, only_some-Ok, read_once}
use Rattle.thrift_compact.specs.Types.{is_boolean}
use Rattle.thrift_compact.specs.Heads.{field_at, list_at}
use Rattle.thrift_compact.specs.Values.{fields_at, struct_at, value_at}
use Rattle.thrift_compact.specs.Within.{TakeStays}
use Rattle.thrift_compact.specs.Grammar.{IsItem, AreParts, IsListHead, RawField, AreFields, IsValue}
use Rattle.thrift_compact.proofs.FieldsLemmas.{fields_at-stop, fields_at-next}
use Rattle.thrift_compact.proofs.GrammarLemmas.{Takes, if_Ok, number_takes, binary_takes, list_takes, field_took, field_again, stop_is, value_known}
use Rattle.thrift_compact.proofs.LevelLemmas.{part_more, item_more, fields_more, value_plus, value_before, number32_is, number64_is, binary_is, list_is, struct_is}
use Rattle.parquet_meta.specs.Reading.{binary_at, typed_at, with_value, other_field_at, whole_at, items_at, list_of_at}
use Rattle.parquet_meta.specs.Structs.{IsNumber32, IsNumber64, IsBinaryOf, AreItems, IsListOf, IsKept, IsPassed, Keep, IsAnyValue, IsStruct, IsWhole}

-- ---- structs, lists and numbers are values

fields_levels : (last : ℤ) (fields : List RawField) (bytes : List ℕ) → AreFields IsAnyValue last fields bytes → (levels : ℕ) × AreFields (IsValue levels) last fields bytes
fields_levels last [] bytes is = (0, is)
fields_levels last (field ∷ fields) bytes is =
    let more = fields_levels field.id fields is.1 is.5 in
    (is.4.0 + more.0, (is.0, is.1, is.2, is.3, value_plus is.4.0 more.0 field.kind field.value is.4.1, fields_more (IsValue more.0) (IsValue (is.4.0 + more.0)) (value_before is.4.0 more.0) field.id fields is.1 more.1))

struct_any : (fields : List RawField) (bytes : List ℕ) → IsStruct fields bytes → IsAnyValue 12 bytes
struct_any fields bytes is = (let all = fields_levels (pos 0) fields bytes is in (suc all.0, struct_is all.0 fields bytes all.1))

items_levels : {A : Type 0} (kind : ℕ) (Form : A → List ℕ → Type 0) → is_boolean kind ≡ false → ((x : A) (bytes : List ℕ) → Form x bytes → IsAnyValue kind bytes) → (xs : List A) (bytes : List ℕ) → AreItems Form xs bytes → (levels : ℕ) × AreParts (IsItem (IsValue levels) kind) (length xs) bytes
items_levels kind Form other any [] bytes is = (0, is)
items_levels kind Form other any (x ∷ xs) bytes is =
    let first = any x is.0 is.3 in
    let more = items_levels kind Form other any xs is.1 is.4 in
    (first.0 + more.0, (is.0, is.1, is.2, inr (other, value_plus first.0 more.0 kind is.0 first.1), part_more (IsItem (IsValue more.0) kind) (IsItem (IsValue (first.0 + more.0)) kind) (item_more (IsValue more.0) (IsValue (first.0 + more.0)) (value_before first.0 more.0) kind) (length xs) is.1 more.1))

list_any : {A : Type 0} (kind : ℕ) (Form : A → List ℕ → Type 0) → is_boolean kind ≡ false → ((x : A) (bytes : List ℕ) → Form x bytes → IsAnyValue kind bytes) → (xs : List A) (bytes : List ℕ) → IsListOf kind Form xs bytes → IsAnyValue 9 bytes
list_any kind Form other any xs bytes is =
    let all = items_levels kind Form other any xs is.1 is.4 in
    (suc all.0, list_is all.0 kind (length xs) is.0 is.1 bytes is.2 is.3 all.1)

-- ---- what is read of a type

-- The reader takes what the form says, and what is of the form is a value of the type.
pub record Knows {A : Type 0} (kind : ℕ) (read : List ℕ → Reading A) (Form : A → List ℕ → Type 0) : Type 0 where
  pub takes : Takes read Form
  pub any : (x : A) (bytes : List ℕ) → Form x bytes → IsAnyValue kind bytes

pub number32_known : Knows 5 (zigzag_at 32) IsNumber32
number32_known = record { takes = number_takes 32 (omega arith); any = λ n bytes is. (0, number32_is n bytes is) }

pub number64_known : Knows 6 (zigzag_at 64) IsNumber64
number64_known = record { takes = number_takes 64 (omega arith); any = λ n bytes is. (0, number64_is n bytes is) }

pub binary_known : Knows 8 binary_at IsBinaryOf
binary_known = record { takes = binary_takes; any = λ content bytes is. (0, binary_is bytes (is.0, content, is.1, is.2)) }

-- ---- fields

pub kept : {A S : Type 0} (wanted : ℕ) (read : List ℕ → Reading A) (Form : A → List ℕ → Type 0) (set : A → S) (id : ℤ) (kind left : ℕ) → Knows wanted read Form → Knows kind (λ bytes. with_value set (typed_at wanted read kind left bytes)) (λ next value. IsKept wanted Form set (record { id = id; kind = kind; value = value }) next)
kept {A} {S} wanted read Form set id kind left known = record {
  takes = record {
    took = λ bytes rest next e. (
        let first = bind-Ok (typed_at wanted read kind left bytes) (λ found. Ok (set found.0, found.1)) (next, rest) e in
        let same = read_once (set first.0.0, first.0.1) (next, rest) (Ok (set first.0.0, first.0.1)) refl first.2 in
        elim (if_Ok (kind == wanted) (read bytes) (Err (Bad left)) first.0 first.1) [
          | inl typed ↦
              let v = known.takes.took bytes first.0.1 first.0.0 typed.1 in
              (v.0, v.1 ∙ ap (λ (t : List ℕ). v.0 ++ t) (ap (λ (p : S × List ℕ). p.1) same), (eqb-true _ _ typed.0, (first.0.0, v.2, sym (ap (λ (p : S × List ℕ). p.0) same))))
          | inr other ↦ absurd cc
        ]);
    again = λ value rest next is.
        ap (λ (b : Bool). with_value set (if b then read (value ++ rest) else Err (Bad left))) (eq-eqb kind wanted is.0)
        ∙ ap (λ (r : Reading A). with_value set r) (known.takes.again value rest is.1.0 is.1.1)
        ∙ ap (λ (s : S). Ok (s, rest)) (sym is.1.2);
  };
  any = λ next value is. subst (λ (k : ℕ). IsAnyValue k value) (sym is.0) (known.any is.1.0 value is.1.1);
}

pub one_of : {S : Type 0} (test : Bool) (kind : ℕ) (r s : List ℕ → Reading S) (P Q : S → List ℕ → Type 0) → Knows kind r P → Knows kind s Q → Knows kind (λ bytes. if test then r bytes else s bytes) (λ x bytes. MatchBool test (P x bytes) (Q x bytes))
one_of true kind r s P Q a b = a
one_of false kind r s P Q a b = b

pub passed : {S : Type 0} (so_far : S) (id : ℤ) (kind : ℕ) → Knows kind (other_field_at so_far kind) (λ next value. IsPassed so_far (record { id = id; kind = kind; value = value }) next)
passed {S} so_far id kind = record {
  takes = record {
    took = λ bytes rest next e. (
        let first = bind-Ok (value_at 32 kind bytes) (λ found. Ok (so_far, found.1)) (next, rest) e in
        let same = read_once (so_far, first.0.1) (next, rest) (Ok (so_far, first.0.1)) refl first.2 in
        let v = (value_known 32 kind).took bytes first.0.1 first.1 in
        (v.0, v.1 ∙ ap (λ (t : List ℕ). v.0 ++ t) (ap (λ (p : S × List ℕ). p.1) same), (v.2, sym (ap (λ (p : S × List ℕ). p.0) same))));
    again = λ value rest next is.
        ap (λ (r : Reading (Unit {0})). r >>= λ found. Ok (so_far, found.1)) ((value_known 32 kind).again value rest is.0)
        ∙ ap (λ (s : S). Ok (s, rest)) (sym is.1);
  };
  any = λ next value is. (32, is.0);
}

-- ---- lists

items_takes : {A : Type 0} (read : List ℕ → Reading A) (Form : A → List ℕ → Type 0) → Takes read Form → (count : ℕ) → Takes (items_at read count) (λ xs bytes. (count ≡ length xs) × AreItems Form xs bytes)
unfolding items_at
items_takes {A} read Form takes zero = record { took = λ bytes rest xs e. took bytes rest xs e; again = λ value rest xs is. again value rest xs is }
  where
    took : (bytes rest : List ℕ) (xs : List A) → items_at read 0 bytes ≡ Ok (xs, rest) → (value : List ℕ) × (bytes ≡ value ++ rest) × ((0 ≡ length xs) × AreItems Form xs value)
    took bytes rest [] e = ([], ap (λ (p : List A × List ℕ). p.1) (read_once ([], bytes) ([], rest) (Ok ([], bytes)) refl e), (refl, refl))
    took bytes rest (x ∷ xs) e =
        let none : [] ≡ x ∷ xs = ap (λ (p : List A × List ℕ). p.0) (read_once ([], bytes) (x ∷ xs, rest) (Ok ([], bytes)) refl e) in
        absurd cc

    again : (value rest : List ℕ) (xs : List A) → (0 ≡ length xs) × AreItems Form xs value → items_at read 0 (value ++ rest) ≡ Ok (xs, rest)
    again value rest [] is = ap (λ (v : List ℕ). Ok ([], v ++ rest)) is.1
    again value rest (x ∷ xs) is = absurd (omega (arith, is.0))
items_takes {A} read Form takes (suc count) = record {
  took = λ bytes rest xs e. took (items_takes read Form takes count) bytes rest xs e;
  again = λ value rest xs is. again (items_takes read Form takes count) value rest xs is;
}
  where
    took : Takes (items_at read count) (λ xs bytes. (count ≡ length xs) × AreItems Form xs bytes) → (bytes rest : List ℕ) (xs : List A) → items_at read (suc count) bytes ≡ Ok (xs, rest) → (value : List ℕ) × (bytes ≡ value ++ rest) × ((suc count ≡ length xs) × AreItems Form xs value)
    took others bytes rest xs e =
        let first = bind-Ok (read bytes) (λ first. items_at read count first.1 >>= λ more. Ok (first.0 ∷ more.0, more.1)) (xs, rest) e in
        let second = bind-Ok (items_at read count first.0.1) (λ more. Ok (first.0.0 ∷ more.0, more.1)) (xs, rest) first.2 in
        let same = read_once (first.0.0 ∷ second.0.0, second.0.1) (xs, rest) (Ok (first.0.0 ∷ second.0.0, second.0.1)) refl second.2 in
        let a = takes.took bytes first.0.1 first.0.0 first.1 in
        let b = others.took first.0.1 second.0.1 second.0.0 second.1 in
        let parts : bytes ≡ (a.0 ++ b.0) ++ rest = a.1 ∙ ap (λ (t : List ℕ). a.0 ++ t) b.1 ∙ sym (append_assoc a.0 b.0 second.0.1) ∙ ap (λ (t : List ℕ). (a.0 ++ b.0) ++ t) (ap (λ (p : List A × List ℕ). p.1) same) in
        (a.0 ++ b.0, parts, subst (λ (ys : List A). (suc count ≡ length ys) × AreItems Form ys (a.0 ++ b.0)) (ap (λ (p : List A × List ℕ). p.0) same) (ap suc b.2.0, (a.0, b.0, refl, a.2, b.2.1)))

    again : Takes (items_at read count) (λ xs bytes. (count ≡ length xs) × AreItems Form xs bytes) → (value rest : List ℕ) (xs : List A) → (suc count ≡ length xs) × AreItems Form xs value → items_at read (suc count) (value ++ rest) ≡ Ok (xs, rest)
    again others value rest [] is = absurd (omega (arith, is.0))
    again others value rest (x ∷ xs) is =
        let first : List ℕ = is.1.0 in
        let more : List ℕ = is.1.1 in
        let len : count ≡ length xs = omega (arith, is.0) in
        ap (items_at read (suc count)) (ap (λ (t : List ℕ). t ++ rest) is.1.2 ∙ append_assoc first more rest)
        ∙ ap (λ (r : Reading A). r >>= λ first. items_at read count first.1 >>= λ more. Ok (first.0 ∷ more.0, more.1)) (takes.again first (more ++ rest) x is.1.3)
        ∙ ap (λ (r : Reading (List A)). r >>= λ more. Ok (x ∷ more.0, more.1)) (others.again more rest xs (len, is.1.4))

pub list_known : {A : Type 0} (wanted : ℕ) (read : List ℕ → Reading A) (Form : A → List ℕ → Type 0) → is_boolean wanted ≡ false → Knows wanted read Form → Knows 9 (list_of_at wanted read) (IsListOf wanted Form)
unfolding list_of_at
list_known {A} wanted read Form other known = record {
  takes = record { took = λ bytes rest xs e. took bytes rest xs e; again = λ value rest xs is. again value rest xs is };
  any = λ xs bytes is. list_any wanted Form other known.any xs bytes is;
}
  where
    after : List ℕ → (ℕ × ℕ) × List ℕ → Reading (List A)
    after bytes head = only_if (head.0.0 == wanted) bytes head >>= λ head. items_at read head.0.1 head.1

    took : (bytes rest : List ℕ) (xs : List A) → list_of_at wanted read bytes ≡ Ok (xs, rest) → (value : List ℕ) × (bytes ≡ value ++ rest) × IsListOf wanted Form xs value
    took bytes rest xs e =
        let first = bind-Ok (list_at bytes) (λ head. only_if (head.0.0 == wanted) bytes head >>= λ head. items_at read head.0.1 head.1) (xs, rest) e in
        let second = bind-Ok (only_if (first.0.0.0 == wanted) bytes first.0) (λ head. items_at read head.0.1 head.1) (xs, rest) first.2 in
        let found = only_if-Ok (first.0.0.0 == wanted) bytes first.0 second.0 second.1 in
        let third : items_at read first.0.0.1 first.0.1 ≡ Ok (xs, rest) = ap (λ (p : (ℕ × ℕ) × List ℕ). items_at read p.0.1 p.1) found.1 ∙ second.2 in
        let head = list_takes.took bytes first.0.1 first.0.0 first.1 in
        let items = (items_takes read Form known.takes first.0.0.1).took first.0.1 rest xs third in
        let counted : IsListHead first.0.0.0 (length xs) head.0 = subst (λ (n : ℕ). IsListHead first.0.0.0 n head.0) items.2.0 head.2 in
        (head.0 ++ items.0, head.1 ∙ ap (λ (t : List ℕ). head.0 ++ t) items.1 ∙ sym (append_assoc head.0 items.0 rest), (head.0, items.0, refl, subst (λ (k : ℕ). IsListHead k (length xs) head.0) (eqb-true _ _ found.0) counted, items.2.1))

    again : (value rest : List ℕ) (xs : List A) → IsListOf wanted Form xs value → list_of_at wanted read (value ++ rest) ≡ Ok (xs, rest)
    again value rest xs is =
        let bytes : List ℕ = is.0 ++ (is.1 ++ rest) in
        let found : (ℕ × ℕ) × List ℕ = ((wanted, length xs), is.1 ++ rest) in
        ap (list_of_at wanted read) (ap (λ (t : List ℕ). t ++ rest) is.2 ∙ append_assoc is.0 is.1 rest)
        ∙ ap (λ (r : Reading (ℕ × ℕ)). r >>= λ head. only_if (head.0.0 == wanted) bytes head >>= λ head. items_at read head.0.1 head.1) (list_takes.again is.0 (is.1 ++ rest) (wanted, length xs) is.3)
        ∙ ap (λ (b : Bool). only_if b bytes found >>= λ head. items_at read head.0.1 head.1) (eq-eqb wanted wanted refl)
        ∙ (items_takes read Form known.takes (length xs)).again is.1 rest xs (refl, is.4)

-- ---- structs

-- a struct's fields, one by one
abbrev pub FieldsKnown : {S : Type 0} → (S → ℤ → ℕ → ℕ → List ℕ → Reading S) → (S → RawField → S → Type 0) → Type 0
FieldsKnown {S} take Field = (so_far : S) (id : ℤ) (kind left : ℕ) → Knows kind (take so_far id kind left) (λ next value. Field so_far (record { id = id; kind = kind; value = value }) next)

regroup : (a b c d : List ℕ) → a ++ (b ++ (c ++ d)) ≡ (a ++ (b ++ c)) ++ d
regroup a b c d = sym (append_assoc a (b ++ c) d ∙ ap (λ (t : List ℕ). a ++ t) (append_assoc b c d))

fields_took : {S : Type 0} (take : S → ℤ → ℕ → ℕ → List ℕ → Reading S) (Field : S → RawField → S → Type 0) → FieldsKnown take Field → (steps : ℕ) (last : ℤ) (so_far end : S) (bytes rest : List ℕ) → fields_at take steps last so_far bytes ≡ Ok (end, rest) → (taken : List ℕ) × (bytes ≡ taken ++ rest) × ((fields : List RawField) × AreFields IsAnyValue last fields taken × Keep Field so_far fields end)
unfolding fields_at
fields_took take Field known zero last so_far end bytes rest e = absurd cc
fields_took {S} take Field known (suc steps) last so_far end bytes rest e =
    let first = bind-Ok (field_at last bytes) (λ head. option_map_or (λ field. take so_far field.0 field.1 (length bytes) head.1 >>= λ next. fields_at take steps field.0 next.0 next.1) head.0 (Ok (so_far, head.1))) (end, rest) e in
    after (λ id next more f. fields_took take Field known steps id next end more rest f) first.0.0 first.0.1 first.1 first.2
  where
    after : ((id : ℤ) (next : S) (more : List ℕ) → fields_at take steps id next more ≡ Ok (end, rest) → (taken : List ℕ) × (more ≡ taken ++ rest) × ((fields : List RawField) × AreFields IsAnyValue id fields taken × Keep Field next fields end))
        → (o : Option (ℤ × ℕ)) (tail : List ℕ) → field_at last bytes ≡ Ok (o, tail) → option_map_or (λ field. take so_far field.0 field.1 (length bytes) tail >>= λ next. fields_at take steps field.0 next.0 next.1) o (Ok (so_far, tail)) ≡ Ok (end, rest)
        → (taken : List ℕ) × (bytes ≡ taken ++ rest) × ((fields : List RawField) × AreFields IsAnyValue last fields taken × Keep Field so_far fields end)
    after again None tail head e =
        let same = read_once (so_far, tail) (end, rest) (Ok (so_far, tail)) refl e in
        (0 ∷ [], stop_is last bytes tail head ∙ ap (λ (b : List ℕ). 0 ∷ b) (ap (λ (p : S × List ℕ). p.1) same), ([], refl, ap (λ (p : S × List ℕ). p.0) same))
    after again (Some field) tail head e =
        let h = field_took last bytes tail field.0 field.1 head in
        let next = bind-Ok (take so_far field.0 field.1 (length bytes) tail) (λ next. fields_at take steps field.0 next.0 next.1) (end, rest) e in
        let v = (known so_far field.0 field.1 (length bytes)).takes.took tail next.0.1 next.0.0 next.1 in
        let more = again field.0 next.0.0 next.0.1 next.2 in
        let parts : bytes ≡ (h.0 ++ (v.0 ++ more.0)) ++ rest = h.1 ∙ ap (λ (b : List ℕ). h.0 ++ b) (v.1 ∙ ap (λ (b : List ℕ). v.0 ++ b) more.1) ∙ regroup h.0 v.0 more.0 rest in
        let any : IsAnyValue field.1 v.0 = (known so_far field.0 field.1 (length bytes)).any next.0.0 v.0 v.2 in
        (h.0 ++ (v.0 ++ more.0), parts, ((record { id = field.0; kind = field.1; value = v.0 }) ∷ more.2.0, (h.0, more.0, refl, h.2, any, more.2.1), (next.0.0, v.2, more.2.2)))

fields_again : {S : Type 0} (take : S → ℤ → ℕ → ℕ → List ℕ → Reading S) (Field : S → RawField → S → Type 0) → FieldsKnown take Field → TakeStays take → (fields : List RawField) (last : ℤ) (so_far end : S) (taken rest : List ℕ) → AreFields IsAnyValue last fields taken → Keep Field so_far fields end → fields_at take (length (taken ++ rest)) last so_far (taken ++ rest) ≡ Ok (end, rest)
unfolding field_at
fields_again {S} take Field known stays [] last so_far end taken rest is keep =
    ap (λ (v : List ℕ). fields_at take (length (v ++ rest)) last so_far (v ++ rest)) is
    ∙ fields_at-stop take last so_far (0 ∷ rest) rest refl
    ∙ ap (λ (s : S). Ok (s, rest)) keep
fields_again take Field known stays (field ∷ fields) last so_far end taken rest is keep =
    let bytes : List ℕ = is.0 ++ (field.value ++ (is.1 ++ rest)) in
    let parts : taken ++ rest ≡ bytes = ap (λ (v : List ℕ). v ++ rest) is.2 ∙ append_assoc is.0 (field.value ++ is.1) rest ∙ ap (λ (t : List ℕ). is.0 ++ t) (append_assoc field.value is.1 rest) in
    ap (λ (b : List ℕ). fields_at take (length b) last so_far b) parts
    ∙ fields_at-next take stays last so_far bytes (field.value ++ (is.1 ++ rest)) field.id field.kind keep.0 (is.1 ++ rest) (field_again last is.0 (field.value ++ (is.1 ++ rest)) field.id field.kind is.3) ((known so_far field.id field.kind (length bytes)).takes.again field.value (is.1 ++ rest) keep.0 keep.1)
    ∙ fields_again take Field known stays fields field.id keep.0 end is.1 rest is.5 keep.2

pub whole_known : {S A : Type 0} (take : S → ℤ → ℕ → ℕ → List ℕ → Reading S) (Field : S → RawField → S → Type 0) (nothing : S) (whole : S → Option A) → TakeStays take → FieldsKnown take Field → Knows 12 (whole_at take nothing whole) (IsWhole Field nothing whole)
whole_known {S} {A} take Field nothing whole stays known = record {
  takes = record {
    took = λ bytes rest x e. (
        let first = bind-Ok (struct_at take nothing bytes) (λ found. only_some (whole found.0) (0 ∷ found.1) >>= λ x. Ok (x, found.1)) (x, rest) e in
        let second = bind-Ok (only_some (whole first.0.0) (0 ∷ first.0.1)) (λ x. Ok (x, first.0.1)) (x, rest) first.2 in
        let is = only_some-Ok (whole first.0.0) (0 ∷ first.0.1) second.0 second.1 in
        let same = read_once (second.0, first.0.1) (x, rest) (Ok (second.0, first.0.1)) refl second.2 in
        let t = fields_took take Field known (length bytes) (pos 0) nothing first.0.0 bytes first.0.1 first.1 in
        (t.0, t.1 ∙ ap (λ (b : List ℕ). t.0 ++ b) (ap (λ (p : A × List ℕ). p.1) same), (t.2.0, t.2.1, (first.0.0, t.2.2, is ∙ ap (λ (a : A). Some a) (ap (λ (p : A × List ℕ). p.0) same)))));
    again = λ value rest x is.
        ap (λ (r : Reading S). r >>= λ found. only_some (whole found.0) (0 ∷ found.1) >>= λ x. Ok (x, found.1)) (fields_again take Field known stays is.0 (pos 0) nothing is.2.0 value rest is.1 is.2.1)
        ∙ ap (λ (o : Option A). only_some o (0 ∷ rest) >>= λ x. Ok (x, rest)) is.2.2;
  };
  any = λ x bytes is. struct_any is.0 bytes is.1;
}
