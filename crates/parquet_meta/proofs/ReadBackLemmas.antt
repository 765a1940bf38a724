-- Written structs and lists are read back.
use Rattle.std.proofs.Common.{◌≡◌, ℕ, suc, ◌+◌, ◌*◌, ◌/◌, ◌%◌, ◌^◌, ◌<◌, Bool, true, false, List, [], ◌∷◌, ◌++◌, length, map, Option, Some, Ok, ℤ, pos, ◌+ℤ◌, ◌-ℤ◌, refl, ap, ◌∙◌, append_assoc, arith, inl, inr}
use Rattle.std.specs.Prelude.{nat_abs, int_le, ◌==◌}
use Rattle.std.specs.List.{flat_map, AllByRecursion}
use Rattle.std.proofs.lemmas.Int.{ints}
use Rattle.std.proofs.lemmas.Bool.{eq-eqb, ne_eqb, lt-ltb, le-ltb, cases_lt}
use Rattle.byte_fields.specs.Reading.{Reading, ◌>>=◌, only_if, only_some}
use Rattle.byte_fields.specs.Varints.{varint, zigzag, varint_at, zigzag_at}
use Rattle.byte_fields.proofs.VarintLemmas.{zigzag_again, zigzag_fits-32, zigzag_fits-64, varint_again}
use Rattle.byte_fields.proofs.PrefixedLemmas.{prefixed_at_again, varint_length}
use Rattle.thrift_compact.specs.Types.{is_type, shape_of}
use Rattle.thrift_compact.specs.Heads.{id_at, field_at, size_at, list_at, field_head, list_head}
use Rattle.thrift_compact.specs.Values.{fields_at, struct_at, passed, scalar_at, value_at}
use Rattle.thrift_compact.specs.Within.{TakeStays}
use Rattle.thrift_compact.proofs.FieldsLemmas.{fields_at-stop, fields_at-next}
use Rattle.parquet_meta.specs.Reading.{binary_at, whole_at, items_at, list_of_at}
use Rattle.parquet_meta.specs.Written.{Field, fields_bytes, struct_bytes, number_bytes, binary_bytes, list_bytes, IsShort}
use Rattle.parquet_meta.specs.ReadBack.{Is32, Is64}

-- ---- values

pub number32_again : (n : ℤ) (more : List ℕ) → Is32 n → zigzag_at 32 (number_bytes n ++ more) ≡ Ok (n, more)
number32_again n more fits = let small : zigzag n < 2 ^ 32 = (zigzag_fits-32 n).0 fits in zigzag_again 32 n more (omega arith) small

pub number64_again : (n : ℤ) (more : List ℕ) → Is64 n → zigzag_at 64 (number_bytes n ++ more) ≡ Ok (n, more)
number64_again n more fits = let small : zigzag n < 2 ^ 64 = (zigzag_fits-64 n).0 fits in zigzag_again 64 n more small small

pub binary_again : (content more : List ℕ) → IsShort content → binary_at (binary_bytes content ++ more) ≡ Ok (content, more)
binary_again content more short = prefixed_at_again (varint_at 32) varint content more (varint_length (length content) short)

-- ---- fields

-- a field that can stand behind one of the id `last`, in its short form
pub record IsNext (last : ℤ) (field : Field) : Type 0 where
  pub difference : ℕ
  pub is : nat_abs (field.id -ℤ last) ≡ difference
  pub sum : last +ℤ pos difference ≡ field.id
  pub some : 0 < difference
  pub few : difference < 16
  pub known : is_type field.kind ≡ true
  pub half : field.kind < 16
  pub fits : int_le field.id (pos 32767) ≡ true

abbrev pub AreNext : ℤ → List Field → Type 0
AreNext last [] = Unit {0}
AreNext last (field ∷ fields) = IsNext last field × AreNext field.id fields

field_again : (last : ℤ) (field : Field) (more : List ℕ) → IsNext last field → field_at last (field_head (nat_abs (field.id -ℤ last)) field.kind ++ more) ≡ Ok (Some (field.id, field.kind), more)
unfolding field_at id_at
field_again last field more next =
    let d = next.difference in
    let k = field.kind in
    let some : 0 < d = next.some in
    let half : k < 16 = next.half in
    let low : (d * 16 + k) % 16 ≡ k = omega arith in
    let high : (d * 16 + k) / 16 ≡ d = omega arith in
    let full : ((d * 16 + k) == 0) ≡ false = ne_eqb (d * 16 + k) 0 (λ e. omega arith) in
    let short : (d == 0) ≡ false = ne_eqb d 0 (λ e. omega arith) in
    rw (next.is, full, low, next.known, high, short, next.sum, next.fits) refl

-- the field is read, whatever follows it, and gives `next`
abbrev pub TakesBack : {S : Type 0} → (S → ℤ → ℕ → ℕ → List ℕ → Reading S) → S → Field → S → Type 0
TakesBack take so_far field next = (left : ℕ) (more : List ℕ) → take so_far field.id field.kind left (field.value ++ more) ≡ Ok (next, more)

-- the fields are read one after another
abbrev pub TakeBack : {S : Type 0} → (S → ℤ → ℕ → ℕ → List ℕ → Reading S) → S → List Field → S → Type 0
TakeBack take so_far [] final = so_far ≡ final
TakeBack {S} take so_far (field ∷ fields) final = (next : S) × TakesBack take so_far field next × TakeBack take next fields final

fields_again : {S : Type 0} (take : S → ℤ → ℕ → ℕ → List ℕ → Reading S) → TakeStays take → (fields : List Field) (last : ℤ) (so_far final : S) (rest : List ℕ) → AreNext last fields → TakeBack take so_far fields final → fields_at take (length (fields_bytes last fields ++ 0 ∷ rest)) last so_far (fields_bytes last fields ++ 0 ∷ rest) ≡ Ok (final, rest)
unfolding field_at
fields_again take stays [] last so_far final rest next back = fields_at-stop take last so_far (0 ∷ rest) rest refl ∙ ap (λ s. Ok (s, rest)) back
fields_again {S} take stays (field ∷ fields) last so_far final rest next back =
    let head : List ℕ = field_head (nat_abs (field.id -ℤ last)) field.kind in
    let tail : List ℕ = fields_bytes field.id fields ++ 0 ∷ rest in
    let regrouped : fields_bytes last (field ∷ fields) ++ 0 ∷ rest ≡ head ++ (field.value ++ tail) = simp append_assoc in
    let bytes : List ℕ = head ++ (field.value ++ tail) in
    ap (λ (b : List ℕ). fields_at take (length b) last so_far b) regrouped
    ∙ fields_at-next take stays last so_far bytes (field.value ++ tail) field.id field.kind back.0 tail (field_again last field (field.value ++ tail) next.0) (back.1 (length bytes) tail)
    ∙ fields_again take stays fields field.id back.0 final rest next.1 back.2

-- a struct is read
pub whole_again : {S A : Type 0} (take : S → ℤ → ℕ → ℕ → List ℕ → Reading S) (nothing : S) (whole : S → Option A) → TakeStays take → (fields : List Field) (final : S) (x : A) (rest : List ℕ) → AreNext (pos 0) fields → TakeBack take nothing fields final → whole final ≡ Some x → whole_at take nothing whole (struct_bytes fields ++ rest) ≡ Ok (x, rest)
whole_again {S} {A} take nothing whole stays fields final x rest next back is =
    let regrouped : struct_bytes fields ++ rest ≡ fields_bytes (pos 0) fields ++ 0 ∷ rest = append_assoc (fields_bytes (pos 0) fields) (0 ∷ []) rest in
    let read : struct_at take nothing (struct_bytes fields ++ rest) ≡ Ok (final, rest) = ap (struct_at take nothing) regrouped ∙ fields_again take stays fields (pos 0) nothing final rest next back in
    ap (λ (r : Reading S). r >>= λ found. only_some (whole found.0) (0 ∷ found.1) >>= λ x. Ok (x, found.1)) read
    ∙ ap (λ (o : Option A). only_some o (0 ∷ rest) >>= λ x. Ok (x, rest)) is

-- ---- lists

list_head_again : (kind n : ℕ) (more : List ℕ) → is_type kind ≡ true → kind < 16 → n < 2 ^ 32 → list_at (list_head kind n ++ more) ≡ Ok ((kind, n), more)
unfolding list_at list_head size_at
list_head_again kind n more known half small =
    elim (cases_lt n 15) [
      | inl few ↦
          let low : (n * 16 + kind) % 16 ≡ kind = omega arith in
          let high : (n * 16 + kind) / 16 ≡ n = omega arith in
          let short : (n == 15) ≡ false = ne_eqb n 15 (λ e. omega arith) in
          rw (lt-ltb n 15 few, low, known, high, short) refl
      | inr many ↦
          let low : (240 + kind) % 16 ≡ kind = omega arith in
          let high : (240 + kind) / 16 ≡ 15 = omega arith in
          rw (le-ltb n 15 many, low, known, high, varint_again 32 n more (omega arith) small) refl
    ]

items_again : {A : Type 0} (read : List ℕ → Reading A) (bytes_of : A → List ℕ) (view : A → A) (P : A → Type 0) → ((x : A) (more : List ℕ) → P x → read (bytes_of x ++ more) ≡ Ok (view x, more)) → (xs : List A) (more : List ℕ) → AllByRecursion P xs → items_at read (length xs) (flat_map bytes_of xs ++ more) ≡ Ok (map view xs, more)
unfolding items_at
items_again read bytes_of view P each [] more all = refl
items_again {A} read bytes_of view P each (x ∷ xs) more all =
    ap (λ (b : List ℕ). items_at read (suc (length xs)) b) (append_assoc (bytes_of x) (flat_map bytes_of xs) more)
    ∙ ap (λ (r : Reading A). r >>= λ first. items_at read (length xs) first.1 >>= λ others. Ok (first.0 ∷ others.0, others.1)) (each x (flat_map bytes_of xs ++ more) all.0)
    ∙ ap (λ (r : Reading (List A)). r >>= λ others. Ok (view x ∷ others.0, others.1)) (items_again read bytes_of view P each xs more all.1)

pub list_again : {A : Type 0} (kind : ℕ) (read : List ℕ → Reading A) (bytes_of : A → List ℕ) (view : A → A) (P : A → Type 0) → is_type kind ≡ true → kind < 16 → ((x : A) (more : List ℕ) → P x → read (bytes_of x ++ more) ≡ Ok (view x, more)) → (xs : List A) (more : List ℕ) → IsShort xs → AllByRecursion P xs → list_of_at kind read (list_bytes kind bytes_of xs ++ more) ≡ Ok (map view xs, more)
unfolding list_of_at
list_again {A} kind read bytes_of view P known half each xs more short all =
    let regrouped : list_bytes kind bytes_of xs ++ more ≡ list_head kind (length xs) ++ (flat_map bytes_of xs ++ more) = append_assoc (list_head kind (length xs)) (flat_map bytes_of xs) more in
    let bytes : List ℕ = list_head kind (length xs) ++ (flat_map bytes_of xs ++ more) in
    let found : (ℕ × ℕ) × List ℕ = ((kind, length xs), flat_map bytes_of xs ++ more) in
    let same : (kind == kind) ≡ true = eq-eqb kind kind refl in
    ap (list_of_at kind read) regrouped
    ∙ ap (λ (r : Reading (ℕ × ℕ)). r >>= λ head. only_if (head.0.0 == kind) bytes head >>= λ head. items_at read head.0.1 head.1) (list_head_again kind (length xs) (flat_map bytes_of xs ++ more) known half short)
    ∙ ap (λ (b : Bool). only_if b bytes found >>= λ head. items_at read head.0.1 head.1) same
    ∙ items_again read bytes_of view P each xs more all

map-same : {A : Type 0} (xs : List A) → map (λ x. x) xs ≡ xs
map-same [] = refl
map-same (x ∷ xs) = ap (λ ys. x ∷ ys) (map-same xs)

-- the same, where each item is read as it is
pub same_list_again : {A : Type 0} (kind : ℕ) (read : List ℕ → Reading A) (bytes_of : A → List ℕ) (P : A → Type 0) → is_type kind ≡ true → kind < 16 → ((x : A) (more : List ℕ) → P x → read (bytes_of x ++ more) ≡ Ok (x, more)) → (xs : List A) (more : List ℕ) → IsShort xs → AllByRecursion P xs → list_of_at kind read (list_bytes kind bytes_of xs ++ more) ≡ Ok (xs, more)
same_list_again kind read bytes_of P known half each xs more short all =
    list_again kind read bytes_of (λ x. x) P known half each xs more short all ∙ ap (λ ys. Ok (ys, more)) (map-same xs)

-- ---- a field that is passed over

pub passed_binary_again : (content more : List ℕ) → IsShort content → value_at 32 8 (binary_bytes content ++ more) ≡ Ok (tt, more)
unfolding value_at shape_of scalar_at
passed_binary_again content more short = ap (λ (r : Reading (List ℕ)). passed r) (binary_again content more short)

pub passed_number_again : (n : ℤ) (more : List ℕ) → Is32 n → value_at 32 5 (number_bytes n ++ more) ≡ Ok (tt, more)
unfolding value_at shape_of scalar_at
passed_number_again n more fits = ap (λ (r : Reading ℤ). passed r) (number32_again n more fits)

pub zero_fits : Is32 (pos 0)
zero_fits = omega (arith, ints)
