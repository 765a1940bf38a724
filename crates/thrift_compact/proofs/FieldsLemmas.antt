-- The fields of a struct, one after another.
use Rattle.std.proofs.Common.{◌≡◌, ℕ, zero, suc, ◌+◌, ◌<◌, ◌≤◌, List, [], ◌∷◌, length, Option, Some, None, Ok, Err, ℤ, refl, ap, subst, ◌∙◌, arith, Bool, true, false}
use Rattle.std.specs.Prelude.{◌==◌, if◌then◌else◌}
use Rattle.byte_fields.proofs.ReadingLemmas.{read_once}
use Rattle.thrift_compact.specs.Types.{is_type}
use Rattle.std.specs.Option.{option_map_or}
use Rattle.byte_fields.specs.declared.field_error.FieldError.{FieldError}
use Rattle.byte_fields.specs.declared.field_error.FieldError.TheVariants.{Short, Bad}
use Rattle.byte_fields.specs.Reading.{Reading, ◌>>=◌, as_item}
use Rattle.thrift_compact.specs.Heads.{high_half, low_half, id_at, field_at}
use Rattle.thrift_compact.specs.Values.{Passing, fields_at, times_at}
use Rattle.thrift_compact.specs.Within.{Within, TakeStays}
use Rattle.thrift_compact.proofs.WithinLemmas.{field_at_within}

-- a field's head takes a byte at least
pub field_at-shorter : (last : ℤ) (bytes rest : List ℕ) (o : Option (ℤ × ℕ)) → field_at last bytes ≡ Ok (o, rest) → length rest < length bytes
unfolding field_at
field_at-shorter last [] rest o e = absurd cc
field_at-shorter last (byte ∷ tail) rest o e =
    let h : length rest ≤ length tail = subst (Within (length (byte ∷ tail)) (length tail)) e (field_at_within last byte tail) in
    omega arith

-- more steps than there are bytes change nothing
pub fields_at-enough : {S : Type 0} (take : S → ℤ → ℕ → ℕ → List ℕ → Reading S) → TakeStays take → (m n : ℕ) (last : ℤ) (so_far : S) (bytes : List ℕ) → length bytes ≤ m → length bytes ≤ n → fields_at take m last so_far bytes ≡ fields_at take n last so_far bytes
unfolding fields_at field_at
fields_at-enough take stays zero zero last so_far bytes le le' = refl
fields_at-enough take stays zero (suc n) last so_far [] le le' = refl
fields_at-enough take stays zero (suc n) last so_far (byte ∷ rest) le le' = absurd (omega arith)
fields_at-enough take stays (suc m) zero last so_far [] le le' = refl
fields_at-enough take stays (suc m) zero last so_far (byte ∷ rest) le le' = absurd (omega arith)
fields_at-enough {S} take stays (suc m) (suc n) last so_far bytes le le' = from (λ id next rest short short'. fields_at-enough take stays m n id next rest short short') (field_at last bytes) refl
  where
    more : ℕ → Option (ℤ × ℕ) → List ℕ → Reading S
    more steps o rest = option_map_or (λ field. take so_far field.0 field.1 (length bytes) rest >>= λ next. fields_at take steps field.0 next.0 next.1) o (Ok (so_far, rest))

    taken : ((id : ℤ) (next : S) (rest : List ℕ) → length rest ≤ m → length rest ≤ n → fields_at take m id next rest ≡ fields_at take n id next rest) → (rest : List ℕ) (id : ℤ) (kind : ℕ) → length rest < length bytes → (r : Reading S) → take so_far id kind (length bytes) rest ≡ r → (r >>= λ next. fields_at take m id next.0 next.1) ≡ (r >>= λ next. fields_at take n id next.0 next.1)
    taken again rest id kind less (Ok next) e =
        let h : length next.1 ≤ length rest = subst (Within (length bytes) (length rest)) e (stays so_far id kind (length bytes) rest (omega arith)) in
        again id next.0 next.1 (omega arith) (omega arith)
    taken again rest id kind less (Err error) e = refl

    at_head : ((id : ℤ) (next : S) (rest : List ℕ) → length rest ≤ m → length rest ≤ n → fields_at take m id next rest ≡ fields_at take n id next rest) → (o : Option (ℤ × ℕ)) (rest : List ℕ) → field_at last bytes ≡ Ok (o, rest) → more m o rest ≡ more n o rest
    at_head again None rest e = refl
    at_head again (Some field) rest e = taken again rest field.0 field.1 (field_at-shorter last bytes rest (Some field) e) (take so_far field.0 field.1 (length bytes) rest) refl

    from : ((id : ℤ) (next : S) (rest : List ℕ) → length rest ≤ m → length rest ≤ n → fields_at take m id next rest ≡ fields_at take n id next rest) → (r : Reading (Option (ℤ × ℕ))) → field_at last bytes ≡ r → (r >>= λ head. more m head.0 head.1) ≡ (r >>= λ head. more n head.0 head.1)
    from again (Ok head) e = at_head again head.0 head.1 e
    from again (Err error) e = refl

-- ---- the steps of a loop over fields

pub fields_at-stop : {S : Type 0} (take : S → ℤ → ℕ → ℕ → List ℕ → Reading S) (last : ℤ) (so_far : S) (bytes rest : List ℕ) → field_at last bytes ≡ Ok (None, rest) → fields_at take (length bytes) last so_far bytes ≡ Ok (so_far, rest)
unfolding fields_at field_at
fields_at-stop take last so_far [] rest e = absurd cc
fields_at-stop {S} take last so_far (byte ∷ tail) rest e =
    ap (λ (r : Reading (Option (ℤ × ℕ))). r >>= λ head. option_map_or (λ field. take so_far field.0 field.1 (length (byte ∷ tail)) head.1 >>= λ next. fields_at take (length tail) field.0 next.0 next.1) head.0 (Ok (so_far, head.1))) e

pub fields_at-head_Err : {S : Type 0} (take : S → ℤ → ℕ → ℕ → List ℕ → Reading S) (last : ℤ) (so_far : S) (bytes : List ℕ) (error : FieldError) → field_at last bytes ≡ Err error → fields_at take (length bytes) last so_far bytes ≡ Err error
unfolding fields_at field_at
fields_at-head_Err take last so_far [] error e = cc
fields_at-head_Err {S} take last so_far (byte ∷ tail) error e =
    ap (λ (r : Reading (Option (ℤ × ℕ))). r >>= λ head. option_map_or (λ field. take so_far field.0 field.1 (length (byte ∷ tail)) head.1 >>= λ next. fields_at take (length tail) field.0 next.0 next.1) head.0 (Ok (so_far, head.1))) e

fields_at-step : {S : Type 0} (take : S → ℤ → ℕ → ℕ → List ℕ → Reading S) (last : ℤ) (so_far : S) (byte : ℕ) (tail rest : List ℕ) (id : ℤ) (kind : ℕ) → field_at last (byte ∷ tail) ≡ Ok (Some (id, kind), rest) → fields_at take (length (byte ∷ tail)) last so_far (byte ∷ tail) ≡ (take so_far id kind (length (byte ∷ tail)) rest >>= λ next. fields_at take (length tail) id next.0 next.1)
unfolding fields_at
fields_at-step take last so_far byte tail rest id kind e =
    ap (λ (r : Reading (Option (ℤ × ℕ))). r >>= λ head. option_map_or (λ field. take so_far field.0 field.1 (length (byte ∷ tail)) head.1 >>= λ next. fields_at take (length tail) field.0 next.0 next.1) head.0 (Ok (so_far, head.1))) e

pub fields_at-value_Err : {S : Type 0} (take : S → ℤ → ℕ → ℕ → List ℕ → Reading S) (last : ℤ) (so_far : S) (bytes rest : List ℕ) (id : ℤ) (kind : ℕ) (error : FieldError) → field_at last bytes ≡ Ok (Some (id, kind), rest) → take so_far id kind (length bytes) rest ≡ Err error → fields_at take (length bytes) last so_far bytes ≡ Err error
unfolding field_at
fields_at-value_Err take last so_far [] rest id kind error e f = absurd cc
fields_at-value_Err take last so_far (byte ∷ tail) rest id kind error e f =
    fields_at-step take last so_far byte tail rest id kind e ∙ ap (λ r. r >>= λ next. fields_at take (length tail) id next.0 next.1) f

pub fields_at-next : {S : Type 0} (take : S → ℤ → ℕ → ℕ → List ℕ → Reading S) → TakeStays take → (last : ℤ) (so_far : S) (bytes rest : List ℕ) (id : ℤ) (kind : ℕ) (next : S) (after : List ℕ) → field_at last bytes ≡ Ok (Some (id, kind), rest) → take so_far id kind (length bytes) rest ≡ Ok (next, after) → fields_at take (length bytes) last so_far bytes ≡ fields_at take (length after) id next after
unfolding field_at
fields_at-next take stays last so_far [] rest id kind next after e f = absurd cc
fields_at-next {S} take stays last so_far (byte ∷ tail) rest id kind next after e f =
    let less : length rest ≤ length tail = subst (Within (length (byte ∷ tail)) (length tail)) e (field_at_within last byte tail) in
    let h : length after ≤ length rest = subst (Within (length (byte ∷ tail)) (length rest)) f (stays so_far id kind (length (byte ∷ tail)) rest (omega arith)) in
    fields_at-step take last so_far byte tail rest id kind e
    ∙ ap (λ (r : Reading S). r >>= λ x. fields_at take (length tail) id x.0 x.1) f
    ∙ fields_at-enough take stays (length tail) (length after) id next after (omega arith) (omega arith)

-- ---- the steps of a loop over items

pub times_at-none : (count : ℕ) (read : List ℕ → Passing) (bytes : List ℕ) → count ≤ 0 → times_at count read bytes ≡ Ok (tt, bytes)
unfolding times_at
times_at-none zero read bytes le = refl
times_at-none (suc count) read bytes le = absurd (omega arith)

pub times_at-Err : (count : ℕ) (read : List ℕ → Passing) (bytes : List ℕ) (error : FieldError) → 0 < count → read bytes ≡ Err error → times_at count read bytes ≡ Err error
unfolding times_at
times_at-Err zero read bytes error some e = absurd (omega arith)
times_at-Err (suc count) read bytes error some e = ap (λ (r : Passing). r >>= λ first. times_at count read first.1) e

pub times_at-next : (count left : ℕ) (read : List ℕ → Passing) (bytes rest : List ℕ) → count ≡ 1 + left → read bytes ≡ Ok (tt, rest) → times_at count read bytes ≡ times_at left read rest
unfolding times_at
times_at-next zero left read bytes rest one e = absurd (omega arith)
times_at-next (suc count) left read bytes rest one e =
    ap (λ (r : Passing). r >>= λ first. times_at count read first.1) e ∙ ap (λ (n : ℕ). times_at n read rest) same
  where
    same : count ≡ left
    same = omega arith

-- ---- the stop byte

-- a field isn't the stop byte
no_field : (field : ℤ × ℕ) (tail rest : List ℕ) (r : Reading (Option (ℤ × ℕ))) → r ≡ Ok (Some field, tail) → r ≡ Ok (None, rest) → ⊥
no_field field tail rest r is e =
    let same = read_once (Some field, tail) (None, rest) r is e in
    let none : Some field ≡ None = ap (λ (p : Option (ℤ × ℕ) × List ℕ). p.0) same in
    cc

-- the stop byte is one byte
pub field_at-stop : (last : ℤ) (bytes rest : List ℕ) → field_at last bytes ≡ Ok (None, rest) → length bytes ≡ 1 + length rest
unfolding field_at
field_at-stop last [] rest e = absurd cc
field_at-stop last (byte ∷ tail) rest e = by_test (byte == 0) (is_type (low_half byte)) (id_at last (high_half byte) tail) e
  where
    head : Bool → Bool → Reading ℤ → Reading (Option (ℤ × ℕ))
    head stop known id = if stop then Ok (None, tail) else if known then as_item (byte ∷ tail) (id >>= λ id. Ok (Some (id.0, low_half byte), id.1)) else Err (Bad (length (byte ∷ tail)))

    by_test : (stop known : Bool) (id : Reading ℤ) → head stop known id ≡ Ok (None, rest) → length (byte ∷ tail) ≡ 1 + length rest
    by_test true known id e =
        let same = read_once (None, tail) (None, rest) (Ok (None, tail)) refl e in
        omega (arith, ap (λ (p : Option (ℤ × ℕ) × List ℕ). length p.1) same)
    by_test false true (Ok id) e = absurd (no_field (id.0, low_half byte) id.1 rest (Ok (Some (id.0, low_half byte), id.1)) refl e)
    by_test false true (Err (Short left)) e = absurd cc
    by_test false true (Err (Bad left)) e = absurd cc
    by_test false false id e = absurd cc

-- fields that were read to their end have a stop byte at least
pub fields_at-shorter : {S : Type 0} (take : S → ℤ → ℕ → ℕ → List ℕ → Reading S) → TakeStays take → (steps : ℕ) (last : ℤ) (so_far whole : S) (bytes rest : List ℕ) → fields_at take steps last so_far bytes ≡ Ok (whole, rest) → length rest < length bytes
unfolding fields_at
fields_at-shorter take stays zero last so_far whole bytes rest e = absurd cc
fields_at-shorter {S} take stays (suc steps) last so_far whole bytes rest e = at_head (λ id next from f. fields_at-shorter take stays steps id next whole from rest f) (field_at last bytes) refl e
  where
    taken : ((id : ℤ) (next : S) (from : List ℕ) → fields_at take steps id next from ≡ Ok (whole, rest) → length rest < length from) → (tail : List ℕ) (id : ℤ) (kind : ℕ) → length tail < length bytes → (r : Reading S) → take so_far id kind (length bytes) tail ≡ r → (r >>= λ next. fields_at take steps id next.0 next.1) ≡ Ok (whole, rest) → length rest < length bytes
    taken again tail id kind less (Ok next) f e =
        let h : length next.1 ≤ length tail = subst (Within (length bytes) (length tail)) f (stays so_far id kind (length bytes) tail (omega arith)) in
        omega (arith, again id next.0 next.1 e)
    taken again tail id kind less (Err error) f e = absurd cc

    at_option : ((id : ℤ) (next : S) (from : List ℕ) → fields_at take steps id next from ≡ Ok (whole, rest) → length rest < length from) → (o : Option (ℤ × ℕ)) (tail : List ℕ) → field_at last bytes ≡ Ok (o, tail) → option_map_or (λ field. take so_far field.0 field.1 (length bytes) tail >>= λ next. fields_at take steps field.0 next.0 next.1) o (Ok (so_far, tail)) ≡ Ok (whole, rest) → length rest < length bytes
    at_option again None tail f e =
        let same = read_once (so_far, tail) (whole, rest) (Ok (so_far, tail)) refl e in
        omega (arith, ap (λ (p : S × List ℕ). length p.1) same, field_at-shorter last bytes tail None f)
    at_option again (Some field) tail f e = taken again tail field.0 field.1 (field_at-shorter last bytes tail (Some field) f) (take so_far field.0 field.1 (length bytes) tail) refl e

    at_head : ((id : ℤ) (next : S) (from : List ℕ) → fields_at take steps id next from ≡ Ok (whole, rest) → length rest < length from) → (r : Reading (Option (ℤ × ℕ))) → field_at last bytes ≡ r → (r >>= λ head. option_map_or (λ field. take so_far field.0 field.1 (length bytes) head.1 >>= λ next. fields_at take steps field.0 next.0 next.1) head.0 (Ok (so_far, head.1))) ≡ Ok (whole, rest) → length rest < length bytes
    at_head again (Ok head) f e = at_option again head.0 head.1 f e
    at_head again (Err error) f e = absurd cc
