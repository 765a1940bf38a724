-- Decoding and encoding: from the function on lists to the relation.
use Rattle.std.proofs.Common.{◌≡◌, ℕ, ◌-◌, ◌≤◌, List, ◌++◌, length, take, Ok, Err, refl, sym, ap, subst, ◌∙◌, arith}
use Rattle.std.proofs.lemmas.List.{take_at, length-append}
use Rattle.byte_fields.specs.declared.field_error.FieldError.{FieldError}
use Rattle.byte_fields.proofs.ReadingLemmas.{read_once}
use Rattle.hudi_base.specs.declared.value.Value.{Value}
use Rattle.avro_schema.specs.AvroTypes.{AvroType}
use Rattle.avro_schema.specs.Grammar.{IsReading}
use Rattle.avro_schema.specs.Fits.{Fits}
use Rattle.avro_schema.specs.Reading.{value_at}
use Rattle.avro_schema.specs.Written.{item_count, written}
use Rattle.avro_value.specs.Decoding.{IsFound}
use Rattle.avro_value.proofs.Types.{finds_type, reads_type}
use Rattle.avro_value.proofs.ReadingsFit.{fits_of}
use Rattle.avro_value.proofs.WrittenLemmas.{written_is}

pub found_by : (type : AvroType) (bytes : List ℕ) (v : Value) (left : ℕ) (rest : List ℕ) → value_at type 1000000 bytes ≡ Ok ((v, left), rest) → IsFound type bytes v (length bytes - length rest)
found_by type bytes v left rest e =
    let told = finds_type type 1000000 bytes v left rest e in
    let prefix : List ℕ = told.prefix in
    let used : length bytes - length rest ≡ length prefix = omega (arith, ap length told.parts, length-append prefix rest) in
    let begins : take (length bytes - length rest) bytes ≡ prefix = ap (λ (n : ℕ). take n bytes) used ∙ ap (take (length prefix)) told.parts ∙ take_at prefix rest (length prefix) refl in
    record {
      within = omega arith;
      reading = subst (IsReading type v) (sym begins) told.reading;
      few = omega (arith, told.spent);
    }

-- a reading is read
again_by : (type : AvroType) (bytes prefix rest : List ℕ) (v : Value) → bytes ≡ prefix ++ rest → IsReading type v prefix → item_count v ≤ 1000000 → value_at type 1000000 bytes ≡ Ok ((v, 1000000 - item_count v), rest)
again_by type bytes prefix rest v parts is few = ap (value_at type 1000000) parts ∙ reads_type type 1000000 v prefix rest is few

pub only_by : (type : AvroType) (bytes : List ℕ) (found : Value) (left : ℕ) (after : List ℕ) → value_at type 1000000 bytes ≡ Ok ((found, left), after)
    → (prefix rest : List ℕ) (v : Value) → bytes ≡ prefix ++ rest → IsReading type v prefix → item_count v ≤ 1000000 → (found ≡ v) × (length bytes - length after ≡ length prefix)
only_by type bytes found left after e prefix rest v parts is few =
    let same = read_once ((found, left), after) ((v, 1000000 - item_count v), rest) (value_at type 1000000 bytes) e (again_by type bytes prefix rest v parts is few) in
    let behind : after ≡ rest = ap (λ (p : (Value × ℕ) × List ℕ). p.1) same in
    (ap (λ (p : (Value × ℕ) × List ℕ). p.0.0) same, omega (arith, ap length behind, ap length parts, length-append prefix rest))

pub not_refused : {P : Type 0} (type : AvroType) (bytes : List ℕ) (error : FieldError) → value_at type 1000000 bytes ≡ Err error
    → (prefix rest : List ℕ) (v : Value) → bytes ≡ prefix ++ rest → IsReading type v prefix → item_count v ≤ 1000000 → P
not_refused type bytes error e prefix rest v parts is few =
    let again = again_by type bytes prefix rest v parts is few in absurd cc

pub written_again : (type : AvroType) (v : Value) (bytes : List ℕ) → bytes ≡ written v → Fits type v → (rest : List ℕ) → item_count v ≤ 1000000 → value_at type 1000000 (bytes ++ rest) ≡ Ok ((v, 1000000 - item_count v), rest)
written_again type v bytes same fits rest few =
    ap (λ (t : List ℕ). value_at type 1000000 (t ++ rest)) same ∙ reads_type type 1000000 v (written v) rest (written_is type v fits) few

pub written_reading : (type : AvroType) (v : Value) (bytes : List ℕ) → bytes ≡ written v → Fits type v → IsReading type v bytes
written_reading type v bytes same fits = subst (IsReading type v) (sym same) (written_is type v fits)

pub fits_by : (type : AvroType) (bytes : List ℕ) (v : Value) (left : ℕ) (rest : List ℕ) → value_at type 1000000 bytes ≡ Ok ((v, left), rest) → Fits type v
fits_by type bytes v left rest e =
    let told = finds_type type 1000000 bytes v left rest e in
    fits_of type v told.prefix told.reading (omega (arith, told.spent))
