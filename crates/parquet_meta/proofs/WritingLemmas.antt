-- How the fields of a struct add up while they are written.
use Rattle.std.proofs.Common.{◌≡◌, ℕ, List, [], ◌∷◌, ◌++◌, Result, Ok, Err, refl, sym, ap, ◌∙◌, append_assoc, ℤ, pos}
use Rattle.std.specs.Prelude.{OnOk, nat_abs, ◌-ℤ◌}
use Rattle.std.proofs.lemmas.List.{append-nil}
use Rattle.thrift_compact.specs.declared.writer.Level.{Level}
use Rattle.thrift_compact.specs.declared.writer.Level.TheVariants.{Struct}
use Rattle.thrift_compact.specs.Heads.{field_head}
use Rattle.thrift_compact.specs.Writing.{Written, difference_of, after_field, after_item, after_struct}
use Rattle.parquet_meta.specs.Written.{Field, fields_bytes, struct_bytes}
use Rattle.parquet_meta.specs.Writers.{with_field, with_fields, with_item}

pub OnOk-then : {T E : Type 0} (r : Result T E) (P Q : Type 0) → OnOk r P → (P → Q) → OnOk r Q
OnOk-then (Ok x) P Q p then = then p
OnOk-then (Err e) P Q p then = tt

pub with_fields-append : (fields more : List Field) (w : Written) → with_fields (fields ++ more) w ≡ with_fields more (with_fields fields w)
with_fields-append [] more w = refl
with_fields-append (field ∷ fields) more w = with_fields-append fields more (with_field field w)

-- five parts, one after another
pub with_fields-five : (a b c d e : List Field) (w : Written) → with_fields (a ++ b ++ c ++ d ++ e) w ≡ with_fields e (with_fields d (with_fields c (with_fields b (with_fields a w))))
with_fields-five a b c d e w =
    with_fields-append (a ++ b ++ c ++ d) e w
    ∙ ap (with_fields e) (with_fields-append (a ++ b ++ c) d w
    ∙ ap (with_fields d) (with_fields-append (a ++ b) c w
    ∙ ap (with_fields c) (with_fields-append a b w)))

-- the last id of a struct with these fields
last_id : ℤ → List Field → ℤ
last_id last [] = last
last_id last (field ∷ fields) = last_id field.id fields

with_fields-struct : (fields : List Field) (last : ℤ) (bytes : List ℕ) (outer : List Level) → with_fields fields (record { bytes = bytes; levels = Struct last ∷ outer }) ≡ record { bytes = bytes ++ fields_bytes last fields; levels = Struct (last_id last fields) ∷ outer }
unfolding last_id
with_fields-struct [] last bytes outer = ap (λ (b : List ℕ). record { bytes = b; levels = Struct last ∷ outer }) (sym (append-nil bytes))
with_fields-struct (field ∷ fields) last bytes outer =
    let head : List ℕ = field_head (nat_abs (field.id -ℤ last)) field.kind in
    with_fields-struct fields field.id (bytes ++ head ++ field.value) outer
    ∙ ap (λ (b : List ℕ). record { bytes = b; levels = Struct (last_id field.id fields) ∷ outer }) (regroup bytes head field.value (fields_bytes field.id fields))
  where
    regroup : (a b c d : List ℕ) → ((a ++ b) ++ c) ++ d ≡ a ++ ((b ++ c) ++ d)
    regroup a b c d = simp append_assoc

-- a writer behind the stop byte of its innermost struct
abbrev pub stopped : Written → Written
stopped w = record { bytes = w.bytes ++ 0 ∷ []; levels = after_struct w.levels }

-- a struct with its stop byte
ended : (fields : List Field) (bytes : List ℕ) (outer : List Level) (w : Written) → w ≡ with_fields fields (record { bytes = bytes; levels = Struct (pos 0) ∷ outer }) → stopped w ≡ record { bytes = bytes ++ struct_bytes fields; levels = outer }
ended fields bytes outer w e =
    ap stopped (e ∙ with_fields-struct fields (pos 0) bytes outer)
    ∙ ap (λ (b : List ℕ). record { bytes = b; levels = outer }) (append_assoc bytes (fields_bytes (pos 0) fields) (0 ∷ []))

-- the outer struct
pub outer_struct : (fields : List Field) (w : Written) → w ≡ with_fields fields (record { bytes = []; levels = Struct (pos 0) ∷ [] }) → stopped w ≡ record { bytes = struct_bytes fields; levels = [] }
outer_struct fields w e = ended fields [] [] w e

-- an item that is a struct
pub struct_item : (fields : List Field) (old w : Written) → w ≡ with_fields fields (record { bytes = old.bytes; levels = Struct (pos 0) ∷ after_item old.levels }) → stopped w ≡ with_item (struct_bytes fields) old
struct_item fields old w e = ended fields old.bytes (after_item old.levels) w e

-- a field that is a struct
pub struct_field : (id : ℤ) (fields : List Field) (old w : Written) → w ≡ with_fields fields (record { bytes = old.bytes ++ field_head (difference_of id old.levels) 12; levels = Struct (pos 0) ∷ after_field id old.levels }) → stopped w ≡ with_field (record { id = id; kind = 12; value = struct_bytes fields }) old
struct_field id fields old w e = ended fields (old.bytes ++ field_head (difference_of id old.levels) 12) (after_field id old.levels) w e
