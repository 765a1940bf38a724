-- Texts without a line feed.
use Rattle.std.proofs.Common.{◌≡◌, ◌≢◌, ℕ, ◌+◌, ◌/◌, ◌%◌, ◌<◌, ◌^◌, ◌&&◌, Bool, true, false, not, cond, nat_lt, List, [], ◌∷◌, ◌++◌, map, length, Some, None, is_none, unwrap_or, refl, arith}
use Rattle.std.specs.Fmt.{decimal}
use Rattle.std.specs.Char.{digit_char}
use Rattle.std.specs.Int.Digits.{digits_of}
use Rattle.std.specs.List.{list_all, position_or_len}
use Rattle.std.proofs.lemmas.Bool.Decides.{nat_tests}
use Rattle.std.proofs.lemmas.Fmt.{decimal-digits_of}
use Rattle.json.specs.Print.{escape_letter, escape_byte, escape, quoted}
use Rattle.serde_json.specs.Data as json
use Rattle.serde_json.specs.Data.{Data, Items, no_items, item, Members, no_members, member}
use Rattle.serde_json.specs.Written.{compact_text, items_text, members_text, comma_if}
use Rattle.table_forms.specs.NameForms.{is_table_name_byte}
use Rattle.table_forms.proofs.PieceLemmas.{lacks, and_parts, both, lacks-append, lacks-cons}
use Rattle.avro_schema.specs.AvroTypes.{AvroType, null, boolean, int, long, bytes, string, fixed_of, enum_of, array_of, map_of, union_of, record_of, Branches, no_branches, branch, Fields, no_fields, field}
use Rattle.avro_schema.specs.Names.{begins_name, continues_name, is_name}
use Rattle.avro_schema.specs.SchemaTexts.{type_json, branches_json, fields_json, field_json, type_text}
use Rattle.table_props.specs.Flat.{is_cell_type, is_null_type, is_flat_type, is_flat_field, is_flat, listed}
use Rattle.table_props.proofs.LineLemmas.{passes_first, fails_first}

-- ---- names

name_byte : (b : ℕ) → is_table_name_byte b ≡ true → b ≢ 10
name_byte b h = λ e. grind (arith, nat_tests)

pub lacks-table_name : (text : List ℕ) → list_all is_table_name_byte text ≡ true → lacks 10 text ≡ true
lacks-table_name [] h = refl
lacks-table_name (b ∷ bs) h =
    let parts = and_parts (is_table_name_byte b) (list_all is_table_name_byte bs) h in
    lacks-cons 10 b bs (name_byte b parts.0) (lacks-table_name bs parts.1)

first_byte : (b : ℕ) → begins_name b ≡ true → b ≢ 10
first_byte b h = λ e. grind (arith, nat_tests)

later_byte : (b : ℕ) → continues_name b ≡ true → b ≢ 10
later_byte b h = λ e. grind (arith, nat_tests)

later_bytes : (bs : List ℕ) → list_all continues_name bs ≡ true → lacks 10 bs ≡ true
later_bytes [] h = refl
later_bytes (b ∷ bs) h =
    let parts = and_parts (continues_name b) (list_all continues_name bs) h in
    lacks-cons 10 b bs (later_byte b parts.0) (later_bytes bs parts.1)

pub lacks-name : (name : List ℕ) → is_name name ≡ true → lacks 10 name ≡ true
lacks-name [] h = absurd cc
lacks-name (b ∷ bs) h =
    let parts = and_parts (begins_name b) (list_all continues_name bs) h in
    lacks-cons 10 b bs (first_byte b parts.0) (later_bytes bs parts.1)

-- ---- numbers

digit_bytes : (ds : List ℕ) → lacks 10 (map (λ d. 48 + d) ds) ≡ true
digit_bytes [] = refl
digit_bytes (d ∷ ds) = lacks-cons 10 (48 + d) (map (λ (d : ℕ). 48 + d) ds) (λ e. omega arith) (digit_bytes ds)

pub lacks-decimal : (n : ℕ) → 0 < n → n < 2 ^ 64 → lacks 10 (decimal n) ≡ true
lacks-decimal n above below = rw (decimal-digits_of n above below) (digit_bytes (digits_of 10 n))

-- ---- JSON

letter_is_other : (x : ℕ) → escape_letter x ≢ 10
letter_is_other x = λ e. grind (arith, nat_tests)

digit_is_other : (d : ℕ) → digit_char d ≢ 10
digit_is_other d = λ e. grind (arith, nat_tests)

byte_pieces : (x : ℕ) (letter control : Bool) → nat_lt x 32 ≡ control
    → lacks 10 (cond letter (92 ∷ escape_letter x ∷ []) (cond control (92 ∷ 117 ∷ 48 ∷ 48 ∷ digit_char (x / 16) ∷ digit_char (x % 16) ∷ []) (x ∷ []))) ≡ true
byte_pieces x true control e = lacks-cons 10 92 (escape_letter x ∷ []) (λ e. omega arith) (lacks-cons 10 (escape_letter x) [] (letter_is_other x) refl)
byte_pieces x false true e =
    let digits : lacks 10 (digit_char (x / 16) ∷ digit_char (x % 16) ∷ []) ≡ true = lacks-cons 10 (digit_char (x / 16)) (digit_char (x % 16) ∷ []) (digit_is_other (x / 16)) (lacks-cons 10 (digit_char (x % 16)) [] (digit_is_other (x % 16)) refl) in
    digits
byte_pieces x false false e = lacks-cons 10 x [] (λ is. grind (arith, nat_tests)) refl

lacks-escape_byte : (x : ℕ) → lacks 10 (escape_byte x) ≡ true
unfolding escape_byte
lacks-escape_byte x = byte_pieces x (nat_lt 0 (escape_letter x)) (nat_lt x 32) refl

lacks-escape : (s : List ℕ) → lacks 10 (escape s) ≡ true
lacks-escape [] = refl
lacks-escape (x ∷ xs) = lacks-append 10 (escape_byte x) (escape xs) (lacks-escape_byte x) (lacks-escape xs)

lacks-quoted : (s : List ℕ) → lacks 10 (quoted s) ≡ true
lacks-quoted s = lacks-append 10 (escape s) (34 ∷ []) (lacks-escape s) refl

-- no number anywhere
abbrev mutual
  plain : Data → Bool
  plain json.null = true
  plain (json.boolean b) = true
  plain (json.number n) = false
  plain (json.string s) = true
  plain (json.array ds) = items_plain ds
  plain (json.object ms) = members_plain ms

  items_plain : Items → Bool
  items_plain no_items = true
  items_plain (item d ds) = plain d && items_plain ds

  members_plain : Members → Bool
  members_plain no_members = true
  members_plain (member name d ms) = plain d && members_plain ms

lacks-comma : (later : Bool) → lacks 10 (comma_if later) ≡ true
lacks-comma true = refl
lacks-comma false = refl

mutual
  lacks-text : (d : Data) → plain d ≡ true → lacks 10 (compact_text d) ≡ true
  lacks-text json.null is = refl
  lacks-text (json.boolean true) is = refl
  lacks-text (json.boolean false) is = refl
  lacks-text (json.number n) is = absurd cc
  lacks-text (json.string s) is = lacks-quoted s
  lacks-text (json.array ds) is = lacks-items false ds is
  lacks-text (json.object ms) is = lacks-members false ms is

  lacks-items : (later : Bool) (ds : Items) → items_plain ds ≡ true → lacks 10 (items_text later ds) ≡ true
  lacks-items later no_items is = refl
  lacks-items later (item d ds) is =
      let parts = and_parts (plain d) (items_plain ds) is in
      lacks-append 10 (comma_if later) (compact_text d ++ items_text true ds) (lacks-comma later)
      (lacks-append 10 (compact_text d) (items_text true ds) (lacks-text d parts.0) (lacks-items true ds parts.1))

  lacks-members : (later : Bool) (ms : Members) → members_plain ms ≡ true → lacks 10 (members_text later ms) ≡ true
  lacks-members later no_members is = refl
  lacks-members later (member name d ms) is =
      let parts = and_parts (plain d) (members_plain ms) is in
      let value = lacks-append 10 (compact_text d) (members_text true ms) (lacks-text d parts.0) (lacks-members true ms parts.1) in
      lacks-append 10 (comma_if later) (quoted name ++ 58 ∷ (compact_text d ++ members_text true ms)) (lacks-comma later)
      (lacks-append 10 (quoted name) (58 ∷ (compact_text d ++ members_text true ms)) (lacks-quoted name) value)

-- ---- flat schemas

cell_plain : (type : AvroType) → is_cell_type type ≡ true → plain (type_json type) ≡ true
cell_plain boolean is = refl
cell_plain int is = refl
cell_plain long is = refl
cell_plain bytes is = refl
cell_plain string is = refl
cell_plain null is = absurd cc
cell_plain (fixed_of name size) is = absurd cc
cell_plain (enum_of name symbols) is = absurd cc
cell_plain (array_of inner) is = absurd cc
cell_plain (map_of inner) is = absurd cc
cell_plain (union_of types) is = absurd cc
cell_plain (record_of name members) is = absurd cc

null_plain : (type : AvroType) → is_null_type type ≡ true → plain (type_json type) ≡ true
null_plain null is = refl
null_plain boolean is = absurd cc
null_plain int is = absurd cc
null_plain long is = absurd cc
null_plain bytes is = absurd cc
null_plain string is = absurd cc
null_plain (fixed_of name size) is = absurd cc
null_plain (enum_of name symbols) is = absurd cc
null_plain (array_of inner) is = absurd cc
null_plain (map_of inner) is = absurd cc
null_plain (union_of types) is = absurd cc
null_plain (record_of name members) is = absurd cc

two_plain : (first second : AvroType) (b : Bool) → is_null_type first ≡ b → is_cell_type (unwrap_or (cond b (Some second) None) (union_of (branch first (branch second no_branches)))) ≡ true
    → items_plain (branches_json (branch first (branch second no_branches))) ≡ true
two_plain first second true e is = both (plain (type_json first)) (plain (type_json second) && true) (null_plain first e) (both (plain (type_json second)) true (cell_plain second is) refl)
two_plain first second false e is = absurd cc

union_plain : (types : Branches) → is_flat_type (union_of types) ≡ true → items_plain (branches_json types) ≡ true
union_plain no_branches is = absurd cc
union_plain (branch first no_branches) is = absurd cc
union_plain (branch first (branch second no_branches)) is = two_plain first second (is_null_type first) refl is
union_plain (branch first (branch second (branch third more))) is = absurd cc

flat_plain : (type : AvroType) → is_flat_type type ≡ true → plain (type_json type) ≡ true
flat_plain null is = absurd cc
flat_plain boolean is = refl
flat_plain int is = refl
flat_plain long is = refl
flat_plain bytes is = refl
flat_plain string is = refl
flat_plain (fixed_of name size) is = absurd cc
flat_plain (enum_of name symbols) is = absurd cc
flat_plain (array_of inner) is = absurd cc
flat_plain (map_of inner) is = absurd cc
flat_plain (union_of types) is = union_plain types is
flat_plain (record_of name members) is = absurd cc

abbrev is_other : List ℕ × AvroType → Bool
is_other f = not (is_flat_field f)

none_left : (n len : ℕ) (b : Bool) → nat_lt n len ≡ b → is_none (cond b (Some n) None) ≡ true → nat_lt n len ≡ false
none_left n len true e is = absurd cc
none_left n len false e is = e

not_not : (b : Bool) → not b ≡ false → b ≡ true
not_not true e = refl
not_not false e = absurd cc

fields_step : (f : List ℕ × AvroType) (fs : List (List ℕ × AvroType)) (b : Bool) → is_other f ≡ b → nat_lt (position_or_len is_other (f ∷ fs)) (length (f ∷ fs)) ≡ false
    → (is_flat_field f ≡ true) × (nat_lt (position_or_len is_other fs) (length fs) ≡ false)
fields_step f fs true e over = let h = passes_first is_other f fs e in absurd cc
fields_step f fs false e over = (not_not (is_flat_field f) e, fails_first is_other f fs e over)

fields_plain : (fs : Fields) → nat_lt (position_or_len is_other (listed fs)) (length (listed fs)) ≡ false → items_plain (fields_json fs) ≡ true
fields_plain no_fields over = refl
fields_plain (field name type more) over =
    let step = fields_step (name, type) (listed more) (is_other (name, type)) refl over in
    let flat = and_parts (is_flat_type type) _ step.0 in
    both (plain (field_json name (type_json type))) (items_plain (fields_json more)) (both (plain (type_json type)) true (flat_plain type flat.0) refl) (fields_plain more step.1)

pub lacks-schema : (schema : AvroType) → is_flat schema ≡ true → lacks 10 (type_text schema) ≡ true
unfolding type_text
lacks-schema null is = absurd cc
lacks-schema boolean is = absurd cc
lacks-schema int is = absurd cc
lacks-schema long is = absurd cc
lacks-schema bytes is = absurd cc
lacks-schema string is = absurd cc
lacks-schema (fixed_of name size) is = absurd cc
lacks-schema (enum_of name symbols) is = absurd cc
lacks-schema (array_of inner) is = absurd cc
lacks-schema (map_of inner) is = absurd cc
lacks-schema (union_of types) is = absurd cc
lacks-schema (record_of name members) is =
    let over = none_left (position_or_len is_other (listed members)) (length (listed members)) (nat_lt (position_or_len is_other (listed members)) (length (listed members))) refl is in
    lacks-text (type_json (record_of name members)) (both (items_plain (fields_json members)) true (fields_plain members over) refl)
