-- Reading items, blocks and fields one after another, as a loop does. `total` is what reading gives from the loop's
-- beginning on.
use Rattle.std.proofs.Common.{◌≡◌, ◌≢◌, if◌then◌else◌, ◌==◌, ℕ, suc, ◌-◌, ◌+◌, ◌≤◌, ◌<◌, List, [], ◌∷◌, ◌++◌, length, get_or, drop, map, Result, Ok, Err, refl, sym, ap, ◌∙◌, arith}
use Rattle.std.proofs.lemmas.Bool.{eq-eqb, ne_eqb}
use Rattle.byte_fields.specs.declared.field_error.FieldError.{FieldError}
use Rattle.byte_fields.specs.declared.field_error.FieldError.TheVariants.{Bad}
use Rattle.byte_fields.specs.Reading.{Reading, ◌>>=◌}
use Rattle.hudi_base.specs.declared.value.Value.{Value}
use Rattle.avro_schema.specs.declared.schema.Field.{Field as SchemaField}
use Rattle.avro_schema.specs.AvroTypes.{Fields, field_of, fields_of}
use Rattle.avro_schema.specs.Reading.{Limited, BlockHead, value_at, fields_from, items_from, block_head_at, block_from, blocks_from}
use Rattle.avro_value.specs.declared.errors.ReadError.{ReadError}
use Rattle.avro_value.specs.declared.errors.ReadError.TheVariants.{Memory, Field}
use Rattle.avro_value.specs.Readers.{Fails}
use Rattle.avro_value.proofs.Branches.{fields_drop, fields_over}

-- ---- errors

pub Fails_then : {A B : Type 0} (e : ReadError) (r : Result (A × List ℕ) FieldError) (f : A × List ℕ → Result (B × List ℕ) FieldError) → Fails e r → Fails e (r >>= f)
Fails_then Memory r f fails = tt
Fails_then (Field error) r f fails = ap (λ s. s >>= f) fails

pub Fails_is : {A : Type 0} (e : ReadError) (r total : Reading A) → r ≡ total → Fails e r → Fails e total
Fails_is Memory r total same fails = tt
Fails_is (Field error) r total same fails = sym same ∙ fails

-- ---- items

module _ {A : Type 0} (read : Limited A) (count i : ℕ) (found : List A) (left : ℕ) (bs : List ℕ) (total : Reading (List A × ℕ)) where
  one_more : i < count → items_from read (count - i) found left bs ≡ (read left bs >>= λ next. items_from read (count - (i + 1)) (found ++ next.0.0 ∷ []) next.0.1 next.1)
  unfolding items_from
  one_more below = let k : count - i ≡ suc (count - (i + 1)) = omega arith in rw k refl

  pub items_go_on : (x : A) (m : ℕ) (after : List ℕ) → i < count → read left bs ≡ Ok ((x, m), after) → items_from read (count - i) found left bs ≡ total
      → items_from read (count - (i + 1)) (found ++ x ∷ []) m after ≡ total
  items_go_on x m after below told so_far =
      sym (one_more below ∙ ap (λ (r : Reading (A × ℕ)). r >>= λ next. items_from read (count - (i + 1)) (found ++ next.0.0 ∷ []) next.0.1 next.1) told) ∙ so_far

  pub items_fail : (e : ReadError) → i < count → Fails e (read left bs) → items_from read (count - i) found left bs ≡ total → Fails e total
  items_fail e below fails so_far =
      Fails_is e _ total (sym (one_more below) ∙ so_far) (Fails_then e (read left bs) _ fails)

  pub items_done : count ≤ i → items_from read (count - i) found left bs ≡ total → total ≡ Ok ((found, left), bs)
  unfolding items_from
  items_done over so_far = let k : count - i ≡ 0 = omega arith in sym so_far ∙ rw k refl

-- ---- blocks

module _ {A : Type 0} (read : Limited A) (most i : ℕ) (found : List A) (left : ℕ) (bs : List ℕ) (total : Reading (List A × ℕ)) where
  abbrev behind_head : BlockHead × List ℕ → Reading (List A × ℕ)
  behind_head head = if head.0.0 == 0 then Ok ((found, left), head.1) else (block_from read head.0 found left head.1 >>= λ block. blocks_from read (most - (i + 1)) block.0.0 block.0.1 block.1)

  one_block : i < most → blocks_from read (most - i) found left bs ≡ (block_head_at left bs >>= behind_head)
  unfolding blocks_from
  one_block below = let k : most - i ≡ suc (most - (i + 1)) = omega arith in rw k refl

  head_read : (head : BlockHead) (after : List ℕ) → i < most → block_head_at left bs ≡ Ok (head, after) → blocks_from read (most - i) found left bs ≡ total → behind_head (head, after) ≡ total
  head_read head after below told so_far = sym (one_block below ∙ ap (λ (r : Reading BlockHead). r >>= behind_head) told) ∙ so_far

  pub blocks_done : (head : BlockHead) (after : List ℕ) → i < most → block_head_at left bs ≡ Ok (head, after) → head.0 ≡ 0 → blocks_from read (most - i) found left bs ≡ total → total ≡ Ok ((found, left), after)
  blocks_done head after below told none so_far =
      sym (head_read head after below told so_far) ∙ rw (eq-eqb head.0 0 none) refl

  block_read : (head : BlockHead) (after : List ℕ) → i < most → block_head_at left bs ≡ Ok (head, after) → head.0 ≢ 0 → blocks_from read (most - i) found left bs ≡ total
      → (block_from read head found left after >>= λ block. blocks_from read (most - (i + 1)) block.0.0 block.0.1 block.1) ≡ total
  block_read head after below told some so_far = rw (ne_eqb head.0 0 some) at (head_read head after below told so_far)

  pub blocks_go_on : (head : BlockHead) (after : List ℕ) (xs : List A) (m : ℕ) (rest : List ℕ) → i < most → block_head_at left bs ≡ Ok (head, after) → head.0 ≢ 0
      → block_from read head found left after ≡ Ok ((xs, m), rest) → blocks_from read (most - i) found left bs ≡ total → blocks_from read (most - (i + 1)) xs m rest ≡ total
  blocks_go_on head after xs m rest below told some block so_far =
      sym (ap (λ (r : Reading (List A × ℕ)). r >>= λ b. blocks_from read (most - (i + 1)) b.0.0 b.0.1 b.1) block) ∙ block_read head after below told some so_far

  pub blocks_fail : (head : BlockHead) (after : List ℕ) (e : ReadError) → i < most → block_head_at left bs ≡ Ok (head, after) → head.0 ≢ 0
      → Fails e (block_from read head found left after) → blocks_from read (most - i) found left bs ≡ total → Fails e total
  blocks_fail head after e below told some fails so_far =
      Fails_is e _ total (block_read head after below told some so_far) (Fails_then e (block_from read head found left after) _ fails)

  pub heads_fail : (error : FieldError) → i < most → block_head_at left bs ≡ Err error → blocks_from read (most - i) found left bs ≡ total → total ≡ Err error
  heads_fail error below told so_far =
      sym so_far ∙ one_block below ∙ ap (λ (r : Reading BlockHead). r >>= behind_head) told

  pub blocks_over : most ≤ i → blocks_from read (most - i) found left bs ≡ total → total ≡ Err (Bad (length bs))
  unfolding blocks_from
  blocks_over over so_far = let k : most - i ≡ 0 = omega arith in sym so_far ∙ rw k refl

-- ---- fields

module _ (fields : List SchemaField) (i : ℕ) (found : List Value) (left : ℕ) (bs : List ℕ) (total : Reading (List Value × ℕ)) where
  abbrev Left : Type 0
  Left = fields_from (fields_of (map field_of (drop i fields))) found left bs ≡ total

  next_field : (f : SchemaField) → i < length fields → f ≡ get_or fields i f → Left
      → (value_at (field_of f).1 left bs >>= λ next. fields_from (fields_of (map field_of (drop (i + 1) fields))) (found ++ next.0.0 ∷ []) next.0.1 next.1) ≡ total
  next_field f below is so_far = sym (ap (λ (fs : Fields). fields_from fs found left bs) (fields_drop fields i f below is)) ∙ so_far

  pub fields_go_on : (f : SchemaField) (v : Value) (m : ℕ) (after : List ℕ) → i < length fields → f ≡ get_or fields i f → value_at (field_of f).1 left bs ≡ Ok ((v, m), after) → Left
      → fields_from (fields_of (map field_of (drop (i + 1) fields))) (found ++ v ∷ []) m after ≡ total
  fields_go_on f v m after below is told so_far =
      sym (ap (λ (r : Reading (Value × ℕ)). r >>= λ next. fields_from (fields_of (map field_of (drop (i + 1) fields))) (found ++ next.0.0 ∷ []) next.0.1 next.1) told) ∙ next_field f below is so_far

  pub fields_fail : (f : SchemaField) (e : ReadError) → i < length fields → f ≡ get_or fields i f → Fails e (value_at (field_of f).1 left bs) → Left → Fails e total
  fields_fail f e below is fails so_far = Fails_is e _ total (next_field f below is so_far) (Fails_then e (value_at (field_of f).1 left bs) _ fails)

  pub fields_done : length fields ≤ i → Left → total ≡ Ok ((found, left), bs)
  fields_done over so_far = sym so_far ∙ ap (λ (fs : Fields). fields_from fs found left bs) (fields_over fields i over)
