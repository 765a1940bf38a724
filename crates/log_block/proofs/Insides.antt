-- What stands behind a block's length: what is read is so written, and what is so written is read.
use Rattle.std.proofs.Common.{◌≡◌, ℕ, ◌+◌, ◌^◌, ◌<◌, Bool, true, false, cond, ◌&&◌, eqb, List, [], ◌++◌, length, Option, Some, None, Result, Ok, refl, sym, ap, subst, ◌∙◌, append_assoc, arith, ◌⊎◌, inl, inr}
use Rattle.std.proofs.lemmas.Bool.{and_parts, and_from, eqb-true, eq-eqb}
use Rattle.std.proofs.lemmas.List.{length-append, append-nil}
use Rattle.byteorder.specs.Endian.{big_bytes, big_number}
use Rattle.byteorder.specs.Numbers.{big_from-lt, big_number-reads_back, length-bytes_high_first}
use Rattle.log_block.specs.declared.block.Block.{Block}
use Rattle.log_block.specs.declared.block.Block.TheVariants.{Data, Delete, Rollback}
use Rattle.log_block.specs.declared.format.BlockType.{BlockType}
use Rattle.log_block.specs.declared.format.BlockType.TheVariants as types
use Rattle.byte_fields.specs.declared.field_error.FieldError.{FieldError}
use Rattle.byte_fields.specs.Reading.{Reading, ◌>>=◌, only_if, only_some}
use Rattle.byte_fields.specs.Numbers.{number_at, after_number}
use Rattle.byte_fields.specs.Prefixed.{with_length, length_then_bytes_at}
use Rattle.byte_fields.proofs.ReadingLemmas.{IsBytes, Takes, Takes-then, Takes-le, Reads, Reads-then, Reads-next, Reads-only_if, Reads-only_some, bind_is, only_if_is, only_some_is}
use Rattle.byte_fields.proofs.NumberLemmas.{big4, big8, TakesNumber, number_at_reads, number_at_again, after_number_reads, after_number_again}
use Rattle.byte_fields.proofs.PrefixedLemmas.{TakesPrefixed, length_then_bytes_at_reads, length_then_bytes_at_again, number_length, number_length_reads}
use Rattle.log_block.specs.Form.{header, fields, fields_of, type_number, type_with_number, type_of, content_of, SchemaFits, TimesFit}
use Rattle.log_block.specs.Reading.{data_header_at, delete_header_at, rollback_header_at, type_at, parts_at, ends_at, inside_at}
use Rattle.log_block.proofs.Headers.{TakesData, data_header_reads, data_header_again, TakesDelete, delete_header_reads, delete_header_again, TakesRollback, rollback_header_reads, rollback_header_again}

-- ---- the type

-- the first of two choices, or the second
chosen : {A : Type 0} (test : Bool) (x : A) (others : Option A) (y : A) → cond test (Some x) others ≡ Some y → ((test ≡ true) × (x ≡ y)) ⊎ (others ≡ Some y)
chosen true x others y e = inl (refl, cc)
chosen false x others y e = inr e

pub type_number-with_number : (number : ℕ) (found : BlockType) → type_with_number number ≡ Some found → type_number found ≡ number
type_number-with_number number found e =
    let from_third = cond (eqb number 3) (Some types.Data) None in
    let from_second = cond (eqb number 1) (Some types.Delete) from_third in
    elim (chosen (eqb number 0) types.Command from_second found e) [
      | inl p ↦ ap type_number (sym p.1) ∙ sym (eqb-true number 0 p.0)
      | inr others ↦ elim (chosen (eqb number 1) types.Delete from_third found others) [
        | inl p ↦ ap type_number (sym p.1) ∙ sym (eqb-true number 1 p.0)
        | inr last ↦ elim (chosen (eqb number 3) types.Data None found last) [
          | inl p ↦ ap type_number (sym p.1) ∙ sym (eqb-true number 3 p.0)
          | inr none ↦ absurd cc
        ]
      ]
    ]

pub type_with_number-number : (found : BlockType) → type_with_number (type_number found) ≡ Some found
type_with_number-number types.Command = refl
type_with_number-number types.Delete = refl
type_with_number-number types.Data = refl

pub type_reads : (bytes : List ℕ) → IsBytes bytes → Reads (length bytes) (λ x. Takes bytes (big_bytes 4 (type_number x.0)) x.1) (type_at bytes)
unfolding type_at
type_reads bytes fits =
    let Q : BlockType × List ℕ → Type 0 = λ x. Takes bytes (big_bytes 4 (type_number x.0)) x.1 in
    Reads-then (length bytes) (λ x. TakesNumber big_bytes 4 bytes x.0 x.1) Q (number_at big_number 4 bytes) (λ number. only_some (type_with_number number.0) bytes >>= λ found. Ok (found, number.1))
    (number_at_reads big_number big_bytes 4 bytes big4 fits)
    (λ number taken. Reads-then (length bytes) (λ found. type_with_number number.0 ≡ Some found) Q (only_some (type_with_number number.0) bytes) (λ found. Ok (found, number.1))
    (Reads-only_some (length bytes) (λ found. type_with_number number.0 ≡ Some found) (type_with_number number.0) bytes (omega arith) (λ found e. e))
    (λ found e. subst (λ (k : ℕ). Takes bytes (big_bytes 4 k) number.1) (sym (type_number-with_number number.0 found e)) taken.takes))

number_below : (found : BlockType) → type_number found < 2 ^ 32
number_below types.Command = omega arith
number_below types.Delete = omega arith
number_below types.Data = omega arith

pub type_again : (found : BlockType) (rest : List ℕ) → type_at (big_bytes 4 (type_number found) ++ rest) ≡ Ok (found, rest)
unfolding type_at
type_again found rest =
    let bytes = big_bytes 4 (type_number found) ++ rest in
    bind_is (number_at big_number 4 bytes) (type_number found, rest) (λ number. only_some (type_with_number number.0) bytes >>= λ t. Ok (t, number.1)) (number_at_again big_number big_bytes 4 (type_number found) rest big4 (number_below found))
    ∙ bind_is (only_some (type_with_number (type_number found)) bytes) found (λ t. Ok (t, rest)) (only_some_is (type_with_number (type_number found)) bytes found (type_with_number-number found))

-- ---- the content

-- the content behind its length
abbrev content_at : List ℕ → Reading (List ℕ)
content_at bytes = length_then_bytes_at (number_at big_number 8) bytes

-- what a content took
abbrev TakesContent : List ℕ → List ℕ → List ℕ → Type 0
TakesContent bytes content rest = TakesPrefixed (big_bytes 8) (λ len. len < 2 ^ 64) bytes content rest

content_reads : (bytes : List ℕ) → IsBytes bytes → Reads (length bytes) (λ x. TakesContent bytes x.0 x.1) (content_at bytes)
content_reads bytes fits =
    length_then_bytes_at_reads (number_at big_number 8) (big_bytes 8) (λ len. len < 2 ^ 64) bytes (number_length_reads big_number big_bytes 8 bytes big8 fits)

content_again : (content rest : List ℕ) → length content < 2 ^ 64 → content_at (with_length (big_bytes 8) content ++ rest) ≡ Ok (content, rest)
content_again content rest short =
    length_then_bytes_at_again (number_at big_number 8) (big_bytes 8) content rest (number_length big_number big_bytes 8 (length content) big8 short)

-- ---- the header and the content

pub record TakesParts (bytes : List ℕ) (found : BlockType) (block : Block) (rest : List ℕ) : Type 0 where
  pub takes : Takes bytes (header block ++ with_length (big_bytes 8) (content_of block)) rest
  pub kind : type_of block ≡ found
  pub schema : SchemaFits block
  pub times : TimesFit block

pub parts_read : (found : BlockType) (bytes : List ℕ) → IsBytes bytes → Reads (length bytes) (λ x. TakesParts bytes found x.0 x.1) (parts_at found bytes)
unfolding parts_at with_length
parts_read types.Data bytes fits =
    let Q : Block × List ℕ → Type 0 = λ x. TakesParts bytes types.Data x.0 x.1 in
    Reads-then (length bytes) (λ x. TakesData bytes x.0 x.1 x.2) Q (data_header_at bytes) (λ head. content_at head.2 >>= λ content. Ok (Data head.0 head.1 content.0, content.1))
    (data_header_reads bytes fits)
    (λ head taken.
    let front = header (Data head.0 head.1 []) in
    Reads-then (length bytes) (λ x. TakesContent head.2 x.0 x.1) Q (content_at head.2) (λ content. Ok (Data head.0 head.1 content.0, content.1))
    (Reads-next bytes front head.2 (λ x. TakesContent head.2 x.0 x.1) (λ x. TakesContent head.2 x.0 x.1) (content_at head.2) (taken.takes []) (content_reads head.2 (taken.takes []).rest_fits) (λ x found. found))
    (λ content found. record {
      takes = Takes-then bytes (header (Data head.0 head.1 content.0)) head.2 (with_length (big_bytes 8) content.0) content.1 (taken.takes content.0) found.takes;
      kind = refl;
      schema = (taken.is_text, taken.below);
      times = taken.is_time;
    }))
parts_read types.Delete bytes fits =
    let Q : Block × List ℕ → Type 0 = λ x. TakesParts bytes types.Delete x.0 x.1 in
    Reads-then (length bytes) (λ x. TakesDelete bytes x.0 x.1) Q (delete_header_at bytes) (λ head. content_at head.1 >>= λ content. Ok (Delete head.0 content.0, content.1))
    (delete_header_reads bytes fits)
    (λ head taken.
    let front = header (Delete head.0 []) in
    Reads-then (length bytes) (λ x. TakesContent head.1 x.0 x.1) Q (content_at head.1) (λ content. Ok (Delete head.0 content.0, content.1))
    (Reads-next bytes front head.1 (λ x. TakesContent head.1 x.0 x.1) (λ x. TakesContent head.1 x.0 x.1) (content_at head.1) (taken.takes []) (content_reads head.1 (taken.takes []).rest_fits) (λ x found. found))
    (λ content found. record {
      takes = Takes-then bytes (header (Delete head.0 content.0)) head.1 (with_length (big_bytes 8) content.0) content.1 (taken.takes content.0) found.takes;
      kind = refl;
      schema = tt;
      times = taken.is_time;
    }))
parts_read types.Command bytes fits =
    let Q : Block × List ℕ → Type 0 = λ x. TakesParts bytes types.Command x.0 x.1 in
    Reads-then (length bytes) (λ x. TakesRollback bytes x.0 x.1 x.2) Q (rollback_header_at bytes) (λ head. after_number big_number 8 0 head.2 >>= λ rest. Ok (Rollback head.0 head.1, rest))
    (rollback_header_reads bytes fits)
    (λ head taken.
    let front = header (Rollback head.0 head.1) in
    Reads-then (length bytes) (λ rest. Takes head.2 (big_bytes 8 0) rest) Q (after_number big_number 8 0 head.2) (λ rest. Ok (Rollback head.0 head.1, rest))
    (Reads-next bytes front head.2 (λ rest. Takes head.2 (big_bytes 8 0) rest) (λ rest. Takes head.2 (big_bytes 8 0) rest) (after_number big_number 8 0 head.2) taken.takes (after_number_reads big_number big_bytes 8 0 head.2 big8 taken.takes.rest_fits) (λ x found. found))
    (λ rest found. record {
      takes = Takes-then bytes front head.2 (big_bytes 8 0) rest taken.takes found;
      kind = refl;
      schema = tt;
      times = (taken.is_time, taken.is_target);
    }))

-- no content
empty_again : (rest : List ℕ) → after_number big_number 8 0 (with_length (big_bytes 8) [] ++ rest) ≡ Ok rest
unfolding with_length
empty_again rest = after_number_again big_number big_bytes 8 0 rest big8 (omega arith)

pub parts_again : (block : Block) (rest : List ℕ) → SchemaFits block → TimesFit block → length (content_of block) < 2 ^ 64 → parts_at (type_of block) (header block ++ (with_length (big_bytes 8) (content_of block) ++ rest)) ≡ Ok (block, rest)
unfolding parts_at
parts_again (Data instant schema content) rest fits times short =
    let after = with_length (big_bytes 8) content ++ rest in
    bind_is (data_header_at (header (Data instant schema content) ++ after)) (instant, schema, after) (λ head. content_at head.2 >>= λ c. Ok (Data head.0 head.1 c.0, c.1)) (data_header_again instant schema content after times fits.0 fits.1)
    ∙ bind_is (content_at after) (content, rest) (λ c. Ok (Data instant schema c.0, c.1)) (content_again content rest short)
parts_again (Delete instant content) rest fits times short =
    let after = with_length (big_bytes 8) content ++ rest in
    bind_is (delete_header_at (header (Delete instant content) ++ after)) (instant, after) (λ head. content_at head.1 >>= λ c. Ok (Delete head.0 c.0, c.1)) (delete_header_again instant content after times)
    ∙ bind_is (content_at after) (content, rest) (λ c. Ok (Delete instant c.0, c.1)) (content_again content rest short)
parts_again (Rollback instant target) rest fits times short =
    let after = with_length (big_bytes 8) [] ++ rest in
    bind_is (rollback_header_at (header (Rollback instant target) ++ after)) (instant, target, after) (λ head. after_number big_number 8 0 head.2 >>= λ r. Ok (Rollback head.0 head.1, r)) (rollback_header_again instant target after times.0 times.1)
    ∙ bind_is (after_number big_number 8 0 after) rest (λ r. Ok (Rollback instant target, r)) (empty_again rest)

-- ---- the end

pub record TakesEnd (size : ℕ) (bytes : List ℕ) : Type 0 where
  pub parts : bytes ≡ big_bytes 4 0 ++ big_bytes 8 size
  pub below : size < 2 ^ 64

pub ends_read : (size : ℕ) (bytes : List ℕ) → IsBytes bytes → Reads (length bytes) (λ _. TakesEnd size bytes) (ends_at size bytes)
unfolding ends_at
ends_read size bytes fits =
    let Q : Unit {0} → Type 0 = λ _. TakesEnd size bytes in
    Reads-then (length bytes) (λ rest. Takes bytes (big_bytes 4 0) rest) Q (after_number big_number 4 0 bytes) (λ rest. only_if (eqb (length rest) 8 && eqb (big_number 8 rest) size) rest tt)
    (after_number_reads big_number big_bytes 4 0 bytes big4 fits)
    (λ rest taken. Reads-only_if (length bytes) Q (eqb (length rest) 8 && eqb (big_number 8 rest) size) rest tt (Takes-le bytes (big_bytes 4 0) rest taken)
    (λ passes.
    let both = and_parts (eqb (length rest) 8) (eqb (big_number 8 rest) size) passes in
    let written : big_bytes 8 (big_number 8 rest) ≡ rest = big8.writes_back rest (eqb-true _ _ both.0) taken.rest_fits in
    let same : big_number 8 rest ≡ size = eqb-true _ _ both.1 in
    record {
      parts = taken.parts ∙ ap (λ (r : List ℕ). big_bytes 4 0 ++ r) (sym written) ∙ ap (λ (k : ℕ). big_bytes 4 0 ++ big_bytes 8 k) same;
      below = subst (λ (k : ℕ). k < 2 ^ 64) same (big_from-lt 0 8 rest taken.rest_fits);
    }))

pub ends_again : (size : ℕ) → size < 2 ^ 64 → ends_at size (big_bytes 4 0 ++ big_bytes 8 size) ≡ Ok tt
unfolding ends_at
ends_again size small =
    let last = big_bytes 8 size in
    let same : big_number 8 last ≡ size = ap (big_number 8) (sym (append-nil last)) ∙ big_number-reads_back 8 size [] small in
    bind_is (after_number big_number 4 0 (big_bytes 4 0 ++ last)) last (λ rest. only_if (eqb (length rest) 8 && eqb (big_number 8 rest) size) rest tt) (after_number_again big_number big_bytes 4 0 last big4 (omega arith))
    ∙ only_if_is (eqb (length last) 8 && eqb (big_number 8 last) size) last tt (and_from (eqb (length last) 8) (eqb (big_number 8 last) size) (eq-eqb _ _ (length-bytes_high_first 8 size)) (eq-eqb _ _ same))

-- ---- all of it

-- what the bytes behind a block's length were
pub record TakesInside (bytes : List ℕ) (block : Block) : Type 0 where
  pub parts : bytes ≡ fields_of block ++ big_bytes 8 (length bytes + 6)
  pub below : length bytes + 6 < 2 ^ 64
  pub schema : SchemaFits block
  pub times : TimesFit block

pub inside_reads : (bytes : List ℕ) → IsBytes bytes → Reads (length bytes) (λ block. TakesInside bytes block) (inside_at bytes)
unfolding inside_at fields
inside_reads bytes fits =
    let Q : Block → Type 0 = λ block. TakesInside bytes block in
    let size = length bytes + 6 in
    let last : Block × List ℕ → Result Block FieldError = λ parts. ends_at size parts.1 >>= λ ended. Ok parts.0 in
    let second : BlockType × List ℕ → Result Block FieldError = λ found. parts_at found.0 found.1 >>= last in
    let first : List ℕ → Result Block FieldError = λ rest. type_at rest >>= second in
    let version = big_bytes 4 1 in
    Reads-then (length bytes) (λ rest. Takes bytes version rest) Q (after_number big_number 4 1 bytes) first (after_number_reads big_number big_bytes 4 1 bytes big4 fits)
    (λ rest opened. Reads-then (length bytes) (λ x. Takes bytes (version ++ big_bytes 4 (type_number x.0)) x.1) Q (type_at rest) second
    (Reads-next bytes version rest (λ x. Takes rest (big_bytes 4 (type_number x.0)) x.1) (λ x. Takes bytes (version ++ big_bytes 4 (type_number x.0)) x.1) (type_at rest) opened (type_reads rest opened.rest_fits)
    (λ x typed. Takes-then bytes version rest (big_bytes 4 (type_number x.0)) x.1 opened typed))
    (λ found typed.
    let front = version ++ big_bytes 4 (type_number found.0) in
    Reads-then (length bytes) (λ x. TakesParts found.1 found.0 x.0 x.1) Q (parts_at found.0 found.1) last
    (Reads-next bytes front found.1 (λ x. TakesParts found.1 found.0 x.0 x.1) (λ x. TakesParts found.1 found.0 x.0 x.1) (parts_at found.0 found.1) typed (parts_read found.0 found.1 typed.rest_fits) (λ x taken. taken))
    (λ parts taken.
    let block = parts.0 in
    let whole : Takes bytes (front ++ (header block ++ with_length (big_bytes 8) (content_of block))) parts.1 = Takes-then bytes front found.1 (header block ++ with_length (big_bytes 8) (content_of block)) parts.1 typed taken.takes in
    let number : type_number found.0 ≡ type_number (type_of block) = ap type_number (sym taken.kind) in
    Reads-then (length bytes) (λ _. TakesEnd size parts.1) Q (ends_at size parts.1) (λ ended. Ok block)
    (Reads-next bytes (front ++ (header block ++ with_length (big_bytes 8) (content_of block))) parts.1 (λ _. TakesEnd size parts.1) (λ _. TakesEnd size parts.1) (ends_at size parts.1) whole (ends_read size parts.1 whole.rest_fits) (λ x e. e))
    (λ ended e. record {
      parts = put_together bytes version (type_number found.0) (type_number (type_of block)) (header block) (with_length (big_bytes 8) (content_of block)) parts.1 (big_bytes 4 0) (big_bytes 8 size) number whole.parts e.parts;
      below = e.below;
      schema = taken.schema;
      times = taken.times;
    }))))
  where
    put_together : (bytes version : List ℕ) (n m : ℕ) (head content rest footer last : List ℕ) → n ≡ m → bytes ≡ (version ++ big_bytes 4 n) ++ (head ++ content) ++ rest → rest ≡ footer ++ last
        → bytes ≡ ((((version ++ big_bytes 4 m) ++ head) ++ content) ++ footer) ++ last
    put_together bytes version n m head content rest footer last same e f =
        e ∙ ap (λ (k : ℕ). (version ++ big_bytes 4 k) ++ (head ++ content) ++ rest) same ∙ ap (λ (r : List ℕ). (version ++ big_bytes 4 m) ++ (head ++ content) ++ r) f ∙ simp append_assoc

pub inside_again : (block : Block) (size : ℕ) → SchemaFits block → TimesFit block → length (content_of block) < 2 ^ 64 → size < 2 ^ 64
    → size ≡ length (fields_of block) + 14
    → inside_at (fields_of block ++ big_bytes 8 size) ≡ Ok block
unfolding inside_at fields
inside_again block size schema times short small len =
    let inside = fields_of block in
    let bytes = inside ++ big_bytes 8 size in
    let last : Block × List ℕ → Result Block FieldError = λ parts. ends_at (length bytes + 6) parts.1 >>= λ ended. Ok parts.0 in
    let second : BlockType × List ℕ → Result Block FieldError = λ found. parts_at found.0 found.1 >>= last in
    let first : List ℕ → Result Block FieldError = λ rest. type_at rest >>= second in
    let ending = big_bytes 4 0 ++ big_bytes 8 size in
    let after = header block ++ (with_length (big_bytes 8) (content_of block) ++ ending) in
    let typed = big_bytes 4 (type_number (type_of block)) ++ after in
    let regrouped : bytes ≡ big_bytes 4 1 ++ typed = regroup (big_bytes 4 1) (type_number (type_of block)) (type_number (type_of block)) (header block) (with_length (big_bytes 8) (content_of block)) (big_bytes 4 0) (big_bytes 8 size) refl in
    let at : length bytes + 6 ≡ size = omega (arith, length-append inside (big_bytes 8 size), length-bytes_high_first 8 size) in
    bind_is (after_number big_number 4 1 bytes) typed first (ap (after_number big_number 4 1) regrouped ∙ after_number_again big_number big_bytes 4 1 typed big4 (omega arith))
    ∙ bind_is (type_at typed) (type_of block, after) second (type_again (type_of block) after)
    ∙ bind_is (parts_at (type_of block) after) (block, ending) last (parts_again block ending schema times short)
    ∙ bind_is (ends_at (length bytes + 6) ending) tt (λ ended. Ok block) (ap (λ (k : ℕ). ends_at k ending) at ∙ ends_again size small)
  where
    regroup : (version : List ℕ) (n m : ℕ) (head content footer last : List ℕ) → n ≡ m
        → ((((version ++ big_bytes 4 m) ++ head) ++ content) ++ footer) ++ last ≡ version ++ (big_bytes 4 n ++ (head ++ (content ++ (footer ++ last))))
    regroup version n m head content footer last same =
        ap (λ (k : ℕ). ((((version ++ big_bytes 4 k) ++ head) ++ content) ++ footer) ++ last) (sym same) ∙ simp append_assoc
