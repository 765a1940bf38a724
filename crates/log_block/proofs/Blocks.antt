-- What stands at the beginning of bytes, and what follows from that.
use Rattle.std.proofs.Common.{◌≡◌, ℕ, ◌+◌, ◌-◌, ◌^◌, ◌<◌, ◌≤◌, min, true, false, not, cond, ltb, List, [], ◌++◌, length, take, drop, Result, Ok, Err, refl, sym, ap, subst, ◌∙◌, append_assoc, arith, ◌⊎◌, inl, inr}
use Rattle.std.specs.Str.{bytes_eq}
use Rattle.std.proofs.Math.Seq.{take-add}
use Rattle.std.proofs.lemmas.Bool.{le-ltb, lt-ltb, cases_Bool, cases_lt, cond-true, cond-false, false_from_ne_true, false≢true}
use Rattle.std.proofs.lemmas.List.{length-append, length-take, length-drop, take_at, take-take, take-append-le, take-append-drop, drop-append-le, drop-take, take_all, append-nil, append_cancel_left}
use Rattle.std.proofs.lemmas.Slice.Eq.{bytes_eq-Decides}
use Rattle.byteorder.specs.Endian.{big_bytes, big_number}
use Rattle.byteorder.specs.Numbers.{big_from-append, big_from-take, big_number-reads_back, length-bytes_high_first}
use Rattle.log_block.specs.declared.block.Block.{Block}
use Rattle.log_block.specs.declared.block.BlockRead.{BlockRead}
use Rattle.log_block.specs.declared.block.BlockRead.TheVariants.{Whole, Torn, Bad, Memory}
use Rattle.log_block.specs.Form.{magic, header, fields_of, frame, type_of, content_of, block_bytes, Fits}
use Rattle.byte_fields.specs.declared.field_error.FieldError.{FieldError}
use Rattle.byte_fields.specs.Reading.{left_of}
use Rattle.log_block.specs.Answers.{IsTorn, IsWritten, IfWhole, IfBad, Answers, IsBadOffset}
use Rattle.log_block.specs.Parts.{IsInside}
use Rattle.log_block.specs.Reading.{inside_at, begins, length_of, outcome, block_at}
use Rattle.byte_fields.proofs.ReadingLemmas.{IsBytes, IsBytes-take, IsBytes-drop, Reads}
use Rattle.byte_fields.proofs.NumberLemmas.{big8}
use Rattle.log_block.proofs.Lengths.{length-fields, length-frame}
use Rattle.log_block.proofs.Insides.{TakesInside, inside_reads, inside_again}

-- ---- the cases of what stands there

pub block_at-no_magic : (bytes : List ℕ) → begins bytes ≡ false → block_at bytes ≡ Bad 0
unfolding block_at
block_at-no_magic bytes e = cond-true (not (begins bytes)) (Bad 0) _ (ap not e)

-- the bytes behind the length, up to the block's end
abbrev pub inside_of : List ℕ → List ℕ
inside_of bytes = take (length_of bytes) (drop 14 bytes)

-- what stands there where the magic does
block_at-magic : (bytes : List ℕ) → begins bytes ≡ true
    → block_at bytes ≡ cond (ltb (length bytes) 14) Torn (cond (ltb (length bytes - 14) (length_of bytes)) Torn (outcome (14 + length_of bytes) (inside_at (inside_of bytes))))
unfolding block_at
block_at-magic bytes e = cond-false (not (begins bytes)) (Bad 0) _ (ap not e)

block_at-short : (bytes : List ℕ) → begins bytes ≡ true → length bytes < 14 → block_at bytes ≡ Torn
block_at-short bytes e short = block_at-magic bytes e ∙ cond-true (ltb (length bytes) 14) Torn _ (lt-ltb _ _ short)

block_at-long : (bytes : List ℕ) → begins bytes ≡ true → 14 ≤ length bytes
    → block_at bytes ≡ cond (ltb (length bytes - 14) (length_of bytes)) Torn (outcome (14 + length_of bytes) (inside_at (inside_of bytes)))
block_at-long bytes e long = block_at-magic bytes e ∙ cond-false (ltb (length bytes) 14) Torn _ (le-ltb _ _ long)

block_at-cut : (bytes : List ℕ) → begins bytes ≡ true → 14 ≤ length bytes → length bytes < 14 + length_of bytes → block_at bytes ≡ Torn
block_at-cut bytes e long cut =
    block_at-long bytes e long ∙ cond-true (ltb (length bytes - 14) (length_of bytes)) Torn _ (lt-ltb _ _ (omega arith))

-- the magic stands there, and the length doesn't pass the end
pub record HasBlock (bytes : List ℕ) : Type 0 where
  pub magic : begins bytes ≡ true
  pub within : 14 + length_of bytes ≤ length bytes

pub block_at-whole : (bytes : List ℕ) → HasBlock bytes → block_at bytes ≡ outcome (14 + length_of bytes) (inside_at (inside_of bytes))
block_at-whole bytes here =
    block_at-long bytes here.magic (omega (arith, here.within)) ∙ cond-false (ltb (length bytes - 14) (length_of bytes)) Torn _ (le-ltb _ _ (omega (arith, here.within)))

pub block_at-torn : (bytes : List ℕ) → IsTorn bytes → block_at bytes ≡ Torn
block_at-torn bytes torn =
    elim (cases_lt (length bytes) 14) [
      | inl short ↦ block_at-short bytes torn.0 short
      | inr long ↦ elim torn.1 [
        | inl short ↦ absurd (omega arith)
        | inr cut ↦ block_at-cut bytes torn.0 long cut
      ]
    ]

-- what is read from the bytes behind the length
pub block_at-inside : (bytes inside : List ℕ) (r : Result Block FieldError) → begins bytes ≡ true → IsInside bytes inside → inside_at inside ≡ r → block_at bytes ≡ outcome (14 + length inside) r
block_at-inside bytes inside r agrees is e =
    let here : HasBlock bytes = record { magic = agrees; within = is.within } in
    let len : length_of bytes ≡ length inside = omega (arith, ap length is.bytes_are, length-take (length_of bytes) (drop 14 bytes), length-drop 14 bytes, is.within) in
    block_at-whole bytes here
    ∙ ap (λ (t : List ℕ). outcome (14 + length_of bytes) (inside_at t)) (sym is.bytes_are)
    ∙ ap (outcome (14 + length_of bytes)) e
    ∙ ap (λ (k : ℕ). outcome (14 + k) r) len

-- one of three holds
pub prefix_cases : (bytes : List ℕ) → (begins bytes ≡ false) ⊎ (IsTorn bytes ⊎ HasBlock bytes)
prefix_cases bytes =
    elim (cases_Bool (begins bytes)) [
      | inr differs ↦ inl differs
      | inl agrees ↦ elim (cases_lt (length bytes) 14) [
        | inl short ↦ inr (inl (agrees, inl short))
        | inr long ↦ elim (cases_lt (length bytes) (14 + length_of bytes)) [
          | inl cut ↦ inr (inl (agrees, inr cut))
          | inr within ↦ inr (inr (record { magic = agrees; within = within }))
        ]
      ]
    ]

-- ---- the magic

-- of the first six bytes those that are there are the magic's
pub begins-true : (bytes : List ℕ) → begins bytes ≡ true → 6 ≤ length bytes → take 6 bytes ≡ magic
begins-true bytes e long =
    let same : take 6 bytes ≡ take (length (take 6 bytes)) magic = (bytes_eq-Decides (take 6 bytes) (take (length (take 6 bytes)) magic)).0 e in
    let len : length (take 6 bytes) ≡ 6 = omega (arith, length-take 6 bytes) in
    same ∙ ap (λ (k : ℕ). take k magic) len

take_take-min : (a b : ℕ) (xs : List ℕ) → take a (take b xs) ≡ take (min a b) xs
take_take-min a b xs =
    elim (cases_lt b a) [
      | inl more ↦
          let short : length (take b xs) ≤ a = omega (arith, length-take b xs) in
          let least : min a b ≡ b = omega arith in
          take_all a (take b xs) short ∙ ap (λ (k : ℕ). take k xs) (sym least)
      | inr less ↦
          let least : min a b ≡ a = omega arith in
          take-take a b xs less ∙ ap (λ (k : ℕ). take k xs) (sym least)
    ]

-- so each prefix of what begins with the magic begins so
pub begins-take : (k : ℕ) (more : List ℕ) → begins (take k (magic ++ more)) ≡ true
begins-take k more =
    let bytes : List ℕ = take k (magic ++ more) in
    let j : ℕ = min 6 k in
    let few : j ≤ 6 = omega arith in
    let first : take 6 bytes ≡ take j magic = take_take-min 6 k (magic ++ more) ∙ take-append-le j magic more few in
    let len : length (take j magic) ≡ j = omega (arith, length-take j magic) in
    let other : take (length (take 6 bytes)) magic ≡ take j magic = ap (λ (n : ℕ). take n magic) (ap length first ∙ len) in
    (bytes_eq-Decides (take 6 bytes) (take (length (take 6 bytes)) magic)).1 (first ∙ sym other)

-- ---- a whole block is read of its form alone

-- the bytes up to the block's end are put together of their parts
parts_of : (bytes : List ℕ) → IsBytes bytes → HasBlock bytes → take (14 + length_of bytes) bytes ≡ magic ++ big_bytes 8 (length_of bytes) ++ inside_of bytes
parts_of bytes fits here =
    let n = length_of bytes in
    let six : take 6 bytes ≡ magic = begins-true bytes here.magic (omega (arith, here.within)) in
    let rest = drop 6 bytes in
    let eight : big_bytes 8 n ≡ take 8 rest = ap (big_bytes 8) (sym (big_from-take 0 8 8 rest (omega arith))) ∙ big8.writes_back (take 8 rest) (omega (arith, length-take 8 rest, length-drop 6 bytes, here.within)) (IsBytes-take 8 rest (IsBytes-drop 6 bytes fits)) in
    let cut : take 14 bytes ≡ take 6 bytes ++ take 8 rest = take-add 6 8 bytes in
    take-add 14 n bytes ∙ ap (λ (t : List ℕ). t ++ inside_of bytes) (cut ∙ ap (λ (t : List ℕ). t ++ take 8 rest) six ∙ ap (λ (t : List ℕ). magic ++ t) (sym eight))

inside_is_read : (bytes : List ℕ) (block : Block) → IsBytes bytes → HasBlock bytes → TakesInside (inside_of bytes) block → IsWritten bytes block (14 + length_of bytes)
unfolding frame
inside_is_read bytes block fits here taken =
    let n = length_of bytes in
    let inner = fields_of block in
    let len : length (inside_of bytes) ≡ n = omega (arith, length-take n (drop 14 bytes), length-drop 14 bytes, here.within) in
    let inner_len : length inner + 8 ≡ n = omega (arith, len, length-append inner (big_bytes 8 (length (inside_of bytes) + 6)), length-bytes_high_first 8 (length (inside_of bytes) + 6), ap length taken.parts) in
    let size : length (inside_of bytes) + 6 ≡ length inner + 14 = omega arith in
    let whole : take (14 + n) bytes ≡ magic ++ big_bytes 8 (length inner + 8) ++ (inner ++ big_bytes 8 (length inner + 14)) =
    parts_of bytes fits here
    ∙ ap (λ (t : List ℕ). magic ++ big_bytes 8 n ++ t) (taken.parts ∙ ap (λ (k : ℕ). inner ++ big_bytes 8 k) size)
    ∙ ap (λ (k : ℕ). magic ++ big_bytes 8 k ++ (inner ++ big_bytes 8 (length inner + 14))) (sym inner_len) in
    record {
      within = here.within;
      form = whole ∙ sym (append_assoc (magic ++ big_bytes 8 (length inner + 8)) inner (big_bytes 8 (length inner + 14)));
      fits = record { schema = taken.schema; times = taken.times; size = omega (arith, taken.below) };
    }

outcome_whole : (end limit : ℕ) (P : Block → Type 0) (r : Result Block FieldError) (block : Block) (len : ℕ) → Reads limit P r → outcome end r ≡ Whole block len → P block × (end ≡ len)
outcome_whole end limit P (Ok found) block len reads e =
    let same : found ≡ block = cc in
    (subst P same reads, cc)
outcome_whole end limit P (Err left) block len reads e = absurd cc

pub whole_is_written : (bytes : List ℕ) (block : Block) (len : ℕ) → IsBytes bytes → block_at bytes ≡ Whole block len → IsWritten bytes block len
whole_is_written bytes block len fits e =
    elim (prefix_cases bytes) [
      | inl differs ↦ let no : block_at bytes ≡ Bad 0 = block_at-no_magic bytes differs in absurd cc
      | inr others ↦ elim others [
        | inl torn ↦ let no : block_at bytes ≡ Torn = block_at-torn bytes torn in absurd cc
        | inr here ↦
            let n = length_of bytes in
            let reads = inside_reads (inside_of bytes) (IsBytes-take n (drop 14 bytes) (IsBytes-drop 14 bytes fits)) in
            let told = outcome_whole (14 + n) (length (inside_of bytes)) (λ b. TakesInside (inside_of bytes) b) (inside_at (inside_of bytes)) block len reads (sym (block_at-whole bytes here) ∙ e) in
            subst (λ (k : ℕ). IsWritten bytes block k) told.1 (inside_is_read bytes block fits here told.0)
      ]
    ]

-- ---- torn and bad

pub torn_only : (bytes : List ℕ) → block_at bytes ≡ Torn → IsTorn bytes
torn_only bytes e =
    elim (prefix_cases bytes) [
      | inl differs ↦ let no : block_at bytes ≡ Bad 0 = block_at-no_magic bytes differs in absurd cc
      | inr others ↦ elim others [
        | inl torn ↦ torn
        | inr here ↦ absurd (outcome_torn (14 + length_of bytes) (inside_at (inside_of bytes)) (sym (block_at-whole bytes here) ∙ e))
      ]
    ]
  where
    outcome_torn : (end : ℕ) (r : Result Block FieldError) → outcome end r ≡ Torn → ⊥
    outcome_torn end (Ok block) e = cc
    outcome_torn end (Err error) e = cc

outcome_bad : (end limit : ℕ) (P : Block → Type 0) (r : Result Block FieldError) (offset : ℕ) → limit ≤ end → Reads limit P r → outcome end r ≡ Bad offset → (offset ≤ end) × (end ≤ offset + limit)
outcome_bad end limit P (Ok found) offset le reads e = absurd cc
outcome_bad end limit P (Err error) offset le reads e = let same : end - left_of error ≡ offset = cc in (omega arith, omega arith)

pub bad_offset_is : (bytes : List ℕ) (offset : ℕ) → IsBytes bytes → block_at bytes ≡ Bad offset → IsBadOffset bytes offset
bad_offset_is bytes offset fits e =
    elim (prefix_cases bytes) [
      | inl differs ↦ let no : block_at bytes ≡ Bad 0 = block_at-no_magic bytes differs in let same : offset ≡ 0 = cc in inl (same, differs)
      | inr others ↦ elim others [
        | inl torn ↦ let no : block_at bytes ≡ Torn = block_at-torn bytes torn in absurd cc
        | inr here ↦
            let n = length_of bytes in
            let len : length (inside_of bytes) ≡ n = omega (arith, length-take n (drop 14 bytes), length-drop 14 bytes, here.within) in
            let reads = inside_reads (inside_of bytes) (IsBytes-take n (drop 14 bytes) (IsBytes-drop 14 bytes fits)) in
            let told = outcome_bad (14 + n) (length (inside_of bytes)) (λ b. TakesInside (inside_of bytes) b) (inside_at (inside_of bytes)) offset (omega arith) reads (sym (block_at-whole bytes here) ∙ e) in
            inr (omega (arith, told.1, len), told.0, here.within)
      ]
    ]

-- what stands there never wants memory
pub block_at-no_memory : (bytes : List ℕ) → block_at bytes ≡ Memory → ⊥
block_at-no_memory bytes e =
    elim (prefix_cases bytes) [
      | inl differs ↦ let no : block_at bytes ≡ Bad 0 = block_at-no_magic bytes differs in cc
      | inr others ↦ elim others [
        | inl torn ↦ let no : block_at bytes ≡ Torn = block_at-torn bytes torn in cc
        | inr here ↦ outcome_memory (14 + length_of bytes) (inside_at (inside_of bytes)) (sym (block_at-whole bytes here) ∙ e)
      ]
    ]
  where
    outcome_memory : (end : ℕ) (r : Result Block FieldError) → outcome end r ≡ Memory → ⊥
    outcome_memory end (Ok block) e = cc
    outcome_memory end (Err error) e = cc

-- ---- what is written is read

-- bytes that begin with the magic and a length
pub record Opens (bytes : List ℕ) (len : ℕ) (rest : List ℕ) : Type 0 where
  pub magic : begins bytes ≡ true
  pub length_is : length_of bytes ≡ len
  pub long : length bytes ≡ 14 + length rest
  pub rest_is : drop 14 bytes ≡ rest

pub opens : (len : ℕ) (rest : List ℕ) → len < 2 ^ 64 → Opens (magic ++ (big_bytes 8 len ++ rest)) len rest
opens len rest small = record {
  magic = refl;
  length_is = big_number-reads_back 8 len rest small;
  long = omega arith;
  rest_is = refl;
}

-- the form of a block, and what follows it, from the left
regrouped : (inside more : List ℕ) → frame inside ++ more ≡ magic ++ (big_bytes 8 (length inside + 8) ++ ((inside ++ big_bytes 8 (length inside + 14)) ++ more))
unfolding frame
regrouped inside more = simp append_assoc

pub block_at_again : (block : Block) (more : List ℕ) → Fits block → block_at (block_bytes block ++ more) ≡ Whole block (length (block_bytes block))
block_at_again block more fits =
    let inside = fields_of block in
    let n = length inside + 8 in
    let size = length inside + 14 in
    let last = big_bytes 8 size in
    let bytes : List ℕ = magic ++ (big_bytes 8 n ++ ((inside ++ last) ++ more)) in
    let small : size < 2 ^ 64 = fits.size in
    let short : length (content_of block) < 2 ^ 64 = omega (arith, length-fields (type_of block) (header block) (content_of block)) in
    let o = opens n ((inside ++ last) ++ more) (omega arith) in
    let len : length (inside ++ last) ≡ n = omega (arith, length-append inside last, length-bytes_high_first 8 size) in
    let here : HasBlock bytes = record { magic = o.magic; within = omega (arith, o.length_is, o.long, length-append (inside ++ last) more) } in
    let inner : inside_of bytes ≡ inside ++ last = ap (λ (k : ℕ). take k (drop 14 bytes)) o.length_is ∙ ap (take n) o.rest_is ∙ take_at (inside ++ last) more n len in
    let read : inside_at (inside_of bytes) ≡ Ok block = ap inside_at inner ∙ inside_again block size fits.schema fits.times short small refl in
    let end : 14 + length_of bytes ≡ length (block_bytes block) = omega (arith, o.length_is, length-frame inside) in
    ap block_at (regrouped inside more) ∙ block_at-whole bytes here ∙ ap (outcome (14 + length_of bytes)) read ∙ ap (Whole block) end

-- no form begins another
pub block_bytes-append : (a b : Block) (x y : List ℕ) → Fits a → Fits b → block_bytes a ++ x ≡ block_bytes b ++ y → (a ≡ b) × (x ≡ y)
block_bytes-append a b x y a_fits b_fits e =
    let same : Whole a (length (block_bytes a)) ≡ Whole b (length (block_bytes b)) = sym (block_at_again a x a_fits) ∙ ap block_at e ∙ block_at_again b y b_fits in
    let one : a ≡ b = cc in
    (one, append_cancel_left (block_bytes b) x y (ap (λ (block : Block). block_bytes block ++ x) (sym one) ∙ e))

-- each proper prefix of a block's form is torn
pub block_at-take : (block : Block) (k : ℕ) → Fits block → k < length (block_bytes block) → block_at (take k (block_bytes block)) ≡ Torn
block_at-take block k fits cut =
    let inside = fields_of block in
    let n = length inside + 8 in
    let size = length inside + 14 in
    let last = big_bytes 8 size in
    let after : List ℕ = big_bytes 8 n ++ (inside ++ last) in
    let whole : block_bytes block ≡ magic ++ after = sym (append-nil (block_bytes block)) ∙ regrouped inside [] ∙ ap (λ (t : List ℕ). magic ++ (big_bytes 8 n ++ t)) (append-nil (inside ++ last)) in
    let bytes : List ℕ = take k (magic ++ after) in
    let agrees : begins bytes ≡ true = begins-take k after in
    let len : length bytes ≡ k = omega (arith, length-take k (magic ++ after), ap length whole) in
    let torn : IsTorn bytes = elim (cases_lt (length bytes) 14) [
      | inl short ↦ (agrees, inl short)
      | inr long ↦ (agrees, inr (rw (length_of-take k n (inside ++ last) (omega arith) (omega (arith, fits.size))) (omega (arith, len, length-frame inside))))
    ] in
    ap (λ (t : List ℕ). block_at (take k t)) whole ∙ block_at-torn bytes torn
  where
    length_of-take : (k n : ℕ) (rest : List ℕ) → 14 ≤ k → n < 2 ^ 64 → length_of (take k (magic ++ (big_bytes 8 n ++ rest))) ≡ n
    length_of-take k n rest long small =
        let bytes : List ℕ = magic ++ (big_bytes 8 n ++ rest) in
        let e : k ≡ 6 + (k - 6) = omega arith in
        let moved : drop 6 (take k bytes) ≡ take (k - 6) (drop 6 bytes) = ap (λ (j : ℕ). drop 6 (take j bytes)) e ∙ drop-take 6 (k - 6) bytes in
        ap (big_number 8) moved ∙ big_from-take 0 8 (k - 6) (drop 6 bytes) (omega arith) ∙ big_number-reads_back 8 n rest small

-- ---- what the outcome of a reading says

pub whole_written : (bytes : List ℕ) (read : BlockRead) → IsBytes bytes → Answers read (block_at bytes) → IfWhole read (λ block len. IsWritten bytes block len)
whole_written bytes (Whole block len) fits answers = whole_is_written bytes block len fits answers
whole_written bytes Torn fits answers = tt
whole_written bytes (Bad offset) fits answers = tt
whole_written bytes Memory fits answers = tt

pub bad_offset : (bytes : List ℕ) (read : BlockRead) → IsBytes bytes → Answers read (block_at bytes) → IfBad read (λ offset. IsBadOffset bytes offset)
bad_offset bytes (Whole block len) fits answers = tt
bad_offset bytes Torn fits answers = tt
bad_offset bytes (Bad offset) fits answers = bad_offset_is bytes offset fits answers
bad_offset bytes Memory fits answers = tt

-- ---- bytes that come later

-- where the magic doesn't stand, it stands in no longer text
begins-append : (bytes more : List ℕ) → begins (bytes ++ more) ≡ true → begins bytes ≡ true
begins-append bytes more e =
    let six = take 6 (bytes ++ more) in
    let same : six ≡ take (length six) magic = (bytes_eq-Decides six (take (length six) magic)).0 e in
    let whole : bytes ++ more ≡ six ++ drop 6 (bytes ++ more) = sym (take-append-drop 6 (bytes ++ more)) in
    elim (cases_lt 6 (length bytes)) [
      | inl long ↦
          let first : take 6 (bytes ++ more) ≡ take 6 bytes = take-append-le 6 bytes more (omega arith) in
          subst (λ (t : List ℕ). bytes_eq t (take (length t) magic) ≡ true) first e
      | inr short ↦
          let first : take (length bytes) six ≡ bytes = take-take (length bytes) 6 (bytes ++ more) short ∙ take_at bytes more (length bytes) refl in
          let len : length bytes ≤ length six = omega (arith, length-take 6 (bytes ++ more), length-append bytes more) in
          let here : bytes ≡ take (length bytes) magic = sym first ∙ ap (take (length bytes)) same ∙ take-take (length bytes) (length six) magic len in
          let first : take 6 bytes ≡ bytes = take_all 6 bytes short in
          (bytes_eq-Decides (take 6 bytes) (take (length (take 6 bytes)) magic)).1 (first ∙ here ∙ ap (λ (t : List ℕ). take (length t) magic) (sym first))
    ]

pub block_at_settles : (bytes more : List ℕ) → (block_at bytes ≡ Torn → ⊥) → block_at (bytes ++ more) ≡ block_at bytes
block_at_settles bytes more settled =
    elim (prefix_cases bytes) [
      | inl differs ↦
          let still : begins (bytes ++ more) ≡ false = false_from_ne_true (begins (bytes ++ more)) (λ e. false≢true (sym differs ∙ begins-append bytes more e)) in
          block_at-no_magic (bytes ++ more) still ∙ sym (block_at-no_magic bytes differs)
      | inr others ↦ elim others [
        | inl torn ↦ absurd (settled (block_at-torn bytes torn))
        | inr here ↦
            let six : take 6 (bytes ++ more) ≡ take 6 bytes = take-append-le 6 bytes more (omega (arith, here.within)) in
            let agrees : begins (bytes ++ more) ≡ true = subst (λ (t : List ℕ). bytes_eq t (take (length t) magic) ≡ true) (sym six) here.magic in
            let n-is : length_of (bytes ++ more) ≡ length_of bytes =
            ap (big_number 8) (drop-append-le 6 bytes more (omega (arith, here.within))) ∙ big_from-append 8 (drop 6 bytes) more (omega (arith, length-drop 6 bytes, here.within)) in
            let inner : inside_of (bytes ++ more) ≡ inside_of bytes =
            ap (λ (k : ℕ). take k (drop 14 (bytes ++ more))) n-is
            ∙ ap (take (length_of bytes)) (drop-append-le 14 bytes more (omega (arith, here.within)))
            ∙ take-append-le (length_of bytes) (drop 14 bytes) more (omega (arith, length-drop 14 bytes, here.within)) in
            let there : HasBlock (bytes ++ more) = record { magic = agrees; within = omega (arith, n-is, length-append bytes more, here.within) } in
            block_at-whole (bytes ++ more) there
            ∙ ap (λ (k : ℕ). outcome (14 + k) (inside_at (inside_of (bytes ++ more)))) n-is
            ∙ ap (λ (t : List ℕ). outcome (14 + length_of bytes) (inside_at t)) inner
            ∙ sym (block_at-whole bytes here)
      ]
    ]
