-- Primitives: what is read is a reading, and each reading is read, whatever follows it.
use Rattle.std.proofs.Common.{if◌then◌else◌, ◌==◌, ◌≡◌, ℕ, zero, suc, ◌*◌, ◌^◌, ◌≤◌, ◌<◌, Bool, true, false, ltb, List, [], ◌∷◌, ◌++◌, length, take, drop, Some, Ok, ℤ, pos, negsuc, refl, sym, ap, subst, ◌∙◌, append_assoc, arith, inl, inr}
use Rattle.std.specs.Prelude.{IsUtf8}
use Rattle.std.specs.Str.{is_utf8}
use Rattle.std.proofs.lemmas.Str.{IsUtf8-from_is_utf8}
use Rattle.std.proofs.lemmas.Bool.{ltb-true, lt-ltb, le-ltb, cases_lt}
use Rattle.std.proofs.lemmas.List.{take-append-drop, length-take}
use Rattle.byteorder.specs.Endian.{big_number}
use Rattle.byte_fields.specs.Reading.{◌>>=◌, only_if, only_some}
use Rattle.byte_fields.specs.Numbers.{number_at}
use Rattle.byte_fields.specs.Varints.{IsVarint, zigzag, unzigzag, varint_at, zigzag_at}
use Rattle.byte_fields.specs.Prefixed.{with_length, bytes_at, length_then_bytes_at, prefixed_at, nonnegative, long_length_at, text_at}
use Rattle.byte_fields.proofs.ReadingLemmas.{bind-Ok, as_item-Ok, only_if-Ok, only_some-Ok, bind_is, only_if_is, read_once}
use Rattle.byte_fields.proofs.VarintLemmas.{TakesVarint, varint_at_again, zigzag_at_took, unzigzag-zigzag}
use Rattle.byte_fields.proofs.PrefixedLemmas.{prefixed_at_again, long_length_at_took, text_at-Ok}
use Rattle.avro_schema.specs.Grammar.{IsLong, IsInt, IsPrefixed, IsText}
use Rattle.avro_schema.specs.Reading.{boolean_at, index_at}

-- what a reader took, of which P holds
pub record Took (P : List ℕ → Type 0) (bs rest : List ℕ) : Type 0 where
  pub prefix : List ℕ
  pub parts : bs ≡ prefix ++ rest
  pub reading : P prefix

-- ---- numbers

pub took_varint : (w : ℕ) (bs : List ℕ) (n : ℕ) (rest : List ℕ) → 2 ^ w ≤ 2 ^ 64 → TakesVarint w bs n rest → Took (λ prefix. IsVarint prefix n × (n < 2 ^ w)) bs rest
took_varint w bs n rest le t = record {
  prefix = t.groups;
  parts = t.parts;
  reading = (record { groups = t.is_groups; at_most_ten = t.at_most_ten; number = t.number; below = omega (arith, t.below) }, t.below);
}

pub int_took : (bs : List ℕ) (z : ℤ) (rest : List ℕ) → zigzag_at 32 bs ≡ Ok (z, rest) → Took (IsInt z) bs rest
int_took bs z rest e = took_varint 32 bs (zigzag z) rest (omega arith) (zigzag_at_took 32 bs z rest e)

pub long_took : (bs : List ℕ) (z : ℤ) (rest : List ℕ) → zigzag_at 64 bs ≡ Ok (z, rest) → Took (IsLong z) bs rest
long_took bs z rest e =
    let t = took_varint 64 bs (zigzag z) rest (omega arith) (zigzag_at_took 64 bs z rest e) in
    record { prefix = t.prefix; parts = t.parts; reading = t.reading.0 }

zigzag_read : (w : ℕ) (z : ℤ) (prefix rest : List ℕ) → IsVarint prefix (zigzag z) → zigzag z < 2 ^ w → zigzag_at w (prefix ++ rest) ≡ Ok (z, rest)
unfolding zigzag_at
zigzag_read w z prefix rest is small =
    bind_is (varint_at w (prefix ++ rest)) (zigzag z, rest) (λ found. Ok (unzigzag found.0, found.1)) (varint_at_again w prefix rest (zigzag z) is small)
    ∙ ap (λ (y : ℤ). Ok (y, rest)) (unzigzag-zigzag z)

pub int_read : (z : ℤ) (prefix rest : List ℕ) → IsInt z prefix → zigzag_at 32 (prefix ++ rest) ≡ Ok (z, rest)
int_read z prefix rest is = zigzag_read 32 z prefix rest is.0 is.1

pub long_read : (z : ℤ) (prefix rest : List ℕ) → IsLong z prefix → zigzag_at 64 (prefix ++ rest) ≡ Ok (z, rest)
long_read z prefix rest is = zigzag_read 64 z prefix rest is is.below

-- ---- lengths, bytes and texts

pub length_took : (bs : List ℕ) (n : ℕ) (rest : List ℕ) → long_length_at bs ≡ Ok (n, rest) → Took (IsLong (pos n)) bs rest
length_took bs n rest e =
    let t = took_varint 64 bs (2 * n) rest (omega arith) (long_length_at_took bs n rest e) in
    record { prefix = t.prefix; parts = t.parts; reading = t.reading.0 }

pub length_read : (n : ℕ) (prefix rest : List ℕ) → IsLong (pos n) prefix → long_length_at (prefix ++ rest) ≡ Ok (n, rest)
unfolding long_length_at
length_read n prefix rest is =
    bind_is (zigzag_at 64 (prefix ++ rest)) (pos n, rest) (λ long. only_some (nonnegative long.0) (prefix ++ rest) >>= λ len. Ok (len, long.1)) (long_read (pos n) prefix rest is)

pub bytes_took : (n : ℕ) (bs content rest : List ℕ) → bytes_at n bs ≡ Ok (content, rest) → (bs ≡ content ++ rest) × (length content ≡ n)
unfolding bytes_at
bytes_took n bs content rest e =
    elim (cases_lt (length bs) n) [
      | inl short ↦ let told = rw (lt-ltb (length bs) n short) at e in absurd cc
      | inr enough ↦
          let told : Ok (take n bs, drop n bs) ≡ Ok (content, rest) = rw (le-ltb (length bs) n enough) at e in
          let same = read_once (take n bs, drop n bs) (content, rest) (Ok (take n bs, drop n bs)) refl told in
          let prefix : take n bs ≡ content = ap (λ (p : List ℕ × List ℕ). p.0) same in
          let back : drop n bs ≡ rest = ap (λ (p : List ℕ × List ℕ). p.1) same in
          (sym (take-append-drop n bs) ∙ ap (λ (t : List ℕ). t ++ drop n bs) prefix ∙ ap (λ (t : List ℕ). content ++ t) back, omega (arith, length-take n bs, ap length prefix))
    ]

pub prefixed_took : (bs content rest : List ℕ) → prefixed_at long_length_at bs ≡ Ok (content, rest) → Took (IsPrefixed content) bs rest
unfolding prefixed_at length_then_bytes_at
prefixed_took bs content rest e =
    let inner = as_item-Ok bs (length_then_bytes_at long_length_at bs) (content, rest) e in
    let len = bind-Ok (long_length_at bs) (λ len. bytes_at len.0 len.1) (content, rest) inner in
    let told = length_took bs len.0.0 len.0.1 len.1 in
    let body = bytes_took len.0.0 len.0.1 content rest len.2 in
    record {
      prefix = told.prefix ++ content;
      parts = told.parts ∙ ap (λ (t : List ℕ). told.prefix ++ t) body.0 ∙ sym (append_assoc told.prefix content rest);
      reading = (told.prefix, refl, subst (λ (n : ℕ). IsLong (pos n) told.prefix) (sym body.1) told.reading);
    }

pub prefixed_read : (content prefix rest : List ℕ) → IsPrefixed content prefix → prefixed_at long_length_at (prefix ++ rest) ≡ Ok (content, rest)
unfolding with_length
prefixed_read content prefix rest is =
    ap (λ (t : List ℕ). prefixed_at long_length_at (t ++ rest)) is.1
    ∙ prefixed_at_again long_length_at (λ n. is.0) content rest (λ after. length_read (length content) is.0 after is.2)

pub text_took : (bs content rest : List ℕ) → text_at long_length_at bs ≡ Ok (content, rest) → Took (IsText content) bs rest
unfolding text_at
text_took bs content rest e =
    let first = bind-Ok (prefixed_at long_length_at bs) (λ found. only_if (is_utf8 found.0) bs found) (content, rest) e in
    let passed = only_if-Ok (is_utf8 first.0.0) bs first.0 (content, rest) first.2 in
    let same : first.0.0 ≡ content = ap (λ (p : List ℕ × List ℕ). p.0) passed.1 in
    let told = prefixed_took bs content rest (first.1 ∙ ap (λ (p : List ℕ × List ℕ). Ok p) passed.1) in
    record { prefix = told.prefix; parts = told.parts; reading = (subst IsUtf8 same (IsUtf8-from_is_utf8 first.0.0 passed.0), told.reading) }

pub text_read : (content prefix rest : List ℕ) → IsText content prefix → text_at long_length_at (prefix ++ rest) ≡ Ok (content, rest)
text_read content prefix rest is = text_at-Ok long_length_at (prefix ++ rest) content rest (prefixed_read content prefix rest is.1) is.0

-- ---- booleans and indices

byte_at : (byte : ℕ) (rest : List ℕ) → number_at big_number 1 (byte ∷ rest) ≡ Ok (byte, rest)
unfolding number_at
byte_at byte rest =
    let value : big_number 1 (byte ∷ rest) ≡ byte = omega arith in
    rw (le-ltb (suc (length rest)) 1 (omega arith)) (ap (λ (k : ℕ). Ok (k, rest)) value)

boolean_of_byte : (byte : ℕ) (rest : List ℕ) → boolean_at (byte ∷ rest) ≡ only_if (ltb byte 2) (byte ∷ rest) (byte == 1, rest)
unfolding boolean_at
boolean_of_byte byte rest = bind_is (number_at big_number 1 (byte ∷ rest)) (byte, rest) (λ found. only_if (ltb found.0 2) (byte ∷ rest) (found.0 == 1, found.1)) (byte_at byte rest)

pub boolean_took : (bs : List ℕ) (b : Bool) (rest : List ℕ) → boolean_at bs ≡ Ok (b, rest) → bs ≡ (if b then 1 else 0) ∷ rest
unfolding boolean_at number_at
boolean_took [] b rest e = absurd cc
boolean_took (byte ∷ bs) b rest e =
    let passed = only_if-Ok (ltb byte 2) (byte ∷ bs) (byte == 1, bs) (b, rest) (sym (boolean_of_byte byte bs) ∙ e) in
    let small : byte < 2 = ltb-true byte 2 passed.0 in
    let truth : (byte == 1) ≡ b = ap (λ (p : Bool × List ℕ). p.0) passed.1 in
    let after : bs ≡ rest = ap (λ (p : Bool × List ℕ). p.1) passed.1 in
    rw (sym truth) (ap (λ (n : ℕ). n ∷ bs) (as_bit byte small) ∙ ap (λ (t : List ℕ). (if byte == 1 then 1 else 0) ∷ t) after)
  where
    as_bit : (byte : ℕ) → byte < 2 → byte ≡ (if byte == 1 then 1 else 0)
    as_bit zero small = refl
    as_bit (suc zero) small = refl
    as_bit (suc (suc n)) small = absurd (omega arith)

pub boolean_read : (b : Bool) (rest : List ℕ) → boolean_at ((if b then 1 else 0) ∷ rest) ≡ Ok (b, rest)
boolean_read true rest = boolean_of_byte 1 rest
boolean_read false rest = boolean_of_byte 0 rest

pub index_took : (count : ℕ) (bs : List ℕ) (n : ℕ) (rest : List ℕ) → index_at count bs ≡ Ok (n, rest) → Took (IsInt (pos n)) bs rest × (n < count)
unfolding index_at
index_took count bs n rest e =
    let first = bind-Ok (zigzag_at 32 bs) (λ number. only_some (nonnegative number.0) bs >>= λ index. only_if (ltb index count) bs (index, number.1)) (n, rest) e in
    let second = bind-Ok (only_some (nonnegative first.0.0) bs) (λ index. only_if (ltb index count) bs (index, first.0.1)) (n, rest) first.2 in
    let passed = only_if-Ok (ltb second.0 count) bs (second.0, first.0.1) (n, rest) second.2 in
    let same : second.0 ≡ n = ap (λ (p : ℕ × List ℕ). p.0) passed.1 in
    let after : first.0.1 ≡ rest = ap (λ (p : ℕ × List ℕ). p.1) passed.1 in
    let number : first.0.0 ≡ pos n = is_pos first.0.0 n (only_some-Ok (nonnegative first.0.0) bs second.0 second.1 ∙ ap Some same) in
    (int_took bs (pos n) rest (first.1 ∙ ap (λ (z : ℤ). Ok (z, first.0.1)) number ∙ ap (λ (t : List ℕ). Ok (pos n, t)) after), subst (λ (k : ℕ). k < count) same (ltb-true _ _ passed.0))
  where
    is_pos : (z : ℤ) (n : ℕ) → nonnegative z ≡ Some n → z ≡ pos n
    is_pos (pos m) n e = let same : m ≡ n = cc in ap pos same
    is_pos (negsuc m) n e = absurd cc

pub index_read : (count n : ℕ) (prefix rest : List ℕ) → IsInt (pos n) prefix → n < count → index_at count (prefix ++ rest) ≡ Ok (n, rest)
unfolding index_at
index_read count n prefix rest is below =
    bind_is (zigzag_at 32 (prefix ++ rest)) (pos n, rest) (λ number. only_some (nonnegative number.0) (prefix ++ rest) >>= λ index. only_if (ltb index count) (prefix ++ rest) (index, number.1)) (int_read (pos n) prefix rest is)
    ∙ only_if_is (ltb n count) (prefix ++ rest) (n, rest) (lt-ltb n count below)
