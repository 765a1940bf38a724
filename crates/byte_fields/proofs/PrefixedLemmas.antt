-- Bytes behind their length: what is read is so written, and what is so written is read.
use Rattle.std.proofs.Common.{◌≡◌, ℕ, ◌*◌, ◌^◌, ◌<◌, ◌≤◌, inl, inr, Bool, false, ltb, List, ◌++◌, length, take, drop, Some, Ok, Err, ℤ, pos, negsuc, refl, sym, ap, subst, ◌∙◌, append_assoc, arith}
use Rattle.std.specs.Prelude.{IsUtf8}
use Rattle.std.specs.Str.{is_utf8}
use Rattle.std.proofs.lemmas.Str.{IsUtf8-from_is_utf8, is_utf8-from_IsUtf8}
use Rattle.std.proofs.lemmas.Bool.{ltb-false, le-ltb, lt-ltb, cases_lt, cond_both, false_from_ne_true}
use Rattle.std.proofs.lemmas.List.{take_at, drop_at, take-append-drop, length-append, length-take, drop-append-le, take-append-le}
use Rattle.byte_fields.specs.declared.field_error.FieldError.TheVariants.{Short, Bad}
use Rattle.byte_fields.specs.Reading.{Reading, ◌>>=◌, only_if, only_some, Settles}
use Rattle.byte_fields.specs.Numbers.{number_at}
use Rattle.byte_fields.specs.Varints.{varint, zigzag, varint_at, zigzag_at}
use Rattle.byte_fields.specs.Prefixed.{with_length, long_bytes, bytes_at, length_then_bytes_at, prefixed_at, nonnegative, long_length_at, text_at}
use Rattle.byte_fields.proofs.ReadingLemmas.{IsBytes, IsBytes-drop, Takes, Takes-then, Takes-le, Reads, Reads-then, Reads-within, Reads-as_item, bind-Ok, only_some-Ok, read_once, bind_is, as_item_is, only_if_is, Settles-then, Settles-as_item, Settles-only_if, Settles-only_some}
use Rattle.byte_fields.proofs.NumberLemmas.{IsOrder, TakesNumber, number_at_reads, number_at_again}
use Rattle.byte_fields.proofs.VarintLemmas.{TakesVarint, varint_again, zigzag_again, zigzag_at_settles, zigzag_at_took}

-- ---- bytes

pub bytes_at_reads : (n : ℕ) (bytes : List ℕ) → IsBytes bytes → Reads (length bytes) (λ x. Takes bytes x.0 x.1 × (length x.0 ≡ n)) (bytes_at n bytes)
unfolding bytes_at
bytes_at_reads n bytes fits =
    cond_both (ltb (length bytes) n) (Err (Short (length bytes))) (Ok (take n bytes, drop n bytes)) (Reads (length bytes) (λ x. Takes bytes x.0 x.1 × (length x.0 ≡ n)))
    (λ short. omega arith)
    (λ long. let le : n ≤ length bytes = ltb-false _ _ long in (record { parts = sym (take-append-drop n bytes); rest_fits = IsBytes-drop n bytes fits }, omega (arith, length-take n bytes)))

pub bytes_at_again : (content rest : List ℕ) → bytes_at (length content) (content ++ rest) ≡ Ok (content, rest)
unfolding bytes_at
bytes_at_again content rest =
    let long : ltb (length (content ++ rest)) (length content) ≡ false = le-ltb _ _ (omega (arith, length-append content rest)) in
    rw (long, take_at content rest (length content) refl, drop_at content rest (length content) refl) refl

pub bytes_at_settles : (n : ℕ) → Settles (bytes_at n)
unfolding bytes_at
bytes_at_settles n bytes more settled =
    elim (cases_lt (length bytes) n) [
      | inl short ↦ absurd (rw (lt-ltb (length bytes) n short) at settled)
      | inr long ↦ rw (le-ltb (length bytes) n long, le-ltb (length (bytes ++ more)) n (omega (arith, length-append bytes more)), take-append-le n bytes more long, drop-append-le n bytes more long) refl
    ]

-- ---- a length and bytes

-- A length's reader and its written form belong together, for this length.
abbrev pub ReadsLength : (List ℕ → Reading ℕ) → (ℕ → List ℕ) → ℕ → Type 0
ReadsLength length_at length_bytes n = (rest : List ℕ) → length_at (length_bytes n ++ rest) ≡ Ok (n, rest)

pub length_then_bytes_at_again : (length_at : List ℕ → Reading ℕ) (length_bytes : ℕ → List ℕ) (content rest : List ℕ) → ReadsLength length_at length_bytes (length content) → length_then_bytes_at length_at (with_length length_bytes content ++ rest) ≡ Ok (content, rest)
unfolding length_then_bytes_at with_length
length_then_bytes_at_again length_at length_bytes content rest again =
    ap (length_then_bytes_at length_at) (append_assoc (length_bytes (length content)) content rest)
    ∙ bind_is (length_at (length_bytes (length content) ++ (content ++ rest))) (length content, content ++ rest) (λ len. bytes_at len.0 len.1) (again (content ++ rest))
    ∙ bytes_at_again content rest

pub prefixed_at_again : (length_at : List ℕ → Reading ℕ) (length_bytes : ℕ → List ℕ) (content rest : List ℕ) → ReadsLength length_at length_bytes (length content) → prefixed_at length_at (with_length length_bytes content ++ rest) ≡ Ok (content, rest)
unfolding prefixed_at
prefixed_at_again length_at length_bytes content rest again =
    as_item_is (with_length length_bytes content ++ rest) (length_then_bytes_at length_at (with_length length_bytes content ++ rest)) (content, rest) (length_then_bytes_at_again length_at length_bytes content rest again)

-- what a length's reader took
abbrev pub TakesLength : (ℕ → List ℕ) → (ℕ → Type 0) → List ℕ → ℕ → List ℕ → Type 0
TakesLength length_bytes P bytes n rest = Takes bytes (length_bytes n) rest × P n

-- what bytes behind their length took
pub record TakesPrefixed (length_bytes : ℕ → List ℕ) (P : ℕ → Type 0) (bytes content rest : List ℕ) : Type 0 where
  pub takes : Takes bytes (with_length length_bytes content) rest
  pub below : P (length content)

pub length_then_bytes_at_reads : (length_at : List ℕ → Reading ℕ) (length_bytes : ℕ → List ℕ) (P : ℕ → Type 0) (bytes : List ℕ)
    → Reads (length bytes) (λ x. TakesLength length_bytes P bytes x.0 x.1) (length_at bytes)
    → Reads (length bytes) (λ x. TakesPrefixed length_bytes P bytes x.0 x.1) (length_then_bytes_at length_at bytes)
unfolding length_then_bytes_at with_length
length_then_bytes_at_reads length_at length_bytes P bytes first =
    Reads-then (length bytes) (λ len. TakesLength length_bytes P bytes len.0 len.1) (λ x. TakesPrefixed length_bytes P bytes x.0 x.1) (length_at bytes) (λ len. bytes_at len.0 len.1)
    first
    (λ len taken. Reads-within (length len.1) (length bytes) (λ x. Takes len.1 x.0 x.1 × (length x.0 ≡ len.0)) (λ x. TakesPrefixed length_bytes P bytes x.0 x.1) (bytes_at len.0 len.1)
    (Takes-le _ _ _ taken.0)
    (bytes_at_reads len.0 len.1 taken.0.rest_fits)
    (λ x found. record {
      takes = subst (λ (k : ℕ). Takes bytes (length_bytes k ++ x.0) x.1) (sym found.1) (Takes-then bytes (length_bytes len.0) len.1 x.0 x.1 taken.0 found.0);
      below = subst P (sym found.1) taken.1;
    }))

pub prefixed_at_reads : (length_at : List ℕ → Reading ℕ) (length_bytes : ℕ → List ℕ) (P : ℕ → Type 0) (bytes : List ℕ)
    → Reads (length bytes) (λ x. TakesLength length_bytes P bytes x.0 x.1) (length_at bytes)
    → Reads (length bytes) (λ x. TakesPrefixed length_bytes P bytes x.0 x.1) (prefixed_at length_at bytes)
unfolding prefixed_at
prefixed_at_reads length_at length_bytes P bytes first =
    Reads-as_item bytes (λ x. TakesPrefixed length_bytes P bytes x.0 x.1) (length_then_bytes_at length_at bytes) (length_then_bytes_at_reads length_at length_bytes P bytes first)

pub length_then_bytes_at_settles : (length_at : List ℕ → Reading ℕ) → Settles length_at → Settles (length_then_bytes_at length_at)
unfolding length_then_bytes_at
length_then_bytes_at_settles length_at first = Settles-then length_at bytes_at first bytes_at_settles

pub prefixed_at_settles : (length_at : List ℕ → Reading ℕ) → Settles length_at → Settles (prefixed_at length_at)
unfolding prefixed_at
prefixed_at_settles length_at first = Settles-as_item (length_then_bytes_at length_at) (length_then_bytes_at_settles length_at first)

-- ---- the lengths that there are

pub number_length : (number_of : ℕ → List ℕ → ℕ) (bytes_of : ℕ → ℕ → List ℕ) (n len : ℕ) → IsOrder number_of bytes_of n → len < 256 ^ n → ReadsLength (number_at number_of n) (bytes_of n) len
number_length number_of bytes_of n len order small rest = number_at_again number_of bytes_of n len rest order small

-- what a length of n bytes took
pub number_length_reads : (number_of : ℕ → List ℕ → ℕ) (bytes_of : ℕ → ℕ → List ℕ) (n : ℕ) (bytes : List ℕ) → IsOrder number_of bytes_of n → IsBytes bytes
    → Reads (length bytes) (λ x. TakesLength (bytes_of n) (λ len. len < 256 ^ n) bytes x.0 x.1) (number_at number_of n bytes)
number_length_reads number_of bytes_of n bytes order fits =
    Reads-within (length bytes) (length bytes) (λ x. TakesNumber bytes_of n bytes x.0 x.1) (λ x. TakesLength (bytes_of n) (λ len. len < 256 ^ n) bytes x.0 x.1) (number_at number_of n bytes) (omega arith)
    (number_at_reads number_of bytes_of n bytes order fits)
    (λ x taken. (taken.takes, taken.below))

pub varint_length : (len : ℕ) → len < 2 ^ 32 → ReadsLength (varint_at 32) varint len
varint_length len small rest = varint_again 32 len rest (omega arith) small

pub long_length : (len : ℕ) → len < 2 ^ 63 → ReadsLength long_length_at long_bytes len
unfolding long_length_at
long_length len small rest =
    let bytes : List ℕ = long_bytes len ++ rest in
    bind_is (zigzag_at 64 bytes) (pos len, rest) (λ long. only_some (nonnegative long.0) bytes >>= λ n. Ok (n, long.1)) (zigzag_again 64 (pos len) rest (omega arith) (omega arith))

pub long_length_at_settles : Settles long_length_at
unfolding long_length_at
long_length_at_settles = Settles-only_some (zigzag_at 64) nonnegative (zigzag_at_settles 64)

-- what a length as a long took: a varint, which need not be the shortest
pub long_length_at_took : (bytes : List ℕ) (len : ℕ) (rest : List ℕ) → long_length_at bytes ≡ Ok (len, rest) → TakesVarint 64 bytes (2 * len) rest
unfolding long_length_at
long_length_at_took bytes len rest e =
    let first = bind-Ok (zigzag_at 64 bytes) (λ long. only_some (nonnegative long.0) bytes >>= λ n. Ok (n, long.1)) (len, rest) e in
    let z : ℤ = first.0.0 in
    let after : List ℕ = first.0.1 in
    let second = bind-Ok (only_some (nonnegative z) bytes) (λ n. Ok (n, after)) (len, rest) first.2 in
    let n : ℕ = second.0 in
    let same = read_once (n, after) (len, rest) (Ok (n, after)) refl second.2 in
    let number : zigzag z ≡ 2 * len = doubled z n (only_some-Ok (nonnegative z) bytes n second.1) ∙ ap (λ (p : ℕ × List ℕ). 2 * p.0) same in
    let taken = zigzag_at_took 64 bytes z after first.1 in
    subst (λ (k : ℕ). TakesVarint 64 bytes k rest) number (subst (λ (r : List ℕ). TakesVarint 64 bytes (zigzag z) r) (ap (λ (p : ℕ × List ℕ). p.1) same) taken)
  where
    doubled : (z : ℤ) (n : ℕ) → nonnegative z ≡ Some n → zigzag z ≡ 2 * n
    doubled (pos m) n e = let same : m ≡ n = cc in ap (λ (k : ℕ). 2 * k) same
    doubled (negsuc m) n e = absurd cc

-- ---- texts

pub text_at-Ok : (length_at : List ℕ → Reading ℕ) (bytes content rest : List ℕ) → prefixed_at length_at bytes ≡ Ok (content, rest) → IsUtf8 content → text_at length_at bytes ≡ Ok (content, rest)
unfolding text_at
text_at-Ok length_at bytes content rest e is_text =
    bind_is (prefixed_at length_at bytes) (content, rest) (λ found. only_if (is_utf8 found.0) bytes found) e
    ∙ only_if_is (is_utf8 content) bytes (content, rest) (is_utf8-from_IsUtf8 content is_text)

pub text_at-Bad : (length_at : List ℕ → Reading ℕ) (bytes content rest : List ℕ) → prefixed_at length_at bytes ≡ Ok (content, rest) → (IsUtf8 content → ⊥) → text_at length_at bytes ≡ Err (Bad (length bytes))
unfolding text_at
text_at-Bad length_at bytes content rest e no_text =
    bind_is (prefixed_at length_at bytes) (content, rest) (λ found. only_if (is_utf8 found.0) bytes found) e
    ∙ ap (λ (t : Bool). only_if t bytes (content, rest)) (false_from_ne_true (is_utf8 content) (λ passes. no_text (IsUtf8-from_is_utf8 content passes)))

pub text_at_again : (length_at : List ℕ → Reading ℕ) (length_bytes : ℕ → List ℕ) (content rest : List ℕ) → ReadsLength length_at length_bytes (length content) → IsUtf8 content → text_at length_at (with_length length_bytes content ++ rest) ≡ Ok (content, rest)
text_at_again length_at length_bytes content rest again is_text =
    text_at-Ok length_at (with_length length_bytes content ++ rest) content rest (prefixed_at_again length_at length_bytes content rest again) is_text

pub text_at_settles : (length_at : List ℕ → Reading ℕ) → Settles length_at → Settles (text_at length_at)
unfolding text_at
text_at_settles length_at first = Settles-only_if (prefixed_at length_at) is_utf8 (λ content. content) (prefixed_at_settles length_at first)
