-- Numbers of a fixed width: what is read is so written, and what is so written is read.
use Rattle.std.proofs.Common.{◌≡◌, ℕ, ◌^◌, ◌<◌, ◌≤◌, inl, inr, Bool, true, false, ltb, eqb, List, ◌++◌, length, take, drop, Ok, Err, refl, sym, ap, subst, ◌∙◌, arith}
use Rattle.std.proofs.lemmas.Bool.{ltb-false, le-ltb, eqb-true, eq-eqb, cond_both, cases_lt, lt-ltb}
use Rattle.std.proofs.lemmas.List.{drop_at, take-append-drop, length-append, length-take, drop-append-le}
use Rattle.std.proofs.lemmas.Nat.{be_bytes_4, be_bytes_8, le_bytes_4, le_bytes_8}
use Rattle.byteorder.specs.Endian.{big_number, big_bytes, little_number, little_bytes}
use Rattle.byteorder.specs.Numbers.{big_from-append, big_from-lt, big_number-reads_back, length-bytes_high_first, little_from-append, little_from-lt, little_number-reads_back, length-bytes_low_first}
use Rattle.byte_fields.specs.declared.field_error.FieldError.TheVariants.{Short}
use Rattle.byte_fields.specs.Reading.{Reading, ◌>>=◌, only_if, IsSettled, with_more, Settles}
use Rattle.byte_fields.specs.Numbers.{number_at, after_number}
use Rattle.byte_fields.proofs.ReadingLemmas.{IsBytes, IsBytes-take, IsBytes-drop, Takes, Reads, Reads-then, Reads-only_if, bind_is, only_if_is, Settles-then, Settles-only_if}

-- what is read and what is written of n bytes in one byte order belong together
pub record IsOrder (number_of : ℕ → List ℕ → ℕ) (bytes_of : ℕ → ℕ → List ℕ) (n : ℕ) : Type 0 where
  pub reads_back : (x : ℕ) (rest : List ℕ) → x < 256 ^ n → number_of n (bytes_of n x ++ rest) ≡ x
  pub reads_first : (xs ys : List ℕ) → n ≤ length xs → number_of n (xs ++ ys) ≡ number_of n xs
  pub number_fits : (xs : List ℕ) → IsBytes xs → number_of n xs < 256 ^ n
  pub length_bytes : (x : ℕ) → length (bytes_of n x) ≡ n
  pub writes_back : (xs : List ℕ) → length xs ≡ n → IsBytes xs → bytes_of n (number_of n xs) ≡ xs

pub big4 : IsOrder big_number big_bytes 4
big4 = record {
  reads_back = big_number-reads_back 4;
  reads_first = big_from-append 4;
  number_fits = big_from-lt 0 4;
  length_bytes = length-bytes_high_first 4;
  writes_back = λ xs len fits. be_bytes_4 xs (big_number 4 xs) len fits (omega arith);
}

pub big8 : IsOrder big_number big_bytes 8
big8 = record {
  reads_back = big_number-reads_back 8;
  reads_first = big_from-append 8;
  number_fits = big_from-lt 0 8;
  length_bytes = length-bytes_high_first 8;
  writes_back = λ xs len fits. be_bytes_8 xs (big_number 8 xs) len fits (omega arith);
}

pub little4 : IsOrder little_number little_bytes 4
little4 = record {
  reads_back = little_number-reads_back 4;
  reads_first = little_from-append 4;
  number_fits = little_from-lt 0 4;
  length_bytes = length-bytes_low_first 0 4;
  writes_back = λ xs len fits. le_bytes_4 xs (little_number 4 xs) len fits (omega arith);
}

pub little8 : IsOrder little_number little_bytes 8
little8 = record {
  reads_back = little_number-reads_back 8;
  reads_first = little_from-append 8;
  number_fits = little_from-lt 0 8;
  length_bytes = length-bytes_low_first 0 8;
  writes_back = λ xs len fits. le_bytes_8 xs (little_number 8 xs) len fits (omega arith);
}

-- what a number of n bytes took
pub record TakesNumber (bytes_of : ℕ → ℕ → List ℕ) (n : ℕ) (bytes : List ℕ) (x : ℕ) (rest : List ℕ) : Type 0 where
  pub takes : Takes bytes (bytes_of n x) rest
  pub below : x < 256 ^ n

pub number_at_reads : (number_of : ℕ → List ℕ → ℕ) (bytes_of : ℕ → ℕ → List ℕ) (n : ℕ) (bytes : List ℕ) → IsOrder number_of bytes_of n → IsBytes bytes → Reads (length bytes) (λ x. TakesNumber bytes_of n bytes x.0 x.1) (number_at number_of n bytes)
unfolding number_at
number_at_reads number_of bytes_of n bytes order fits =
    cond_both (ltb (length bytes) n) (Err (Short (length bytes))) (Ok (number_of n bytes, drop n bytes)) (Reads (length bytes) (λ x. TakesNumber bytes_of n bytes x.0 x.1))
    (λ short. omega arith)
    (λ long.
    let le : n ≤ length bytes = ltb-false _ _ long in
    let len : length (take n bytes) ≡ n = omega (arith, length-take n bytes) in
    let same : number_of n (take n bytes) ≡ number_of n bytes = sym (order.reads_first (take n bytes) (drop n bytes) (omega arith)) ∙ ap (number_of n) (take-append-drop n bytes) in
    let front : bytes_of n (number_of n bytes) ≡ take n bytes = ap (bytes_of n) (sym same) ∙ order.writes_back (take n bytes) len (IsBytes-take n bytes fits) in
    record {
      takes = record { parts = sym (take-append-drop n bytes) ∙ ap (λ (t : List ℕ). t ++ drop n bytes) (sym front); rest_fits = IsBytes-drop n bytes fits };
      below = order.number_fits bytes fits;
    })

pub number_at_again : (number_of : ℕ → List ℕ → ℕ) (bytes_of : ℕ → ℕ → List ℕ) (n x : ℕ) (rest : List ℕ) → IsOrder number_of bytes_of n → x < 256 ^ n → number_at number_of n (bytes_of n x ++ rest) ≡ Ok (x, rest)
unfolding number_at
number_at_again number_of bytes_of n x rest order lt =
    let len : length (bytes_of n x) ≡ n = order.length_bytes x in
    let long : ltb (length (bytes_of n x ++ rest)) n ≡ false = le-ltb _ _ (omega (arith, length-append (bytes_of n x) rest)) in
    rw (long, order.reads_back x rest lt, drop_at (bytes_of n x) rest n len) refl

pub number_at_settles : (number_of : ℕ → List ℕ → ℕ) (bytes_of : ℕ → ℕ → List ℕ) (n : ℕ) → IsOrder number_of bytes_of n → Settles (number_at number_of n)
unfolding number_at
number_at_settles number_of bytes_of n order bytes more settled =
    elim (cases_lt (length bytes) n) [
      | inl short ↦ absurd (rw (lt-ltb (length bytes) n short) at settled)
      | inr long ↦ rw (le-ltb (length bytes) n long, le-ltb (length (bytes ++ more)) n (omega (arith, length-append bytes more)), order.reads_first bytes more long, drop-append-le n bytes more long) refl
    ]

pub after_number_reads : (number_of : ℕ → List ℕ → ℕ) (bytes_of : ℕ → ℕ → List ℕ) (n x : ℕ) (bytes : List ℕ) → IsOrder number_of bytes_of n → IsBytes bytes → Reads (length bytes) (λ rest. Takes bytes (bytes_of n x) rest) (after_number number_of n x bytes)
unfolding after_number
after_number_reads number_of bytes_of n x bytes order fits =
    Reads-then (length bytes) (λ found. TakesNumber bytes_of n bytes found.0 found.1) (λ rest. Takes bytes (bytes_of n x) rest) (number_at number_of n bytes) (λ found. only_if (eqb found.0 x) bytes found.1)
    (number_at_reads number_of bytes_of n bytes order fits)
    (λ found taken. Reads-only_if (length bytes) (λ rest. Takes bytes (bytes_of n x) rest) (eqb found.0 x) bytes found.1 (omega arith) (λ same. subst (λ (k : ℕ). Takes bytes (bytes_of n k) found.1) (eqb-true found.0 x same) taken.takes))

pub after_number_again : (number_of : ℕ → List ℕ → ℕ) (bytes_of : ℕ → ℕ → List ℕ) (n x : ℕ) (rest : List ℕ) → IsOrder number_of bytes_of n → x < 256 ^ n → after_number number_of n x (bytes_of n x ++ rest) ≡ Ok rest
unfolding after_number
after_number_again number_of bytes_of n x rest order lt =
    bind_is (number_at number_of n (bytes_of n x ++ rest)) (x, rest) (λ found. only_if (eqb found.0 x) (bytes_of n x ++ rest) found.1) (number_at_again number_of bytes_of n x rest order lt)
    ∙ only_if_is (eqb x x) (bytes_of n x ++ rest) rest (eq-eqb x x refl)

-- what comes after a number that has to be x
pub after_number_settles : {A : Type 0} (number_of : ℕ → List ℕ → ℕ) (bytes_of : ℕ → ℕ → List ℕ) (n x : ℕ) (next : List ℕ → Reading A) → IsOrder number_of bytes_of n → Settles next → Settles (λ bytes. after_number number_of n x bytes >>= next)
unfolding after_number
after_number_settles {A} number_of bytes_of n x next order second bytes more settled =
    same (bytes ++ more) (number_at number_of n (bytes ++ more))
    ∙ steps bytes more (subst IsSettled (same bytes (number_at number_of n bytes)) settled)
    ∙ sym (ap (with_more more) (same bytes (number_at number_of n bytes)))
  where
    steps : Settles (λ bytes. (number_at number_of n bytes >>= λ found. only_if {A = Unit {0} × List ℕ} (eqb found.0 x) bytes (tt, found.1)) >>= λ found. next found.1)
    steps = Settles-then (λ bytes. number_at number_of n bytes >>= λ found. only_if {A = Unit {0} × List ℕ} (eqb found.0 x) bytes (tt, found.1)) (λ _ rest. next rest)
        (Settles-only_if (number_at number_of n) (λ found. eqb found x) (λ _. tt) (number_at_settles number_of bytes_of n order)) (λ _. second)

    tested : (b : Bool) (bytes rest : List ℕ) → (only_if b bytes rest >>= next) ≡ (only_if {A = Unit {0} × List ℕ} b bytes (tt, rest) >>= λ found. next found.1)
    tested true bytes rest = refl
    tested false bytes rest = refl

    same : (bytes : List ℕ) (r : Reading ℕ) → ((r >>= λ found. only_if (eqb found.0 x) bytes found.1) >>= next) ≡ ((r >>= λ found. only_if {A = Unit {0} × List ℕ} (eqb found.0 x) bytes (tt, found.1)) >>= λ found. next found.1)
    same bytes (Ok found) = tested (eqb found.0 x) bytes found.1
    same bytes (Err error) = refl
