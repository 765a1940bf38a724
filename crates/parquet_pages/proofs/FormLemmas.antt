-- Levels are read exactly where the bytes are some.
use Rattle.std.proofs.Common.{◌≡◌, ◌≢◌, ℕ, zero, suc, ◌+◌, ◌*◌, ◌/◌, ◌%◌, ◌<◌, ◌≤◌, Bool, true, false, List, [], ◌∷◌, ◌++◌, length, take, drop, replicate, Ok, Err, Result, refl, sym, ap, subst, ◌∙◌, append_assoc, lit≤, arith, inl, inr}
use Rattle.std.specs.Prelude.{◌==◌, not, nat_le, nat_lt, if◌then◌else◌}
use Rattle.std.specs.Prelude.{All}
use Rattle.std.specs.List.{flat_map}
use Rattle.std.proofs.lemmas.Bool.{eq-eqb, ne_eqb, eqb-true, eqb-false, cases_lt, leb-true, le-leb, le-ltb, ltb-false}
use Rattle.std.proofs.lemmas.List.{append-nil, get_or_past, length-append, length-take, take-append-drop}
use Rattle.std.proofs.Math.Seq.{take-append_seam}
use Rattle.byteorder.specs.Endian.{big_number, little_number, little_bytes}
use Rattle.byte_fields.specs.declared.field_error.FieldError.{FieldError}
use Rattle.byte_fields.specs.declared.field_error.FieldError.TheVariants.{Short}
use Rattle.byte_fields.specs.Reading.{Reading, ◌>>=◌, only_if}
use Rattle.byte_fields.specs.Numbers.{number_at}
use Rattle.byte_fields.specs.Varints.{varint_at}
use Rattle.byte_fields.specs.Prefixed.{with_length, bytes_at, prefixed_at}
use Rattle.byte_fields.proofs.ReadingLemmas.{IsBytes, bind-Ok, only_if-Ok, only_if_is, read_once}
use Rattle.byte_fields.proofs.NumberLemmas.{little4}
use Rattle.byte_fields.proofs.PrefixedLemmas.{prefixed_at_again, number_length, bytes_at_again}
use Rattle.thrift_compact.specs.Grammar.{IsSize}
use Rattle.thrift_compact.proofs.GrammarLemmas.{if_Ok, size_takes, Takes}
use Rattle.parquet_meta.specs.Structs.{AreItems}
use Rattle.parquet_pages.specs.Levels.{bits_of, repeated_at, packed_at, run_at, runs_at, with_behind, first_levels, levels_at}
use Rattle.parquet_pages.specs.Forms.{IsRun, AreRuns, IsLevels}
use Rattle.parquet_pages.proofs.LevelsLemmas.{prefix_parts, prefix_below, run_at-shorter}

-- ---- a byte

byte_took : (bytes rest : List ℕ) (byte : ℕ) → number_at big_number 1 bytes ≡ Ok (byte, rest) → bytes ≡ byte ∷ rest
unfolding number_at
byte_took [] rest byte e = absurd cc
byte_took (x ∷ bytes) rest byte e =
    let long : (let r : Reading ℕ = if false then Err (Short (length (x ∷ bytes))) else Ok (big_number 1 (x ∷ bytes), bytes) in r) ≡ Ok (byte, rest) = sym (ap (λ (t : Bool). let r : Reading ℕ = if t then Err (Short (length (x ∷ bytes))) else Ok (big_number 1 (x ∷ bytes), bytes) in r) (le-ltb (length (x ∷ bytes)) 1 (omega arith))) ∙ e in
    let same = read_once (big_number 1 (x ∷ bytes), bytes) (byte, rest) (Ok (big_number 1 (x ∷ bytes), bytes)) refl long in
    let first : big_number 1 (x ∷ bytes) ≡ x = omega arith in
    ap (λ (n : ℕ). n ∷ bytes) (sym first ∙ ap (λ (p : ℕ × List ℕ). p.0) same) ∙ ap (λ (t : List ℕ). byte ∷ t) (ap (λ (p : ℕ × List ℕ). p.1) same)

byte_back : (byte : ℕ) (rest : List ℕ) → number_at big_number 1 (byte ∷ rest) ≡ Ok (byte, rest)
unfolding number_at
byte_back byte rest =
    let first : big_number 1 (byte ∷ rest) ≡ byte = omega arith in
    ap (λ (t : Bool). let r : Reading ℕ = if t then Err (Short (length (byte ∷ rest))) else Ok (big_number 1 (byte ∷ rest), rest) in r) (le-ltb (length (byte ∷ rest)) 1 (omega arith))
    ∙ ap (λ (n : ℕ). Ok (n, rest)) first

-- ---- runs

not_zero : (n : ℕ) → not (n == 0) ≡ true → n ≢ 0
not_zero n is e = (let zero_is = eq-eqb n 0 e in let no : true ≡ false = sym is ∙ ap not zero_is in cc)

repeated_took : (n : ℕ) (header bytes rest : List ℕ) (levels : List Bool) → repeated_at n header bytes ≡ Ok (levels, rest) → (byte : ℕ) × (bytes ≡ byte ∷ rest) × (n ≢ 0) × (byte ≤ 1) × (levels ≡ replicate n (byte == 1))
unfolding repeated_at
repeated_took n header bytes rest levels e =
    let first = bind-Ok (only_if (not (n == 0)) header bytes) (λ bytes. number_at big_number 1 bytes >>= λ byte. only_if (nat_le byte.0 1) bytes (replicate n (byte.0 == 1), byte.1)) (levels, rest) e in
    let some = only_if-Ok (not (n == 0)) header bytes first.0 first.1 in
    let second = bind-Ok (number_at big_number 1 first.0) (λ byte. only_if (nat_le byte.0 1) first.0 (replicate n (byte.0 == 1), byte.1)) (levels, rest) first.2 in
    let small = only_if-Ok (nat_le second.0.0 1) first.0 (replicate n (second.0.0 == 1), second.0.1) (levels, rest) second.2 in
    (second.0.0, some.1 ∙ byte_took first.0 second.0.1 second.0.0 second.1 ∙ ap (λ (t : List ℕ). second.0.0 ∷ t) (ap (λ (p : List Bool × List ℕ). p.1) small.1), not_zero n some.0, leb-true _ _ small.0, sym (ap (λ (p : List Bool × List ℕ). p.0) small.1))

repeated_back : (n byte : ℕ) (header rest : List ℕ) → n ≢ 0 → byte ≤ 1 → repeated_at n header (byte ∷ rest) ≡ Ok (replicate n (byte == 1), rest)
unfolding repeated_at
repeated_back n byte header rest some small =
    ap (λ (b : Bool). only_if (not b) header (byte ∷ rest) >>= λ bytes. number_at big_number 1 bytes >>= λ byte. only_if (nat_le byte.0 1) bytes (replicate n (byte.0 == 1), byte.1)) (ne_eqb n 0 some)
    ∙ ap (λ (r : Reading ℕ). r >>= λ found. only_if (nat_le found.0 1) (byte ∷ rest) (replicate n (found.0 == 1), found.1)) (byte_back byte rest)
    ∙ only_if_is (nat_le byte 1) (byte ∷ rest) (replicate n (byte == 1), rest) (le-leb byte 1 small)

packed_took : (n : ℕ) (bytes rest : List ℕ) (levels : List Bool) → packed_at n bytes ≡ Ok (levels, rest) → (content : List ℕ) × (bytes ≡ content ++ rest) × (length content ≡ n) × (levels ≡ bits_of content)
unfolding packed_at bytes_at
packed_took n bytes rest levels e =
    let first = bind-Ok (bytes_at n bytes) (λ content. Ok (bits_of content.0, content.1)) (levels, rest) e in
    let same = read_once (bits_of first.0.0, first.0.1) (levels, rest) (Ok (bits_of first.0.0, first.0.1)) refl first.2 in
    elim (if_Ok (nat_lt (length bytes) n) (Err (Short (length bytes))) (Ok (take n bytes, drop n bytes)) first.0 first.1) [
      | inl short ↦ absurd cc
      | inr long ↦
          let parts = read_once (take n bytes, drop n bytes) first.0 (Ok (take n bytes, drop n bytes)) refl long.1 in
          let front : take n bytes ≡ first.0.0 = ap (λ (p : List ℕ × List ℕ). p.0) parts in
          let back : drop n bytes ≡ rest = ap (λ (p : List ℕ × List ℕ). p.1) parts ∙ ap (λ (p : List Bool × List ℕ). p.1) same in
          let le : n ≤ length bytes = ltb-false _ _ long.0 in
          (first.0.0, sym (take-append-drop n bytes) ∙ ap (λ (t : List ℕ). t ++ drop n bytes) front ∙ ap (λ (t : List ℕ). first.0.0 ++ t) back, omega (arith, ap length front, length-take n bytes), sym (ap (λ (p : List Bool × List ℕ). p.0) same))
    ]

run_takes : Takes run_at IsRun
unfolding run_at packed_at
run_takes = record { took = λ bytes rest levels e. took bytes rest levels e; again = λ value rest levels is. again value rest levels is }
  where
    after : List ℕ → ℕ × List ℕ → Reading (List Bool)
    after bytes header = if header.0 % 2 == 0 then repeated_at (header.0 / 2) bytes header.1 else packed_at (header.0 / 2) header.1

    took : (bytes rest : List ℕ) (levels : List Bool) → run_at bytes ≡ Ok (levels, rest) → (value : List ℕ) × (bytes ≡ value ++ rest) × IsRun levels value
    took bytes rest levels e =
        let first = bind-Ok (varint_at 64 bytes) (λ header. if header.0 % 2 == 0 then repeated_at (header.0 / 2) bytes header.1 else packed_at (header.0 / 2) header.1) (levels, rest) e in
        let n : ℕ = first.0.0 in
        let size = (size_takes 64 (lit≤ tt)).took bytes first.0.1 n first.1 in
        elim (if_Ok (n % 2 == 0) (repeated_at (n / 2) bytes first.0.1) (packed_at (n / 2) first.0.1) (levels, rest) first.2) [
          | inl even ↦
              let r = repeated_took (n / 2) bytes first.0.1 rest levels even.1 in
              let zero_is : n % 2 ≡ 0 = eqb-true _ _ even.0 in
              let whole : n ≡ 2 * (n / 2) = omega arith in
              (size.0 ++ r.0 ∷ [], size.1 ∙ ap (λ (t : List ℕ). size.0 ++ t) r.1 ∙ sym (append_assoc size.0 (r.0 ∷ []) rest), inl (n / 2, r.0, size.0, refl, subst (λ (k : ℕ). IsSize 64 k size.0) whole size.2, r.2, r.3, r.4))
          | inr odd ↦
              let p = packed_took (n / 2) first.0.1 rest levels odd.1 in
              let one_is : n % 2 ≢ 0 = eqb-false _ _ odd.0 in
              let whole : n ≡ 2 * length p.0 + 1 = omega (arith, p.2) in
              (size.0 ++ p.0, size.1 ∙ ap (λ (t : List ℕ). size.0 ++ t) p.1 ∙ sym (append_assoc size.0 p.0 rest), inr (size.0, p.0, refl, subst (λ (k : ℕ). IsSize 64 k size.0) whole size.2, p.3))
        ]

    again : (value rest : List ℕ) (levels : List Bool) → IsRun levels value → run_at (value ++ rest) ≡ Ok (levels, rest)
    again value rest levels is =
        elim is [
          | inl r ↦
              let bytes : List ℕ = r.2 ++ (r.1 ∷ rest) in
              let even : (2 * r.0 % 2 == 0) ≡ true = eq-eqb (2 * r.0 % 2) 0 (omega arith) in
              let half : 2 * r.0 / 2 ≡ r.0 = omega arith in
              ap run_at (ap (λ (t : List ℕ). t ++ rest) r.3 ∙ append_assoc r.2 (r.1 ∷ []) rest)
              ∙ ap (λ (x : Reading ℕ). x >>= after bytes) ((size_takes 64 (lit≤ tt)).again r.2 (r.1 ∷ rest) (2 * r.0) r.4)
              ∙ ap (λ (b : Bool). if b then repeated_at (2 * r.0 / 2) bytes (r.1 ∷ rest) else packed_at (2 * r.0 / 2) (r.1 ∷ rest)) even
              ∙ ap (λ (n : ℕ). repeated_at n bytes (r.1 ∷ rest)) half
              ∙ repeated_back r.0 r.1 bytes rest r.5 r.6
              ∙ ap (λ (t : List Bool). Ok (t, rest)) (sym r.7)
          | inr p ↦
              let bytes : List ℕ = p.0 ++ (p.1 ++ rest) in
              let n : ℕ = 2 * length p.1 + 1 in
              let odd : (n % 2 == 0) ≡ false = ne_eqb (n % 2) 0 (λ e. omega arith) in
              let half : n / 2 ≡ length p.1 = omega arith in
              ap run_at (ap (λ (t : List ℕ). t ++ rest) p.2 ∙ append_assoc p.0 p.1 rest)
              ∙ ap (λ (x : Reading ℕ). x >>= after bytes) ((size_takes 64 (lit≤ tt)).again p.0 (p.1 ++ rest) n p.3)
              ∙ ap (λ (b : Bool). if b then repeated_at (n / 2) bytes (p.1 ++ rest) else packed_at (n / 2) (p.1 ++ rest)) odd
              ∙ ap (λ (k : ℕ). packed_at k (p.1 ++ rest)) half
              ∙ ap (λ (x : Reading (List ℕ)). x >>= λ content. Ok (bits_of content.0, content.1)) (bytes_at_again p.1 rest)
              ∙ ap (λ (t : List Bool). Ok (t, rest)) (sym p.4)
        ]

runs_took : (steps : ℕ) (bytes : List ℕ) (levels : List Bool) → length bytes ≤ steps → runs_at steps bytes ≡ Ok levels → AreRuns levels bytes
unfolding runs_at
runs_took zero [] levels le e = ([], refl, cc)
runs_took zero (byte ∷ bytes) levels le e = absurd (omega arith)
runs_took (suc steps) [] levels le e = ([], refl, cc)
runs_took (suc steps) (byte ∷ bytes) levels le e =
    let first = bind-Ok (run_at (byte ∷ bytes)) (λ run. runs_at steps run.1 >>= λ more. Ok (run.0 ++ more)) levels e in
    let second = bind-Ok (runs_at steps first.0.1) (λ more. Ok (first.0.0 ++ more)) levels first.2 in
    let joined : first.0.0 ++ second.0 ≡ levels = cc in
    let run = run_takes.took (byte ∷ bytes) first.0.1 first.0.0 first.1 in
    let more = runs_took steps first.0.1 second.0 (omega (arith, run_at-shorter (byte ∷ bytes) first.0.1 first.0.0 first.1)) second.1 in
    (first.0.0 ∷ more.0, (run.0, first.0.1, run.1, run.2, more.1), ap (λ (t : List Bool). first.0.0 ++ t) more.2 ∙ joined)

run_some : (levels : List Bool) (bytes : List ℕ) → IsRun levels bytes → 0 < length bytes
run_some levels bytes is =
    let read = run_takes.again bytes [] levels is in
    omega (arith, run_at-shorter (bytes ++ []) [] levels read, ap (λ (t : List ℕ). length t) (append-nil bytes))

runs_back : (runs : List (List Bool)) (bytes : List ℕ) (steps : ℕ) → AreItems IsRun runs bytes → length bytes ≤ steps → runs_at steps bytes ≡ Ok (flat_map (λ run. run) runs)
unfolding runs_at
runs_back [] bytes zero is le = refl
runs_back [] bytes (suc steps) is le = ap (runs_at (suc steps)) is
runs_back (run ∷ runs) bytes zero is le = absurd (omega (arith, run_some run is.0 is.3, ap length is.2, length-append is.0 is.1))
runs_back (run ∷ runs) bytes (suc steps) is le =
    let some = run_some run is.0 is.3 in
    let long : length bytes ≡ length is.0 + length is.1 = ap length is.2 ∙ length-append is.0 is.1 in
    step bytes (omega arith) (ap run_at is.2 ∙ run_takes.again is.0 is.1 run is.3)
    ∙ ap (λ (r : Result (List Bool) FieldError). r >>= λ more. Ok (run ++ more)) (runs_back runs is.1 steps is.4 (omega arith))
  where
    step : (bytes : List ℕ) → 0 < length bytes → run_at bytes ≡ Ok (run, is.1) → runs_at (suc steps) bytes ≡ (runs_at steps is.1 >>= λ more. Ok (run ++ more))
    step [] some e = absurd (omega arith)
    step (byte ∷ bytes) some e = ap (λ (r : Reading (List Bool)). r >>= λ run. runs_at steps run.1 >>= λ more. Ok (run.0 ++ more)) e

-- ---- levels

pub levels_back : (levels : List Bool) (prefix rest : List ℕ) → IsLevels levels prefix → levels_at (length levels) (prefix ++ rest) ≡ Ok (levels, rest)
unfolding levels_at
levels_back levels prefix rest is =
    let content : List ℕ = is.0 in
    let all : List Bool = levels ++ is.1 in
    let count : ℕ = length levels in
    let enough : nat_le count (length all) ≡ true = le-leb count (length all) (omega (arith, length-append levels is.1)) in
    ap (λ (b : List ℕ). levels_at count (b ++ rest)) is.2
    ∙ ap (λ (r : Reading (List ℕ)). r >>= λ found. with_behind (length found.1) (runs_at (length found.0) found.0) >>= λ some. first_levels count some found.1) (prefixed_at_again (number_at little_number 4) (little_bytes 4) content rest (number_length little_number little_bytes 4 (length content) little4 (omega (arith, is.3))))
    ∙ ap (λ (r : Result (List Bool) FieldError). with_behind (length rest) r >>= λ some. first_levels count some rest) (runs_back is.4.0 content (length content) is.4.1 (omega arith) ∙ ap (λ (t : List Bool). Ok t) is.4.2)
    ∙ ap (λ (b : Bool). let r : Reading (List Bool) = if b then Ok (take count all, rest) else Err (Short (length rest)) in r) enough
    ∙ ap (λ (t : List Bool). Ok (t, rest)) (take-append_seam levels is.1)

pub levels_took : (count : ℕ) (bytes rest : List ℕ) (levels : List Bool) → IsBytes bytes → levels_at count bytes ≡ Ok (levels, rest) → (prefix : List ℕ) × (bytes ≡ prefix ++ rest) × IsLevels levels prefix × (length levels ≡ count)
unfolding levels_at
levels_took count bytes rest levels fits e =
    let first = bind-Ok (prefixed_at (number_at little_number 4) bytes) (λ content. with_behind (length content.1) (runs_at (length content.0) content.0) >>= λ levels. first_levels count levels content.1) (levels, rest) e in
    let second = bind-Ok (with_behind (length first.0.1) (runs_at (length first.0.0) first.0.0)) (λ levels. first_levels count levels first.0.1) (levels, rest) first.2 in
    let content : List ℕ = first.0.0 in
    let all : List Bool = second.0 in
    let runs = runs_took (length content) content all (omega arith) (inside (length first.0.1) (runs_at (length content) content) all second.1) in
    elim (if_Ok (nat_le count (length all)) (Ok (take count all, first.0.1)) (Err (Short (length first.0.1))) (levels, rest) second.2) [
      | inl enough ↦
          let same = read_once (take count all, first.0.1) (levels, rest) (Ok (take count all, first.0.1)) refl enough.1 in
          let front : take count all ≡ levels = ap (λ (p : List Bool × List ℕ). p.0) same in
          let joined : all ≡ levels ++ drop count all = sym (take-append-drop count all) ∙ ap (λ (t : List Bool). t ++ drop count all) front in
          let le : count ≤ length all = leb-true _ _ enough.0 in
          (with_length (little_bytes 4) content, prefix_parts bytes content first.0.1 fits first.1 ∙ ap (λ (t : List ℕ). with_length (little_bytes 4) content ++ t) (ap (λ (p : List Bool × List ℕ). p.1) same), (content, drop count all, refl, omega (arith, prefix_below bytes content first.0.1 fits first.1), (runs.0, runs.1, runs.2 ∙ joined)), omega (arith, ap length front, length-take count all))
      | inr few ↦ absurd cc
    ]
  where
    inside : (more : ℕ) (r : Result (List Bool) FieldError) (all : List Bool) → with_behind more r ≡ Ok all → r ≡ Ok all
    inside more (Ok x) all e = e
    inside more (Err x) all e = absurd cc

-- ---- bytes

pub bytes_fit : (bytes : List ℕ) → All (λ byte. byte < 256) bytes → IsBytes bytes
bytes_fit bytes fits i =
    elim (cases_lt i (length bytes)) [
      | inl lt ↦ fits i 0 lt
      | inr le ↦ rw (get_or_past bytes i 0 le) (omega arith)
    ]
