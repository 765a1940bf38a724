-- What is written is read back.
use Rattle.std.proofs.Common.{◌≡◌, ℕ, zero, suc, ◌+◌, ◌*◌, ◌/◌, ◌%◌, ◌^◌, ◌<◌, ◌≤◌, Bool, true, false, List, [], ◌∷◌, ◌++◌, length, take, replicate, Ok, Err, Result, refl, sym, ap, ◌∙◌, append_assoc, arith}
use Rattle.std.specs.Prelude.{◌==◌, nat_le, if◌then◌else◌}
use Rattle.std.specs.Bool.{beq}
use Rattle.std.specs.List.{flat_map}
use Rattle.std.proofs.lemmas.Bool.{eq-eqb, ne_eqb, le-leb, le-ltb}
use Rattle.std.proofs.lemmas.List.{length-append, replicate-append-replicate}
use Rattle.byteorder.specs.Endian.{big_number, little_number, little_bytes}
use Rattle.byte_fields.specs.declared.field_error.FieldError.{FieldError}
use Rattle.byte_fields.specs.declared.field_error.FieldError.TheVariants.{Short}
use Rattle.byte_fields.specs.Reading.{Reading, ◌>>=◌, only_if}
use Rattle.byte_fields.specs.Numbers.{number_at}
use Rattle.byte_fields.specs.Varints.{varint}
use Rattle.byte_fields.proofs.NumberLemmas.{little4}
use Rattle.byte_fields.proofs.PrefixedLemmas.{prefixed_at_again, number_length}
use Rattle.byte_fields.proofs.VarintLemmas.{varint_again}
use Rattle.parquet_pages.specs.Levels.{level_byte, run_bytes, join, runs_of, levels_body, levels_bytes, repeated_at, packed_at, run_at, runs_at, with_behind, first_levels, levels_at}
use Rattle.parquet_pages.proofs.BitsLemmas.{take_all}

-- ---- runs

-- the levels of a run
abbrev pub run_levels : ℕ × Bool → List Bool
run_levels run = replicate run.0 run.1

byte_again : (level : Bool) (rest : List ℕ) → number_at big_number 1 (level_byte level ∷ rest) ≡ Ok (level_byte level, rest)
unfolding number_at
byte_again true rest = ap (λ (t : Bool). let r : Reading ℕ = if t then Err (Short (length (1 ∷ rest))) else Ok (1, rest) in r) (le-ltb (length (1 ∷ rest)) 1 (omega arith))
byte_again false rest = ap (λ (t : Bool). let r : Reading ℕ = if t then Err (Short (length (0 ∷ rest))) else Ok (0, rest) in r) (le-ltb (length (0 ∷ rest)) 1 (omega arith))

level_again : (n : ℕ) (level : Bool) (header rest : List ℕ) → 0 < n → repeated_at n header (level_byte level ∷ rest) ≡ Ok (replicate n level, rest)
unfolding repeated_at
level_again n level header rest some =
    let no : (n == 0) ≡ false = ne_eqb n 0 (λ e. omega arith) in
    rw no (ap (λ (r : Reading ℕ). r >>= λ byte. only_if (nat_le byte.0 1) (level_byte level ∷ rest) (replicate n (byte.0 == 1), byte.1)) (byte_again level rest) ∙ last level)
  where
    last : (b : Bool) → (let x : List Bool × List ℕ = (replicate n (level_byte b == 1), rest) in only_if (nat_le (level_byte b) 1) (level_byte level ∷ rest) x) ≡ Ok (replicate n b, rest)
    last true = refl
    last false = refl

run_again : (run : ℕ × Bool) (rest : List ℕ) → 0 < run.0 → run.0 < 2 ^ 63 → run_at (run_bytes run ++ rest) ≡ Ok (run_levels run, rest)
unfolding run_at
run_again run rest some small =
    let bytes : List ℕ = varint (2 * run.0) ++ (level_byte run.1 ∷ rest) in
    let even : (2 * run.0 % 2 == 0) ≡ true = eq-eqb (2 * run.0 % 2) 0 (omega arith) in
    let half : 2 * run.0 / 2 ≡ run.0 = omega arith in
    ap run_at (append_assoc (varint (2 * run.0)) (level_byte run.1 ∷ []) rest)
    ∙ ap (λ (r : Reading ℕ). r >>= λ header. if header.0 % 2 == 0 then repeated_at (header.0 / 2) bytes header.1 else packed_at (header.0 / 2) header.1) (varint_again 64 (2 * run.0) (level_byte run.1 ∷ rest) (omega arith) (omega arith))
    ∙ ap (λ (b : Bool). if b then repeated_at (2 * run.0 / 2) bytes (level_byte run.1 ∷ rest) else packed_at (2 * run.0 / 2) (level_byte run.1 ∷ rest)) even
    ∙ ap (λ (n : ℕ). repeated_at n bytes (level_byte run.1 ∷ rest)) half
    ∙ level_again run.0 run.1 bytes rest some

-- runs that aren't empty nor too long
abbrev pub AreSome : List (ℕ × Bool) → Type 0
AreSome [] = Unit {0}
AreSome (run ∷ runs) = (0 < run.0) × (run.0 < 2 ^ 63) × AreSome runs

run_some : (run : ℕ × Bool) → 0 < length (run_bytes run)
run_some run = omega (arith, length-append (varint (2 * run.0)) (level_byte run.1 ∷ []))

runs_again : (runs : List (ℕ × Bool)) → AreSome runs → (steps : ℕ) → length (flat_map run_bytes runs) ≤ steps → runs_at steps (flat_map run_bytes runs) ≡ Ok (flat_map run_levels runs)
unfolding runs_at
runs_again [] is zero le = refl
runs_again [] is (suc steps) le = refl
runs_again (run ∷ runs) is zero le = absurd (omega (arith, le, run_some run, length-append (run_bytes run) (flat_map run_bytes runs)))
runs_again (run ∷ runs) is (suc steps) le =
    let more : List ℕ = flat_map run_bytes runs in
    let fewer : length more ≤ steps = omega (arith, le, run_some run, length-append (run_bytes run) more) in
    step (run_bytes run ++ more) (omega (arith, run_some run, length-append (run_bytes run) more)) (run_again run more is.0 is.1)
    ∙ ap (λ (r : Result (List Bool) FieldError). r >>= λ rest. Ok (run_levels run ++ rest)) (runs_again runs is.2 steps fewer)
  where
    step : (bytes : List ℕ) → 0 < length bytes → run_at bytes ≡ Ok (run_levels run, flat_map run_bytes runs) → runs_at (suc steps) bytes ≡ (runs_at steps (flat_map run_bytes runs) >>= λ rest. Ok (run_levels run ++ rest))
    step [] some e = absurd (omega arith)
    step (byte ∷ bytes) some e = ap (λ (r : Reading (List Bool)). r >>= λ run. runs_at steps run.1 >>= λ more. Ok (run.0 ++ more)) e

-- ---- the longest runs are the levels

join_levels : (n : ℕ) (level : Bool) (runs : List (ℕ × Bool)) → flat_map run_levels (join (n, level) runs) ≡ replicate n level ++ flat_map run_levels runs
join_levels n level [] = refl
join_levels n level (run ∷ runs) = by_level level run.1
  where
    joined : (b : Bool) → replicate (n + run.0) b ++ flat_map run_levels runs ≡ replicate n b ++ (replicate run.0 b ++ flat_map run_levels runs)
    joined b = ap (λ (t : List Bool). t ++ flat_map run_levels runs) (sym (replicate-append-replicate n run.0 b)) ∙ append_assoc (replicate n b) (replicate run.0 b) (flat_map run_levels runs)

    by_level : (b c : Bool) → flat_map run_levels (if beq b c then (n + run.0, c) ∷ runs else (n, b) ∷ (run.0, c) ∷ runs) ≡ replicate n b ++ (replicate run.0 c ++ flat_map run_levels runs)
    by_level true true = joined true
    by_level true false = refl
    by_level false true = refl
    by_level false false = joined false

runs_levels : (levels : List Bool) → flat_map run_levels (runs_of levels) ≡ levels
unfolding runs_of
runs_levels [] = refl
runs_levels (level ∷ levels) = join_levels 1 level (runs_of levels) ∙ ap (λ (t : List Bool). level ∷ t) (runs_levels levels)

-- runs whose lengths add up to so many at most
total : List (ℕ × Bool) → ℕ
total [] = 0
total (run ∷ runs) = run.0 + total runs

join_total : (run : ℕ × Bool) (runs : List (ℕ × Bool)) → total (join run runs) ≡ run.0 + total runs
unfolding total
join_total run [] = omega arith
join_total run (first ∷ runs) = by_level (beq run.1 first.1)
  where
    by_level : (b : Bool) → total (if b then (run.0 + first.0, first.1) ∷ runs else run ∷ first ∷ runs) ≡ run.0 + total (first ∷ runs)
    by_level true = omega arith
    by_level false = refl

runs_total : (levels : List Bool) → total (runs_of levels) ≡ length levels
unfolding runs_of total
runs_total [] = refl
runs_total (level ∷ levels) = join_total (1, level) (runs_of levels) ∙ omega (arith, runs_total levels)

abbrev AreLong : List (ℕ × Bool) → Type 0
AreLong [] = Unit {0}
AreLong (run ∷ runs) = (0 < run.0) × AreLong runs

join_long : (run : ℕ × Bool) (runs : List (ℕ × Bool)) → 0 < run.0 → AreLong runs → AreLong (join run runs)
join_long run [] some is = (some, tt)
join_long run (first ∷ runs) some is = by_level (beq run.1 first.1)
  where
    by_level : (b : Bool) → AreLong (if b then (run.0 + first.0, first.1) ∷ runs else run ∷ first ∷ runs)
    by_level true = (omega arith, is.1)
    by_level false = (some, (is.0, is.1))

runs_long : (levels : List Bool) → AreLong (runs_of levels)
unfolding runs_of
runs_long [] = tt
runs_long (level ∷ levels) = join_long (1, level) (runs_of levels) (omega arith) (runs_long levels)

all_some : (runs : List (ℕ × Bool)) → AreLong runs → total runs < 2 ^ 63 → AreSome runs
unfolding total
all_some [] is small = tt
all_some (run ∷ runs) is small = (is.0, omega arith, all_some runs is.1 (omega arith))

-- ---- levels

pub levels_again : (levels : List Bool) (rest : List ℕ) → length levels < 2 ^ 63 → length (levels_body levels) < 2 ^ 32 → levels_at (length levels) (levels_bytes levels ++ rest) ≡ Ok (levels, rest)
unfolding levels_at
levels_again levels rest few short =
    let body : List ℕ = levels_body levels in
    let count : ℕ = length levels in
    let some = all_some (runs_of levels) (runs_long levels) (omega (arith, runs_total levels)) in
    let enough : nat_le count count ≡ true = le-leb count count (omega arith) in
    ap (λ (r : Reading (List ℕ)). r >>= λ content. with_behind (length content.1) (runs_at (length content.0) content.0) >>= λ found. first_levels count found content.1) (prefixed_at_again (number_at little_number 4) (little_bytes 4) body rest (number_length little_number little_bytes 4 (length body) little4 (omega arith)))
    ∙ ap (λ (r : Result (List Bool) FieldError). with_behind (length rest) r >>= λ found. first_levels count found rest) (runs_again (runs_of levels) some (length body) (omega arith) ∙ ap (λ (t : List Bool). Ok t) (runs_levels levels))
    ∙ ap (λ (b : Bool). let r : Reading (List Bool) = if b then Ok (take count levels, rest) else Err (Short (length rest)) in r) enough
    ∙ ap (λ (t : List Bool). Ok (t, rest)) (take_all count levels (omega arith))
