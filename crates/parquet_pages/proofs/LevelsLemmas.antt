-- Runs of levels, one after another.
use Rattle.std.proofs.Common.{◌^◌, ◌-◌, ◌≡◌, ℕ, zero, suc, ◌+◌, ◌%◌, ◌/◌, ◌<◌, ◌≤◌, Bool, true, false, ltb, List, [], ◌∷◌, ◌++◌, length, take, drop, replicate, Ok, Err, Result, refl, sym, ap, subst, ◌∙◌, append_assoc, arith, inl, inr}
use Rattle.std.specs.Prelude.{◌==◌, not, nat_le, if◌then◌else◌}
use Rattle.std.proofs.Math.Seq.{drop-append_seam, drop-cons}
use Rattle.std.proofs.lemmas.List.{append-nil, length-take, length-append, length-drop}
use Rattle.std.specs.Bool.{beq}
use Rattle.std.specs.List.{flat_map}
use Rattle.std.proofs.Common.{get_or, add-one}
use Rattle.byteorder.specs.Endian.{big_number, little_number, little_bytes}
use Rattle.byte_fields.specs.declared.field_error.FieldError.{FieldError}
use Rattle.byte_fields.specs.declared.field_error.FieldError.TheVariants.{Short, Bad}
use Rattle.byte_fields.specs.Reading.{left_of, Reading, ◌>>=◌, only_if}
use Rattle.byte_fields.specs.Numbers.{number_at}
use Rattle.byte_fields.specs.Varints.{varint_at, IsGroups}
use Rattle.byte_fields.specs.Prefixed.{with_length, bytes_at, prefixed_at}
use Rattle.byte_fields.proofs.ReadingLemmas.{IsBytes, Reads, bind-Ok, read_once}
use Rattle.byte_fields.proofs.NumberLemmas.{little4}
use Rattle.byte_fields.proofs.PrefixedLemmas.{TakesPrefixed, prefixed_at_reads, number_length_reads}
use Rattle.thrift_compact.proofs.GrammarLemmas.{if_Ok}
use Rattle.byte_fields.proofs.VarintLemmas.{varint_at_took}
use Rattle.thrift_compact.specs.Within.{Within, Stays}
use Rattle.thrift_compact.proofs.WithinLemmas.{Within-then, Within-weaken, Within-only_if, Within-if, varint_at_stays, bytes_at_stays, Stays-Ok, Stays-Err}
use Rattle.parquet_meta.specs.Reading.{with_value}
use Rattle.parquet_pages.specs.Levels.{bits_of, repeated_at, packed_at, run_at, runs_at, taken, error_behind, with_behind, first_levels, levels_at, join, runs_of, run_bytes, levels_body}
use Rattle.parquet_pages.specs.declared.read_error.ReadError.{ReadError}
use Rattle.parquet_pages.specs.declared.read_error.ReadError.TheVariants.{Memory as NoMemory, Field}
use Rattle.parquet_pages.specs.Answers.{Fails}
use Rattle.parquet_pages.proofs.BitsLemmas.{take_take, take_all}

-- ---- what is read stays within the bytes

number_at_stays : (number_of : ℕ → List ℕ → ℕ) (n : ℕ) → Stays (number_at number_of n)
unfolding number_at
number_at_stays number_of n bytes = Within-if {A = ℕ} (length bytes) (length bytes) (ltb (length bytes) n) (Err (Short (length bytes))) (Ok (number_of n bytes, drop n bytes)) (omega arith) (omega (arith, length-drop n bytes))

repeated_at_stays : (n : ℕ) (header bytes : List ℕ) (limit : ℕ) → length header ≤ limit → length bytes ≤ limit → Within limit (length bytes) (repeated_at n header bytes)
unfolding repeated_at
repeated_at_stays n header bytes limit le le' = by_test (not (n == 0))
  where
    rest : Within limit (length bytes) (number_at big_number 1 bytes >>= λ byte. only_if (nat_le byte.0 1) bytes (replicate n (byte.0 == 1), byte.1))
    rest =
        Within-then limit (length bytes) (length bytes) (number_at big_number 1 bytes) (λ byte. only_if (nat_le byte.0 1) bytes (replicate n (byte.0 == 1), byte.1)) (Within-weaken (length bytes) (length bytes) limit (length bytes) (number_at big_number 1 bytes) le' (omega arith) (number_at_stays big_number 1 bytes))
        (λ byte h. Within-only_if limit (length bytes) (nat_le byte.0 1) bytes (replicate n (byte.0 == 1), byte.1) le' h)

    by_test : (b : Bool) → Within limit (length bytes) (only_if b header bytes >>= λ bytes. number_at big_number 1 bytes >>= λ byte. only_if (nat_le byte.0 1) bytes (replicate n (byte.0 == 1), byte.1))
    by_test true = rest
    by_test false = le

packed_at_stays : (n : ℕ) → Stays (packed_at n)
unfolding packed_at
packed_at_stays n bytes = Within-then (length bytes) (length bytes) (length bytes) (bytes_at n bytes) (λ content. Ok (bits_of content.0, content.1)) (bytes_at_stays n bytes) (λ content le. le)

run_at_stays : Stays run_at
unfolding run_at
run_at_stays bytes =
    Within-then (length bytes) (length bytes) (length bytes) (varint_at 64 bytes) (λ header. if header.0 % 2 == 0 then repeated_at (header.0 / 2) bytes header.1 else packed_at (header.0 / 2) header.1) (varint_at_stays 64 bytes)
    (λ header le. Within-if (length bytes) (length bytes) (header.0 % 2 == 0) (repeated_at (header.0 / 2) bytes header.1) (packed_at (header.0 / 2) header.1)
    (Within-weaken (length bytes) (length header.1) (length bytes) (length bytes) (repeated_at (header.0 / 2) bytes header.1) (omega arith) le (repeated_at_stays (header.0 / 2) bytes header.1 (length bytes) (omega arith) le))
    (Within-weaken (length header.1) (length header.1) (length bytes) (length bytes) (packed_at (header.0 / 2) header.1) le le (packed_at_stays (header.0 / 2) header.1)))

-- a run takes a byte at least: its header
pub run_at-shorter : (bytes rest : List ℕ) (run : List Bool) → run_at bytes ≡ Ok (run, rest) → length rest < length bytes
unfolding run_at
run_at-shorter bytes rest run e =
    let first = bind-Ok (varint_at 64 bytes) (λ header. if header.0 % 2 == 0 then repeated_at (header.0 / 2) bytes header.1 else packed_at (header.0 / 2) header.1) (run, rest) e in
    let t = varint_at_took 64 bytes first.0.0 first.0.1 first.1 in
    let within = Within-if (length bytes) (length first.0.1) (first.0.0 % 2 == 0) (repeated_at (first.0.0 / 2) bytes first.0.1) (packed_at (first.0.0 / 2) first.0.1)
    (repeated_at_stays (first.0.0 / 2) bytes first.0.1 (length bytes) (omega arith) (omega (arith, Stays-Ok (varint_at 64) bytes first.0.1 first.0.0 (varint_at_stays 64) first.1)))
    (Within-weaken (length first.0.1) (length first.0.1) (length bytes) (length first.0.1) (packed_at (first.0.0 / 2) first.0.1) (Stays-Ok (varint_at 64) bytes first.0.1 first.0.0 (varint_at_stays 64) first.1) (omega arith) (packed_at_stays (first.0.0 / 2) first.0.1)) in
    let le : length rest ≤ length first.0.1 = subst (Within {A = List Bool} (length bytes) (length first.0.1)) first.2 within in
    let some : 0 < length t.groups = nonempty t.groups t.is_groups in
    let sum : length bytes ≡ length t.groups + length first.0.1 = ap length t.parts ∙ length-append t.groups first.0.1 in
    omega arith
  where
    nonempty : (groups : List ℕ) → IsGroups groups → 0 < length groups
    nonempty [] is = absurd is
    nonempty (x ∷ xs) is = omega arith

runs_at-within : (steps : ℕ) (bytes : List ℕ) (error : FieldError) → runs_at steps bytes ≡ Err error → left_of error ≤ length bytes
unfolding runs_at
runs_at-within zero bytes error e = absurd cc
runs_at-within (suc steps) [] error e = absurd cc
runs_at-within (suc steps) (byte ∷ bytes) error e = by_run (λ more f. runs_at-within steps more error f) (run_at (byte ∷ bytes)) refl e
  where
    by_more : (run : List Bool) (r : Result (List Bool) FieldError) → (r >>= λ more. Ok (run ++ more)) ≡ Err error → r ≡ Err error
    by_more run (Ok more) f = absurd cc
    by_more run (Err other) f = cc

    by_run : ((more : List ℕ) → runs_at steps more ≡ Err error → left_of error ≤ length more) → (r : Reading (List Bool)) → run_at (byte ∷ bytes) ≡ r → (r >>= λ run. runs_at steps run.1 >>= λ more. Ok (run.0 ++ more)) ≡ Err error → left_of error ≤ length (byte ∷ bytes)
    by_run again (Ok run) is f = (let le = again run.1 (by_more run.0 (runs_at steps run.1) f) in omega (arith, run_at-shorter (byte ∷ bytes) run.1 run.0 is))
    by_run again (Err other) is f = (let same : other ≡ error = cc in subst (λ (x : FieldError). left_of x ≤ length (byte ∷ bytes)) same (Stays-Err run_at (byte ∷ bytes) other run_at_stays is))

pub runs_within : (count : ℕ) (bytes : List ℕ) (error : FieldError) → taken count (runs_at (length bytes) bytes) ≡ Err error → left_of error ≤ length bytes
runs_within count bytes error e = by_runs (runs_at (length bytes) bytes) refl e
  where
    by_runs : (r : Result (List Bool) FieldError) → runs_at (length bytes) bytes ≡ r → taken count r ≡ Err error → left_of error ≤ length bytes
    by_runs (Ok levels) is f = absurd cc
    by_runs (Err other) is f = runs_at-within (length bytes) bytes error (is ∙ cc)

-- ---- enough steps

runs_at-enough : (m n : ℕ) (bytes : List ℕ) → length bytes ≤ m → length bytes ≤ n → runs_at m bytes ≡ runs_at n bytes
unfolding runs_at
runs_at-enough zero zero bytes le le' = refl
runs_at-enough zero (suc n) [] le le' = refl
runs_at-enough zero (suc n) (byte ∷ bytes) le le' = absurd (omega arith)
runs_at-enough (suc m) zero [] le le' = refl
runs_at-enough (suc m) zero (byte ∷ bytes) le le' = absurd (omega arith)
runs_at-enough (suc m) (suc n) [] le le' = refl
runs_at-enough (suc m) (suc n) (byte ∷ bytes) le le' = by_run (λ more l l'. runs_at-enough m n more l l') (run_at (byte ∷ bytes)) refl
  where
    by_run : ((more : List ℕ) → length more ≤ m → length more ≤ n → runs_at m more ≡ runs_at n more) → (r : Reading (List Bool)) → run_at (byte ∷ bytes) ≡ r → (r >>= λ run. runs_at m run.1 >>= λ more. Ok (run.0 ++ more)) ≡ (r >>= λ run. runs_at n run.1 >>= λ more. Ok (run.0 ++ more))
    by_run same (Ok run) is =
        let lt = run_at-shorter (byte ∷ bytes) run.1 run.0 is in
        ap (λ (r : Result (List Bool) FieldError). r >>= λ more. Ok (run.0 ++ more)) (same run.1 (omega arith) (omega arith))
    by_run same (Err error) is = refl

-- ---- one run after another

-- the levels so far, and those of the runs that are left
abbrev pub with_rest : ℕ → List Bool → List ℕ → Result (List Bool) FieldError
with_rest count levels bytes = runs_at (length bytes) bytes >>= λ more. Ok (take count (levels ++ more))

pub runs_next : (count : ℕ) (levels longer : List Bool) (bytes rest : List ℕ) → 0 < length bytes → with_value (λ run. take count (levels ++ run)) (run_at bytes) ≡ Ok (longer, rest) → with_rest count levels bytes ≡ with_rest count longer rest
unfolding runs_at
runs_next count levels longer [] rest some e = absurd (omega arith)
runs_next count levels longer (byte ∷ bytes) rest some e = by_run (run_at (byte ∷ bytes)) refl e
  where
    regroup : (run : List Bool) (r : Result (List Bool) FieldError) → ((r >>= λ more. Ok (run ++ more)) >>= λ more. Ok (take count (levels ++ more))) ≡ (r >>= λ more. Ok (take count (take count (levels ++ run) ++ more)))
    regroup run (Ok more) = ap (λ (t : List Bool). Ok t) (ap (take count) (sym (append_assoc levels run more)) ∙ sym (take_take count (levels ++ run) more))
    regroup run (Err error) = refl

    by_run : (r : Reading (List Bool)) → run_at (byte ∷ bytes) ≡ r → with_value (λ run. take count (levels ++ run)) r ≡ Ok (longer, rest) → ((r >>= λ run. runs_at (length bytes) run.1 >>= λ more. Ok (run.0 ++ more)) >>= λ more. Ok (take count (levels ++ more))) ≡ with_rest count longer rest
    by_run (Ok run) is f =
        let same = read_once (take count (levels ++ run.0), run.1) (longer, rest) (Ok (take count (levels ++ run.0), run.1)) refl f in
        let front : take count (levels ++ run.0) ≡ longer = ap (λ (p : List Bool × List ℕ). p.0) same in
        let after : run.1 ≡ rest = ap (λ (p : List Bool × List ℕ). p.1) same in
        let lt = run_at-shorter (byte ∷ bytes) run.1 run.0 is in
        regroup run.0 (runs_at (length bytes) run.1)
        ∙ ap (λ (r : Result (List Bool) FieldError). r >>= λ more. Ok (take count (take count (levels ++ run.0) ++ more))) (runs_at-enough (length bytes) (length run.1) run.1 (omega arith) (omega arith))
        ∙ ap (λ (t : List Bool). with_rest count t run.1) front
        ∙ ap (λ (t : List ℕ). with_rest count longer t) after
    by_run (Err error) is f = absurd cc

pub runs_Err : (count : ℕ) (levels : List Bool) (bytes : List ℕ) (error : FieldError) → 0 < length bytes → with_value (λ run. take count (levels ++ run)) (run_at bytes) ≡ Err error → with_rest count levels bytes ≡ Err error
unfolding runs_at
runs_Err count levels [] error some e = absurd (omega arith)
runs_Err count levels (byte ∷ bytes) error some e = by_run (run_at (byte ∷ bytes)) e
  where
    by_run : (r : Reading (List Bool)) → with_value (λ run. take count (levels ++ run)) r ≡ Err error → ((r >>= λ run. runs_at (length bytes) run.1 >>= λ more. Ok (run.0 ++ more)) >>= λ more. Ok (take count (levels ++ more))) ≡ Err error
    by_run (Ok run) f = absurd cc
    by_run (Err other) f = cc

pub runs_end : (count : ℕ) (levels : List Bool) (bytes : List ℕ) → length bytes ≡ 0 → length levels ≤ count → with_rest count levels bytes ≡ Ok levels
unfolding runs_at
runs_end count levels [] none few = ap (λ (t : List Bool). Ok t) (ap (take count) (append-nil levels) ∙ take_all count levels few)
runs_end count levels (byte ∷ bytes) none few = absurd (omega arith)

pub run_few : (count : ℕ) (levels longer : List Bool) (bytes rest : List ℕ) → with_value (λ run. take count (levels ++ run)) (run_at bytes) ≡ Ok (longer, rest) → length longer ≤ count
run_few count levels longer bytes rest e =
    let first = bind-Ok (run_at bytes) (λ found. Ok (take count (levels ++ found.0), found.1)) (longer, rest) e in
    let same = read_once (take count (levels ++ first.0.0), first.0.1) (longer, rest) (Ok (take count (levels ++ first.0.0), first.0.1)) refl first.2 in
    omega (arith, ap (λ (p : List Bool × List ℕ). length p.0) same, length-take count (levels ++ first.0.0))

pub run_shorter : (count : ℕ) (levels longer : List Bool) (bytes rest : List ℕ) → with_value (λ run. take count (levels ++ run)) (run_at bytes) ≡ Ok (longer, rest) → length rest < length bytes
run_shorter count levels longer bytes rest e =
    let first = bind-Ok (run_at bytes) (λ found. Ok (take count (levels ++ found.0), found.1)) (longer, rest) e in
    let same = read_once (take count (levels ++ first.0.0), first.0.1) (longer, rest) (Ok (take count (levels ++ first.0.0), first.0.1)) refl first.2 in
    subst (λ (t : List ℕ). length t < length bytes) (ap (λ (p : List Bool × List ℕ). p.1) same) (run_at-shorter bytes first.0.1 first.0.0 first.1)

-- an error that one step has, the whole has
pub Fails_then : {Y Z : Type 0} (e : ReadError) (r : Result Y FieldError) (whole : Result Z FieldError) → ((error : FieldError) → r ≡ Err error → whole ≡ Err error) → Fails e r → Fails e whole
Fails_then NoMemory r whole pass h = tt
Fails_then (Field error) r whole pass h = pass error h

-- ---- levels behind their length

pub prefix_parts : (bytes content rest : List ℕ) → IsBytes bytes → prefixed_at (number_at little_number 4) bytes ≡ Ok (content, rest) → bytes ≡ with_length (little_bytes 4) content ++ rest
prefix_parts bytes content rest fits e =
    (subst (Reads (length bytes) (λ x. TakesPrefixed (little_bytes 4) (λ len. len < 256 ^ 4) bytes x.0 x.1)) e
    (prefixed_at_reads (number_at little_number 4) (little_bytes 4) (λ len. len < 256 ^ 4) bytes (number_length_reads little_number little_bytes 4 bytes little4 fits))).takes.parts

prefix_within : (bytes : List ℕ) (error : FieldError) → IsBytes bytes → prefixed_at (number_at little_number 4) bytes ≡ Err error → left_of error ≤ length bytes
prefix_within bytes error fits e =
    subst (Reads (length bytes) (λ x. TakesPrefixed (little_bytes 4) (λ len. len < 256 ^ 4) bytes x.0 x.1)) e
    (prefixed_at_reads (number_at little_number 4) (little_bytes 4) (λ len. len < 256 ^ 4) bytes (number_length_reads little_number little_bytes 4 bytes little4 fits))

pub prefix_lengths : (bytes content rest : List ℕ) → IsBytes bytes → prefixed_at (number_at little_number 4) bytes ≡ Ok (content, rest) → length content + length rest ≤ length bytes
unfolding with_length
prefix_lengths bytes content rest fits e =
    let parts = prefix_parts bytes content rest fits e in
    let long : length bytes ≡ length (little_bytes 4 (length content) ++ content) + length rest = ap length parts ∙ length-append (little_bytes 4 (length content) ++ content) rest in
    omega (arith, long, length-append (little_bytes 4 (length content)) content)

pub levels_at_took : (count : ℕ) (bytes rest : List ℕ) (levels : List Bool) → IsBytes bytes → levels_at count bytes ≡ Ok (levels, rest) → (prefix : List ℕ) × (bytes ≡ prefix ++ rest)
unfolding levels_at
levels_at_took count bytes rest levels fits e =
    let first = bind-Ok (prefixed_at (number_at little_number 4) bytes) (λ content. with_behind (length content.1) (runs_at (length content.0) content.0) >>= λ levels. first_levels count levels content.1) (levels, rest) e in
    let second = bind-Ok (with_behind (length first.0.1) (runs_at (length first.0.0) first.0.0)) (λ levels. first_levels count levels first.0.1) (levels, rest) first.2 in
    let after : first.0.1 ≡ rest =
    elim (if_Ok (nat_le count (length second.0)) (Ok (take count second.0, first.0.1)) (Err (Short (length first.0.1))) (levels, rest) second.2) [
      | inl enough ↦ ap (λ (p : List Bool × List ℕ). p.1) (read_once (take count second.0, first.0.1) (levels, rest) (Ok (take count second.0, first.0.1)) refl enough.1)
      | inr few ↦ absurd cc
    ] in
    (with_length (little_bytes 4) first.0.0, prefix_parts bytes first.0.0 first.0.1 fits first.1 ∙ ap (λ (t : List ℕ). with_length (little_bytes 4) first.0.0 ++ t) after)

pub levels_at_within : (count : ℕ) (bytes : List ℕ) (error : FieldError) → IsBytes bytes → levels_at count bytes ≡ Err error → left_of error ≤ length bytes
unfolding levels_at
levels_at_within count bytes error fits e = by_prefix (prefixed_at (number_at little_number 4) bytes) refl e
  where
    behind_left : (more : ℕ) (x : FieldError) → left_of (error_behind more x) ≡ left_of x + more
    behind_left more (Short left) = refl
    behind_left more (Bad left) = refl

    by_first : (levels : List Bool) (rest : List ℕ) (b : Bool) → length rest ≤ length bytes → (let r : Reading (List Bool) = if b then Ok (take count levels, rest) else Err (Short (length rest)) in r) ≡ Err error → left_of error ≤ length bytes
    by_first levels rest true le f = absurd cc
    by_first levels rest false le f = (let same : Short (length rest) ≡ error = cc in subst (λ (x : FieldError). left_of x ≤ length bytes) same le)

    by_runs : (content rest : List ℕ) (r : Result (List Bool) FieldError) → runs_at (length content) content ≡ r → length content + length rest ≤ length bytes → (with_behind (length rest) r >>= λ levels. first_levels count levels rest) ≡ Err error → left_of error ≤ length bytes
    by_runs content rest (Ok levels) is le f = by_first levels rest (nat_le count (length levels)) (omega arith) f
    by_runs content rest (Err other) is le f =
        let same : error_behind (length rest) other ≡ error = cc in
        let within = runs_at-within (length content) content other is in
        subst (λ (x : FieldError). left_of x ≤ length bytes) same (omega (arith, behind_left (length rest) other, within))

    by_prefix : (r : Reading (List ℕ)) → prefixed_at (number_at little_number 4) bytes ≡ r → (r >>= λ content. with_behind (length content.1) (runs_at (length content.0) content.0) >>= λ levels. first_levels count levels content.1) ≡ Err error → left_of error ≤ length bytes
    by_prefix (Ok content) is f = by_runs content.0 content.1 (runs_at (length content.0) content.0) refl (prefix_lengths bytes content.0 content.1 fits is) f
    by_prefix (Err other) is f = (let same : other ≡ error = cc in subst (λ (x : FieldError). left_of x ≤ length bytes) same (prefix_within bytes other fits is))

-- ---- written runs

-- a run before others that stand behind a run of the same level
pub join_same : (n : ℕ) (level : Bool) (runs : List (ℕ × Bool)) → join (n, level) (join (1, level) runs) ≡ join (n + 1, level) runs
join_same n level [] = by_level level
  where
    by_level : (b : Bool) → join (n, b) (join (1, b) []) ≡ join (n + 1, b) []
    by_level true = refl
    by_level false = refl
join_same n level (run ∷ runs) = by_level level run.1
  where
    add : (b : Bool) → n + (1 + run.0) ≡ n + 1 + run.0
    add b = omega arith

    by_level : (b c : Bool) → join (n, b) (if beq b c then (1 + run.0, c) ∷ runs else (1, b) ∷ (run.0, c) ∷ runs) ≡ (if beq b c then (n + 1 + run.0, c) ∷ runs else (n + 1, b) ∷ (run.0, c) ∷ runs)
    by_level true true = ap (λ (k : ℕ). (k, true) ∷ runs) (add true)
    by_level true false = refl
    by_level false true = refl
    by_level false false = ap (λ (k : ℕ). (k, false) ∷ runs) (add false)

-- a run before others that stand behind a run of the other level
pub join_other : (n : ℕ) (level next : Bool) (runs : List (ℕ × Bool)) → beq level next ≡ false → join (n, level) (join (1, next) runs) ≡ (n, level) ∷ join (1, next) runs
join_other n level next [] other = ap (λ (b : Bool). if b then (n + 1, next) ∷ [] else (n, level) ∷ (1, next) ∷ []) other
join_other n level next (run ∷ runs) other = by_next (beq next run.1) refl
  where
    same_as : (a b c : Bool) → beq b c ≡ true → beq a c ≡ beq a b
    same_as a true true is = refl
    same_as a true false is = absurd cc
    same_as a false true is = absurd cc
    same_as a false false is = refl

    by_next : (b : Bool) → beq next run.1 ≡ b → join (n, level) (if b then (1 + run.0, run.1) ∷ runs else (1, next) ∷ run ∷ runs) ≡ (n, level) ∷ (if b then (1 + run.0, run.1) ∷ runs else (1, next) ∷ run ∷ runs)
    by_next true is = ap (λ (b : Bool). if b then (n + (1 + run.0), run.1) ∷ runs else (n, level) ∷ (1 + run.0, run.1) ∷ runs) (same_as level next run.1 is ∙ other)
    by_next false is = ap (λ (b : Bool). if b then (n + 1, next) ∷ run ∷ runs else (n, level) ∷ (1, next) ∷ run ∷ runs) other

-- what is read leaves the other bytes as they are
pub levels_answer : (count : ℕ) (bytes rest : List ℕ) (levels : List Bool) → IsBytes bytes → levels_at count bytes ≡ Ok (levels, rest) → (length rest ≤ length bytes) × (levels_at count bytes ≡ Ok (levels, drop (length bytes - length rest) bytes))
levels_answer count bytes rest levels fits e =
    let t = levels_at_took count bytes rest levels fits e in
    let long : length bytes ≡ length t.0 + length rest = ap length t.1 ∙ length-append t.0 rest in
    let front : length bytes - length rest ≡ length t.0 = omega arith in
    let after : drop (length bytes - length rest) bytes ≡ rest = ap (λ (n : ℕ). drop n bytes) front ∙ ap (drop (length t.0)) t.1 ∙ drop-append_seam t.0 rest in
    (omega arith, e ∙ ap (λ (r : List ℕ). Ok (levels, r)) (sym after))

-- ---- the loop over levels

-- the runs of levels, the first of which are so many equal ones
abbrev pub with_run : ℕ → Bool → List Bool → List ℕ
with_run times level levels = flat_map run_bytes (join (times, level) (runs_of levels))

pub levels_body-cons : (level : Bool) (levels : List Bool) → levels_body (level ∷ levels) ≡ with_run 1 level levels
unfolding runs_of
levels_body-cons level levels = refl

pub with_run-end : (times : ℕ) (level : Bool) (levels : List Bool) → length levels ≡ 0 → with_run times level levels ≡ run_bytes (times, level)
unfolding runs_of
with_run-end times level [] none = append-nil (run_bytes (times, level))
with_run-end times level (next ∷ levels) none = absurd (omega arith)

drop-next : (i : ℕ) (levels : List Bool) → i < length levels → drop i levels ≡ get_or levels i false ∷ drop (i + 1) levels
drop-next i levels lt = drop-cons levels i false lt ∙ ap (λ (k : ℕ). get_or levels i false ∷ drop k levels) (sym (add-one i))

beq_true : (a b : Bool) → beq a b ≡ true → a ≡ b
beq_true true true is = refl
beq_true true false is = absurd cc
beq_true false true is = absurd cc
beq_true false false is = refl

beq_other : (a b : Bool) → beq a b ≡ false → beq b a ≡ false
beq_other true true is = absurd cc
beq_other true false is = refl
beq_other false true is = refl
beq_other false false is = absurd cc

-- a level that makes the run longer
pub run_same : (times times' i : ℕ) (level level' : Bool) (levels : List Bool) (out out' whole : List ℕ) → i < length levels → beq (get_or levels i false) level ≡ true → times' ≡ times + 1 → level' ≡ level → out' ≡ out → out ++ with_run times level (drop i levels) ≡ whole → out' ++ with_run times' level' (drop (i + 1) levels) ≡ whole
unfolding runs_of
run_same times times' i level level' levels out out' whole lt same more as_before kept_out kept =
    let after : List Bool = drop (i + 1) levels in
    ap (λ (t : List ℕ). t ++ with_run times' level' after) kept_out
    ∙ ap (λ (n : ℕ). out ++ with_run n level' after) more
    ∙ ap (λ (b : Bool). out ++ with_run (times + 1) b after) as_before
    ∙ ap (λ (t : List ℕ). out ++ t) (sym (ap (with_run times level) (drop-next i levels lt ∙ ap (λ (b : Bool). b ∷ after) (beq_true (get_or levels i false) level same)) ∙ ap (flat_map run_bytes) (join_same times level (runs_of after))))
    ∙ kept

-- a level that begins another run
pub run_other : (times times' i : ℕ) (level level' : Bool) (levels : List Bool) (out out' whole : List ℕ) → i < length levels → beq (get_or levels i false) level ≡ false → times' ≡ 1 → level' ≡ get_or levels i false → out' ≡ out ++ run_bytes (times, level) → out ++ with_run times level (drop i levels) ≡ whole → out' ++ with_run times' level' (drop (i + 1) levels) ≡ whole
unfolding runs_of
run_other times times' i level level' levels out out' whole lt other one is put kept =
    let after : List Bool = drop (i + 1) levels in
    let next : Bool = get_or levels i false in
    ap (λ (t : List ℕ). t ++ with_run times' level' after) put
    ∙ ap (λ (n : ℕ). (out ++ run_bytes (times, level)) ++ with_run n level' after) one
    ∙ ap (λ (b : Bool). (out ++ run_bytes (times, level)) ++ with_run 1 b after) is
    ∙ append_assoc out (run_bytes (times, level)) (with_run 1 next after)
    ∙ ap (λ (t : List ℕ). out ++ t) (sym (ap (with_run times level) (drop-next i levels lt) ∙ ap (flat_map run_bytes) (join_other times level next (runs_of after) (beq_other next level other))))
    ∙ kept

-- the last run
pub run_last : (times i : ℕ) (level : Bool) (levels : List Bool) (out out' whole : List ℕ) → length levels ≤ i → out' ≡ out ++ run_bytes (times, level) → out ++ with_run times level (drop i levels) ≡ whole → out' ≡ whole
run_last times i level levels out out' whole past put kept =
    let none : length (drop i levels) ≡ 0 = omega (arith, length-drop i levels) in
    put ∙ ap (λ (t : List ℕ). out ++ t) (sym (with_run-end times level (drop i levels) none)) ∙ kept

-- the length fits its four bytes
pub prefix_below : (bytes content rest : List ℕ) → IsBytes bytes → prefixed_at (number_at little_number 4) bytes ≡ Ok (content, rest) → length content < 256 ^ 4
prefix_below bytes content rest fits e =
    (subst (Reads (length bytes) (λ x. TakesPrefixed (little_bytes 4) (λ len. len < 256 ^ 4) bytes x.0 x.1)) e
    (prefixed_at_reads (number_at little_number 4) (little_bytes 4) (λ len. len < 256 ^ 4) bytes (number_length_reads little_number little_bytes 4 bytes little4 fits))).below
