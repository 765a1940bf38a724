-- The buckets of the first tiling run on.
use Rattle.std.proofs.Common.{◌≡◌, ℕ, zero, suc, ◌+◌, ◌-◌, ◌*◌, ◌<◌, ◌≤◌, List, map, refl, subst, arith}
use Rattle.std.proofs.Math.Nat.{add-mul, mul-div_cancel_left, zero-div}
use Rattle.std.proofs.lemmas.Nat.{le-div, div-add-mod'}
use Rattle.std.specs.List.{range_with_len}
use Rattle.key_index.specs.Slots.{slot_count}
use Rattle.key_index.specs.Tiling.{first_start, first_group, first_groups}
use Rattle.key_index.specs.TileRuns.{RunsOn}

pub start-whole : (buckets : ℕ) → 0 < buckets → first_start buckets buckets ≡ slot_count
start-whole buckets some = mul-div_cancel_left slot_count some

pub start-rises : (buckets i : ℕ) → 0 < buckets → buckets ≤ slot_count → first_start buckets i + 1 ≤ first_start buckets (i + 1)
start-rises buckets i some most =
    le-div (first_start buckets i + 1) ((i + 1) * slot_count) buckets some
    (let whole = div-add-mod' (i * slot_count) buckets in
    let more = add-mul (first_start buckets i) 1 buckets in
    omega arith)

first_groups-run : (partition : List ℕ) (buckets i n : ℕ) → 0 < buckets → buckets ≤ slot_count → i + n ≡ buckets
    → RunsOn (first_start buckets i) (map (first_group partition buckets) (range_with_len i n))
unfolding RunsOn
first_groups-run partition buckets i zero some most all =
    let e : i ≡ buckets = omega arith in
    let whole = start-whole buckets some in
    rw e (omega arith)
first_groups-run partition buckets i (suc n) some most all =
    let rises = start-rises buckets i some most in
    let next : first_start buckets (i + 1) - 1 + 1 ≡ first_start buckets (i + 1) = omega arith in (
      refl,
      omega arith,
      rw next (first_groups-run partition buckets (i + 1) n some most (omega arith)),
    )

pub first-run : (partition : List ℕ) (buckets : ℕ) → 1 ≤ buckets → buckets ≤ 1024 → RunsOn 0 (first_groups partition buckets)
unfolding first_groups
first-run partition buckets some most =
    subst (λ n. RunsOn n (map (first_group partition buckets) (range_with_len 0 buckets))) (zero-div buckets)
    (first_groups-run partition buckets 0 buckets some (omega arith) (omega arith))
