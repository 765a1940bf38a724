-- The counts of faults of the outside. This project's own.
use Rattle.std.specs.Prelude.{ℕ, ◌+◌, ◌-◌, ◌^◌, ◌≤◌, min}

-- a count after one more fault: it stands still at the greatest `u64`
abbrev pub one_more : ℕ → ℕ
one_more count = min (count + 1) (2 ^ 64 - 1)

-- the count rose, or stands at its last value, where it can't rise
abbrev pub Rose : ℕ → ℕ → Type 0
Rose old new = one_more old ≤ new

-- What a call does to the count: it doesn't fall, rises by one at most, and rose where the call failed.
pub record CountsFault (old new : ℕ) (failed : Type 0) : Type 0 where
  pub never_falls : old ≤ new
  pub one_at_most : new ≤ old + 1
  pub cause : failed → Rose old new
