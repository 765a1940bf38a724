-- The counts of faults that the adapters keep. This project's own.
use Rattle.std.specs.Prelude.{◌≡◌, ℕ}
use Rattle.hudi_base.specs.Faults.{one_more}

-- a call counts one more fault where it failed, and none where it did not
pub record CountsOnlyFailure (old new : ℕ) (failed : Type 0) : Type 0 where
  pub counted : failed → new ≡ one_more old
  pub unchanged : ¬ failed → new ≡ old
