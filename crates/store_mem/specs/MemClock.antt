-- A clock in memory. This project's own.
use Rattle.std.specs.Prelude.{ℤ}
use Rattle.hudi_base.specs.Clock.{ClockState}

-- the number at which it stands, and its answers so far
pub record MemoryClock : Type 0 where
  pub stands_at : ℤ
  pub answers : ClockState
