-- A clock, by its answers. This project's own.
use Rattle.std.specs.Prelude.{ℤ}
use Rattle.std.specs.Int.{int_max}

-- what is seen of a clock: its last answer and the greatest of its answers, in milliseconds since the beginning of
-- 1970; before the first answer both are the least `i64`
pub record ClockState : Type 0 where
  pub last : ℤ
  pub most : ℤ

-- a clock after it gave this answer
abbrev pub after_answer : ClockState → ℤ → ClockState
after_answer clock answer = record { last = answer; most = int_max clock.most answer }
