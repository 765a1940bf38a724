-- Calls that are counted, and those of them that are to fail. This project's own.
use Rattle.std.specs.Prelude.{ℕ, ◌==◌, Bool, List}
use Rattle.std.specs.List.{list_any}
use Rattle.hudi_base.specs.Faults.{one_more}

-- Calls of one kind: the numbers of those that are to fail, from 0, and how many there were, up to the greatest `u64`.
pub record CallState : Type 0 where
  pub failing : List ℕ
  pub count : ℕ

-- no call was made yet
abbrev pub no_calls : List ℕ → CallState
no_calls failing = record { failing = failing; count = 0 }

-- The next call is to fail: its number is that of the calls before it.
abbrev pub fails_next : CallState → Bool
fails_next calls = list_any (λ number. number == calls.count) calls.failing

-- one call later
abbrev pub after_call : CallState → CallState
after_call calls = record calls { count = one_more calls.count }
