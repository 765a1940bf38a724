-- The greatest time that the timeline has, or had since the session began.
use Rattle.std.specs.Prelude.{ℕ, max, List, [], ◌∷◌, nat_lt, if◌then◌else◌}
use Rattle.table_history.specs.Histories.{History}
use Rattle.table_history.specs.Tables.{Table}
use Rattle.table_history.specs.declared.reply.Reply.{Reply}
use Rattle.table_history.specs.declared.reply.Reply.TheVariants.{Began}

-- the time that a reply draws, 0 where it draws none
abbrev pub time_drawn : Reply → ℕ
time_drawn (Began t) = t
time_drawn _ = 0

abbrev pub greatest_time : Table → History → ℕ
greatest_time A [] = A.last
greatest_time A (e ∷ H) = max (greatest_time A H) (time_drawn e.reply)

-- a time among times, the greatest first
abbrev pub insert_time : ℕ → List ℕ → List ℕ
insert_time t [] = t ∷ []
insert_time t (u ∷ us) = if nat_lt u t then t ∷ u ∷ us else u ∷ insert_time t us
