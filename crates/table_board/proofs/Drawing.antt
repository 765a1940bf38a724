-- The times that entries drew.
use Rattle.std.proofs.Common.{◌≡◌, ◌≤◌, ◌<◌, ◌+◌, ◌⊎◌, inl, inr, ℕ, ℤ, pos, negsuc, Bool, true, false, min, max, List, [], ◌∷◌, Some, None, refl, sym, subst, arith}
use Rattle.std.specs.Prelude.{nat_le, ◌≤ℤ◌}
use Rattle.std.specs.Int.{int_max}
use Rattle.std.specs.Int.Signed.{≤ℤ_refl}
use Rattle.std.proofs.lemmas.Bool.Decides.{nat_tests}
use Rattle.std.proofs.lemmas.Int.{ints, int_max_is}
use Rattle.hudi_base.specs.Clock.{ClockState}
use Rattle.hudi_base.specs.InstantTime.{first_time, last_time, time_after}
use Rattle.table_history.specs.Histories.{History}
use Rattle.table_history.specs.JobLaw.{IsReplyOf}
use Rattle.table_history.specs.Operations.{DrawsAt}
use Rattle.table_history.specs.Tables.{Table, fresh}
use Rattle.table_history.specs.Times.{greatest_time, time_drawn}
use Rattle.table_history.specs.declared.reply.Reply.{Reply}
use Rattle.table_history.specs.declared.reply.Reply.TheVariants as reply
use Rattle.table_history.specs.declared.step.Step.{Step}
use Rattle.table_history.specs.declared.step.Step.TheVariants.{Begin, Enter, Append, Finish, Pin, Unpin, Read, Abandon}
use Rattle.table_board.specs.Boards.{AsksClock, IsDrawn, DrawsTime, DrawnTimes, Shows}
use Rattle.table_props.specs.PropsTexts.{Told as Properties}

-- ---- one time

by_test : (f g l n t : ℕ) (b : Bool) → nat_le t (g + 1) ≡ b → f ≤ g → t ≡ max (g + 1) (min (max f n) l) → (t ≡ g + 1) ⊎ (t ≤ n)
by_test f g l n t true test low is = let h : t ≤ g + 1 = grind (arith, nat_tests) in inl (omega arith)
by_test f g l n t false test low is = let h : g + 1 < t = grind (arith, nat_tests) in inr (omega arith)

shown_at : (most : ℤ) (n g t : ℕ) → pos n ≤ℤ most → (t ≡ g + 1) ⊎ (t ≤ n) → (t ≡ g + 1) ⊎ (pos t ≤ℤ most)
shown_at most n g t le (inl next) = inl next
shown_at most n g t le (inr shown) = inr (omega (arith, ints))

just_above : (f g t : ℕ) → f ≤ g → t ≡ max (g + 1) f → t ≡ g + 1
just_above f g t low is = omega arith

is_above : (g t x : ℕ) → t ≡ max (g + 1) x → g < t
is_above g t x is = omega arith

pub drawn_is : (most now : ℤ) (g t : ℕ) → first_time ≤ g → now ≤ℤ most → t ≡ time_after g now → IsDrawn most g t
drawn_is most (pos n) g t low le is = record {
  above = is_above g t _ is;
  next_or_shown = shown_at most n g t le (by_test first_time g last_time n t (nat_le t (g + 1)) refl low is);
}
drawn_is most (negsuc n) g t low le is = record { above = is_above g t _ is; next_or_shown = inl (just_above first_time g t low is) }

-- ---- the greatest time

rises_to : (f g d : ℕ) → f ≤ g → f ≤ max g d
rises_to f g d low = omega arith

pub greatest_is_late : (props : Properties) (H : History) → first_time ≤ greatest_time (fresh props) H
greatest_is_late props [] = omega arith
greatest_is_late props (e ∷ H) = rises_to first_time (greatest_time (fresh props) H) (time_drawn e.reply) (greatest_is_late props H)

-- ---- the clock goes on

int_max_left : (x y : ℤ) → x ≤ℤ int_max x y
int_max_left x y = omega (arith, ints, int_max_is x y)

pub asked_later : (s : Step) (old new : ClockState) → AsksClock s old new → old.most ≤ℤ new.most
asked_later Begin old new is = let P : ClockState → Type 0 = λ clock. old.most ≤ℤ clock.most in subst P (sym is) (int_max_left old.most new.last)
asked_later _ old new is = let P : ClockState → Type 0 = λ clock. old.most ≤ℤ clock.most in subst P (sym is) (≤ℤ_refl old.most)

drawn_later : (most more : ℤ) (last time : ℕ) → most ≤ℤ more → IsDrawn most last time → IsDrawn more last time
drawn_later most more last time le drawn = record {
  above = drawn.above;
  next_or_shown = elim drawn.next_or_shown [ inl next ↦ inl next | inr shown ↦ inr (omega (arith, ints)) ];
}

draws_later : (A : Table) (most more : ℤ) (H : History) (r : Reply) → most ≤ℤ more → DrawsTime A most H r → DrawsTime A more H r
draws_later A most more H (reply.Began t) le draws = drawn_later most more (greatest_time A H) t le draws
draws_later A most more H _ le draws = tt

pub times_later : (A : Table) (most more : ℤ) (H : History) → most ≤ℤ more → DrawnTimes A most H → DrawnTimes A more H
times_later A most more [] le drawn = tt
times_later A most more (e ∷ H) le drawn = (times_later A most more H le drawn.0, draws_later A most more H e.reply le drawn.1)

-- ---- one step

pub draws_shown : (A : Table) (H : History) (s : Step) (r : Reply) (now : ℤ) (clock : ClockState) → IsReplyOf s r → Shows s now clock → DrawsAt A H now r
    → DrawsAt A H clock.last r
draws_shown A H Begin (reply.Began t) now clock fits shows draws = let P : ℤ → Type 0 = λ z. t ≡ time_after (greatest_time A H) z in subst P shows.0 draws
draws_shown A H (Enter u slots) (reply.Began t) now clock fits shows draws = absurd fits
draws_shown A H (Append u target writes bytes) (reply.Began t) now clock fits shows draws = absurd fits
draws_shown A H (Finish u checkpoint) (reply.Began t) now clock fits shows draws = absurd fits
draws_shown A H (Pin None bases_only) (reply.Began t) now clock fits shows draws = absurd fits
draws_shown A H (Pin (Some u) bases_only) (reply.Began t) now clock fits shows draws = absurd fits
draws_shown A H (Unpin pin) (reply.Began t) now clock fits shows draws = absurd fits
draws_shown A H (Read from file at len) (reply.Began t) now clock fits shows draws = absurd fits
draws_shown A H (Abandon u) (reply.Began t) now clock fits shows draws = absurd fits
draws_shown A H s _ now clock fits shows draws = tt

pub time_drawn_at : (props : Properties) (H : History) (s : Step) (r : Reply) (now : ℤ) (clock : ClockState) → IsReplyOf s r → Shows s now clock
    → DrawsAt (fresh props) H now r → DrawsTime (fresh props) clock.most H r
time_drawn_at props H Begin (reply.Began t) now clock fits shows draws =
    drawn_is clock.most now (greatest_time (fresh props) H) t (greatest_is_late props H) shows.1 draws
time_drawn_at props H (Enter u slots) (reply.Began t) now clock fits shows draws = absurd fits
time_drawn_at props H (Append u target writes bytes) (reply.Began t) now clock fits shows draws = absurd fits
time_drawn_at props H (Finish u checkpoint) (reply.Began t) now clock fits shows draws = absurd fits
time_drawn_at props H (Pin None bases_only) (reply.Began t) now clock fits shows draws = absurd fits
time_drawn_at props H (Pin (Some u) bases_only) (reply.Began t) now clock fits shows draws = absurd fits
time_drawn_at props H (Unpin pin) (reply.Began t) now clock fits shows draws = absurd fits
time_drawn_at props H (Read from file at len) (reply.Began t) now clock fits shows draws = absurd fits
time_drawn_at props H (Abandon u) (reply.Began t) now clock fits shows draws = absurd fits
time_drawn_at props H s _ now clock fits shows draws = tt
