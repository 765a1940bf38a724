-- The entries of a job among those of a board.
use Rattle.std.proofs.Common.{◌≡◌, ◌-◌, ◌==◌, ◌&&◌, ℕ, suc, Bool, true, false, cond, List, [], ◌∷◌, length, refl, sym, ap, subst, arith}
use Rattle.std.proofs.lemmas.Bool.Decides.{nat_tests}
use Rattle.table_history.specs.Histories.{History, own, is_job}
use Rattle.table_history.specs.JobLaw.{GoesOn, EndsWith, PlacedEntry, entries_of, with_entry, phase, next_phase}
use Rattle.table_history.specs.declared.entry.Entry.{Entry}
use Rattle.table_history.specs.declared.job.Job.{Job}
use Rattle.table_history.specs.declared.reply.Reply.{Reply}
use Rattle.table_history.specs.declared.reply.Reply.TheVariants as reply
use Rattle.table_history.specs.declared.step.Step.{Step}
use Rattle.table_board.specs.Boards.{after_step, placed_own}

pub goes_on : (j : Job) (s : Step) (r : Reply) (H K : History) → K ≡ after_step j s r H → GoesOn H K
goes_on j s reply.Memory H K is = record { more = []; is = is }
goes_on j s r H K is = record { more = record { job = j; step = s; reply = r } ∷ []; is = is }

pub ends_with : (j : Job) (s : Step) (r : Reply) (H K : History) → K ≡ after_step j s r H → EndsWith j s r K
ends_with j s reply.Memory H K is = tt
ends_with j s r H K is = (H, is)

same_bool : (n : ℕ) → (n == n) ≡ true
same_bool n = grind (arith, nat_tests)

both_true : (a b : Bool) → a ≡ true → b ≡ true → (a && b) ≡ true
both_true a b x y = cc

is_own : (j : Job) → is_job j j ≡ true
is_own j = rw (same_bool j.lane, same_bool j.line) refl

chosen : (e : Entry) (n : ℕ) (H : List Entry) (P : List PlacedEntry) (b : Bool) → entries_of P ≡ H
    → entries_of (cond b (record { place = n; entry = e } ∷ P) P) ≡ cond b (e ∷ H) H
chosen e n H P true before = ap (λ es. e ∷ es) before
chosen e n H P false before = before

pub own_of_placed : (j : Job) (H : History) → entries_of (placed_own j H) ≡ own j H
own_of_placed j [] = refl
own_of_placed j (e ∷ H) = chosen e (length H) (own j H) (placed_own j H) (is_job j e.job) (own_of_placed j H)

last_place : (n : ℕ) → n ≡ suc n - 1
last_place n = omega arith

one_placed : (j : Job) (s : Step) (r : Reply) (H : History) → placed_own j (record { job = j; step = s; reply = r } ∷ H)
    ≡ record { place = length (record { job = j; step = s; reply = r } ∷ H) - 1; entry = record { job = j; step = s; reply = r } } ∷ placed_own j H
one_placed j s r H =
    let e : Entry = record { job = j; step = s; reply = r } in
    rw (is_own j) (ap (λ (n : ℕ). record { place = n; entry = e } ∷ placed_own j H) (last_place (length H)))

placed_after : (j : Job) (s : Step) (r : Reply) (H : History) → placed_own j (after_step j s r H) ≡ with_entry j s r (after_step j s r H) (placed_own j H)
placed_after j s reply.Memory H = refl
placed_after j s r H = one_placed j s r H

pub placed_more : (j : Job) (s : Step) (r : Reply) (H K : History) → K ≡ after_step j s r H → placed_own j K ≡ with_entry j s r K (placed_own j H)
placed_more j s r H K is =
    let P : History → Type 0 = λ K. placed_own j K ≡ with_entry j s r K (placed_own j H) in
    subst P (sym is) (placed_after j s r H)

-- how far a job is after its next entry
pub own_more : (j : Job) (s : Step) (r : Reply) (H : History) → phase (own j (record { job = j; step = s; reply = r } ∷ H)) ≡ next_phase (phase (own j H)) s r
own_more j s r H = rw (is_own j) refl
