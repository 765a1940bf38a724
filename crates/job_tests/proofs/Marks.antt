-- A job of whose line no mark is has made no entry.
use Rattle.std.proofs.Common.{◌≡◌, ◌≢◌, ℕ, Bool, true, false, ◌&&◌, cond, eqb, List, [], ◌∷◌, ◌++◌, length, map, Some, All, refl, ap, ◌∙◌, arith}
use Rattle.std.specs.Prelude.{reverse}
use Rattle.std.proofs.lemmas.Grind.{common_steps}
use Rattle.std.proofs.lemmas.List.{reverse-append, map-append}
use Rattle.std.proofs.lemmas.List.Elements.{All-pop}
use Rattle.table_board.specs.Boards.{placed_own}
use Rattle.table_core.specs.Marks.{mark_of}
use Rattle.table_history.specs.Histories.{History, is_job}
use Rattle.table_history.specs.JobLaw.{PlacedEntry}
use Rattle.table_history.specs.declared.entry.Mark.{Mark}
use Rattle.table_history.specs.declared.job.Job.{Job}
use Rattle.job_tests.specs.NewJobs.{IsNew}

-- a mark of another line
abbrev pub IsOther : ℕ → Mark → Type 0
IsOther line mark = mark.line ≢ line

and_false : (a b : Bool) → b ≡ false → (a && b) ≡ false
and_false true b is = is
and_false false b is = refl

passed_over : (b : Bool) (first : PlacedEntry) (others : List PlacedEntry) → b ≡ false → cond b (first ∷ others) others ≡ others
passed_over b first others is = rw is refl

other_job : (line other : ℕ) → other ≢ line → eqb line other ≡ false
other_job line other apart = grind (arith, common_steps)

pub new_job : (H : History) (line : ℕ) → All (IsOther line) (map mark_of (reverse H)) → IsNew line H
new_job [] line all = refl
new_job (e ∷ H) line all =
    let job : Job = record { lane = 1; line = line } in
    let marks : map mark_of (reverse (e ∷ H)) ≡ map mark_of (reverse H) ++ mark_of e ∷ [] =
    ap (map mark_of) (reverse-append (e ∷ []) H) ∙ map-append mark_of (reverse H) (e ∷ []) in
    let both = All-pop (IsOther line) (map mark_of (reverse (e ∷ H))) (map mark_of (reverse H)) (Some (mark_of e)) marks all in
    let apart : is_job job e.job ≡ false = and_false (eqb 1 e.job.lane) (eqb line e.job.line) (other_job line e.job.line both.1) in
    passed_over (is_job job e.job) (record { place = length H; entry = e }) (placed_own job H) apart ∙ new_job H line both.0
