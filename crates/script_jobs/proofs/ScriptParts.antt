-- A script, one line after another.
use Rattle.std.proofs.Common.{◌≡◌, ℕ, ◌+◌, List, [], ◌∷◌, length, nat_eq, false, true, Ok, Err, refl, arith}
use Rattle.script_jobs.specs.declared.script.LineError.{LineError}
use Rattle.script_jobs.specs.declared.script.LineError.TheVariants.{Memory, BadLine}
use Rattle.script_jobs.specs.Begun.{ReadsBegun}
use Rattle.script_jobs.specs.Scripts.{Begun, Reads, ReadsJob, SaidJob, job_in, jobs_from, whole_of, with_job, with_line}

-- the job of a line, or why it is none
pub line_job : (lanes number : ℕ) (begun : Begun) (line : List ℕ) (job : SaidJob) → job_in lanes number line ≡ Ok job → with_line lanes number begun line ≡ with_job begun job
unfolding with_line
line_job lanes number begun line job is = rw is refl

pub line_bad : (lanes number : ℕ) (begun : Begun) (line : List ℕ) (error : LineError) → ReadsJob number (Err error) (job_in lanes number line) → ReadsBegun number (Err error) (with_line lanes number begun line)
unfolding with_line
line_bad lanes number begun line Memory is = tt
line_bad lanes number begun line (BadLine n cause) is = (is.0, rw is.1 refl)

module _ (lanes number : ℕ) (begun : Begun) (line : List ℕ) (more : List (List ℕ)) where
  -- an empty line counts
  pub jobs_past : length line ≡ 0 → jobs_from lanes number begun (line ∷ more) ≡ jobs_from lanes (number + 1) begun more
  unfolding jobs_from
  jobs_past is = let e : nat_eq (length line) 0 ≡ true = grind (arith, is) in rw e refl

  -- a job more
  pub jobs_more : (next : Begun) → nat_eq (length line) 0 ≡ false → with_line lanes number begun line ≡ Ok next
      → jobs_from lanes number begun (line ∷ more) ≡ jobs_from lanes (number + 1) next more
  unfolding jobs_from
  jobs_more next filled is = rw filled (rw is refl)

  -- a line outside the language
  pub jobs_stop : (error : LineError) → nat_eq (length line) 0 ≡ false → ReadsBegun number (Err error) (with_line lanes number begun line)
      → Reads (Err error) (whole_of (jobs_from lanes number begun (line ∷ more)))
  unfolding jobs_from
  jobs_stop Memory filled is = tt
  jobs_stop (BadLine n cause) filled is = rw filled (rw is.1 (rw is.0 refl))

pub jobs_end : (lanes number : ℕ) (begun : Begun) → jobs_from lanes number begun [] ≡ Ok begun
unfolding jobs_from
jobs_end lanes number begun = refl

pub ruleset reading = (jobs_past, jobs_more, jobs_end)
