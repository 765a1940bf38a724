-- The lines of a script rise, and its jobs are within the limits.
use Rattle.std.proofs.Common.{◌≡◌, ◌==◌, ℕ, ◌+◌, ◌≤◌, Bool, true, false, cond, List, [], ◌∷◌, ◌++◌, length, Option, Some, None, IfSome, Result, Ok, Err, refl, sym, ap, subst, ◌∙◌, arith}
use Rattle.std.specs.Prelude.{All, flat_map}
use Rattle.std.proofs.lemmas.List.{append-nil}
use Rattle.std.proofs.lemmas.List.Elements.{All-head, All-tail}
use Rattle.script_jobs.specs.Causes.{◌>>=◌}
use Rattle.serde_json.specs.Data.{Data}
use Rattle.table_forms.specs.JsonObjects.{json_of}
use Rattle.script_jobs.specs.Jobs.{Said, init, upsert, delete, snapshot, job_of}
use Rattle.script_jobs.specs.Limits.{IsInPhase, IsWithin, MakesTable}
use Rattle.script_jobs.specs.Scripts.{Begun, SaidJob, SaidScript, is_nothing, job_in, job_of_json, jobs_from, led, nothing, numbered, script_of, with_job, with_line, with_said, whole_of}
use Rattle.script_jobs.specs.declared.script.LineCause.{LineCause}
use Rattle.script_jobs.specs.declared.script.LineCause.TheVariants.{InitPlace}
use Rattle.script_jobs.proofs.LimitParts.{within}
use Rattle.script_run.specs.Outcome.{jobs_of}
use Rattle.script_run.specs.Parts.{AreFrom, IsRead}
use Rattle.table_props.specs.PropsTexts.{IsTold, Told as Properties}

-- the lines rise from the first number on, and end below the second
abbrev Between : ℕ → ℕ → List SaidJob → Type 0
Between low high [] = low ≤ high
Between low high (job ∷ jobs) = (low ≤ job.line) × Between (job.line + 1) high jobs

raised : (low high higher : ℕ) (jobs : List SaidJob) → high ≤ higher → Between low high jobs → Between low higher jobs
raised low high higher [] le between = omega arith
raised low high higher (job ∷ jobs) le between = (between.0, raised (job.line + 1) high higher jobs le between.1)

one_more : (low high : ℕ) (jobs : List SaidJob) (job : SaidJob) → job.line ≡ high → Between low high jobs → Between low (high + 1) (jobs ++ job ∷ [])
one_more low high [] job at between = (omega (arith, at), omega (arith, at))
one_more low high (j ∷ jobs) job at between = (between.0, one_more (j.line + 1) high jobs job at between.1)

-- a bind that gives something, and the same of a script's lines
bind_ok : {A B : Type 0} (r : Result A LineCause) (f : A → Result B LineCause) (y : B) → (r >>= f) ≡ Ok y → (x : A) × ((r ≡ Ok x) × (f x ≡ Ok y))
bind_ok (Ok x) f y is = (x, (refl, is))
bind_ok (Err cause) f y is = absurd cc

abbrev good : {A : Type 0} (E : Type 0) → A → Result A E
good E x = Ok x

ok_same : {A E : Type 0} {x y : A} → good E x ≡ good E y → x ≡ y
ok_same is = cc

-- a line's job has its number
at_line : (lanes number : ℕ) (line : List ℕ) (job : SaidJob) → job_in lanes number line ≡ Ok job → job.line ≡ number
unfolding job_in
at_line lanes number line job is = of (json_of line) is
  where
    of : (d : Option Data) → job_of_json lanes number d ≡ Ok job → job.line ≡ number
    of None none = absurd cc
    of (Some d) made = let found = bind_ok (job_of lanes d) (λ said. Ok (numbered number said)) job made in
        ap (λ (j : SaidJob). j.line) (sym (ok_same found.1.1))

said_between : (number : ℕ) (begun : Begun) (job : SaidJob) (said : Said) (next : Begun) → job.line ≡ number → Between 1 number begun.jobs → with_said begun job said ≡ Ok next → Between 1 (number + 1) next.jobs
said_between number begun job (init props) next at between is = of (is_nothing begun) is
  where
    of : (b : Bool) → cond b (Ok (record { init = Some job; jobs = [] })) (Err InitPlace) ≡ Ok next → Between 1 (number + 1) next.jobs
    of true made = let same = ap (λ (b : Begun). b.jobs) (ok_same made) in subst (Between 1 (number + 1)) same (omega arith)
    of false none = absurd cc
said_between number begun job (upsert rows) next at between is =
    let same = ap (λ (b : Begun). b.jobs) (ok_same is) in subst (Between 1 (number + 1)) same (one_more 1 number begun.jobs job at between)
said_between number begun job (delete keys) next at between is =
    let same = ap (λ (b : Begun). b.jobs) (ok_same is) in subst (Between 1 (number + 1)) same (one_more 1 number begun.jobs job at between)
said_between number begun job (snapshot at_time) next at between is =
    let same = ap (λ (b : Begun). b.jobs) (ok_same is) in subst (Between 1 (number + 1)) same (one_more 1 number begun.jobs job at between)

line_between : (lanes number : ℕ) (begun : Begun) (line : List ℕ) (next : Begun) → Between 1 number begun.jobs → with_line lanes number begun line ≡ Ok next → Between 1 (number + 1) next.jobs
unfolding with_line
line_between lanes number begun line next between is =
    let found = bind_ok (job_in lanes number line) (with_job begun) next is in
    said_between number begun found.0 found.0.what next (at_line lanes number line found.0 found.1.0) between found.1.1

rise_on : (lanes number : ℕ) (begun : Begun) (lines : List (List ℕ)) (end : Begun) → Between 1 number begun.jobs → jobs_from lanes number begun lines ≡ Ok end → (high : ℕ) × Between 1 high end.jobs
unfolding jobs_from
rise_on lanes number begun [] end between is = (number, let same = ap (λ (b : Begun). b.jobs) (ok_same is) in subst (Between 1 number) same between)
rise_on lanes number begun (line ∷ more) end between is = by_test (length line == 0) (λ next until rest. rise_on lanes (number + 1) next more end until rest) is
  where
    led_on : (r : Result Begun LineCause) → ((next : Begun) → Between 1 (number + 1) next.jobs → jobs_from lanes (number + 1) next more ≡ Ok end → (high : ℕ) × Between 1 high end.jobs)
        → with_line lanes number begun line ≡ r → led number r (λ next. jobs_from lanes (number + 1) next more) ≡ Ok end → (high : ℕ) × Between 1 high end.jobs
    led_on (Ok next) rise made rest = rise next (line_between lanes number begun line next between made) rest
    led_on (Err cause) rise made rest = absurd cc

    by_test : (b : Bool) → ((next : Begun) → Between 1 (number + 1) next.jobs → jobs_from lanes (number + 1) next more ≡ Ok end → (high : ℕ) × Between 1 high end.jobs)
        → cond b (jobs_from lanes (number + 1) begun more) (led number (with_line lanes number begun line) (λ next. jobs_from lanes (number + 1) next more)) ≡ Ok end
        → (high : ℕ) × Between 1 high end.jobs
    by_test true rise rest = rise begun (raised 1 number (number + 1) begun.jobs (omega arith) between) rest
    by_test false rise rest = led_on (with_line lanes number begun line) rise refl rest

joined : (low high : ℕ) (jobs : List SaidJob) → Between low high jobs → All (IsInPhase 1) jobs → AreFrom low jobs
joined low high [] between all = tt
joined low high (job ∷ jobs) between all =
    (between.0, All-head (IsInPhase 1) job jobs all, joined (job.line + 1) high jobs between.1 (All-tail (IsInPhase 1) job jobs all))

makes_props : (job : SaidJob) (said : Said) → job.what ≡ said → MakesTable said → (props : Properties) × ((job.what ≡ init props) × IsTold props)
makes_props job (init props) is made = (props, (is, made))
makes_props job (upsert rows) is made = absurd made
makes_props job (delete keys) is made = absurd made
makes_props job (snapshot at) is made = absurd made

made_of : (first : Option SaidJob) → IfSome first (λ job. MakesTable job.what) → IfSome first (λ job. (props : Properties) × ((job.what ≡ init props) × IsTold props))
made_of None made = tt
made_of (Some job) made = makes_props job job.what refl made

-- the script that lines are
pub is_read : (lines : List (List ℕ)) (script : SaidScript) → script_of 1 lines ≡ Ok script → IsRead script
is_read lines script is = of (jobs_from 1 1 nothing lines) refl is
  where
    limits : IsWithin 1 script
    limits = within 1 lines script is

    of : (r : Result Begun (ℕ × LineCause)) → jobs_from 1 1 nothing lines ≡ r → whole_of r ≡ Ok script → IsRead script
    of (Err bad) found none = absurd cc
    of (Ok begun) found made =
        let rise = rise_on 1 1 nothing lines begun (omega arith) found in
        let phases_are : script.phases ≡ begun.jobs ∷ [] = ap (λ (s : SaidScript). s.phases) (sym (ok_same made)) in
        let jobs_are : jobs_of script ≡ begun.jobs = ap (flat_map (λ (jobs : List SaidJob). jobs)) phases_are ∙ append-nil begun.jobs in
        let all : All (λ jobs. All (IsInPhase 1) jobs) (begun.jobs ∷ []) = subst (All (λ (jobs : List SaidJob). All (IsInPhase 1) jobs)) phases_are limits.phases in
        let own : All (IsInPhase 1) begun.jobs = All-head (λ (jobs : List SaidJob). All (IsInPhase 1) jobs) begun.jobs [] all in
        record { makes = made_of script.init limits.init; from = subst (AreFrom 1) (sym jobs_are) (joined 1 rise.0 begun.jobs rise.1 own) }
