-- Why a line of a script is no job. The members of a line are tried one after another, and the first that is wrong is
-- the cause. This project's own.
use Rattle.std.specs.Prelude.{◌≡◌, ℕ, List, Option, Some, None, Result, Ok, Err}
use Rattle.serde_json.specs.Data.{Data}
use Rattle.table_forms.specs.JsonObjects.{least_unknown}
use Rattle.script_jobs.specs.declared.script.LineCause.{LineCause}
use Rattle.script_jobs.specs.declared.script.LineCause.TheVariants.{Object, Field}
use Rattle.script_jobs.specs.declared.fault.Fault.{Fault}
use Rattle.script_jobs.specs.declared.fault.Fault.TheVariants as lent

-- what a member says, where it isn't wrong
abbrev pub wanted : {A : Type 0} → List ℕ → Option A → Result A LineCause
wanted name (Some x) = Ok x
wanted name None = Err (Field name)

-- a step, and the next one with what it found
infixl 10 ◌>>=◌
abbrev pub ◌>>=◌ : {A B : Type 0} → Result A LineCause → (A → Result B LineCause) → Result B LineCause
(Ok x) >>= f = f x
(Err cause) >>= f = Err cause

-- what was found, where no member is unknown; else the first unknown one, in byte order, is wrong
abbrev pub if_known : {A : Type 0} → Option (List ℕ) → A → Result A LineCause
if_known None x = Ok x
if_known (Some name) x = Err (Field name)

abbrev pub with_only : {A : Type 0} → List (List ℕ) → Data → A → Result A LineCause
with_only known line x = if_known (least_unknown known line) x

-- ---- readers

-- Reading gave what this means, or its cause, unless memory ran out.
abbrev pub Answers : {A B : Type 0} → (A → B) → Result A Fault → Result B LineCause → Type 0
Answers see (Ok x) means = means ≡ Ok (see x)
Answers see (Err lent.Memory) means = Unit {0}
Answers see (Err lent.Object) means = means ≡ Err Object
Answers see (Err (lent.Field name)) means = means ≡ Err (Field name.now)
