-- The jobs so far, and faults, as the program has them; for private clauses.
use Rattle.std.specs.Prelude.{◌≡◌, ℕ, map, Option, Some, None, option_map, Result, Ok, Err}
use Rattle.script_jobs.specs.declared.fault.Fault.{Fault}
use Rattle.script_jobs.specs.declared.fault.Fault.TheVariants as lent
use Rattle.script_jobs.specs.declared.parse.Begun as held
use Rattle.script_jobs.specs.declared.script.LineCause.{LineCause}
use Rattle.script_jobs.specs.declared.script.LineCause.TheVariants.{Object, Field}
use Rattle.script_jobs.specs.declared.script.LineError.{LineError}
use Rattle.script_jobs.specs.declared.script.LineError.TheVariants.{Memory, BadLine}
use Rattle.script_jobs.specs.Scripts.{Begun, said_job}

abbrev pub begun_view : held.Begun → Begun
begun_view begun = record { init = option_map said_job begun.init; jobs = map said_job begun.jobs }

-- adding a job gave these, or the cause at a line with this number, unless memory ran out
abbrev pub ReadsBegun : ℕ → Result held.Begun LineError → Result Begun LineCause → Type 0
ReadsBegun number (Ok begun) means = means ≡ Ok (begun_view begun)
ReadsBegun number (Err Memory) means = Unit {0}
ReadsBegun number (Err (BadLine n cause)) means = (n ≡ number) × (means ≡ Err cause)

abbrev pub cause_of : Fault → Option LineCause
cause_of lent.Memory = None
cause_of lent.Object = Some Object
cause_of (lent.Field name) = Some (Field name.now)

-- a fault at a line with this number, unless memory ran out
abbrev pub ReadsFault : ℕ → Fault → LineError → Type 0
ReadsFault number fault Memory = Unit {0}
ReadsFault number fault (BadLine n cause) = (n ≡ number) × (cause_of fault ≡ Some cause)
