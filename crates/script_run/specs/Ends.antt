-- Reading all that a source has, and writing all of a text.
use Rattle.std.specs.Prelude.{◌≡◌, ℕ, ◌<◌, ◌≤◌, List, [], ◌++◌, length, take, Option, IfSome, option_map}
use Rattle.hudi_base.specs.Faults.{Rose}
use Rattle.hudi_base.specs.Streams.{SinkState, SourceState}
use Rattle.script_jobs.specs.Scripts.{most_script_bytes}
use Rattle.script_run.specs.declared.input.Input.{Input}
use Rattle.script_run.specs.declared.input.Input.TheVariants as input

-- the bytes that a source had left are these, and it has none left
pub record IsReadWhole (old new : Option (List ℕ)) (bytes : List ℕ) : Type 0 where
  pub all : IfSome old (λ left. left ≡ bytes)
  pub none_left : IfSome new (λ left. left ≡ [])
  pub few : length bytes ≤ most_script_bytes

-- more bytes were left than a script may have
abbrev pub IsTooLong : Option (List ℕ) → Type 0
IsTooLong old = IfSome old (λ left. most_script_bytes < length left)

-- what reading a source to its end came to, from what is seen of it before and after
abbrev pub ReadsAll : Input → SourceState → SourceState → Type 0
ReadsAll (input.Whole bytes) old new = IsReadWhole old.left new.left bytes
ReadsAll input.TooLong old new = IsTooLong old.left
ReadsAll input.Failed old new = Rose old.faults new.faults
ReadsAll input.Memory old new = Unit {0}

-- these bytes were written behind those before
abbrev pub Writes : Option (List ℕ) → Option (List ℕ) → List ℕ → Type 0
Writes old new bytes = new ≡ option_map (λ written. written ++ bytes) old

-- a prefix of the bytes was written, not all of them, and then the sink failed
pub record WritesPrefix (old new : SinkState) (bytes : List ℕ) : Type 0 where
  pub count : ℕ
  pub few : count < length bytes
  pub prefix : Writes old.written new.written (take count bytes)
  pub cause : Rose old.faults new.faults
