-- A folder as a store, as contracts see it. This project's own.
use Rattle.std.specs.Prelude.{ℕ, List, None}
use Rattle.hudi_base.specs.Files.{Told}

-- the path of the folder, and how often a call on it has failed, up to the greatest `u64`
pub record DirState : Type 0 where
  pub folder : List ℕ
  pub faults : ℕ

-- what a store tells that tells nothing
abbrev pub tells_nothing : Told
tells_nothing = record { files = None; operations = None; first = None }
