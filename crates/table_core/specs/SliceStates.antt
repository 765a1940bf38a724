-- What the control keeps of a slice.
use Rattle.std.specs.Prelude.{◌≡◌, ◌≤◌, ◌<◌, ℕ, ◌+◌, ◌^◌, Bool, true, false, List, [], ◌∷◌, if◌then◌else◌}
use Rattle.table_history.specs.Logs.{lengthened}
use Rattle.table_history.specs.declared.log_file.LogFile.{LogFile}

-- The logs of a slice, the greatest version first; the version that the next append goes to, and whether nothing was
-- tried on it yet; and room for so many logs more.
pub record SliceState : Type 0 where
  pub logs : List LogFile
  pub version : ℕ
  pub unused : Bool
  pub room : ℕ

-- a slice without logs
abbrev pub no_logs : SliceState
no_logs = record { logs = []; version = 1; unused = true; room = 0 }

-- the length and the attempt of the first of the logs
abbrev pub first_length : List LogFile → ℕ
first_length [] = 0
first_length (log ∷ more) = log.length

abbrev pub first_attempt : List LogFile → ℕ
first_attempt [] = 0
first_attempt (log ∷ more) = log.attempt

-- the known length of the version in use
abbrev pub length_in_use : SliceState → ℕ
length_in_use slice = if slice.unused then 0 else first_length slice.logs

-- the attempt in the name of the version in use, when so many were made
abbrev pub attempt_of : SliceState → ℕ → ℕ
attempt_of slice attempts = if slice.unused then attempts else first_attempt slice.logs

-- there is room for a block, and for an append that fails
pub record HasBlockRoom (slice : SliceState) (block : ℕ) : Type 0 where
  pub log : 1 ≤ slice.room
  pub length : length_in_use slice + block < 2 ^ 64
  pub version : slice.version + 1 < 2 ^ 64

-- they differ in room alone
pub record SameLogs (old new : SliceState) : Type 0 where
  pub logs : new.logs ≡ old.logs
  pub version : new.version ≡ old.version
  pub unused : new.unused ≡ old.unused

-- a block was placed in the version in use, which the first one makes by an attempt of the session
pub record TakesBlock (old new : SliceState) (session attempt block : ℕ) : Type 0 where
  pub logs : new.logs ≡ (if old.unused
      then record { version = old.version; session = session; attempt = attempt; length = block } ∷ old.logs
      else lengthened block old.logs)
  pub version : new.version ≡ old.version
  pub unused : new.unused ≡ false

-- the version in use is given up
pub record GivesUp (old new : SliceState) : Type 0 where
  pub logs : new.logs ≡ old.logs
  pub version : new.version ≡ old.version + 1
  pub unused : new.unused ≡ true

-- how many names of files an append tries
abbrev pub names_tried : SliceState → ℕ
names_tried slice = if slice.unused then 1 else 0
