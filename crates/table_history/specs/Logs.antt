-- The logs of a slice: their versions, how much of each is known, and the attempts that made them.
use Rattle.std.specs.Prelude.{ℕ, Bool, true, false, ◌+◌, ◌==◌, ◌&&◌, max, nat_lt, if◌then◌else◌, List, [], ◌∷◌, ◌++◌, length, slice_get, Option, Some, None}
use Rattle.std.specs.Option.{option_map_or}
use Rattle.std.specs.Str.{bytes_eq}
use Rattle.hudi_base.specs.declared.file_group.Target.{Target}
use Rattle.file_names.specs.FileName.{name_of}
use Rattle.file_names.specs.declared.file_name.FileName.{FileName}
use Rattle.file_names.specs.declared.file_name.FileName.TheVariants.{Log}
use Rattle.table_history.specs.Histories.{History}
use Rattle.table_history.specs.Instants.{targets_of}
use Rattle.table_history.specs.Tables.{Table, KnownFile}
use Rattle.table_history.specs.Targets.{is_target}
use Rattle.table_history.specs.declared.log_file.LogFile.{LogFile}
use Rattle.table_history.specs.declared.reply.Reply.{Reply}
use Rattle.table_history.specs.declared.reply.Reply.TheVariants.{Placed, Fault}
use Rattle.table_history.specs.declared.step.Step.{Step}
use Rattle.table_history.specs.declared.step.Step.TheVariants.{Append}

-- the target of an instant that has this number
abbrev pub target_at : Table → History → ℕ → ℕ → Option Target
target_at A H t number = slice_get (targets_of A H t) number

-- whether an append by this number goes to the slice
abbrev pub goes_to : Table → History → ℕ → ℕ → Target → Bool
goes_to A H t number s = option_map_or (λ target. is_target target s) (target_at A H t number) false

-- ---- versions

-- the greatest version of a slice's logs, 0 where it has none
abbrev pub greatest_version : List KnownFile → Target → ℕ
greatest_version [] s = 0
greatest_version (known ∷ more) s = max (of known.file) (greatest_version more s)
  where
    of : FileName → ℕ
    of (Log group slice version token) = if is_target (record { group = group; slice = slice }) s then version else 0
    of _ = 0

-- how many appends to a slice failed
abbrev pub failures : Table → History → Target → ℕ
failures A [] s = 0
failures A (e ∷ H) s = failures A H s + failed e.step e.reply
  where
    failed : Step → Reply → ℕ
    failed (Append t target writes bytes) Fault = if goes_to A H t target s then 1 else 0
    failed _ _ = 0

-- The version that the next append to a slice goes to: one past those that the session began with, and past each that an
-- append failed on.
abbrev pub version_in_use : Table → History → Target → ℕ
version_in_use A H s = 1 + greatest_version A.files s + failures A H s

-- the known length of a version of this session's: the bytes that were placed in it
abbrev pub known_length : Table → History → Target → ℕ → ℕ
known_length A [] s v = 0
known_length A (e ∷ H) s v = known_length A H s v + added e.step e.reply
  where
    added : Step → Reply → ℕ
    added (Append t target writes bytes) (Placed u at) = if goes_to A H t target s && (u == v) then length bytes else 0
    added _ _ = 0

-- ---- attempts

-- nothing was tried yet on the version in use
abbrev pub is_unused : Table → History → Target → Bool
is_unused A [] s = true
is_unused A (e ∷ H) s = after e.step e.reply (is_unused A H s)
  where
    after : Step → Reply → Bool → Bool
    after (Append t target writes bytes) (Placed u at) before = if goes_to A H t target s then false else before
    after (Append t target writes bytes) Fault before = if goes_to A H t target s then true else before
    after _ _ before = before

-- how many names this session has tried to make: each first append to a version tries one
abbrev pub attempts : Table → History → ℕ
attempts A [] = 0
attempts A (e ∷ H) = attempts A H + tried e.step
  where
    tried : Step → ℕ
    tried (Append t target writes bytes) = option_map_or (λ s. if is_unused A H s then 1 else 0) (target_at A H t target) 0
    tried _ = 0

-- the attempt of the first append to the version in use, where there was one
abbrev pub opened_at : Table → History → Target → ℕ
opened_at A [] s = 0
opened_at A (e ∷ H) s = if is_unused A H s then attempts A H else opened_at A H s

-- the attempt in the name of the version in use
abbrev pub attempt_in_use : Table → History → Target → ℕ
attempt_in_use A H s = if is_unused A H s then attempts A H else opened_at A H s

-- the file of a version of this session's, and its name
abbrev pub log_file : Table → Target → ℕ → ℕ → FileName
log_file A s version attempt = Log s.group s.slice version (record { session = A.session; attempt = attempt })

abbrev pub log_name : Table → Target → ℕ → ℕ → List ℕ
log_name A s version attempt = name_of A.props.name (log_file A s version attempt)

-- ---- the files of a slice

-- a log among logs, the greatest version first
abbrev pub insert_log : LogFile → List LogFile → List LogFile
insert_log log [] = log ∷ []
insert_log log (first ∷ more) = if nat_lt first.version log.version then log ∷ first ∷ more else first ∷ insert_log log more

abbrev pub logs_in : List KnownFile → Target → List LogFile
logs_in [] s = []
logs_in (known ∷ more) s = among known.file (logs_in more s)
  where
    among : FileName → List LogFile → List LogFile
    among (Log group slice version token) logs =
        if is_target (record { group = group; slice = slice }) s
        then insert_log (record { version = version; session = token.session; attempt = token.attempt; length = length known.bytes }) logs else logs
    among _ logs = logs

-- a block more in the first of the logs
abbrev pub lengthened : ℕ → List LogFile → List LogFile
lengthened block [] = []
lengthened block (log ∷ more) = record log { length = log.length + block } ∷ more

-- The logs of a slice, the greatest version first: the first block of a version makes its file, and each later one is added to it.
abbrev pub logs_of : Table → History → Target → List LogFile
logs_of A [] s = logs_in A.files s
logs_of A (e ∷ H) s = after e.step e.reply (logs_of A H s)
  where
    made : ℕ → ℕ → LogFile
    made version block = record { version = version; session = A.session; attempt = attempts A H; length = block }

    after : Step → Reply → List LogFile → List LogFile
    after (Append t target writes bytes) (Placed u at) before =
        if goes_to A H t target s then (if is_unused A H s then made u (length bytes) ∷ before else lengthened (length bytes) before) else before
    after _ _ before = before

-- ---- files by their names

abbrev pub bytes_in : List KnownFile → List ℕ → List ℕ
bytes_in [] name = []
bytes_in (known ∷ more) name = if bytes_eq known.name name then known.bytes else bytes_in more name

-- bytes more in the file of this name, which is made where there is none
abbrev pub with_bytes : FileName → List ℕ → List ℕ → List KnownFile → List KnownFile
with_bytes file name bytes [] = record { file = file; name = name; bytes = bytes } ∷ []
with_bytes file name bytes (known ∷ more) =
    if bytes_eq known.name name then record known { bytes = known.bytes ++ bytes } ∷ more else known ∷ with_bytes file name bytes more

-- the files up to their known lengths: what was placed is there, and what a failed append left isn't known
abbrev pub files_of : Table → History → List KnownFile
files_of A [] = A.files
files_of A (e ∷ H) = after e.step e.reply (files_of A H)
  where
    in_log : ℕ → List ℕ → Option Target → List KnownFile → List KnownFile
    in_log version bytes None before = before
    in_log version bytes (Some s) before = with_bytes (log_file A s version (attempt_in_use A H s)) (log_name A s version (attempt_in_use A H s)) bytes before

    after : Step → Reply → List KnownFile → List KnownFile
    after (Append t target writes bytes) (Placed version at) before = in_log version bytes (target_at A H t target) before
    after _ _ before = before

-- the bytes of a file up to its known length
abbrev pub bytes_of : Table → History → List ℕ → List ℕ
bytes_of A H name = bytes_in (files_of A H) name
