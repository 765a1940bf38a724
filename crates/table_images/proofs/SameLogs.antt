-- A step that is no append leaves the logs that a table knows, and their files.
use Rattle.std.proofs.Common.{◌≡◌, ◌≤◌, ◌+◌, ℕ, Bool, true, false, cond, List, ◌∷◌, Some, refl, sym, ap, ◌∙◌, arith}
use Rattle.std.specs.FinMap.{get}
use Rattle.hudi_base.specs.Files.{FileMap}
use Rattle.hudi_base.specs.declared.file_group.GroupRef.{GroupRef}
use Rattle.hudi_base.specs.declared.file_group.Target.{Target}
use Rattle.file_names.specs.FileName.{name_of, kind_of, timeline, IsNamed, Kind}
use Rattle.file_names.specs.declared.file_name.FileName.{FileName}
use Rattle.file_names.specs.declared.file_name.FileName.TheVariants as file
use Rattle.file_names.specs.declared.file_name.Token.{Token}
use Rattle.table_history.specs.After.{after_history, greatest_in}
use Rattle.table_history.specs.Histories.{History}
use Rattle.table_history.specs.Logs.{files_of, attempts, is_unused, version_in_use, log_file}
use Rattle.table_history.specs.Tables.{Table}
use Rattle.table_history.specs.declared.entry.Entry.{Entry}
use Rattle.table_history.specs.declared.job.Job.{Job}
use Rattle.table_history.specs.declared.reply.Reply.{Reply}
use Rattle.table_history.specs.declared.step.Step.{Step}
use Rattle.table_history.specs.declared.step.Step.TheVariants.{Begin, Enter, Append, Finish, Pin, Unpin, Read, Abandon}
use Rattle.table_history.proofs.Apart.{same_slice}
use Rattle.table_images.specs.LogTexts.{HasFile}
use Rattle.table_images.specs.Runs.{log_in_use}

abbrev pub entry : Job → Step → Reply → Entry
entry j s r = record { job = j; step = s; reply = r }

-- ---- what a table knows of its logs

pub record SameLogs (A : Table) (H K : History) : Type 0 where
  pub files : files_of A K ≡ files_of A H
  pub tries : attempts A K ≡ attempts A H
  pub unused : (s : Target) → is_unused A K s ≡ is_unused A H s
  pub version : (s : Target) → version_in_use A K s ≡ version_in_use A H s
  pub in_use : (s : Target) → log_in_use A K s ≡ log_in_use A H s

abbrev pub IsNoAppend : Step → Type 0
IsNoAppend (Append t target writes bytes) = ⊥
IsNoAppend _ = Unit {0}

attempt_by : (unused : Bool) (tries more opened : ℕ) → more ≡ tries → cond unused more (cond unused tries opened) ≡ cond unused tries opened
attempt_by true tries more opened same = same
attempt_by false tries more opened same = refl

log_at : (A : Table) (s : Target) (v w a b : ℕ) → v ≡ w → a ≡ b → log_file A s v a ≡ log_file A s w b
log_at A s v w a b e f = λ i. log_file A s (e i) (f i)

add_none : (n : ℕ) → n + 0 ≡ n
add_none n = omega arith

pub same_logs : (A : Table) (H : History) (j : Job) (s : Step) (r : Reply) → IsNoAppend s → SameLogs A H (entry j s r ∷ H)
same_logs A H j (Append t target writes bytes) r other = absurd other
same_logs A H j Begin r other = record {
  files = refl;
  tries = add_none _;
  unused = λ s. refl;
  version = λ s. (same_slice A H (entry j Begin r) s refl).version;
  in_use = λ s. log_at A s _ _ _ _ (same_slice A H (entry j Begin r) s refl).version (attempt_by (is_unused A H s) _ _ _ (add_none _));
}
same_logs A H j (Enter t slots) r other = record {
  files = refl;
  tries = add_none _;
  unused = λ s. refl;
  version = λ s. (same_slice A H (entry j (Enter t slots) r) s refl).version;
  in_use = λ s. log_at A s _ _ _ _ (same_slice A H (entry j (Enter t slots) r) s refl).version (attempt_by (is_unused A H s) _ _ _ (add_none _));
}
same_logs A H j (Finish t checkpoint) r other = record {
  files = refl;
  tries = add_none _;
  unused = λ s. refl;
  version = λ s. (same_slice A H (entry j (Finish t checkpoint) r) s refl).version;
  in_use = λ s. log_at A s _ _ _ _ (same_slice A H (entry j (Finish t checkpoint) r) s refl).version (attempt_by (is_unused A H s) _ _ _ (add_none _));
}
same_logs A H j (Pin at bases_only) r other = record {
  files = refl;
  tries = add_none _;
  unused = λ s. refl;
  version = λ s. (same_slice A H (entry j (Pin at bases_only) r) s refl).version;
  in_use = λ s. log_at A s _ _ _ _ (same_slice A H (entry j (Pin at bases_only) r) s refl).version (attempt_by (is_unused A H s) _ _ _ (add_none _));
}
same_logs A H j (Unpin pin) r other = record {
  files = refl;
  tries = add_none _;
  unused = λ s. refl;
  version = λ s. (same_slice A H (entry j (Unpin pin) r) s refl).version;
  in_use = λ s. log_at A s _ _ _ _ (same_slice A H (entry j (Unpin pin) r) s refl).version (attempt_by (is_unused A H s) _ _ _ (add_none _));
}
same_logs A H j (Read from f at len) r other = record {
  files = refl;
  tries = add_none _;
  unused = λ s. refl;
  version = λ s. (same_slice A H (entry j (Read from f at len) r) s refl).version;
  in_use = λ s. log_at A s _ _ _ _ (same_slice A H (entry j (Read from f at len) r) s refl).version (attempt_by (is_unused A H s) _ _ _ (add_none _));
}
same_logs A H j (Abandon t) r other = record {
  files = refl;
  tries = add_none _;
  unused = λ s. refl;
  version = λ s. (same_slice A H (entry j (Abandon t) r) s refl).version;
  in_use = λ s. log_at A s _ _ _ _ (same_slice A H (entry j (Abandon t) r) s refl).version (attempt_by (is_unused A H s) _ _ _ (add_none _));
}

-- ---- the files too

-- base and log files are as they were, and no file went away or changed
pub record LeavesLogs (A : Table) (H K : History) (image new : FileMap) : Type 0 where
  pub logs : SameLogs A H K
  pub files : (of : FileName) → IsNamed of → (kind_of of ≡ timeline → ⊥) → get new (name_of A.props.name of) ≡ get image (name_of A.props.name of)
  pub more : (name bytes : List ℕ) → get image name ≡ Some bytes → get new name ≡ Some bytes
  pub greatest : greatest_in (after_history A H).instants ≤ greatest_in (after_history A K).instants

abbrev is_timeline : Kind → Bool
is_timeline timeline = true
is_timeline _ = false

pub log_is_none : (group : GroupRef) (slice version : ℕ) (token : Token) → kind_of (file.Log group slice version token) ≡ timeline → ⊥
log_is_none group slice version token e = let wrong : false ≡ true = ap is_timeline e in cc

pub base_is_none : (group : GroupRef) (token : Token) (t : ℕ) → kind_of (file.Base group token t) ≡ timeline → ⊥
base_is_none group token t e = let wrong : false ≡ true = ap is_timeline e in cc

pub had : (A : Table) (H K : History) (image new : FileMap) (of : FileName) (bytes : List ℕ) → LeavesLogs A H K image new → (kind_of of ≡ timeline → ⊥)
    → HasFile new (after_history A K) of bytes → HasFile image (after_history A H) of bytes
had A H K image new of bytes leaves kind has = record { named = has.named; there = sym (leaves.files of has.named kind) ∙ has.there }
