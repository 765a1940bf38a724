-- What an append changes of the logs that a table knows.
use Rattle.std.proofs.Common.{◌≡◌, inl, inr, ◌<◌, ◌≤◌, ◌+◌, ℕ, Bool, true, false, cond, List, ◌∷◌, Some, refl, sym, ap, ◌∙◌, arith, length, if◌then◌else◌, ◌==◌}
use Rattle.hudi_base.specs.Files.{FileMap}
use Rattle.hudi_base.specs.declared.file_group.Target.{Target}
use Rattle.file_names.specs.FileName.{name_of}
use Rattle.table_history.specs.After.{after_history}
use Rattle.table_history.specs.Histories.{History}
use Rattle.table_history.specs.Logs.{attempt_in_use, attempts, failures, files_of, goes_to, greatest_version, is_unused, lengthened, log_file, logs_of, opened_at, target_at, version_in_use, with_bytes, known_length}
use Rattle.table_history.specs.declared.log_file.LogFile.{LogFile}
use Rattle.table_history.specs.Tables.{Table}
use Rattle.table_history.specs.Targets.{is_target}
use Rattle.table_history.specs.declared.job.Job.{Job}
use Rattle.table_history.specs.declared.reply.Reply.{Reply}
use Rattle.table_history.specs.declared.reply.Reply.TheVariants.{Placed, Fault}
use Rattle.table_history.specs.declared.step.Step.TheVariants.{Append}
use Rattle.table_history.proofs.Apart.{same_slice}
use Rattle.table_images.specs.Kept.{Kept, OpenLogs}
use Rattle.table_images.specs.Numbers.{IsMade}
use Rattle.table_images.specs.Runs.{log_in_use}
use Rattle.table_images.proofs.SameLogs.{entry}
use Rattle.table_images.proofs.WhereTo.{one_target, itself_target, not_below}

-- what an append to a slice leaves of the others, whatever its reply
pub record LeavesSlices (A : Table) (H K : History) (s : Target) : Type 0 where
  pub tries : attempts A H ≤ attempts A K
  pub made : is_unused A H s ≡ true → attempts A H < attempts A K
  pub unused : (r : Target) → (s ≡ r → ⊥) → is_unused A K r ≡ is_unused A H r
  pub version : (r : Target) → (s ≡ r → ⊥) → version_in_use A K r ≡ version_in_use A H r
  pub in_use : (r : Target) → (s ≡ r → ⊥) → is_unused A H r ≡ false → log_in_use A K r ≡ log_in_use A H r
  pub logs : (r : Target) → (s ≡ r → ⊥) → logs_of A K r ≡ logs_of A H r
  pub length : (r : Target) → (s ≡ r → ⊥) → (v : ℕ) → known_length A K r v ≡ known_length A H r v

-- the logs of the slice with a block more: in a new log, or in the first one
abbrev pub logs_then : Table → History → Target → ℕ → List LogFile
logs_then A H s block =
    if is_unused A H s
    then record { version = version_in_use A H s; session = A.session; attempt = attempts A H; length = block } ∷ logs_of A H s
    else lengthened block (logs_of A H s)

-- the block was placed
pub record IsPlacing (A : Table) (H K : History) (s : Target) (bytes : List ℕ) : Type 0 where
  pub others : LeavesSlices A H K s
  pub files : files_of A K ≡ with_bytes (log_in_use A H s) (name_of A.props.name (log_in_use A H s)) bytes (files_of A H)
  pub used : is_unused A K s ≡ false
  pub same : version_in_use A K s ≡ version_in_use A H s
  pub here : log_in_use A K s ≡ log_in_use A H s
  pub logs : logs_of A K s ≡ logs_then A H s (length bytes)
  pub longer : (v : ℕ) → known_length A K s v ≡ known_length A H s v + cond (version_in_use A H s == v) (length bytes) 0

-- the append failed
pub record IsFailing (A : Table) (H K : History) (s : Target) : Type 0 where
  pub others : LeavesSlices A H K s
  pub files : files_of A K ≡ files_of A H
  pub unused : is_unused A K s ≡ true
  pub rises : version_in_use A H s < version_in_use A K s
  pub logs : logs_of A K s ≡ logs_of A H s
  pub length : (v : ℕ) → known_length A K s v ≡ known_length A H s v

module _ (A : Table) (H : History) (j : Job) (t target writes : ℕ) (bytes : List ℕ) (s : Target) (is : target_at A H t target ≡ Some s) where
  elsewhere : (r : Target) → (s ≡ r → ⊥) → goes_to A H t target r ≡ false
  elsewhere r apart = rw is (by_test (is_target s r) refl)
    where
      by_test : (b : Bool) → is_target s r ≡ b → is_target s r ≡ false
      by_test true same = absurd (apart (one_target s r same))
      by_test false other = other

  here : goes_to A H t target s ≡ true
  here = rw is (itself_target s)

  used_log : (K : History) (r : Target) → is_unused A K r ≡ is_unused A H r → version_in_use A K r ≡ version_in_use A H r → (is_unused A H r ≡ false → opened_at A K r ≡ opened_at A H r)
      → is_unused A H r ≡ false → log_in_use A K r ≡ log_in_use A H r
  used_log K r unused version opened used =
      let attempt : attempt_in_use A K r ≡ attempt_in_use A H r =
      ap (λ b. cond b (attempts A K) (opened_at A K r)) (unused ∙ used) ∙ opened used ∙ ap (λ b. cond b (attempts A H) (opened_at A H r)) (sym used) in
      λ i. log_file A r (version i) (attempt i)

  tried : (r : Reply) → attempts A (entry j (Append t target writes bytes) r ∷ H) ≡ attempts A H + cond (is_unused A H s) 1 0
  tried r = rw is refl

  at_least : (b : Bool) (n m : ℕ) → m ≡ n + cond b 1 0 → n ≤ m
  at_least true n m e = omega (arith, e)
  at_least false n m e = omega (arith, e)

  one_more : (b : Bool) (n m : ℕ) → m ≡ n + cond b 1 0 → b ≡ true → n < m
  one_more true n m e alike = omega (arith, e)
  one_more false n m e unlike = let wrong : false ≡ true = unlike in absurd cc

  leaves : (r : Reply) → LeavesSlices A H (entry j (Append t target writes bytes) r ∷ H) s
  leaves r = record {
    tries = at_least (is_unused A H s) _ _ (tried r);
    made = one_more (is_unused A H s) _ _ (tried r);
    unused = λ q apart. (same_slice A H (entry j (Append t target writes bytes) r) q (elsewhere q apart)).unused;
    version = λ q apart. (same_slice A H (entry j (Append t target writes bytes) r) q (elsewhere q apart)).version;
    in_use = λ q apart. let same = same_slice A H (entry j (Append t target writes bytes) r) q (elsewhere q apart) in
        used_log (entry j (Append t target writes bytes) r ∷ H) q same.unused same.version same.opened;
    logs = λ q apart. (same_slice A H (entry j (Append t target writes bytes) r) q (elsewhere q apart)).logs;
    length = λ q apart. (same_slice A H (entry j (Append t target writes bytes) r) q (elsewhere q apart)).length;
  }

  add_none : (n : ℕ) → n + 0 ≡ n
  add_none n = omega arith

  pub placing : (version at : ℕ) → version ≡ version_in_use A H s → IsPlacing A H (entry j (Append t target writes bytes) (Placed version at) ∷ H) s bytes
  placing version at first = record {
    others = leaves (Placed version at);
    files = rw is (ap (λ v. with_bytes (log_file A s v (attempt_in_use A H s)) (name_of A.props.name (log_file A s v (attempt_in_use A H s))) bytes (files_of A H)) first);
    used = rw here refl;
    same = ap (λ n. 1 + greatest_version A.files s + n) (add_none (failures A H s));
    here = in_use;
    longer = λ v. rw here (ap (λ u. known_length A H s v + cond (u == v) (length bytes) 0) first);
    logs = rw here (ap (λ v. if is_unused A H s then record { version = v; session = A.session; attempt = attempts A H; length = length bytes } ∷ logs_of A H s else lengthened (length bytes) (logs_of A H s)) first);
  }
    where
      K : History
      K = entry j (Append t target writes bytes) (Placed version at) ∷ H

      used : is_unused A K s ≡ false
      used = rw here refl

      attempt : attempt_in_use A K s ≡ attempt_in_use A H s
      attempt = ap (λ b. cond b (attempts A K) (opened_at A K s)) used

      in_use : log_in_use A K s ≡ log_in_use A H s
      in_use =
          let version : version_in_use A K s ≡ version_in_use A H s = ap (λ n. 1 + greatest_version A.files s + n) (add_none (failures A H s)) in
          λ i. log_file A s (version i) (attempt i)

  pub is_failing : IsFailing A H (entry j (Append t target writes bytes) Fault ∷ H) s
  is_failing = record {
    others = leaves Fault;
    files = refl;
    unused = rw here refl;
    rises = rw here (omega arith);
    logs = refl;
    length = λ v. add_none (known_length A H s v);
  }

-- the attempt in the name of the log is made then
pub attempt_made : (A : Table) (H K : History) (image : FileMap) (s : Target) → Kept A image H → LeavesSlices A H K s → attempt_in_use A H s < attempts A K
unfolding OpenLogs
attempt_made A H K image s kept leaves = by_use (is_unused A H s) refl
  where
    by_use : (b : Bool) → is_unused A H s ≡ b → attempt_in_use A H s < attempts A K
    by_use true unused =
        let attempt : attempt_in_use A H s ≡ attempts A H = ap (λ b. cond b (attempts A H) (opened_at A H s)) unused in
        let more = leaves.made unused in
        omega (arith, attempt, more)
    by_use false used = by_made (kept.numbers.logs s.group s.slice (version_in_use A H s) (record { session = A.session; attempt = attempt_in_use A H s }) (kept.logs s used).bytes
        (record { named = (kept.logs s used).named; there = (kept.logs s used).there })).made
      where
        by_made : IsMade (after_history A H) (attempts A H) (record { session = A.session; attempt = attempt_in_use A H s }) → attempt_in_use A H s < attempts A K
        by_made (inl earlier) = absurd (not_below A.session earlier)
        by_made (inr this) = let tries = leaves.tries in let made = this.1 in omega (arith, tries, made)
