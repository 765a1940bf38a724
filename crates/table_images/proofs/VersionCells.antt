-- The versions of a slice, at each kind of step.
use Rattle.std.proofs.Common.{◌≡◌, inl, inr, ◌<◌, ℕ, List, [], ◌++◌, Some, sym, ap, ◌∙◌, subst, arith, ◌⊎◌}
use Rattle.std.specs.FinMap.{get}
use Rattle.hudi_base.specs.Files.{FileMap, content}
use Rattle.hudi_base.specs.declared.file_group.Target.{Target}
use Rattle.file_names.specs.FileName.{name_of}
use Rattle.file_names.specs.declared.file_name.FileName.TheVariants as file
use Rattle.file_names.specs.declared.file_name.Token.{Token}
use Rattle.log_block.specs.declared.block.Block.{Block}
use Rattle.table_history.specs.Histories.{History}
use Rattle.table_history.specs.Logs.{is_unused, version_in_use, attempt_in_use}
use Rattle.table_history.specs.Tables.{Table}
use Rattle.table_images.specs.Kept.{Kept, VersionsRise, IsOldOrInUse}
use Rattle.table_images.specs.Runs.{log_in_use}
use Rattle.table_images.proofs.AppendFacts.{LeavesSlices, IsPlacing, IsFailing}
use Rattle.table_images.proofs.WhereTo.{Goes}
use Rattle.log_block.specs.Form.{Fits, block_bytes}
use Rattle.table_images.proofs.SameLogs.{LeavesLogs, log_is_none, had}
use Rattle.table_images.proofs.Appended.{name_in_use, with_more, another, slice_cases}

-- ---- no append

pub versions_still : (A : Table) (H K : History) (image new : FileMap) → LeavesLogs A H K image new → Kept A image H → VersionsRise new A K
unfolding VersionsRise
versions_still A H K image new leaves kept s version token bytes has =
    again (kept.versions s version token bytes (had A H K image new (file.Log s.group s.slice version token) bytes leaves (log_is_none s.group s.slice version token) has))
  where
    again : IsOldOrInUse A H s version token → IsOldOrInUse A K s version token
    again (inl older) = inl (subst (λ n. version < n) (sym (leaves.logs.version s)) older)
    again (inr this) = inr (leaves.logs.unused s ∙ this.0, this.1 ∙ sym (leaves.logs.in_use s))

-- ---- another slice

module _ (A : Table) (H K : History) (image : FileMap) (s : Target) (kept : Kept A image H) (to : Goes A H image s) (more : List ℕ) where
  -- the version in use of another slice
  pub other_version : LeavesSlices A H K s → (r : Target) (version : ℕ) (token : Token) → (s ≡ r → ⊥) → IsOldOrInUse A H r version token → IsOldOrInUse A K r version token
  other_version leaves r version token apart (inl older) = inl (subst (λ n. version < n) (sym (leaves.version r apart)) older)
  other_version leaves r version token apart (inr this) = inr (leaves.unused r apart ∙ this.0, this.1 ∙ sym (leaves.in_use r apart this.0))

-- ---- the block was placed

module _ (A : Table) (H K : History) (image : FileMap) (s : Target) (kept : Kept A image H) (to : Goes A H image s) (block : Block) (fits : Fits block)
    (placing : IsPlacing A H K s (block_bytes block)) where
  pub versions_placed : VersionsRise (with_more A H image s (block_bytes block)) A K
  unfolding VersionsRise
  versions_placed r version token bytes has = by_file (another A H image (file.Log r.group r.slice version token) s (block_bytes block) bytes to.named has.named has.there).by
    where
      still : IsOldOrInUse A H r version token → (s ≡ r) ⊎ (s ≡ r → ⊥) → IsOldOrInUse A K r version token
      still (inl older) (inl same) =
          inl (subst (λ (q : Target). version < version_in_use A K q) same (subst (λ n. version < n) (sym placing.same) (subst (λ (q : Target). version < version_in_use A H q) (sym same) older)))
      still (inr this) (inl same) = inr (ap (is_unused A K) (sym same) ∙ placing.used, this.1 ∙ ap (log_in_use A H) (sym same) ∙ sym placing.here ∙ ap (log_in_use A K) same)
      still old (inr apart) = other_version A H K image s kept to (block_bytes block) placing.others r version token apart old

      by_file : ((file.Log r.group r.slice version token ≡ log_in_use A H s) × (bytes ≡ content image (name_in_use A H s) ++ block_bytes block))
          ⊎ ((name_of A.props.name (file.Log r.group r.slice version token) ≡ name_in_use A H s → ⊥) × (get image (name_of A.props.name (file.Log r.group r.slice version token)) ≡ Some bytes))
          → IsOldOrInUse A K r version token
      by_file (inl here) =
          let one : file.Log r.group r.slice version token ≡ file.Log s.group s.slice (version_in_use A H s) (record { session = A.session; attempt = attempt_in_use A H s }) = here.0 in
          let g : s.group ≡ r.group = cc in
          let sl : s.slice ≡ r.slice = cc in
          let same : s ≡ r = λ i. record { group = g i; slice = sl i } in
          inr (ap (is_unused A K) (sym same) ∙ placing.used, here.0 ∙ sym placing.here ∙ ap (log_in_use A K) same)
      by_file (inr other) = still (kept.versions r version token bytes (record { named = has.named; there = other.1 })) (slice_cases s r)

-- ---- the append failed

module _ (A : Table) (H K : History) (image : FileMap) (s : Target) (kept : Kept A image H) (to : Goes A H image s) (failing : IsFailing A H K s) where
  risen : (r : Target) (version : ℕ) (token : Token) → s ≡ r → IsOldOrInUse A H r version token → IsOldOrInUse A K r version token
  risen r version token same (inl older) =
      let up : version_in_use A H r < version_in_use A K r = subst (λ (q : Target). version_in_use A H q < version_in_use A K q) same failing.rises in
      inl (omega (arith, older, up))
  risen r version token same (inr this) =
      let up : version_in_use A H r < version_in_use A K r = subst (λ (q : Target). version_in_use A H q < version_in_use A K q) same failing.rises in
      let one : file.Log r.group r.slice version token ≡ file.Log r.group r.slice (version_in_use A H r) (record { session = A.session; attempt = attempt_in_use A H r }) = this.1 in
      let v : version ≡ version_in_use A H r = cc in
      inl (omega (arith, v, up))

  older_or_not : (more : List ℕ) (r : Target) (version : ℕ) (token : Token) → IsOldOrInUse A H r version token → (s ≡ r) ⊎ (s ≡ r → ⊥) → IsOldOrInUse A K r version token
  older_or_not more r version token old (inl same) = risen r version token same old
  older_or_not more r version token old (inr apart) = other_version A H K image s kept to more failing.others r version token apart old

  -- a prefix of the block was left
  pub versions_left : (more : List ℕ) → VersionsRise (with_more A H image s more) A K
  unfolding VersionsRise
  versions_left more r version token bytes has = by_file (another A H image (file.Log r.group r.slice version token) s more bytes to.named has.named has.there).by
    where
      by_file : ((file.Log r.group r.slice version token ≡ log_in_use A H s) × (bytes ≡ content image (name_in_use A H s) ++ more))
          ⊎ ((name_of A.props.name (file.Log r.group r.slice version token) ≡ name_in_use A H s → ⊥) × (get image (name_of A.props.name (file.Log r.group r.slice version token)) ≡ Some bytes))
          → IsOldOrInUse A K r version token
      by_file (inl here) =
          let one : file.Log r.group r.slice version token ≡ file.Log s.group s.slice (version_in_use A H s) (record { session = A.session; attempt = attempt_in_use A H s }) = here.0 in
          let g : s.group ≡ r.group = cc in
          let sl : s.slice ≡ r.slice = cc in
          let v : version ≡ version_in_use A H s = cc in
          let same : s ≡ r = λ i. record { group = g i; slice = sl i } in
          let up = failing.rises in
          inl (subst (λ (q : Target). version < version_in_use A K q) same (omega (arith, v, up)))
      by_file (inr other) = older_or_not more r version token (kept.versions r version token bytes (record { named = has.named; there = other.1 })) (slice_cases s r)

  -- or nothing
  pub versions_unchanged : VersionsRise image A K
  unfolding VersionsRise
  versions_unchanged r version token bytes has = older_or_not [] r version token (kept.versions r version token bytes (record { named = has.named; there = has.there })) (slice_cases s r)
