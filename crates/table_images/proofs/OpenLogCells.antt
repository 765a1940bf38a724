-- The logs in use, at each kind of step.
use Rattle.std.proofs.Common.{◌≡◌, inl, inr, ℕ, true, false, List, [], ◌∷◌, ◌++◌, sym, ap, ◌∙◌, subst, ◌⊎◌}
use Rattle.std.specs.FinMap.{get}
use Rattle.hudi_base.specs.Files.{FileMap, content}
use Rattle.hudi_base.specs.declared.file_group.Target.{Target}
use Rattle.file_names.specs.FileName.{name_of, IsNamed}
use Rattle.file_names.specs.declared.file_name.FileName.TheVariants as file
use Rattle.log_block.specs.declared.block.Block.{Block}
use Rattle.table_history.specs.Histories.{History}
use Rattle.table_history.specs.Logs.{files_of, is_unused, version_in_use, bytes_in, attempt_in_use}
use Rattle.table_history.specs.Tables.{Table, KnownFile}
use Rattle.table_images.specs.Kept.{Kept, OpenLogs, IsOpenLog}
use Rattle.table_images.specs.Runs.{log_in_use}
use Rattle.file_names.proofs.NameTexts.{name_of_injective}
use Rattle.table_images.proofs.AppendFacts.{IsPlacing, IsFailing}
use Rattle.table_images.proofs.Frame.{get_here, get_apart}
use Rattle.table_images.proofs.Texts.{bytes_one_more, fit_more}
use Rattle.table_images.proofs.WhereTo.{Goes, known_here, known_apart}
use Rattle.log_block.specs.Form.{Fits, block_bytes}
use Rattle.table_images.proofs.SameLogs.{LeavesLogs}
use Rattle.table_images.proofs.Appended.{name_in_use, with_more, slice_cases}

-- ---- no append

pub logs_still : (A : Table) (H K : History) (image new : FileMap) → LeavesLogs A H K image new → Kept A image H → OpenLogs new A K
unfolding OpenLogs
logs_still A H K image new leaves kept s used =
    let log = kept.logs s (sym (leaves.logs.unused s) ∙ used) in
    let name = ap (name_of A.props.name) (leaves.logs.in_use s) in
    record {
      named = subst IsNamed (sym (leaves.logs.in_use s)) log.named;
      bytes = log.bytes;
      there = ap (get new) name ∙ leaves.more (name_of A.props.name (log_in_use A H s)) log.bytes log.there;
      known = ap (λ (fs : List KnownFile). bytes_in fs (name_of A.props.name (log_in_use A K s))) leaves.logs.files ∙ ap (bytes_in (files_of A H)) name ∙ log.known;
      blocks = log.blocks;
      fit = log.fit;
      whole = log.whole;
    }

-- ---- a log of another slice

module _ (A : Table) (H K : History) (image : FileMap) (s : Target) (kept : Kept A image H) (to : Goes A H image s) (more : List ℕ) where
  pub slices_apart : (r : Target) → (s ≡ r → ⊥) → is_unused A H r ≡ false → name_in_use A H r ≡ name_in_use A H s → ⊥
  unfolding OpenLogs
  slices_apart r apart used same =
      let one : file.Log r.group r.slice (version_in_use A H r) (record { session = A.session; attempt = attempt_in_use A H r })
      ≡ file.Log s.group s.slice (version_in_use A H s) (record { session = A.session; attempt = attempt_in_use A H s }) =
      name_of_injective A.props.name (log_in_use A H r) (log_in_use A H s) (kept.logs r used).named to.named same in
      let g : s.group ≡ r.group = cc in
      let sl : s.slice ≡ r.slice = cc in
      apart (λ i. record { group = g i; slice = sl i })

  -- a log of another slice is as it was
  pub other_log : (r : Target) → (s ≡ r → ⊥) → (used : is_unused A H r ≡ false) → log_in_use A K r ≡ log_in_use A H r
      → bytes_in (files_of A K) (name_in_use A H r) ≡ bytes_in (files_of A H) (name_in_use A H r) → IsOpenLog (with_more A H image s more) A K r
  unfolding OpenLogs
  other_log r apart used same known =
      let old = kept.logs r used in
      let name = ap (name_of A.props.name) same in
      record {
        named = subst IsNamed (sym same) old.named;
        bytes = old.bytes;
        there = ap (get (with_more A H image s more)) name
            ∙ get_apart image (name_in_use A H s) (content image (name_in_use A H s) ++ more) (name_in_use A H r) (slices_apart r apart used) ∙ old.there;
        known = ap (bytes_in (files_of A K)) name ∙ known ∙ old.known;
        blocks = old.blocks;
        fit = old.fit;
        whole = old.whole;
      }

-- ---- the block was placed

module _ (A : Table) (H K : History) (image : FileMap) (s : Target) (kept : Kept A image H) (to : Goes A H image s) (block : Block) (fits : Fits block)
    (placing : IsPlacing A H K s (block_bytes block)) where
  log_here : IsOpenLog (with_more A H image s (block_bytes block)) A K s
  log_here =
      let name = ap (name_of A.props.name) placing.here in
      record {
        named = subst IsNamed (sym placing.here) to.named;
        bytes = content image (name_in_use A H s) ++ block_bytes block;
        there = ap (get (with_more A H image s (block_bytes block))) name ∙ get_here image (name_in_use A H s) (content image (name_in_use A H s) ++ block_bytes block);
        known = ap (bytes_in (files_of A K)) name ∙ ap (λ (fs : List KnownFile). bytes_in fs (name_in_use A H s)) placing.files
            ∙ known_here (log_in_use A H s) (name_in_use A H s) (block_bytes block) (files_of A H) ∙ ap (λ old. old ++ block_bytes block) to.known;
        blocks = to.blocks ++ block ∷ [];
        fit = fit_more Fits to.blocks (block ∷ []) to.fit (fits, tt);
        whole = ap (λ old. old ++ block_bytes block) to.whole ∙ sym (bytes_one_more to.blocks block);
      }

  pub logs_placed : OpenLogs (with_more A H image s (block_bytes block)) A K
  unfolding OpenLogs
  logs_placed r used = by_slice (slice_cases s r)
    where
      known : (s ≡ r → ⊥) → (name_in_use A H r ≡ name_in_use A H s → ⊥) → bytes_in (files_of A K) (name_in_use A H r) ≡ bytes_in (files_of A H) (name_in_use A H r)
      known apart names = ap (λ (fs : List KnownFile). bytes_in fs (name_in_use A H r)) placing.files ∙ known_apart (log_in_use A H s) (name_in_use A H s) (block_bytes block) (files_of A H) (name_in_use A H r) names

      by_slice : (s ≡ r) ⊎ (s ≡ r → ⊥) → IsOpenLog (with_more A H image s (block_bytes block)) A K r
      by_slice (inl same) = subst (IsOpenLog (with_more A H image s (block_bytes block)) A K) same log_here
      by_slice (inr apart) =
          let was : is_unused A H r ≡ false = sym (placing.others.unused r apart) ∙ used in
          other_log A H K image s kept to (block_bytes block) r apart was (placing.others.in_use r apart was)
          (known apart (slices_apart A H K image s kept to (block_bytes block) r apart was))

-- ---- the append failed

module _ (A : Table) (H K : History) (image : FileMap) (s : Target) (kept : Kept A image H) (to : Goes A H image s) (failing : IsFailing A H K s) where
  not_here : (r : Target) → is_unused A K r ≡ false → s ≡ r → ⊥
  not_here r used same = let wrong : true ≡ false = sym failing.unused ∙ ap (is_unused A K) same ∙ used in cc

  pub logs_left : (more : List ℕ) → OpenLogs (with_more A H image s more) A K
  unfolding OpenLogs
  logs_left more r used =
      let apart = not_here r used in
      let was : is_unused A H r ≡ false = sym (failing.others.unused r apart) ∙ used in
      other_log A H K image s kept to more r apart was (failing.others.in_use r apart was) (ap (λ (fs : List KnownFile). bytes_in fs (name_in_use A H r)) failing.files)

  pub logs_unchanged : OpenLogs image A K
  unfolding OpenLogs
  logs_unchanged r used =
      let apart = not_here r used in
      let was : is_unused A H r ≡ false = sym (failing.others.unused r apart) ∙ used in
      let old = kept.logs r was in
      let same = failing.others.in_use r apart was in
      let name = ap (name_of A.props.name) same in
      record {
        named = subst IsNamed (sym same) old.named;
        bytes = old.bytes;
        there = ap (get image) name ∙ old.there;
        known = ap (bytes_in (files_of A K)) name ∙ ap (λ (fs : List KnownFile). bytes_in fs (name_in_use A H r)) failing.files ∙ old.known;
        blocks = old.blocks;
        fit = old.fit;
        whole = old.whole;
      }
