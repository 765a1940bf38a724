-- Views and chains are determined.
use Rattle.std.proofs.Common.{◌≡◌, ℕ, List, ◌++◌, map, filter, sym, ap, ◌∙◌}
use Rattle.hudi_base.specs.declared.file_group.GroupRef.{GroupRef}
use Rattle.key_index.specs.Tiling.{Tiling}
use Rattle.file_names.specs.declared.file_name.FileName.{FileName}
use Rattle.file_groups.specs.Chains.{newest_base, is_after, log_number, part_of_log, base_first, IsChain}
use Rattle.file_groups.specs.Views.{group_view, AreViews}
use Rattle.file_groups.specs.declared.parts.BasePart.{BasePart}
use Rattle.file_groups.specs.declared.parts.GroupView.{GroupView}
use Rattle.file_groups.specs.declared.parts.LogPart.{LogPart}
use Rattle.file_groups.specs.declared.parts.Part.{Part}
use Rattle.file_groups.proofs.Determined.{sorted_determined}

pub views_determined : (table : List ℕ) (tiles : Tiling) (files : List (FileName × ℕ)) (named : List BasePart) (views others : List GroupView)
    → AreViews table tiles files named views → AreViews table tiles files named others → views ≡ others
views_determined table tiles files named views others one other =
    let same : one.groups ≡ other.groups = sorted_determined (λ (group : GroupRef). group.lo) (tiles.groups ++ tiles.empty) one.groups other.groups one.ordered other.ordered in
    one.each ∙ ap (map (group_view table files named)) same ∙ sym other.each

pub chains_determined : (view : GroupView) (t : ℕ) (parts others : List Part) → IsChain view t parts → IsChain view t others → parts ≡ others
chains_determined view t parts others one other =
    let same : one.logs ≡ other.logs = sorted_determined log_number (filter (is_after (newest_base t view.bases)) view.logs) one.logs other.logs one.ordered other.ordered in
    one.all ∙ ap (λ (logs : List LogPart). base_first (newest_base t view.bases) ++ map part_of_log logs) same ∙ sym other.all
