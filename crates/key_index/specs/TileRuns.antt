-- How a tiling is held and tested: only private clauses speak of these definitions.
use Rattle.std.specs.Prelude.{◌≡◌, ℕ, ◌+◌, ◌≤◌, ◌==◌, nat_lt, min, if◌then◌else◌, List, [], ◌∷◌, Option, Some, None}
use Rattle.hudi_base.specs.declared.file_group.GroupRef.{GroupRef}
use Rattle.key_index.specs.Slots.{slot_count}

-- from a slot on, each group begins where the one before it ends, up to the last slot
unfoldable pub RunsOn : ℕ → List GroupRef → Type 0
RunsOn next [] = slot_count ≤ next
RunsOn next (group ∷ groups) = (group.lo ≡ next) × (group.lo ≤ group.hi) × RunsOn (group.hi + 1) groups

-- the slot at which groups that are in order go wrong, where those below `next` went well
unfoldable pub least_mistiled : ℕ → List GroupRef → Option ℕ
least_mistiled next [] = if nat_lt next slot_count then Some next else None
least_mistiled next (group ∷ groups) =
    if group.lo == next then least_mistiled (group.hi + 1) groups else Some (min next group.lo)
