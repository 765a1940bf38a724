use Rattle.std.proofs.Common.{◌≡◌, drop}
use Rattle.serde_json.specs.View.{items_view}
use Rattle.script_jobs.specs.DeletedKeys.{keys_of}
use Rattle.script_jobs.proofs.KeyParts.{with_keys}
use Rattle.script_jobs.proofs.deletes.keys_of.Given as goal

-- the keys so far, and those that the rest are
abbrev pub invariant-loop-value : goal.invariant-loop-value
invariant-loop-value l = with_keys l.keys (keys_of (items_view (drop l.value-index l.values))) ≡ keys_of (items_view l.values)
