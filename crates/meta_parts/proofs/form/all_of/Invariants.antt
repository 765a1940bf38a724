use Rattle.std.proofs.Common.{◌≡◌, drop}
use Rattle.serde_json.specs.View.{items_view}
use Rattle.meta_parts.specs.Members.{all_of}
use Rattle.meta_parts.proofs.ListLemmas.{all_from}
use Rattle.meta_parts.proofs.form.all_of.Given as goal

-- the values so far and those that follow
abbrev pub invariant-loop-value : goal.invariant-loop-value
invariant-loop-value g l =
    all_from (g.T.Form.reads l.table) l.found (items_view (drop l.value-index l.values)) ≡ all_of (g.T.Form.reads l.table) (items_view l.values)
