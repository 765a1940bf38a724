use Rattle.std.proofs.Common.{◌≡◌, true, sym, ap, ◌∙◌}
use Rattle.std.specs.List.{list_all}
use Rattle.upsert_writer.specs.BatchWrites.{is_in_group}
use Rattle.upsert_writer.proofs.PlacedWrites.{all_of_group}
use Rattle.upsert_writer.proofs.sharing.writes_in.Goals as goal

pub returns-then-all_in_group : goal.returns-then-all_in_group
returns-then-all_in_group c =
    let all : list_all (is_in_group c.args.group.now) c.args.writes.items ≡ true = ap (list_all (is_in_group c.args.group.now)) (sym c.deref.ensures.value) ∙ sym c.all_in_group.ensures ∙ c.if-all_in_group.true in
    c.from_vec.ensures ∙ sym (all_of_group (is_in_group c.args.group.now) c.args.writes.items all)
