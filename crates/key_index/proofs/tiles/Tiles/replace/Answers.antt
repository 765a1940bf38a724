use Rattle.std.proofs.Common.{◌≡◌, ◌++◌, List, filter, sym, ◌∙◌, ap, subst}
use Rattle.std.specs.List.Sorted.{IsPermutation}
use Rattle.hudi_base.specs.declared.file_group.GroupRef.{GroupRef}
use Rattle.key_index.proofs.TileRunLemmas.{run-tiling, runs-from_none, mistiled-least, tiling-permutation, mistiled-permutation, after-have_slots}
use Rattle.key_index.specs.Tiling.{Tiling, IsTiling, IsLeastMistiled, groups_after, has_slots, without}
use Rattle.key_index.specs.TileRuns.{least_mistiled}
use Rattle.key_index.proofs.tiles.Tiles.replace.Goals as goal

pub returns-in-Some-clause-refused : goal.returns-in-Some-clause-refused
returns-in-Some-clause-refused c = λ slot e.
    let same : c.in-Some.slot ≡ slot = cc in
    let moved = subst (λ (gs : List GroupRef). IsPermutation (without c.args.old.now gs ++ filter has_slots c.args.new.now) c.in_ok-groups.groups.items)
    c.deref.ensures.value c.in_ok-groups.ensures.permutation in
    let found = sym (c.in-Some.ensures.value ∙ ap (least_mistiled 0) c.deref-2.ensures.value) in
    let slots = after-have_slots c.self.inside.groups.items c.args.old.now c.args.new.now _ c.self.invariant moved in
    subst (λ (t : Tiling). IsLeastMistiled (groups_after t c.args.old.now c.args.new.now) slot) c.self.view_is
    (subst (IsLeastMistiled (without c.args.old.now c.self.inside.groups.items ++ filter has_slots c.args.new.now)) same
    (mistiled-permutation _ _ moved c.in-Some.slot
    (mistiled-least _ c.in_ok-groups.ensures.order slots c.in-Some.slot c.in-Some.ensures.range found)))

pub invariant_of-self : goal.invariant_of-self
invariant_of-self c =
    let moved = subst (λ (gs : List GroupRef). IsPermutation (without c.args.old.now gs ++ filter has_slots c.args.new.now) c.in_ok-groups.groups.items)
    c.deref.ensures.value c.in_ok-groups.ensures.permutation in
    runs-from_none 0 _ (after-have_slots c.self.inside.groups.items c.args.old.now c.args.new.now _ c.self.invariant moved)
    (sym (c.in_default.ensures.value ∙ ap (least_mistiled 0) c.deref-2.ensures.value))

pub returns-clause-tiling : goal.returns-clause-tiling
returns-clause-tiling c =
    let moved = subst (λ (gs : List GroupRef). IsPermutation (without c.args.old.now gs ++ filter has_slots c.args.new.now) c.in_ok-groups.groups.items)
    c.deref.ensures.value c.in_ok-groups.ensures.permutation in
    let runs = runs-from_none 0 _ (after-have_slots c.self.inside.groups.items c.args.old.now c.args.new.now _ c.self.invariant moved)
    (sym (c.in_default.ensures.value ∙ ap (least_mistiled 0) c.deref-2.ensures.value)) in
    subst (λ (t : Tiling). IsTiling (groups_after t c.args.old.now c.args.new.now)) c.self.view_is
    (tiling-permutation _ _ moved (run-tiling _ runs))
