-- Which groups of a list have a slot.
use Rattle.std.proofs.Common.{◌≡◌, ℕ, suc, ◌<◌, ◌≤◌, true, false, cond, All, List, [], ◌∷◌, length, get_or, filter, refl, ◌∙◌, ap, arith}
use Rattle.std.proofs.lemmas.Bool.Decides.{nat_tests}
use Rattle.std.proofs.lemmas.List.Elements.{All-weaker, filter_passes}
use Rattle.hudi_base.specs.declared.file_group.GroupRef.{GroupRef}
use Rattle.key_index.specs.Tiling.{has_slot, has_slots, groups_at, AreInOrder}

pub has_slot-within : (g : GroupRef) (slot : ℕ) → g.lo ≤ slot → slot ≤ g.hi → has_slot g slot ≡ true
has_slot-within g slot low high = grind (arith, nat_tests)

pub has_slot-below : (g : GroupRef) (slot : ℕ) → slot < g.lo → has_slot g slot ≡ false
has_slot-below g slot low = grind (arith, nat_tests)

pub has_slot-above : (g : GroupRef) (slot : ℕ) → g.hi < slot → has_slot g slot ≡ false
has_slot-above g slot high = grind (arith, nat_tests)

pub has_slots-le : (g : GroupRef) → has_slots g ≡ true → g.lo ≤ g.hi
has_slots-le g h = grind (arith, nat_tests)

pub groups_at-nil : (slot : ℕ) → groups_at slot [] ≡ []
unfolding groups_at
groups_at-nil slot = refl

pub groups_at-yes : (slot : ℕ) (g : GroupRef) (gs : List GroupRef) → has_slot g slot ≡ true → groups_at slot (g ∷ gs) ≡ g ∷ groups_at slot gs
unfolding groups_at
groups_at-yes slot g gs has = ap (λ b. cond b (g ∷ filter (λ group. has_slot group slot) gs) (filter (λ group. has_slot group slot) gs)) has

pub groups_at-no : (slot : ℕ) (g : GroupRef) (gs : List GroupRef) → has_slot g slot ≡ false → groups_at slot (g ∷ gs) ≡ groups_at slot gs
unfolding groups_at
groups_at-no slot g gs lacks = ap (λ b. cond b (g ∷ filter (λ group. has_slot group slot) gs) (filter (λ group. has_slot group slot) gs)) lacks

-- groups that all begin above a slot don't have it
pub groups_at-below : (slot : ℕ) (gs : List GroupRef) → ((j : ℕ) (d : GroupRef) → j < length gs → slot < (get_or gs j d).lo) → groups_at slot gs ≡ []
groups_at-below slot [] above = groups_at-nil slot
groups_at-below slot (g ∷ gs) above =
    groups_at-no slot g gs (has_slot-below g slot (above 0 g (omega arith)))
    ∙ groups_at-below slot gs (λ j d h. above (suc j) d (omega arith))

pub order-first : (g : GroupRef) (gs : List GroupRef) → AreInOrder (g ∷ gs) → (j : ℕ) (d : GroupRef) → j < length (g ∷ gs) → g.lo ≤ (get_or (g ∷ gs) j d).lo
order-first g gs order j d h = order 0 j d (omega arith) h

pub order-rest : (g : GroupRef) (gs : List GroupRef) → AreInOrder (g ∷ gs) → AreInOrder gs
order-rest g gs order i j d le h = order (suc i) (suc j) d (omega arith) (omega arith)

-- in order, no group has a slot below the first one's
pub groups_at-before_first : (slot : ℕ) (g : GroupRef) (gs : List GroupRef) → AreInOrder (g ∷ gs) → slot < g.lo → groups_at slot (g ∷ gs) ≡ []
groups_at-before_first slot g gs order low =
    groups_at-below slot (g ∷ gs) (λ j d h. let first = order-first g gs order j d h in omega arith)

-- the groups that a filter by their slots keeps have slots
abbrev pub HaveSlots : List GroupRef → Type 0
HaveSlots groups = All (λ g. g.lo ≤ g.hi) groups

pub filter-have_slots : (groups : List GroupRef) → HaveSlots (filter has_slots groups)
filter-have_slots groups = All-weaker (λ g. has_slots g ≡ true) (λ g. g.lo ≤ g.hi) has_slots-le _ (filter_passes has_slots groups)
