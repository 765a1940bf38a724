-- What a writer has written, what is open in it, and what each call does to that. This project's own.
use Rattle.std.specs.Prelude.{◌≡◌, ℕ, ◌-◌, ◌<◌, ℤ, pos, ◌+ℤ◌, ◌-ℤ◌, ◌<ℤ◌, ◌≤ℤ◌, nat_abs, ◌==◌, if◌then◌else◌, List, [], ◌∷◌, ◌⊎◌, Option, Some, None}
use Rattle.thrift_compact.specs.declared.writer.Level.{Level}
use Rattle.thrift_compact.specs.declared.writer.Level.TheVariants.{Struct, Items}

-- the bytes so far, and the structs and lists that are open, the innermost first
pub record Written : Type 0 where
  pub bytes : List ℕ
  pub levels : List Level

-- the innermost one, and those around it
abbrev pub levels_of : Option Level → List Level → List Level
levels_of (Some level) outer = level ∷ outer
levels_of None outer = []

-- ---- when a call may be made

-- a struct is innermost, and the id is 1 to 15 above its last one
abbrev pub TakesField : ℤ → List Level → Type 0
TakesField id [] = ⊥
TakesField id (Struct last ∷ outer) = (last <ℤ id) × (id ≤ℤ (last +ℤ pos 15))
TakesField id (Items kind left ∷ outer) = ⊥

-- a list is innermost that wants an item of this type
abbrev pub TakesItem : ℕ → List Level → Type 0
TakesItem kind [] = ⊥
TakesItem kind (Struct last ∷ outer) = ⊥
TakesItem kind (Items of_kind left ∷ outer) = (kind ≡ of_kind) × (0 < left)

-- a struct is innermost
abbrev pub IsInStruct : List Level → Type 0
IsInStruct [] = ⊥
IsInStruct (Struct last ∷ outer) = Unit {0}
IsInStruct (Items kind left ∷ outer) = ⊥

-- the types of items that are written: i32, binary, struct
abbrev pub IsItemType : ℕ → Type 0
IsItemType kind = (kind ≡ 5) ⊎ (kind ≡ 8) ⊎ (kind ≡ 12)

-- ---- what is open after it

-- the id less the last one of the innermost struct
abbrev pub difference_of : ℤ → List Level → ℕ
difference_of id [] = 0
difference_of id (Struct last ∷ outer) = nat_abs (id -ℤ last)
difference_of id (Items kind left ∷ outer) = 0

-- after a field
abbrev pub after_field : ℤ → List Level → List Level
after_field id [] = []
after_field id (Struct last ∷ outer) = Struct id ∷ outer
after_field id (Items kind left ∷ outer) = Items kind left ∷ outer

-- with a list that wants so many items
abbrev pub with_items : ℕ → ℕ → List Level → List Level
with_items kind left levels = if left == 0 then levels else Items kind left ∷ levels

-- after an item, the last of which ends its list
abbrev pub after_item : List Level → List Level
after_item [] = []
after_item (Struct last ∷ outer) = Struct last ∷ outer
after_item (Items kind left ∷ outer) = with_items kind (left - 1) outer

-- after a struct
abbrev pub after_struct : List Level → List Level
after_struct [] = []
after_struct (level ∷ outer) = outer
