-- The chains of file groups: a group's logs in their order, and the writes that stand in them.
use Rattle.std.specs.Prelude.{◌≡◌, ℕ, ◌<◌, Bool, true, false, ◌==◌, if◌then◌else◌, List, [], ◌∷◌, ◌++◌, map, filter, slice_get, Option, Some, None}
use Rattle.std.specs.Ordering.{nat_cmp}
use Rattle.std.specs.Cmp.Lexicographic.{slice_cmp}
use Rattle.std.specs.FinMap.{FinMap, get, entries}
use Rattle.std.specs.List.{AllByRecursion}
use Rattle.hudi_base.specs.Files.{FileMap}
use Rattle.hudi_base.specs.declared.file_group.GroupRef.{GroupRef}
use Rattle.hudi_base.specs.declared.file_group.Target.{Target}
use Rattle.file_names.specs.FileName.{name_of, IsGroup, IsLog}
use Rattle.file_names.specs.declared.file_name.FileName.TheVariants as file
use Rattle.file_names.specs.declared.file_name.State.TheVariants as state
use Rattle.file_names.specs.declared.file_name.Token.{Token}
use Rattle.log_block.specs.Form.{block_bytes}
use Rattle.log_block.specs.declared.block.Block.{Block}
use Rattle.log_block.specs.declared.block.Block.TheVariants.{Data, Delete, Rollback}
use Rattle.table_history.specs.Tables.{Table, Instant, instant_at}
use Rattle.table_history.specs.Tables as table
use Rattle.table_history.specs.Targets.{is_group}
use Rattle.table_images.specs.LogTexts.{blocks_in}

-- ---- chains

-- The place of a log in its group's chain: by slice, version, session and attempt.
abbrev pub place : ℕ → ℕ → Token → List ℕ
place slice version token = slice ∷ version ∷ token.session ∷ token.attempt ∷ []

-- the log of a group that has this place
pub record IsPlaced (group : GroupRef) (key : List ℕ) : Type 0 where
  pub slice : ℕ
  pub version : ℕ
  pub token : Token
  pub named : IsLog group slice version token
  pub is : key ≡ place slice version token

-- from the places of logs, in their order, to bytes
abbrev pub Chain : Type 0
Chain = FinMap (slice_cmp nat_cmp) (List ℕ)

-- The chain of a group in an image: the bytes of its logs. For now a group has no base.
pub record IsChain (image : FileMap) (A : Table) (group : GroupRef) (chain : Chain) : Type 0 where
  pub logs : (slice version : ℕ) (token : Token) → IsLog group slice version token
      → get chain (place slice version token) ≡ get image (name_of A.props.name (file.Log group slice version token))
  pub alone : (key bytes : List ℕ) → get chain key ≡ Some bytes → IsPlaced group key

-- the blocks of a chain, in order
abbrev pub blocks_among : List (List ℕ × List ℕ) → List Block
blocks_among [] = []
blocks_among (log ∷ logs) = blocks_in log.1 ++ blocks_among logs

abbrev pub blocks_of_chain : Chain → List Block
blocks_of_chain chain = blocks_among (entries chain)

-- ---- the writes of an instant

-- rows or deletes that the instant wrote
abbrev pub is_write_of : ℕ → Block → Bool
is_write_of t (Data instant schema content) = instant == t
is_write_of t (Delete instant content) = instant == t
is_write_of t (Rollback instant target) = false

-- a rollback block of this target: the target's blocks don't count
abbrev pub voids : ℕ → Block → Bool
voids t (Data instant schema content) = false
voids t (Delete instant content) = false
voids t (Rollback instant target) = target == t

-- the blocks of an instant among blocks, each by its bytes
abbrev pub writes_of : ℕ → List Block → List (List ℕ)
writes_of t blocks = map block_bytes (filter (is_write_of t) blocks)

-- the target is one of the group's slices
abbrev pub is_in_group : GroupRef → Option Target → Bool
is_in_group group None = false
is_in_group group (Some s) = is_group s.group group

-- The blocks that an instant has placed in a group, in the order in which it placed them: that of its batch. The
-- instant has its last one first.
abbrev pub placed_in : GroupRef → List Target → List table.Block → List (List ℕ)
placed_in group targets [] = []
placed_in group targets (block ∷ blocks) =
    placed_in group targets blocks
    ++ (if is_in_group group (slice_get targets block.target) then block.bytes ∷ [] else [])

-- ---- what a chain holds

-- of an instant: its blocks stand in the chain, in batch order, and no rollback block voids them
pub record HoldsWrites (blocks : List Block) (group : GroupRef) (t : ℕ) (i : Instant) : Type 0 where
  pub writes : writes_of t blocks ≡ placed_in group i.targets i.blocks
  pub unvoided : AllByRecursion (λ block. voids t block ≡ false) blocks

-- none of the blocks is a write of t
abbrev pub Lacks : ℕ → List Block → Type 0
Lacks t blocks = AllByRecursion (λ block. is_write_of t block ≡ false) blocks

-- behind a write of v stands none of u
abbrev pub IsBefore : ℕ → ℕ → List Block → Type 0
IsBefore u v [] = Unit {0}
IsBefore u v (block ∷ blocks) = (is_write_of v block ≡ true → Lacks u blocks) × IsBefore u v blocks

-- an instant was completed before another's first step
abbrev pub FinishedBefore : Option ℕ → ℕ → Type 0
FinishedBefore None start = ⊥
FinishedBefore (Some number) start = number < start

-- What the chain of a group holds of the instants of which Which says that they count: their writes, and the order of
-- time where one was completed before another's first step.
pub record ChainHolds (Which : ℕ → Instant → Type 0) (A : Table) (group : GroupRef) (chain : Chain) : Type 0 where
  pub each : (t : ℕ) (i : Instant) → instant_at A.instants t ≡ Some i → Which t i
      → HoldsWrites (blocks_of_chain chain) group t i
  pub order : (u v : ℕ) (i j : Instant) → instant_at A.instants u ≡ Some i → instant_at A.instants v ≡ Some j
      → i.state ≡ state.Completed → Which v j → FinishedBefore i.finished j.start → IsBefore u v (blocks_of_chain chain)

-- of completed instants
abbrev pub IsCompleted : ℕ → Instant → Type 0
IsCompleted t i = i.state ≡ state.Completed

-- each group has a chain, which holds this of the instants that count
unfoldable pub ChainsHold : (ℕ → Instant → Type 0) → FileMap → Table → Type 0
ChainsHold Which image A =
    (group : GroupRef) → IsGroup group
    → (chain : Chain) × IsChain image A group chain × ChainHolds Which A group chain
