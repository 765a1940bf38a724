-- A store in memory, and what its calls answer and leave. This project's own.
use Rattle.std.specs.Prelude.{◌≡◌, ℕ, true, false, List, [], ◌∷◌, take, None, IsSome}
use Rattle.std.specs.FinMap.{get}
use Rattle.hudi_base.specs.Faults.{one_more}
use Rattle.hudi_base.specs.Files.{FileMap}
use Rattle.hudi_base.specs.Store.{StoreState}
use Rattle.hudi_base.specs.declared.operation.Operation.{Operation}
use Rattle.hudi_base.specs.declared.operation.Operation.TheVariants.{Create, Append, Remove}
use Rattle.hudi_base.specs.declared.store.Made.{Made}
use Rattle.hudi_base.specs.declared.store.Made.TheVariants as made
use Rattle.hudi_base.specs.declared.store.Added.{Added}
use Rattle.hudi_base.specs.declared.store.Added.TheVariants as added
use Rattle.hudi_base.specs.declared.store.Gone.{Gone}
use Rattle.hudi_base.specs.declared.store.Gone.TheVariants as gone
use Rattle.store_mem.specs.Calls.{CallState, fails_next, after_call}
use Rattle.store_mem.specs.Files.{FileHistory, files_made, after_operations, told_of}

-- The files that it was given and the operations done since; its changing calls, those of `create`, `append` and
-- `remove`; how many bytes of its piece a failing append leaves; and how often a call failed, up to the greatest `u64`.
pub record MemoryStore : Type 0 where
  pub history : FileHistory
  pub changes : CallState
  pub prefix : ℕ
  pub faults : ℕ

-- its files
abbrev pub files_of : MemoryStore → FileMap
files_of store = files_made store.history

-- what is seen of it, which is everything
abbrev pub state_of : MemoryStore → StoreState
state_of store = record { told = told_of store.history; faults = store.faults }

-- after a changing call that did these operations
abbrev pub after_change : MemoryStore → List Operation → MemoryStore
after_change store operations =
    record store { history = after_operations store.history operations; changes = after_call store.changes }

-- after one that failed, and did these
abbrev pub after_failure : MemoryStore → List Operation → MemoryStore
after_failure store operations =
    record store { history = after_operations store.history operations; changes = after_call store.changes; faults = one_more store.faults }

-- the operation that leaves these bytes in a file, none for no byte
abbrev pub left_by : List ℕ → List ℕ → List Operation
left_by name [] = []
left_by name (byte ∷ bytes) = Append name (byte ∷ bytes) ∷ []

-- the creation of a file
abbrev pub MemoryCreates : MemoryStore → MemoryStore → List ℕ → List ℕ → Made → Type 0
MemoryCreates old new name bytes made.Created =
    (fails_next old.changes ≡ false) × (get (files_of old) name ≡ None) × (new ≡ after_change old (Create name bytes ∷ []))
MemoryCreates old new name bytes made.Exists =
    (fails_next old.changes ≡ false) × IsSome (get (files_of old) name) × (new ≡ after_change old [])
MemoryCreates old new name bytes made.Failed = (fails_next old.changes ≡ true) × (new ≡ after_failure old [])
MemoryCreates old new name bytes made.Memory =
    (fails_next old.changes ≡ false) × (get (files_of old) name ≡ None) × (new ≡ after_change old [])

-- An append. Memory may be wanting for the prefix that a failing one leaves, too.
abbrev pub MemoryAppends : MemoryStore → MemoryStore → List ℕ → List ℕ → Added → Type 0
MemoryAppends old new name bytes added.Added =
    (fails_next old.changes ≡ false) × (new ≡ after_change old (Append name bytes ∷ []))
MemoryAppends old new name bytes added.Failed =
    (fails_next old.changes ≡ true) × (new ≡ after_failure old (left_by name (take old.prefix bytes)))
MemoryAppends old new name bytes added.Memory = new ≡ after_change old []

-- a removal
abbrev pub MemoryRemoves : MemoryStore → MemoryStore → List ℕ → Gone → Type 0
MemoryRemoves old new name gone.Removed =
    (fails_next old.changes ≡ false) × IsSome (get (files_of old) name) × (new ≡ after_change old (Remove name ∷ []))
MemoryRemoves old new name gone.Absent =
    (fails_next old.changes ≡ false) × (get (files_of old) name ≡ None) × (new ≡ after_change old [])
MemoryRemoves old new name gone.Failed = (fails_next old.changes ≡ true) × (new ≡ after_failure old [])
MemoryRemoves old new name gone.Memory =
    (fails_next old.changes ≡ false) × IsSome (get (files_of old) name) × (new ≡ after_change old [])
