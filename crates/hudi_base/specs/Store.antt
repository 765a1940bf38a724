-- What the calls of a store answer, and what each leaves. This project's own.
use Rattle.std.specs.Prelude.{◌≡◌, ◌⊎◌, ℕ, ◌<◌, ◌≤◌, List, length, take, drop, Some, None, IfSome, is_some}
use Rattle.std.specs.Ordering.{nat_cmp}
use Rattle.std.specs.Cmp.Lexicographic.{slice_cmp}
use Rattle.std.specs.List.Sorted.{IsSortedByKey}
use Rattle.std.specs.FinMap.{get}
use Rattle.hudi_base.specs.Files.{Told, after, sizes}
use Rattle.hudi_base.specs.declared.operation.Operation.{Operation}
use Rattle.hudi_base.specs.declared.operation.Operation.TheVariants.{Create, Append, Remove}
use Rattle.hudi_base.specs.declared.store.Listed.{Listed}
use Rattle.hudi_base.specs.declared.store.Listed.TheVariants as listed
use Rattle.hudi_base.specs.declared.store.Fetched.{Fetched}
use Rattle.hudi_base.specs.declared.store.Fetched.TheVariants as fetched
use Rattle.hudi_base.specs.declared.store.Made.{Made}
use Rattle.hudi_base.specs.declared.store.Made.TheVariants as made
use Rattle.hudi_base.specs.declared.store.Added.{Added}
use Rattle.hudi_base.specs.declared.store.Added.TheVariants as added
use Rattle.hudi_base.specs.declared.store.Gone.{Gone}
use Rattle.hudi_base.specs.declared.store.Gone.TheVariants as gone

-- what is seen of a store: what it tells of its files, and how often it has failed
pub record StoreState : Type 0 where
  pub told : Told
  pub faults : ℕ

-- where the files are told, the file is there, with bytes that have P
abbrev pub Has : Told → List ℕ → (List ℕ → Type 0) → Type 0
Has told name P = IfSome told.files (λ files. (bytes : List ℕ) × (get files name ≡ Some bytes) × P bytes)

-- where the files are told, there is no such file
abbrev pub Lacks : Told → List ℕ → Type 0
Lacks told name = IfSome told.files (λ files. get files name ≡ None)

-- What an append of an honest store that failed did where it did something: the first n bytes arrived. No byte may
-- have arrived where the file was made for it, and nothing was done where there was no byte to add.
pub record LeavesPrefix (old new : Told) (name bytes : List ℕ) (n : ℕ) : Type 0 where
  pub within : n ≤ length bytes
  pub some : 0 < length bytes
  pub made : n ≡ 0 → Lacks old name
  pub appended : new ≡ after old (Append name (take n bytes))

-- What an honest store is left as by an operation that failed: as it was, and by an append maybe with a prefix of
-- its bytes.
abbrev pub IsLeftBy : Operation → Told → Told → Type 0
IsLeftBy (Create name bytes) old new = new ≡ old
IsLeftBy (Append name bytes) old new = (new ≡ old) ⊎ ((n : ℕ) × LeavesPrefix old new name bytes n)
IsLeftBy (Remove name) old new = new ≡ old

-- What any store keeps at a failure: what it told it still tells, and the first files are the same.
pub record Fails (honest : Type 0) (operation : Operation) (old new : Told) : Type 0 where
  pub files : is_some new.files ≡ is_some old.files
  pub operations : is_some new.operations ≡ is_some old.operations
  pub first : new.first ≡ old.first
  pub leaves : honest → IsLeftBy operation old new

-- a listing, in the order of the names
abbrev pub Lists : Told → Listed → Type 0
Lists told (listed.Files listing) =
    IsSortedByKey (λ file. file.name) (slice_cmp nat_cmp) listing × IfSome told.files (λ files. listing ≡ sizes files)
Lists told listed.Failed = Unit {0}
Lists told listed.Memory = Unit {0}

-- a read of len bytes from an offset
abbrev pub Fetches : Told → List ℕ → ℕ → ℕ → Fetched → Type 0
Fetches told name offset len (fetched.Piece piece) =
    (length piece ≤ len) × Has told name (λ bytes. piece ≡ take len (drop offset bytes))
Fetches told name offset len fetched.Absent = Lacks told name
Fetches told name offset len fetched.Failed = Unit {0}
Fetches told name offset len fetched.Memory = Unit {0}

-- the creation of a file, by an honest store or another
abbrev pub Creates : Type 0 → Told → Told → List ℕ → List ℕ → Made → Type 0
Creates honest old new name bytes made.Created = Lacks old name × (new ≡ after old (Create name bytes))
Creates honest old new name bytes made.Exists = Has old name (λ _. Unit {0}) × (new ≡ old)
Creates honest old new name bytes made.Failed = Fails honest (Create name bytes) old new
Creates honest old new name bytes made.Memory = new ≡ old

-- an append
abbrev pub Appends : Type 0 → Told → Told → List ℕ → List ℕ → Added → Type 0
Appends honest old new name bytes added.Added = new ≡ after old (Append name bytes)
Appends honest old new name bytes added.Failed = Fails honest (Append name bytes) old new
Appends honest old new name bytes added.Memory = new ≡ old

-- a removal
abbrev pub Removes : Type 0 → Told → Told → List ℕ → Gone → Type 0
Removes honest old new name gone.Removed = Has old name (λ _. Unit {0}) × (new ≡ after old (Remove name))
Removes honest old new name gone.Absent = Lacks old name × (new ≡ old)
Removes honest old new name gone.Failed = Fails honest (Remove name) old new
Removes honest old new name gone.Memory = new ≡ old
