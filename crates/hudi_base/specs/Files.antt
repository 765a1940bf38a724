-- Files, what operations make of them, and what a stop leaves. This project's own model of a disk.
use Rattle.std.specs.Prelude.{◌≡◌, ◌⊎◌, ℕ, List, [], ◌∷◌, ◌++◌, take, length, map, Option, IfSome, option_map, unwrap_or, slice_get, MatchOption}
use Rattle.std.specs.Ordering.{nat_cmp}
use Rattle.std.specs.Cmp.Lexicographic.{slice_cmp}
use Rattle.std.specs.FinMap.{FinMap, get, insert, remove, entries}
use Rattle.hudi_base.specs.declared.operation.Operation.{Operation}
use Rattle.hudi_base.specs.declared.operation.Operation.TheVariants.{Create, Append, Remove}
use Rattle.hudi_base.specs.declared.store.FileSize.{FileSize}

-- the files of a store: from names, in the order of their bytes, to bytes
abbrev pub FileMap : Type 0
FileMap = FinMap (slice_cmp nat_cmp) (List ℕ)

-- the bytes of a file, none where it is absent
abbrev pub content : FileMap → List ℕ → List ℕ
content files name = unwrap_or (get files name) []

-- the files after an operation
abbrev pub changed : FileMap → Operation → FileMap
changed files (Create name bytes) = insert files name bytes
changed files (Append name bytes) = insert files name (content files name ++ bytes)
changed files (Remove name) = remove files name

-- the files after operations, in order
abbrev pub changed_all : FileMap → List Operation → FileMap
changed_all files [] = files
changed_all files (operation ∷ operations) = changed_all (changed files operation) operations

-- the names and sizes, in the order of the names
abbrev pub sizes : FileMap → List FileSize
sizes files = map (λ file. record { name = file.0; size = length file.1 }) (entries files)

-- what a store tells of itself: its files, the operations done, and the files before the first of these
pub record Told : Type 0 where
  pub files : Option FileMap
  pub operations : Option (List Operation)
  pub first : Option FileMap

-- what it tells after one more operation
abbrev pub after : Told → Operation → Told
after told operation = record {
  files = option_map (λ files. changed files operation) told.files;
  operations = option_map (λ operations. operations ++ operation ∷ []) told.operations;
  first = told.first;
}

-- the operations make the files of the first files
abbrev pub IsReplay : Told → Type 0
IsReplay told = IfSome told.files (λ files. IfSome told.operations (λ operations. IfSome told.first (λ first. files ≡ changed_all first operations)))

-- What a stop within an operation leaves: the files before it or after it, and of an append also the file with any
-- prefix of the bytes, made or not where that prefix is empty.
abbrev pub IsWithin : FileMap → Operation → FileMap → Type 0
IsWithin files (Create name bytes) image = (image ≡ files) ⊎ (image ≡ changed files (Create name bytes))
IsWithin files (Append name bytes) image = (image ≡ files) ⊎ ((n : ℕ) × (image ≡ changed files (Append name (take n bytes))))
IsWithin files (Remove name) image = (image ≡ files) ⊎ (image ≡ changed files (Remove name))

-- what a stop leaves after the first k operations, and before the one after these has ended
abbrev pub IsImage : FileMap → List Operation → ℕ → FileMap → Type 0
IsImage files operations k image =
    let reached = changed_all files (take k operations) in
    (image ≡ reached) ⊎ IfNext (slice_get operations k) (λ operation. IsWithin reached operation image)
  where
    IfNext : Option Operation → (Operation → Type 0) → Type 0
    IfNext next P = MatchOption next ⊥ P
