-- What pins keep is known: the table has each part's file, and at least so many bytes of it.
use Rattle.std.proofs.Common.{◌≡◌, ◌⊎◌, inl, inr, ◌≤◌, ◌+◌, ℕ, Bool, true, false, cond, List, [], ◌∷◌, ◌++◌, length, map, Option, Some, None, length-append, refl, sym, ap, ◌∙◌, subst, arith}
use Rattle.std.specs.Prelude.{reverse}
use Rattle.std.specs.FinMap.{get}
use Rattle.std.proofs.lemmas.List.{reverse-append}
use Rattle.std.specs.List.{AllByRecursion, flat_map}
use Rattle.std.specs.Str.{bytes_eq}
use Rattle.hudi_base.specs.Files.{FileMap}
use Rattle.hudi_base.specs.declared.file_group.GroupRef.{GroupRef}
use Rattle.hudi_base.specs.declared.file_group.Target.{Target}
use Rattle.file_names.specs.FileName.{name_of}
use Rattle.file_names.specs.declared.file_name.FileName.{FileName}
use Rattle.file_names.specs.declared.file_name.FileName.TheVariants as file
use Rattle.table_history.specs.Histories.{History}
use Rattle.table_history.specs.Logs.{files_of, logs_of, bytes_in, with_bytes, is_unused}
use Rattle.table_history.specs.declared.log_file.LogFile.{LogFile}
use Rattle.table_history.specs.Pins.{pin_of, files_of_view, ArePartsAt, chain_at, part_of, IsView}
use Rattle.table_history.specs.Tables.{Table, KnownFile}
use Rattle.table_history.specs.declared.view.Part.{Part}
use Rattle.table_history.specs.declared.view.View.{View}
use Rattle.table_history.specs.declared.view.LivePin.{LivePin}
use Rattle.table_history.specs.declared.view.GroupParts.{GroupParts}
use Rattle.table_images.specs.KnownFiles.{BeginsWithKnown}
use Rattle.table_images.specs.Runs.{log_in_use}
use Rattle.table_images.proofs.Frame.{one_name}
use Rattle.table_images.proofs.Texts.{fit_more}
use Rattle.table_images.proofs.WhereTo.{eq_itself, eq_same, known_here, known_apart}

-- ---- known files

-- one of the files has this name
abbrev pub HasName : List KnownFile → List ℕ → Type 0
HasName [] name = ⊥
HasName (k ∷ fs) name = (k.name ≡ name) ⊎ HasName fs name

-- the table knows so many bytes of the file
pub record IsKnownTo (fs : List KnownFile) (name : List ℕ) (len : ℕ) : Type 0 where
  pub there : HasName fs name
  pub long : len ≤ length (bytes_in fs name)

-- a file that is known begins with the bytes that are known of it
pub known_there : (image : FileMap) (fs : List KnownFile) (name : List ℕ) → AllByRecursion (BeginsWithKnown image) fs → HasName fs name → (more : List ℕ) × (get image name ≡ Some (bytes_in fs name ++ more))
known_there image [] name all has = absurd has
known_there image (k ∷ fs) name all has = by_test (bytes_eq k.name name) refl has (known_there image fs name all.1)
  where
    by_test : (b : Bool) → bytes_eq k.name name ≡ b → (k.name ≡ name) ⊎ HasName fs name → (HasName fs name → (more : List ℕ) × (get image name ≡ Some (bytes_in fs name ++ more)))
        → (more : List ℕ) × (get image name ≡ Some (cond (bytes_eq k.name name) k.bytes (bytes_in fs name) ++ more))
    by_test true same has rest = (all.0.0, ap (get image) (sym (eq_same k.name name same)) ∙ all.0.1 ∙ ap (λ b. Some (cond b k.bytes (bytes_in fs name) ++ all.0.0)) (sym same))
    by_test false other (inl is) rest = let yes : bytes_eq k.name name ≡ true = ap (bytes_eq k.name) (sym is) ∙ eq_itself k.name in let wrong : true ≡ false = sym yes ∙ other in absurd cc
    by_test false other (inr more) rest = let there = rest more in (there.0, there.1 ∙ ap (λ b. Some (cond b k.bytes (bytes_in fs name) ++ there.0)) (sym other))

still_named : (of : FileName) (name bytes : List ℕ) (fs : List KnownFile) (q : List ℕ) → HasName fs q → HasName (with_bytes of name bytes fs) q
still_named of name bytes [] q has = absurd has
still_named of name bytes (k ∷ fs) q has = by_test (bytes_eq k.name name) refl has (still_named of name bytes fs q)
  where
    by_test : (b : Bool) → bytes_eq k.name name ≡ b → (k.name ≡ q) ⊎ HasName fs q → (HasName fs q → HasName (with_bytes of name bytes fs) q)
        → HasName (cond (bytes_eq k.name name) (record k { bytes = k.bytes ++ bytes } ∷ fs) (k ∷ with_bytes of name bytes fs)) q
    by_test true same has rest = rw same has
    by_test false other (inl is) rest = rw other (inl is)
    by_test false other (inr more) rest = rw other (inr (rest more))

now_named : (of : FileName) (name bytes : List ℕ) (fs : List KnownFile) → HasName (with_bytes of name bytes fs) name
now_named of name bytes [] = inl refl
now_named of name bytes (k ∷ fs) = by_test (bytes_eq k.name name) refl (now_named of name bytes fs)
  where
    by_test : (b : Bool) → bytes_eq k.name name ≡ b → HasName (with_bytes of name bytes fs) name → HasName (cond (bytes_eq k.name name) (record k { bytes = k.bytes ++ bytes } ∷ fs) (k ∷ with_bytes of name bytes fs)) name
    by_test true same rest = rw same (inl (eq_same k.name name same))
    by_test false other rest = rw other (inr rest)

-- more bytes in one file
pub known_grows : (of : FileName) (name bytes : List ℕ) (fs : List KnownFile) (q : List ℕ) (len : ℕ) → IsKnownTo fs q len → IsKnownTo (with_bytes of name bytes fs) q len
known_grows of name bytes fs q len known = record { there = still_named of name bytes fs q known.there; long = by_name (one_name q name) }
  where
    by_name : (q ≡ name) ⊎ (q ≡ name → ⊥) → len ≤ length (bytes_in (with_bytes of name bytes fs) q)
    by_name (inl same) =
        let grown : length (bytes_in (with_bytes of name bytes fs) q) ≡ length (bytes_in fs q ++ bytes) =
        ap (λ n. length (bytes_in (with_bytes of name bytes fs) n)) same ∙ ap length (known_here of name bytes fs) ∙ ap (λ n. length (bytes_in fs n ++ bytes)) (sym same) in
        let old = known.long in
        omega (arith, grown, old, length-append (bytes_in fs q) bytes)
    by_name (inr apart) = let grown = ap length (known_apart of name bytes fs q apart) in let old = known.long in omega (arith, grown, old)

pub known_more : (of : FileName) (name bytes : List ℕ) (fs : List KnownFile) (len : ℕ) → len ≤ length (bytes_in fs name) → IsKnownTo (with_bytes of name bytes fs) name (len + length bytes)
known_more of name bytes fs len le = record {
  there = now_named of name bytes fs;
  long = let grown = ap length (known_here of name bytes fs) in omega (arith, grown, le, length-append (bytes_in fs name) bytes);
}

-- ---- the logs of a slice

abbrev pub file_of_log : Target → LogFile → FileName
file_of_log s log = file.Log s.group s.slice log.version (record { session = log.session; attempt = log.attempt })

abbrev pub IsKnownLog : Table → List KnownFile → Target → LogFile → Type 0
IsKnownLog A fs s log = IsKnownTo fs (name_of A.props.name (file_of_log s log)) log.length

-- the first of the logs is the one in use
abbrev pub IsNewest : Table → History → Target → List LogFile → Type 0
IsNewest A H s [] = ⊥
IsNewest A H s (log ∷ more) = file_of_log s log ≡ log_in_use A H s

-- what pins keep, and the logs that later pins will
pub record KnownViews (A : Table) (H : History) : Type 0 where
  pub logs : (s : Target) → AllByRecursion (IsKnownLog A (files_of A H) s) (logs_of A H s)
  pub newest : (s : Target) → is_unused A H s ≡ false → IsNewest A H s (logs_of A H s)
  pub pins : (p : ℕ) (live : LivePin) → pin_of H p ≡ Some live → AllByRecursion (λ part. IsKnownTo (files_of A H) part.name part.length) (files_of_view live.view)

pub all_of : {X : Type 0} (P Q : X → Type 0) → ((x : X) → P x → Q x) → (xs : List X) → AllByRecursion P xs → AllByRecursion Q xs
all_of P Q f [] all = tt
all_of P Q f (x ∷ xs) all = (f x all.0, all_of P Q f xs all.1)

all_reversed : {X : Type 0} (P : X → Type 0) (xs : List X) → AllByRecursion P xs → AllByRecursion P (reverse xs)
all_reversed P [] all = tt
all_reversed P (x ∷ xs) all = subst (AllByRecursion P) (sym (reverse-append (x ∷ []) xs)) (fit_more P (reverse xs) (x ∷ []) (all_reversed P xs all.1) (all.0, tt))

all_mapped : {X Y : Type 0} (P : Y → Type 0) (f : X → Y) (xs : List X) → AllByRecursion (λ x. P (f x)) xs → AllByRecursion P (map f xs)
all_mapped P f [] all = tt
all_mapped P f (x ∷ xs) all = (all.0, all_mapped P f xs all.1)

-- ---- a pin's view

abbrev IsKnownPart : Table → History → Part → Type 0
IsKnownPart A H part = IsKnownTo (files_of A H) part.name part.length

chain_known : (A : Table) (H : History) (group : GroupRef) (t : ℕ) (bases_only : Bool) → ((s : Target) → AllByRecursion (IsKnownLog A (files_of A H) s) (logs_of A H s))
    → AllByRecursion (IsKnownPart A H) (chain_at A H group t bases_only)
chain_known A H group t true logs = tt
chain_known A H group t false logs =
    all_mapped (IsKnownPart A H) (part_of A (record { group = group; slice = group.born })) (reverse (logs_of A H (record { group = group; slice = group.born })))
    (all_reversed (IsKnownLog A (files_of A H) (record { group = group; slice = group.born })) (logs_of A H (record { group = group; slice = group.born })) (logs (record { group = group; slice = group.born })))

chains_known : (A : Table) (H : History) (t : ℕ) (bases_only : Bool) (groups : List GroupRef) → ((s : Target) → AllByRecursion (IsKnownLog A (files_of A H) s) (logs_of A H s))
    → AllByRecursion (IsKnownPart A H) (flat_map (λ (g : GroupParts). g.parts) (map (λ group. (let parts : GroupParts = record { group = group; parts = chain_at A H group t bases_only } in parts)) groups))
chains_known A H t bases_only [] logs = tt
chains_known A H t bases_only (group ∷ groups) logs =
    fit_more (IsKnownPart A H) (chain_at A H group t bases_only) _ (chain_known A H group t bases_only logs) (chains_known A H t bases_only groups logs)

groups_known : (A : Table) (H : History) (at : Option ℕ) (bases_only : Bool) (groups : List GroupParts) → ((s : Target) → AllByRecursion (IsKnownLog A (files_of A H) s) (logs_of A H s))
    → ArePartsAt A H at bases_only groups → AllByRecursion (IsKnownPart A H) (flat_map (λ (g : GroupParts). g.parts) groups)
groups_known A H None bases_only groups logs none =
    subst (λ (gs : List GroupParts). AllByRecursion (IsKnownPart A H) (flat_map (λ (g : GroupParts). g.parts) gs)) (sym none) tt
groups_known A H (Some t) bases_only groups logs are =
    subst (λ (gs : List GroupParts). AllByRecursion (IsKnownPart A H) (flat_map (λ (g : GroupParts). g.parts) gs)) (sym are.are) (chains_known A H t bases_only are.groups logs)

pub view_known : (A : Table) (H : History) (at : Option ℕ) (bases_only : Bool) (view : View) → IsView A H at bases_only view → KnownViews A H
    → AllByRecursion (IsKnownPart A H) (files_of_view view)
view_known A H at bases_only view is known = groups_known A H view.t bases_only view.groups known.logs is.groups
