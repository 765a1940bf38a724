-- Where an append goes: to a log of exactly the known bytes, which are whole blocks.
use Rattle.std.proofs.Common.{◌≡◌, ◌⊎◌, inl, inr, ◌<◌, ℕ, Bool, true, false, cond, List, [], ◌∷◌, ◌++◌, Option, Some, None, unwrap_or, ◌==◌, ◌&&◌, append-nil, append_assoc, refl, sym, ap, ◌∙◌, subst, arith}
use Rattle.std.specs.FinMap.{get, insert}
use Rattle.std.specs.List.{AllByRecursion}
use Rattle.std.specs.Str.{bytes_eq}
use Rattle.std.proofs.lemmas.Slice.Eq.{bytes_eq-Decides}
use Rattle.std.proofs.lemmas.Bool.Decides.{nat_tests}
use Rattle.hudi_base.specs.Files.{FileMap, content}
use Rattle.hudi_base.specs.declared.file_group.GroupRef.{GroupRef}
use Rattle.hudi_base.specs.declared.file_group.Target.{Target}
use Rattle.file_names.specs.FileName.{name_of, IsNamed}
use Rattle.file_names.specs.declared.file_name.FileName.{FileName}
use Rattle.file_names.proofs.NameTexts.{name_of_injective}
use Rattle.log_block.specs.Form.{Fits}
use Rattle.log_block.specs.declared.block.Block.{Block}
use Rattle.table_history.specs.After.{after_history}
use Rattle.table_history.specs.Histories.{History}
use Rattle.table_history.specs.Logs.{files_of, attempts, is_unused, version_in_use, attempt_in_use, opened_at, bytes_in, with_bytes}
use Rattle.table_history.specs.Tables.{Table, KnownFile}
use Rattle.table_history.specs.Targets.{is_group, is_target}
use Rattle.table_images.specs.KnownFiles.{KnownFiles, BeginsWithKnown}
use Rattle.table_images.specs.Kept.{Kept, OpenLogs}
use Rattle.table_images.specs.LogTexts.{bytes_of_blocks}
use Rattle.table_images.specs.Numbers.{IsMade}
use Rattle.table_images.specs.Runs.{log_in_use}
use Rattle.table_images.proofs.Frame.{one_name, get_here, get_apart}
use Rattle.table_images.proofs.Lines.{none_some}

-- ---- tests of groups and slices

pub eq_itself : (name : List ℕ) → bytes_eq name name ≡ true
eq_itself name = (bytes_eq-Decides name name).1 refl

pub eq_same : (a b : List ℕ) → bytes_eq a b ≡ true → a ≡ b
eq_same a b is = (bytes_eq-Decides a b).0 is

both : (a b : Bool) → (a && b) ≡ true → (a ≡ true) × (b ≡ true)
both true b h = (refl, h)
both false b h = cc

one_number : (a b : ℕ) → (a == b) ≡ true → a ≡ b
one_number a b h = grind (arith, nat_tests)

pub one_group_of : (a b : GroupRef) → is_group a b ≡ true → a ≡ b
one_group_of a b is =
    let born = both _ _ is in
    let hi = both _ _ born.0 in
    let lo = both _ _ hi.0 in
    λ i. record { partition = eq_same a.partition b.partition lo.0 i; lo = one_number a.lo b.lo lo.1 i; hi = one_number a.hi b.hi hi.1 i; born = one_number a.born b.born born.1 i }

pub one_target : (a b : Target) → is_target a b ≡ true → a ≡ b
one_target a b is =
    let slice = both _ _ is in
    λ i. record { group = one_group_of a.group b.group slice.0 i; slice = one_number a.slice b.slice slice.1 i }

itself_number : (n : ℕ) → (n == n) ≡ true
itself_number n = grind (arith, nat_tests)

pub itself_group : (a : GroupRef) → is_group a a ≡ true
itself_group a = rw (eq_itself a.partition, itself_number a.lo, itself_number a.hi, itself_number a.born) refl

pub itself_target : (a : Target) → is_target a a ≡ true
itself_target a = rw (itself_group a.group, itself_number a.slice) refl

-- ---- files by their names

pub one_file : (A : Table) (of other : FileName) → IsNamed of → IsNamed other → (of ≡ other) ⊎ (name_of A.props.name of ≡ name_of A.props.name other → ⊥)
one_file A of other named also = by_name (one_name (name_of A.props.name of) (name_of A.props.name other))
  where
    by_name : (name_of A.props.name of ≡ name_of A.props.name other) ⊎ (name_of A.props.name of ≡ name_of A.props.name other → ⊥) → (of ≡ other) ⊎ (name_of A.props.name of ≡ name_of A.props.name other → ⊥)
    by_name (inl same) = inl (name_of_injective A.props.name of other named also same)
    by_name (inr apart) = inr apart

-- what a table knows of a file that isn't there
unknown : (image : FileMap) (fs : List KnownFile) (name : List ℕ) → AllByRecursion (BeginsWithKnown image) fs → get image name ≡ None → bytes_in fs name ≡ []
unknown image [] name all none = refl
unknown image (k ∷ fs) name all none = by_test (bytes_eq k.name name) refl (unknown image fs name all.1 none)
  where
    by_test : (b : Bool) → bytes_eq k.name name ≡ b → bytes_in fs name ≡ [] → cond (bytes_eq k.name name) k.bytes (bytes_in fs name) ≡ []
    by_test true same rest = absurd (none_some (sym none ∙ ap (get image) (sym (eq_same k.name name same)) ∙ all.0.1))
    by_test false other rest = rw other rest

-- ---- where an append goes

pub record Goes (A : Table) (H : History) (image : FileMap) (s : Target) : Type 0 where
  pub named : IsNamed (log_in_use A H s)
  pub known : bytes_in (files_of A H) (name_of A.props.name (log_in_use A H s)) ≡ content image (name_of A.props.name (log_in_use A H s))
  pub blocks : List Block
  pub fit : AllByRecursion Fits blocks
  pub whole : content image (name_of A.props.name (log_in_use A H s)) ≡ bytes_of_blocks blocks
  pub absent : is_unused A H s ≡ true → get image (name_of A.props.name (log_in_use A H s)) ≡ None

pub not_below : (n : ℕ) → n < n → ⊥
not_below n h = omega (arith, h)

pub goes : (A : Table) (H : History) (image : FileMap) (s : Target) → Kept A image H → IsNamed (log_in_use A H s) → Goes A H image s
unfolding OpenLogs KnownFiles
goes A H image s kept named = by_use (is_unused A H s) refl
  where
    name : List ℕ
    name = name_of A.props.name (log_in_use A H s)

    not_made : is_unused A H s ≡ true → (o : Option (List ℕ)) → get image name ≡ o → get image name ≡ None
    not_made unused None is = is
    not_made unused (Some bytes) is = absurd (by_made (kept.numbers.logs s.group s.slice (version_in_use A H s) (record { session = A.session; attempt = attempt_in_use A H s }) bytes (record { named = named; there = is })).made)
      where
        attempt : attempt_in_use A H s ≡ attempts A H
        attempt = ap (λ b. cond b (attempts A H) (opened_at A H s)) unused

        by_made : IsMade (after_history A H) (attempts A H) (record { session = A.session; attempt = attempt_in_use A H s }) → ⊥
        by_made (inl earlier) = not_below A.session earlier
        by_made (inr this) = not_below (attempts A H) (subst (λ n. n < attempts A H) attempt this.1)

    by_use : (b : Bool) → is_unused A H s ≡ b → Goes A H image s
    by_use true unused =
        let none : get image name ≡ None = not_made unused (get image name) refl in
        let empty : content image name ≡ [] = ap (λ (o : Option (List ℕ)). unwrap_or o []) none in
        record { named = named; known = unknown image (files_of A H) name kept.known none ∙ sym empty; blocks = []; fit = tt; whole = empty; absent = λ _. none }
    by_use false used =
        let log = kept.logs s used in
        let is : content image name ≡ log.bytes = ap (λ (o : Option (List ℕ)). unwrap_or o []) log.there in
        record { named = named; known = log.known ∙ sym is; blocks = log.blocks; fit = log.fit; whole = is ∙ log.whole; absent = λ unused. let wrong : true ≡ false = sym unused ∙ used in absurd cc }

-- ---- the known bytes, with more in one file

with_more : (image : FileMap) (of : FileName) (name bytes : List ℕ) (fs : List KnownFile) → AllByRecursion (BeginsWithKnown image) fs → bytes_in fs name ≡ content image name
    → AllByRecursion (BeginsWithKnown (insert image name (content image name ++ bytes))) (with_bytes of name bytes fs)
with_more image of name bytes [] all known =
    (([], get_here image name (content image name ++ bytes) ∙ ap Some (ap (λ old. old ++ bytes) (sym known) ∙ sym (append-nil bytes))), tt)
with_more image of name bytes (k ∷ fs) all known = by_test (bytes_eq k.name name) refl (with_more image of name bytes fs all.1)
  where
    new : FileMap
    new = insert image name (content image name ++ bytes)

    begins : (k : KnownFile) → BeginsWithKnown image k → BeginsWithKnown new k
    begins k was = by_name (one_name k.name name)
      where
        by_name : (k.name ≡ name) ⊎ (k.name ≡ name → ⊥) → BeginsWithKnown new k
        by_name (inl same) =
            let old : content image name ≡ k.bytes ++ was.0 = ap (λ (o : Option (List ℕ)). unwrap_or o []) (ap (get image) (sym same) ∙ was.1) in
            (was.0 ++ bytes, ap (get new) same ∙ get_here image name (content image name ++ bytes) ∙ ap Some (ap (λ o. o ++ bytes) old ∙ append_assoc k.bytes was.0 bytes))
        by_name (inr apart) = (was.0, get_apart image name (content image name ++ bytes) k.name apart ∙ was.1)

    rest : (fs : List KnownFile) → AllByRecursion (BeginsWithKnown image) fs → AllByRecursion (BeginsWithKnown new) fs
    rest [] all = tt
    rest (k ∷ fs) all = (begins k all.0, rest fs all.1)

    by_test : (b : Bool) → bytes_eq k.name name ≡ b → (bytes_in fs name ≡ content image name → AllByRecursion (BeginsWithKnown new) (with_bytes of name bytes fs))
        → AllByRecursion (BeginsWithKnown new) (cond (bytes_eq k.name name) (record k { bytes = k.bytes ++ bytes } ∷ fs) (k ∷ with_bytes of name bytes fs))
    by_test true same more =
        let name_is : k.name ≡ name = eq_same k.name name same in
        let old : k.bytes ≡ content image name = ap (λ b. cond b k.bytes (bytes_in fs name)) (sym same) ∙ known in
        rw same (([], ap (get new) name_is ∙ get_here image name (content image name ++ bytes) ∙ ap Some (ap (λ o. o ++ bytes) (sym old) ∙ sym (append-nil (k.bytes ++ bytes)))), rest fs all.1)
    by_test false other more =
        let old : bytes_in fs name ≡ content image name = ap (λ b. cond b k.bytes (bytes_in fs name)) (sym other) ∙ known in
        rw other (begins k all.0, more old)

pub known_more : (image : FileMap) (of : FileName) (name bytes : List ℕ) (fs : List KnownFile) → AllByRecursion (BeginsWithKnown image) fs → bytes_in fs name ≡ content image name
    → AllByRecursion (BeginsWithKnown (insert image name (content image name ++ bytes))) (with_bytes of name bytes fs)
known_more image of name bytes fs all known = with_more image of name bytes fs all known

-- an append that failed leaves the known bytes in front
pub known_left : (image : FileMap) (name more : List ℕ) (fs : List KnownFile) → AllByRecursion (BeginsWithKnown image) fs → AllByRecursion (BeginsWithKnown (insert image name (content image name ++ more))) fs
known_left image name more [] all = tt
known_left image name more (k ∷ fs) all = (by_name (one_name k.name name), known_left image name more fs all.1)
  where
    new : FileMap
    new = insert image name (content image name ++ more)

    by_name : (k.name ≡ name) ⊎ (k.name ≡ name → ⊥) → BeginsWithKnown new k
    by_name (inl same) =
        let old : content image name ≡ k.bytes ++ all.0.0 = ap (λ (o : Option (List ℕ)). unwrap_or o []) (ap (get image) (sym same) ∙ all.0.1) in
        (all.0.0 ++ more, ap (get new) same ∙ get_here image name (content image name ++ more) ∙ ap Some (ap (λ o. o ++ more) old ∙ append_assoc k.bytes all.0.0 more))
    by_name (inr apart) = (all.0.0, get_apart image name (content image name ++ more) k.name apart ∙ all.0.1)

-- the bytes that are known then, of this file and of others
pub known_here : (of : FileName) (name bytes : List ℕ) (fs : List KnownFile) → bytes_in (with_bytes of name bytes fs) name ≡ bytes_in fs name ++ bytes
known_here of name bytes [] = ap (λ b. cond b bytes []) (eq_itself name)
known_here of name bytes (k ∷ fs) = by_test (bytes_eq k.name name) refl (known_here of name bytes fs)
  where
    by_test : (b : Bool) → bytes_eq k.name name ≡ b → bytes_in (with_bytes of name bytes fs) name ≡ bytes_in fs name ++ bytes
        → bytes_in (cond (bytes_eq k.name name) (record k { bytes = k.bytes ++ bytes } ∷ fs) (k ∷ with_bytes of name bytes fs)) name ≡ cond (bytes_eq k.name name) k.bytes (bytes_in fs name) ++ bytes
    by_test true same rest = rw same (rw same refl)
    by_test false other rest = rw other (rw other rest)

pub known_apart : (of : FileName) (name bytes : List ℕ) (fs : List KnownFile) (q : List ℕ) → (q ≡ name → ⊥) → bytes_in (with_bytes of name bytes fs) q ≡ bytes_in fs q
known_apart of name bytes [] q apart = by_test (bytes_eq name q) refl
  where
    by_test : (b : Bool) → bytes_eq name q ≡ b → cond (bytes_eq name q) bytes [] ≡ []
    by_test true same = absurd (apart (sym (eq_same name q same)))
    by_test false other = rw other refl
known_apart of name bytes (k ∷ fs) q apart = by_test (bytes_eq k.name name) refl (known_apart of name bytes fs q apart)
  where
    by_test : (b : Bool) → bytes_eq k.name name ≡ b → bytes_in (with_bytes of name bytes fs) q ≡ bytes_in fs q
        → bytes_in (cond (bytes_eq k.name name) (record k { bytes = k.bytes ++ bytes } ∷ fs) (k ∷ with_bytes of name bytes fs)) q ≡ cond (bytes_eq k.name q) k.bytes (bytes_in fs q)
    by_test true same rest = rw same (skip (bytes_eq k.name q) refl)
      where
        skip : (b : Bool) → bytes_eq k.name q ≡ b → cond (bytes_eq k.name q) (k.bytes ++ bytes) (bytes_in fs q) ≡ cond (bytes_eq k.name q) k.bytes (bytes_in fs q)
        skip true is = absurd (apart (sym (eq_same k.name q is) ∙ eq_same k.name name same))
        skip false is = rw is refl
    by_test false other rest = rw other (ap (cond (bytes_eq k.name q) k.bytes) rest)
