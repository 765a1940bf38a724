-- The bounds of numbers, at each kind of step.
use Rattle.std.proofs.Common.{◌≡◌, inl, inr, ◌≤◌, ℕ, List, [], ◌∷◌, ◌++◌, Some, refl, sym, ap, ◌∙◌, subst, arith, ◌⊎◌, Option, None, unwrap_or}
use Rattle.std.specs.FinMap.{get}
use Rattle.std.specs.List.{AllByRecursion}
use Rattle.hudi_base.specs.Files.{FileMap, content}
use Rattle.hudi_base.specs.declared.file_group.GroupRef.{GroupRef}
use Rattle.hudi_base.specs.declared.file_group.Target.{Target}
use Rattle.file_names.specs.FileName.{name_of}
use Rattle.file_names.specs.declared.file_name.FileName.TheVariants as file
use Rattle.file_names.specs.declared.file_name.Token.{Token}
use Rattle.log_block.specs.declared.block.Block.{Block}
use Rattle.log_block.specs.declared.block.Block.TheVariants.{Data, Delete, Rollback}
use Rattle.table_history.specs.After.{after_history, greatest_in}
use Rattle.table_history.specs.Histories.{History}
use Rattle.table_history.specs.Logs.{attempts, version_in_use, attempt_in_use}
use Rattle.table_history.specs.Tables.{Table, Instant}
use Rattle.table_images.specs.Kept.{Kept, IsCurrent}
use Rattle.table_images.specs.LogTexts.{HasFile, blocks_in}
use Rattle.table_images.specs.Numbers.{IsMade, IsUpTo, IsBoundedLog, IsBoundedBase, HasData, IsEarliest, StartsBounded}
use Rattle.table_images.specs.Runs.{log_in_use}
use Rattle.table_images.proofs.AppendFacts.{LeavesSlices, IsFailing, attempt_made}
use Rattle.table_images.proofs.Texts.{no_blocks}
use Rattle.table_images.proofs.WhereTo.{Goes}
use Rattle.table_images.proofs.SameLogs.{LeavesLogs, log_is_none, base_is_none, had}
use Rattle.table_images.proofs.Appended.{name_in_use, with_more, another}
use Rattle.table_history.specs.Instants.{instant_of, completions}
use Rattle.file_names.specs.declared.file_name.State.{State}
use Rattle.file_names.specs.declared.file_name.State.TheVariants.{Completed}
use Rattle.table_images.proofs.Advances.{Advances, IsSameStage, KeepsLine, number_cases}
use Rattle.table_images.proofs.Lines.{at_after, some_same}

-- ---- no append

pub made_still : (A : Table) (H K : History) (n m : ℕ) (token : Token) → n ≤ m → IsMade (after_history A H) n token → IsMade (after_history A K) m token
made_still A H K n m token le (inl earlier) = inl earlier
made_still A H K n m token le (inr this) = inr (this.0, omega (arith, this.1, le))

up_to_one : (a b : ℕ) (block : Block) → a ≤ b → IsUpTo a block → IsUpTo b block
up_to_one a b (Data instant schema content) le h = omega (arith, le, h)
up_to_one a b (Delete instant content) le h = omega (arith, le, h)
up_to_one a b (Rollback instant target) le h = (omega (arith, le, h.0), omega (arith, le, h.1))

pub up_to : (a b : ℕ) (blocks : List Block) → a ≤ b → AllByRecursion (IsUpTo a) blocks → AllByRecursion (IsUpTo b) blocks
up_to a b [] le all = tt
up_to a b (block ∷ blocks) le all = (up_to_one a b block le all.0, up_to a b blocks le all.1)

pub bounded_more : (A : Table) (H K : History) (group : GroupRef) (slice : ℕ) (token : Token) (bytes : List ℕ) → attempts A H ≤ attempts A K
    → greatest_in (after_history A H).instants ≤ greatest_in (after_history A K).instants
    → IsBoundedLog (after_history A H) (attempts A H) group slice token bytes → IsBoundedLog (after_history A K) (attempts A K) group slice token bytes
bounded_more A H K group slice token bytes tries le log = record {
  made = made_still A H K (attempts A H) (attempts A K) token tries log.made;
  drawn = omega (arith, log.drawn, le);
  current = log.current;
  blocks = up_to _ _ _ le log.blocks;
}

pub base_more : (A : Table) (H K : History) (token : Token) (t : ℕ) → attempts A H ≤ attempts A K
    → greatest_in (after_history A H).instants ≤ greatest_in (after_history A K).instants
    → IsBoundedBase (after_history A H) (attempts A H) token t → IsBoundedBase (after_history A K) (attempts A K) token t
base_more A H K token t tries le base = record { made = made_still A H K (attempts A H) (attempts A K) token tries base.made; time = omega (arith, base.time, le) }

same_le : (n m : ℕ) → m ≡ n → n ≤ m
same_le n m e = omega (arith, e)

pub bounded_still : (A : Table) (H K : History) (image new : FileMap) → LeavesLogs A H K image new → Kept A image H
    → (group : GroupRef) (slice version : ℕ) (token : Token) (bytes : List ℕ) → HasFile new (after_history A K) (file.Log group slice version token) bytes
    → IsBoundedLog (after_history A K) (attempts A K) group slice token bytes
bounded_still A H K image new leaves kept group slice version token bytes has =
    bounded_more A H K group slice token bytes (same_le _ _ leaves.logs.tries) leaves.greatest
    (kept.numbers.logs group slice version token bytes (had A H K image new (file.Log group slice version token) bytes leaves (log_is_none group slice version token) has))

pub bases_still : (A : Table) (H K : History) (image new : FileMap) → LeavesLogs A H K image new → Kept A image H
    → (group : GroupRef) (token : Token) (t : ℕ) (bytes : List ℕ) → HasFile new (after_history A K) (file.Base group token t) bytes → IsBoundedBase (after_history A K) (attempts A K) token t
bases_still A H K image new leaves kept group token t bytes has =
    base_more A H K token t (same_le _ _ leaves.logs.tries) leaves.greatest
    (kept.numbers.bases group token t bytes (had A H K image new (file.Base group token t) bytes leaves (base_is_none group token t) has))

-- ---- more bytes in a log

base_no_log : (g : GroupRef) (k : Token) (t : ℕ) (group : GroupRef) (slice version : ℕ) (token : Token) → file.Base g k t ≡ file.Log group slice version token → ⊥
base_no_log g k t group slice version token is = cc

module _ (A : Table) (H K : History) (image : FileMap) (s : Target) (kept : Kept A image H) (to : Goes A H image s) (more : List ℕ) where
  pub old_blocks : AllByRecursion (IsUpTo (greatest_in (after_history A H).instants)) (blocks_in (content image (name_in_use A H s)))
  old_blocks = by_file (get image (name_in_use A H s)) refl
    where
      by_file : (o : Option (List ℕ)) → get image (name_in_use A H s) ≡ o → AllByRecursion (IsUpTo (greatest_in (after_history A H).instants)) (blocks_in (content image (name_in_use A H s)))
      by_file None is =
          subst (λ (o : Option (List ℕ)). AllByRecursion (IsUpTo (greatest_in (after_history A H).instants)) (blocks_in (unwrap_or o []))) (sym is)
          (subst (AllByRecursion (IsUpTo (greatest_in (after_history A H).instants))) (sym no_blocks) tt)
      by_file (Some bytes) is =
          subst (λ (o : Option (List ℕ)). AllByRecursion (IsUpTo (greatest_in (after_history A H).instants)) (blocks_in (unwrap_or o []))) (sym is)
          (kept.numbers.logs s.group s.slice (version_in_use A H s) (record { session = A.session; attempt = attempt_in_use A H s }) bytes (record { named = to.named; there = is })).blocks

  pub bounded_logs : LeavesSlices A H K s → greatest_in (after_history A H).instants ≤ greatest_in (after_history A K).instants → IsCurrent (after_history A K) s
      → AllByRecursion (IsUpTo (greatest_in (after_history A K).instants)) (blocks_in (content image (name_in_use A H s) ++ more))
      → (group : GroupRef) (slice version : ℕ) (token : Token) (bytes : List ℕ) → HasFile (with_more A H image s more) (after_history A K) (file.Log group slice version token) bytes
      → IsBoundedLog (after_history A K) (attempts A K) group slice token bytes
  bounded_logs leaves le current blocks group slice version token bytes has = by_file (another A H image (file.Log group slice version token) s more bytes to.named has.named has.there).by
    where
      by_file : ((file.Log group slice version token ≡ log_in_use A H s) × (bytes ≡ content image (name_in_use A H s) ++ more))
          ⊎ ((name_of A.props.name (file.Log group slice version token) ≡ name_in_use A H s → ⊥) × (get image (name_of A.props.name (file.Log group slice version token)) ≡ Some bytes))
          → IsBoundedLog (after_history A K) (attempts A K) group slice token bytes
      by_file (inl here) =
          let one : file.Log group slice version token ≡ file.Log s.group s.slice (version_in_use A H s) (record { session = A.session; attempt = attempt_in_use A H s }) = here.0 in
          let g : s.group ≡ group = cc in
          let sl : s.slice ≡ slice = cc in
          let tk : record { session = A.session; attempt = attempt_in_use A H s } ≡ token = cc in
          subst (IsBoundedLog (after_history A K) (attempts A K) group slice token) (sym here.1)
          (subst (λ (q : Token). IsBoundedLog (after_history A K) (attempts A K) group slice q (content image (name_in_use A H s) ++ more)) tk
          (subst (λ n. IsBoundedLog (after_history A K) (attempts A K) group n (record { session = A.session; attempt = attempt_in_use A H s }) (content image (name_in_use A H s) ++ more)) sl
          (subst (λ (h : GroupRef). IsBoundedLog (after_history A K) (attempts A K) h s.slice (record { session = A.session; attempt = attempt_in_use A H s }) (content image (name_in_use A H s) ++ more)) g
          (record { made = inr (refl, attempt_made A H K image s kept leaves); drawn = current.bounded; current = λ live. omega (arith, current.slice); blocks = blocks }))))
      by_file (inr other) =
          bounded_more A H K group slice token bytes leaves.tries le (kept.numbers.logs group slice version token bytes (record { named = has.named; there = other.1 }))

  pub bounded_bases : LeavesSlices A H K s → greatest_in (after_history A H).instants ≤ greatest_in (after_history A K).instants
      → (group : GroupRef) (token : Token) (t : ℕ) (bytes : List ℕ) → HasFile (with_more A H image s more) (after_history A K) (file.Base group token t) bytes
      → IsBoundedBase (after_history A K) (attempts A K) token t
  bounded_bases leaves le group token t bytes has = by_file (another A H image (file.Base group token t) s more bytes to.named has.named has.there).by
    where
      by_file : ((file.Base group token t ≡ log_in_use A H s) × (bytes ≡ content image (name_in_use A H s) ++ more))
          ⊎ ((name_of A.props.name (file.Base group token t) ≡ name_in_use A H s → ⊥) × (get image (name_of A.props.name (file.Base group token t)) ≡ Some bytes))
          → IsBoundedBase (after_history A K) (attempts A K) token t
      by_file (inl here) = absurd (base_no_log group token t s.group s.slice (version_in_use A H s) (record { session = A.session; attempt = attempt_in_use A H s }) here.0)
      by_file (inr other) = base_more A H K token t leaves.tries le (kept.numbers.bases group token t bytes (record { named = has.named; there = other.1 }))

-- ---- an append that left nothing

module _ (A : Table) (H K : History) (image : FileMap) (s : Target) (kept : Kept A image H) (to : Goes A H image s) (failing : IsFailing A H K s) where
  pub bounded_unchanged : greatest_in (after_history A H).instants ≤ greatest_in (after_history A K).instants
      → (group : GroupRef) (slice version : ℕ) (token : Token) (bytes : List ℕ) → HasFile image (after_history A K) (file.Log group slice version token) bytes
      → IsBoundedLog (after_history A K) (attempts A K) group slice token bytes
  bounded_unchanged le group slice version token bytes has =
      bounded_more A H K group slice token bytes failing.others.tries le (kept.numbers.logs group slice version token bytes (record { named = has.named; there = has.there }))

  pub bases_unchanged : greatest_in (after_history A H).instants ≤ greatest_in (after_history A K).instants
      → (group : GroupRef) (token : Token) (t : ℕ) (bytes : List ℕ) → HasFile image (after_history A K) (file.Base group token t) bytes
      → IsBoundedBase (after_history A K) (attempts A K) token t
  bases_unchanged le group token t bytes has =
      base_more A H K token t failing.others.tries le (kept.numbers.bases group token t bytes (record { named = has.named; there = has.there }))

-- ---- completed instants stay completed, and the earliest one is one of them

pub earliest_stays : (A : Table) (H K : History)
    → ((u : ℕ) (i : Instant) → instant_of A H u ≡ Some i → i.state ≡ Completed → (found : Instant) × (instant_of A K u ≡ Some found) × (found.state ≡ Completed) × (found.action ≡ i.action))
    → IsEarliest (after_history A H) → IsEarliest (after_history A K)
earliest_stays A H K stays (inl first) = inl first
earliest_stays A H K stays (inr (i, is, done)) =
    let still = stays A.earliest i (sym (at_after A H A.earliest) ∙ is) done.0 in
    inr (still.0, at_after A K A.earliest ∙ still.1, (still.2, subst HasData (sym still.3) done.1))

pub stays_kept : (A : Table) (H K : History) → KeepsLine IsSameStage A H K → (u : ℕ) (i : Instant) → instant_of A H u ≡ Some i → i.state ≡ Completed
    → (found : Instant) × (instant_of A K u ≡ Some found) × (found.state ≡ Completed) × (found.action ≡ i.action)
stays_kept A H K line u i is done = let still = line.new u i is in (still.found, still.is, still.same.state ∙ done, still.same.action)

pub stays_advanced : (A : Table) (H K : History) (t : ℕ) (s : State) (new : Instant) → Advances A H K t s new → (u : ℕ) (i : Instant) → instant_of A H u ≡ Some i → i.state ≡ Completed
    → (found : Instant) × (instant_of A K u ≡ Some found) × (found.state ≡ Completed) × (found.action ≡ i.action)
stays_advanced A H K t s new advance u i is done = by_case (number_cases t u)
  where
    by_case : (t ≡ u) ⊎ (t ≡ u → ⊥) → (found : Instant) × (instant_of A K u ≡ Some found) × (found.state ≡ Completed) × (found.action ≡ i.action)
    by_case (inl here) = absurd (advance.pending i (ap (instant_of A H) here ∙ is) done)
    by_case (inr other) = (i, advance.others u other ∙ is, done, refl)

-- ---- no instant began after more completions than there are

pub starts_kept : (A : Table) (H K : History) → KeepsLine IsSameStage A H K → completions A H ≤ completions A K → StartsBounded (after_history A H) → StartsBounded (after_history A K)
starts_kept A H K line le starts t found is =
    let was = line.old t found (sym (at_after A K t) ∙ is) in
    let old = starts t was.old (at_after A H t ∙ was.was) in
    let same = was.same.start in
    omega (arith, old, same, le)

pub starts_advanced : (A : Table) (H K : History) (t : ℕ) (s : State) (new : Instant) → Advances A H K t s new → completions A H ≤ completions A K → new.start ≤ completions A K
    → StartsBounded (after_history A H) → StartsBounded (after_history A K)
starts_advanced A H K t s new advance le here starts u found is = by_case (number_cases t u)
  where
    by_case : (t ≡ u) ⊎ (t ≡ u → ⊥) → found.start ≤ completions A K
    by_case (inl same) =
        let one : new ≡ found = some_same (sym advance.at ∙ ap (instant_of A K) same ∙ sym (at_after A K u) ∙ is) in
        let start = ap (λ (i : Instant). i.start) one in
        omega (arith, here, start)
    by_case (inr other) =
        let old = starts u found (at_after A H u ∙ sym (advance.others u other) ∙ sym (at_after A K u) ∙ is) in
        omega (arith, old, le)
