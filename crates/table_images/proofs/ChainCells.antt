-- Chains hold their writes, at each kind of step.
use Rattle.std.proofs.Common.{◌≡◌, ◌⊎◌, inl, inr, ◌<◌, ◌≤◌, ℕ, true, false, List, [], ◌∷◌, Option, Some, refl, sym, ap, ◌∙◌, subst, arith}
use Rattle.std.specs.FinMap.{get}
use Rattle.std.specs.List.{AllByRecursion}
use Rattle.std.proofs.lemmas.Bool.Decides.{nat_tests}
use Rattle.hudi_base.specs.Files.{FileMap, content}
use Rattle.hudi_base.specs.declared.file_group.GroupRef.{GroupRef}
use Rattle.hudi_base.specs.declared.file_group.Target.{Target}
use Rattle.file_names.specs.FileName.{name_of}
use Rattle.file_names.specs.declared.file_name.FileName.TheVariants as file
use Rattle.file_names.specs.declared.file_name.State.{State}
use Rattle.file_names.specs.declared.file_name.State.TheVariants as state
use Rattle.log_block.specs.declared.block.Block.{Block}
use Rattle.log_block.specs.declared.block.Block.TheVariants.{Data, Delete, Rollback}
use Rattle.table_history.specs.After.{after_history, greatest_in}
use Rattle.table_history.specs.Histories.{History}
use Rattle.table_history.specs.Instants.{instant_of, completions, entered, completed}
use Rattle.table_history.specs.Tables.{Table, Instant}
use Rattle.table_images.specs.Chains.{IsChain, ChainHolds, HoldsWrites, IsBefore, FinishedBefore, blocks_of_chain, is_write_of, voids, writes_of, placed_in}
use Rattle.table_images.specs.Kept.{Kept, Counts}
use Rattle.table_images.specs.LogTexts.{blocks_in}
use Rattle.table_images.specs.Numbers.{IsUpTo}
use Rattle.table_images.proofs.Advances.{Advances, IsNoMore, KeepsLine, number_cases}
use Rattle.table_images.proofs.Last.{all_blocks}
use Rattle.table_images.proofs.Lines.{at_after, some_same}
use Rattle.table_images.proofs.SameLogs.{LeavesLogs, log_is_none}

-- ---- what a chain holds, by the history's instants

pub record Holds (A : Table) (H : History) (group : GroupRef) (blocks : List Block) : Type 0 where
  pub each : (t : ℕ) (i : Instant) → instant_of A H t ≡ Some i → Counts t i → HoldsWrites blocks group t i
  pub order : (u v : ℕ) (i j : Instant) → instant_of A H u ≡ Some i → instant_of A H v ≡ Some j → i.state ≡ state.Completed → Counts v j → FinishedBefore i.finished j.start → IsBefore u v blocks

pub of_chain : (A : Table) (H : History) (group : GroupRef) (chain : FileMap) → ChainHolds Counts (after_history A H) group chain → Holds A H group (blocks_of_chain chain)
of_chain A H group chain holds = record {
  each = λ t i is counts. holds.each t i (at_after A H t ∙ is) counts;
  order = λ u v i j at_u at_v done counts before. holds.order u v i j (at_after A H u ∙ at_u) (at_after A H v ∙ at_v) done counts before;
}

pub to_chain : (A : Table) (H : History) (group : GroupRef) (chain : FileMap) (blocks : List Block) → blocks_of_chain chain ≡ blocks → Holds A H group blocks → ChainHolds Counts (after_history A H) group chain
to_chain A H group chain blocks same holds = record {
  each = λ t i is counts. subst (λ bs. HoldsWrites bs group t i) (sym same) (holds.each t i (sym (at_after A H t) ∙ is) counts);
  order = λ u v i j at_u at_v done counts before.
      subst (IsBefore u v) (sym same) (holds.order u v i j (sym (at_after A H u) ∙ at_u) (sym (at_after A H v) ∙ at_v) done counts before);
}

-- ---- the chains of a table whose logs are left

pub chain_left : (A : Table) (H K : History) (image new : FileMap) (group : GroupRef) (chain : FileMap) → LeavesLogs A H K image new → IsChain image (after_history A H) group chain
    → IsChain new (after_history A K) group chain
chain_left A H K image new group chain leaves is = record {
  logs = λ slice version token named. is.logs slice version token named ∙ sym (leaves.files (file.Log group slice version token) named (log_is_none group slice version token));
  alone = is.alone;
}

-- no block of a chain is above the greatest time
pub chain_bounded : (A : Table) (H : History) (image : FileMap) (group : GroupRef) (chain : FileMap) → Kept A image H → IsChain image (after_history A H) group chain
    → AllByRecursion (IsUpTo (greatest_in (after_history A H).instants)) (blocks_of_chain chain)
chain_bounded A H image group chain kept is = all_blocks (IsUpTo (greatest_in (after_history A H).instants)) chain bounded
  where
    bounded : (k v : List ℕ) → get chain k ≡ Some v → AllByRecursion (IsUpTo (greatest_in (after_history A H).instants)) (blocks_in v)
    bounded k v found =
        let at = is.alone k v found in
        let there : get image (name_of A.props.name (file.Log group at.slice at.version at.token)) ≡ Some v = sym (is.logs at.slice at.version at.token at.named) ∙ ap (get chain) (sym at.is) ∙ found in
        (kept.numbers.logs group at.slice at.version at.token v (record { named = at.named; there = there })).blocks

-- ---- a step that does no more than end what an instant may still do

counts_were : (t : ℕ) (old found : Instant) → IsNoMore old found → Counts t found → Counts t old
counts_were t old found same (inl done) = inl (sym same.state ∙ done)
counts_were t old found same (inr owned) = inr ((owned.0.0, same.owner owned.0.0 owned.0.1), same.failed owned.1)

holds_as : (blocks : List Block) (group : GroupRef) (t : ℕ) (old found : Instant) → found.targets ≡ old.targets → found.blocks ≡ old.blocks → HoldsWrites blocks group t old → HoldsWrites blocks group t found
holds_as blocks group t old found targets placed holds =
    record { writes = holds.writes ∙ (λ i. placed_in group (sym targets i) (sym placed i)); unvoided = holds.unvoided }

pub holds_still : (A : Table) (H K : History) (group : GroupRef) (blocks : List Block) → KeepsLine IsNoMore A H K → Holds A H group blocks → Holds A K group blocks
holds_still A H K group blocks line holds = record {
  each = λ t found is counts.
      let was = line.old t found is in
      holds_as blocks group t was.old found was.same.targets was.same.blocks (holds.each t was.old was.was (counts_were t was.old found was.same counts));
  order = λ u v i j at_u at_v done counts before.
      let was_u = line.old u i at_u in
      let was_v = line.old v j at_v in
      holds.order u v was_u.old was_v.old was_u.was was_v.was (sym was_u.same.state ∙ done) (counts_were v was_v.old j was_v.same counts)
      (subst (FinishedBefore was_u.old.finished) was_v.same.start (subst (λ (o : Option ℕ). FinishedBefore o j.start) was_u.same.finished before));
}

-- ---- a step that makes a file of the timeline

pub record HoldsHere (A : Table) (H : History) (group : GroupRef) (blocks : List Block) (t : ℕ) (found : Instant) : Type 0 where
  pub each : Counts t found → HoldsWrites blocks group t found
  pub before : (v : ℕ) (j : Instant) → (v ≡ t) ⊎ (instant_of A H v ≡ Some j) → ((v ≡ t) → j ≡ found) → found.state ≡ state.Completed → FinishedBefore found.finished j.start → IsBefore t v blocks
  pub behind : (u : ℕ) (i : Instant) → instant_of A H u ≡ Some i → i.state ≡ state.Completed → Counts t found → FinishedBefore i.finished found.start → IsBefore u t blocks

pub holds_advanced : (A : Table) (H K : History) (group : GroupRef) (blocks : List Block) (t : ℕ) (s : State) (new : Instant) → Advances A H K t s new → HoldsHere A H group blocks t new
    → Holds A H group blocks → Holds A K group blocks
holds_advanced A H K group blocks t s new advance here holds = record { each = each; order = order }
  where
    one : (u : ℕ) (i : Instant) → t ≡ u → instant_of A K u ≡ Some i → new ≡ i
    one u i same is = some_same (sym advance.at ∙ ap (instant_of A K) same ∙ is)

    each : (u : ℕ) (i : Instant) → instant_of A K u ≡ Some i → Counts u i → HoldsWrites blocks group u i
    each u i is counts = by_case (number_cases t u)
      where
        by_case : (t ≡ u) ⊎ (t ≡ u → ⊥) → HoldsWrites blocks group u i
        by_case (inl same) =
            subst (λ n. HoldsWrites blocks group n i) same (subst (HoldsWrites blocks group t) (one u i same is) (here.each (subst (Counts t) (sym (one u i same is)) counts)))
        by_case (inr other) = holds.each u i (sym (advance.others u other) ∙ is) counts

    order : (u v : ℕ) (i j : Instant) → instant_of A K u ≡ Some i → instant_of A K v ≡ Some j → i.state ≡ state.Completed → Counts v j → FinishedBefore i.finished j.start → IsBefore u v blocks
    order u v i j at_u at_v done counts before = by_case (number_cases t u) (number_cases t v)
      where
        by_case : (t ≡ u) ⊎ (t ≡ u → ⊥) → (t ≡ v) ⊎ (t ≡ v → ⊥) → IsBefore u v blocks
        by_case (inl same) place_v =
            let is = one u i same at_u in
            subst (λ n. IsBefore n v blocks) same
            (here.before v j (where_is place_v) (λ v_is. sym (one v j (sym v_is) at_v)) (ap (λ (k : Instant). k.state) is ∙ done) (subst (λ (k : Instant). FinishedBefore k.finished j.start) (sym is) before))
          where
            where_is : (t ≡ v) ⊎ (t ≡ v → ⊥) → (v ≡ t) ⊎ (instant_of A H v ≡ Some j)
            where_is (inl also) = inl (sym also)
            where_is (inr other) = inr (sym (advance.others v other) ∙ at_v)
        by_case (inr other) (inl same) =
            let is = one v j same at_v in
            subst (λ n. IsBefore u n blocks) same
            (here.behind u i (sym (advance.others u other) ∙ at_u) done (subst (Counts t) (sym is) counts) (subst (λ (k : Instant). FinishedBefore i.finished k.start) (sym is) before))
        by_case (inr other) (inr also) = holds.order u v i j (sym (advance.others u other) ∙ at_u) (sym (advance.others v also) ∙ at_v) done counts before

-- ---- an instant that is drawn above all times

above_write : (most t : ℕ) (block : Block) → most < t → IsUpTo most block → is_write_of t block ≡ false
above_write most t (Data instant schema content) lt h = grind (arith, nat_tests, h)
above_write most t (Delete instant content) lt h = grind (arith, nat_tests, h)
above_write most t (Rollback instant target) lt h = refl

above_void : (most t : ℕ) (block : Block) → most < t → IsUpTo most block → voids t block ≡ false
above_void most t (Data instant schema content) lt h = refl
above_void most t (Delete instant content) lt h = refl
above_void most t (Rollback instant target) lt h = let le = h.1 in grind (arith, nat_tests, le)

no_writes : (most t : ℕ) (blocks : List Block) → most < t → AllByRecursion (IsUpTo most) blocks → writes_of t blocks ≡ []
no_writes most t [] lt all = refl
no_writes most t (block ∷ blocks) lt all = rw (above_write most t block lt all.0) (no_writes most t blocks lt all.1)

no_voids : (most t : ℕ) (blocks : List Block) → most < t → AllByRecursion (IsUpTo most) blocks → AllByRecursion (λ block. voids t block ≡ false) blocks
no_voids most t [] lt all = tt
no_voids most t (block ∷ blocks) lt all = (above_void most t block lt all.0, no_voids most t blocks lt all.1)

before_none : (most u t : ℕ) (blocks : List Block) → most < t → AllByRecursion (IsUpTo most) blocks → IsBefore u t blocks
before_none most u t [] lt all = tt
before_none most u t (block ∷ blocks) lt all = ((λ is. let wrong : false ≡ true = sym (above_write most t block lt all.0) ∙ is in absurd cc), before_none most u t blocks lt all.1)

pub requested_first : state.Requested ≡ state.Completed → ⊥
requested_first is = cc

pub here_begun : (A : Table) (H : History) (group : GroupRef) (blocks : List Block) (t : ℕ) (found : Instant) (most : ℕ) → most < t → AllByRecursion (IsUpTo most) blocks
    → found.state ≡ state.Requested → found.blocks ≡ [] → HoldsHere A H group blocks t found
here_begun A H group blocks t found most lt all requested unplaced = record {
  each = λ counts. record { writes = no_writes most t blocks lt all ∙ ap (placed_in group found.targets) (sym unplaced); unvoided = no_voids most t blocks lt all };
  before = λ v j at_v same done before. absurd (requested_first (sym requested ∙ done));
  behind = λ u i at_u done counts before. before_none most u t blocks lt all;
}

-- an instant that enters
pub inflight_then : state.Inflight ≡ state.Completed → ⊥
inflight_then is = cc

pub here_entered : (A : Table) (H : History) (group : GroupRef) (blocks : List Block) (t : ℕ) (i : Instant) (targets : List Target) → instant_of A H t ≡ Some i → i.blocks ≡ [] → i.state ≡ state.Requested
    → Holds A H group blocks → HoldsHere A H group blocks t (entered targets i)
here_entered A H group blocks t i targets is unplaced requested holds = record {
  each = λ counts.
      let old = holds.each t i is (was counts) in
      record { writes = old.writes ∙ ap (placed_in group i.targets) unplaced ∙ ap (placed_in group targets) (sym unplaced); unvoided = old.unvoided };
  before = λ v j at_v same done before. absurd (inflight_then done);
  behind = λ u k at_u done counts before. holds.order u t k i at_u is done (was counts) before;
}
  where
    was : Counts t (entered targets i) → Counts t i
    was (inl done) = absurd (inflight_then done)
    was (inr owned) = inr owned

-- an instant that is completed
not_less : (n m : ℕ) → n ≤ m → m < n → ⊥
not_less n m le lt = omega (arith, le, lt)

pub here_completed : (A : Table) (H : History) (group : GroupRef) (blocks : List Block) (t : ℕ) (checkpoint : Option ℕ) (i : Instant) → instant_of A H t ≡ Some i → Counts t i
    → ((v : ℕ) (j : Instant) → instant_of A H v ≡ Some j → j.start ≤ completions A H) → Holds A H group blocks → HoldsHere A H group blocks t (completed (completions A H) checkpoint i)
here_completed A H group blocks t checkpoint i is counts starts holds = record {
  each = λ _. let old = holds.each t i is counts in record { writes = old.writes; unvoided = old.unvoided };
  before = λ v j at_v same done before. absurd (late v j at_v same before);
  behind = λ u k at_u done _ before. holds.order u t k i at_u is done counts before;
}
  where
    late : (v : ℕ) (j : Instant) → (v ≡ t) ⊎ (instant_of A H v ≡ Some j) → ((v ≡ t) → j ≡ completed (completions A H) checkpoint i) → completions A H < j.start → ⊥
    late v j (inl here) same before = not_less i.start (completions A H) (starts t i is) (subst (λ (k : Instant). completions A H < k.start) (same here) before)
    late v j (inr other) same before = not_less j.start (completions A H) (starts v j other) before
