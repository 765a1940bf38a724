-- Chains hold their writes, at an append.
use Rattle.std.proofs.Common.{◌≡◌, ◌⊎◌, inl, inr, ◌<◌, ◌≤◌, ◌==◌, ℕ, Bool, true, false, cond, List, [], ◌∷◌, ◌++◌, map, slice_get, Option, Some, option_map, unwrap_or, append-nil, refl, sym, ap, ◌∙◌, subst, arith}
use Rattle.std.specs.FinMap.{get, insert}
use Rattle.std.specs.List.{AllByRecursion, filter}
use Rattle.std.specs.declared.cmp.Ordering.TheVariants.{Less}
use Rattle.std.proofs.lemmas.List.{map-append}
use Rattle.std.proofs.lemmas.List.Elements.{filter-append}
use Rattle.std.proofs.lemmas.Bool.Decides.{nat_tests}
use Rattle.hudi_base.specs.Files.{FileMap, content}
use Rattle.hudi_base.specs.declared.file_group.GroupRef.{GroupRef}
use Rattle.hudi_base.specs.declared.file_group.Target.{Target}
use Rattle.file_names.specs.FileName.{name_of, IsLog}
use Rattle.file_names.specs.declared.file_name.FileName.{FileName}
use Rattle.file_names.specs.declared.file_name.FileName.TheVariants as file
use Rattle.file_names.specs.declared.file_name.State.TheVariants as state
use Rattle.file_names.specs.declared.file_name.Token.{Token}
use Rattle.file_names.proofs.NameTexts.{name_of_injective}
use Rattle.log_block.specs.Form.{block_bytes}
use Rattle.log_block.specs.declared.block.Block.{Block}
use Rattle.table_history.specs.After.{after_history}
use Rattle.table_history.specs.Histories.{History}
use Rattle.table_history.specs.Instants.{instant_of, with_block, failed}
use Rattle.table_history.specs.Logs.{attempt_in_use, version_in_use}
use Rattle.table_history.specs.Tables.{Table, Instant}
use Rattle.table_history.specs.Targets.{is_group}
use Rattle.table_images.specs.Chains.{IsChain, IsPlaced, HoldsWrites, IsBefore, Lacks, FinishedBefore, blocks_of_chain, is_write_of, voids, writes_of, placed_in, is_in_group, place}
use Rattle.table_images.specs.Kept.{Kept, Counts, VersionsRise, IsOldOrInUse, IsCurrent}
use Rattle.table_images.specs.LogTexts.{HasFile, IsLogOf, blocks_in}
use Rattle.table_images.specs.Runs.{log_in_use}
use Rattle.table_images.proofs.Appended.{name_in_use, with_more}
use Rattle.table_images.proofs.ChainCells.{Holds, inflight_then}
use Rattle.table_images.proofs.Frame.{get_here, get_apart, one_name}
use Rattle.table_images.proofs.Last.{names, chain_grows, first_less, first_same}
use Rattle.table_images.proofs.Lines.{IsChanged, change, some_same}
use Rattle.table_images.proofs.Texts.{blocks_of_log, log_of_blocks, fit_more}
use Rattle.table_images.proofs.WhereTo.{Goes, one_group_of, itself_group}

-- ---- the chain of the slice's group, with more in its last file

abbrev token_in_use : Table → History → Target → Token
token_in_use A H s = record { session = A.session; attempt = attempt_in_use A H s }

abbrev pub place_in_use : Table → History → Target → List ℕ
place_in_use A H s = place s.slice (version_in_use A H s) (token_in_use A H s)

-- the new files have this chain, and its blocks are the old ones and these
pub record IsGrown (image : FileMap) (A : Table) (group : GroupRef) (old new : List Block) : Type 0 where
  pub chain : FileMap
  pub is : IsChain image A group chain
  pub blocks : blocks_of_chain chain ≡ old ++ new

module _ (A : Table) (H K : History) (image : FileMap) (s : Target) (kept : Kept A image H) (to : Goes A H image s) (current : IsCurrent (after_history A H) s) (more : List ℕ) (new : List Block)
    (log : IsLogOf (to.blocks ++ new) (content image (name_in_use A H s) ++ more)) where
  is_log : IsLog s.group s.slice (version_in_use A H s) (token_in_use A H s)
  is_log = to.named

  -- no file of the chain is behind the log in use
  none_above : (chain : FileMap) → IsChain image (after_history A H) s.group chain → (q w : List ℕ) → get chain q ≡ Some w → (names q (place_in_use A H s) ≡ Less) ⊎ (q ≡ place_in_use A H s)
  unfolding VersionsRise
  none_above chain is q w found = by_slice (slice_up_to at.slice s.slice below)
    where
      at : IsPlaced s.group q
      at = is.alone q w found

      has : HasFile image (after_history A H) (file.Log s.group at.slice at.version at.token) w
      has = record { named = at.named; there = sym (is.logs at.slice at.version at.token at.named) ∙ ap (get chain) (sym at.is) ∙ found }

      below : at.slice ≤ s.slice
      below = let le = (kept.numbers.logs s.group at.slice at.version at.token w has).current current.live in let same = current.slice in omega (arith, le, same)

      slice_up_to : (a b : ℕ) → a ≤ b → (a < b) ⊎ (a ≡ b)
      slice_up_to a b le = by_test (a == b) refl
        where
          by_test : (t : Bool) → (a == b) ≡ t → (a < b) ⊎ (a ≡ b)
          by_test true same = inr (grind (arith, nat_tests))
          by_test false other = inl (grind (arith, nat_tests))

      by_version : (at.slice ≡ s.slice) → IsOldOrInUse A H s at.version at.token → (names q (place_in_use A H s) ≡ Less) ⊎ (q ≡ place_in_use A H s)
      by_version same (inl older) = inl (ap (λ n. names n (place_in_use A H s)) at.is
          ∙ first_same at.slice s.slice (at.version ∷ at.token.session ∷ at.token.attempt ∷ []) (version_in_use A H s ∷ A.session ∷ attempt_in_use A H s ∷ []) same
          (first_less at.version (version_in_use A H s) (at.token.session ∷ at.token.attempt ∷ []) (A.session ∷ attempt_in_use A H s ∷ []) older))
      by_version same (inr this) =
          let one : file.Log s.group s.slice at.version at.token ≡ file.Log s.group s.slice (version_in_use A H s) (token_in_use A H s) = this.1 in
          let v : at.version ≡ version_in_use A H s = cc in
          let k : at.token ≡ token_in_use A H s = cc in
          inr (at.is ∙ (λ i. place (same i) (v i) (k i)))

      by_slice : (at.slice < s.slice) ⊎ (at.slice ≡ s.slice) → (names q (place_in_use A H s) ≡ Less) ⊎ (q ≡ place_in_use A H s)
      by_slice (inl less) = inl (ap (λ n. names n (place_in_use A H s)) at.is
          ∙ first_less at.slice s.slice (at.version ∷ at.token.session ∷ at.token.attempt ∷ []) (version_in_use A H s ∷ A.session ∷ attempt_in_use A H s ∷ []) less)
      by_slice (inr same) =
          by_version same (kept.versions s at.version at.token w (subst (λ n. HasFile image (after_history A H) (file.Log s.group n at.version at.token) w) same has))

  -- places are those of one log
  one_place : (slice version : ℕ) (token : Token) → place slice version token ≡ place_in_use A H s → file.Log s.group slice version token ≡ log_in_use A H s
  one_place slice version token same =
      let sl : slice ≡ s.slice = cc in
      let v : version ≡ version_in_use A H s = cc in
      let se : token.session ≡ A.session = cc in
      let a : token.attempt ≡ attempt_in_use A H s = cc in
      λ i. file.Log s.group (sl i) (v i) (record { session = se i; attempt = a i })

  grown : (chain : FileMap) → IsChain image (after_history A H) s.group chain
      → IsChain (with_more A H image s more) (after_history A K) s.group (insert chain (place_in_use A H s) (content image (name_in_use A H s) ++ more))
  grown chain is = record { logs = logs; alone = alone }
    where
      logs : (slice version : ℕ) (token : Token) → IsLog s.group slice version token
          → get (insert chain (place_in_use A H s) (content image (name_in_use A H s) ++ more)) (place slice version token) ≡ get (with_more A H image s more) (name_of A.props.name (file.Log s.group slice version token))
      logs slice version token named = by_place (one_name (place slice version token) (place_in_use A H s))
        where
          by_place : (place slice version token ≡ place_in_use A H s) ⊎ (place slice version token ≡ place_in_use A H s → ⊥)
              → get (insert chain (place_in_use A H s) (content image (name_in_use A H s) ++ more)) (place slice version token) ≡ get (with_more A H image s more) (name_of A.props.name (file.Log s.group slice version token))
          by_place (inl same) =
              ap (get (insert chain (place_in_use A H s) (content image (name_in_use A H s) ++ more))) same
              ∙ get_here chain (place_in_use A H s) (content image (name_in_use A H s) ++ more)
              ∙ sym (get_here image (name_in_use A H s) (content image (name_in_use A H s) ++ more))
              ∙ ap (λ (of : FileName). get (with_more A H image s more) (name_of A.props.name of)) (sym (one_place slice version token same))
          by_place (inr apart) =
              get_apart chain (place_in_use A H s) (content image (name_in_use A H s) ++ more) (place slice version token) apart
              ∙ is.logs slice version token named
              ∙ sym (get_apart image (name_in_use A H s) (content image (name_in_use A H s) ++ more) (name_of A.props.name (file.Log s.group slice version token)) (λ same. apart (place_of same)))
            where
              place_of : name_of A.props.name (file.Log s.group slice version token) ≡ name_in_use A H s → place slice version token ≡ place_in_use A H s
              place_of same =
                  let one : file.Log s.group slice version token ≡ file.Log s.group s.slice (version_in_use A H s) (token_in_use A H s) =
                  name_of_injective A.props.name (file.Log s.group slice version token) (log_in_use A H s) named to.named same in
                  let sl : slice ≡ s.slice = cc in
                  let v : version ≡ version_in_use A H s = cc in
                  let k : token ≡ token_in_use A H s = cc in
                  λ i. place (sl i) (v i) (k i)

      alone : (key bytes : List ℕ) → get (insert chain (place_in_use A H s) (content image (name_in_use A H s) ++ more)) key ≡ Some bytes → IsPlaced s.group key
      alone key bytes found = by_place (one_name key (place_in_use A H s))
        where
          by_place : (key ≡ place_in_use A H s) ⊎ (key ≡ place_in_use A H s → ⊥) → IsPlaced s.group key
          by_place (inl same) = record { slice = s.slice; version = version_in_use A H s; token = token_in_use A H s; named = is_log; is = same }
          by_place (inr apart) = is.alone key bytes (sym (get_apart chain (place_in_use A H s) (content image (name_in_use A H s) ++ more) key apart) ∙ found)

  same_content : (chain : FileMap) → IsChain image (after_history A H) s.group chain → content chain (place_in_use A H s) ≡ content image (name_in_use A H s)
  same_content chain is = ap (λ (o : Option (List ℕ)). unwrap_or o []) (is.logs s.slice (version_in_use A H s) (token_in_use A H s) is_log)

  blocks_then : blocks_in (content image (name_in_use A H s) ++ more) ≡ blocks_in (content image (name_in_use A H s)) ++ new
  blocks_then =
      blocks_of_log (to.blocks ++ new) (content image (name_in_use A H s) ++ more) log
      ∙ ap (λ bs. bs ++ new) (sym (ap blocks_in to.whole ∙ blocks_of_log to.blocks _ (log_of_blocks to.blocks to.fit)))

  pub chain_here : (chain : FileMap) → IsChain image (after_history A H) s.group chain → IsGrown (with_more A H image s more) (after_history A K) s.group (blocks_of_chain chain) new
  chain_here chain is = record {
    chain = insert chain (place_in_use A H s) (content image (name_in_use A H s) ++ more);
    is = grown chain is;
    blocks = chain_grows chain (place_in_use A H s) (content image (name_in_use A H s) ++ more) new (none_above chain is)
        (blocks_then ∙ ap (λ bytes. blocks_in bytes ++ new) (sym (same_content chain is)));
  }

  -- the chain of another group is as it was
  pub chain_apart : (group : GroupRef) (chain : FileMap) → (s.group ≡ group → ⊥) → IsChain image (after_history A H) group chain → IsChain (with_more A H image s more) (after_history A K) group chain
  chain_apart group chain apart is = record {
    logs = λ slice version token named. is.logs slice version token named
        ∙ sym (get_apart image (name_in_use A H s) (content image (name_in_use A H s) ++ more) (name_of A.props.name (file.Log group slice version token)) (other slice version token named));
    alone = is.alone;
  }
    where
      other : (slice version : ℕ) (token : Token) → IsLog group slice version token → name_of A.props.name (file.Log group slice version token) ≡ name_in_use A H s → ⊥
      other slice version token named same =
          let one : file.Log group slice version token ≡ file.Log s.group s.slice (version_in_use A H s) (token_in_use A H s) =
          name_of_injective A.props.name (file.Log group slice version token) (log_in_use A H s) named to.named same in
          let g : s.group ≡ group = cc in
          apart g

-- ---- what is held with one block more

writes_more : (u : ℕ) (blocks new : List Block) → writes_of u (blocks ++ new) ≡ writes_of u blocks ++ writes_of u new
writes_more u blocks new = ap (map block_bytes) (filter-append (is_write_of u) blocks new) ∙ map-append block_bytes (filter (is_write_of u) blocks) (filter (is_write_of u) new)

lacks_more : (u : ℕ) (blocks new : List Block) → Lacks u blocks → Lacks u new → Lacks u (blocks ++ new)
lacks_more u blocks new all also = fit_more (λ block. is_write_of u block ≡ false) blocks new all also

before_last : (u v : ℕ) (new : List Block) → Lacks u new → IsBefore u v new
before_last u v [] lacks = tt
before_last u v (block ∷ new) lacks = ((λ is. lacks.1), before_last u v new lacks.1)

before_more : (u v : ℕ) (blocks new : List Block) → Lacks u new → IsBefore u v blocks → IsBefore u v (blocks ++ new)
before_more u v [] new lacks before = before_last u v new lacks
before_more u v (block ∷ blocks) new lacks before = ((λ is. lacks_more u blocks new (before.0 is) lacks), before_more u v blocks new lacks before.1)

no_more_writes : (u : ℕ) (new : List Block) → Lacks u new → writes_of u new ≡ []
no_more_writes u [] lacks = refl
no_more_writes u (block ∷ new) lacks = rw lacks.0 (no_more_writes u new lacks.1)

-- another instant holds what it held
pub holds_more : (group : GroupRef) (u : ℕ) (i : Instant) (blocks new : List Block) → Lacks u new → AllByRecursion (λ block. voids u block ≡ false) new → HoldsWrites blocks group u i
    → HoldsWrites (blocks ++ new) group u i
holds_more group u i blocks new lacks unvoiding holds = record {
  writes = writes_more u blocks new ∙ ap (λ ws. writes_of u blocks ++ ws) (no_more_writes u new lacks) ∙ append-nil (writes_of u blocks) ∙ holds.writes;
  unvoided = fit_more (λ block. voids u block ≡ false) blocks new holds.unvoided unvoiding;
}

-- blocks of an instant alone, which void nothing
pub record AreOf (t : ℕ) (new : List Block) : Type 0 where
  pub lacks : (u : ℕ) → (t ≡ u → ⊥) → Lacks u new
  pub unvoiding : (u : ℕ) → AllByRecursion (λ block. voids u block ≡ false) new

-- ---- the instant that appends changes, and the others are as they were

-- what becomes of the instant: it stays inflight, and holds what it holds if its writes count
pub record IsAppender (blocks new : List Block) (group : GroupRef) (t : ℕ) (f : Instant → Instant) (i : Instant) : Type 0 where
  pub state : (f i).state ≡ state.Inflight
  pub start : (f i).start ≡ i.start
  pub counted : Counts t (f i) → Counts t i
  pub each : Counts t (f i) → HoldsWrites blocks group t i → HoldsWrites (blocks ++ new) group t (f i)

-- who is found at u: the instant that appends, or another one
record WhoIs (t u : ℕ) (f : Instant → Instant) (i : Instant) (before : Option Instant) (found : Instant) : Type 0 where
  by : ((t ≡ u) × (found ≡ f i)) ⊎ ((t ≡ u → ⊥) × (before ≡ Some found))

module _ (A : Table) (H K : History) (group : GroupRef) (blocks new : List Block) (t : ℕ) (f : Instant → Instant) (i : Instant) (is : instant_of A H t ≡ Some i)
    (appender : IsAppender blocks new group t f i) (of : AreOf t new)
    (same : (u : ℕ) → instant_of A K u ≡ cond (t == u) (option_map f (instant_of A H u)) (instant_of A H u)) where
  who : (u : ℕ) (found : Instant) → instant_of A K u ≡ Some found → WhoIs t u f i (instant_of A H u) found
  who u found at = by_change (change t u f (instant_of A H u) found (sym (same u) ∙ at))
    where
      by_change : IsChanged t u f (instant_of A H u) found → WhoIs t u f i (instant_of A H u) found
      by_change changed = record { by = by_case changed.by }
        where
          by_case : ((t ≡ u) × (found ≡ f changed.old)) ⊎ ((t ≡ u → ⊥) × (found ≡ changed.old)) → ((t ≡ u) × (found ≡ f i)) ⊎ ((t ≡ u → ⊥) × (instant_of A H u ≡ Some found))
          by_case (inl here) = inl (here.0, here.1 ∙ ap f (some_same (sym changed.was ∙ ap (instant_of A H) (sym here.0) ∙ is)))
          by_case (inr other) = inr (other.0, changed.was ∙ ap Some (sym other.1))

  pub holds_appended : Holds A H group blocks → Holds A K group (blocks ++ new)
  holds_appended holds = record { each = each; order = order }
    where
      each : (u : ℕ) (found : Instant) → instant_of A K u ≡ Some found → Counts u found → HoldsWrites (blocks ++ new) group u found
      each u found at counts = by_case (who u found at).by
        where
          by_case : ((t ≡ u) × (found ≡ f i)) ⊎ ((t ≡ u → ⊥) × (instant_of A H u ≡ Some found)) → HoldsWrites (blocks ++ new) group u found
          by_case (inl here) =
              let mine : Counts t (f i) = subst (Counts t) here.1 (subst (λ n. Counts n found) (sym here.0) counts) in
              subst (λ n. HoldsWrites (blocks ++ new) group n found) here.0
              (subst (HoldsWrites (blocks ++ new) group t) (sym here.1) (appender.each mine (holds.each t i is (appender.counted mine))))
          by_case (inr other) = holds_more group u found blocks new (of.lacks u other.0) (of.unvoiding u) (holds.each u found other.1 counts)

      order : (u v : ℕ) (k j : Instant) → instant_of A K u ≡ Some k → instant_of A K v ≡ Some j → k.state ≡ state.Completed → Counts v j → FinishedBefore k.finished j.start → IsBefore u v (blocks ++ new)
      order u v k j at_u at_v done counts before = by_case (who u k at_u).by (who v j at_v).by
        where
          by_case : ((t ≡ u) × (k ≡ f i)) ⊎ ((t ≡ u → ⊥) × (instant_of A H u ≡ Some k)) → ((t ≡ v) × (j ≡ f i)) ⊎ ((t ≡ v → ⊥) × (instant_of A H v ≡ Some j)) → IsBefore u v (blocks ++ new)
          by_case (inl here) place_v = absurd (inflight_then (sym appender.state ∙ sym (ap (λ (n : Instant). n.state) here.1) ∙ done))
          by_case (inr other) (inl here) =
              let mine : Counts t (f i) = subst (Counts t) here.1 (subst (λ n. Counts n j) (sym here.0) counts) in
              let start : j.start ≡ i.start = ap (λ (n : Instant). n.start) here.1 ∙ appender.start in
              subst (λ n. IsBefore u n (blocks ++ new)) here.0
              (before_more u t blocks new (of.lacks u other.0) (holds.order u t k i other.1 is done (appender.counted mine) (subst (FinishedBefore k.finished) start before)))
          by_case (inr other) (inr also) = before_more u v blocks new (of.lacks u other.0) (holds.order u v k j other.1 also.1 done counts before)

-- ---- the append failed

pub appender-failed : (blocks new : List Block) (group : GroupRef) (t : ℕ) (i : Instant) → i.state ≡ state.Inflight → IsAppender blocks new group t failed i
appender-failed blocks new group t i inflight = record {
  state = inflight;
  start = refl;
  counted = λ counts. absurd (none counts);
  each = λ counts holds. absurd (none counts);
}
  where
    none : Counts t (failed i) → ⊥
    none (inl done) = inflight_then (sym inflight ∙ done)
    none (inr owned) = let wrong : true ≡ false = owned.1 in cc

-- ---- the block was placed

pub appender-placed : (blocks : List Block) (block : Block) (group : GroupRef) (t : ℕ) (i : Instant) (s : Target) (target writes : ℕ) → i.state ≡ state.Inflight → slice_get i.targets target ≡ Some s
    → s.group ≡ group → is_write_of t block ≡ true → AllByRecursion (λ b. voids t b ≡ false) (block ∷ [])
    → IsAppender blocks (block ∷ []) group t (with_block target writes (block_bytes block)) i
appender-placed blocks block group t i s target writes inflight at here its unvoiding = record {
  state = inflight;
  start = refl;
  counted = λ counts. counts;
  each = λ counts holds. record {
    writes = writes_more t blocks (block ∷ []) ∙ ap (λ ws. writes_of t blocks ++ ws) (rw its refl) ∙ ap (λ ws. ws ++ block_bytes block ∷ []) holds.writes
        ∙ ap (λ b. placed_in group i.targets i.blocks ++ cond b (block_bytes block ∷ []) []) (sym in_group);
    unvoided = fit_more (λ b. voids t b ≡ false) blocks (block ∷ []) holds.unvoided unvoiding;
  };
}
  where
    in_group : is_in_group group (slice_get i.targets target) ≡ true
    in_group = ap (is_in_group group) at ∙ ap (is_group s.group) (sym here) ∙ itself_group s.group

-- it went to another group
pub appender-apart : (blocks : List Block) (group : GroupRef) (t : ℕ) (i : Instant) (s : Target) (target writes : ℕ) (bytes : List ℕ) → i.state ≡ state.Inflight → slice_get i.targets target ≡ Some s
    → (s.group ≡ group → ⊥) → IsAppender blocks [] group t (with_block target writes bytes) i
appender-apart blocks group t i s target writes bytes inflight at apart = record {
  state = inflight;
  start = refl;
  counted = λ counts. counts;
  each = λ counts holds. record {
    writes = ap (writes_of t) (append-nil blocks) ∙ holds.writes ∙ sym (append-nil (placed_in group i.targets i.blocks))
        ∙ ap (λ b. placed_in group i.targets i.blocks ++ cond b (bytes ∷ []) []) (sym (not_in_group (is_group s.group group) refl));
    unvoided = fit_more (λ b. voids t b ≡ false) blocks [] holds.unvoided tt;
  };
}
  where
    not_in_group : (b : Bool) → is_group s.group group ≡ b → is_in_group group (slice_get i.targets target) ≡ false
    not_in_group true same = absurd (apart (one_group_of s.group group same))
    not_in_group false other = ap (is_in_group group) at ∙ other
