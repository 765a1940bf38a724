-- All parts at an append: the block was placed, or the append failed.
use Rattle.std.proofs.Common.{◌≡◌, ◌⊎◌, inl, inr, ◌≤◌, ◌<◌, ◌+◌, ◌^◌, ◌==◌, ℕ, Bool, true, false, cond, List, [], ◌∷◌, ◌++◌, take, Option, Some, option_map, append-nil, refl, sym, ap, ◌∙◌, subst, arith}
use Rattle.std.specs.Option.{option_map_or}
use Rattle.std.specs.List.{AllByRecursion}
use Rattle.hudi_base.specs.Files.{FileMap, content}
use Rattle.hudi_base.specs.declared.file_group.GroupRef.{GroupRef}
use Rattle.hudi_base.specs.declared.file_group.Target.{Target}
use Rattle.file_names.specs.FileName.{IsNamed, IsGroup}
use Rattle.file_names.specs.declared.file_name.State.{State}
use Rattle.file_names.specs.declared.file_name.State.TheVariants.{Requested, Inflight, Completed}
use Rattle.log_block.specs.Form.{Fits, block_bytes}
use Rattle.log_block.specs.declared.block.Block.{Block}
use Rattle.table_history.specs.After.{after_history, greatest_in}
use Rattle.table_history.specs.Histories.{History}
use Rattle.table_history.specs.Instants.{instant_of, with_block, failed}
use Rattle.table_history.specs.Logs.{version_in_use}
use Rattle.table_history.specs.Metadata.{metadata, writes_among, writes_of}
use Rattle.table_history.specs.Tables.{Table, Instant}
use Rattle.table_history.specs.Targets.{is_group}
use Rattle.table_history.specs.declared.job.Job.{Job}
use Rattle.table_history.specs.declared.reply.Reply.TheVariants as reply
use Rattle.table_history.specs.declared.step.Step.TheVariants.{Append}
use Rattle.table_images.specs.Chains.{ChainsHold, ChainHolds, IsChain, blocks_of_chain, is_write_of}
use Rattle.table_images.specs.Kept.{Kept, Counts, IsCurrent, OwnedInstants, IsOwnedWrite}
use Rattle.table_images.specs.LogTexts.{IsLogOf, blocks_in, bytes_of_blocks}
use Rattle.table_images.specs.Numbers.{IsUpTo}
use Rattle.table_images.specs.Runs.{log_in_use}
use Rattle.table_images.specs.Timeline.{has_reached}
use Rattle.table_images.proofs.Advances.{IsNoMore, IsSameStage, KeepsLine, stage, line_weaker, line_changed, line_less, no_more-failed}
use Rattle.table_images.proofs.NumberCells.{earliest_stays, stays_kept, starts_kept, old_blocks, bounded_logs, bounded_bases, bounded_unchanged, bases_unchanged, up_to}
use Rattle.table_images.proofs.Appended.{name_in_use, with_more}
use Rattle.table_images.proofs.TimelineCells.{timeline_apart, timeline_still}
use Rattle.table_images.proofs.WholeCells.{whole_more, whole_unchanged}
use Rattle.table_images.proofs.KnownCells.{known_placed, known_failed, known_unchanged}
use Rattle.table_images.proofs.AppendChains.{IsAppender, AreOf, chain_here, chain_apart, holds_appended, appender-failed, appender-placed, appender-apart}
use Rattle.table_images.proofs.AppendFacts.{IsPlacing, IsFailing, placing, is_failing}
use Rattle.table_images.proofs.ChainCells.{of_chain, to_chain}
use Rattle.table_images.proofs.Lines.{IsChanged, change, at_after, greatest_rises, under_greatest, some_same}
use Rattle.table_images.proofs.OpenLogCells.{logs_placed, logs_left, logs_unchanged}
use Rattle.table_images.proofs.VersionCells.{versions_placed, versions_left, versions_unchanged}
use Rattle.table_images.proofs.OwnedCells.{owned_still, owned_more, owned-placed}
use Rattle.table_images.proofs.PropertiesCells.{properties_still, properties_apart}
use Rattle.table_images.proofs.Rows.{completions_rise}
use Rattle.table_images.proofs.SameLogs.{entry}
use Rattle.table_images.proofs.Texts.{AddsUpTo, adds_whole, adds_prefix, blocks_of_log, log_of_blocks, fit_more}
use Rattle.table_images.proofs.WhereTo.{Goes, goes, one_group_of, itself_group}
use Rattle.table_images.proofs.Written.{IsAppending, one_of, none_of, one_up_to}

group_cases : (g h : GroupRef) → (g ≡ h) ⊎ (g ≡ h → ⊥)
group_cases g h = by_test (is_group g h) refl
  where
    by_test : (b : Bool) → is_group g h ≡ b → (g ≡ h) ⊎ (g ≡ h → ⊥)
    by_test true same = inl (one_group_of g h same)
    by_test false other = inr (λ same. let yes : is_group g h ≡ true = ap (is_group g) (sym same) ∙ itself_group g in let wrong : true ≡ false = sym yes ∙ other in cc)

current_then : (A : Table) (H K : History) (s : Target) → greatest_in (after_history A H).instants ≤ greatest_in (after_history A K).instants → IsCurrent (after_history A H) s → IsCurrent (after_history A K) s
current_then A H K s le current = record { live = current.live; partition = current.partition; slice = current.slice; bounded = omega (arith, current.bounded, le) }

-- owned instants, where one of them placed a block
owned_then : (A : Table) (H K : History) (t : ℕ) (f : Instant → Instant) (i : Instant) → instant_of A H t ≡ Some i → greatest_in (after_history A H).instants ≤ greatest_in (after_history A K).instants
    → ((u : ℕ) → instant_of A K u ≡ cond (t == u) (option_map f (instant_of A H u)) (instant_of A H u)) → IsOwnedWrite (after_history A K) t (f i) → OwnedInstants A H → OwnedInstants A K
unfolding OwnedInstants
owned_then A H K t f i is le same mine owned u found job at owner = by_change (change t u f (instant_of A H u) found (sym (same u) ∙ at))
  where
    by_change : IsChanged t u f (instant_of A H u) found → IsOwnedWrite (after_history A K) u found
    by_change changed = by_case changed.by
      where
        by_case : ((t ≡ u) × (found ≡ f changed.old)) ⊎ ((t ≡ u → ⊥) × (found ≡ changed.old)) → IsOwnedWrite (after_history A K) u found
        by_case (inl here) =
            let one : f i ≡ found = ap f (some_same (sym is ∙ ap (instant_of A H) here.0 ∙ changed.was)) ∙ sym here.1 in
            subst (λ n. IsOwnedWrite (after_history A K) n found) here.0 (subst (IsOwnedWrite (after_history A K) t) one mine)
        by_case (inr other) = owned_more A H K u found le (owned u found job (changed.was ∙ ap Some (sym other.1)) owner)

-- a block changes nothing of what an instant said that isn't completed
said_placed : (i : Instant) (target writes : ℕ) (bytes : List ℕ) (r : State) → has_reached Inflight r ≡ true → metadata (with_block target writes bytes i) r ≡ metadata i r
said_placed i target writes bytes Requested reached = refl
said_placed i target writes bytes Inflight reached = refl
said_placed i target writes bytes Completed reached = let wrong : false ≡ true = reached in absurd cc

-- the chains, whatever was added
chains_then : (A : Table) (H K : History) (image : FileMap) (s : Target) (kept : Kept A image H) (to : Goes A H image s) (current : IsCurrent (after_history A H) s) (more : List ℕ) (new : List Block)
    → IsLogOf (to.blocks ++ new) (content image (name_in_use A H s) ++ more) → (t : ℕ) (f : Instant → Instant) (i : Instant) → instant_of A H t ≡ Some i → AreOf t new
    → ((blocks : List Block) → IsAppender blocks new s.group t f i) → ((group : GroupRef) (blocks : List Block) → (s.group ≡ group → ⊥) → IsAppender blocks [] group t f i)
    → ((u : ℕ) → instant_of A K u ≡ cond (t == u) (option_map f (instant_of A H u)) (instant_of A H u)) → ChainsHold Counts (with_more A H image s more) (after_history A K)
unfolding ChainsHold
chains_then A H K image s kept to current more new log t f i is of here apart same group named = by_group (group_cases s.group group)
  where
    mine : IsGroup s.group → (chain : FileMap) × IsChain (with_more A H image s more) (after_history A K) s.group chain × ChainHolds Counts (after_history A K) s.group chain
    mine named =
        let was = kept.chains s.group named in
        let grown = chain_here A H K image s kept to current more new log was.0 was.1 in (
          grown.chain,
          grown.is,
          to_chain A K s.group grown.chain (blocks_of_chain was.0 ++ new) grown.blocks
              (holds_appended A H K s.group (blocks_of_chain was.0) new t f i is (here (blocks_of_chain was.0)) of same (of_chain A H s.group was.0 was.2)),
        )

    by_group : (s.group ≡ group) ⊎ (s.group ≡ group → ⊥) → (chain : FileMap) × IsChain (with_more A H image s more) (after_history A K) group chain × ChainHolds Counts (after_history A K) group chain
    by_group (inl one) =
        subst (λ (g : GroupRef). (chain : FileMap) × IsChain (with_more A H image s more) (after_history A K) g chain × ChainHolds Counts (after_history A K) g chain) one
        (mine (subst IsGroup (sym one) named))
    by_group (inr other) =
        let was = kept.chains group named in (
          was.0,
          chain_apart A H K image s kept to current more new log group was.0 other was.1,
          to_chain A K group was.0 (blocks_of_chain was.0 ++ []) (sym (append-nil (blocks_of_chain was.0)))
              (holds_appended A H K group (blocks_of_chain was.0) [] t f i is (apart group (blocks_of_chain was.0) other) (none_of_t t) same (of_chain A H group was.0 was.2)),
        )
      where
        none_of_t : (t : ℕ) → AreOf t []
        none_of_t t = none_of t

-- the blocks of the log then
blocks_bounded : (A : Table) (H K : History) (image : FileMap) (s : Target) (kept : Kept A image H) (to : Goes A H image s) (more : List ℕ) (new : List Block)
    → IsLogOf (to.blocks ++ new) (content image (name_in_use A H s) ++ more) → greatest_in (after_history A H).instants ≤ greatest_in (after_history A K).instants
    → AllByRecursion (IsUpTo (greatest_in (after_history A K).instants)) new
    → AllByRecursion (IsUpTo (greatest_in (after_history A K).instants)) (blocks_in (content image (name_in_use A H s) ++ more))
blocks_bounded A H K image s kept to more new log le bounded =
    let old : AllByRecursion (IsUpTo (greatest_in (after_history A H).instants)) to.blocks =
    subst (AllByRecursion (IsUpTo (greatest_in (after_history A H).instants))) (ap blocks_in to.whole ∙ blocks_of_log to.blocks (bytes_of_blocks to.blocks) (log_of_blocks to.blocks to.fit))
    (old_blocks A H K image s kept to more) in
    subst (AllByRecursion (IsUpTo (greatest_in (after_history A K).instants))) (sym (blocks_of_log (to.blocks ++ new) (content image (name_in_use A H s) ++ more) log))
    (fit_more (IsUpTo (greatest_in (after_history A K).instants)) to.blocks new (up_to _ _ to.blocks le old) bounded)

-- ---- the block was placed

pub row_placed : (A : Table) (H : History) (image : FileMap) (j : Job) (t target writes version at : ℕ) (block : Block) (appending : IsAppending A H j t target) → Fits block → is_write_of t block ≡ true
    → version ≡ version_in_use A H appending.s → IsNamed (log_in_use A H appending.s) → writes_of A H t target + writes < 2 ^ 32 → Kept A image H
    → Kept A (with_more A H image appending.s (block_bytes block)) (entry j (Append t target writes (block_bytes block)) (reply.Placed version at) ∷ H)
unfolding OwnedInstants
row_placed A H image j t target writes version at block appending fits write first named few kept = record {
  properties = properties_still A H K image new (properties_apart A H image s bytes named) kept.properties;
  timeline = timeline_still A H K image new stages (λ u action st time. timeline_apart A H image s bytes named u action st time) kept;
  whole = whole_more A H K image s kept to bytes (to.blocks ++ block ∷ [], log);
  tiles = kept.tiles;
  chains = chains_then A H K image s kept to appending.current bytes (block ∷ []) log t (with_block target writes bytes) appending.i appending.is (one_of t block write)
      (λ blocks. appender-placed blocks block s.group t appending.i s target writes appending.inflight appending.target_is refl write ((one_of t block write).unvoiding t))
      (λ group blocks apart. appender-apart blocks group t appending.i s target writes bytes appending.inflight appending.target_is apart) (λ u. refl);
  numbers = record {
    logs = bounded_logs A H K image s kept to bytes placed.others le (current_then A H K s le appending.current)
        (blocks_bounded A H K image s kept to bytes (block ∷ []) log le (one_up_to _ t block under write));
    bases = bounded_bases A H K image s kept to bytes placed.others le;
    earliest = earliest_stays A H K (stays_kept A H K stages) kept.numbers.earliest;
    starts = starts_kept A H K stages (completions_rise A H (entry j (Append t target writes (block_bytes block)) (reply.Placed version at))) kept.numbers.starts;
  };
  known = known_placed A H K image s kept to bytes placed;
  owned = owned_then A H K t (with_block target writes bytes) appending.i appending.is le (λ u. refl)
      (owned-placed (after_history A K) t appending.i target writes bytes appending.inflight few_here (owned_more A H K t appending.i le (kept.owned t appending.i j appending.is appending.owner))) kept.owned;
  logs = logs_placed A H K image s kept to block fits placed;
  versions = versions_placed A H K image s kept to block fits placed;
}
  where
    bytes : List ℕ
    bytes = block_bytes block

    few_here : writes_among target appending.i.blocks + writes < 2 ^ 32
    few_here = subst (λ (o : Option Instant). option_map_or (λ i. writes_among target i.blocks) o 0 + writes < 2 ^ 32) appending.is few

    s : Target
    s = appending.s

    K : History
    K = entry j (Append t target writes (block_bytes block)) (reply.Placed version at) ∷ H

    new : FileMap
    new = with_more A H image appending.s (block_bytes block)

    to : Goes A H image appending.s
    to = goes A H image appending.s kept named

    log : IsLogOf (to.blocks ++ block ∷ []) (content image (name_in_use A H appending.s) ++ block_bytes block)
    log = subst (λ old. IsLogOf (to.blocks ++ block ∷ []) (old ++ block_bytes block)) (sym to.whole) (adds_whole to.blocks block to.fit fits)

    placed : IsPlacing A H (entry j (Append t target writes (block_bytes block)) (reply.Placed version at) ∷ H) appending.s (block_bytes block)
    placed = placing A H j t target writes (block_bytes block) appending.s appending.at version at first

    le : greatest_in (after_history A H).instants ≤ greatest_in (after_history A (entry j (Append t target writes (block_bytes block)) (reply.Placed version at) ∷ H)).instants
    le = greatest_rises A H (entry j (Append t target writes (block_bytes block)) (reply.Placed version at))

    under : t ≤ greatest_in (after_history A (entry j (Append t target writes (block_bytes block)) (reply.Placed version at) ∷ H)).instants
    under = let here = under_greatest (after_history A H).instants t appending.i (at_after A H t ∙ appending.is) in omega (arith, here, le)

    stages : KeepsLine IsSameStage A H (entry j (Append t target writes (block_bytes block)) (reply.Placed version at) ∷ H)
    stages = line_changed IsSameStage A H (entry j (Append t target writes (block_bytes block)) (reply.Placed version at) ∷ H) t (with_block target writes (block_bytes block))
        (λ i. record { action = refl; state = refl; start = refl; said = λ r reached. refl })
        (λ i at. record {
          action = refl;
          state = refl;
          start = refl;
          said = λ r reached. said_placed i target writes (block_bytes block) r
              (ap (λ s. has_reached s r) (sym (ap (λ (k : Instant). k.state) (some_same (sym at ∙ appending.is)) ∙ appending.inflight)) ∙ reached);
        }) (λ u. refl)

-- ---- the append failed

module _ (A : Table) (H : History) (image : FileMap) (j : Job) (t target writes : ℕ) (block : Block) (appending : IsAppending A H j t target) (fits : Fits block) (write : is_write_of t block ≡ true)
    (named : IsNamed (log_in_use A H appending.s)) (kept : Kept A image H) where
  abbrev K : History
  K = entry j (Append t target writes (block_bytes block)) reply.Fault ∷ H

  failing : IsFailing A H (entry j (Append t target writes (block_bytes block)) reply.Fault ∷ H) appending.s
  failing = is_failing A H j t target writes (block_bytes block) appending.s appending.at

  to : Goes A H image appending.s
  to = goes A H image appending.s kept named

  le : greatest_in (after_history A H).instants ≤ greatest_in (after_history A (entry j (Append t target writes (block_bytes block)) reply.Fault ∷ H)).instants
  le = greatest_rises A H (entry j (Append t target writes (block_bytes block)) reply.Fault)

  under : t ≤ greatest_in (after_history A (entry j (Append t target writes (block_bytes block)) reply.Fault ∷ H)).instants
  under = let here = under_greatest (after_history A H).instants t appending.i (at_after A H t ∙ appending.is) in omega (arith, here, le)

  less : KeepsLine IsNoMore A H (entry j (Append t target writes (block_bytes block)) reply.Fault ∷ H)
  less = line_less A H (entry j (Append t target writes (block_bytes block)) reply.Fault ∷ H) t failed no_more-failed (λ u. refl)

  stages : KeepsLine IsSameStage A H (entry j (Append t target writes (block_bytes block)) reply.Fault ∷ H)
  stages = line_weaker IsNoMore IsSameStage stage A H (entry j (Append t target writes (block_bytes block)) reply.Fault ∷ H) less

  -- nothing arrived, and no file was made
  pub row_nothing : Kept A image (entry j (Append t target writes (block_bytes block)) reply.Fault ∷ H)
  unfolding ChainsHold
  row_nothing = record {
    properties = properties_still A H K image image refl kept.properties;
    timeline = timeline_still A H K image image stages (λ u action st time. refl) kept;
    whole = whole_unchanged A H K image appending.s kept to failing;
    tiles = kept.tiles;
    chains = λ group is_group.
        let was = kept.chains group is_group in (
          was.0,
          record { logs = was.1.logs; alone = was.1.alone },
          to_chain A K group was.0 (blocks_of_chain was.0 ++ []) (sym (append-nil (blocks_of_chain was.0)))
              (holds_appended A H K group (blocks_of_chain was.0) [] t failed appending.i appending.is (appender-failed (blocks_of_chain was.0) [] group t appending.i appending.inflight) (none_of t) (λ u. refl)
              (of_chain A H group was.0 was.2)),
        );
    numbers = record {
      logs = bounded_unchanged A H K image appending.s kept to failing le;
      bases = bases_unchanged A H K image appending.s kept to failing le;
      earliest = earliest_stays A H K (stays_kept A H K stages) kept.numbers.earliest;
      starts = starts_kept A H K stages (completions_rise A H (entry j (Append t target writes (block_bytes block)) reply.Fault)) kept.numbers.starts;
    };
    known = known_unchanged A H K image appending.s kept to failing;
    owned = owned_still A H K less le kept.owned;
    logs = logs_unchanged A H K image appending.s kept to failing;
    versions = versions_unchanged A H K image appending.s kept to failing;
  }

  -- a prefix of the block arrived
  of_prefix : (new : List Block) → (new ≡ []) ⊎ (new ≡ block ∷ []) → AreOf t new
  of_prefix new (inl none) = subst (AreOf t) (sym none) (none_of t)
  of_prefix new (inr one) = subst (AreOf t) (sym one) (one_of t block write)

  bounded_prefix : (new : List Block) → (new ≡ []) ⊎ (new ≡ block ∷ []) → AllByRecursion (IsUpTo (greatest_in (after_history A (entry j (Append t target writes (block_bytes block)) reply.Fault ∷ H)).instants)) new
  bounded_prefix new (inl none) = subst (AllByRecursion (IsUpTo (greatest_in (after_history A K).instants))) (sym none) tt
  bounded_prefix new (inr one) = subst (AllByRecursion (IsUpTo (greatest_in (after_history A K).instants))) (sym one) (one_up_to _ t block under write)

  pub row_prefix : (n : ℕ) → Kept A (with_more A H image appending.s (take n (block_bytes block))) (entry j (Append t target writes (block_bytes block)) reply.Fault ∷ H)
  row_prefix n = record {
    properties = properties_still A H K image new (properties_apart A H image appending.s more named) kept.properties;
    timeline = timeline_still A H K image new stages (λ u action st time. timeline_apart A H image appending.s more named u action st time) kept;
    whole = whole_more A H K image appending.s kept to more (to.blocks ++ adds.new, log);
    tiles = kept.tiles;
    chains = chains_then A H K image appending.s kept to appending.current more adds.new log t failed appending.i appending.is (of_prefix adds.new adds.is)
        (λ blocks. appender-failed blocks adds.new appending.s.group t appending.i appending.inflight) (λ group blocks apart. appender-failed blocks [] group t appending.i appending.inflight) (λ u. refl);
    numbers = record {
      logs = bounded_logs A H K image appending.s kept to more failing.others le (current_then A H K appending.s le appending.current)
          (blocks_bounded A H K image appending.s kept to more adds.new log le (bounded_prefix adds.new adds.is));
      bases = bounded_bases A H K image appending.s kept to more failing.others le;
      earliest = earliest_stays A H K (stays_kept A H K stages) kept.numbers.earliest;
      starts = starts_kept A H K stages (completions_rise A H (entry j (Append t target writes (block_bytes block)) reply.Fault)) kept.numbers.starts;
    };
    known = known_failed A H K image appending.s kept to more failing;
    owned = owned_still A H K less le kept.owned;
    logs = logs_left A H K image appending.s kept to failing more;
    versions = versions_left A H K image appending.s kept to failing more;
  }
    where
      more : List ℕ
      more = take n (block_bytes block)

      new : FileMap
      new = with_more A H image appending.s (take n (block_bytes block))

      adds : AddsUpTo to.blocks block (bytes_of_blocks to.blocks ++ take n (block_bytes block))
      adds = adds_prefix to.blocks block n to.fit fits

      log : IsLogOf (to.blocks ++ adds.new) (content image (name_in_use A H appending.s) ++ take n (block_bytes block))
      log = subst (λ old. IsLogOf (to.blocks ++ adds.new) (old ++ take n (block_bytes block))) (sym to.whole) adds.log
