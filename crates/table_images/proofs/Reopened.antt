-- A table that is opened again on files that stood for it.
use Rattle.std.proofs.Common.{◌≡◌, inl, inr, ◌<◌, ◌+◌, ◌==◌, ℕ, Bool, true, false, cond, List, [], ◌∷◌, map, Option, Some, None, Ok, option_map, max, append-nil, refl, sym, ap, ◌∙◌, subst, arith}
use Rattle.std.specs.FinMap.{get}
use Rattle.std.specs.List.{AllByRecursion}
use Rattle.hudi_base.specs.Files.{FileMap}
use Rattle.hudi_base.specs.declared.file_group.GroupRef.{GroupRef}
use Rattle.file_names.specs.declared.file_name.Action.{Action}
use Rattle.file_names.specs.declared.file_name.FileName.TheVariants as file
use Rattle.file_names.specs.declared.file_name.State.{State}
use Rattle.file_names.specs.declared.file_name.State.TheVariants.{Requested, Inflight, Completed}
use Rattle.file_names.specs.declared.file_name.Token.{Token}
use Rattle.log_block.specs.declared.block.Block.{Block}
use Rattle.table_history.specs.After.{reopened, greatest_in, next_session}
use Rattle.table_history.specs.Metadata.{metadata}
use Rattle.table_history.specs.Tables.{Table, Instant, KnownFile, instant_at}
use Rattle.table_history.proofs.Bounds.{reopened_opened}
use Rattle.table_images.specs.Chains.{ChainsHold, FinishedBefore, HoldsWrites, blocks_of_chain}
use Rattle.table_images.specs.KnownFiles.{KnownFiles, BeginsWithKnown}
use Rattle.table_images.specs.LogTexts.{WholeBlocks, blocks_in}
use Rattle.table_images.specs.Numbers.{IsEarliest, IsUpTo}
use Rattle.table_images.specs.Stands.{StandsFor, IsJustOpened, IsKnownOnce, IsListing, Knows}
use Rattle.table_images.specs.Timeline.{TimelineFiles, HasReached, ReadsAs, timeline_name}
use Rattle.table_images.proofs.Lines.{none_some, some_same}

abbrev unowned : Instant → Instant
unowned i = record i { owner = None }

-- each instant is there, without an owner
at_reopened : (line : List (ℕ × Instant)) (t : ℕ) → instant_at (map (λ known. (known.0, unowned known.1)) line) t ≡ option_map unowned (instant_at line t)
at_reopened [] t = refl
at_reopened (known ∷ line) t = by_test (known.0 == t) (at_reopened line t)
  where
    by_test : (b : Bool) → instant_at (map (λ known. (known.0, unowned known.1)) line) t ≡ option_map unowned (instant_at line t)
        → cond b (Some (unowned known.1)) (instant_at (map (λ known. (known.0, unowned known.1)) line) t) ≡ option_map unowned (cond b (Some known.1) (instant_at line t))
    by_test true rest = refl
    by_test false rest = rest

same_greatest : (line : List (ℕ × Instant)) → greatest_in (map (λ known. (known.0, unowned known.1)) line) ≡ greatest_in line
same_greatest [] = refl
same_greatest (known ∷ line) = ap (max known.0) (same_greatest line)

record WasAt (line : List (ℕ × Instant)) (t : ℕ) (i : Instant) : Type 0 where
  old : Instant
  was : instant_at line t ≡ Some old
  same : unowned old ≡ i

was_at : (line : List (ℕ × Instant)) (t : ℕ) (i : Instant) → instant_at (map (λ known. (known.0, unowned known.1)) line) t ≡ Some i → WasAt line t i
was_at line t i is = by_instant (instant_at line t) refl (sym (at_reopened line t) ∙ is)
  where
    by_instant : (o : Option Instant) → instant_at line t ≡ o → option_map unowned o ≡ Some i → WasAt line t i
    by_instant None was found = absurd (none_some found)
    by_instant (Some old) was found = record { old = old; was = was; same = some_same found }

-- a file that the table knows was made by an earlier session
log_session : (fs : List KnownFile) (group : GroupRef) (slice version : ℕ) (token : Token) → Knows fs (file.Log group slice version token) → token.session < next_session fs
log_session [] group slice version token knows = absurd knows
log_session (k ∷ fs) group slice version token (inl is) = rw is (above token.session (next_session fs))
  where
    above : (n m : ℕ) → n < max (n + 1) m
    above n m = omega arith
log_session (k ∷ fs) group slice version token (inr more) = later _ token.session (next_session fs) (log_session fs group slice version token more)
  where
    later : (a b c : ℕ) → b < c → b < max a c
    later a b c lt = omega (arith, lt)

base_session : (fs : List KnownFile) (group : GroupRef) (token : Token) (t : ℕ) → Knows fs (file.Base group token t) → token.session < next_session fs
base_session [] group token t knows = absurd knows
base_session (k ∷ fs) group token t (inl is) = rw is (above token.session (next_session fs))
  where
    above : (n m : ℕ) → n < max (n + 1) m
    above n m = omega arith
base_session (k ∷ fs) group token t (inr more) = later _ token.session (next_session fs) (base_session fs group token t more)
  where
    later : (a b c : ℕ) → b < c → b < max a c
    later a b c lt = omega (arith, lt)

-- what an instant says doesn't depend on its owner
said_unowned : (i : Instant) (s : State) → metadata (unowned i) s ≡ metadata i s
said_unowned i Requested = refl
said_unowned i Inflight = refl
said_unowned i Completed = refl

reads_unowned : (table : List ℕ) (o : Option Instant) (action : Action) (s : State) (c : Option (List ℕ)) → ReadsAs table o action s c → ReadsAs table (option_map unowned o) action s c
reads_unowned table None action s c reads = reads
reads_unowned table (Some i) action s None reads = reads
reads_unowned table (Some i) action s (Some bytes) reads = reads ∙ ap Ok (sym (said_unowned i s))

-- ---- the parts

reached_back : (o : Option Instant) (action : Action) (s : State) → HasReached (option_map unowned o) action s → HasReached o action s
reached_back None action s reached = reached
reached_back (Some i) action s reached = reached

reached_on : (o : Option Instant) (action : Action) (s : State) → HasReached o action s → HasReached (option_map unowned o) action s
reached_on None action s reached = reached
reached_on (Some i) action s reached = reached

all_begin : (image : FileMap) (fs : List KnownFile) → AllByRecursion (λ (known : KnownFile). get image known.name ≡ Some known.bytes) fs → AllByRecursion (BeginsWithKnown image) fs
all_begin image [] all = tt
all_begin image (k ∷ fs) all = (([], all.0 ∙ ap Some (sym (append-nil k.bytes))), all_begin image fs all.1)

holds_unowned : (blocks : List Block) (group : GroupRef) (t : ℕ) (old i : Instant) → unowned old ≡ i → HoldsWrites blocks group t old → HoldsWrites blocks group t i
holds_unowned blocks group t old i same holds = subst (HoldsWrites blocks group t) same (record { writes = holds.writes; unvoided = holds.unvoided })

once_again : (A : Table) (all fs : List KnownFile) → IsKnownOnce A fs → IsKnownOnce (reopened A all) fs
once_again A all [] once = tt
once_again A all (k ∷ fs) once = (once.0, once.1, once_again A all fs once.2)

pub opened_again : (image : FileMap) (A : Table) (files : List KnownFile) → IsListing image A files → IsJustOpened image (reopened A files)
opened_again image A files listing = record {
  opened = reopened_opened A files;
  last = let same = same_greatest A.instants in omega (arith, same);
  known = λ of bytes has kind. listing.all of bytes (record { named = has.named; there = has.there }) kind;
  once = once_again A files files listing.once;
}

pub stands_again : (image : FileMap) (A : Table) (tries : ℕ) (files : List KnownFile) → StandsFor image A tries → IsListing image A files → StandsFor image (reopened A files) 0
unfolding TimelineFiles WholeBlocks ChainsHold KnownFiles
stands_again image A tries files stands listing = record {
  properties = stands.properties;
  timeline = λ t action s time.
      let marked = stands.timeline t action s time in
      let back : HasReached (instant_at (reopened A files).instants t) action s → HasReached (instant_at A.instants t) action s =
      λ reached. reached_back (instant_at A.instants t) action s (subst (λ (o : Option Instant). HasReached o action s) (at_reopened A.instants t) reached) in
      record {
        there = λ reached. subst (λ (o : Option Instant). ReadsAs A.props.name o action s (get image (timeline_name A t action s))) (sym (at_reopened A.instants t))
            (reads_unowned A.props.name (instant_at A.instants t) action s (get image (timeline_name A t action s)) (marked.there (back reached)));
        only = λ bytes is. subst (λ (o : Option Instant). HasReached o action s) (sym (at_reopened A.instants t)) (reached_on (instant_at A.instants t) action s (marked.only bytes is));
      };
  whole = λ group slice version token bytes has. stands.whole group slice version token bytes (record { named = has.named; there = has.there });
  tiles = stands.tiles;
  chains = λ group named.
      let was = stands.chains group named in (
        was.0,
        record { logs = was.1.logs; alone = was.1.alone },
        record {
          each = λ t i is done.
              let at = was_at A.instants t i is in
              holds_unowned (blocks_of_chain was.0) group t at.old i at.same (was.2.each t at.old at.was (ap (λ (k : Instant). k.state) at.same ∙ done));
          order = λ u v i j at_u at_v done also before.
              let here = was_at A.instants u i at_u in
              let there = was_at A.instants v j at_v in
              was.2.order u v here.old there.old here.was there.was (ap (λ (k : Instant). k.state) here.same ∙ done) (ap (λ (k : Instant). k.state) there.same ∙ also)
              (subst (FinishedBefore here.old.finished) (sym (ap (λ (k : Instant). k.start) there.same)) (subst (λ (o : Option ℕ). FinishedBefore o j.start) (sym (ap (λ (k : Instant). k.finished) here.same)) before));
        },
      );
  numbers = record {
    logs = λ group slice version token bytes has.
        let was = stands.numbers.logs group slice version token bytes (record { named = has.named; there = has.there }) in
        let same = same_greatest A.instants in
        record {
          made = inl (log_session files group slice version token (listing.all (file.Log group slice version token) bytes (record { named = has.named; there = has.there }) (inr refl)));
          drawn = omega (arith, was.drawn, same);
          current = was.current;
          blocks = subst (λ n. AllByRecursion (IsUpTo n) (blocks_in bytes)) (sym same) was.blocks;
        };
    bases = λ group token t bytes has.
        let was = stands.numbers.bases group token t bytes (record { named = has.named; there = has.there }) in
        let same = same_greatest A.instants in
        record {
          made = inl (base_session files group token t (listing.all (file.Base group token t) bytes (record { named = has.named; there = has.there }) (inl refl)));
          time = omega (arith, was.time, same);
        };
    earliest = earliest stands.numbers.earliest;
    starts = λ t i is. let at = was_at A.instants t i is in let old = stands.numbers.starts t at.old at.was in let same = ap (λ (k : Instant). k.start) at.same in omega (arith, old, same);
  };
  known = all_begin image files listing.bytes;
}
  where
    earliest : IsEarliest A → IsEarliest (reopened A files)
    earliest (inl first) = inl first
    earliest (inr (i, is, done)) = inr (unowned i, at_reopened A.instants A.earliest ∙ ap (option_map unowned) is, done)
