-- A table that was just opened: what stands for it is kept. And what is kept stands.
use Rattle.std.proofs.Common.{◌≡◌, ◌⊎◌, inl, inr, ◌<◌, ◌≤◌, ◌+◌, ℕ, true, false, List, [], ◌∷◌, ◌++◌, length, Option, Some, None, Ok, IsSomeAnd, max, refl, sym, ap, ◌∙◌, subst, arith}
use Rattle.std.specs.FinMap.{empty, get, insert, get-empty}
use Rattle.std.specs.Ordering.{nat_cmp}
use Rattle.std.specs.Cmp.Lexicographic.{slice_cmp}
use Rattle.hudi_base.specs.Files.{FileMap, IsImage, changed_all}
use Rattle.hudi_base.specs.declared.file_group.Target.{Target}
use Rattle.hudi_base.specs.declared.operation.Operation.{Operation}
use Rattle.file_names.specs.FileName.{name_of, kind_of, base, log}
use Rattle.file_names.specs.declared.file_name.FileName.{FileName}
use Rattle.file_names.specs.declared.file_name.FileName.TheVariants as file
use Rattle.file_names.specs.declared.file_name.State.TheVariants as state
use Rattle.file_names.specs.declared.file_name.Token.{Token}
use Rattle.table_history.specs.After.{after_history, greatest_in}
use Rattle.table_history.specs.Histories.{History}
use Rattle.table_history.specs.JobLaw.{Work}
use Rattle.table_history.specs.Logs.{greatest_version, version_in_use}
use Rattle.table_history.specs.Tables.{Table, Instant, KnownFile, instant_at, fresh}
use Rattle.table_history.proofs.Bounds.{fresh_opened}
use Rattle.table_images.specs.Blocks.{HoldsBlocks}
use Rattle.table_images.specs.Chains.{ChainsHold}
use Rattle.table_images.specs.Kept.{Kept, Counts, OwnedInstants, OpenLogs, VersionsRise}
use Rattle.table_images.specs.KnownFiles.{KnownFiles}
use Rattle.table_images.specs.LogTexts.{WholeBlocks}
use Rattle.table_images.specs.Numbers.{IsEarliest}
use Rattle.table_images.specs.Runs.{Run, IsRun, history_of, operations_of, files_after}
use Rattle.table_images.specs.Stands.{StandsFor, StandsAfter, IsJustOpened, Knows}
use Rattle.table_images.specs.Stops.{IsAtStop}
use Rattle.table_images.specs.Timeline.{TimelineFiles, HasReached, ReadsAs, timeline_name}
use Rattle.table_images.proofs.Failing.{fails}
use Rattle.table_images.proofs.Frame.{get_here}
use Rattle.table_images.proofs.Images.{between, images, image_behind}
use Rattle.key_index.specs.Tiling.{IsBuckets}
use Rattle.key_index.proofs.FirstTiles.{first-tiling}
use Rattle.table_images.proofs.Keeps.{keeps}
use Rattle.table_images.proofs.Lines.{at_after, first_least, under_greatest, greatest_least, none_some}
use Rattle.table_images.proofs.NumberCells.{up_to}
use Rattle.table_images.proofs.PropertiesCells.{beside_properties, first_files, is_properties}
use Rattle.table_images.proofs.WhereTo.{itself_target}
use Rattle.table_props.specs.PropsTexts.{Told as Properties, read_props}

-- ---- what is kept stands

pub stands_of : (A : Table) (image : FileMap) (H : History) → Kept A image H → StandsAfter A image H
unfolding ChainsHold
stands_of A image H kept = record {
  properties = kept.properties;
  timeline = kept.timeline;
  whole = kept.whole;
  tiles = kept.tiles;
  chains = λ group named.
      let was = kept.chains group named in (
        was.0,
        was.1,
        record {
          each = λ t i is done. was.2.each t i is (inl done);
          order = λ u v i j at_u at_v done also before. was.2.order u v i j at_u at_v done (inl also) before;
        },
      );
  numbers = kept.numbers;
  known = kept.known;
}

-- ---- what stands for a table that was just opened is kept

-- the table after no entry has the same instants
same_instants : (A : Table) (t : ℕ) → instant_at (after_history A []).instants t ≡ instant_at A.instants t
same_instants A t = at_after A [] t

same_greatest : (A : Table) → greatest_in A.instants ≤ greatest_in (after_history A []).instants
same_greatest A =
    greatest_least A.instants (greatest_in (after_history A []).instants) (first_least (after_history A []).instants)
    (λ t i is. under_greatest (after_history A []).instants t i (same_instants A t ∙ is))

version_below : (fs : List KnownFile) (s : Target) (version : ℕ) (token : Token) → Knows fs (file.Log s.group s.slice version token) → version ≤ greatest_version fs s
version_below [] s version token knows = absurd knows
version_below (known ∷ fs) s version token (inl is) =
    rw is (rw (itself_target s) (first_of_two version (greatest_version fs s)))
  where
    first_of_two : (a b : ℕ) → a ≤ max a b
    first_of_two a b = omega arith
version_below (known ∷ fs) s version token (inr more) = later _ version (greatest_version fs s) (version_below fs s version token more)
  where
    later : (a b c : ℕ) → b ≤ c → b ≤ max a c
    later a b c le = omega (arith, le)

pub kept_of : (A : Table) (files : FileMap) → StandsFor files A 0 → IsJustOpened files A → Kept A files []
unfolding TimelineFiles WholeBlocks ChainsHold KnownFiles OwnedInstants OpenLogs VersionsRise
kept_of A files stands opened = record {
  properties = stands.properties;
  timeline = λ t action s time.
      let marked = stands.timeline t action s time in
      record {
        there = λ reached. subst (λ (o : Option Instant). ReadsAs A.props.name o action s (get files (timeline_name A t action s))) (sym (same_instants A t))
            (marked.there (subst (λ (o : Option Instant). HasReached o action s) (same_instants A t) reached));
        only = λ bytes is. subst (λ (o : Option Instant). HasReached o action s) (sym (same_instants A t)) (marked.only bytes is);
      };
  whole = λ group slice version token bytes has. stands.whole group slice version token bytes (record { named = has.named; there = has.there });
  tiles = stands.tiles;
  chains = λ group named.
      let was = stands.chains group named in (
        was.0,
        record { logs = was.1.logs; alone = was.1.alone },
        record {
          each = λ t i is counts. was.2.each t i (sym (same_instants A t) ∙ is) (completed t i (sym (same_instants A t) ∙ is) counts);
          order = λ u v i j at_u at_v done counts before.
              was.2.order u v i j (sym (same_instants A u) ∙ at_u) (sym (same_instants A v) ∙ at_v) done (completed v j (sym (same_instants A v) ∙ at_v) counts) before;
        },
      );
  numbers = record {
    logs = λ group slice version token bytes has.
        let log = stands.numbers.logs group slice version token bytes (record { named = has.named; there = has.there }) in
        let le = same_greatest A in
        record { made = log.made; drawn = omega (arith, log.drawn, le); current = log.current; blocks = up_to _ _ _ le log.blocks };
    bases = λ group token t bytes has.
        let base = stands.numbers.bases group token t bytes (record { named = has.named; there = has.there }) in
        let le = same_greatest A in
        record { made = base.made; time = omega (arith, base.time, le) };
    earliest = earliest stands.numbers.earliest;
    starts = λ t i is. stands.numbers.starts t i (sym (same_instants A t) ∙ is);
  };
  known = stands.known;
  owned = λ t i job is owner. absurd (none_some (sym (opened.opened t i is).0 ∙ owner));
  logs = λ s used. let wrong : true ≡ false = used in absurd cc;
  versions = λ s version token bytes has. inl (below s version token (opened.known (file.Log s.group s.slice version token) bytes (record { named = has.named; there = has.there }) (inr refl)));
}
  where
    completed : (t : ℕ) (i : Instant) → instant_at A.instants t ≡ Some i → Counts t i → i.state ≡ state.Completed
    completed t i is (inl done) = done
    completed t i is (inr owned) = absurd (none_some (sym (opened.opened t i is).0 ∙ owned.0.1))

    earliest : IsEarliest A → IsEarliest (after_history A [])
    earliest (inl first) = inl first
    earliest (inr (i, is, done)) = inr (i, same_instants A A.earliest ∙ is, done)

    below : (s : Target) (version : ℕ) (token : Token) → Knows A.files (file.Log s.group s.slice version token) → version < version_in_use A [] s
    below s version token knows = let le = version_below A.files s version token knows in omega (arith, le)

-- ---- a table without instants

pub fresh_stands : (props : Properties) (bytes : List ℕ) → IsBuckets props.buckets → read_props bytes ≡ Ok props → StandsFor (first_files props bytes) (fresh props) 0
unfolding TimelineFiles WholeBlocks ChainsHold KnownFiles
fresh_stands props text fit reads = record {
  properties = subst (λ (c : Option (List ℕ)). IsSomeAnd c (λ bytes. read_props bytes ≡ Ok props)) (sym (get_here empty (name_of props.name file.Properties) text)) reads;
  timeline = λ t action s time. record { there = λ reached. absurd reached; only = λ bytes is. absurd (none (sym (beside_properties props text (file.Instant t action s) time refl) ∙ is)) };
  whole = λ group slice version token bytes has. absurd (none (sym (beside_properties props text (file.Log group slice version token) has.named refl) ∙ has.there));
  tiles = (fit, λ partition. first-tiling partition props.buckets fit);
  chains = λ group named. (
    empty,
    record {
      logs = λ slice version token named. get-empty (slice_cmp nat_cmp) _ ∙ sym (beside_properties props text (file.Log group slice version token) named refl);
      alone = λ key bytes is. absurd (none (sym (get-empty (slice_cmp nat_cmp) _) ∙ is));
    },
    record {
      each = λ t i is done. absurd (none_some is);
      order = λ u v i j at_u at_v done also before. absurd (none_some at_u);
    },
  );
  numbers = record {
    logs = λ group slice version token bytes has. absurd (none (sym (beside_properties props text (file.Log group slice version token) has.named refl) ∙ has.there));
    bases = λ group token t bytes has. absurd (none (sym (beside_properties props text (file.Base group token t) has.named refl) ∙ has.there));
    earliest = inl refl;
    starts = λ t i is. absurd (none_some is);
  };
  known = tt;
}
  where
    none : {X : Type 0} {x : X} → None ≡ Some x → ⊥
    none is = none_some is

pub fresh_just_opened : (props : Properties) (bytes : List ℕ) → IsJustOpened (first_files props bytes) (fresh props)
fresh_just_opened props text = record {
  opened = fresh_opened props;
  last = omega arith;
  known = λ of bytes has kind. absurd (none_some (sym (beside_properties props text of has.named (by_kind of kind)) ∙ has.there));
  once = tt;
}
  where
    by_kind : (of : FileName) → (kind_of of ≡ base) ⊎ (kind_of of ≡ log) → is_properties (kind_of of) ≡ false
    by_kind of (inl is) = ap is_properties is
    by_kind of (inr is) = ap is_properties is

-- ---- every image of a run

at_stop : (A : Table) (R : Run) (k : ℕ) (image : FileMap) → IsAtStop (Kept A) R k image → IsAtStop (StandsAfter A) R k image
at_stop A R k image (inl at) = inl (record { later = at.later; so_far = at.so_far; split = at.split; counts = at.counts; related = stands_of A image (history_of at.so_far) at.related })
at_stop A R k image (inr at) =
    inr (record { later = at.later; next = at.next; so_far = at.so_far; split = at.split; counts = at.counts; operation = at.operation; does = at.does; related = either at.related })
  where
    either : {H K : History} → Kept A image H ⊎ Kept A image K → StandsAfter A image H ⊎ StandsAfter A image K
    either {H} {K} (inl cut) = inl (stands_of A image H cut)
    either {H} {K} (inr whole) = inr (stands_of A image K whole)

module _ (work : Work) (A : Table) (blocks : HoldsBlocks work.Holds) where
  pub kept_after : (files : FileMap) (R : Run) → StandsFor files A 0 → IsJustOpened files A → IsRun work A files R → Kept A (files_after files R) (history_of R)
  kept_after files R stands opened run =
      between work A (Kept A) (keeps work A opened.opened opened.last blocks) (fails work A) files R (kept_of A files stands opened) run

  pub every_image : (first : FileMap) (before : List Operation) (R : Run) (k : ℕ) (image : FileMap) → StandsFor (changed_all first before) A 0 → IsJustOpened (changed_all first before) A
      → IsRun work A (changed_all first before) R → k ≤ length (operations_of R) → IsImage first (before ++ operations_of R) (length before + k) image → IsAtStop (StandsAfter A) R k image
  every_image first before R k image stands opened run le is =
      at_stop A R k image (images work A (Kept A) (keeps work A opened.opened opened.last blocks) (fails work A) (changed_all first before) R k image (kept_of A (changed_all first before) stands opened) run le
      (image_behind first before (operations_of R) k image is))
