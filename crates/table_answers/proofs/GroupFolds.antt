-- Groups hold keys of their own, so writes group by group fold as in the order in which they came.
use Rattle.std.proofs.Common.{◌≡◌, ◌⊎◌, inl, inr, ◌<◌, ℕ, Bool, true, false, cond, ◌&&◌, ◌||◌, List, [], ◌∷◌, ◌++◌, map, length, Some, refl, sym, ap, subst, ◌∙◌, arith, append-nil}
use Rattle.std.specs.Prelude.{filter, nat_le, nat_lt, reverse}
use Rattle.std.specs.FinMap.{empty}
use Rattle.std.specs.List.{AllByRecursion, flat_map, list_any}
use Rattle.std.specs.List.Sorted.{IsStrictlySortedBy}
use Rattle.std.specs.Ordering.{eq_by_cmp, is_eq}
use Rattle.std.specs.Str.{bytes_eq}
use Rattle.std.specs.declared.cmp.Ordering.TheVariants.{Less}
use Rattle.std.proofs.lemmas.Bool.Decides.{nat_tests}
use Rattle.std.proofs.lemmas.List.{length-map, length-reverse}
use Rattle.std.proofs.lemmas.List.Elements.{filter-append}
use Rattle.std.proofs.lemmas.Map.Keys.{sorted_head, sorted_tail}
use Rattle.std.proofs.lemmas.Slice.Eq.{bytes_eq-Decides}
use Rattle.hudi_base.specs.declared.file_group.GroupRef.{GroupRef}
use Rattle.hudi_base.specs.declared.file_group.Target.{Target}
use Rattle.key_index.specs.Slots.{slot_count, slot_of}
use Rattle.key_index.specs.Tiling.{IsBuckets, groups_at, has_slot, is_among, is_same_group}
use Rattle.key_index.proofs.FirstTiles.{among-one, first-tiling, same-is, same-itself}
use Rattle.payload_merge.specs.Fold.{table_after_all}
use Rattle.payload_merge.specs.Laws.{writes_to}
use Rattle.payload_merge.specs.Payload.{Key, key_cmp, key_of}
use Rattle.payload_merge.specs.declared.row.Write.{Write}
use Rattle.payload_merge.specs.Fold.{row_after_all}
use Rattle.payload_merge.proofs.Keys.{same_key}
use Rattle.payload_merge.proofs.Tables.{get-table_after_all, same_table}
use Rattle.table_core.specs.KeyLaws.{same_group}
use Rattle.table_history.specs.Histories.{History}
use Rattle.table_history.specs.Logs.{files_of, logs_of}
use Rattle.table_history.specs.Pins.{has_files, part_of}
use Rattle.table_history.specs.Tables.{KnownFile, Table}
use Rattle.table_history.specs.Targets.{AreLive, group_cmp, is_live, is_target, target_of_group, tiles_of}
use Rattle.table_history.specs.declared.log_file.LogFile.{LogFile}
use Rattle.table_images.proofs.WhereTo.{itself_group, itself_target, one_target}
use Rattle.table_query.specs.GroupReading as query
use Rattle.upsert_writer.specs.BatchWrites.{is_in_group}
use Rattle.upsert_writer.specs.Blocks.{BlockForm}
use Rattle.table_answers.specs.InstantWrites.{block_writes}
use Rattle.table_answers.proofs.LiveSlices.{IsOwn}
use Rattle.table_answers.proofs.LogTexts.{AreTexts, IsChained}
use Rattle.table_answers.proofs.Placed.{PlacedBlock, chain, chain_is_placed, gone_to, joined, placed}
use Rattle.table_answers.proofs.WriteBlocks.{AllWriteBlocks, IsWriteBlock}
use Rattle.table_answers.proofs.Writes.{counted}

both : (a b : Bool) → (a && b) ≡ true → (a ≡ true) × (b ≡ true)
both true b h = (refl, h)
both false b h = (h, cc)

not_both : true ≡ false → ⊥
not_both e = cc

or_true : (b : Bool) → (b || true) ≡ true
or_true true = refl
or_true false = refl

or_rest : (b c : Bool) → b ≡ false → (b || c) ≡ true → c ≡ true
or_rest b c differs some = cc

never : (b : Bool) → (b ≡ true → ⊥) → b ≡ false
never true wrong = absurd (wrong refl)
never false wrong = refl

-- ---- the group of a key

-- the key's slot is the group's
abbrev pub key_in : GroupRef → Key → Bool
key_in group key = bytes_eq key.0 group.partition && nat_le group.lo (slot_of key.1) && nat_le (slot_of key.1) group.hi

slot_within : (key : List ℕ) → slot_of key < slot_count
unfolding slot_of
slot_within key = omega arith

one_of : (gs : List GroupRef) → length gs ≡ 1 → (one : GroupRef) × (gs ≡ one ∷ [])
one_of [] long = absurd (omega (arith, long))
one_of (g ∷ []) long = (g, refl)
one_of (g ∷ (h ∷ gs)) long = absurd (omega (arith, long))

in_tiles : (A : Table) (g : GroupRef) (key : Key) → is_live A g ≡ true → key_in g key ≡ true → (is_among (tiles_of A key.0) g && has_slot g (slot_of key.1)) ≡ true
in_tiles A g key live here =
    let last = both (bytes_eq key.0 g.partition && nat_le g.lo (slot_of key.1)) (nat_le (slot_of key.1) g.hi) here in
    let first = both (bytes_eq key.0 g.partition) (nat_le g.lo (slot_of key.1)) last.0 in
    let partition : key.0 ≡ g.partition = (bytes_eq-Decides key.0 g.partition).0 first.0 in
    all (is_among (tiles_of A key.0) g) (nat_le g.lo (slot_of key.1)) (nat_le (slot_of key.1) g.hi) (ap (λ p. is_among (tiles_of A p) g) partition ∙ live) first.1 last.1
  where
    all : (a b c : Bool) → a ≡ true → b ≡ true → c ≡ true → (a && (b && c)) ≡ true
    all a b c p q r = cc

-- no key has two live groups
pub one_live : (A : Table) (g h : GroupRef) (key : Key) → IsBuckets A.props.buckets → is_live A g ≡ true → is_live A h ≡ true → key_in g key ≡ true → key_in h key ≡ true → g ≡ h
one_live A g h key fit live_g live_h in_g in_h =
    let slot = slot_of key.1 in
    let one = one_of (groups_at slot (tiles_of A key.0)) (first-tiling key.0 A.props.buckets fit slot (slot_within key.1)) in
    same-is g one.0 (among-one slot (tiles_of A key.0) one.0 g one.1 ∙ in_tiles A g key live_g in_g)
    ∙ sym (same-is h one.0 (among-one slot (tiles_of A key.0) one.0 h one.1 ∙ in_tiles A h key live_h in_h))

-- ---- the writes to a key

filter-flat_map : {X Y : Type 0} (p : Y → Bool) (f : X → List Y) (xs : List X) → filter p (flat_map f xs) ≡ flat_map (λ x. filter p (f x)) xs
filter-flat_map p f [] = refl
filter-flat_map p f (x ∷ xs) = filter-append p (f x) (flat_map f xs) ∙ ap (λ rest. filter p (f x) ++ rest) (filter-flat_map p f xs)

flat-same : {X Y : Type 0} (f g : X → List Y) (xs : List X) → ((x : X) → f x ≡ g x) → flat_map f xs ≡ flat_map g xs
flat-same f g [] same = refl
flat-same f g (x ∷ xs) same = ap (λ ys. ys ++ flat_map f xs) (same x) ∙ ap (λ ys. g x ++ ys) (flat-same f g xs same)

module _ (form : BlockForm) (times : List ℕ) (key : Key) where
  -- the writes to the key in a block that counts
  abbrev found : PlacedBlock → List Write
  found b = writes_to key (counted form times b)

  writes_none : (g : GroupRef) (ws : List Write) → AllByRecursion (λ w. is_in_group g w ≡ true) ws → key_in g key ≡ false → writes_to key ws ≡ []
  writes_none g [] own other = refl
  writes_none g (w ∷ ws) own other =
      ap (λ b. cond b (w ∷ writes_to key ws) (writes_to key ws))
      (never (eq_by_cmp key_cmp key (key_of w)) (λ same. not_both (sym own.0 ∙ ap (key_in g) (sym (same_key key (key_of w) same)) ∙ other)))
      ∙ writes_none g ws own.1 other

  block_none : (s : Target) (b : PlacedBlock) → IsWriteBlock form s b → key_in s.group key ≡ false → found b ≡ []
  block_none s b has other =
      ap (λ writes. writes_to key (cond (query.is_among times b.t) writes [])) (ap (λ r. block_writes form (Some r) b.bytes) has.to ∙ has.writes) ∙ by (query.is_among times b.t)
    where
      by : (c : Bool) → writes_to key (cond c has.wrote []) ≡ []
      by true = writes_none s.group has.wrote has.own other
      by false = refl

  blocks_none : (bs : List PlacedBlock) → AllWriteBlocks form bs → AllByRecursion (λ b. key_in b.to.group key ≡ false) bs → flat_map found bs ≡ []
  blocks_none [] rows others = refl
  blocks_none (b ∷ bs) rows others = ap (λ ws. ws ++ flat_map found bs) (block_none b.to b rows.0 others.0) ∙ blocks_none bs rows.1 others.1

  gone_none : (s : Target) (bs : List PlacedBlock) → AllWriteBlocks form bs → key_in s.group key ≡ false → flat_map found (gone_to s bs) ≡ []
  gone_none s [] rows other = refl
  gone_none s (b ∷ bs) rows other = by (is_target b.to s) refl (gone_none s bs rows.1 other)
    where
      by : (c : Bool) → is_target b.to s ≡ c → flat_map found (gone_to s bs) ≡ [] → flat_map found (cond c (b ∷ gone_to s bs) (gone_to s bs)) ≡ []
      by true same rest = ap (λ ws. ws ++ flat_map found (gone_to s bs)) (block_none b.to b rows.0 (ap (λ (r : Target). key_in r.group key) (one_target b.to s same) ∙ other)) ∙ rest
      by false apart rest = rest

  module _ (A : Table) (fit : IsBuckets A.props.buckets) (bs : List PlacedBlock) (rows : AllWriteBlocks form bs) where
    abbrev by_group : List GroupRef → List Write
    by_group gs = flat_map (λ g. flat_map found (gone_to (target_of_group g) bs)) gs

    groups_none : (gs : List GroupRef) → AllByRecursion (λ g. key_in g key ≡ false) gs → by_group gs ≡ []
    groups_none [] others = refl
    groups_none (g ∷ gs) others = ap (λ ws. ws ++ by_group gs) (gone_none (target_of_group g) bs rows others.0) ∙ groups_none gs others.1

    -- the groups behind one that has the key don't have it
    behind_none : (g : GroupRef) (gs : List GroupRef) → is_live A g ≡ true → key_in g key ≡ true → AllByRecursion (λ h. is_live A h ≡ true) gs → AllByRecursion (λ h. group_cmp g h ≡ Less) gs
        → AllByRecursion (λ h. key_in h key ≡ false) gs
    behind_none g [] live here lives less = tt
    behind_none g (h ∷ gs) live here lives less = (
      never (key_in h key) (λ there. not_less (ap (group_cmp g) (one_live A g h key fit live lives.0 here there) ∙ less.0)),
      behind_none g gs live here lives.1 less.1,
    )
      where
        not_less : group_cmp g g ≡ Less → ⊥
        not_less less = not_both (sym (itself_group g) ∙ sym (same_group g g) ∙ ap is_eq less)

    groups_one : (gs : List GroupRef) (g : GroupRef) → AllByRecursion (λ h. is_live A h ≡ true) gs → IsStrictlySortedBy group_cmp gs → is_among gs g ≡ true → is_live A g ≡ true → key_in g key ≡ true
        → by_group gs ≡ flat_map found (gone_to (target_of_group g) bs)
    groups_one [] g lives sorted among live here = cc
    groups_one (h ∷ gs) g lives sorted among live here =
        by (is_same_group g h) refl (sorted_head group_cmp h gs sorted) (λ rest. groups_one gs g lives.1 (sorted_tail group_cmp h gs sorted) rest live here)
      where
        first : is_same_group g h ≡ true → AllByRecursion (λ y. group_cmp h y ≡ Less) gs → by_group (h ∷ gs) ≡ flat_map found (gone_to (target_of_group g) bs)
        first same less =
            let is : g ≡ h = same-is g h same in
            ap (λ ws. flat_map found (gone_to (target_of_group h) bs) ++ ws) (groups_none gs (behind_none h gs lives.0 (ap (λ x. key_in x key) (sym is) ∙ here) lives.1 less))
            ∙ append-nil (flat_map found (gone_to (target_of_group h) bs)) ∙ ap (λ x. flat_map found (gone_to (target_of_group x) bs)) (sym is)

        by : (b : Bool) → is_same_group g h ≡ b → AllByRecursion (λ y. group_cmp h y ≡ Less) gs → (is_among gs g ≡ true → by_group gs ≡ flat_map found (gone_to (target_of_group g) bs))
            → by_group (h ∷ gs) ≡ flat_map found (gone_to (target_of_group g) bs)
        by true same less later = first same less
        by false other less later =
            ap (λ ws. ws ++ by_group gs) (gone_none (target_of_group h) bs rows
            (never (key_in h key) (λ there. not_both (sym (ap (is_same_group g) (sym (one_live A g h key fit live lives.0 here there)) ∙ same-itself g) ∙ other))))
            ∙ later (or_rest (is_same_group g h) (is_among gs g) other among)

  -- in the order in which the blocks came
  in_one : (A : Table) (fit : IsBuckets A.props.buckets) (g : GroupRef) (bs : List PlacedBlock) → AllWriteBlocks form bs → AllByRecursion (λ b. IsOwn A b.to) bs → is_live A g ≡ true → key_in g key ≡ true
      → flat_map found bs ≡ flat_map found (gone_to (target_of_group g) bs)
  in_one A fit g [] rows own live here = refl
  in_one A fit g (b ∷ bs) rows own live here = by (is_target b.to (target_of_group g)) refl (in_one A fit g bs rows.1 own.1 live here)
    where
      by : (c : Bool) → is_target b.to (target_of_group g) ≡ c → flat_map found bs ≡ flat_map found (gone_to (target_of_group g) bs)
          → found b ++ flat_map found bs ≡ flat_map found (cond c (b ∷ gone_to (target_of_group g) bs) (gone_to (target_of_group g) bs))
      by true same rest = ap (λ ws. found b ++ ws) rest
      by false other rest =
          ap (λ ws. ws ++ flat_map found bs) (block_none b.to b rows.0 (never (key_in b.to.group key) (λ there.
          let group : b.to.group ≡ g = one_live A b.to.group g key fit own.0.live live there here in
          not_both (sym (ap (λ s. is_target s (target_of_group g)) (own.0.slice ∙ ap target_of_group group) ∙ itself_target (target_of_group g)) ∙ other))))
          ∙ rest

-- ---- one of the groups has the key, or none

record HasKey (gs : List GroupRef) (key : Key) : Type 0 where
  group : GroupRef
  among : is_among gs group ≡ true
  here : key_in group key ≡ true

find_group : (gs : List GroupRef) (key : Key) → HasKey gs key ⊎ AllByRecursion (λ g. key_in g key ≡ false) gs
find_group [] key = inr tt
find_group (h ∷ gs) key = by (key_in h key) refl (find_group gs key)
  where
    by : (b : Bool) → key_in h key ≡ b → HasKey gs key ⊎ AllByRecursion (λ g. key_in g key ≡ false) gs → HasKey (h ∷ gs) key ⊎ AllByRecursion (λ g. key_in g key ≡ false) (h ∷ gs)
    by true here rest = inl (record { group = h; among = ap (λ b. b || is_among gs h) (same-itself h); here = here })
    by false other (inl has) = inl (record { group = has.group; among = ap (λ b. is_same_group has.group h || b) has.among ∙ or_true (is_same_group has.group h); here = has.here })
    by false other (inr none) = inr (other, none)

-- what holds of each group holds of those among them
of_among : (P : GroupRef → Type 0) (gs : List GroupRef) (g : GroupRef) → AllByRecursion P gs → is_among gs g ≡ true → P g
of_among P [] g all among = cc
of_among P (h ∷ gs) g all among = by (is_same_group g h) refl (λ rest. of_among P gs g all.1 rest)
  where
    by : (b : Bool) → is_same_group g h ≡ b → (is_among gs g ≡ true → P g) → P g
    by true same later = subst P (sym (same-is g h same)) all.0
    by false other later = later (or_rest (is_same_group g h) (is_among gs g) other among)

-- ---- the tables that they leave

pub groups_fold : (form : BlockForm) (times : List ℕ) (A : Table) (bs : List PlacedBlock) (gs : List GroupRef) → IsBuckets A.props.buckets → AllWriteBlocks form bs → AllByRecursion (λ b. IsOwn A b.to) bs
    → AllByRecursion (λ g. is_live A g ≡ true) gs → IsStrictlySortedBy group_cmp gs → AllByRecursion (λ b. is_among gs b.to.group ≡ true) bs
    → table_after_all empty (flat_map (λ g. flat_map (counted form times) (gone_to (target_of_group g) bs)) gs) ≡ table_after_all empty (flat_map (counted form times) bs)
groups_fold form times A bs gs fit rows own lives sorted seen =
    same_table _ _ (λ key.
    get-table_after_all empty (flat_map (λ g. flat_map (counted form times) (gone_to (target_of_group g) bs)) gs) key
    ∙ ap (row_after_all _) (first key ∙ same key (find_group gs key) ∙ sym (second key))
    ∙ sym (get-table_after_all empty (flat_map (counted form times) bs) key))
  where
    first : (key : Key) → writes_to key (flat_map (λ g. flat_map (counted form times) (gone_to (target_of_group g) bs)) gs)
        ≡ flat_map (λ g. flat_map (found form times key) (gone_to (target_of_group g) bs)) gs
    first key =
        filter-flat_map _ (λ g. flat_map (counted form times) (gone_to (target_of_group g) bs)) gs
        ∙ flat-same (λ g. writes_to key (flat_map (counted form times) (gone_to (target_of_group g) bs))) (λ g. flat_map (found form times key) (gone_to (target_of_group g) bs)) gs
        (λ g. filter-flat_map _ (counted form times) (gone_to (target_of_group g) bs))

    second : (key : Key) → writes_to key (flat_map (counted form times) bs) ≡ flat_map (found form times key) bs
    second key = filter-flat_map _ (counted form times) bs

    others : (key : Key) (cs : List PlacedBlock) → AllByRecursion (λ g. key_in g key ≡ false) gs → AllByRecursion (λ b. is_among gs b.to.group ≡ true) cs
        → AllByRecursion (λ b. key_in b.to.group key ≡ false) cs
    others key [] none seen = tt
    others key (b ∷ cs) none seen = (of_among (λ g. key_in g key ≡ false) gs b.to.group none seen.0, others key cs none seen.1)

    same : (key : Key) → HasKey gs key ⊎ AllByRecursion (λ g. key_in g key ≡ false) gs
        → flat_map (λ g. flat_map (found form times key) (gone_to (target_of_group g) bs)) gs ≡ flat_map (found form times key) bs
    same key (inl has) =
        let live = of_among (λ g. is_live A g ≡ true) gs has.group lives has.among in
        groups_one form times key A fit bs rows gs has.group lives sorted has.among live has.here
        ∙ sym (in_one form times key A fit has.group bs rows own live has.here)
    same key (inr none) =
        groups_none form times key A fit bs rows gs none ∙ sym (blocks_none form times key bs rows (others key bs none seen))

-- ---- the groups of placed blocks have files

any_gone : List PlacedBlock → Target → Bool
any_gone bs s = list_any (λ b. is_target b.to s) bs

each_gone : (P : Target → Type 0) (bs : List PlacedBlock) → ((s : Target) → any_gone bs s ≡ true → P s) → AllByRecursion (λ b. P b.to) bs
unfolding any_gone
each_gone P [] each = tt
each_gone P (b ∷ bs) each =
    (each b.to (ap (λ c. c || any_gone bs b.to) (itself_target b.to)), each_gone P bs (λ s any. each s (ap (λ c. is_target b.to s || c) any ∙ or_true (is_target b.to s))))

gone_any : (bs : List PlacedBlock) (s : Target) → gone_to s bs ≡ [] → any_gone bs s ≡ false
unfolding any_gone
gone_any [] s none = refl
gone_any (b ∷ bs) s none = by (is_target b.to s) refl none (gone_any bs s)
  where
    no_block : {x : PlacedBlock} {xs : List PlacedBlock} → x ∷ xs ≡ [] → ⊥
    no_block e = cc

    by : (c : Bool) → is_target b.to s ≡ c → cond c (b ∷ gone_to s bs) (gone_to s bs) ≡ [] → (gone_to s bs ≡ [] → any_gone bs s ≡ false) → (is_target b.to s || any_gone bs s) ≡ false
    by true same none later = absurd (no_block none)
    by false other none later = ap (λ c. c || any_gone bs s) other ∙ later none

no_texts : (A : Table) (s : Target) (fs : List KnownFile) (logs : List LogFile) (bss : List (List PlacedBlock)) → logs ≡ [] → AreTexts A s fs logs bss → bss ≡ []
no_texts A s fs [] [] none texts = refl
no_texts A s fs [] (bs ∷ rest) none texts = absurd texts
no_texts A s fs (log ∷ logs) bss none texts = cc

some_logs : (A : Table) (H : History) (s : Target) → IsChained A H s → any_gone (placed A H) s ≡ true → nat_lt 0 (length (logs_of A H s)) ≡ true
some_logs A H s chained any = by (logs_of A H s) refl
  where
    by : (logs : List LogFile) → logs_of A H s ≡ logs → nat_lt 0 (length logs) ≡ true
    by [] none =
        let no_chain : chain A H s ≡ [] = no_texts A s (files_of A H) (logs_of A H s) (chain A H s) none chained.texts in
        let no_gone : gone_to s (placed A H) ≡ [] = sym (chain_is_placed A H s) ∙ ap (λ bss. joined (reverse bss)) no_chain in
        absurd (not_both (sym any ∙ gone_any (placed A H) s no_gone))
    by (log ∷ more) is = grind (arith, nat_tests)

pub placed_seen : (A : Table) (H : History) (t : ℕ) (gs : List GroupRef) → AreLive A (has_files A H t false) gs → ((s : Target) → IsChained A H s) → AllByRecursion (λ b. IsOwn A b.to) (placed A H)
    → AllByRecursion (λ b. is_among gs b.to.group ≡ true) (placed A H)
placed_seen A H t gs live chained own = seen (placed A H) own (each_gone (λ s. nat_lt 0 (length (logs_of A H s)) ≡ true) (placed A H) (λ s any. some_logs A H s (chained s) any))
  where
    long : (s : Target) → nat_lt 0 (length (logs_of A H s)) ≡ true → nat_lt 0 (length (map (part_of A s) (reverse (logs_of A H s)))) ≡ true
    long s some = ap (nat_lt 0) (length-map (reverse (logs_of A H s)) (part_of A s) ∙ length-reverse (logs_of A H s)) ∙ some

    one : (s : Target) → IsOwn A s → nat_lt 0 (length (logs_of A H s)) ≡ true → is_among gs s.group ≡ true
    one s own some =
        live.are s.group ∙ ap (λ b. b && has_files A H t false s.group) own.live
        ∙ ap (λ r. nat_lt 0 (length (map (part_of A r) (reverse (logs_of A H r))))) (sym own.slice) ∙ long s some

    seen : (bs : List PlacedBlock) → AllByRecursion (λ b. IsOwn A b.to) bs → AllByRecursion (λ b. nat_lt 0 (length (logs_of A H b.to)) ≡ true) bs → AllByRecursion (λ b. is_among gs b.to.group ≡ true) bs
    seen [] own some = tt
    seen (b ∷ bs) own some = (one b.to own.0 some.0, seen bs own.1 some.1)
