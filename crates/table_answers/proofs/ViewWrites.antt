-- What the bytes of a view's files hold: the writes of the placed blocks that count, in their order.
use Rattle.std.proofs.Common.{◌≡◌, ◌⊎◌, inl, inr, ◌+◌, ℕ, zero, suc, Bool, true, false, cond, List, [], ◌∷◌, ◌++◌, map, length, Option, Some, None, Ok, slice_get, refl, sym, ap, subst, ◌∙◌, arith, zero-add}
use Rattle.std.specs.Prelude.{IfOk, reverse}
use Rattle.std.specs.List.{AllByRecursion, flat_map}
use Rattle.std.proofs.lemmas.List.{reverse-append}
use Rattle.table_history.specs.Histories.{History}
use Rattle.table_history.specs.Logs.{bytes_in, files_of, logs_of}
use Rattle.table_history.specs.Pins.{ArePartsAt, IsView, chain_at, part_at, part_of}
use Rattle.table_history.specs.Tables.{KnownFile, Table}
use Rattle.table_history.specs.Targets.{is_target, target_of_group}
use Rattle.hudi_base.specs.declared.file_group.GroupRef.{GroupRef}
use Rattle.hudi_base.specs.declared.file_group.Target.{Target}
use Rattle.table_images.proofs.WhereTo.{one_target}
use Rattle.table_history.specs.declared.log_file.LogFile.{LogFile}
use Rattle.table_history.specs.declared.view.GroupParts.{GroupParts}
use Rattle.table_history.specs.declared.view.Part.{Part}
use Rattle.table_history.specs.declared.view.View.{View}
use Rattle.table_query.specs.Answers.{AreReadInTurn}
use Rattle.table_query.specs.GroupReading.{TableReading, files_in, followed_by, group_writes, writes_in}
use Rattle.table_query.specs.GroupReading as query
use Rattle.payload_merge.specs.declared.row.Write.{Write}
use Rattle.upsert_writer.specs.Blocks.{BlockForm}
use Rattle.table_answers.proofs.LogTexts.{AreTexts, IsChained, IsText}
use Rattle.table_answers.proofs.Placed.{PlacedBlock, chain, chain_is_placed, gone_to, joined, placed}
use Rattle.table_answers.proofs.WriteBlocks.{AllWriteBlocks, IsWriteBlock}
use Rattle.table_answers.proofs.Scans.{AllLogBlocks, logs_read, logs_written, part_logs}
use Rattle.table_answers.proofs.Writes.{counted}

-- ---- the other way round

texts_more : (A : Table) (s : Target) (fs : List KnownFile) (logs : List LogFile) (bss : List (List PlacedBlock)) (log : LogFile) (bs : List PlacedBlock) → AreTexts A s fs logs bss → IsText A s fs log bs
    → AreTexts A s fs (logs ++ log ∷ []) (bss ++ bs ∷ [])
texts_more A s fs [] [] log bs texts text = (text, tt)
texts_more A s fs [] (cs ∷ rest) log bs texts text = absurd texts
texts_more A s fs (l ∷ logs) [] log bs texts text = absurd texts
texts_more A s fs (l ∷ logs) (cs ∷ rest) log bs texts text = (texts.0, texts_more A s fs logs rest log bs texts.1 text)

texts_reversed : (A : Table) (s : Target) (fs : List KnownFile) (logs : List LogFile) (bss : List (List PlacedBlock)) → AreTexts A s fs logs bss → AreTexts A s fs (reverse logs) (reverse bss)
texts_reversed A s fs [] [] texts = tt
texts_reversed A s fs [] (bs ∷ rest) texts = absurd texts
texts_reversed A s fs (log ∷ logs) [] texts = absurd texts
texts_reversed A s fs (log ∷ logs) (bs ∷ rest) texts =
    subst (λ ls. AreTexts A s fs ls (reverse (bs ∷ rest))) (sym (reverse-append (log ∷ []) logs))
    (subst (AreTexts A s fs (reverse logs ++ log ∷ [])) (sym (reverse-append (bs ∷ []) rest)) (texts_more A s fs (reverse logs) (reverse rest) log bs (texts_reversed A s fs logs rest texts.1) texts.0))

front_of : {X : Type 0} (P : X → Type 0) (xs ys : List X) → AllByRecursion P (xs ++ ys) → AllByRecursion P xs
front_of P [] ys all = tt
front_of P (x ∷ xs) ys all = (all.0, front_of P xs ys all.1)

back_of : {X : Type 0} (P : X → Type 0) (xs ys : List X) → AllByRecursion P (xs ++ ys) → AllByRecursion P ys
back_of P [] ys all = all
back_of P (x ∷ xs) ys all = back_of P xs ys all.1

all_logs : (form : BlockForm) (s : Target) (bss : List (List PlacedBlock)) → AllByRecursion (IsWriteBlock form s) (joined bss) → AllLogBlocks form s bss
all_logs form s [] all = tt
all_logs form s (bs ∷ rest) all = (front_of (IsWriteBlock form s) bs (joined rest) all, all_logs form s rest (back_of (IsWriteBlock form s) bs (joined rest) all))

-- ---- places

get_front : {X : Type 0} (xs ys : List X) (k : ℕ) (x : X) → slice_get xs k ≡ Some x → slice_get (xs ++ ys) k ≡ Some x
get_front [] ys k x is = let wrong : None ≡ Some x = is in cc
get_front (y ∷ xs) ys zero x is = is
get_front (y ∷ xs) ys (suc k) x is = get_front xs ys k x is

get_back : {X : Type 0} (xs ys : List X) (k : ℕ) (x : X) → slice_get ys k ≡ Some x → slice_get (xs ++ ys) (length xs + k) ≡ Some x
get_back [] ys k x is = ap (slice_get ys) (zero-add k) ∙ is
get_back (y ∷ xs) ys k x is = ap (slice_get (y ∷ (xs ++ ys))) (next (length xs) k) ∙ get_back xs ys k x is
  where
    next : (m k : ℕ) → suc m + k ≡ suc (m + k)
    next m k = omega arith

get_either : {X : Type 0} (xs ys : List X) (k : ℕ) (x : X) → slice_get (xs ++ ys) k ≡ Some x → (slice_get xs k ≡ Some x) ⊎ ((n : ℕ) × (slice_get ys n ≡ Some x))
get_either [] ys k x is = inr (k, is)
get_either (y ∷ xs) ys zero x is = inl is
get_either (y ∷ xs) ys (suc k) x is = get_either xs ys k x is

get_parted : {X : Type 0} (xs ys : List X) (k : ℕ) (x : X) → slice_get (xs ++ ys) k ≡ Some x → (slice_get xs k ≡ Some x) ⊎ ((n : ℕ) × (k ≡ length xs + n) × (slice_get ys n ≡ Some x))
get_parted [] ys k x is = inr (k, sym (zero-add k), is)
get_parted (y ∷ xs) ys zero x is = inl is
get_parted (y ∷ xs) ys (suc k) x is = further (get_parted xs ys k x is)
  where
    next : (n m j : ℕ) → n ≡ m + j → suc n ≡ suc m + j
    next n m j e = omega (arith, e)

    further : (slice_get xs k ≡ Some x) ⊎ ((n : ℕ) × (k ≡ length xs + n) × (slice_get ys n ≡ Some x))
        → (slice_get (y ∷ xs) (suc k) ≡ Some x) ⊎ ((n : ℕ) × (suc k ≡ length (y ∷ xs) + n) × (slice_get ys n ≡ Some x))
    further (inl at) = inl at
    further (inr (n, e, at)) = inr (n, next k (length xs) n e, at)

-- ---- the parts

parts_long : (A : Table) (s : Target) (fs : List KnownFile) (logs : List LogFile) (bss : List (List PlacedBlock)) → AreTexts A s fs logs bss → (k : ℕ) (part : Part) → slice_get (map (part_of A s) logs) k ≡ Some part
    → length (bytes_in fs part.name) ≡ part.length
parts_long A s fs [] bss texts k part is = let wrong : None ≡ Some part = is in cc
parts_long A s fs (log ∷ logs) [] texts k part is = absurd texts
parts_long A s fs (log ∷ logs) (bs ∷ rest) texts zero part is =
    let there : Some (part_of A s log) ≡ Some part = is in
    let same : part_of A s log ≡ part = cc in
    subst (λ (p : Part). length (bytes_in fs p.name) ≡ p.length) same (ap length texts.0.bytes ∙ sym texts.0.long)
parts_long A s fs (log ∷ logs) (bs ∷ rest) texts (suc k) part is = parts_long A s fs logs rest texts.1 k part is

gone_rows : (form : BlockForm) (s : Target) (bs : List PlacedBlock) → AllWriteBlocks form bs → AllByRecursion (IsWriteBlock form s) (gone_to s bs)
gone_rows form s [] rows = tt
gone_rows form s (b ∷ bs) rows = by (is_target b.to s) refl (gone_rows form s bs rows.1)
  where
    by : (c : Bool) → is_target b.to s ≡ c → AllByRecursion (IsWriteBlock form s) (gone_to s bs) → AllByRecursion (IsWriteBlock form s) (cond c (b ∷ gone_to s bs) (gone_to s bs))
    by true same rest = (subst (λ r. IsWriteBlock form r b) (one_target b.to s same) rows.0, rest)
    by false other rest = rest

module _ (form : BlockForm) (A : Table) (H : History) (chained : (s : Target) → IsChained A H s) (rows : AllWriteBlocks form (placed A H)) where
  abbrev logs_to : Target → List LogFile
  logs_to s = reverse (logs_of A H s)

  abbrev blocks_to : Target → List (List PlacedBlock)
  blocks_to s = reverse (chain A H s)

  texts : (s : Target) → AreTexts A s (files_of A H) (logs_to s) (blocks_to s)
  texts s = texts_reversed A s (files_of A H) (logs_of A H s) (chain A H s) (chained s).texts

  all : (s : Target) → AllLogBlocks form s (blocks_to s)
  all s = all_logs form s (blocks_to s) (subst (AllByRecursion (IsWriteBlock form s)) (sym (chain_is_placed A H s)) (gone_rows form s (placed A H) rows))

  abbrev parts_to : Target → List Part
  parts_to s = map (part_of A s) (logs_to s)

  abbrev pub with_parts : ℕ → GroupRef → GroupParts
  with_parts t group = record { group = group; parts = chain_at A H group t false }

  abbrev parts_of : List GroupParts → List Part
  parts_of groups = flat_map (λ (g : GroupParts). g.parts) groups

  groups_long : (t : ℕ) (gs : List GroupRef) (k : ℕ) (part : Part) → slice_get (parts_of (map (with_parts t) gs)) k ≡ Some part → length (bytes_in (files_of A H) part.name) ≡ part.length
  groups_long t [] k part is = let wrong : None ≡ Some part = is in cc
  groups_long t (g ∷ gs) k part is =
      by (get_either (parts_to (target_of_group g)) (parts_of (map (with_parts t) gs)) k part is) (λ n there. groups_long t gs n part there)
    where
      by : (slice_get (parts_to (target_of_group g)) k ≡ Some part) ⊎ ((n : ℕ) × (slice_get (parts_of (map (with_parts t) gs)) n ≡ Some part))
          → ((n : ℕ) → slice_get (parts_of (map (with_parts t) gs)) n ≡ Some part → length (bytes_in (files_of A H) part.name) ≡ part.length) → length (bytes_in (files_of A H) part.name) ≡ part.length
      by (inl here) later = parts_long A (target_of_group g) (files_of A H) (logs_to (target_of_group g)) (blocks_to (target_of_group g)) (texts (target_of_group g)) k part here
      by (inr there) later = later there.0 there.1

  pub view_long : (at : Option ℕ) (view : View) → IsView A H at false view → (k : ℕ) (part : Part) → part_at view k ≡ Some part → length (bytes_in (files_of A H) part.name) ≡ part.length
  view_long at view is k part there = by view.t view.groups is.groups there
    where
      by : (time : Option ℕ) (groups : List GroupParts) → ArePartsAt A H time false groups → slice_get (parts_of groups) k ≡ Some part → length (bytes_in (files_of A H) part.name) ≡ part.length
      by None groups none there = let wrong : None ≡ Some part = sym (ap (λ (gs : List GroupParts). slice_get (parts_of gs) k) none) ∙ there in cc
      by (Some t) groups are there = groups_long t are.groups k part (sym (ap (λ (gs : List GroupParts). slice_get (parts_of gs) k) are.are) ∙ there)

  abbrev reading : TableReading
  reading = record { rows = form.reading; table = form.table }

  -- the writes of groups, group by group
  abbrev pub writes_by_group : List ℕ → List GroupRef → List Write
  writes_by_group times gs = flat_map (λ g. flat_map (counted form times) (gone_to (target_of_group g) (placed A H))) gs

  -- the writes that the bytes of a group hold
  group_written : (times : List ℕ) (t : ℕ) (bytes : ℕ → List ℕ) (n : ℕ) (g : GroupRef)
      → ((k : ℕ) (part : Part) → slice_get (parts_to (target_of_group g)) k ≡ Some part → bytes (n + k) ≡ bytes_in (files_of A H) part.name)
      → group_writes reading times bytes n (with_parts t g) ≡ Ok (flat_map (counted form times) (gone_to (target_of_group g) (placed A H)))
  group_written times t bytes n g are =
      let s : Target = target_of_group g in
      let read : query.logs_of bytes n (parts_to s) ≡ Ok (part_logs form s A (logs_to s) (blocks_to s) (all s)) =
      logs_read form s A (files_of A H) bytes n (logs_to s) (blocks_to s) (all s) (texts s) are in
      ap (writes_in reading times g) read ∙ logs_written form s A times (logs_to s) (blocks_to s) (all s) (files_of A H) (texts s)
      ∙ ap (λ bs. Ok (flat_map (counted form times) bs)) (chain_is_placed A H s)

  -- the writes that the bytes of groups hold
  pub groups_written : (times : List ℕ) (t : ℕ) (bytes : ℕ → List ℕ) (n : ℕ) (gs : List GroupRef)
      → ((k : ℕ) (part : Part) → slice_get (parts_of (map (with_parts t) gs)) k ≡ Some part → bytes (n + k) ≡ bytes_in (files_of A H) part.name)
      → query.all_from files_in (group_writes reading times bytes) n (map (with_parts t) gs) ≡ Ok (writes_by_group times gs)
  groups_written times t bytes n [] are = refl
  groups_written times t bytes n (g ∷ gs) are =
      let s : Target = target_of_group g in
      let rest : List Part = parts_of (map (with_parts t) gs) in
      let written = group_written times t bytes n g (λ k part there. are k part (get_front (parts_to s) rest k part there)) in
      let later = groups_written times t bytes (n + length (parts_to s)) gs (λ k part there. ap bytes (along n (length (parts_to s)) k) ∙ are (length (parts_to s) + k) part (get_back (parts_to s) rest k part there)) in
      ap (λ found. followed_by found (query.all_from files_in (group_writes reading times bytes) (n + length (parts_to s)) (map (with_parts t) gs))) written
      ∙ ap (followed_by (Ok (flat_map (counted form times) (gone_to s (placed A H))))) later
    where
      along : (n m k : ℕ) → (n + m) + k ≡ n + (m + k)
      along n m k = omega arith

  -- Groups that are read in turn are all read where what was read of a file to its end is the file: each has a reading.
  pub groups_are_read : (times : List ℕ) (t : ℕ) (bytes : ℕ → List ℕ) (n : ℕ) (gs : List GroupRef)
      → ((k : ℕ) (part : Part) → slice_get (parts_of (map (with_parts t) gs)) k ≡ Some part → length (bytes (n + k)) ≡ part.length → bytes (n + k) ≡ bytes_in (files_of A H) part.name)
      → AreReadInTurn reading times bytes n (map (with_parts t) gs)
      → (k : ℕ) (part : Part) → slice_get (parts_of (map (with_parts t) gs)) k ≡ Some part → bytes (n + k) ≡ bytes_in (files_of A H) part.name
  groups_are_read times t bytes n [] whole read k part there = let wrong : None ≡ Some part = there in cc
  groups_are_read times t bytes n (g ∷ gs) whole read k part there =
      by (get_parted first rest k part there) (λ j at. groups_are_read times t bytes (n + length first) gs behind later j part at)
    where
      first : List Part
      first = parts_to (target_of_group g)

      rest : List Part
      rest = parts_of (map (with_parts t) gs)

      along : (n m k : ℕ) → (n + m) + k ≡ n + (m + k)
      along n m k = omega arith

      here : (j : ℕ) (p : Part) → slice_get first j ≡ Some p → bytes (n + j) ≡ bytes_in (files_of A H) p.name
      here j p at = whole j p (get_front first rest j p at) (read.0 j p at)

      later : AreReadInTurn reading times bytes (n + length first) (map (with_parts t) gs)
      later = subst (λ found. IfOk found (λ writes. AreReadInTurn reading times bytes (n + length first) (map (with_parts t) gs))) (group_written times t bytes n g here) read.1

      behind : (j : ℕ) (p : Part) → slice_get rest j ≡ Some p → length (bytes ((n + length first) + j)) ≡ p.length → bytes ((n + length first) + j) ≡ bytes_in (files_of A H) p.name
      behind j p at long =
          ap bytes (along n (length first) j) ∙ whole (length first + j) p (get_back first rest j p at) (ap (λ m. length (bytes m)) (sym (along n (length first) j)) ∙ long)

      by : (slice_get first k ≡ Some part) ⊎ ((j : ℕ) × (k ≡ length first + j) × (slice_get rest j ≡ Some part))
          → ((j : ℕ) → slice_get rest j ≡ Some part → bytes ((n + length first) + j) ≡ bytes_in (files_of A H) part.name) → bytes (n + k) ≡ bytes_in (files_of A H) part.name
      by (inl at) others = here k part at
      by (inr (j, is, at)) others = ap (λ m. bytes (n + m)) is ∙ ap bytes (sym (along n (length first) j)) ∙ others j at
