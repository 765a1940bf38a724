-- Groups of a view that are read one after another: what their bytes hold, and which of them were read.
use Rattle.std.proofs.Common.{◌≡◌, ◌<◌, ◌≤◌, ◌+◌, ℕ, zero, suc, List, [], ◌∷◌, ◌++◌, length, map, take, get_or, Some, None, Result, Ok, Err, refl, sym, ap, subst, ◌∙◌, arith, zero-add}
use Rattle.std.specs.Prelude.{IfErr, IfOk, slice_get}
use Rattle.std.specs.List.{flat_map}
use Rattle.std.proofs.lemmas.Option.{slice_get_within}
use Rattle.payload_merge.specs.declared.row.Write.{Write}
use Rattle.table_history.specs.declared.entry.Entry.{Entry}
use Rattle.table_history.specs.declared.view.GroupParts.{GroupParts}
use Rattle.table_history.specs.declared.view.Part.{Part}
use Rattle.table_query.specs.Answers.{AreReadInTurn, StopsAtDamage}
use Rattle.table_query.specs.GroupReading.{Damage, TableReading, all_from, files_in, followed_by, group_writes, log_of, logs_of, writes_in}
use Rattle.table_query.specs.ReadBytes.{IsReadWhole, ReadsBefore, bytes_read}
use Rattle.table_query.proofs.Following.{sizes}
use Rattle.table_query.proofs.NextFiles.{reads_more}

-- ---- places

pub get_front : {X : Type 0} (xs ys : List X) (k : ℕ) (x : X) → slice_get xs k ≡ Some x → slice_get (xs ++ ys) k ≡ Some x
get_front [] ys k x is = let wrong : None ≡ Some x = is in cc
get_front (y ∷ xs) ys zero x is = is
get_front (y ∷ xs) ys (suc k) x is = get_front xs ys k x is

pub get_back : {X : Type 0} (xs ys : List X) (k : ℕ) (x : X) → slice_get ys k ≡ Some x → slice_get (xs ++ ys) (length xs + k) ≡ Some x
get_back [] ys k x is = ap (slice_get ys) (zero-add k) ∙ is
get_back (y ∷ xs) ys k x is = ap (slice_get (y ∷ (xs ++ ys))) (next (length xs) k) ∙ get_back xs ys k x is
  where
    next : (m k : ℕ) → suc m + k ≡ suc (m + k)
    next m k = omega arith

size_at : (parts : List Part) (k : ℕ) (part : Part) → slice_get parts k ≡ Some part → get_or (map (λ p. p.length) parts) k 0 ≡ part.length
size_at [] k part there = let wrong : None ≡ Some part = there in cc
size_at (p ∷ parts) zero part there = let same : p ≡ part = (let e : Some p ≡ Some part = there in cc) in ap (λ (q : Part). q.length) same
size_at (p ∷ parts) (suc k) part there = size_at parts k part there

-- files that were read to their ends, by the sizes of all
pub whole_files : (bytes : ℕ → List ℕ) (number : ℕ) (all : List ℕ) (parts : List Part) → all ≡ map (λ part. part.length) parts → ((k : ℕ) → k < number → length (bytes k) ≡ get_or all k 0)
    → (k : ℕ) (part : Part) → slice_get parts k ≡ Some part → k < number → length (bytes k) ≡ part.length
whole_files bytes number all parts sized whole k part there below = whole k below ∙ ap (λ (ns : List ℕ). get_or ns k 0) sized ∙ size_at parts k part there

-- ---- bytes that are alike

logs_alike : (a b : ℕ → List ℕ) (m n : ℕ) (parts : List Part) → ((k : ℕ) → k < length parts → a (m + k) ≡ b (n + k)) → logs_of a m parts ≡ logs_of b n parts
logs_alike a b m n [] same = refl
logs_alike a b m n (part ∷ parts) same =
    let here : a m ≡ b n = ap a (at_once m) ∙ same 0 (omega arith) ∙ ap b (sym (at_once n)) in
    ap (λ (text : List ℕ). followed_by (log_of part text) (logs_of a (m + 1) parts)) here
    ∙ ap (followed_by (log_of part (b n))) (logs_alike a b (m + 1) (n + 1) parts (λ k below. ap a (along m k) ∙ same (k + 1) (omega (arith, below)) ∙ ap b (sym (along n k))))
  where
    at_once : (n : ℕ) → n ≡ n + 0
    at_once n = omega arith

    along : (n k : ℕ) → (n + 1) + k ≡ n + (k + 1)
    along n k = omega arith

module _ (reading : TableReading) (completed : List ℕ) where
  pub group_alike : (a b : ℕ → List ℕ) (m n : ℕ) (g : GroupParts) → ((k : ℕ) → k < files_in g → a (m + k) ≡ b (n + k)) → group_writes reading completed a m g ≡ group_writes reading completed b n g
  group_alike a b m n g same = ap (writes_in reading completed g.group) (logs_alike a b m n g.parts same)

  pub groups_alike : (a b : ℕ → List ℕ) (n : ℕ) (gs : List GroupParts) → ((k : ℕ) → k < n + sizes files_in gs → a k ≡ b k)
      → all_from files_in (group_writes reading completed a) n gs ≡ all_from files_in (group_writes reading completed b) n gs
  groups_alike a b n [] same = refl
  groups_alike a b n (g ∷ gs) same =
      ap (λ (r : Result (List Write) Damage). followed_by r (all_from files_in (group_writes reading completed a) (n + files_in g) gs)) (group_alike a b n n g (λ k below. same (n + k) (omega (arith, below))))
      ∙ ap (followed_by (group_writes reading completed b n g)) (groups_alike a b (n + files_in g) gs (λ k below. same k (omega (arith, below))))

-- ---- groups that were read in turn

any_ok : {A E : Type 0} (r : Result A E) (P : Type 0) → P → IfOk r (λ x. P)
any_ok (Ok x) P holds = holds
any_ok (Err e) P holds = tt

any_err : {A E : Type 0} (r : Result A E) (P : Type 0) → P → IfErr r (λ e. P)
any_err (Ok x) P holds = tt
any_err (Err e) P holds = holds

later_err : {B E : Type 0} (xs : List B) (r : Result (List B) E) (e : E) → followed_by (Ok xs) r ≡ Err e → r ≡ Err e
later_err xs (Ok ys) e is = cc
later_err xs (Err d) e is = is

later_ok : {B E : Type 0} (xs ws : List B) (r : Result (List B) E) → followed_by (Ok xs) r ≡ Ok ws → (ys : List B) × (r ≡ Ok ys)
later_ok xs ws (Ok ys) is = (ys, refl)
later_ok xs ws (Err e) is = cc

-- the parts of groups
abbrev pub parts_of : List GroupParts → List Part
parts_of gs = flat_map (λ g. g.parts) gs

module _ (reading : TableReading) (completed : List ℕ) (bytes : ℕ → List ℕ) where
  abbrev gives : ℕ → GroupParts → Result (List Write) Damage
  gives = group_writes reading completed bytes

  -- the groups' files, which are numbered from the second number on, were read to their ends up to the first number
  abbrev pub AreWholeUpTo : ℕ → ℕ → List GroupParts → Type 0
  AreWholeUpTo last first gs = (k : ℕ) (part : Part) → slice_get (parts_of gs) k ≡ Some part → first + k < last → length (bytes (first + k)) ≡ part.length

  first_whole : (last first : ℕ) (g : GroupParts) (gs : List GroupParts) → AreWholeUpTo last first (g ∷ gs) → first + files_in g ≤ last → IsReadWhole bytes first g.parts
  first_whole last first g gs whole le k part there =
      let below = slice_get_within g.parts k part there in
      whole k part (get_front g.parts (parts_of gs) k part there) (omega (arith, below, le))

  later_whole : (last first : ℕ) (g : GroupParts) (gs : List GroupParts) → AreWholeUpTo last first (g ∷ gs) → AreWholeUpTo last (first + files_in g) gs
  later_whole last first g gs whole k part there below =
      let P : ℕ → Type 0 = λ n. length (bytes n) ≡ part.length in
      let along : first + (files_in g + k) ≡ (first + files_in g) + k = omega arith in
      subst P along (whole (files_in g + k) part (get_back g.parts (parts_of gs) k part there) (omega (arith, below)))

  pub all_in_turn : (last first : ℕ) (gs : List GroupParts) → AreWholeUpTo last first gs → first + sizes files_in gs ≤ last → AreReadInTurn reading completed bytes first gs
  all_in_turn last first [] whole le = tt
  all_in_turn last first (g ∷ gs) whole le = (
    first_whole last first g gs whole (omega (arith, le)),
    any_ok (gives first g) (AreReadInTurn reading completed bytes (first + files_in g) gs) (all_in_turn last (first + files_in g) gs (later_whole last first g gs whole) (omega (arith, le))),
  )

  -- those up to one that has no reading
  pub damage_in_turn : (n last first : ℕ) (gs : List GroupParts) (d : Damage) → AreWholeUpTo last first gs → first + sizes files_in (take n gs) ≤ last → all_from files_in gives first (take n gs) ≡ Err d
      → AreReadInTurn reading completed bytes first gs
  damage_in_turn zero last first gs d whole le wrong = absurd (let e : Ok [] ≡ Err d = wrong in cc)
  damage_in_turn (suc n) last first [] d whole le wrong = tt
  damage_in_turn (suc n) last first (g ∷ gs) d whole le wrong = (
    first_whole last first g gs whole (omega (arith, le)),
    by (gives first g) wrong (λ later. damage_in_turn n last (first + files_in g) gs d (later_whole last first g gs whole) (omega (arith, le)) later),
  )
    where
      by : (r : Result (List Write) Damage) → followed_by r (all_from files_in gives (first + files_in g) (take n gs)) ≡ Err d
          → (all_from files_in gives (first + files_in g) (take n gs) ≡ Err d → AreReadInTurn reading completed bytes (first + files_in g) gs)
          → IfOk r (λ writes. AreReadInTurn reading completed bytes (first + files_in g) gs)
      by (Ok ws) is later = later (later_err ws (all_from files_in gives (first + files_in g) (take n gs)) d is)
      by (Err e) is later = tt

-- ---- groups that were not

module _ (reading : TableReading) (completed : List ℕ) (mine : List Entry) where
  abbrev found : ℕ → GroupParts → Result (List Write) Damage
  found = group_writes reading completed (bytes_read mine)

  -- all of them lie behind what was read
  pub all_behind : (m first : ℕ) (gs : List GroupParts) → m ≤ first → ReadsBefore m mine → StopsAtDamage reading completed mine first gs
  all_behind m first [] le before = tt
  all_behind m first (g ∷ gs) le before = (
    any_err (found first g) (ReadsBefore (first + files_in g) mine) (reads_more m (first + files_in g) mine (omega (arith, le)) before),
    all_behind m (first + files_in g) gs (omega (arith, le)) before,
  )

  -- the first ones have readings, and nothing behind the next one was read
  pub stops_at : (i m first : ℕ) (gs : List GroupParts) (ws : List Write) → m ≤ first + sizes files_in (take (suc i) gs) → ReadsBefore m mine → all_from files_in found first (take i gs) ≡ Ok ws
      → StopsAtDamage reading completed mine first gs
  stops_at i m first [] ws le before ok = tt
  stops_at zero m first (g ∷ gs) ws le before ok = (
    any_err (found first g) (ReadsBefore (first + files_in g) mine) (reads_more m (first + files_in g) mine (omega (arith, le)) before),
    all_behind m (first + files_in g) gs (omega (arith, le)) before,
  )
  stops_at (suc i) m first (g ∷ gs) ws le before ok = by (found first g) ok (λ vs later. stops_at i m (first + files_in g) gs vs (omega (arith, le)) before later)
    where
      by : (r : Result (List Write) Damage) → followed_by r (all_from files_in found (first + files_in g) (take i gs)) ≡ Ok ws
          → ((vs : List Write) → all_from files_in found (first + files_in g) (take i gs) ≡ Ok vs → StopsAtDamage reading completed mine (first + files_in g) gs)
          → IfErr r (λ damage. ReadsBefore (first + files_in g) mine) × StopsAtDamage reading completed mine (first + files_in g) gs
      by (Ok xs) is later = let rest = later_ok xs ws (all_from files_in found (first + files_in g) (take i gs)) is in (tt, later rest.0 rest.1)
      by (Err e) is later = absurd (let w : Err e ≡ Ok ws = is in cc)

-- the same entries, and others that read nothing
pub still_stops : (reading : TableReading) (completed : List ℕ) (before after : List Entry) (first : ℕ) (gs : List GroupParts) → ((k : ℕ) → bytes_read after k ≡ bytes_read before k)
    → ((n : ℕ) → ReadsBefore n before → ReadsBefore n after) → StopsAtDamage reading completed before first gs → StopsAtDamage reading completed after first gs
still_stops reading completed before after first [] same front stops = tt
still_stops reading completed before after first (g ∷ gs) same front stops = (
  by (group_writes reading completed (bytes_read before) first g) (group_writes reading completed (bytes_read after) first g)
      (group_alike reading completed (bytes_read after) (bytes_read before) first first g (λ k below. same (first + k))) stops.0,
  still_stops reading completed before after (first + files_in g) gs same front stops.1,
)
  where
    by : (r s : Result (List Write) Damage) → s ≡ r → IfErr r (λ damage. ReadsBefore (first + files_in g) before) → IfErr s (λ damage. ReadsBefore (first + files_in g) after)
    by (Ok ws) s is at = let P : Result (List Write) Damage → Type 0 = λ x. IfErr x (λ damage. ReadsBefore (first + files_in g) after) in subst P (sym is) tt
    by (Err d) s is at = let P : Result (List Write) Damage → Type 0 = λ x. IfErr x (λ damage. ReadsBefore (first + files_in g) after) in subst P (sym is) (front (first + files_in g) at)
