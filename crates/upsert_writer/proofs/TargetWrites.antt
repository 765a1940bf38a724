-- Writes shared out among targets.
use Rattle.std.proofs.Common.{◌≡◌, ◌<◌, ◌≤◌, ◌+◌, ◌^◌, ◌&&◌, not, ℕ, Bool, true, false, cond, List, [], ◌∷◌, ◌++◌, length, filter, get_or, Some, refl, sym, ap, ◌∙◌, subst, arith, append_assoc, length-append}
use Rattle.std.specs.Prelude.{slice_get, nat_le, nat_lt}
use Rattle.std.specs.Str.{bytes_eq}
use Rattle.std.specs.Ordering.{nat_cmp}
use Rattle.std.specs.Cmp.Lexicographic.{slice_cmp}
use Rattle.std.specs.declared.cmp.Ordering.{Ordering}
use Rattle.std.specs.declared.cmp.Ordering.TheVariants.{Less, Equal, Greater}
use Rattle.std.proofs.lemmas.Bool.Decides.{nat_tests}
use Rattle.std.proofs.lemmas.List.{map-append, get_or-map}
use Rattle.std.proofs.lemmas.Option.{get_or_from_slice_get, slice_get_within}
use Rattle.std.proofs.lemmas.Slice.Eq.{bytes_eq-Decides}
use Rattle.hudi_base.specs.declared.file_group.GroupRef.{GroupRef}
use Rattle.hudi_base.specs.declared.file_group.Target.{Target}
use Rattle.payload_merge.specs.declared.row.Write.{Write}
use Rattle.table_history.specs.declared.job.Job.{Job}
use Rattle.payload_merge.specs.Fold.{writes_from}
use Rattle.payload_merge.specs.declared.row.Row.{Row}
use Rattle.upsert_writer.specs.BatchWrites.{is_in_group, partition_of, slot_in}
use Rattle.upsert_writer.specs.Blocks.{BlockForm, HoldsEach}
use Rattle.upsert_writer.specs.Making.{CanBeWritten}
use Rattle.upsert_writer.specs.TargetWrites.{MayWrite, MayWriteEach, begin_behind, decided, end_before, is_before, lies_before, lies_behind, writes_of_each}
use Rattle.upsert_writer.proofs.PlacedWrites.{writes_from-length, kind_in_group, filter-short}

-- ---- a group of another's side

both : (a b : Bool) → (a && b) ≡ true → (a ≡ true) × (b ≡ true)
both true b h = (refl, h)
both false b h = cc

was_false : (b : Bool) → not b ≡ true → b ≡ false
was_false true h = sym h
was_false false h = refl

pub was_true : (b : Bool) → not b ≡ false → b ≡ true
was_true true h = refl
was_true false h = sym h

at_most : (a b : ℕ) → nat_le a b ≡ true → a ≤ b
at_most a b h = grind (arith, nat_tests)

below_too : (a b c : ℕ) → a ≤ b → nat_lt b c ≡ true → nat_lt a c ≡ true
below_too a b c le h = grind (arith, nat_tests)

rises : (o : Ordering) (a b : Bool) → (a ≡ true → b ≡ true) → decided o a ≡ true → decided o b ≡ true
rises Less a b h is = refl
rises Equal a b h is = h is
rises Greater a b h is = is

falls : (o : Ordering) (a b : Bool) → (b ≡ true → a ≡ true) → decided o a ≡ false → decided o b ≡ false
falls Less a b h is = is
falls Equal a true h is = sym (h refl) ∙ is
falls Equal a false h is = refl
falls Greater a b h is = refl

-- writes of a group that ends before another come before that one
ends_before : (g s : GroupRef) (w : Write) → is_before g s.partition s.hi ≡ true → is_in_group s w ≡ true → lies_before g w ≡ true
ends_before g s w ends lies =
    let within = both (bytes_eq (partition_of w) s.partition && nat_le s.lo (slot_in w)) (nat_le (slot_in w) s.hi) lies in
    let here : partition_of w ≡ s.partition = (bytes_eq-Decides (partition_of w) s.partition).0 (both (bytes_eq (partition_of w) s.partition) (nat_le s.lo (slot_in w)) within.0).0 in
    let P : List ℕ → Type 0 = λ p. is_before g p (slot_in w) ≡ true in
    subst P (sym here)
    (rises (slice_cmp nat_cmp s.partition g.partition) (nat_lt s.hi g.lo) (nat_lt (slot_in w) g.lo) (below_too (slot_in w) s.hi g.lo (at_most (slot_in w) s.hi within.1)) ends)

-- writes of a group that begins in another or behind it don't
begins_behind : (g s : GroupRef) (w : Write) → not (is_before g s.partition s.lo) ≡ true → is_in_group s w ≡ true → lies_behind g w ≡ true
begins_behind g s w begins lies =
    let within = both (bytes_eq (partition_of w) s.partition && nat_le s.lo (slot_in w)) (nat_le (slot_in w) s.hi) lies in
    let inner = both (bytes_eq (partition_of w) s.partition) (nat_le s.lo (slot_in w)) within.0 in
    let here : partition_of w ≡ s.partition = (bytes_eq-Decides (partition_of w) s.partition).0 inner.0 in
    let P : List ℕ → Type 0 = λ p. is_before g p (slot_in w) ≡ false in
    ap not (subst P (sym here)
    (falls (slice_cmp nat_cmp s.partition g.partition) (nat_lt s.lo g.lo) (nat_lt (slot_in w) g.lo) (below_too s.lo (slot_in w) g.lo (at_most s.lo (slot_in w) inner.1)) (was_false _ begins)))

-- ---- filters

not_so : (a b : Bool) → b ≡ false → (a ≡ true → b ≡ true) → a ≡ false
not_so true b is h = sym (h refl) ∙ is
not_so false b is h = refl

within_by : (p q : Write → Bool) (x : Write) (xs : List Write) (b : Bool) → q x ≡ b → (p x ≡ true → q x ≡ true) → filter p (filter q xs) ≡ filter p xs
    → filter p (cond b (x ∷ filter q xs) (filter q xs)) ≡ filter p (x ∷ xs)
within_by p q x xs true is h rest = ap (λ (ys : List Write). cond (p x) (x ∷ ys) ys) rest
within_by p q x xs false is h rest = rest ∙ sym (ap (λ (c : Bool). cond c (x ∷ filter p xs) (filter p xs)) (not_so (p x) (q x) is h))

filter_within : (p q : Write → Bool) → ((x : Write) → p x ≡ true → q x ≡ true) → (xs : List Write) → filter p (filter q xs) ≡ filter p xs
filter_within p q h [] = refl
filter_within p q h (x ∷ xs) = within_by p q x xs (q x) refl (h x) (filter_within p q h xs)

-- ---- targets

lower_same : (g : GroupRef) (ws : List Write) (lower : List Target) → end_before g lower ≡ true
    → writes_of_each lower (filter (lies_before g) ws) ≡ writes_of_each lower ws
lower_same g ws [] h = refl
lower_same g ws (s ∷ lower) h =
    let each = both (is_before g s.group.partition s.group.hi) (end_before g lower) h in
    ap (λ (own : List Write). own ∷ writes_of_each lower (filter (lies_before g) ws)) (filter_within (is_in_group s.group) (lies_before g) (λ w. ends_before g s.group w each.0) ws)
    ∙ ap (λ (rest : List (List Write)). filter (is_in_group s.group) ws ∷ rest) (lower_same g ws lower each.1)

upper_same : (g : GroupRef) (ws : List Write) (upper : List Target) → begin_behind g upper ≡ true
    → writes_of_each upper (filter (lies_behind g) ws) ≡ writes_of_each upper ws
upper_same g ws [] h = refl
upper_same g ws (s ∷ upper) h =
    let each = both (not (is_before g s.group.partition s.group.lo)) (begin_behind g upper) h in
    ap (λ (own : List Write). own ∷ writes_of_each upper (filter (lies_behind g) ws)) (filter_within (is_in_group s.group) (lies_behind g) (λ w. begins_behind g s.group w each.0) ws)
    ∙ ap (λ (rest : List (List Write)). filter (is_in_group s.group) ws ∷ rest) (upper_same g ws upper each.1)

-- the writes of the lower targets and of the upper ones are those of all
pub shared : (g : GroupRef) (lower upper targets : List Target) (ws before behind : List Write) → lower ++ upper ≡ targets → end_before g lower ≡ true → begin_behind g upper ≡ true
    → before ≡ filter (lies_before g) ws → behind ≡ filter (lies_behind g) ws → writes_of_each lower before ++ writes_of_each upper behind ≡ writes_of_each targets ws
shared g lower upper targets ws before behind whole ends begins first second =
    ap (λ (xs : List Write). writes_of_each lower xs ++ writes_of_each upper behind) first ∙ ap (λ (xs : List Write). writes_of_each lower (filter (lies_before g) ws) ++ writes_of_each upper xs) second
    ∙ ap (λ (xs : List (List Write)). xs ++ writes_of_each upper (filter (lies_behind g) ws)) (lower_same g ws lower ends)
    ∙ ap (λ (xs : List (List Write)). writes_of_each lower ws ++ xs) (upper_same g ws upper begins)
    ∙ sym (map-append (λ (s : Target). filter (is_in_group s.group) ws) lower upper) ∙ ap (λ (targets : List Target). writes_of_each targets ws) whole

-- ---- one of the targets

pub part_at : (targets : List Target) (ws : List Write) (parts : List (List Write)) (k : ℕ) (s : Target) (d : List Write) → parts ≡ writes_of_each targets ws → slice_get targets k ≡ Some s
    → get_or parts k d ≡ filter (is_in_group s.group) ws
part_at targets ws parts k s d is at =
    let own : Target → List Write = λ x. filter (is_in_group x.group) ws in
    ap (λ (xs : List (List Write)). get_or xs k d) is ∙ get_or-map own targets k s d (slice_get_within targets k s at) ∙ ap own (get_or_from_slice_get targets k s s at)

pub may_each : (Own : Row → Type 0) (MayHold : Job → ℕ → Target → ℕ → List ℕ → Type 0) (job : Job) (form : BlockForm) (t : ℕ) (batch : List Write) (targets : List Target) (parts : List (List Write))
    → parts ≡ writes_of_each targets (writes_from t 0 batch) → CanBeWritten Own batch → HoldsEach MayHold job form batch → MayWriteEach Own MayHold job form t targets parts
may_each Own MayHold job form t batch targets parts is ready holds k s at =
    let P : List Write → Type 0 = MayWrite Own MayHold job form t s in
    let short = filter-short (is_in_group s.group) (writes_from t 0 batch) in
    let long = writes_from-length t 0 batch in
    let few : length batch < 2 ^ 32 = ready.counted in
    subst P (sym (part_at targets (writes_from t 0 batch) parts k s [] is at))
    (record {
      of_kind = kind_in_group Own t s.group batch ready.one_kind;
      counted = omega (arith, short, long, few);
      holds = λ writes bytes block. holds t s writes bytes block;
    })

-- the part that comes next
pub part_here : (yielded : List (List Write)) (own : List Write) (rest parts : List (List Write)) → yielded ++ own ∷ rest ≡ parts → get_or parts (length yielded) [] ≡ own
part_here yielded own rest parts whole = ap (λ (xs : List (List Write)). get_or xs (length yielded) []) (sym whole) ∙ by yielded
  where
    by : (xs : List (List Write)) → get_or (xs ++ own ∷ rest) (length xs) [] ≡ own
    by [] = refl
    by (x ∷ xs) = by xs

pub parts_taken : (yielded : List (List Write)) (own : List Write) (rest items parts : List (List Write)) → yielded ++ items ≡ parts → items ≡ own ∷ rest → yielded ++ own ∷ rest ≡ parts
parts_taken yielded own rest items parts whole is = ap (λ (xs : List (List Write)). yielded ++ xs) (sym is) ∙ whole

pub parts_next : (yielded : List (List Write)) (own : List Write) (rest parts : List (List Write)) → yielded ++ own ∷ rest ≡ parts → (yielded ++ own ∷ []) ++ rest ≡ parts
parts_next yielded own rest parts whole = append_assoc yielded (own ∷ []) rest ∙ whole

pub one_number_more : (yielded : List (List Write)) (own : List Write) (number : ℕ) → number ≡ length yielded → number + 1 ≡ length (yielded ++ own ∷ [])
one_number_more yielded own number n = omega (arith, length-append yielded (own ∷ []), n)

pub taken_one : (before after : ℕ) (own : List Write) (rest items : List (List Write)) → items ≡ own ∷ rest → after + 1 ≡ before → before ≡ length items → after ≡ length rest
taken_one before after own rest items is fewer left = omega (arith, ap length is, fewer, left)

-- it is what the instant writes to its target
pub part_is : (targets : List Target) (ws : List Write) (yielded : List (List Write)) (own : List Write) (rest parts : List (List Write)) (number : ℕ) (s : Target)
    → yielded ++ own ∷ rest ≡ parts → number ≡ length yielded → parts ≡ writes_of_each targets ws → slice_get targets number ≡ Some s → own ≡ filter (is_in_group s.group) ws
part_is targets ws yielded own rest parts number s whole n is at =
    sym (part_here yielded own rest parts whole) ∙ ap (λ (k : ℕ). get_or parts k []) (sym n) ∙ part_at targets ws parts number s [] is at

-- and can be written as the block of its target, also when the job has gone on
pub may_here : (Own : Row → Type 0) (MayHold : Job → ℕ → Target → ℕ → List ℕ → Type 0) (before after : Job) (form : BlockForm) (t : ℕ) (targets : List Target) (yielded : List (List Write)) (own : List Write)
    (rest parts : List (List Write)) (number : ℕ) → after ≡ before → yielded ++ own ∷ rest ≡ parts → number ≡ length yielded → MayWriteEach Own MayHold before form t targets parts
    → (s : Target) → slice_get targets number ≡ Some s → MayWrite Own MayHold after form t s own
may_here Own MayHold before after form t targets yielded own rest parts number same whole n may s at =
    let P : Job → Type 0 = λ job. MayWrite Own MayHold job form t s own in
    let Q : List Write → Type 0 = MayWrite Own MayHold before form t s in
    subst P (sym same) (subst Q (ap (λ (k : ℕ). get_or parts k []) n ∙ part_here yielded own rest parts whole) (may number s at))

pub number_within : (yielded : List (List Write)) (own : List Write) (rest parts : List (List Write)) (number total : ℕ) → yielded ++ own ∷ rest ≡ parts → number ≡ length yielded → length parts ≡ total → number < total
number_within yielded own rest parts number total whole n long = omega (arith, length-append yielded (own ∷ rest), ap length whole, n, long)
