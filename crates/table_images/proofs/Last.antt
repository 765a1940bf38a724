-- Lists of entries in the order of their keys, and the last of them.
use Rattle.std.proofs.Common.{◌≡◌, ◌⊎◌, inl, inr, ◌<◌, ℕ, Bool, true, false, T, cond, ◌&&◌, List, [], ◌∷◌, ◌++◌, Some, None, unwrap_or, Ordering, append_assoc, append-nil, refl, sym, ap, ◌∙◌, subst}
use Rattle.std.specs.Ordering.{nat_cmp, is_eq, is_lt, ordering_reverse}
use Rattle.std.specs.Cmp.{nat_cmp_is}
use Rattle.std.specs.declared.cmp.Ordering.TheVariants.{Less, Equal, Greater}
use Rattle.std.specs.Cmp.Lexicographic.{slice_cmp}
use Rattle.std.specs.FinMap.{get, insert, entries, entries_sorted, entries-insert, get-entries}
use Rattle.std.specs.FinMap.Entries.{put, find, is_sorted, below_all, by_order}
use Rattle.std.specs.List.{AllByRecursion}
use Rattle.std.proofs.lemmas.Cmp.{nat_list_cmp_total, tied_itself}
use Rattle.std.proofs.lemmas.Map.Lookups.{exact_bytes}
use Rattle.hudi_base.specs.Files.{FileMap, content}
use Rattle.log_block.specs.declared.block.Block.{Block}
use Rattle.table_images.specs.Chains.{blocks_among, blocks_of_chain}
use Rattle.table_images.specs.LogTexts.{blocks_in}
use Rattle.table_images.proofs.Lines.{none_some}
use Rattle.table_images.proofs.Texts.{fit_more, no_blocks}

abbrev pub names : List ℕ → List ℕ → Ordering
names = slice_cmp nat_cmp

abbrev Entries : Type 0
Entries = List (List ℕ × List ℕ)

fst : (a b : Bool) → T (a && b) → T a
fst true b p = tt
fst false b p = p

snd : (a b : Bool) → T (a && b) → T b
snd true b p = p
snd false b p = absurd p

is_less : (r : Ordering) → T (is_lt r) → r ≡ Less
is_less Less p = refl
is_less Equal p = absurd p
is_less Greater p = absurd p

not_less_itself : (k : List ℕ) → names k k ≡ Less → ⊥
not_less_itself k less = let wrong : Equal ≡ Less = sym (tied_itself nat_list_cmp_total k) ∙ less in cc

-- a key below all others isn't among them
not_among : (k : List ℕ) (es : Entries) → T (below_all names k es) → find names k es ≡ None
not_among k [] below = refl
not_among k (e ∷ es) below =
    ap (λ r. cond (is_eq r) (Some e.1) (find names k es)) (is_less (names k e.0) (fst (is_lt (names k e.0)) (below_all names k es) below))
    ∙ not_among k es (snd (is_lt (names k e.0)) (below_all names k es) below)

-- ---- what holds of each file of a chain holds of its blocks

all_among : (Q : Block → Type 0) (es : Entries) → T (is_sorted names es) → ((k v : List ℕ) → find names k es ≡ Some v → AllByRecursion Q (blocks_in v)) → AllByRecursion Q (blocks_among es)
all_among Q [] sorted all = tt
all_among Q (e ∷ es) sorted all =
    fit_more Q (blocks_in e.1) (blocks_among es) (all e.0 e.1 (ap (λ r. cond (is_eq r) (Some e.1) (find names e.0 es)) (tied_itself nat_list_cmp_total e.0)))
    (all_among Q es (snd (below_all names e.0 es) (is_sorted names es) sorted) rest)
  where
    rest : (k v : List ℕ) → find names k es ≡ Some v → AllByRecursion Q (blocks_in v)
    rest k v is = by_order_of (names k e.0) refl
      where
        by_order_of : (r : Ordering) → names k e.0 ≡ r → AllByRecursion Q (blocks_in v)
        by_order_of Less o = all k v (ap (λ r. cond (is_eq r) (Some e.1) (find names k es)) o ∙ is)
        by_order_of Greater o = all k v (ap (λ r. cond (is_eq r) (Some e.1) (find names k es)) o ∙ is)
        by_order_of Equal o =
            let same : k ≡ e.0 = exact_bytes k e.0 o in
            absurd (none_some (sym (not_among e.0 es (fst (below_all names e.0 es) (is_sorted names es) sorted)) ∙ ap (λ n. find names n es) (sym same) ∙ is))

pub all_blocks : (Q : Block → Type 0) (chain : FileMap) → ((k v : List ℕ) → get chain k ≡ Some v → AllByRecursion Q (blocks_in v)) → AllByRecursion Q (blocks_of_chain chain)
all_blocks Q chain all = all_among Q (entries chain) (entries_sorted chain) (λ k v is. all k v (get-entries chain k ∙ is))

-- ---- more bytes in the last file

among_more : (es fs : Entries) → blocks_among (es ++ fs) ≡ blocks_among es ++ blocks_among fs
among_more [] fs = refl
among_more (e ∷ es) fs = ap (λ bs. blocks_in e.1 ++ bs) (among_more es fs) ∙ sym (append_assoc (blocks_in e.1) (blocks_among es) (blocks_among fs))

-- the entries with a value at the last key, and without it
record IsLastIn (k : List ℕ) (es : Entries) : Type 0 where
  front : Entries
  with_it : (v : List ℕ) → put names k v es ≡ front ++ (k, v) ∷ []
  without : blocks_among es ≡ blocks_among front ++ blocks_in (unwrap_or (find names k es) [])

greater : (k y : List ℕ) → names y k ≡ Less → names k y ≡ Greater
greater k y less = nat_list_cmp_total.antisymm k y ∙ ap ordering_reverse less

-- no key is above k
abbrev NoneAbove : List ℕ → Entries → Type 0
NoneAbove k es = (q v : List ℕ) → find names q es ≡ Some v → (names q k ≡ Less) ⊎ (q ≡ k)

none_behind : (k : List ℕ) (es : Entries) → T (below_all names k es) → NoneAbove k es → es ≡ []
none_behind k [] below none = refl
none_behind k (e ∷ es) below none = absurd (by_case (none e.0 e.1 (ap (λ r. cond (is_eq r) (Some e.1) (find names e.0 es)) (tied_itself nat_list_cmp_total e.0))))
  where
    up : names k e.0 ≡ Less
    up = is_less (names k e.0) (fst (is_lt (names k e.0)) (below_all names k es) below)

    by_case : (names e.0 k ≡ Less) ⊎ (e.0 ≡ k) → ⊥
    by_case (inl less) = let wrong : Less ≡ Greater = sym up ∙ greater k e.0 less in cc
    by_case (inr same) = not_less_itself k (ap (names k) (sym same) ∙ up)

last_in : (k : List ℕ) (es : Entries) → T (is_sorted names es) → NoneAbove k es → IsLastIn k es
last_in k [] sorted none = record { front = []; with_it = λ v. refl; without = sym no_blocks }
last_in k (e ∷ es) sorted none =
    by_case (none e.0 e.1 (ap (λ r. cond (is_eq r) (Some e.1) (find names e.0 es)) (tied_itself nat_list_cmp_total e.0))) (last_in k es (snd (below_all names e.0 es) (is_sorted names es) sorted) rest)
  where
    below : T (below_all names e.0 es)
    below = fst (below_all names e.0 es) (is_sorted names es) sorted

    rest : NoneAbove k es
    rest q v is = by_order_of (names q e.0) refl
      where
        by_order_of : (r : Ordering) → names q e.0 ≡ r → (names q k ≡ Less) ⊎ (q ≡ k)
        by_order_of Less o = none q v (ap (λ r. cond (is_eq r) (Some e.1) (find names q es)) o ∙ is)
        by_order_of Greater o = none q v (ap (λ r. cond (is_eq r) (Some e.1) (find names q es)) o ∙ is)
        by_order_of Equal o =
            let same : q ≡ e.0 = exact_bytes q e.0 o in
            absurd (none_some (sym (not_among e.0 es below) ∙ ap (λ n. find names n es) (sym same) ∙ is))

    by_case : (names e.0 k ≡ Less) ⊎ (e.0 ≡ k) → IsLastIn k es → IsLastIn k (e ∷ es)
    by_case (inl less) behind = record {
      front = e ∷ behind.front;
      with_it = λ v. ap (λ r. by_order r ((k, v) ∷ e ∷ es) ((e.0, v) ∷ es) (e ∷ put names k v es)) (greater k e.0 less) ∙ ap (λ rest. e ∷ rest) (behind.with_it v);
      without = ap (λ bs. blocks_in e.1 ++ bs) behind.without ∙ sym (append_assoc (blocks_in e.1) (blocks_among behind.front) (blocks_in (unwrap_or (find names k es) [])))
          ∙ ap (λ o. (blocks_in e.1 ++ blocks_among behind.front) ++ blocks_in (unwrap_or o [])) (sym (ap (λ r. cond (is_eq r) (Some e.1) (find names k es)) (greater k e.0 less)));
    }
    by_case (inr same) behind =
        let empty : es ≡ [] = none_behind k es (subst (λ n. T (below_all names n es)) same below) rest in
        let tied : names k e.0 ≡ Equal = ap (names k) same ∙ tied_itself nat_list_cmp_total k in
        record {
          front = [];
          with_it = λ v. ap (λ r. by_order r ((k, v) ∷ e ∷ es) ((e.0, v) ∷ es) (e ∷ put names k v es)) tied ∙ (λ i. (same i, v) ∷ empty i);
          without = ap (λ fs. blocks_in e.1 ++ blocks_among fs) empty ∙ append-nil (blocks_in e.1) ∙ ap (λ o. blocks_in (unwrap_or o [])) (sym (ap (λ r. cond (is_eq r) (Some e.1) (find names k es)) tied));
        }

-- what is added behind the blocks of the last file stands behind all blocks
pub chain_grows : (chain : FileMap) (k v : List ℕ) (new : List Block) → ((q w : List ℕ) → get chain q ≡ Some w → (names q k ≡ Less) ⊎ (q ≡ k))
    → blocks_in v ≡ blocks_in (content chain k) ++ new → blocks_of_chain (insert chain k v) ≡ blocks_of_chain chain ++ new
chain_grows chain k v new none more =
    let last = last_in k (entries chain) (entries_sorted chain) (λ q w is. none q w (get-entries chain q ∙ is)) in
    ap blocks_among (entries-insert nat_list_cmp_total chain k v ∙ last.with_it v)
    ∙ among_more last.front ((k, v) ∷ [])
    ∙ ap (λ bs. blocks_among last.front ++ bs) (append-nil (blocks_in v) ∙ more)
    ∙ sym (append_assoc (blocks_among last.front) (blocks_in (content chain k)) new)
    ∙ ap (λ o. (blocks_among last.front ++ blocks_in (unwrap_or o [])) ++ new) (get-entries chain k)
    ∙ ap (λ bs. bs ++ new) (sym last.without)

-- ---- keys that are lists of numbers

pub first_less : (a b : ℕ) (xs ys : List ℕ) → a < b → names (a ∷ xs) (b ∷ ys) ≡ Less
first_less a b xs ys less = rw (sym (nat_cmp_is a b Less less)) refl

pub first_same : (a b : ℕ) (xs ys : List ℕ) → a ≡ b → names xs ys ≡ Less → names (a ∷ xs) (b ∷ ys) ≡ Less
first_same a b xs ys same less = rw (sym (nat_cmp_is a b Equal same)) less
