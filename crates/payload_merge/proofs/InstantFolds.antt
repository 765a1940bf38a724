-- Instants one after another.
use Rattle.std.proofs.Common.{◌≡◌, ◌+◌, ◌<◌, ℕ, List, [], ◌∷◌, ◌++◌, length, append-nil, suc, refl, sym, ◌∙◌, ap, arith}
use Rattle.std.specs.Prelude.{flat_map}
use Rattle.std.specs.List.{AllByRecursion}
use Rattle.std.specs.FinMap.{empty}
use Rattle.std.proofs.lemmas.Grind.{flat_map-append}
use Rattle.std.proofs.lemmas.List.Elements.{All-from_recursion, recursion_from_All}
use Rattle.payload_merge.specs.declared.row.Write.{Write}
use Rattle.payload_merge.specs.Fold.{InstantWrites, table_after_all, write_at, writes_from, writes_of, fold}
use Rattle.payload_merge.specs.Laws.{RisesStrictly}
use Rattle.payload_merge.proofs.Tables.{table_after_all-append}
use Rattle.payload_merge.proofs.TimeOrders.{in_time_order-rising}

-- the places go on where they stopped
pub writes_from-append : (instant place : ℕ) (xs ys : List Write) → writes_from instant place (xs ++ ys) ≡ writes_from instant place xs ++ writes_from instant (place + length xs) ys
writes_from-append instant place [] ys = ap (λ n. writes_from instant n ys) (omega arith)
writes_from-append instant place (x ∷ xs) ys =
    ap (λ ws. write_at instant place x ∷ ws) (writes_from-append instant (place + 1) xs ys
    ∙ ap (λ n. writes_from instant (place + 1) xs ++ writes_from instant n ys) (omega arith))

pub length-writes_from : (instant place : ℕ) (xs : List Write) → length (writes_from instant place xs) ≡ length xs
length-writes_from instant place [] = refl
length-writes_from instant place (x ∷ xs) = ap suc (length-writes_from instant (place + 1) xs)

prefix_passes : (P : InstantWrites → Type 0) (xs ys : List InstantWrites) → AllByRecursion P (xs ++ ys) → AllByRecursion P xs
prefix_passes P [] ys h = tt
prefix_passes P (x ∷ xs) ys h = (h.0, prefix_passes P xs ys h.1)

-- the first of instants that rise
pub RisesStrictly-earlier : (xs ys : List InstantWrites) → RisesStrictly (xs ++ ys) → RisesStrictly xs
RisesStrictly-earlier [] ys h = tt
RisesStrictly-earlier (x ∷ xs) ys h =
    (All-from_recursion _ xs (prefix_passes (λ later. x.instant < later.instant) xs ys (recursion_from_All _ (xs ++ ys) h.0)), RisesStrictly-earlier xs ys h.1)

-- the fold of instants that rise takes them as they stand
pub fold-rising : (instants : List InstantWrites) → RisesStrictly instants → fold instants ≡ table_after_all empty (flat_map writes_of instants)
fold-rising instants h = ap (λ bs. table_after_all empty (flat_map writes_of bs)) (in_time_order-rising instants h)

-- later instants are taken after the earlier ones
pub fold-append : (xs ys : List InstantWrites) → RisesStrictly (xs ++ ys) → fold (xs ++ ys) ≡ table_after_all (fold xs) (flat_map writes_of ys)
fold-append xs ys h =
    fold-rising (xs ++ ys) h
    ∙ ap (table_after_all empty) (flat_map-append writes_of xs ys)
    ∙ table_after_all-append empty (flat_map writes_of xs) (flat_map writes_of ys)
    ∙ ap (λ m. table_after_all m (flat_map writes_of ys)) (sym (fold-rising xs (RisesStrictly-earlier xs ys h)))

-- one more instant
pub fold-push : (xs : List InstantWrites) (each : InstantWrites) → RisesStrictly (xs ++ each ∷ []) → fold (xs ++ each ∷ []) ≡ table_after_all (fold xs) (writes_of each)
fold-push xs each h = fold-append xs (each ∷ []) h ∙ ap (table_after_all (fold xs)) (append-nil (writes_of each))
