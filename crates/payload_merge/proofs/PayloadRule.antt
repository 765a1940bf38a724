-- Laws of the payload rule at one key.
use Rattle.std.proofs.Common.{◌≡◌, ◌<ℤ◌, ◌≤ℤ◌, Bool, true, false, cond, List, [], ◌∷◌, ◌++◌, Option, Some, None, map, refl, sym, ◌∙◌, ap, subst, arith}
use Rattle.std.specs.Prelude.{int_lt, MatchOption}
use Rattle.std.specs.List.{AllByRecursion}
use Rattle.std.specs.FinMap.{get, empty}
use Rattle.std.specs.Ordering.{eq_by_cmp}
use Rattle.std.proofs.lemmas.List.Elements.{All-from_recursion, filter-append}
use Rattle.std.proofs.lemmas.Int.{ints}
use Rattle.payload_merge.specs.declared.row.Row.{Row}
use Rattle.payload_merge.specs.declared.row.Write.{Write}
use Rattle.payload_merge.specs.declared.row.Write.TheVariants.{Put}
use Rattle.payload_merge.specs.Payload.{Key, key_cmp, key_of_row, row_after, winner}
use Rattle.payload_merge.specs.Fold.{table_after_all, row_after_all}
use Rattle.payload_merge.specs.Laws.{writes_to, rows_at, IsLatestOfGreatest}
use Rattle.payload_merge.proofs.Tables.{get-table_after_all, get-nothing}

-- writes one list after another
pub row_after_all-append : (present : Option Row) (xs ys : List Write) → row_after_all present (xs ++ ys) ≡ row_after_all (row_after_all present xs) ys
row_after_all-append present [] ys = refl
row_after_all-append present (x ∷ xs) ys = row_after_all-append (row_after present x) xs ys

-- the writes to a key, of one list after another
pub writes_to-append : (key : Key) (xs ys : List Write) → writes_to key (xs ++ ys) ≡ writes_to key xs ++ writes_to key ys
writes_to-append key xs ys = filter-append _ xs ys

-- the first rank is at most that of the winner
first_rank : (p row : Row) (rows before later : List Row) → p ∷ rows ≡ before ++ row ∷ later → AllByRecursion (λ other. other.rank ≤ℤ row.rank) before → p.rank ≤ℤ row.rank
first_rank p row rows [] later is h = let e : p ≡ row = cc in subst (λ (r : Row). p.rank ≤ℤ r.rank) e (omega (arith, ints))
first_rank p row rows (b ∷ before) later is h = let e : b ≡ p = cc in subst (λ (r : Row). r.rank ≤ℤ row.rank) e h.0

-- the same by recursion
record Wins (rows : List Row) (row : Row) : Type 0 where
  before : List Row
  later : List Row
  is : rows ≡ before ++ row ∷ later
  no_greater : AllByRecursion (λ other. other.rank ≤ℤ row.rank) before
  smaller : AllByRecursion (λ other. other.rank <ℤ row.rank) later

-- a row of a smaller rank, behind the first, changes nothing
wins_past_smaller : (p q row : Row) (rows before later : List Row) → q.rank <ℤ p.rank → p ∷ rows ≡ before ++ row ∷ later → AllByRecursion (λ other. other.rank ≤ℤ row.rank) before → AllByRecursion (λ other. other.rank <ℤ row.rank) later → Wins (p ∷ q ∷ rows) row
wins_past_smaller p q row rows [] later lt is h g =
    let e : p ≡ row = cc in
    record {
      before = [];
      later = q ∷ later;
      is = cc;
      no_greater = tt;
      smaller = (subst (λ (r : Row). q.rank <ℤ r.rank) e lt, g);
    }
wins_past_smaller p q row rows (b ∷ before) later lt is h g =
    let e : b ≡ p = cc in
    let most : p.rank ≤ℤ row.rank = subst (λ (r : Row). r.rank ≤ℤ row.rank) e h.0 in
    record {
      before = p ∷ q ∷ before;
      later = later;
      is = cc;
      no_greater = (most, (omega (arith, ints), h.1));
      smaller = g;
    }

-- puts onto a row leave the last of the greatest rank
wins : (p : Row) (rows : List Row) → (row : Row) × (row_after_all (Some p) (map Put rows) ≡ Some row) × Wins (p ∷ rows) row
wins p [] = (p, refl, record { before = []; later = []; is = refl; no_greater = tt; smaller = tt })
wins p (q ∷ rows) = by_test (int_lt q.rank p.rank) refl (wins p rows) (wins q rows)
  where
    by_test : (b : Bool) → int_lt q.rank p.rank ≡ b
        → (row : Row) × (row_after_all (Some p) (map Put rows) ≡ Some row) × Wins (p ∷ rows) row
        → (row : Row) × (row_after_all (Some q) (map Put rows) ≡ Some row) × Wins (q ∷ rows) row
        → (row : Row) × (row_after_all (winner b p (Put q)) (map Put rows) ≡ Some row) × Wins (p ∷ q ∷ rows) row
    by_test true h stays goes =
        let w = stays.2 in
        (stays.0, stays.1, wins_past_smaller p q stays.0 rows w.before w.later (omega (arith, ints)) w.is w.no_greater w.smaller)
    by_test false h stays goes =
        let w = goes.2 in
        let most : q.rank ≤ℤ (goes.0).rank = first_rank q goes.0 rows w.before w.later w.is w.no_greater in
        (goes.0, goes.1, record { before = p ∷ w.before; later = w.later; is = ap (λ rs. p ∷ rs) w.is; no_greater = (omega (arith, ints), w.no_greater); smaller = w.smaller })

puts_leave : (rows : List Row) → MatchOption (row_after_all None (map Put rows)) (rows ≡ []) (IsLatestOfGreatest rows)
puts_leave [] = refl
puts_leave (p ∷ rows) =
    let found = wins p rows in
    let w = found.2 in
    let last : IsLatestOfGreatest (p ∷ rows) found.0 = (w.before, w.later, w.is, All-from_recursion _ w.before w.no_greater, All-from_recursion _ w.later w.smaller) in
    subst (λ o. MatchOption o (p ∷ rows ≡ []) (IsLatestOfGreatest (p ∷ rows))) (sym found.1) last

-- the writes to a key, of puts alone
writes_to-puts : (key : Key) (rows : List Row) → writes_to key (map Put rows) ≡ map Put (rows_at key rows)
writes_to-puts key [] = refl
writes_to-puts key (row ∷ rows) = by_test (eq_by_cmp key_cmp key (key_of_row row)) (writes_to-puts key rows)
  where
    by_test : (b : Bool) → writes_to key (map Put rows) ≡ map Put (rows_at key rows)
        → cond b (Put row ∷ writes_to key (map Put rows)) (writes_to key (map Put rows)) ≡ map Put (cond b (row ∷ rows_at key rows) (rows_at key rows))
    by_test true rest = ap (λ ws. Put row ∷ ws) rest
    by_test false rest = rest

-- after puts alone a key has the last of its rows of the greatest rank
pub latest_of_greatest_rank_stays : (rows : List Row) (key : Key) → MatchOption (get (table_after_all empty (map Put rows)) key) (rows_at key rows ≡ []) (IsLatestOfGreatest (rows_at key rows))
latest_of_greatest_rank_stays rows key =
    let is : get (table_after_all empty (map Put rows)) key ≡ row_after_all None (map Put (rows_at key rows)) =
    get-table_after_all empty (map Put rows) key
    ∙ ap (λ present. row_after_all present (writes_to key (map Put rows))) (get-nothing key)
    ∙ ap (row_after_all None) (writes_to-puts key rows) in
    subst (λ o. MatchOption o (rows_at key rows ≡ []) (IsLatestOfGreatest (rows_at key rows))) (sym is) (puts_leave (rows_at key rows))
