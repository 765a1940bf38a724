-- Rows in order, one after another.
use Rattle.std.proofs.Common.{◌≡◌, ℕ, ◌+◌, ◌<◌, ◌≤◌, List, ◌∷◌, length, drop, get_or, Bool, true, false, ◌&&◌, eqb, refl, sym, ap, ◌∙◌, arith}
use Rattle.std.proofs.lemmas.Grind.{common_steps}
use Rattle.std.proofs.lemmas.List.{drop_more, drop_all}
use Rattle.payload_merge.specs.declared.row.Row.{Row}
use Rattle.plain_rows.specs.Contents.{are_in_order}

eqb-same : (m n : ℕ) → m ≡ n → eqb m n ≡ true
eqb-same m n same = grind (arith, common_steps)

eqb-other : (m n : ℕ) → ¬ (m ≡ n) → eqb m n ≡ false
eqb-other m n other = grind (arith, common_steps)

-- one row more
pub order_more : (rows : List Row) (i place : ℕ) (row : Row) → i < length rows → row ≡ get_or rows i row → row.seq ≡ place
    → are_in_order place (drop i rows) ≡ are_in_order (place + 1) (drop (i + 1) rows)
order_more rows i place row within is at =
    ap (are_in_order place) (drop_more rows i row within ∙ ap (λ (one : Row). one ∷ drop (i + 1) rows) (sym is))
    ∙ ap (λ (b : Bool). b && are_in_order (place + 1) (drop (i + 1) rows)) (eqb-same row.seq place at)

-- a row that stands elsewhere
pub order_stop : (rows : List Row) (i place : ℕ) (row : Row) → i < length rows → row ≡ get_or rows i row → ¬ (row.seq ≡ place)
    → are_in_order place (drop i rows) ≡ false
order_stop rows i place row within is elsewhere =
    ap (are_in_order place) (drop_more rows i row within ∙ ap (λ (one : Row). one ∷ drop (i + 1) rows) (sym is))
    ∙ ap (λ (b : Bool). b && are_in_order (place + 1) (drop (i + 1) rows)) (eqb-other row.seq place elsewhere)

-- no row is left
pub order_end : (rows : List Row) (i place : ℕ) → length rows ≤ i → are_in_order place (drop i rows) ≡ true
order_end rows i place past = rw (drop_all i rows past) refl
