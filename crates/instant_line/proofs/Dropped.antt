-- A list whose front is passed over.
use Rattle.std.proofs.Common.{◌≡◌, ℕ, ◌+◌, ◌-◌, ◌≤◌, List, ◌++◌, length, take, drop, sym, ◌∙◌, ap, arith}
use Rattle.std.specs.List.{insert, remove}
use Rattle.std.proofs.Math.Seq.{drop-append_seam, drop-append-add}
use Rattle.std.proofs.lemmas.List.{take-append-drop, length-take-le}
use Rattle.std.proofs.lemmas.List.Edits.{insert-append_right, remove-append_right}

seam : {X : Type 0} (gone : ℕ) (xs rest : List X) → gone ≤ length xs → drop gone (take gone xs ++ rest) ≡ rest
seam gone xs rest h =
    ap (λ n. drop n (take gone xs ++ rest)) (sym (length-take-le gone xs h)) ∙ drop-append_seam (take gone xs) rest

pub drop-insert : {X : Type 0} (gone i : ℕ) (xs : List X) (y : X) → gone ≤ length xs → drop gone (insert xs (gone + i) y) ≡ insert (drop gone xs) i y
drop-insert gone i xs y h =
    let at : gone + i - gone ≡ i = omega arith in
    ap (λ l. drop gone (insert l (gone + i) y)) (sym (take-append-drop gone xs))
    ∙ ap (drop gone) (insert-append_right (take gone xs) (drop gone xs) gone (gone + i) y (length-take-le gone xs h) (omega arith))
    ∙ seam gone xs (insert (drop gone xs) (gone + i - gone) y) h
    ∙ ap (λ k. insert (drop gone xs) k y) at

pub drop-remove : {X : Type 0} (gone i : ℕ) (xs : List X) → gone ≤ length xs → drop gone (remove xs (gone + i)) ≡ remove (drop gone xs) i
drop-remove gone i xs h =
    let at : gone + i - gone ≡ i = omega arith in
    ap (λ l. drop gone (remove l (gone + i))) (sym (take-append-drop gone xs))
    ∙ ap (drop gone) (remove-append_right (take gone xs) (drop gone xs) gone (gone + i) (length-take-le gone xs h) (omega arith))
    ∙ seam gone xs (remove (drop gone xs) (gone + i - gone)) h
    ∙ ap (remove (drop gone xs)) at

pub drop_first : {X : Type 0} (gone : ℕ) (xs : List X) → gone ≤ length xs → drop (gone + 1) xs ≡ remove (drop gone xs) 0
drop_first gone xs h =
    ap (drop (gone + 1)) (sym (take-append-drop gone xs))
    ∙ ap (λ n. drop (n + 1) (take gone xs ++ drop gone xs)) (sym (length-take-le gone xs h))
    ∙ drop-append-add (take gone xs) (drop gone xs) 1
