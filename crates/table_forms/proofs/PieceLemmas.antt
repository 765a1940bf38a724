-- Pieces of a text around a byte.
use Rattle.std.proofs.Common.{◌≡◌, ◌≢◌, ◌<◌, suc, get_or, ℕ, Bool, true, false, not, nat_eq, nat_lt, List, [], ◌∷◌, ◌++◌, ◌&&◌, length, Some, None, refl, arith, length-append}
use Rattle.std.proofs.Math.Seq.{take-append_seam, drop-append-add}
use Rattle.std.proofs.lemmas.Bool.Decides.{nat_tests}
use Rattle.std.specs.List.{list_all, prefix_len}
use Rattle.table_forms.specs.Pieces.{split_once}

pub not_true : (b : Bool) → not b ≡ true → b ≡ false
not_true true e = cc
not_true false e = refl

pub and_parts : (a b : Bool) → (a && b) ≡ true → (a ≡ true) × (b ≡ true)
and_parts true b e = (refl, e)
and_parts false b e = absurd cc

-- no byte of the text is the separator
abbrev pub lacks : ℕ → List ℕ → Bool
lacks s xs = list_all (λ b. not (nat_eq b s)) xs

prefix_len-lacks : (s : ℕ) (xs ys : List ℕ) → lacks s xs ≡ true → prefix_len (λ b. not (nat_eq b s)) (xs ++ s ∷ ys) ≡ length xs
prefix_len-lacks s [] ys none = let same : nat_eq s s ≡ true = grind (arith, nat_tests) in rw same refl
prefix_len-lacks s (x ∷ xs) ys none =
    let parts = and_parts (not (nat_eq x s)) (lacks s xs) none in
    rw (parts.0, prefix_len-lacks s xs ys parts.1) (omega arith)

prefix_len-all : (s : ℕ) (xs : List ℕ) → lacks s xs ≡ true → prefix_len (λ b. not (nat_eq b s)) xs ≡ length xs
prefix_len-all s [] none = refl
prefix_len-all s (x ∷ xs) none =
    let parts = and_parts (not (nat_eq x s)) (lacks s xs) none in
    rw (parts.0, prefix_len-all s xs parts.1) (omega arith)

-- where no byte before it is the separator, the text is split there
pub split_once-here : (s : ℕ) (xs ys : List ℕ) → lacks s xs ≡ true → split_once s (xs ++ s ∷ ys) ≡ Some (xs, ys)
split_once-here s xs ys none =
    let within : nat_lt (length xs) (length (xs ++ s ∷ ys)) ≡ true = grind (arith, nat_tests, length-append {A = ℕ}) in
    rw (prefix_len-lacks s xs ys none, within, take-append_seam xs (s ∷ ys), drop-append-add xs (s ∷ ys) 1) refl

-- and where none is, it isn't
pub split_once-none : (s : ℕ) (xs : List ℕ) → lacks s xs ≡ true → split_once s xs ≡ None
split_once-none s xs none =
    let past : nat_lt (length xs) (length xs) ≡ false = grind (arith, nat_tests) in
    rw (prefix_len-all s xs none, past) refl

pub both : (a b : Bool) → a ≡ true → b ≡ true → (a && b) ≡ true
both a b p q = rw (p, q) refl

pub lacks-append : (s : ℕ) (xs ys : List ℕ) → lacks s xs ≡ true → lacks s ys ≡ true → lacks s (xs ++ ys) ≡ true
lacks-append s [] ys none rest = rest
lacks-append s (x ∷ xs) ys none rest =
    let parts = and_parts (not (nat_eq x s)) (lacks s xs) none in
    both (not (nat_eq x s)) (lacks s (xs ++ ys)) parts.0 (lacks-append s xs ys parts.1 rest)

other_byte : (s b : ℕ) → b ≢ s → not (nat_eq b s) ≡ true
other_byte s b other = grind (arith, nat_tests)

pub lacks-cons : (s b : ℕ) (xs : List ℕ) → b ≢ s → lacks s xs ≡ true → lacks s (b ∷ xs) ≡ true
lacks-cons s b xs other rest = both (not (nat_eq b s)) (lacks s xs) (other_byte s b other) rest

-- by place
pub lacks-by_place : (s : ℕ) (xs : List ℕ) → ((i : ℕ) → i < length xs → get_or xs i 0 ≢ s) → lacks s xs ≡ true
lacks-by_place s [] other = refl
lacks-by_place s (x ∷ xs) other = lacks-cons s x xs (other 0 (omega arith)) (lacks-by_place s xs (λ i h. other (suc i) (omega arith)))
