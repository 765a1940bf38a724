-- Times that are equal in their order are the same.
use Rattle.std.proofs.Common.{◌≡◌, ℕ, Bool, true, false, List, refl, ◌∙◌, ap, arith}
use Rattle.std.specs.Prelude.{◌==◌, ◌||◌, cond}
use Rattle.std.specs.List.{list_any}
use Rattle.std.specs.Ordering.{nat_cmp, is_eq}
use Rattle.std.proofs.lemmas.Bool.Decides.{nat_tests}
use Rattle.table_query.specs.GroupReading.{is_among}

number-tied : (a b : ℕ) → is_eq (nat_cmp a b) ≡ (a == b)
number-tied a b = grind (arith, nat_tests)

number-flip : (a b : ℕ) → (a == b) ≡ (b == a)
number-flip a b = grind (arith, nat_tests)

pub has-among : (keys : List ℕ) (t : ℕ) → list_any (λ k. is_eq (nat_cmp t k)) keys ≡ is_among keys t
has-among keys t = λ i. list_any (λ k. number-tied t k i) keys

or-cond : (b x : Bool) → cond b true x ≡ (b || x)
or-cond true x = refl
or-cond false x = refl

pub inserted-among : (keys : List ℕ) (t other : ℕ)
    → cond (is_eq (nat_cmp t other)) true (list_any (λ k. is_eq (nat_cmp other k)) keys) ≡ ((other == t) || is_among keys other)
inserted-among keys t other =
    ap (λ (b : Bool). cond b true (list_any (λ k. is_eq (nat_cmp other k)) keys)) (number-tied t other ∙ number-flip t other)
    ∙ or-cond (other == t) (list_any (λ k. is_eq (nat_cmp other k)) keys)
    ∙ ap (λ (b : Bool). (other == t) || b) (has-among keys other)
