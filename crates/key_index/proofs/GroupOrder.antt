-- Groups that are equal in their order are the same.
use Rattle.std.proofs.Common.{◌≡◌, ℕ, Bool, true, false, ◌&&◌, List, refl, sym, ◌∙◌, ap, arith}
use Rattle.std.specs.Prelude.{◌==◌, ◌||◌, cond}
use Rattle.std.specs.List.{list_any}
use Rattle.std.specs.Cmp.{both_tied}
use Rattle.std.specs.Ordering.{nat_cmp, is_eq}
use Rattle.std.specs.Str.{bytes_eq}
use Rattle.std.proofs.lemmas.Map.Text.{is_eq-slice_cmp}
use Rattle.std.proofs.lemmas.Bool.Decides.{nat_tests, same_from_decides}
use Rattle.std.proofs.lemmas.Slice.Eq.{bytes_eq-Decides}
use Rattle.hudi_base.specs.declared.file_group.GroupRef.{GroupRef}
use Rattle.hudi_base.specs.contracts.file_group.GroupRefOrd.TheImpl.{cmp-value}
use Rattle.key_index.specs.Tiling.{is_same_group, is_among}

number-tied : (a b : ℕ) → (a == b) ≡ is_eq (nat_cmp a b)
number-tied a b = grind (arith, nat_tests)

pub order-same : (x y : GroupRef) → is_same_group x y ≡ is_eq (cmp-value.it x y)
order-same x y = both_tied _ _ _ _ (sym (is_eq-slice_cmp x.partition y.partition))
    (both_tied _ _ _ _ (number-tied x.lo y.lo) (both_tied _ _ _ _ (number-tied x.hi y.hi) (number-tied x.born y.born)))

number-flip : (a b : ℕ) → (a == b) ≡ (b == a)
number-flip a b = grind (arith, nat_tests)

bytes-flip : (xs ys : List ℕ) → bytes_eq xs ys ≡ bytes_eq ys xs
bytes-flip xs ys =
    same_from_decides (bytes_eq xs ys) (bytes_eq ys xs) (bytes_eq-Decides xs ys)
    (λ e. sym ((bytes_eq-Decides ys xs).0 e), λ same. (bytes_eq-Decides ys xs).1 (sym same))

same-flip : (x y : GroupRef) → is_same_group x y ≡ is_same_group y x
same-flip x y = λ i.
    bytes-flip x.partition y.partition i && (number-flip x.lo y.lo i && (number-flip x.hi y.hi i && number-flip x.born y.born i))

-- what a set has
pub has-among : (keys : List GroupRef) (group : GroupRef) → list_any (λ k. is_eq (cmp-value.it group k)) keys ≡ is_among keys group
has-among keys group = λ i. list_any (λ k. sym (order-same group k) i) keys

or-cond : (b x : Bool) → cond b true x ≡ (b || x)
or-cond true x = refl
or-cond false x = refl

-- what it has besides
pub inserted-among : (keys : List GroupRef) (copied group other : GroupRef) → copied ≡ group
    → cond (is_eq (cmp-value.it copied other)) true (list_any (λ k. is_eq (cmp-value.it other k)) keys) ≡ (is_same_group other group || is_among keys other)
inserted-among keys copied group other same =
    ap (λ b. cond b true (list_any (λ k. is_eq (cmp-value.it other k)) keys)) (sym (order-same copied other) ∙ same-flip copied other ∙ ap (is_same_group other) same)
    ∙ or-cond (is_same_group other group) (list_any (λ k. is_eq (cmp-value.it other k)) keys)
    ∙ ap (λ b. is_same_group other group || b) (has-among keys other)
