-- The first that passes, in two lists one after the other.
use Rattle.std.proofs.Common.{◌≡◌, Bool, true, false, cond, List, [], ◌∷◌, ◌++◌, Option, Some, None, refl}
use Rattle.std.specs.List.{find}

front_step : {X : Type 0} (b : Bool) (y x : X) (rest more : Option X) → (rest ≡ Some x → more ≡ Some x) → cond b (Some y) rest ≡ Some x → cond b (Some y) more ≡ Some x
front_step true y x rest more on e = e
front_step false y x rest more on e = on e

pub found_front : {X : Type 0} (test : X → Bool) (xs ys : List X) (x : X) → find test xs ≡ Some x → find test (xs ++ ys) ≡ Some x
found_front test [] ys x e = absurd cc
found_front test (y ∷ xs) ys x e = front_step (test y) y x (find test xs) (find test (xs ++ ys)) (found_front test xs ys x) e

back_step : {X : Type 0} (b : Bool) (y : X) (rest more other : Option X) → (rest ≡ None → more ≡ other) → cond b (Some y) rest ≡ None → cond b (Some y) more ≡ other
back_step true y rest more other on e = absurd cc
back_step false y rest more other on e = on e

pub found_back : {X : Type 0} (test : X → Bool) (xs ys : List X) → find test xs ≡ None → find test (xs ++ ys) ≡ find test ys
found_back test [] ys e = refl
found_back test (y ∷ xs) ys e = back_step (test y) y (find test xs) (find test (xs ++ ys)) (find test ys) (found_back test xs ys) e
