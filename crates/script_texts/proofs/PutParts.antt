-- Adding one text after another.
use Rattle.std.proofs.Common.{◌≡◌, ℕ, ◌≤◌, List, ◌++◌, length, take, Result, Ok, Err, ap, ◌∙◌, sym, subst, append_assoc, arith}
use Rattle.std.proofs.Math.Seq.{take-append_seam}
use Rattle.std.proofs.lemmas.List.{length-append, take-take}
use Rattle.std.specs.Prelude.{IsErr}
use Rattle.script_texts.specs.Putting.{Puts}

pub begins_longer : (old text new : List ℕ) → take (length (old ++ text)) new ≡ old ++ text → take (length old) new ≡ old
begins_longer old text new is =
    let shorter : length old ≤ length (old ++ text) = omega (arith, length-append old text) in
    sym (take-take (length old) (length (old ++ text)) new shorter) ∙ ap (take (length old)) is ∙ take-append_seam old text

-- a text behind one that was added
pub puts_then : {E : Type 0} (r : Result (Unit {0}) E) (old middle new first second : List ℕ) → middle ≡ old ++ first → Puts r middle new second
    → Puts r old new (first ++ second)
puts_then (Ok _) old middle new first second adds then = then ∙ ap (λ text. text ++ second) adds ∙ append_assoc old first second
puts_then (Err _) old middle new first second adds then =
    begins_longer old first new (subst (λ (text : List ℕ). take (length text) new ≡ text) adds then)

-- a text that couldn't be added whole
pub puts_failed : {E : Type 0} (r : Result (Unit {0}) E) (old new text : List ℕ) → IsErr r → take (length old) new ≡ old → Puts r old new text
puts_failed (Ok done) old new text failed is = cc
puts_failed (Err error) old new text failed is = is
