-- Adding one text after another.
use Rattle.std.proofs.Common.{◌≡◌, ℕ, ◌≤◌, List, ◌++◌, length, take, Result, Ok, Err, ap, ◌∙◌, sym, subst, append_assoc, arith}
use Rattle.std.proofs.Math.Seq.{take-append_seam}
use Rattle.std.proofs.lemmas.List.{length-append, take-take}
use Rattle.job_script.specs.Putting.{Puts}

begins-longer : (old text new : List ℕ) → take (length (old ++ text)) new ≡ old ++ text → take (length old) new ≡ old
begins-longer old text new is =
    let shorter : length old ≤ length (old ++ text) = omega (arith, length-append old text) in
    sym (take-take (length old) (length (old ++ text)) new shorter) ∙ ap (take (length old)) is ∙ take-append_seam old text

-- a text behind one that was added
pub puts_then : {E : Type 0} (r : Result (Unit {0}) E) (old middle new first second : List ℕ) → middle ≡ old ++ first → Puts r middle new second
    → Puts r old new (first ++ second)
puts_then (Ok _) old middle new first second adds then = then ∙ ap (λ text. text ++ second) adds ∙ append_assoc old first second
puts_then (Err _) old middle new first second adds then =
    begins-longer old first new (subst (λ (text : List ℕ). take (length text) new ≡ text) adds then)
