-- Pieces that come and go, one after another.
use Rattle.std.proofs.Common.{◌≡◌, ℕ, zero, suc, ◌+◌, ◌≤◌, List, [], ◌∷◌, ◌++◌, length, take, drop, Option, Some, None, option_map, IfSome, refl, sym, ap, ◌∙◌, arith, append_assoc}
use Rattle.std.proofs.lemmas.List.{append-nil, take-append-drop}
use Rattle.script_run.specs.Ends.{Writes}

taken_further : (bytes : List ℕ) (done count : ℕ) → done ≤ length bytes → take done bytes ++ take count (drop done bytes) ≡ take (done + count) bytes
taken_further bytes zero count h = let e : 0 + count ≡ count = omega arith in rw e refl
taken_further [] (suc done) count h = absurd (omega arith)
taken_further (b ∷ bytes) (suc done) count h =
    let e : suc done + count ≡ suc (done + count) = omega arith in
    rw e (ap (λ more. b ∷ more) (taken_further bytes done count (omega arith)))

-- one more piece is written
pub written_more : (before mid after : Option (List ℕ)) (bytes : List ℕ) (done count : ℕ) → Writes before mid (take done bytes) → Writes mid after (take count (drop done bytes))
    → done ≤ length bytes → Writes before after (take (done + count) bytes)
written_more None mid after bytes done count first next h = rw (next, first) refl
written_more (Some written) mid after bytes done count first next h =
    rw (next, first) (ap Some (append_assoc written (take done bytes) _ ∙ ap (λ more. written ++ more) (taken_further bytes done count h)))

pub written_none : (before : Option (List ℕ)) (bytes : List ℕ) → Writes before before (take 0 bytes)
written_none None bytes = refl
written_none (Some written) bytes = ap Some (sym (append-nil written))

-- one more piece comes
pub come_more : (before mid after : Option (List ℕ)) (come : List ℕ) (count : ℕ) (piece : List ℕ)
    → option_map (λ left. come ++ left) mid ≡ before → after ≡ option_map (drop count) mid → IfSome mid (λ left. piece ≡ take count left)
    → option_map (λ left. (come ++ piece) ++ left) after ≡ before
come_more before None after come count piece first next taken = rw next first
come_more before (Some left) after come count piece first next taken =
    rw (next, taken) (ap Some (append_assoc come (take count left) (drop count left) ∙ ap (λ rest. come ++ rest) (take-append-drop count left)) ∙ first)

pub come_none : (before : Option (List ℕ)) → option_map (λ left. [] ++ left) before ≡ before
come_none None = refl
come_none (Some left) = refl

pub ruleset ends = (written_more, written_none, come_more, come_none)
