-- The lines of entries, one after another.
use Rattle.std.proofs.Common.{◌≡◌, ℕ, ◌+◌, ◌<◌, List, [], ◌∷◌, ◌++◌, length, take, drop, get_or, refl, sym, ap, ◌∙◌, append_assoc, append-nil, add-one, Result, Ok, Err}
use Rattle.std.specs.Prelude.{OnErr}
use Rattle.std.proofs.lemmas.List.{take-append-drop}
use Rattle.std.proofs.Math.Seq.{take-suc}
use Rattle.table_history.specs.declared.entry.Mark.{Mark}
use Rattle.script_texts.specs.Marks.{mark_text, marks_text}

pub marks_text-append : (before after : List Mark) → marks_text (before ++ after) ≡ marks_text before ++ marks_text after
marks_text-append [] after = refl
marks_text-append (m ∷ before) after = ap (λ text. mark_text m ++ text) (marks_text-append before after) ∙ sym (append_assoc (mark_text m) (marks_text before) (marks_text after))

-- the first marks and the others are all of them
pub marks_text-split : (marks : List Mark) (count : ℕ) → marks_text marks ≡ marks_text (take count marks) ++ marks_text (drop count marks)
marks_text-split marks count = ap marks_text (sym (take-append-drop count marks)) ∙ marks_text-append (take count marks) (drop count marks)

-- one more mark
pub marks_text-next : (marks : List Mark) (count : ℕ) (mark : Mark) → count < length marks
    → marks_text (take (count + 1) marks) ≡ marks_text (take count marks) ++ mark_text (get_or marks count mark)
marks_text-next marks count mark within =
    ap marks_text (ap (λ (n : ℕ). take n marks) (add-one count) ∙ take-suc marks count mark within)
    ∙ marks_text-append (take count marks) (get_or marks count mark ∷ [])
    ∙ ap (λ (text : List ℕ). marks_text (take count marks) ++ text) (append-nil (mark_text (get_or marks count mark)))

-- where memory is wanting for one more, the text is a beginning
pub journal_begun : (before text : List ℕ) (marks : List Mark) (count : ℕ) → text ≡ before ++ marks_text (take count marks) → (rest : List ℕ) × (before ++ marks_text marks ≡ text ++ rest)
journal_begun before text marks count is =
    (marks_text (drop count marks), ap (λ more. before ++ more) (marks_text-split marks count) ∙ sym (append_assoc before (marks_text (take count marks)) (marks_text (drop count marks))) ∙ ap (λ t. t ++ marks_text (drop count marks)) (sym is))

pub on_err : {A E P : Type 0} (r : Result A E) → P → OnErr r P
on_err (Ok x) p = tt
on_err (Err e) p = p
