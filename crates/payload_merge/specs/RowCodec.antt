-- What a codec of rows answers.
use Rattle.std.specs.Prelude.{◌≡◌, ℕ, List, Option, Some, None, Result, Ok, Err, IsOk}
use Rattle.payload_merge.specs.declared.row.Write.{Write}
use Rattle.payload_merge.specs.declared.row_error.RowError.{RowError}
use Rattle.payload_merge.specs.declared.row_error.RowError.TheVariants.{Memory, BadContent}

-- An answer to what a content or cells hold: that, or exactly the place at which they have no reading. Memory may be
-- wanting at any time, and nothing else comes.
abbrev pub AnswersContent : {A : Type 0} → Result A ℕ → Result A RowError → Type 0
AnswersContent content (Ok held) = content ≡ Ok held
AnswersContent content (Err (BadContent place)) = content ≡ Err place
AnswersContent content (Err error) = error ≡ Memory

-- The answer of a reader that lends: the writes that a content holds, exactly where it can be lent; none where it has a
-- reading but can't be; or exactly the offset at which it has no reading. Memory may be wanting at any time. `view`
-- turns what was lent into writes.
abbrev pub AnswersLent :
    {A : Type 0} → (A → List Write) → Result (List Write) ℕ → Type 0 → Result (Option A) RowError → Type 0
AnswersLent view content lends (Ok (Some writes)) = lends × (content ≡ Ok (view writes))
AnswersLent view content lends (Ok None) = (¬ lends) × IsOk content
AnswersLent view content lends (Err (BadContent offset)) = content ≡ Err offset
AnswersLent view content lends (Err error) = error ≡ Memory
