-- A line for each entry.
use Rattle.std.specs.Prelude.{ℕ, List, [], ◌∷◌, ◌++◌, codes, decimal, get_or, map, reverse}
use Rattle.table_core.specs.Marks.{mark_of}
use Rattle.table_history.specs.Histories.{History}
use Rattle.table_history.specs.declared.entry.Mark.{Mark}

abbrev pub line_end : List ℕ
line_end = 10 ∷ []

-- the names of steps, in the order of their numbers from 0
abbrev pub step_names : List (List ℕ)
step_names =
    codes "begin" ∷ codes "enter" ∷ codes "append" ∷ codes "create_base" ∷ codes "finish"
    ∷ codes "plan_compaction" ∷ codes "plan_cluster" ∷ codes "plan_clean" ∷ codes "begin_rollback" ∷ codes "remove"
    ∷ codes "withdraw" ∷ codes "pin" ∷ codes "unpin" ∷ codes "read" ∷ codes "abandon" ∷ []

-- the names of replies, in the order of their numbers from 0
abbrev pub reply_names : List (List ℕ)
reply_names =
    codes "began" ∷ codes "entered" ∷ codes "placed" ∷ codes "made_base" ∷ codes "completed" ∷ codes "conflict"
    ∷ codes "planned" ∷ codes "nothing" ∷ codes "taken" ∷ codes "pinned" ∷ codes "bytes" ∷ codes "removed"
    ∷ codes "not_retained" ∷ codes "not_completed" ∷ codes "time_over" ∷ codes "not_a_group" ∷ codes "too_narrow"
    ∷ codes "busy" ∷ codes "done" ∷ codes "fault" ∷ codes "damaged" ∷ []

-- the name that a number has; a number without a name is shown by nothing
unfoldable pub name_in : List (List ℕ) → ℕ → List ℕ
name_in names number = get_or names number []

-- mark <lane> <line> <step> <reply> <a> <b>
abbrev pub mark_text : Mark → List ℕ
mark_text m =
    codes "mark " ++ decimal m.lane ++ codes " " ++ decimal m.line ++ codes " " ++ name_in step_names m.step
    ++ codes " " ++ name_in reply_names m.reply ++ codes " " ++ decimal m.a ++ codes " " ++ decimal m.b ++ line_end

abbrev pub marks_text : List Mark → List ℕ
marks_text [] = []
marks_text (m ∷ ms) = mark_text m ++ marks_text ms

-- one line an entry, the first entry first
abbrev pub journal_text : History → List ℕ
journal_text H = marks_text (map mark_of (reverse H))
