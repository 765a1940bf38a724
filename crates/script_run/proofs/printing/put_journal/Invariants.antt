use Rattle.std.proofs.Common.{◌≡◌, ◌++◌, take}
use Rattle.script_texts.specs.Marks.{marks_text}
use Rattle.script_run.proofs.printing.put_journal.Given as goal

-- the lines of the first marks were added
abbrev pub invariant-loop-mark : goal.invariant-loop-mark
invariant-loop-mark l = l.text.items ≡ l.fn.text.items ++ marks_text (take l.mark-index l.marks)
