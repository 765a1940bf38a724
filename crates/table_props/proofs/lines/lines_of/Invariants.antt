use Rattle.std.proofs.Common.{◌≡◌, ◌++◌, length, map}
use Rattle.table_props.specs.PropsTexts.{lines_of}
use Rattle.table_props.proofs.lines.lines_of.Given as goal

-- the lines so far, and those of what is left
abbrev pub invariant-lines : goal.invariant-lines
invariant-lines l = lines_of l.text ≡ map (λ line. line.now) l.lines.items ++ lines_of l.rest

abbrev pub decreases-lines : goal.decreases-lines
decreases-lines l = length l.rest
