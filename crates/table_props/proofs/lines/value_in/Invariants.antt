use Rattle.std.proofs.Common.{◌≡◌, drop, map}
use Rattle.table_props.specs.PropsTexts.{value_in}
use Rattle.table_props.proofs.lines.value_in.Given as goal

-- none of the lines so far gives the key a value
abbrev pub invariant-loop-line : goal.invariant-loop-line
invariant-loop-line l = value_in l.key (map (λ line. line.now) l.lines) ≡ value_in l.key (map (λ line. line.now) (drop l.line-index l.lines))
