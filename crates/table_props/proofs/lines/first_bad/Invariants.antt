use Rattle.std.proofs.Common.{◌≡◌, [], drop, map, take}
use Rattle.table_props.specs.PropsTexts.{first_bad}
use Rattle.table_props.proofs.lines.first_bad.Given as goal

-- none of the lines so far is refused
abbrev pub invariant-loop-i : goal.invariant-loop-i
invariant-loop-i l =
    first_bad [] (map (λ line. line.now) l.lines)
    ≡ first_bad (map (λ line. line.now) (take l.i l.lines)) (map (λ line. line.now) (drop l.i l.lines))
