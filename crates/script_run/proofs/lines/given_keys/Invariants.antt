use Rattle.std.proofs.Common.{◌≡◌, take}
use Rattle.script_run.proofs.lines.given_keys.Given as goal

-- the keys so far
abbrev pub invariant-loop-key : goal.invariant-loop-key
invariant-loop-key l = l.given ≡ take l.key-index l.keys
