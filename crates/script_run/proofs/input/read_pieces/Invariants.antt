use Rattle.std.proofs.Common.{◌≡◌, ◌+◌, ◌-◌, ◌≤◌, ◌++◌, option_map, vec_len}
use Rattle.script_jobs.specs.Scripts.{most_script_bytes}
use Rattle.script_run.proofs.input.read_pieces.Given as goal

-- what has come and what is left are what was left at first
abbrev pub invariant-pieces : goal.invariant-pieces
invariant-pieces g l = record {
  come : option_map (λ left. l.bytes.items ++ left) (g.R.Source.state l.source).left ≡ (g.R.Source.state l.fn.source).left;
  count : (g.R.Source.state l.fn.source).faults ≤ (g.R.Source.state l.source).faults;
}

abbrev pub decreases-pieces : goal.decreases-pieces
decreases-pieces g l = most_script_bytes + 1 - vec_len l.bytes
