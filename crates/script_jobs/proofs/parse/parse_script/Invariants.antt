use Rattle.std.proofs.Common.{◌≡◌, ◌+◌, ◌≤◌, length}
use Rattle.std.specs.Str.Lines.{lines}
use Rattle.script_jobs.specs.Begun.{begun_view}
use Rattle.script_jobs.specs.Scripts.{jobs_from, nothing}
use Rattle.script_jobs.proofs.parse.parse_script.Given as goal

-- the jobs so far and those of the rest are those of all lines
abbrev pub invariant-loop-line : goal.invariant-loop-line
invariant-loop-line l = record {
  bounded : l.number + length l.rest ≤ 1 + length l.bytes;
  same : jobs_from l.lanes l.number (begun_view l.begun) (lines l.rest) ≡ jobs_from l.lanes 1 nothing (lines l.bytes);
}

abbrev pub decreases-loop-line : goal.decreases-loop-line
decreases-loop-line l = length l.rest
