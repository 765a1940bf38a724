use Rattle.std.proofs.Common.{◌≡◌, ◌+◌, ◌≤◌, length}
use Rattle.std.specs.Str.Lines.{lines}
use Rattle.job_script.specs.Script.{script_of}
use Rattle.job_script.proofs.ScriptParts.{with_jobs}
use Rattle.job_script.proofs.script.parse_script.Given as goal

-- the jobs so far, before what the rest is
abbrev pub invariant-loop-line : goal.invariant-loop-line
invariant-loop-line l = record {
  bounded : l.number + length l.rest ≤ 1 + length l.bytes;
  same : with_jobs l.jobs (script_of l.number (lines l.rest)) ≡ script_of 1 (lines l.bytes);
}

abbrev pub decreases-loop-line : goal.decreases-loop-line
decreases-loop-line l = length l.rest
