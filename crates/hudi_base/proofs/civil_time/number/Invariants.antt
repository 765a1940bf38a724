use Rattle.std.proofs.Common.{◌≡◌, ◌^◌, ◌<◌, take}
use Rattle.hudi_base.specs.InstantTime.{digits_value}
use Rattle.hudi_base.proofs.civil_time.number.Given as goal

-- the number that the digits so far write
abbrev pub invariant-loop-digit : goal.invariant-loop-digit
invariant-loop-digit l =
    (l.number ≡ digits_value 0 (take l.digit-index l.digits)) × (l.number < 10 ^ l.digit-index)
