use Rattle.std.proofs.Common.{◌≡◌, ◌/◌, pos, unsigned_abs, sym, arith}
use Rattle.std.proofs.lemmas.Int.{ints}
use Rattle.jiff_core.specs.Date.{epoch_day}
use Rattle.hudi_base.proofs.CivilLemmas.{civil_of-date}
use Rattle.hudi_base.proofs.civil_time.CivilTime.of_ms.Goals as goal

pub returns : goal.returns
returns c =
    let date = c.in-Ok.date in
    let day : epoch_day date ≡ pos (c.args.ms / 86_400_000) = omega (arith, ints, c.in-Ok.ensures.value) in
    let year : c.unsigned_abs.result ≡ unsigned_abs date.year = omega (arith, ints) in
    rw year (sym (civil_of-date c.args.ms date c.requires day))
