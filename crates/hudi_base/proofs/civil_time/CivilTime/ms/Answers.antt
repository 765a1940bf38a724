use Rattle.std.proofs.Common.{◌≡◌, pos, unsigned_abs, sym, arith}
use Rattle.std.proofs.lemmas.Int.{ints}
use Rattle.jiff_core.specs.Date.{epoch_day}
use Rattle.hudi_base.proofs.CivilLemmas.{civil_ms-date}
use Rattle.hudi_base.proofs.civil_time.CivilTime.ms.Goals as goal

pub returns : goal.returns
returns c =
    let date = c.in-Ok.date in
    let shown = c.self.inside in
    let year : date.year ≡ pos shown.year = omega (arith, ints, c.in-Ok.ensures.value) in
    let month : pos date.month ≡ pos shown.month = omega (arith, ints, c.in-Ok.ensures.value) in
    let day : pos date.day ≡ pos shown.day = omega (arith, ints, c.in-Ok.ensures.value) in
    let number : c.unsigned_abs-day.result ≡ unsigned_abs (epoch_day date) = omega (arith, ints) in
    rw (← c.self.view_is, number) (sym (civil_ms-date _ date year month day))
