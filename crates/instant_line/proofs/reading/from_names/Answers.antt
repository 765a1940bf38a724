use Rattle.std.proofs.Common.{List, sym, subst}
use Rattle.instant_line.specs.Building.{AreSound, AreItsFiles}
use Rattle.instant_line.proofs.Moves.{Begun}
use Rattle.instant_line.specs.NameOrder.{AreEntries}
use Rattle.instant_line.proofs.Builds.{names-sound, names-files}
use Rattle.instant_line.proofs.reading.from_names.Goals as goal

pub first_break-requires-clause-same : goal.first_break-requires-clause-same
first_break-requires-clause-same c = subst (λ (es : List Begun). AreEntries es c.args.names.now) (sym c.deref.ensures.value) c.in_ok-entries.ensures.same

pub line_of_entries-requires-clause-sound : goal.line_of_entries-requires-clause-sound
line_of_entries-requires-clause-sound c =
    subst AreSound (sym c.deref-2.ensures.value)
    (names-sound c.in_ok-entries.entries.items c.args.names.now c.in_ok-entries.ensures.same c.in_default.ensures)

pub returns-clause-line : goal.returns-clause-line
returns-clause-line c =
    names-files c.in_ok-entries.entries.items c.args.names.now c.in_ok-line_of_entries.field-0.line c.in_ok-entries.ensures.same
    (subst (λ (es : List Begun). AreItsFiles es c.in_ok-line_of_entries.field-0.line) c.deref-2.ensures.value c.in_ok-line_of_entries.ensures)
