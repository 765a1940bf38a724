-- Places as the program has them; for private clauses.
use Rattle.script_jobs.specs.declared.init.Places as found
use Rattle.script_jobs.specs.Inits.{Places}

abbrev pub places_view : found.Places → Places
places_view p = record { key = p.key; partition = p.partition; ordering = p.ordering }
