use Rattle.std.proofs.Common.{◌≡◌, replicate}
use Rattle.base_writer.proofs.PartLemmas.{no_part}
use Rattle.base_writer.proofs.groups.GroupPages.new.Given as goal

abbrev pub invariant-loop-page : goal.invariant-loop-page
invariant-loop-page l = l.pages.items ≡ replicate l._page no_part
