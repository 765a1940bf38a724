use Rattle.std.proofs.Common.{Bor, List, ℕ, map, sym}
use Rattle.table_props.specs.LentEntries.{entries_view}
use Rattle.table_props.proofs.EntryLemmas.{name_allowed, buckets_allowed}
use Rattle.table_props.proofs.reading.told_in.Goals as goal

pub props_of-requires-clause-name : goal.props_of-requires-clause-name
props_of-requires-clause-name c = name_allowed (map (λ (line : Bor (List ℕ)). line.now) c.args.lines.now) (entries_view c.in-Some.entries) c.requires (sym c.in-Some.ensures)

pub props_of-requires-clause-buckets : goal.props_of-requires-clause-buckets
props_of-requires-clause-buckets c = buckets_allowed (map (λ (line : Bor (List ℕ)). line.now) c.args.lines.now) (entries_view c.in-Some.entries) c.requires (sym c.in-Some.ensures)
