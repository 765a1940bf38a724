use Rattle.std.proofs.Common.{rules, ◌≡◌, List, [], take, subst, arith}
use Rattle.std.proofs.lemmas.List.{take_all}
use Rattle.std.proofs.lemmas.List.Sorted.{IsNonDecreasingBy-from_sort_by_key}
use Rattle.file_names.specs.declared.file_name.FileName.{FileName}
use Rattle.instant_line.specs.NameOrder.{entry_number, HaveEntries}
use Rattle.instant_line.proofs.EntryLists.{entries-more, entries-all}
use Rattle.instant_line.proofs.entries.entries_of.Goals as goal

pub loop-name-preserved : goal.loop-name-preserved
loop-name-preserved c =
    entries-more c.args.names.now c.loop-name.name-index c.name-item.result [] c.loop-name.entries.items c.push_entry.new.entries.items c.loop-name-test.true c.name-item.is
    c.loop-name.invariant c.in_ok-push_entry.ensures

pub returns-clause-same : goal.returns-clause-same
returns-clause-same c =
    let all : take c.loop-name.name-index c.args.names.now ≡ c.args.names.now = take_all c.loop-name.name-index c.args.names.now (omega arith) in
    entries-all c.args.names.now c.loop-name.entries.items c.sort_by_key.new.self.items
    (subst (λ (names : List FileName). HaveEntries names [] c.loop-name.entries.items) all c.loop-name.invariant)
    c.in_ok-sort_by_key.ensures.permutation

pub returns-clause-order : goal.returns-clause-order
returns-clause-order c = IsNonDecreasingBy-from_sort_by_key entry_number _ c.in_ok-sort_by_key.ensures.sorted (λ a r q k. search rules)
