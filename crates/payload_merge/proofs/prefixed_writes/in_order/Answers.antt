use Rattle.std.proofs.Common.{◌≡◌, rules}
use Rattle.std.proofs.lemmas.Fn.{always_returns_same}
use Rattle.std.proofs.lemmas.List.MinMax.{ranks_by}
use Rattle.std.specs.Ordering.{is_lt}
use Rattle.payload_merge.specs.declared.prefixed_writes.PrefixedWrite.{PrefixedWrite}
use Rattle.payload_merge.proofs.PrefixedWrites.{prefixed_total, is_lower, sorted_writes}
use Rattle.payload_merge.proofs.prefixed_writes.in_order.Goals as goal

pub returns : goal.returns
returns c =
    let lawful = ranks_by prefixed_total (λ (one : PrefixedWrite). one) in
    let compares = always_returns_same _ (λ a r. is_lt r ≡ is_lower a.0.now a.1.0.now) _ (λ a r f called. search rules) in
    sorted_writes c.args.writes.now c.in_ok-prefixed.prefixed.items c.sort_by.new.self.items c.in_ok-prefixed.ensures c.sort_by.ensures.permutation
    (c.in_ok-sort_by.ensures.sorted is_lower lawful compares) (c.sort_by.ensures.stable is_lower lawful compares)
