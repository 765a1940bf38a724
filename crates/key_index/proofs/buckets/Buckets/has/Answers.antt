use Rattle.std.proofs.Common.{◌≤◌, ◌∙◌, arith}
use Rattle.key_index.proofs.FirstTiles.{first-tested}
use Rattle.key_index.proofs.buckets.Buckets.has.Goals as goal

pub returns : goal.returns
returns c =
    let some : 1 ≤ c.args.self.now = omega (arith, c.self.view_is, c.self.invariant.0) in
    let most : c.args.self.now ≤ 1024 = omega (arith, c.self.view_is, c.self.invariant.1) in
    c.has_range.ensures
    ∙ first-tested c.args.self.now c.range_of.result.lo c.range_of.result.hi c.args.group.now some most c.range_of.ensures
