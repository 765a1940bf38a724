use Rattle.std.proofs.Common.{subst}
use Rattle.key_index.proofs.TileRunLemmas.{run-tiling, run-order}
use Rattle.key_index.specs.Tiling.{Tiling, IsTiling, AreInOrder}
use Rattle.key_index.proofs.tiles.Tiles.groups.Goals as goal

pub returns-clause-tiling : goal.returns-clause-tiling
returns-clause-tiling c = subst (λ (t : Tiling). IsTiling t.groups) c.self.view_is (run-tiling _ c.self.invariant)

pub returns-clause-order : goal.returns-clause-order
returns-clause-order c = subst (λ (t : Tiling). AreInOrder t.groups) c.self.view_is (run-order 0 _ c.self.invariant)
