use Rattle.std.proofs.Common.{◌≡◌, take}
use Rattle.store_mem.specs.Files.{after_operations}
use Rattle.store_mem.proofs.history.History.redo_all.Given as goal

abbrev pub invariant-loop-operation : goal.invariant-loop-operation
invariant-loop-operation l = l.self ≡ after_operations l.initial.self (take l.operation-index l.operations)
