-- The files that a stop leaves. This project's own.
use Rattle.std.specs.Prelude.{ℕ, List, [], take, slice_get, Option, Some, None}
use Rattle.hudi_base.specs.declared.operation.Operation.{Operation}
use Rattle.hudi_base.specs.declared.operation.Operation.TheVariants.{Append}
use Rattle.store_mem.specs.Files.{FileHistory, after_operations}
use Rattle.store_mem.specs.MemStore.{left_by}

-- what is done of an operation within which a stop comes: of an append so many of its first bytes, and else nothing
abbrev pub begun : ℕ → Operation → List Operation
begun most (Append name bytes) = left_by name (take most bytes)
begun most _ = []

abbrev pub with_begun : ℕ → Option Operation → FileHistory → FileHistory
with_begun most None history = history
with_begun most (Some next) history = after_operations history (begun most next)

-- after the first so many operations, and within the next one
abbrev pub stopped : FileHistory → ℕ → ℕ → FileHistory
stopped history done most =
    with_begun most (slice_get history.operations done) (record history { operations = take done history.operations })
