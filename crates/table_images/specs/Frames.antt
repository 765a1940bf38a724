-- Which file an operation is about.
use Rattle.std.specs.Prelude.{ℕ, List}
use Rattle.hudi_base.specs.declared.operation.Operation.{Operation}
use Rattle.hudi_base.specs.declared.operation.Operation.TheVariants.{Create, Append, Remove}

abbrev pub name_of_operation : Operation → List ℕ
name_of_operation (Create name bytes) = name
name_of_operation (Append name bytes) = name
name_of_operation (Remove name) = name
