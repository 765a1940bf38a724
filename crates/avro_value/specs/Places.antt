-- Places and heads of blocks as the program has them; for private clauses.
use Rattle.std.specs.Prelude.{ℕ, List, option_map}
use Rattle.avro_schema.specs.Reading.{BlockHead}
use Rattle.avro_value.specs.declared.blocks.BlockHead as lent
use Rattle.avro_value.specs.declared.place.Place.{Place}

-- something that was read, with what is left
abbrev pub found_at : {A : Type 0} → A × Place → (A × ℕ) × List ℕ
found_at x = ((x.0, x.1.left), x.1.bytes.now)

abbrev pub head_view : lent.BlockHead → BlockHead
head_view head = (head.count, option_map (λ size. (size.len, size.left)) head.size)
