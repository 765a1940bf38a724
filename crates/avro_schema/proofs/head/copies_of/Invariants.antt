use Rattle.std.proofs.Common.{◌≡◌, map, take}
use Rattle.avro_schema.proofs.head.copies_of.Given as goal

-- the names so far
abbrev pub invariant-loop-name : goal.invariant-loop-name
invariant-loop-name l = l.symbols ≡ map (λ name. name.now) (take l.name-index l.names)
