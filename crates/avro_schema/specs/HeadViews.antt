-- Heads as the program has them; for private clauses.
use Rattle.serde_json.specs.View.{view, items_view}
use Rattle.avro_schema.specs.declared.head.Head as lent
use Rattle.avro_schema.specs.declared.head.Head.TheVariants.{Leaf, Array, Map, Union, Record}
use Rattle.avro_schema.specs.AvroTypes.{type_of}
use Rattle.avro_schema.specs.Heads.{Head, leaf, array, map, union, record_head}

-- what is lent, without where it lies
abbrev pub head_view : lent.Head → Head
head_view (Leaf schema) = leaf (type_of schema)
head_view (Array value) = array (view value.now)
head_view (Map value) = map (view value.now)
head_view (Union values) = union (items_view values.now)
head_view (Record name values) = record_head name.now (items_view values.now)
