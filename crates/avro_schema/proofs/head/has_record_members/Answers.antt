use Rattle.avro_schema.proofs.Lists.{is_none_of}
use Rattle.avro_schema.proofs.head.has_record_members.Goals as goal

pub returns : goal.returns
returns c = is_none_of _ _ _ c.is_none.ensures c.least_unknown.ensures.value
