use Rattle.std.proofs.Common.{◌≡◌, rules}
use Rattle.avro_schema.specs.AvroTypes.{type_of}
use Rattle.avro_schema.specs.Written.{written}
use Rattle.avro_value.proofs.DecodeLemmas.{written_again, written_reading}
use Rattle.avro_value.proofs.writing.encode.Goals as goal

pub returns-in-Ok-clause-reading : goal.returns-in-Ok-clause-reading
returns-in-Ok-clause-reading c = λ fits.
    let same : c.from_vec.result ≡ written c.args.value.now = search rules in
    written_reading (type_of c.args.schema.now) c.args.value.now c.from_vec.result same fits

pub returns-in-Ok-clause-reads_back : goal.returns-in-Ok-clause-reads_back
returns-in-Ok-clause-reads_back c = λ fits few rest.
    let same : c.from_vec.result ≡ written c.args.value.now = search rules in
    written_again (type_of c.args.schema.now) c.args.value.now c.from_vec.result same fits rest few
