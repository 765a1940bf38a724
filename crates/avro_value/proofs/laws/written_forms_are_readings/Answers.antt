use Rattle.avro_value.proofs.ReadingsFit.{fits_of}
use Rattle.avro_value.proofs.WrittenLemmas.{written_is}
use Rattle.avro_value.proofs.laws.written_forms_are_readings.Goals as goal

pub returns-clause-written : goal.returns-clause-written
returns-clause-written c = written_is

pub returns-clause-fits : goal.returns-clause-fits
returns-clause-fits c = fits_of
