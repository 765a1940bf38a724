use Rattle.byte_fields.proofs.VarintLemmas.{unzigzag-zigzag, zigzag-unzigzag, zigzag_fits-16, zigzag_fits-32, zigzag_fits-64}
use Rattle.byte_fields.proofs.laws.zigzag_pairs.Goals as goal

pub returns-clause-there : goal.returns-clause-there
returns-clause-there c = unzigzag-zigzag

pub returns-clause-back : goal.returns-clause-back
returns-clause-back c = zigzag-unzigzag

pub returns-clause-width16 : goal.returns-clause-width16
returns-clause-width16 c = zigzag_fits-16

pub returns-clause-width32 : goal.returns-clause-width32
returns-clause-width32 c = zigzag_fits-32

pub returns-clause-width64 : goal.returns-clause-width64
returns-clause-width64 c = zigzag_fits-64
