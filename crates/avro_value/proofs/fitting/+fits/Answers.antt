use Rattle.std.proofs.Common.{arith}
use Rattle.avro_value.proofs.FitLemmas.{branch_fits, no_branch_fits, fields_length}
use Rattle.avro_value.proofs.fitting.+fits.Goals as goal

pub fits_branch-returns-then-index-branches : goal.fits_branch-returns-then-index-branches
fits_branch-returns-then-index-branches t c =
    (λ never. absurd cc, λ fits. absurd (no_branch_fits c.args.branches.now c.args.index c.args.value.now (omega arith) fits))

pub fits_branch-returns : goal.fits_branch-returns
fits_branch-returns t c =
    let branch = branch_fits c.args.branches.now c.args.index c.index-branches-index.result c.args.value.now (omega arith) c.index-branches-index.is in
    (λ yes. branch.0 (c.fits.ensures.0 yes), λ fits. c.fits.ensures.1 (branch.1 fits))

pub fields_fit-returns-then-fields-values : goal.fields_fit-returns-then-fields-values
fields_fit-returns-then-fields-values t c =
    (λ never. absurd cc, λ fits. absurd (c.if-fields-values.true (fields_length c.args.fields.now c.args.values.now fits)))
