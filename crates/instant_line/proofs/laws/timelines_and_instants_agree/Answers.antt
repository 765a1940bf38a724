use Rattle.instant_line.proofs.LineLaws.{stage-one, line-same, files-unbroken, line-of-files}
use Rattle.instant_line.proofs.laws.timelines_and_instants_agree.Goals as goal

pub returns-clause-one_stage : goal.returns-clause-one_stage
returns-clause-one_stage c = stage-one

pub returns-clause-same_line : goal.returns-clause-same_line
returns-clause-same_line c = line-same

pub returns-clause-unbroken : goal.returns-clause-unbroken
returns-clause-unbroken c = files-unbroken

pub returns-clause-one_line : goal.returns-clause-one_line
returns-clause-one_line c = line-of-files
