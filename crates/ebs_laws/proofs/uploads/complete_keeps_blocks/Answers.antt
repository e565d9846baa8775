use Rattle.ebs_laws.proofs.Writes.{complete-step}
use Rattle.ebs_laws.proofs.Accepts.{completes-step}
use Rattle.ebs_laws.proofs.uploads.complete_keeps_blocks.Goals as goal

pub returns-clause-accepted : goal.returns-clause-accepted
returns-clause-accepted c = completes-step

pub returns-clause-completes : goal.returns-clause-completes
returns-clause-completes c = complete-step
