use Rattle.ebs_laws.proofs.RunBytes.{keeps-volume, run-has}
use Rattle.ebs_laws.proofs.runs.run_has_bytes.Goals as goal

pub returns-clause-bytes : goal.returns-clause-bytes
returns-clause-bytes c = run-has

pub returns-clause-volume : goal.returns-clause-volume
returns-clause-volume c = keeps-volume
