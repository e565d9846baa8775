use Rattle.ebs_laws.proofs.Begun.{never-fall, ids-differ}
use Rattle.ebs_laws.proofs.starts.started_ids_differ.Goals as goal

pub returns-clause-numbers : goal.returns-clause-numbers
returns-clause-numbers c = never-fall

pub returns-clause-ids : goal.returns-clause-ids
returns-clause-ids c = ids-differ
