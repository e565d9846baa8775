use Rattle.ebs_laws.proofs.Keys.{keys-empty, keys-step, keys-run}
use Rattle.ebs_laws.proofs.uploads.keys_are_places.Goals as goal

pub returns-clause-start : goal.returns-clause-start
returns-clause-start c = keys-empty

pub returns-clause-each_call : goal.returns-clause-each_call
returns-clause-each_call c = keys-step

pub returns-clause-run : goal.returns-clause-run
returns-clause-run c = keys-run
