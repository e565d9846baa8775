use Rattle.ebs_checkpoint_rules.proofs.Told.{told, bears}
use Rattle.ebs_checkpoint_rules.proofs.points.read_checkpoint.Goals as goal

pub returns-in-Value-clause-value : goal.returns-in-Value-clause-value
returns-in-Value-clause-value c = told c.args.bytes.now c.in-Value.point c.judged.result c.in-Value.ensures.0 c.in-Value.ensures.1 c.judged.ensures

pub returns-in-Value-clause-named : goal.returns-in-Value-clause-named
returns-in-Value-clause-named c = bears c.in-Value.point c.judged.result c.judged.ensures
