use Rattle.ebs_journal.proofs.Reasons.{reason_one}
use Rattle.ebs_journal.proofs.laws.one_refusal.Goals as goal

pub returns : goal.returns
returns c i first second one two = reason_one i first second one two
