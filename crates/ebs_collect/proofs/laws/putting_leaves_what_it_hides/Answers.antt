use Rattle.ebs_collect.proofs.Covering.{putting}
use Rattle.ebs_collect.proofs.laws.putting_leaves_what_it_hides.Goals as goal

pub returns : goal.returns
returns c = putting
