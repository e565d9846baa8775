use Rattle.ebs_laws.proofs.ListReads.{secret-stays}
use Rattle.ebs_laws.proofs.lists.secret_stays.Goals as goal

pub returns : goal.returns
returns c = secret-stays
