use Rattle.ebs_laws.proofs.Permitted.{sharing-so}
use Rattle.ebs_laws.proofs.sharing.sharing_is_as_asked.Goals as goal

pub returns : goal.returns
returns c = sharing-so
