use Rattle.ebs_laws.proofs.VolumeMade.{volume-asked}
use Rattle.ebs_laws.proofs.volumes.volume_is_as_asked.Goals as goal

pub returns : goal.returns
returns c = volume-asked
