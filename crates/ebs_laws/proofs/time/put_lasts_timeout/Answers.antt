use Rattle.ebs_laws.proofs.Fields.{put-lasts}
use Rattle.ebs_laws.proofs.time.put_lasts_timeout.Goals as goal

pub returns : goal.returns
returns c = put-lasts
