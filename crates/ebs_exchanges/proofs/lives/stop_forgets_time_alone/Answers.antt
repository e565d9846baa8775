use Rattle.ebs_exchanges.proofs.Later.{time_alone}
use Rattle.ebs_exchanges.proofs.lives.stop_forgets_time_alone.Goals as goal

pub returns : goal.returns
returns c = time_alone c.time_passes_in_parts.ensures
