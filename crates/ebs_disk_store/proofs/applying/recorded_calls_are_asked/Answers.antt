use Rattle.ebs_disk_store.proofs.AsAsked.{recorded_asked}
use Rattle.ebs_disk_store.proofs.applying.recorded_calls_are_asked.Goals as goal

pub returns : goal.returns
returns c = recorded_asked
