use Rattle.ebs_service.proofs.Counts.{counted}
use Rattle.ebs_service.proofs.laws.failures_are_counted.Goals as goal

pub returns : goal.returns
returns g c s t old new exchanges chain = counted g.S.Promise.sound _ g.D.Disk.view exchanges s t old new chain
