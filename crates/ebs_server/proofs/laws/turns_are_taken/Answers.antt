use Rattle.ebs_server.proofs.Taking.{taking}
use Rattle.ebs_server.proofs.laws.turns_are_taken.Goals as goal

pub returns : goal.returns
returns g c = λ first v w exchanges chain. taking g.S.Promise.sound g.D.Disk.view first exchanges v w chain
