use Rattle.ebs_world.specs.inner.Held.{shown}
use Rattle.ebs_world.proofs.Calls.{spells_from}
use Rattle.ebs_world.proofs.log.Log.read.Goals as goal

pub returns : goal.returns
returns c = spells_from (shown c.args.self.now.bytes c.args.area) c.args.at c.show.new.room c.show.ensures
