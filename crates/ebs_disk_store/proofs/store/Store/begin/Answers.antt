use Rattle.ebs_world.specs.declared.area.Area.TheVariants.{Blocks}
use Rattle.ebs_journal.specs.inner.Line.{line}
use Rattle.ebs_holds.specs.Holds.{nodes_in}
use Rattle.ebs_disk_store.proofs.Created.{new_sound}
use Rattle.ebs_disk_store.proofs.store.Store.begin.Goals as goal

pub invariant_of-result : goal.invariant_of-result
invariant_of-result g c = new_sound c.new.result.machine c.args.secret c.new-2.result c.new.result.holding.queue.waiting (nodes_in c.new.result.holding) (line c.args.journal)
    c.new.ensures.machine c.new-2.ensures (c.new.ensures.counted Blocks) c.requires.end c.requires.clean
