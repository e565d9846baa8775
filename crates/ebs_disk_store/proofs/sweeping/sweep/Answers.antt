use Rattle.std.proofs.Common.{◌∙◌}
use Rattle.ebs_holds.specs.Holds.{nodes_in}
use Rattle.ebs_disk_store.proofs.sweeping.sweep.Goals as goal

pub collect_all-requires : goal.collect_all-requires
collect_all-requires c = c.blocks_stay.ensures.counted (nodes_in c.args.kept.now.holding) (nodes_in c.give_up_ended.new.self.holding) c.args.slots.now c.give_up_ended.ensures.blocks c.requires

pub returns-clause-machine : goal.returns-clause-machine
returns-clause-machine c = c.collect_all.ensures.machine ∙ c.give_up_ended.ensures.machine

pub returns-clause-shared : goal.returns-clause-shared
returns-clause-shared c = c.collect_all.ensures.shared c.give_up_ended.ensures.shown
