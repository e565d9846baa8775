use Rattle.ebs_world.specs.Image.{Everywhere}
use Rattle.ebs_world.proofs.Calls.{stays}
use Rattle.ebs_world.proofs.memory_disk.MemoryDiskDisk.sync.Goals as goal

pub returns-then-count_call-clause-ran : goal.returns-then-count_call-clause-ran
returns-then-count_call-clause-ran c = stays Everywhere c.args.self.now.log _ _ c.raise.ensures.later
