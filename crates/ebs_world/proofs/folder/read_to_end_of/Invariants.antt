use Rattle.std.proofs.Common.{◌≤◌, length}
use Rattle.ebs_world.proofs.folder.read_to_end_of.Given as goal

abbrev pub invariant-loop : goal.invariant-loop
invariant-loop g l = l.count ≤ length l.room
