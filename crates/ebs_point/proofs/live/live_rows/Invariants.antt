use Rattle.std.proofs.Common.{◌≡◌, take}
use Rattle.ebs_point.specs.Live as live
use Rattle.ebs_point.proofs.live.live_rows.Given as goal

abbrev pub invariant-loop-node : goal.invariant-loop-node
invariant-loop-node l = l.rows ≡ live.live_rows l.digests (take l.node-index l.nodes)
