use Rattle.std.proofs.Common.{◌≡◌, take}
use Rattle.ebs_collect.specs.Slices.{IsCounted}
use Rattle.ebs_holds.specs.Holds.{nodes_in}
use Rattle.ebs_disk_store.specs.inner.Following.{Leads}
use Rattle.ebs_disk_store.proofs.following.follow_all.Given as goal

abbrev pub invariant-loop-payload : goal.invariant-loop-payload
invariant-loop-payload l = Leads l.initial.kept.machine l.initial.slots l.kept.machine l.slots (take l.payload-index l.payloads) × (l.behind ≡ l.payload-index) × IsCounted l.slots (nodes_in l.kept.holding)
