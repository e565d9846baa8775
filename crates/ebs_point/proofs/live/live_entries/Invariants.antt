use Rattle.std.proofs.Common.{◌≡◌, take}
use Rattle.std.specs.List.{filter}
use Rattle.ebs_point.specs.Live as live
use Rattle.ebs_point.proofs.live.live_entries.Given as goal

abbrev pub invariant-loop-entry : goal.invariant-loop-entry
invariant-loop-entry l = l.rows ≡ filter (live.is_live l.digests) (take l.entry-index l.entries)
