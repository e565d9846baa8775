use Rattle.std.proofs.Common.{◌≡◌, ◌+◌, ◌<◌, ◌^◌}
use Rattle.std.specs.List.{count_by}
use Rattle.std.specs.FinMap.{get}
use Rattle.ebs_tables.specs.Full.{held}
use Rattle.ebs_model.specs.Keys.{snap_cmp}
use Rattle.ebs_catalog.specs.Counts.{is_open}
use Rattle.ebs_catalog.proofs.counts.count_open.Given as goal

abbrev pub invariant-loop-key : goal.invariant-loop-key
invariant-loop-key l =
    (l.count + count_by (λ e. is_open l.account l.at.second e.0 (get (held snap_cmp l.snaps) e.0)) l.key-iterator ≡ count_by (λ e. is_open l.account l.at.second e.0 (get (held snap_cmp l.snaps) e.0)) l.initial.key-iterator)
    × (count_by (λ e. is_open l.account l.at.second e.0 (get (held snap_cmp l.snaps) e.0)) l.initial.key-iterator < 2 ^ 63)
