use Rattle.std.proofs.Common.{◌≡◌, vec_len, map}
use Rattle.std.specs.FinMap as fin
use Rattle.ebs_tables.specs.Full.{full}
use Rattle.ebs_restored_rows.specs.Placed.{put_all}
use Rattle.ebs_restored_rows.proofs.Putting.{with_index}
use Rattle.ebs_restored_rows.proofs.snapshots.index_slots.Given as goal

abbrev pub invariant-index : goal.invariant-index
invariant-index l = put_all with_index (full l.put) l.rest.items ≡ fin.from_entries (map (λ i. (i, tt)) l.fn.indexes)

abbrev pub decreases-index : goal.decreases-index
decreases-index l = vec_len l.rest
