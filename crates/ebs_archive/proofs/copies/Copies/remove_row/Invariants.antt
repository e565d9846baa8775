use Rattle.std.proofs.Common.{◌≡◌, false}
use Rattle.std.specs.FinMap.{get, len}
use Rattle.ebs_tables.specs.Full.{full}
use Rattle.ebs_archive.specs.declared.copy_key.CopyKey.{CopyKey}
use Rattle.ebs_archive.specs.Keys.{in_row, without_row}
use Rattle.ebs_archive.proofs.copies.Copies.remove_row.Given as goal

abbrev pub invariant-loop-index : goal.invariant-loop-index
invariant-loop-index l =
    (without_row (full l.self) l.key ≡ without_row (full l.fn.self) l.key)
    × ((q : CopyKey) → in_row l.key q ≡ false → get l.self q ≡ get l.fn.self q)

abbrev pub decreases-loop-index : goal.decreases-loop-index
decreases-loop-index l = len (full l.self)
