use Rattle.std.proofs.Common.{◌≡◌, ◌≤◌, true}
use Rattle.std.specs.List.{count_by}
use Rattle.std.specs.FinMap.{entries}
use Rattle.ebs_world.specs.Image.{Everywhere}
use Rattle.ebs_world.specs.View.{Ran}
use Rattle.ebs_disk_store.specs.Checked.{is_damaged}
use Rattle.ebs_disk_store.proofs.Checks.{always, below, slot_in}
use Rattle.ebs_disk_store.proofs.checking.check_slots.Given as goal

abbrev pub invariant-loop-slot : goal.invariant-loop-slot
invariant-loop-slot g l = record {
  few : l.checked.blocks ≤ l.slot;
  fewer : l.checked.damaged ≤ l.checked.blocks;
  blocks : l.checked.blocks ≡ count_by (below slot_in always l.slot) (entries l.slots.keys);
  damaged : (g.D.Disk.view l.fn.disk).tells ≡ true → l.checked.damaged ≡ count_by (below slot_in (is_damaged (g.D.Disk.view l.fn.disk).reads l.digests) l.slot) (entries l.slots.keys);
  ran : Ran Everywhere (g.D.Disk.view l.fn.disk) (g.D.Disk.view l.disk);
}
