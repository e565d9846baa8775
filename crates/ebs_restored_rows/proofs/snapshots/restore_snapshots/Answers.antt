use Rattle.std.proofs.Common.{Some, All, sym, subst, ◌∙◌}
use Rattle.std.proofs.lemmas.List.Elements.{All-pop}
use Rattle.ebs_model.specs.Rows.{Rows}
use Rattle.ebs_catalog.specs.Held.{rows_in}
use Rattle.ebs_restored_rows.specs.Placed.{with_snapshot}
use Rattle.ebs_restored_rows.specs.Restores.{MayRestoreSnapshot}
use Rattle.ebs_restored_rows.proofs.Putting.{put-next}
use Rattle.ebs_restored_rows.proofs.snapshots.restore_snapshots.Goals as goal

pub restore_snapshot-requires : goal.restore_snapshot-requires
restore_snapshot-requires c =
    (All-pop (MayRestoreSnapshot (rows_in c.snapshot.catalog).own) c.snapshot.rows.items c.pop.new.self.items (Some c.in-Some.point) c.in-Some.ensures.items c.snapshot.invariant.may).1

pub snapshot-preserved : goal.snapshot-preserved
snapshot-preserved c =
    let before = rows_in c.snapshot.catalog in
    let rest = c.pop.new.self.items in
    let popped = All-pop (MayRestoreSnapshot before.own) c.snapshot.rows.items rest (Some c.in-Some.point) c.in-Some.ensures.items c.snapshot.invariant.may in
    record {
      may = subst (λ (r : Rows). All (MayRestoreSnapshot r.own) rest) (sym c.in_ok-restore_snapshot.ensures.rows) popped.0;
      rows = put-next with_snapshot before (rows_in c.restore_snapshot.new.catalog) c.snapshot.rows.items rest c.in-Some.point _ c.in-Some.ensures.items c.in_ok-restore_snapshot.ensures.rows c.snapshot.invariant.rows;
      latest = c.restore_snapshot.ensures.latest ∙ c.snapshot.invariant.latest;
    }
