use Rattle.std.proofs.Common.{Some, All, sym, subst, ◌∙◌}
use Rattle.std.proofs.lemmas.List.Elements.{All-pop}
use Rattle.ebs_model.specs.Rows.{Rows}
use Rattle.ebs_catalog.specs.Held.{rows_in}
use Rattle.ebs_restored_rows.specs.Placed.{with_volume}
use Rattle.ebs_restored_rows.specs.Restores.{MayRestoreVolume}
use Rattle.ebs_restored_rows.proofs.Putting.{put-next}
use Rattle.ebs_restored_rows.proofs.owned.restore_volumes.Goals as goal

pub restore_volume-requires-clause-owner : goal.restore_volume-requires-clause-owner
restore_volume-requires-clause-owner c =
    (All-pop (MayRestoreVolume (rows_in c.volume.catalog).own) c.volume.rows.items c.pop.new.self.items (Some c.in-Some.volume) c.in-Some.ensures.items c.volume.invariant.may).1.owner

pub restore_volume-requires-clause-size : goal.restore_volume-requires-clause-size
restore_volume-requires-clause-size c =
    (All-pop (MayRestoreVolume (rows_in c.volume.catalog).own) c.volume.rows.items c.pop.new.self.items (Some c.in-Some.volume) c.in-Some.ensures.items c.volume.invariant.may).1.size

pub volume-preserved : goal.volume-preserved
volume-preserved c =
    let before = rows_in c.volume.catalog in
    let rest = c.pop.new.self.items in
    let popped = All-pop (MayRestoreVolume before.own) c.volume.rows.items rest (Some c.in-Some.volume) c.in-Some.ensures.items c.volume.invariant.may in
    record {
      may = subst (λ (r : Rows). All (MayRestoreVolume r.own) rest) (sym c.in_ok-restore_volume.ensures.rows) popped.0;
      rows = put-next with_volume before (rows_in c.restore_volume.new.self) c.volume.rows.items rest c.in-Some.volume _ c.in-Some.ensures.items c.in_ok-restore_volume.ensures.rows c.volume.invariant.rows;
      latest = c.restore_volume.ensures.latest ∙ c.volume.invariant.latest;
    }
