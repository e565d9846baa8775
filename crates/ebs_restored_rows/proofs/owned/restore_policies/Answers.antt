use Rattle.std.proofs.Common.{Some, refl, ◌∙◌}
use Rattle.std.proofs.lemmas.List.Elements.{All-pop}
use Rattle.ebs_catalog.specs.Held.{rows_in}
use Rattle.ebs_restored_rows.specs.Placed.{with_policy}
use Rattle.ebs_restored_rows.specs.Restores.{MayRestorePolicy}
use Rattle.ebs_restored_rows.proofs.Putting.{put-next}
use Rattle.ebs_restored_rows.proofs.owned.restore_policies.Goals as goal

pub restore_policy-requires : goal.restore_policy-requires
restore_policy-requires c =
    let may = (All-pop MayRestorePolicy c.policy.rows.items c.pop.new.self.items (Some c.in-Some.policy) c.in-Some.ensures.items c.policy.invariant.may).1 in
    record { sound = record { place = refl; schedule = may.schedule; retain = may.retain } }

pub policy-preserved : goal.policy-preserved
policy-preserved c =
    let before = rows_in c.policy.catalog in
    let rest = c.pop.new.self.items in
    let popped = All-pop MayRestorePolicy c.policy.rows.items rest (Some c.in-Some.policy) c.in-Some.ensures.items c.policy.invariant.may in
    record {
      may = popped.0;
      rows = put-next with_policy before (rows_in c.restore_policy.new.self) c.policy.rows.items rest c.in-Some.policy _ c.in-Some.ensures.items c.in_ok-restore_policy.ensures.rows c.policy.invariant.rows;
      latest = c.restore_policy.ensures.latest ∙ c.policy.invariant.latest;
    }
