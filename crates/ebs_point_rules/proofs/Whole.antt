-- A checkpoint that says a lawful machine at rest has all rules.
use Rattle.std.proofs.Common.{subst, sym}
use Rattle.ebs_model.specs.Machine.{Machine}
use Rattle.ebs_checkpoints.specs.declared.checkpoint.Checkpoint.{Checkpoint}
use Rattle.ebs_checkpoint_rules.specs.Rules.{HasRules}
use Rattle.ebs_recovery.specs.inner.Bases.{machine_of}
use Rattle.ebs_lawful_points.specs.Blocks.{HasStamps}
use Rattle.ebs_lawful_points.proofs.PointRules.{laws-give-rules}
use Rattle.ebs_point_rules.specs.Blocks.{AreShown, AreGiven}
use Rattle.ebs_point_rules.specs.Laws.{IsSettled, IsLaidOut, PointHasAllRules, ShownPointHasAllRules}
use Rattle.ebs_point_rules.proofs.Blocks.{shown-given, stamps-stored}
use Rattle.ebs_point_rules.proofs.FitArrays.{arrays-fit}
use Rattle.ebs_point_rules.proofs.FitStates.{states-fit}
use Rattle.ebs_point_rules.proofs.Spelled.{rules-spell}

all-rules : (point : Checkpoint) → IsSettled (machine_of point) → IsLaidOut point → AreGiven point → HasRules point
all-rules point settled laid given =
    let order = laid.order in
    let law = settled.lawful in
    let rows = laws-give-rules point order law in
    record {
      ordered = order.ordered;
      within = rows.0;
      owned = rows.1;
      in_quotas = rows.2;
      stored = stamps-stored point law.counts given laid.slots laid.moved;
      forest = laid.forest;
      states = states-fit point order.ordered law settled.rests laid.moved laid.nodes;
      arrays = arrays-fit point order.ordered settled.arrays laid.moved;
    }

pub point-rules : PointHasAllRules
point-rules m point settled is laid given =
    let rules = all-rules point (subst IsSettled (sym is) settled) laid given in
    record { spelling = rules-spell point rules laid.values; rules = rules }

pub shown-rules : ShownPointHasAllRules
shown-rules m point settled of is laid shown =
    point-rules m point settled is laid (shown-given point (subst HasStamps (sym is) of) (subst (λ (n : Machine). AreShown n point) (sym is) shown))
