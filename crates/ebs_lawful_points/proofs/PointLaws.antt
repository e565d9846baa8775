-- What a checkpoint with all rules says is lawful.
use Rattle.ebs_model.specs.Quotas.{most_changes}
use Rattle.ebs_lawful_points.specs.PointLaws.{PointsAreLawful}
use Rattle.ebs_lawful_points.proofs.Taken.{within, stamped}
use Rattle.ebs_lawful_points.proofs.SnapPoints.{no_more, moment-of, snaps-fit}
use Rattle.ebs_lawful_points.proofs.VolPoints.{vols-fit, policies-fit, books-fit}
use Rattle.ebs_lawful_points.proofs.OwnPoints.{tokens-fit, owners-fit}
use Rattle.ebs_lawful_points.proofs.QuotaPoints.{quotas-of-point}

pub points-lawful : PointsAreLawful
points-lawful point rules =
    let inside = within point rules in record {
      counts = record { clock = moment-of point.clock inside.clock; changes = no_more point.accepted most_changes inside.accepted; stamps = no_more point.next_stamp point.accepted (stamped point rules) };
      snaps = snaps-fit point rules;
      vols = vols-fit point rules;
      books = books-fit point rules;
      policies = policies-fit point rules;
      tokens = tokens-fit point rules;
      own = owners-fit point rules;
      quotas = quotas-of-point point rules;
    }
