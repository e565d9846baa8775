use Rattle.ebs_model.specs.Tiers.{tier_at}
use Rattle.ebs_tier.proofs.Undone.{restored_is, ends}
use Rattle.ebs_tier.proofs.laws.restore_ends.Goals as goal

pub returns : goal.returns
returns c tier restored days at e = ends days at restored (restored_is (tier_at tier at) days at restored e)
