use Rattle.ebs_model.specs.Tiers.{tier_at}
use Rattle.ebs_tier.proofs.Undone.{archived_is, undone}
use Rattle.ebs_tier.proofs.laws.archive_is_undone.Goals as goal

pub returns : goal.returns
returns c tier archived at later e = undone archived later (archived_is (tier_at tier at) archived e)
