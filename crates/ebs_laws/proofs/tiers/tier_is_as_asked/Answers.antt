use Rattle.ebs_laws.proofs.Tiered.{archive-asked, restore-asked}
use Rattle.ebs_laws.proofs.tiers.tier_is_as_asked.Goals as goal

pub returns-clause-archive : goal.returns-clause-archive
returns-clause-archive c = archive-asked

pub returns-clause-restore : goal.returns-clause-restore
returns-clause-restore c = restore-asked
