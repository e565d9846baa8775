use Rattle.ebs_lineage.proofs.HashMaps.{same-hashed}
use Rattle.ebs_lineage.proofs.kin.Kin.reserve.Goals as goal

pub returns-clause-links : goal.returns-clause-links
returns-clause-links c = rw (← c.self.view_is) (same-hashed c.self.inside.links.entries c.reserve.new.self.entries c.reserve.ensures.entries.2)
