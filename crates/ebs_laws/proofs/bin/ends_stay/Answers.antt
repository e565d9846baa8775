use Rattle.ebs_laws.proofs.Binned.{ends-stay, goes-at-end}
use Rattle.ebs_laws.proofs.bin.ends_stay.Goals as goal

pub returns-clause-stay : goal.returns-clause-stay
returns-clause-stay c = ends-stay

pub returns-clause-gone : goal.returns-clause-gone
returns-clause-gone c = goes-at-end
