use Rattle.ebs_catalog.proofs.Places.{placed}
use Rattle.ebs_catalog.proofs.catalog.Catalog.keeps_places.Goals as goal

pub returns : goal.returns
returns c = rw (← c.self.view_is) (λ key row found. placed _ c.self.invariant.0.0 key row found)
