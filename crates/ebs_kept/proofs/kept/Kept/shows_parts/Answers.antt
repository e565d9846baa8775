use Rattle.std.proofs.Common.{refl}
use Rattle.ebs_kept.proofs.kept.Kept.shows_parts.Goals as goal

pub returns : goal.returns
returns c = rw (← c.self.view_is) (record { snaps = refl; own = refl; tokens = refl; vols = refl; disks = refl; books = refl; policies = refl })
