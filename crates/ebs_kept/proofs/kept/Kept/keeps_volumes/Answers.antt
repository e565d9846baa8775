use Rattle.std.proofs.Common.{ap, subst}
use Rattle.ebs_kept.specs.inner.Shown.{Form, IsSound}
use Rattle.ebs_kept.proofs.kept.Kept.keeps_volumes.Goals as goal

pub returns : goal.returns
returns c = (subst IsSound (ap (λ (f : Form). f.machine) c.self.view_is) c.self.invariant.0).volumes
