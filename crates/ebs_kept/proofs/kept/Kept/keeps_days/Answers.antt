use Rattle.std.proofs.Common.{ap, subst}
use Rattle.ebs_model.specs.inner.Rules.{KeepsDays}
use Rattle.ebs_kept.specs.inner.Shown.{Form}
use Rattle.ebs_kept.proofs.kept.Kept.keeps_days.Goals as goal

pub returns : goal.returns
returns c = subst KeepsDays (ap (λ (f : Form). f.machine.books) c.self.view_is) c.keeps_days.ensures
