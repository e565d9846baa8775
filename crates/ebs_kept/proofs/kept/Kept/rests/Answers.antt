use Rattle.std.proofs.Common.{ap}
use Rattle.ebs_kept.specs.inner.Shown.{Form}
use Rattle.ebs_kept.proofs.Rested.{shown-rests}
use Rattle.ebs_kept.proofs.kept.Kept.rests.Goals as goal

pub returns : goal.returns
returns c = shown-rests c.self.inside c.args.self.now.machine (ap (λ (f : Form). f.machine) c.self.view_is)
