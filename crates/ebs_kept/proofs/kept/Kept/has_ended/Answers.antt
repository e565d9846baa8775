use Rattle.std.proofs.Common.{ap}
use Rattle.ebs_holds.specs.Holds.{held_in}
use Rattle.ebs_catalog.specs.Held.{rows_in}
use Rattle.ebs_kept.specs.inner.Shown.{Form}
use Rattle.ebs_kept.proofs.Rested.{rests-until}
use Rattle.ebs_kept.proofs.Walked.{first-before}
use Rattle.ebs_kept.proofs.kept.Kept.has_ended.Goals as goal

pub next_unshown-requires : goal.next_unshown-requires
next_unshown-requires c = first-before c.args.now.second (rows_in c.self.inside.catalog) (held_in c.self.inside.holdings) c.first_holder.result c.first_holder.ensures

pub returns-in-None : goal.returns-in-None
returns-in-None c _ key = rests-until c.self.inside c.args.self.now.machine (ap (λ (f : Form). f.machine) c.self.view_is) c.args.now c.requires c.in-None.ensures.none key
