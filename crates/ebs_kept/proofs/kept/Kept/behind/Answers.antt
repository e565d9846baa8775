use Rattle.std.proofs.Common.{sym, subst}
use Rattle.ebs_slots.specs.inner.Slots.{no_slots}
use Rattle.ebs_collect.specs.Slices.{IsCounted}
use Rattle.ebs_holds.specs.Holds.{nodes_in}
use Rattle.ebs_kept.specs.inner.Shown.{Form}
use Rattle.ebs_kept.proofs.kept.Kept.behind.Goals as goal

pub returns-clause-counted : goal.returns-clause-counted
returns-clause-counted c = λ area. subst (λ (f : Form). IsCounted (no_slots area) (nodes_in f.holding)) (sym c.kept.view_is) (c.new-kept.ensures.counted area)
