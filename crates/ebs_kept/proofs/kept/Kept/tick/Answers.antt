use Rattle.std.proofs.Common.{sym, subst, ap}
use Rattle.ebs_catalog.specs.Held.{rows_in}
use Rattle.ebs_kept.specs.inner.Shown.{Form, IsSound}
use Rattle.ebs_kept.specs.inner.Counted.{IsAllShown}
use Rattle.ebs_kept.proofs.AsKept.{ticked, reached}
use Rattle.ebs_kept.proofs.Sound.{sound-advance}
use Rattle.ebs_kept.proofs.kept.Kept.tick.Goals as goal

pub returns-clause-machine : goal.returns-clause-machine
returns-clause-machine c = ticked c.self.inside c.args.self.now.machine (ap (λ (f : Form). f.machine) c.self.view_is) c.args.now c.requires.later

pub invariant_of-self : goal.invariant_of-self
invariant_of-self c =
    let sound = subst IsSound (ap (λ (f : Form). f.machine) c.self.view_is) c.self.invariant.0 in (
      subst IsSound (sym (ticked c.self.inside c.args.self.now.machine (ap (λ (f : Form). f.machine) c.self.view_is) c.args.now c.requires.later)) (sound-advance c.args.self.now.machine c.args.now sound c.requires.early),
      (
        reached c.self.inside c.args.self.now.machine (ap (λ (f : Form). f.machine) c.self.view_is) c.args.now c.requires.later c.self.invariant.1.0,
        λ set.
            subst (λ n. IsAllShown n (rows_in c.self.inside.catalog) c.self.inside.holdings) (sym (c.stays_settled-self-inside.ensures.same set)) (c.self.invariant.1.1 (c.stays_settled-self-inside.ensures.settled set)),
      ),
    )
