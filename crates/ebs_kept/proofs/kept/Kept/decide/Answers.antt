use Rattle.std.proofs.Common.{sym, subst, ap}
use Rattle.ebs_model.specs.Rows.{Rows}
use Rattle.ebs_model.specs.Decide.{decide}
use Rattle.ebs_model.specs.inner.Follows.{Agrees}
use Rattle.ebs_catalog.specs.Wants.{OnMemory, MayWant}
use Rattle.ebs_kept.specs.inner.Shown.{Form}
use Rattle.ebs_kept.proofs.AsKept.{rows-at, reached}
use Rattle.ebs_kept.proofs.kept.Kept.decide.Goals as goal

pub returns : goal.returns
returns c =
    let is = rows-at c.self.inside c.args.self.now.machine (ap (λ (f : Form). f.machine) c.self.view_is) c.args.now c.requires.later in
    record {
      decided = subst (λ (rows : Rows). Agrees c.decide.result (decide rows c.args.now c.args.account c.args.request.now)) (sym is) c.decide.ensures.decided;
      memory = subst (λ (rows : Rows). OnMemory c.decide.result (MayWant c.args.request.now (decide rows c.args.now c.args.account c.args.request.now))) (sym is) c.decide.ensures.memory;
    }

pub decide-requires-clause-later : goal.decide-requires-clause-later
decide-requires-clause-later c = reached c.self.inside c.args.self.now.machine (ap (λ (f : Form). f.machine) c.self.view_is) c.args.now c.requires.later c.self.invariant.1.0
