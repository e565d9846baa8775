use Rattle.std.proofs.Common.{◌≡◌, sym, subst, ◌∙◌}
use Rattle.ebs_model.specs.Quotas.{Rose}
use Rattle.ebs_model.specs.declared.answer.Answer.{Answer}
use Rattle.ebs_disk_store.specs.inner.Told.{at_reading}
use Rattle.ebs_disk_store.specs.inner.Turned.{Turn}
use Rattle.ebs_disk_store.specs.inner.Fetched.{Fetched}
use Rattle.ebs_disk_store.proofs.store.Store.read.Goals as goal

pub returns-clause-told : goal.returns-clause-told
returns-clause-told g c =
    let old = g.D.Disk.view c.args.disk.now in
    let new = g.D.Disk.view c.load.new.disk in
    subst (λ (a : Answer). Fetched (c.load.new.disk ≡ c.args.disk.now) (Rose old.faults new.faults) old c.args.self.now c.load.new.self c.args.account (at_reading c.args.self.now c.args.reading) c.args.request.now a)
    (sym c.judge.ensures) c.load.ensures.told

pub returns-clause-memory : goal.returns-clause-memory
returns-clause-memory g c is = c.load.ensures.memory (sym c.judge.ensures ∙ is)

pub returns-clause-step : goal.returns-clause-step
returns-clause-step g c sound told honest =
    subst (Turn (g.D.Disk.view c.args.disk.now) (g.D.Disk.view c.load.new.disk) c.args.self.now c.load.new.self c.args.account c.args.reading c.args.request.now)
    (sym c.judge.ensures) (c.load.ensures.step sound told honest)
