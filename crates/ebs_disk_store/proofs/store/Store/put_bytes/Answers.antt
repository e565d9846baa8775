use Rattle.std.proofs.Common.{◌∙◌, ℕ, List, subst}
use Rattle.ebs_disk_store.specs.inner.Turned.{Turn}
use Rattle.ebs_disk_store.specs.inner.Puts.{with_bytes}
use Rattle.ebs_disk_store.proofs.store.Store.put_bytes.Goals as goal

pub returns-clause-step : goal.returns-clause-step
returns-clause-step g c sound told honest =
    subst (λ (bytes : List ℕ). Turn (g.D.Disk.view c.args.disk.now) (g.D.Disk.view c.put.new.disk) c.args.self.now c.put.new.self c.args.account c.args.reading (with_bytes c.args.head bytes) c.put.result)
    (c.in-Ok.ensures.block.0 ∙ c.into_vec.ensures) (c.put.ensures.step sound told honest)
