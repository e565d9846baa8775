use Rattle.std.proofs.Common.{refl}
use Rattle.ebs_commands.specs.inner.Collects.{used}
use Rattle.ebs_commands.proofs.Collected.{ended_early, told}
use Rattle.ebs_commands.proofs.collecting.collect_and_tell.Goals as goal

pub returns-in-Ok-clause-collects : goal.returns-in-Ok-clause-collects
returns-in-Ok-clause-collects g c = record {
  collects = c.collect_store.ensures.collects;
  ends = told _ _ c.tell.result _ _ _ c.in-Ok.ensures.end (rw c.usage.ensures at c.tell.ensures);
}

pub returns-in-Err-clause-collects : goal.returns-in-Err-clause-collects
returns-in-Err-clause-collects g c = record { collects = c.collect_store.ensures.collects; ends = ended_early _ _ c.in-Err.end (used c.collect_store.new.store.slots) _ _ c.in-Err.ensures.end refl }
