use Rattle.std.proofs.Common.{◌∙◌, sym, ap, List}
use Rattle.ebs_world.specs.inner.Held.{shown}
use Rattle.ebs_world.specs.inner.Log.{present}
use Rattle.ebs_world.specs.declared.log.Step.{Step}
use Rattle.ebs_world.proofs.Calls.{settles}
use Rattle.ebs_world.proofs.log.Log.new.Goals as goal

pub invariant_of-result : goal.invariant_of-result
invariant_of-result c = record {
  agrees = λ spoiled a i. c.new-3.ensures.bytes a i ∙ sym (ap (λ (l : List Step). (present (shown c.new.result) l).now a i) c.new-2.ensures.items ∙ c.new.ensures.bytes a i);
  settled = settles (shown c.new.result) c.new-2.result.items;
}
