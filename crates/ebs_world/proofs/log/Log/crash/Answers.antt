use Rattle.std.proofs.Common.{◌∙◌, ap, take, List}
use Rattle.ebs_world.specs.declared.log.Step.{Step}
use Rattle.ebs_world.specs.inner.Held.{shown}
use Rattle.ebs_world.specs.inner.Log.{present}
use Rattle.ebs_world.specs.inner.Logged.{log_state}
use Rattle.ebs_world.specs.inner.Crash.{picked}
use Rattle.ebs_world.proofs.Calls.{settles}
use Rattle.ebs_world.proofs.Crashed.{picked_image}
use Rattle.ebs_world.proofs.log.Log.crash.Goals as goal

pub returns-clause-image : goal.returns-clause-image
returns-clause-image c t le =
    let first = shown c.args.self.now.first in
    record {
      k = c.args.moment;
      later = le;
      made = c.requires;
      image = λ a i clean. c.in_ok-bytes.ensures.bytes a i ∙ c.in_ok-first.ensures a i
          ∙ ap (λ (l : List Step). picked c.args.pick (present first (take c.args.moment l)) a i) c.deref.ensures.value
          ∙ picked_image c.args.pick (log_state c.args.self.now c.args.moment) (settles first (take c.args.moment c.args.self.now.steps.items)) a i clean;
    }
