use Rattle.std.proofs.Common.{◌∙◌}
use Rattle.std.specs.FinMap as fin
use Rattle.ebs_commands.proofs.Listed.{listed}
use Rattle.ebs_commands.proofs.ticking.tick.Goals as goal

pub run_each-requires-clause-policies : goal.run_each-requires-clause-policies
run_each-requires-clause-policies g c = c.as_slice.ensures ∙ (c.in-Ok.ensures ∙ listed (fin.entries c.args.store.now.recorded.policies))
