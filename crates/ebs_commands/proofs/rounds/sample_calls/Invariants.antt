use Rattle.std.proofs.Common.{◌≡◌, ◌∷◌}
use Rattle.ebs_commands.specs.Samples.{rounds_below}
use Rattle.ebs_commands.specs.declared.rounds.SampleCall.TheVariants.{CreateVolume}
use Rattle.ebs_commands.proofs.rounds.sample_calls.Given as goal

-- the rounds before this one were pushed
abbrev pub invariant-loop-round : goal.invariant-loop-round
invariant-loop-round l = l.calls.items ≡ CreateVolume ∷ rounds_below l.round
