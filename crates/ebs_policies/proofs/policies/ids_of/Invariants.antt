use Rattle.std.proofs.Common.{◌≡◌, ◌++◌, map}
use Rattle.ebs_model.specs.declared.keys.AnyKey.TheVariants.{Policy}
use Rattle.ebs_policies.proofs.policies.ids_of.Given as goal

-- the policies so far, with those that are still to come, are all
abbrev pub invariant-loop-key : goal.invariant-loop-key
invariant-loop-key l = l.ids ++ map (λ e. Policy e.0) l.key-iterator ≡ map (λ e. Policy e.0) l.initial.key-iterator
