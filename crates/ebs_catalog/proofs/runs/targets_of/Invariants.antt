use Rattle.std.proofs.Common.{◌≡◌, ◌++◌, map}
use Rattle.std.specs.List.{filter}
use Rattle.ebs_model.specs.declared.keys.AnyKey.TheVariants.{Vol}
use Rattle.ebs_catalog.specs.Runs.{is_own_target}
use Rattle.ebs_catalog.proofs.runs.targets_of.Given as goal

-- the volumes so far, with those that are still to come, are all
abbrev pub invariant-loop-volume : goal.invariant-loop-volume
invariant-loop-volume l =
    l.ids ++ map (λ e. Vol e.0) (filter (is_own_target l.account l.policy) l.volume-iterator) ≡ map (λ e. Vol e.0) (filter (is_own_target l.account l.policy) l.initial.volume-iterator)
