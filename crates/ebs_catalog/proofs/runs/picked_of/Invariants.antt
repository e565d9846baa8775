use Rattle.std.proofs.Common.{◌++◌}
use Rattle.std.specs.List.{flat_map, AllByRecursion}
use Rattle.std.specs.List.Sorted.{IsPermutation}
use Rattle.ebs_model.specs.Retention.{is_ended, is_released}
use Rattle.ebs_lifecycle.specs.Retention.{AreStarted, keys_of}
use Rattle.ebs_catalog.proofs.runs.picked_of.Given as goal

-- what is given up so far, with that of the groups that are still to come, is all
abbrev pub invariant-loop-made : goal.invariant-loop-made
invariant-loop-made l = record {
  ended : IsPermutation (flat_map (λ e. keys_of (is_ended l.policy.retain e.1 l.at.second) e.1) l.initial.made-iterator) (l.ended.items ++ flat_map (λ e. keys_of (is_ended l.policy.retain e.1 l.at.second) e.1) l.made-iterator);
  released : IsPermutation (flat_map (λ e. keys_of (is_released l.policy.retain e.1 l.at.second) e.1) l.initial.made-iterator) (l.released.items ++ flat_map (λ e. keys_of (is_released l.policy.retain e.1 l.at.second) e.1) l.made-iterator);
  starts : AllByRecursion (λ e. AreStarted e.1) l.made-iterator;
}
