-- The limits of lifecycle policies.
use Rattle.std.specs.Prelude.{◌≡◌, true, Some}
use Rattle.std.specs.FinMap.{get}
use Rattle.ebs_model.specs.declared.keys.PolicyKey.{PolicyKey}
use Rattle.ebs_model.specs.declared.policy.Policy.{Policy}
use Rattle.ebs_model.specs.Limits.{are_targets, is_schedule, is_retain, are_tags}
use Rattle.ebs_model.specs.Rows.{Rows}
use Rattle.ebs_lawful.specs.Ends.{IsMoment}

-- the policy stands at its own key, and what it says is within its limits
pub record IsPolicy (key : PolicyKey) (policy : Policy) : Type 0 where
  pub place : policy.key ≡ key
  pub targets : are_targets policy.targets ≡ true
  pub schedule : is_schedule policy.hours policy.at ≡ true
  pub retain : is_retain policy.retain ≡ true
  pub add : are_tags policy.add ≡ true
  pub last : IsMoment policy.last

abbrev pub ArePolicies : Rows → Type 0
ArePolicies rows = (key : PolicyKey) (policy : Policy) → get rows.policies key ≡ Some policy → IsPolicy key policy
