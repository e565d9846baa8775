use Rattle.std.specs.List.{AllByRecursion}
use Rattle.ebs_model.specs.declared.policy.Policy.{Policy}
use Rattle.ebs_point_rules.specs.Values.{HasPolicyValues}
use Rattle.ebs_pointed.proofs.Listing.{IsListing}
use Rattle.ebs_pointed.proofs.policies.rows_of.Given as goal

abbrev pub invariant-loop-policy : goal.invariant-loop-policy
invariant-loop-policy l = record {
  listed : IsListing (λ (p : Policy). (p.key, p)) (λ (p : Policy). p.key) l.rows l.policy-iterator l.initial.policy-iterator;
  values : AllByRecursion HasPolicyValues l.rows;
}
