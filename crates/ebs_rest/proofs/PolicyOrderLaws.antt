-- The first bad member of a call on lifecycle policies is named, and others change nothing.
use Rattle.std.proofs.Common.{◌≡◌, List, [], ◌∷◌, codes, Option, Some, None, is_some, refl}
use Rattle.std.specs.Option.{option_and_then, unwrap_or}
use Rattle.std.specs.declared.result.Result.TheVariants.{Ok}
use Rattle.ebs_model.specs.declared.tags.Tag.{Tag}
use Rattle.ebs_model.specs.declared.policy.Retain.{Retain}
use Rattle.ebs_model.specs.declared.request.Request.TheVariants.{CreatePolicy, GetPolicy, DeletePolicy, RunPolicy}
use Rattle.ebs_model.specs.Refuse.{◌>>=◌}
use Rattle.serde_json.specs.Data.{Data}
use Rattle.ebs_members.specs.declared.policies.Schedule.{Schedule}
use Rattle.ebs_members.specs.Sources.{need, in_body, body_of, if_any}
use Rattle.ebs_members.specs.Kinds as kind
use Rattle.ebs_members.specs.Policies as policy_kind
use Rattle.ebs_rest.specs.Calls as call
use Rattle.ebs_rest.specs.inner.Order.{first_bad, refused_for, in_object}
use Rattle.ebs_rest.specs.inner.PolicyOrder.{policy_members, CreatePolicyNames, GetPolicyNames, DeletePolicyNames, RunPolicyNames, CreatePolicyOthers, GetPolicyOthers, DeletePolicyOthers, RunPolicyOthers}
use Rattle.ebs_rest.proofs.OrderLaws.{key_named}

policy_named : (targets : Option (List Tag)) (schedule : Option Schedule) (retain : Option Retain) (add : Option (Option (List Tag)))
    → refused_for (need (codes "TargetTags") targets >>= λ t. need (codes "Schedule") schedule >>= λ s. need (codes "RetainRule") retain >>= λ r. need (codes "TagsToAdd") add >>= λ a. Ok (CreatePolicy t s.hours s.at r (unwrap_or a [])))
    ≡ first_bad ((codes "TargetTags", is_some targets) ∷ (codes "Schedule", is_some schedule) ∷ (codes "RetainRule", is_some retain) ∷ (codes "TagsToAdd", is_some add) ∷ [])
policy_named None schedule retain add = refl
policy_named (Some t) None retain add = refl
policy_named (Some t) (Some s) None add = refl
policy_named (Some t) (Some s) (Some r) None = refl
policy_named (Some t) (Some s) (Some r) (Some a) = refl

created_named : (body : Option Data)
    → refused_for (need (codes "body") body >>= λ b. call.policy_of (in_body b)) ≡ first_bad ((codes "body", is_some body) ∷ in_object policy_members body)
created_named None = refl
created_named (Some b) =
    policy_named (option_and_then policy_kind.targets (in_body b (codes "TargetTags"))) (option_and_then policy_kind.schedule (in_body b (codes "Schedule")))
    (option_and_then policy_kind.retention (in_body b (codes "RetainRule"))) (if_any kind.tags (in_body b (codes "TagsToAdd")))

pub create_policy_names : CreatePolicyNames
create_policy_names bytes = created_named (body_of bytes)

pub get_policy_names : GetPolicyNames
get_policy_names path = key_named (codes "policyId") GetPolicy (option_and_then policy_kind.policy (path (codes "policyId")))

pub delete_policy_names : DeletePolicyNames
delete_policy_names path = key_named (codes "policyId") DeletePolicy (option_and_then policy_kind.policy (path (codes "policyId")))

pub run_policy_names : RunPolicyNames
run_policy_names path = key_named (codes "policyId") RunPolicy (option_and_then policy_kind.policy (path (codes "policyId")))

pub create_policy_others : CreatePolicyOthers
create_policy_others body another h = rw (h.0, h.1.0, h.1.1.0, h.1.1.1.0) refl

pub get_policy_others : GetPolicyOthers
get_policy_others path other h = rw h.0 refl

pub delete_policy_others : DeletePolicyOthers
delete_policy_others path other h = rw h.0 refl

pub run_policy_others : RunPolicyOthers
run_policy_others path other h = rw h.0 refl
