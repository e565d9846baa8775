-- The members of the calls on lifecycle policies as a table, that the first bad one is the one that is named, and that no other counts.
use Rattle.std.specs.Prelude.{[], ◌∷◌, codes, ◌≡◌, ℕ, List}
use Rattle.ebs_members.specs.Sources.{Members}
use Rattle.ebs_members.specs.Kinds as kind
use Rattle.ebs_members.specs.Policies as policy_kind
use Rattle.ebs_rest.specs.Calls as call
use Rattle.ebs_rest.specs.inner.Order.{Tried, must, may, first_bad, refused_for, object_members, Agree}

abbrev pub policy_members : Members → Tried
policy_members body =
    must body (codes "TargetTags") policy_kind.targets
    ∷ must body (codes "Schedule") policy_kind.schedule
    ∷ must body (codes "RetainRule") policy_kind.retention
    ∷ may body (codes "TagsToAdd") kind.tags
    ∷ []

abbrev pub policy_id_members : Members → Tried
policy_id_members path = must path (codes "policyId") policy_kind.policy ∷ []

-- whatever is bad, the first bad member of the table is named, and a later one never
abbrev pub CreatePolicyNames : Type 0
CreatePolicyNames = (bytes : List ℕ) → refused_for (call.create_policy bytes) ≡ first_bad (object_members bytes policy_members)

abbrev pub GetPolicyNames : Type 0
GetPolicyNames = (path : Members) → refused_for (call.get_policy path) ≡ first_bad (policy_id_members path)

abbrev pub DeletePolicyNames : Type 0
DeletePolicyNames = (path : Members) → refused_for (call.delete_policy path) ≡ first_bad (policy_id_members path)

abbrev pub RunPolicyNames : Type 0
RunPolicyNames = (path : Members) → refused_for (call.run_policy path) ≡ first_bad (policy_id_members path)

-- what stands under a name that the table doesn't list changes nothing
abbrev pub CreatePolicyOthers : Type 0
CreatePolicyOthers = (body another : Members) → Agree (codes "TargetTags" ∷ codes "Schedule" ∷ codes "RetainRule" ∷ codes "TagsToAdd" ∷ []) body another
    → call.policy_of body ≡ call.policy_of another

abbrev pub GetPolicyOthers : Type 0
GetPolicyOthers = (path other : Members) → Agree (codes "policyId" ∷ []) path other → call.get_policy path ≡ call.get_policy other

abbrev pub DeletePolicyOthers : Type 0
DeletePolicyOthers = (path other : Members) → Agree (codes "policyId" ∷ []) path other → call.delete_policy path ≡ call.delete_policy other

abbrev pub RunPolicyOthers : Type 0
RunPolicyOthers = (path other : Members) → Agree (codes "policyId" ∷ []) path other → call.run_policy path ≡ call.run_policy other
