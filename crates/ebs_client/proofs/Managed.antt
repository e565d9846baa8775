-- The calls on lifecycle policies: each message's call is the request that it was made of.
use Rattle.std.proofs.Common.{◌≡◌, ℕ, ◌<◌, ◌^◌, List, [], ◌++◌, refl, ap, ◌∙◌, codes}
use Rattle.std.specs.declared.option.Option.TheVariants.{None}
use Rattle.std.specs.List.{AllByRecursion}
use Rattle.serde_json.specs.Data.{object}
use Rattle.ebs_model.specs.declared.keys.PolicyKey.{PolicyKey}
use Rattle.ebs_model.specs.declared.tags.Tag.{Tag}
use Rattle.ebs_model.specs.declared.policy.Retain.{Retain}
use Rattle.ebs_model.specs.declared.request.Request.TheVariants.{CreatePolicy, GetPolicy, DeletePolicy, RunPolicy}
use Rattle.ebs_model.specs.Limits.{bad_member, are_targets, is_schedule, is_retain, are_tags}
use Rattle.ebs_members.specs.Sources.{in_path, in_body}
use Rattle.ebs_rest.specs.declared.table.Operation.TheVariants as operation
use Rattle.ebs_rest.specs.Calls as call
use Rattle.ebs_client.specs.Messages.{asking, policy}
use Rattle.ebs_client.specs.Bodies.{text_of, policy_created}
use Rattle.ebs_client.specs.Reach.{IsPolicy, HasTexts}
use Rattle.ebs_client.proofs.Texts.{path_alone}
use Rattle.ebs_client.proofs.Policies.{policy_data, policy_body, policy_read}
use Rattle.ebs_client.proofs.Asked.{Answers, by_path, unless_passes}
use Rattle.ebs_client.proofs.Lines as line
use Rattle.ebs_client.proofs.Paths as path

pub creates : (account : ℕ) (targets : List Tag) (hours time : ℕ) (kept : Retain) (add : List Tag) → account < 10 ^ 12 → bad_member (CreatePolicy targets hours time kept add) ≡ None → AllByRecursion HasTexts targets → AllByRecursion HasTexts add
    → Answers (asking account (codes "POST") (codes "/policies") [] (text_of (policy_created targets hours time kept add))) account (CreatePolicy targets hours time kept add)
creates account targets hours time kept add small good texts added =
    let first = unless_passes (are_targets targets) (codes "TargetTags") _ good in
    let second = unless_passes (is_schedule hours time) (codes "Schedule") _ first.1 in
    let third = unless_passes (is_retain kept) (codes "RetainRule") _ second.1 in
    let fourth = unless_passes (are_tags add) (codes "TagsToAdd") None third.1 in
    let bytes = text_of (policy_created targets hours time kept add) in
    let request = CreatePolicy targets hours time kept add in
    by_path account (codes "POST") (codes "/policies") (codes "/policies") [] bytes operation.CreatePolicy request small refl path.policies_route refl
    (line.body_alone bytes (λ body. call.policy_of (in_body body)) (object (policy_data targets hours time kept add)) request
    (policy_body targets hours time kept add texts added second.0 third.0) (policy_read targets hours time kept add first.0 second.0 third.0 fourth.0))

pub gets : (account : ℕ) (key : PolicyKey) → account < 10 ^ 12 → IsPolicy key → Answers (asking account (codes "GET") (policy key) [] []) account (GetPolicy key)
gets account key small is =
    let plain = path.policy_bytes key is in
    let source = in_path (codes "/policies/{policyId}") (policy key) in
    by_path account (codes "GET") (policy key) (codes "/policies/{policyId}") [] [] operation.GetPolicy (GetPolicy key) small plain (path.policy_route key is) refl
    (ap (λ p. call.get_policy (in_path (codes "/policies/{policyId}") p)) (path_alone (policy key) plain)
    ∙ line.get_policy_read source key (line.policy_there source (codes "policyId") key is (path.policy_key key is)))

pub deletes : (account : ℕ) (key : PolicyKey) → account < 10 ^ 12 → IsPolicy key → Answers (asking account (codes "DELETE") (policy key) [] []) account (DeletePolicy key)
deletes account key small is =
    let plain = path.policy_bytes key is in
    let source = in_path (codes "/policies/{policyId}") (policy key) in
    by_path account (codes "DELETE") (policy key) (codes "/policies/{policyId}") [] [] operation.DeletePolicy (DeletePolicy key) small plain (path.policy_route key is) refl
    (ap (λ p. call.delete_policy (in_path (codes "/policies/{policyId}") p)) (path_alone (policy key) plain)
    ∙ line.delete_policy_read source key (line.policy_there source (codes "policyId") key is (path.policy_key key is)))

pub runs : (account : ℕ) (key : PolicyKey) → account < 10 ^ 12 → IsPolicy key → Answers (asking account (codes "POST") (policy key ++ codes "/run") [] []) account (RunPolicy key)
runs account key small is =
    let target = policy key ++ codes "/run" in
    let route = codes "/policies/{policyId}/run" in
    let plain = path.longer_bytes (policy key) (codes "/run") (path.policy_bytes key is) refl in
    let source = in_path route target in
    by_path account (codes "POST") target route [] [] operation.RunPolicy (RunPolicy key) small plain (path.policy_run_route key is) refl
    (ap (λ p. call.run_policy (in_path route p)) (path_alone target plain)
    ∙ line.run_policy_read source key (line.policy_there source (codes "policyId") key is (path.policy_run_key key is)))
