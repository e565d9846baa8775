-- In which order the tests of calls on policies refuse them. Each test stands over fields of the request, of the policy and of what the account has.
use Rattle.std.specs.Prelude.{ℕ, ◌+◌, ◌^◌, Bool, true, not, ◌==◌, nat_le, nat_lt, List, [], ◌∷◌, length}
use Rattle.std.proofs.Common.{codes}
use Rattle.std.specs.FinMap as fin
use Rattle.std.specs.declared.option.Option.{Option}
use Rattle.std.specs.declared.option.Option.TheVariants.{None, Some}
use Rattle.ebs_model.specs.declared.keys.PolicyKey.{PolicyKey}
use Rattle.ebs_model.specs.declared.keys.Moment.{Moment}
use Rattle.ebs_model.specs.declared.tags.Tag.{Tag}
use Rattle.ebs_model.specs.declared.policy.Policy.{Policy}
use Rattle.ebs_model.specs.declared.policy.Retain.{Retain}
use Rattle.ebs_model.specs.declared.request.Request.TheVariants.{CreatePolicy, GetPolicy, DeletePolicy, RunPolicy}
use Rattle.ebs_model.specs.declared.answer.Kind.TheVariants.{Policy as policy}
use Rattle.ebs_model.specs.declared.answer.QuotaName.TheVariants.{Policies, Snapshots, Ids}
use Rattle.ebs_model.specs.declared.answer.Spent.TheVariants.{Changes}
use Rattle.ebs_model.specs.declared.answer.Refusal.TheVariants.{BadParameter, NotFound, Quota, Exhausted}
use Rattle.ebs_model.specs.Limits.{are_tags, are_targets, is_schedule, is_retain}
use Rattle.ebs_model.specs.Rows.{own_of, policy_count, kept_count}
use Rattle.ebs_model.specs.Machine.{Machine, advance, rows_of}
use Rattle.ebs_model.specs.Calls.Run.{due_targets}
use Rattle.ebs_model.specs.Step.{step}
use Rattle.ebs_laws.specs.Words.{moment_at}
use Rattle.ebs_laws.specs.OrderLaws.{Tests, first_of, IsRefusedBy}

-- CreatePolicy: its members, then what the account has, then the store's changes
abbrev pub create_policy_tests : Machine → ℕ → List Tag → ℕ → ℕ → Retain → List Tag → Tests
create_policy_tests m account targets hours at retain add =
    (not (are_targets targets), BadParameter (codes "TargetTags"))
    ∷ (not (is_schedule hours at), BadParameter (codes "Schedule"))
    ∷ (not (is_retain retain), BadParameter (codes "RetainRule"))
    ∷ (not (are_tags add), BadParameter (codes "TagsToAdd"))
    ∷ (nat_le 100 (policy_count (rows_of m) account), Quota Policies 100)
    ∷ (nat_le (2 ^ 28) (own_of (rows_of m) account).next_policy, Quota Ids (2 ^ 28))
    ∷ (nat_le (2 ^ 40) m.changes, Exhausted Changes)
    ∷ []

abbrev pub CreatePolicyIsRefusedInOrder : Type 0
CreatePolicyIsRefusedInOrder =
    (m : Machine) (account : ℕ) (reading : Moment) (targets : List Tag) (hours at : ℕ) (retain : Retain) (add : List Tag)
    → IsRefusedBy (first_of (create_policy_tests (advance m (moment_at m reading)) account targets hours at retain add)) (step m account reading (CreatePolicy targets hours at retain add)).1

-- another's policy is unknown, and so is one that isn't there; then the tests of it
abbrev pub policy_tests : Bool → Option Policy → (Policy → Tests) → Tests
policy_tests mine None of = (not mine, NotFound policy) ∷ (true, NotFound policy) ∷ []
policy_tests mine (Some p) of = (not mine, NotFound policy) ∷ of p

abbrev pub GetPolicyIsRefusedInOrder : Type 0
GetPolicyIsRefusedInOrder =
    (m : Machine) (account : ℕ) (reading : Moment) (key : PolicyKey)
    → IsRefusedBy (first_of (policy_tests (account == key.account) (fin.get m.policies key) (λ p. []))) (step m account reading (GetPolicy key)).1

-- DeletePolicy: the policy, then the store's changes
abbrev pub DeletePolicyIsRefusedInOrder : Type 0
DeletePolicyIsRefusedInOrder =
    (m : Machine) (account : ℕ) (reading : Moment) (key : PolicyKey)
    → IsRefusedBy (first_of (policy_tests (account == key.account) (fin.get m.policies key) (λ p. (nat_le (2 ^ 40) m.changes, Exhausted Changes) ∷ []))) (step m account reading (DeletePolicy key)).1

-- RunPolicy: all that it makes is counted before anything is deleted, then the store's changes
abbrev pub run_tests : Machine → ℕ → PolicyKey → Policy → Tests
run_tests m account key p =
    (nat_lt 10000 (kept_count (rows_of m) account + length (due_targets (rows_of m) key p m.clock.second)), Quota Snapshots 10000)
    ∷ (nat_lt (2 ^ 28) ((own_of (rows_of m) account).next_snap + length (due_targets (rows_of m) key p m.clock.second)), Quota Ids (2 ^ 28))
    ∷ (nat_le (2 ^ 40) m.changes, Exhausted Changes)
    ∷ []

abbrev pub RunIsRefusedInOrder : Type 0
RunIsRefusedInOrder =
    (m : Machine) (account : ℕ) (reading : Moment) (key : PolicyKey) → let at = advance m (moment_at m reading) in
    IsRefusedBy (first_of (policy_tests (account == key.account) (fin.get m.policies key) (run_tests at account key))) (step m account reading (RunPolicy key)).1
