-- Which policies there are, and what is shown of them (Amazon Data Lifecycle Manager).
use Rattle.std.specs.Prelude.{◌≡◌, ◌≢◌, ℕ, ◌+◌, ◌<◌, ◌≤◌, Bool, false, ◌==◌, ◌&&◌, if◌then◌else◌, List, [], ◌∷◌}
use Rattle.std.specs.FinMap as fin
use Rattle.std.specs.declared.option.Option.{Option}
use Rattle.std.specs.declared.option.Option.TheVariants.{None, Some}
use Rattle.ebs_model.specs.declared.keys.PolicyKey.{PolicyKey}
use Rattle.ebs_model.specs.declared.keys.Moment.{Moment}
use Rattle.ebs_model.specs.declared.tags.Tag.{Tag}
use Rattle.ebs_model.specs.declared.policy.Policy.{Policy}
use Rattle.ebs_model.specs.declared.policy.Retain.{Retain}
use Rattle.ebs_model.specs.declared.rows.Own.{Own}
use Rattle.ebs_model.specs.declared.request.Request.{Request}
use Rattle.ebs_model.specs.declared.request.Request.TheVariants.{CreatePolicy, GetPolicy, DeletePolicy, RunPolicy}
use Rattle.ebs_model.specs.declared.answer.Answer.{Answer}
use Rattle.ebs_model.specs.declared.answer.Answer.TheVariants.{PolicyShown, PolicyRan}
use Rattle.ebs_model.specs.Machine.{Machine, advance, empty_machine}
use Rattle.ebs_model.specs.Step.{step}
use Rattle.ebs_laws.specs.AccessLaws.{IsAccepted}
use Rattle.ebs_model.specs.Timed.{Timed, turn, after_all}
use Rattle.ebs_laws.specs.Words.{moment_at}

-- ---- ids

-- the number that an account's next policy gets
abbrev pub policy_number_in : Option Own → ℕ
policy_number_in None = 0
policy_number_in (Some own) = own.next_policy

abbrev pub next_policy_number : Machine → ℕ → ℕ
next_policy_number m account = policy_number_in (fin.get m.own account)

-- each policy has a number below its account's next one
abbrev pub PoliciesGiven : Machine → Type 0
PoliciesGiven m = (key : PolicyKey) (p : Policy) → fin.get m.policies key ≡ Some p → key.number < next_policy_number m key.account

abbrev pub PoliciesStayGiven : Type 0
PoliciesStayGiven = (m : Machine) (account : ℕ) (reading : Moment) (request : Request) → PoliciesGiven m → PoliciesGiven (step m account reading request).0

abbrev pub RunsGivePolicies : Type 0
RunsGivePolicies = (secret : List ℕ) (turns : List Timed) → PoliciesGiven (after_all (empty_machine secret) turns)

-- no account's next policy number ever falls
abbrev pub PolicyNumbersNeverFall : Type 0
PolicyNumbersNeverFall = (m : Machine) (turns : List Timed) (account : ℕ) → next_policy_number m account ≤ next_policy_number (after_all m turns) account

-- a created policy gets its account's next number, which rises by one, and takes the place of none
abbrev pub CreatedPolicyIsNew : Type 0
CreatedPolicyIsNew =
    (m : Machine) (account : ℕ) (reading : Moment) (targets : List Tag) (hours at : ℕ) (retain : Retain) (add : List Tag) (created : Bool) (key : PolicyKey) (last : Moment)
    → let s = step m account reading (CreatePolicy targets hours at retain add) in PoliciesGiven m → s.1 ≡ PolicyShown created key last
    → (key.account ≡ account) × (key.number ≡ next_policy_number m account) × (next_policy_number s.0 account ≡ key.number + 1) × (fin.get m.policies key ≡ None)

-- the call has created this policy
pub record CreatesPolicy (m : Machine) (t : Timed) (key : PolicyKey) : Type 0 where
  pub targets : List Tag
  pub hours : ℕ
  pub at : ℕ
  pub retain : Retain
  pub add : List Tag
  pub created : Bool
  pub last : Moment
  pub request_is : t.call.request ≡ CreatePolicy targets hours at retain add
  pub answer_is : (turn m t).1 ≡ PolicyShown created key last

-- two created policies differ in their ids, whatever was called between them
abbrev pub CreatedPoliciesDiffer : Type 0
CreatedPoliciesDiffer =
    (m : Machine) (first second : Timed) (between : List Timed) (a b : PolicyKey) → CreatesPolicy m first a → CreatesPolicy (after_all (turn m first).0 between) second b → a ≢ b

-- ---- how long a policy stays

-- a deletion of this policy is asked for
abbrev pub AsksNoPolicy : PolicyKey → Request → Type 0
AsksNoPolicy key (DeletePolicy k) = k ≡ key
AsksNoPolicy key request = ⊥

-- none of these calls is an accepted deletion of this policy by its owner
abbrev pub NoneDeletes : PolicyKey → Machine → List Timed → Type 0
NoneDeletes key m [] = Unit {0}
NoneDeletes key m (t ∷ ts) = (AsksNoPolicy key t.call.request → t.call.account ≡ key.account → IsAccepted (turn m t).1 → ⊥) × NoneDeletes key (turn m t).0 ts

-- the call has run this policy
abbrev pub has_run : PolicyKey → Request → Answer → Bool
has_run key (RunPolicy k) (PolicyRan deleted made) = (k.account == key.account) && (k.number == key.number)
has_run key request answer = false

-- the moment of the last of these calls that has run it, or the one before
abbrev pub last_run : PolicyKey → Machine → List Timed → Moment → Moment
last_run key m [] last = last
last_run key m (t ∷ ts) last = last_run key (turn m t).0 ts (if has_run key t.call.request (turn m t).1 then moment_at m t.reading else last)

-- until then it stays as it is, but for its last run
abbrev pub PolicyStays : Type 0
PolicyStays =
    (m : Machine) (turns : List Timed) (key : PolicyKey) (p : Policy) → PoliciesGiven m → fin.get m.policies key ≡ Some p → NoneDeletes key m turns
    → fin.get (after_all m turns).policies key ≡ Some (record p { last = last_run key m turns p.last })

-- ---- what is shown

-- its owner is shown its last run, and nothing changes but by time
abbrev pub OwnerIsShownPolicy : Type 0
OwnerIsShownPolicy =
    (m : Machine) (account : ℕ) (reading : Moment) (key : PolicyKey) (p : Policy) → account ≡ key.account → fin.get m.policies key ≡ Some p
    → step m account reading (GetPolicy key) ≡ (advance m (moment_at m reading), PolicyShown false key p.last)

-- what is shown is of the caller's own policy
abbrev pub ShownPolicyIsTheRow : Type 0
ShownPolicyIsTheRow =
    (m : Machine) (account : ℕ) (reading : Moment) (key : PolicyKey) (created : Bool) (told : PolicyKey) (last : Moment)
    → (step m account reading (GetPolicy key)).1 ≡ PolicyShown created told last
    → (p : Policy) × (fin.get m.policies key ≡ Some p) × (account ≡ key.account) × (created ≡ false) × (told ≡ key) × (last ≡ p.last)

-- so a policy is as it was asked for, and is shown with its last run, whatever is called between its creation and its deletion
abbrev pub CreatedPolicyIsShown : Type 0
CreatedPolicyIsShown =
    (m : Machine) (turns : List Timed) (account : ℕ) (reading later : Moment) (targets : List Tag) (hours at : ℕ) (retain : Retain) (add : List Tag) (created : Bool) (key : PolicyKey) (last : Moment)
    → let s = step m account reading (CreatePolicy targets hours at retain add) in let n = after_all s.0 turns in let ran = last_run key s.0 turns last in
    PoliciesGiven m → s.1 ≡ PolicyShown created key last → NoneDeletes key s.0 turns
    → (fin.get n.policies key ≡ Some (record { key = key; targets = targets; hours = hours; at = at; retain = retain; add = add; last = ran })) × ((step n account later (GetPolicy key)).1 ≡ PolicyShown false key ran)
