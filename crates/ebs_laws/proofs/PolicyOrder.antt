-- In which order the tests of calls on policies refuse them.
use Rattle.std.proofs.Common.{◌≡◌, ℕ, ◌+◌, ◌^◌, Bool, true, false, not, ◌==◌, nat_le, nat_lt, List, [], ◌∷◌, length, codes, Option, Some, None, Result, Ok, refl}
use Rattle.std.specs.FinMap as fin
use Rattle.ebs_model.specs.declared.keys.PolicyKey.{PolicyKey}
use Rattle.ebs_model.specs.declared.tags.Tag.{Tag}
use Rattle.ebs_model.specs.declared.policy.Policy.{Policy}
use Rattle.ebs_model.specs.declared.policy.Retain.{Retain}
use Rattle.ebs_model.specs.declared.request.Request.TheVariants.{CreatePolicy, GetPolicy, DeletePolicy, RunPolicy}
use Rattle.ebs_model.specs.declared.answer.Answer.TheVariants.{PolicyShown, Done}
use Rattle.ebs_model.specs.declared.answer.Kind.TheVariants.{Policy as policy}
use Rattle.ebs_model.specs.declared.answer.QuotaName.TheVariants.{Policies, Snapshots, Ids}
use Rattle.ebs_model.specs.declared.answer.Spent.TheVariants.{Changes}
use Rattle.ebs_model.specs.declared.answer.Refusal.{Refusal}
use Rattle.ebs_model.specs.declared.answer.Refusal.TheVariants.{BadParameter, NotFound, Quota, Exhausted}
use Rattle.ebs_model.specs.Refuse.{◌>>=◌, ◌>>◌, refuse_if, some_or}
use Rattle.ebs_model.specs.Limits.{unless, are_tags, are_targets, is_schedule, is_retain}
use Rattle.ebs_model.specs.Rows.{policy_count, kept_count}
use Rattle.ebs_model.specs.Machine.{Machine, advance, is_spent, rows_of}
use Rattle.ebs_model.specs.Calls.Policy.{next_policy}
use Rattle.ebs_model.specs.Calls.Run.{due_targets}
use Rattle.ebs_laws.specs.Words.{moment_at}
use Rattle.ebs_laws.specs.OrderLaws.{Tests, first_of}
use Rattle.ebs_laws.specs.PolicyOrders.{create_policy_tests, CreatePolicyIsRefusedInOrder, policy_tests, GetPolicyIsRefusedInOrder, DeletePolicyIsRefusedInOrder, run_tests, RunIsRefusedInOrder}
use Rattle.ebs_laws.proofs.Cases.{Outcome}
use Rattle.ebs_laws.proofs.Ordered.{refusal_in, one, bad, change_test, spent, refused-so}
use Rattle.ebs_laws.proofs.Whole as whole
use Rattle.ebs_laws.proofs.Whole.{own_of, with_policy, without_policy, ran, says_ran}

-- the policy, then the tests of it
policy-order : (mine : Bool) (o : Option Policy) (f : Policy → Result Outcome Refusal) (of : Policy → Tests) → ((p : Policy) → refusal_in (f p) ≡ first_of (of p))
    → refusal_in ((refuse_if (not mine) (NotFound policy) >> some_or o (NotFound policy)) >>= f) ≡ first_of (policy_tests mine o of)
policy-order true None f of h = refl
policy-order true (Some p) f of h = h p
policy-order false None f of h = refl
policy-order false (Some p) f of h = refl

module _ (at : Machine) (account : ℕ) where
  create-order : (targets : List Tag) (hours time : ℕ) (retain : Retain) (add : List Tag) → refusal_in (whole.call at account (CreatePolicy targets hours time retain add)) ≡ first_of (create_policy_tests at account targets hours time retain add)
  create-order targets hours time retain add =
      let key : PolicyKey = next_policy (rows_of at) account in
      let all = whole.create_policy at account targets hours time retain add in
      let said : Outcome = (with_policy at account targets hours time retain add, PolicyShown true key at.clock) in
      let last : Result Outcome Refusal = refuse_if (is_spent at) (Exhausted Changes) >> Ok said in
      let numbered : Tests = (nat_le (2 ^ 28) key.number, Quota Ids (2 ^ 28)) ∷ change_test at account in
      let room : Tests = (nat_le 100 (policy_count (rows_of at) account), Quota Policies 100) ∷ numbered in
      let added : Tests = (not (are_tags add), BadParameter (codes "TagsToAdd")) ∷ room in
      let kept : Tests = (not (is_retain retain), BadParameter (codes "RetainRule")) ∷ added in
      let timed : Tests = (not (is_schedule hours time), BadParameter (codes "Schedule")) ∷ kept in
      let bad_add : Option (List ℕ) = unless (are_tags add) (codes "TagsToAdd") None in
      let bad_retain : Option (List ℕ) = unless (is_retain retain) (codes "RetainRule") bad_add in
      bad (are_targets targets) (codes "TargetTags") (unless (is_schedule hours time) (codes "Schedule") bad_retain) all timed
      (bad (is_schedule hours time) (codes "Schedule") bad_retain all kept
      (bad (is_retain retain) (codes "RetainRule") bad_add all added
      (bad (are_tags add) (codes "TagsToAdd") None all room
      (one (nat_le 100 (policy_count (rows_of at) account)) (Quota Policies 100) (refuse_if (nat_le (2 ^ 28) key.number) (Quota Ids (2 ^ 28)) >> last) numbered
      (one (nat_le (2 ^ 28) key.number) (Quota Ids (2 ^ 28)) last (change_test at account) (spent at account said))))))

  get-order : (key : PolicyKey) → refusal_in (whole.call at account (GetPolicy key)) ≡ first_of (policy_tests (account == key.account) (fin.get at.policies key) (λ p. []))
  get-order key = policy-order (account == key.account) (fin.get at.policies key) (λ p. Ok (at, PolicyShown false key p.last)) (λ p. []) (λ p. refl)

  drop-order : (key : PolicyKey) → refusal_in (whole.call at account (DeletePolicy key)) ≡ first_of (policy_tests (account == key.account) (fin.get at.policies key) (λ p. change_test at account))
  drop-order key = policy-order (account == key.account) (fin.get at.policies key) (λ p. refuse_if (is_spent at) (Exhausted Changes) >> Ok (without_policy at key, Done)) (λ p. change_test at account) (λ p. spent at account (without_policy at key, Done))

  run-order : (key : PolicyKey) → refusal_in (whole.call at account (RunPolicy key)) ≡ first_of (policy_tests (account == key.account) (fin.get at.policies key) (run_tests at account key))
  run-order key = policy-order (account == key.account) (fin.get at.policies key) (λ p. refuse_if (many p) (Quota Snapshots 10000) >> ids p) (run_tests at account key) (λ p.
      one (many p) (Quota Snapshots 10000) (ids p) ((over p, Quota Ids (2 ^ 28)) ∷ change_test at account) (one (over p) (Quota Ids (2 ^ 28)) (last p) (change_test at account) (spent at account (ran at key p, says_ran at account key p))))
    where
      many : Policy → Bool
      many p = nat_lt 10000 (kept_count (rows_of at) account + length (due_targets (rows_of at) key p at.clock.second))

      over : Policy → Bool
      over p = nat_lt (2 ^ 28) ((own_of at account).next_snap + length (due_targets (rows_of at) key p at.clock.second))

      last : Policy → Result Outcome Refusal
      last p = refuse_if (is_spent at) (Exhausted Changes) >> Ok (ran at key p, says_ran at account key p)

      ids : Policy → Result Outcome Refusal
      ids p = refuse_if (over p) (Quota Ids (2 ^ 28)) >> last p

pub create_policy-refused : CreatePolicyIsRefusedInOrder
create_policy-refused m account reading targets hours time retain add =
    let at = advance m (moment_at m reading) in refused-so at account (CreatePolicy targets hours time retain add) (create_policy_tests at account targets hours time retain add) (create-order at account targets hours time retain add)

pub get_policy-refused : GetPolicyIsRefusedInOrder
get_policy-refused m account reading key = let at = advance m (moment_at m reading) in refused-so at account (GetPolicy key) (policy_tests (account == key.account) (fin.get at.policies key) (λ p. [])) (get-order at account key)

pub drop_policy-refused : DeletePolicyIsRefusedInOrder
drop_policy-refused m account reading key =
    let at = advance m (moment_at m reading) in refused-so at account (DeletePolicy key) (policy_tests (account == key.account) (fin.get at.policies key) (λ p. change_test at account)) (drop-order at account key)

pub run-refused : RunIsRefusedInOrder
run-refused m account reading key =
    let at = advance m (moment_at m reading) in refused-so at account (RunPolicy key) (policy_tests (account == key.account) (fin.get at.policies key) (run_tests at account key)) (run-order at account key)
