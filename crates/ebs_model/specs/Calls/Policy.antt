-- CreatePolicy, GetPolicy and DeletePolicy (Amazon Data Lifecycle Manager).
use Rattle.std.specs.Prelude.{ℕ, List, true, [], ◌∷◌, nat_le, Result, Ok, ◌+◌, false}
use Rattle.std.specs.FinMap as fin
use Rattle.ebs_model.specs.declared.keys.PolicyKey.{PolicyKey}
use Rattle.ebs_model.specs.declared.keys.Moment.{Moment}
use Rattle.ebs_model.specs.declared.keys.AnyKey.TheVariants as any
use Rattle.ebs_model.specs.declared.tags.Tag.{Tag}
use Rattle.ebs_model.specs.declared.policy.Policy.{Policy}
use Rattle.ebs_model.specs.declared.policy.Retain.{Retain}
use Rattle.ebs_model.specs.declared.request.Request.TheVariants.{CreatePolicy, DeletePolicy}
use Rattle.ebs_model.specs.declared.change.Decision.{Decision}
use Rattle.ebs_model.specs.declared.change.Decision.TheVariants as decision
use Rattle.ebs_model.specs.declared.answer.Answer.TheVariants.{PolicyShown, Done}
use Rattle.ebs_model.specs.declared.answer.Refusal.{Refusal}
use Rattle.ebs_model.specs.declared.answer.Refusal.TheVariants.{Quota}
use Rattle.ebs_model.specs.declared.answer.QuotaName.TheVariants.{Policies, Ids}
use Rattle.ebs_model.specs.Quotas.{most_policies, most_ids}
use Rattle.ebs_model.specs.Refuse.{◌>>=◌, ◌>>◌, refuse_if}
use Rattle.ebs_model.specs.Rows.{Rows, own_of, policy_count, the_policy}
use Rattle.ebs_model.specs.Decisions.{makes, alters}

-- the account's next policy
abbrev pub next_policy : Rows → ℕ → PolicyKey
next_policy rows account = record { account = account; number = (own_of rows account).next_policy }

-- a policy whose last run is its creation
abbrev pub new_policy : Moment → PolicyKey → List Tag → ℕ → ℕ → Retain → List Tag → Policy
new_policy now key targets hours at retain add = record { key = key; targets = targets; hours = hours; at = at; retain = retain; add = add; last = now }

abbrev pub decide_policy : Rows → Moment → ℕ → List Tag → ℕ → ℕ → Retain → List Tag → Result Decision Refusal
decide_policy rows now account targets hours at retain add = do
  let key : PolicyKey = next_policy rows account
  refuse_if (nat_le most_policies (policy_count rows account)) (Quota Policies most_policies)
  refuse_if (nat_le most_ids key.number) (Quota Ids most_ids)
  Ok (decision.Change (makes account now (CreatePolicy targets hours at retain add) (any.Policy key ∷ [])) (PolicyShown true key now))

-- a policy gets the account's next number
abbrev pub with_new_policy : Rows → PolicyKey → Policy → Rows
with_new_policy rows key p = record rows {
  policies = fin.insert rows.policies key p;
  own = fin.insert rows.own key.account (record (own_of rows key.account) { next_policy = key.number + 1 });
}

abbrev pub commit_policy : Rows → Moment → ℕ → List Tag → ℕ → ℕ → Retain → List Tag → Rows
commit_policy rows now account targets hours at retain add =
    with_new_policy rows (next_policy rows account) (new_policy now (next_policy rows account) targets hours at retain add)

abbrev pub decide_get_policy : Rows → ℕ → PolicyKey → Result Decision Refusal
decide_get_policy rows account key = do
  p ← the_policy rows account key
  Ok (decision.View (PolicyShown false key p.last))

-- its snapshots stay
abbrev pub decide_drop_policy : Rows → Moment → ℕ → PolicyKey → Result Decision Refusal
decide_drop_policy rows at account key = do
  p ← the_policy rows account key
  Ok (decision.Change (alters account at (DeletePolicy key)) Done)

abbrev pub commit_drop_policy : Rows → PolicyKey → Rows
commit_drop_policy rows key = record rows { policies = fin.remove rows.policies key }
