-- The limits of the rules of the Recycle Bin.
use Rattle.std.specs.Prelude.{ℕ, ◌≡◌, ◌<◌, ◌≤◌, true, Some}
use Rattle.std.specs.FinMap.{get}
use Rattle.ebs_model.specs.declared.rules.Rule.{Rule}
use Rattle.ebs_model.specs.declared.rules.RuleLock.{RuleLock}
use Rattle.ebs_model.specs.declared.rules.RuleLock.TheVariants.{Unlocked, Locked, Pending}
use Rattle.ebs_model.specs.Limits.{is_retention, are_rule_tags, is_description, is_delay}
use Rattle.ebs_model.specs.Quotas.{most_ids}
use Rattle.ebs_model.specs.Rules.{Book}
use Rattle.ebs_model.specs.Rows.{Rows}
use Rattle.ebs_lawful.specs.Ends.{IsEnd}

-- the days that its unlock waits are within their limits, and the moment until which it waits is an end
abbrev pub IsRuleLock : RuleLock → Type 0
IsRuleLock Unlocked = Unit {0}
IsRuleLock (Locked delay) = is_delay delay ≡ true
IsRuleLock (Pending end) = IsEnd end

-- the rule stands at its own key, and what it says is within its limits
pub record IsRule (account number : ℕ) (rule : Rule) : Type 0 where
  pub owner : rule.key.account ≡ account
  pub place : rule.key.number ≡ number
  pub days : is_retention rule.days ≡ true
  pub tags : are_rule_tags rule.tags ≡ true
  pub description : is_description rule.description ≡ true
  pub lock : IsRuleLock rule.lock

-- the account's rules were numbered below the next number, which is one that an account comes to
pub record IsBook (account : ℕ) (book : Book) : Type 0 where
  pub begun : 1 ≤ book.next
  pub next : book.next ≤ most_ids
  pub numbers : (number : ℕ) (rule : Rule) → get book.rules number ≡ Some rule → number < book.next
  pub rules : (number : ℕ) (rule : Rule) → get book.rules number ≡ Some rule → IsRule account number rule

abbrev pub AreBooks : Rows → Type 0
AreBooks rows = (account : ℕ) (book : Book) → get rows.books account ≡ Some book → IsBook account book
