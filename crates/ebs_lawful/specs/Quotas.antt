-- No account has more of a kind than it may have.
use Rattle.std.specs.Prelude.{ℕ, ◌≤◌}
use Rattle.std.specs.FinMap.{len}
use Rattle.ebs_model.specs.Quotas.{most_open, most_kept, most_volumes, most_rules, most_policies, most_tokens}
use Rattle.ebs_model.specs.Rows.{Rows, book_of, kept_count, open_count, volume_count, policy_count, token_count}

-- at a moment
pub record IsInQuotas (rows : Rows) (now account : ℕ) : Type 0 where
  pub kept : kept_count rows account ≤ most_kept
  pub uploads : open_count rows account now ≤ most_open
  pub volumes : volume_count rows account ≤ most_volumes
  pub rules : len (book_of rows account).rules ≤ most_rules
  pub policies : policy_count rows account ≤ most_policies
  pub tokens : token_count rows account ≤ most_tokens

abbrev pub AreInQuotas : Rows → ℕ → Type 0
AreInQuotas rows now = (account : ℕ) → IsInQuotas rows now account
