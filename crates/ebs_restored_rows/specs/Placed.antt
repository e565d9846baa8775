-- Rows that are put back one after the other, the last of a list first.
use Rattle.std.specs.Prelude.{ℕ, ◌+◌, Bool, List, [], ◌∷◌, if◌then◌else◌, nat_lt, unwrap_or}
use Rattle.std.specs.Ordering.{nat_cmp}
use Rattle.std.specs.FinMap as map
use Rattle.ebs_model.specs.declared.rows.Own.{Own}
use Rattle.ebs_model.specs.declared.rules.Rule.{Rule}
use Rattle.ebs_model.specs.declared.rules.RuleChange.TheVariants.{Put}
use Rattle.ebs_model.specs.declared.policy.Policy.{Policy}
use Rattle.ebs_model.specs.Rules.{Book, no_rules}
use Rattle.ebs_model.specs.RuleCommands.{committed}
use Rattle.ebs_model.specs.Rows.{Rows}
use Rattle.ebs_checkpoints.specs.declared.owned.AccountRow.{AccountRow}
use Rattle.ebs_checkpoints.specs.declared.owned.TokenPoint.{TokenPoint}
use Rattle.ebs_checkpoints.specs.declared.owned.VolPoint.{VolPoint}
use Rattle.ebs_checkpoints.specs.declared.snapshots.SnapPoint.{SnapPoint}
use Rattle.ebs_recovery.specs.Bases.{row_of, own_of, token_entry, has_book}

-- all of these are put in, the last one first
abbrev pub put_all : {B X : Type 0} → (B → X → B) → B → List X → B
put_all put base [] = base
put_all put base (x ∷ xs) = put (put_all put base xs) x

abbrev pub with_volume : Rows → VolPoint → Rows
with_volume rows v = record rows { vols = map.insert rows.vols v.row.key v.row }

abbrev pub with_policy : Rows → Policy → Rows
with_policy rows p = record rows { policies = map.insert rows.policies p.key p }

abbrev pub with_snapshot : Rows → SnapPoint → Rows
with_snapshot rows p = record rows { snaps = map.insert rows.snaps p.key (row_of p) }

-- ---- accounts

-- a snapshot, a volume or a policy was made
abbrev pub is_begun : Own → Bool
is_begun own = nat_lt 0 (own.next_snap + (own.next_vol + own.next_policy))

-- an account that has begun has its next numbers
abbrev pub with_own : Rows → ℕ → Own → Rows
with_own rows account own = if is_begun own then record rows { own = map.insert rows.own account own } else rows

abbrev pub with_token : ℕ → Rows → TokenPoint → Rows
with_token account rows t = record rows { tokens = map.insert rows.tokens (token_entry account t).0 (token_entry account t).1 }

-- with its client tokens
abbrev pub with_account : Rows → AccountRow → Rows
with_account rows a = put_all (with_token a.account) (with_own rows a.account (own_of a)) a.tokens

-- ---- rules

abbrev pub Books : Type 0
Books = map.FinMap nat_cmp Book

-- an account that has made a rule has a book, without rules at first
abbrev pub with_book : Books → AccountRow → Books
with_book books a = if has_book a then map.insert books a.account (no_rules a.next_rule) else books

-- a rule is put into its account's book
abbrev pub with_rule : Books → Rule → Books
with_rule books r = map.insert books r.key.account (committed (unwrap_or (map.get books r.key.account) (no_rules 0)) (Put r))
