-- An account's Recycle Bin rules: what a rule's lock is at a moment, which rules match a snapshot, and how long it stays in the bin
-- by them (Recycle Bin documentation).
use Rattle.std.specs.Prelude.{ℕ, nat_le, if◌then◌else◌, ◌+◌, ◌*◌, Bool, true, List, nat_eq, Option, None, Some, ◌&&◌, [], ◌∷◌, max, ◌==◌, map as list_map}
use Rattle.std.specs.List.{list_any}
use Rattle.std.specs.Cmp.Lexicographic.{pointwise}
use Rattle.std.specs.Ordering.{nat_cmp}
use Rattle.std.specs.FinMap as map
use Rattle.ebs_model.specs.declared.keys.Moment.{Moment}
use Rattle.ebs_model.specs.declared.keys.RuleKey.{RuleKey}
use Rattle.ebs_model.specs.declared.tags.Tag.{Tag}
use Rattle.ebs_model.specs.declared.rules.RuleTag.{RuleTag}
use Rattle.ebs_model.specs.declared.rules.Rule.{Rule}
use Rattle.ebs_model.specs.declared.rules.RuleLock.{RuleLock}
use Rattle.ebs_model.specs.declared.rules.RuleLock.TheVariants.{Unlocked, Locked, Pending}
use Rattle.ebs_model.specs.declared.rules.RuleLockName.{RuleLockName}
use Rattle.ebs_model.specs.declared.rules.RuleLockName.TheVariants as name
use Rattle.ebs_model.specs.declared.rules.RuleView.{RuleView}

-- a pending unlock is unlocked from its end on
abbrev pub lock_at : RuleLock → ℕ → RuleLock
lock_at Unlocked now = Unlocked
lock_at (Locked delay) now = Locked delay
lock_at (Pending end) now = if nat_le end.second now then Unlocked else Pending end

-- so many days from now
abbrev pub bin_end : ℕ → ℕ → Moment
bin_end now days = record { second = now + 86400 * days }

-- ---- which rules match

-- where no value is asked for, any will do
abbrev pub is_value : Option (List ℕ) → List ℕ → Bool
is_value None value = true
is_value (Some wanted) value = pointwise nat_eq wanted value

abbrev pub is_wanted : RuleTag → Tag → Bool
is_wanted wanted tag = pointwise nat_eq wanted.key tag.key && is_value wanted.value tag.value

abbrev pub has : RuleTag → List Tag → Bool
has wanted tags = list_any (λ tag. is_wanted wanted tag) tags

abbrev pub has_one_of : List RuleTag → List Tag → Bool
has_one_of wanted tags = list_any (λ one. has one tags) wanted

-- a rule without tags is of the whole account; one with tags matches a snapshot that has at least one of them
abbrev pub matches : List RuleTag → List Tag → Bool
matches [] tags = true
matches (one ∷ wanted) tags = has_one_of (one ∷ wanted) tags

abbrev pub longer : Option ℕ → ℕ → Option ℕ
longer None days = Some days
longer (Some most) days = Some (max most days)

-- the most days of those that match
abbrev pub longest : List Tag → List Rule → Option ℕ
longest tags [] = None
longest tags (rule ∷ rules) = if matches rule.tags tags then longer (longest tags rules) rule.days else longest tags rules

-- ---- the rules of an account

-- by number, and the number of the next one
pub record Book : Type 0 where
  pub rules : map.FinMap nat_cmp Rule
  pub next : ℕ

-- none yet; the first one has this number
abbrev pub no_rules : ℕ → Book
no_rules first = record { rules = map.empty; next = first }

-- the account's rule with this key
abbrev pub find : ℕ → Book → RuleKey → Option Rule
find account b key = if key.account == account then map.get b.rules key.number else None

-- in ascending number
abbrev pub rules_in : Book → List Rule
rules_in b = list_map (λ e. e.1) (map.entries b.rules)

-- how many days a snapshot with these tags stays in the bin, where any rule matches it
abbrev pub retention : Book → List Tag → Option ℕ
retention b tags = longest tags (rules_in b)

-- ---- how a rule is shown

abbrev pub lock_name : RuleLock → RuleLockName
lock_name Unlocked = name.Unlocked
lock_name (Locked delay) = name.Locked
lock_name (Pending end) = name.Pending

abbrev pub lock_end : RuleLock → Option Moment
lock_end Unlocked = None
lock_end (Locked delay) = None
lock_end (Pending end) = Some end

abbrev pub rule_view : ℕ → Rule → RuleView
rule_view now rule = record {
  description = rule.description;
  key = rule.key;
  lock_end = lock_end (lock_at rule.lock now);
  lock = lock_name (lock_at rule.lock now);
  tags = rule.tags;
  days = rule.days;
}
