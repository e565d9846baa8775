-- Rules of the Recycle Bin in plain words (Recycle Bin documentation, retention rules).
use Rattle.std.specs.Prelude.{◌≡◌, ℕ, List, Option, None, Some, ◌⊎◌, [], ◌≤◌}
use Rattle.std.specs.FinMap as fin
use Rattle.ebs_model.specs.declared.tags.Tag.{Tag}
use Rattle.ebs_model.specs.declared.rules.Rule.{Rule}
use Rattle.ebs_model.specs.declared.rules.RuleTag.{RuleTag}
use Rattle.ebs_model.specs.Rows.{book_of}
use Rattle.ebs_model.specs.Machine.{Machine, rows_of}
use Rattle.ebs_model.specs.Timed.{IsIn}

-- any value will do, or this one
abbrev pub IsValue : Option (List ℕ) → List ℕ → Type 0
IsValue None value = Unit {0}
IsValue (Some wanted) value = wanted ≡ value

-- a rule without tags matches every snapshot, and one with tags each snapshot that has one of them
abbrev pub Matches : List RuleTag → List Tag → Type 0
Matches wanted tags =
    (wanted ≡ []) ⊎ ((one : RuleTag) × (tag : Tag) × IsIn wanted one × IsIn tags tag × (one.key ≡ tag.key) × IsValue one.value tag.value)

-- the account's rule with this number
abbrev pub rule_at : Machine → ℕ → ℕ → Option Rule
rule_at m account number = fin.get (book_of (rows_of m) account).rules number

-- a rule of the account that matches a snapshot with these tags
abbrev pub IsMatching : Machine → ℕ → List Tag → Rule → Type 0
IsMatching m account tags rule = ((number : ℕ) × (rule_at m account number ≡ Some rule)) × Matches rule.tags tags

abbrev pub NoneMatches : Machine → ℕ → List Tag → Type 0
NoneMatches m account tags = (rule : Rule) → IsMatching m account tags rule → ⊥

-- so many days has a rule of the account that matches, and none that matches has more
abbrev pub IsLongest : Machine → ℕ → List Tag → ℕ → Type 0
IsLongest m account tags days = ((rule : Rule) × IsMatching m account tags rule × (rule.days ≡ days)) × ((rule : Rule) → IsMatching m account tags rule → rule.days ≤ days)
