-- Beside what is promised: an account's Recycle Bin rules: what a rule's lock is at a moment, which rules match a snapshot, and how long it stays in the bin
use Rattle.std.specs.Prelude.{ℕ, List, nat_le, map as list_map, ◌≡◌, ◌≤◌, Some}
use Rattle.std.specs.List.{filter}
use Rattle.std.specs.Ordering.{nat_cmp}
use Rattle.std.specs.FinMap as map
use Rattle.ebs_model.specs.declared.rules.Rule.{Rule}
use Rattle.ebs_model.specs.Rules.{Book}

-- ---- the rules of an account

-- the rules at the number or above it
abbrev pub rules_from : Book → ℕ → List Rule
rules_from b number = list_map (λ e. e.1) (filter (λ e. nat_le number e.0) (map.entries b.rules))

-- each rule keeps what it matches for a day at least
abbrev pub HasDays : Book → Type 0
HasDays b = (number : ℕ) (rule : Rule) → map.get b.rules number ≡ Some rule → 1 ≤ rule.days

-- and so does each rule of each account
abbrev pub KeepsDays : map.FinMap nat_cmp Book → Type 0
KeepsDays books = (account : ℕ) (b : Book) → map.get books account ≡ Some b → HasDays b
