-- The rules of all accounts in one list.
use Rattle.std.specs.Prelude.{◌≡◌, ℕ, ◌==◌, List, map as list_map, flat_map, Option, None, Some}
use Rattle.std.specs.List.{filter}
use Rattle.std.specs.Ordering.{nat_cmp}
use Rattle.std.specs.FinMap as map
use Rattle.ebs_model.specs.declared.rules.Rule.{Rule}
use Rattle.ebs_model.specs.Rules.{Book}

-- each rule has its account, and the number that it stands at
abbrev pub AreNumbered : map.FinMap nat_cmp Book → Type 0
AreNumbered books = (account : ℕ) (book : Book) → map.get books account ≡ Some book
    → (number : ℕ) (rule : Rule) → map.get book.rules number ≡ Some rule → (rule.key.account ≡ account) × (rule.key.number ≡ number)

-- an account's rules by number, of those of all
abbrev pub own_rules : List Rule → ℕ → map.FinMap nat_cmp Rule
own_rules rules account = map.from_entries (list_map (λ (r : Rule). (r.key.number, r)) (filter (λ (r : Rule). r.key.account == account) rules))

abbrev pub rules_in : Option Book → map.FinMap nat_cmp Rule
rules_in None = map.empty
rules_in (Some book) = book.rules

-- of each account the list has just its rules
abbrev pub AreRulesOf : map.FinMap nat_cmp Book → List Rule → Type 0
AreRulesOf books rules = (account : ℕ) → own_rules rules account ≡ rules_in (map.get books account)

-- the rules in ascending number
abbrev pub in_order : map.FinMap nat_cmp Rule → List Rule
in_order rules = list_map (λ (e : ℕ × Rule). e.1) (map.entries rules)

-- and those of all accounts, in ascending account
abbrev pub all_in_order : List (ℕ × Book) → List Rule
all_in_order books = flat_map (λ (e : ℕ × Book). in_order e.1.rules) books
