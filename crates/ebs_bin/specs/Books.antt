-- The rules of an account, and what is ready for one.
use Rattle.std.specs.Prelude.{◌≡◌, ℕ, true, refl}
use Rattle.std.specs.Coded.{Coded, code_by, coded×, coded_ℕ, coded_option}
use Rattle.std.specs.Ordering.{nat_cmp}
use Rattle.std.specs.FinMap as map
use Rattle.std.specs.declared.option.Option.{Option}
use Rattle.ebs_tables.specs.Full.{full}
use Rattle.ebs_model.specs.declared.rules.Rule.{Rule}
use Rattle.ebs_model.specs.declared.rules.RuleChange.{RuleChange}
use Rattle.ebs_model.specs.declared.rules.RuleChange.TheVariants.{Put, Remove}
use Rattle.ebs_model.specs.contracts.rules.Rule as rule
use Rattle.ebs_model.specs.Rules.{Book}

-- an account's rules by number, with numbers that are ready for one, and the number of the next one
pub record Shelf : Type 0 where
  pub account : ℕ
  pub slots : map.FinMap nat_cmp (Option Rule)
  pub next : ℕ

abbrev pub shelf_code : Coded Shelf
shelf_code = code_by (ℕ × (map.FinMap nat_cmp (Option Rule) × ℕ)) (coded× coded_ℕ (coded× (map.code coded_ℕ (coded_option rule.the_row.coded)) coded_ℕ))
    (λ s. (s.account, (s.slots, s.next))) (λ p. record { account = p.0; slots = p.1.0; next = p.1.1 }) (λ _. refl)

abbrev pub book : Shelf → Book
book s = record { rules = full s.slots; next = s.next }

-- the change takes no memory
abbrev pub HasRoom : Shelf → RuleChange → Type 0
HasRoom s (Put rule) = map.contains_key s.slots rule.key.number ≡ true
HasRoom s (Remove key) = Unit {0}

-- nothing at the change's number is only ready
abbrev pub IsNumberFree : Shelf → RuleChange → Type 0
IsNumberFree s (Put rule) = map.contains_key s.slots rule.key.number ≡ map.contains_key (full s.slots) rule.key.number
IsNumberFree s (Remove key) = Unit {0}
