-- Commands one after another, and what rules promise.
use Rattle.std.specs.Prelude.{◌≡◌, ◌↔◌, ◌⊎◌, ℕ, ◌<◌, ◌≤◌, List, [], ◌∷◌, map as list_map}
use Rattle.std.specs.FinMap as map
use Rattle.std.specs.declared.option.Option.{Option}
use Rattle.std.specs.declared.option.Option.TheVariants.{None, Some}
use Rattle.std.specs.declared.result.Result.TheVariants.{Ok, Err}
use Rattle.ebs_model.specs.declared.keys.RuleKey.{RuleKey}
use Rattle.ebs_model.specs.declared.tags.Tag.{Tag}
use Rattle.ebs_model.specs.declared.rules.Rule.{Rule}
use Rattle.ebs_model.specs.declared.rules.RuleTag.{RuleTag}
use Rattle.ebs_model.specs.declared.rules.RuleLock.{RuleLock}
use Rattle.ebs_model.specs.declared.rules.RuleLock.TheVariants as lock
use Rattle.ebs_model.specs.declared.rules.RuleChange.TheVariants.{Put}
use Rattle.ebs_model.specs.declared.rules.RuleCommand.{RuleCommand}
use Rattle.ebs_model.specs.Rules.{Book, no_rules, find, rules_in, retention}
use Rattle.ebs_model.specs.RuleCommands.{create, decide, committed, committed_by}

-- a command at a second
pub record Given : Type 0 where
  pub at : ℕ
  pub command : RuleCommand

-- a refused command leaves the rules
abbrev pub step : ℕ → Book → Given → Book
step account b g = committed_by b (decide account b g.command g.at)

abbrev pub after : ℕ → Book → List Given → Book
after account b [] = b
after account b (g ∷ gs) = after account (step account b g) gs

-- ---- the longest rule

abbrev pub IsIn : {X : Type 0} → List X → X → Type 0
IsIn [] x = ⊥
IsIn (y ∷ ys) x = (y ≡ x) ⊎ IsIn ys x

-- any value will do, or this one
abbrev pub IsValue : Option (List ℕ) → List ℕ → Type 0
IsValue None value = Unit {0}
IsValue (Some wanted) value = wanted ≡ value

-- a rule of the whole account matches, and one of whose resource tags the snapshot has one
abbrev pub Matches : List RuleTag → List Tag → Type 0
Matches wanted tags =
    (wanted ≡ []) ⊎ ((one : RuleTag) × (tag : Tag) × IsIn wanted one × IsIn tags tag × (one.key ≡ tag.key) × IsValue one.value tag.value)

-- a rule of the account that matches
abbrev pub IsMatching : Book → List Tag → Rule → Type 0
IsMatching b tags rule = IsIn (rules_in b) rule × Matches rule.tags tags

-- the retention is a matching rule's, and no matching rule has more
abbrev pub LongestRuleWins : Type 0
LongestRuleWins =
    (b : Book) (tags : List Tag) (days : ℕ) → retention b tags ≡ Some days
    → ((rule : Rule) × IsMatching b tags rule × (rule.days ≡ days)) × ((rule : Rule) → IsMatching b tags rule → rule.days ≤ days)

-- there is none exactly where no rule matches
abbrev pub NoneMatches : Type 0
NoneMatches = (b : Book) (tags : List Tag) → (retention b tags ≡ None) ↔ ((rule : Rule) → IsMatching b tags rule → ⊥)

-- ---- a locked rule

-- it doesn't wait for an unlock whose end is reached
abbrev pub IsWithin : ℕ → RuleLock → Type 0
IsWithin now lock.Unlocked = Unit {0}
IsWithin now (lock.Locked delay) = Unit {0}
IsWithin now (lock.Pending end) = now < end.second

abbrev pub IsAhead : ℕ → Option Rule → Type 0
IsAhead now None = Unit {0}
IsAhead now (Some rule) = IsWithin now rule.lock

-- no command comes at or after the end of an unlock that the rule waits for
abbrev pub NoneEnds : ℕ → RuleKey → Book → List Given → Type 0
NoneEnds account key b [] = Unit {0}
NoneEnds account key b (g ∷ gs) = IsAhead g.at (find account b key) × NoneEnds account key (step account b g) gs

-- whatever was commanded before, a locked rule stays with its days, tags and description, whatever is commanded until an
-- unlock's delay has passed
abbrev pub LockedRuleStays : Type 0
LockedRuleStays =
    (account first : ℕ) (before gs : List Given) (key : RuleKey) (rule : Rule) (delay : ℕ)
    → find account (after account (no_rules first) before) key ≡ Some rule → rule.lock ≡ lock.Locked delay
    → NoneEnds account key (after account (no_rules first) before) gs
    → (kept : Rule) × (find account (after account (after account (no_rules first) before) gs) key ≡ Some kept)
    × (kept.days ≡ rule.days) × (kept.tags ≡ rule.tags) × (kept.description ≡ rule.description)

-- ---- numbers

-- whatever became of a rule since it was put, a new one has a greater number
abbrev pub NumberIsNew : Type 0
NumberIsNew =
    (account : ℕ) (b : Book) (rule : Rule) (gs : List Given) (days : ℕ) (tags : List RuleTag) (description : Option (List ℕ)) (delay : Option ℕ) (made : Rule)
    → create account (after account (committed b (Put rule)) gs) days tags description delay ≡ Ok (Put made) → rule.key.number < made.key.number
