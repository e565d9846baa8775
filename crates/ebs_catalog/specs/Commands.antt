-- Commands on rules, whatever they are.
use Rattle.std.specs.Prelude.{ℕ, Bool, true, false, List, [], ◌∷◌}
use Rattle.std.specs.declared.result.Result.{Result}
use Rattle.std.specs.declared.result.Result.TheVariants.{Ok}
use Rattle.ebs_model.specs.declared.keys.Moment.{Moment}
use Rattle.ebs_model.specs.declared.keys.AnyKey.{AnyKey}
use Rattle.ebs_model.specs.declared.keys.AnyKey.TheVariants.{Rule}
use Rattle.ebs_model.specs.declared.rules.RuleChange.{RuleChange}
use Rattle.ebs_model.specs.declared.rules.RuleChange.TheVariants.{Put, Remove}
use Rattle.ebs_model.specs.declared.request.Request.{Request}
use Rattle.ebs_model.specs.declared.request.Request.TheVariants.{CreateRule, UpdateRule, DeleteRule, LockRule, UnlockRule}
use Rattle.ebs_model.specs.declared.change.Decision.{Decision}
use Rattle.ebs_model.specs.declared.change.Decision.TheVariants as decision
use Rattle.ebs_model.specs.declared.answer.Refusal.{Refusal}
use Rattle.ebs_model.specs.Refuse.{◌>>=◌}
use Rattle.ebs_model.specs.Rows.{Rows, book_of}
use Rattle.ebs_model.specs.Decisions.{makes}
use Rattle.ebs_model.specs.Calls.Rule.{changed_rule, rule_answer}
use Rattle.ebs_catalog.specs.Rooms.{ruled}

-- a request that may change rules
abbrev pub is_command : Request → Bool
is_command (CreateRule days tags description delay) = true
is_command (UpdateRule key days tags description) = true
is_command (DeleteRule key) = true
is_command (LockRule key delay) = true
is_command (UnlockRule key) = true
is_command request = false

abbrev pub is_creation : Request → Bool
is_creation (CreateRule days tags description delay) = true
is_creation request = false

abbrev pub made_by_creation : Bool → RuleChange → List AnyKey
made_by_creation true (Put rule) = Rule rule.key ∷ []
made_by_creation true (Remove key) = []
made_by_creation false change = []

-- what a command makes
abbrev pub made_by : Request → RuleChange → List AnyKey
made_by request change = made_by_creation (is_creation request) change

-- what rows decide of a command
abbrev pub command_decided : Rows → Moment → ℕ → Request → Result Decision Refusal
command_decided rows at account request = do
  change ← changed_rule (ruled account (book_of rows account) at.second request)
  Ok (decision.Change (makes account at request (made_by request change)) (rule_answer (is_creation request) at.second change))
