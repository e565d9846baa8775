-- CreateRule, GetRule, UpdateRule, DeleteRule, ListRules, LockRule and UnlockRule: the rules of an account's Recycle Bin
-- (Recycle Bin documentation).
use Rattle.std.specs.Prelude.{Result, Ok, Err, ℕ, Bool, List, [], ◌∷◌, true, false, map}
use Rattle.std.specs.FinMap as fin
use Rattle.ebs_model.specs.declared.keys.RuleKey.{RuleKey}
use Rattle.ebs_model.specs.declared.keys.Moment.{Moment}
use Rattle.ebs_model.specs.declared.keys.AnyKey.{AnyKey}
use Rattle.ebs_model.specs.declared.keys.AnyKey.TheVariants as any
use Rattle.ebs_model.specs.declared.rules.RuleCommand.{RuleCommand}
use Rattle.ebs_model.specs.declared.rules.RuleCommand.TheVariants as command
use Rattle.ebs_model.specs.declared.rules.RuleChange.{RuleChange}
use Rattle.ebs_model.specs.declared.rules.RuleChange.TheVariants.{Put, Remove}
use Rattle.ebs_model.specs.declared.rules.RuleRefusal.{RuleRefusal}
use Rattle.ebs_model.specs.declared.rules.RuleRefusal.TheVariants.{NotFound, TagLevel, Unlocked, Locked, TooMany, NoNumber}
use Rattle.ebs_model.specs.declared.request.Request.{Request}
use Rattle.ebs_model.specs.declared.change.Decision.{Decision}
use Rattle.ebs_model.specs.declared.change.Decision.TheVariants as decision
use Rattle.ebs_model.specs.declared.answer.Answer.{Answer}
use Rattle.ebs_model.specs.declared.answer.Answer.TheVariants.{Done, RuleShown, RuleList}
use Rattle.ebs_model.specs.declared.answer.Kind.TheVariants as kind
use Rattle.ebs_model.specs.declared.answer.StateName.TheVariants as state
use Rattle.ebs_model.specs.declared.answer.QuotaName.TheVariants as quota
use Rattle.ebs_model.specs.declared.answer.Refusal.{Refusal}
use Rattle.ebs_model.specs.declared.answer.Refusal.TheVariants as refusal
use Rattle.ebs_model.specs.Quotas.{most_rules, most_ids}
use Rattle.ebs_model.specs.Refuse.{◌>>=◌, some_or}
use Rattle.ebs_model.specs.Rules.{rule_view, find, rules_in}
use Rattle.ebs_model.specs.RuleCommands.{decide, committed_by}
use Rattle.ebs_model.specs.Rows.{Rows, book_of}
use Rattle.ebs_model.specs.Decisions.{makes}

abbrev pub rule_refusal : RuleRefusal → Refusal
rule_refusal NotFound = refusal.NotFound kind.Rule
rule_refusal TagLevel = refusal.WrongState state.TagLevel
rule_refusal Unlocked = refusal.WrongState state.Unlocked
rule_refusal Locked = refusal.RuleLocked
rule_refusal TooMany = refusal.Quota quota.Rules most_rules
rule_refusal NoNumber = refusal.Quota quota.Ids most_ids

abbrev pub changed_rule : Result RuleChange RuleRefusal → Result RuleChange Refusal
changed_rule (Ok change) = Ok change
changed_rule (Err r) = Err (rule_refusal r)

-- a rule that was put is shown
abbrev pub rule_answer : Bool → ℕ → RuleChange → Answer
rule_answer created now (Put rule) = RuleShown created (rule_view now rule)
rule_answer created now (Remove key) = Done

-- what a creation makes; the other commands make nothing
abbrev pub made_rules : RuleCommand → RuleChange → List AnyKey
made_rules (command.Create days tags description delay) (Put rule) = any.Rule rule.key ∷ []
made_rules (command.Create days tags description delay) (Remove key) = []
made_rules (command.Update key days tags description) change = []
made_rules (command.Delete key) change = []
made_rules (command.Lock key delay) change = []
made_rules (command.Unlock key) change = []

abbrev pub is_creation : RuleCommand → Bool
is_creation (command.Create days tags description delay) = true
is_creation (command.Update key days tags description) = false
is_creation (command.Delete key) = false
is_creation (command.Lock key delay) = false
is_creation (command.Unlock key) = false

abbrev pub decide_rule : Rows → Moment → ℕ → Request → RuleCommand → Result Decision Refusal
decide_rule rows at account request command = do
  change ← changed_rule (decide account (book_of rows account) command at.second)
  Ok (decision.Change (makes account at request (made_rules command change)) (rule_answer (is_creation command) at.second change))

abbrev pub commit_rule : Rows → Moment → ℕ → RuleCommand → Rows
commit_rule rows at account command = record rows {
  books = fin.insert rows.books account (committed_by (book_of rows account) (decide account (book_of rows account) command at.second));
}

abbrev pub decide_get_rule : Rows → Moment → ℕ → RuleKey → Result Decision Refusal
decide_get_rule rows at account key = do
  rule ← some_or (find account (book_of rows account) key) (refusal.NotFound kind.Rule)
  Ok (decision.View (RuleShown false (rule_view at.second rule)))

-- in ascending number
abbrev pub decide_list_rules : Rows → Moment → ℕ → Result Decision Refusal
decide_list_rules rows at account = Ok (decision.View (RuleList (map (rule_view at.second) (rules_in (book_of rows account)))))
