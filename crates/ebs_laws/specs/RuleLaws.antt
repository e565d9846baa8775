-- What becomes of an account's rules (Recycle Bin documentation, retention rules and rule lock).
use Rattle.std.specs.Prelude.{◌≡◌, map, nat_le, cond, Bool, ◌≢◌, ℕ, ◌+◌, ◌*◌, ◌<◌, ◌≤◌, true, false, List, [], ◌∷◌, unwrap_or}
use Rattle.std.specs.FinMap as fin
use Rattle.std.specs.Ordering.{nat_cmp}
use Rattle.std.specs.List.{All}
use Rattle.std.specs.List.Sorted.{IsStrictlySortedBy}
use Rattle.ebs_laws.specs.SharingLaws.{is_among}
use Rattle.std.specs.declared.option.Option.{Option}
use Rattle.std.specs.declared.option.Option.TheVariants.{None, Some}
use Rattle.ebs_model.specs.declared.keys.RuleKey.{RuleKey}
use Rattle.ebs_model.specs.declared.keys.Moment.{Moment}
use Rattle.ebs_model.specs.declared.rules.Rule.{Rule}
use Rattle.ebs_model.specs.declared.rules.RuleTag.{RuleTag}
use Rattle.ebs_model.specs.declared.rules.RuleLock.{RuleLock}
use Rattle.ebs_model.specs.declared.rules.RuleLock.TheVariants as lock
use Rattle.ebs_model.specs.declared.rules.RuleLockName.{RuleLockName}
use Rattle.ebs_model.specs.declared.rules.RuleLockName.TheVariants as name
use Rattle.ebs_model.specs.declared.rules.RuleView.{RuleView}
use Rattle.ebs_model.specs.declared.request.Request.{Request}
use Rattle.ebs_model.specs.declared.request.Request.TheVariants.{CreateRule, GetRule, UpdateRule, DeleteRule, ListRules, LockRule, UnlockRule}
use Rattle.ebs_model.specs.declared.answer.Answer.{Answer}
use Rattle.ebs_model.specs.declared.answer.Answer.TheVariants.{RuleShown, RuleList, Done}
use Rattle.ebs_model.specs.Rows.{book_of}
use Rattle.ebs_model.specs.Machine.{Machine, rows_of, advance, empty_machine}
use Rattle.ebs_model.specs.Step.{step}
use Rattle.ebs_laws.specs.Words.{second_of, moment_at}
use Rattle.ebs_laws.specs.RuleWords.{rule_at}
use Rattle.ebs_model.specs.Timed.{Timed, turn, after_all}

-- the number that the account's next rule gets
abbrev pub next_rule : Machine → ℕ → ℕ
next_rule m account = (book_of (rows_of m) account).next

abbrev pub rule_key : ℕ → ℕ → RuleKey
rule_key account number = record { account = account; number = number }

-- a rule stands under the number in its key, which was given out, and has a day to 365 days
pub record IsFitRule (next account number : ℕ) (rule : Rule) : Type 0 where
  pub key_is : rule.key ≡ rule_key account number
  pub given : number < next
  pub least : 1 ≤ rule.days
  pub most : rule.days ≤ 365

abbrev pub RulesFit : Machine → Type 0
RulesFit m = (account number : ℕ) (rule : Rule) → rule_at m account number ≡ Some rule → IsFitRule (next_rule m account) account number rule

abbrev pub RulesStayFit : Type 0
RulesStayFit = (m : Machine) (account : ℕ) (reading : Moment) (request : Request) → RulesFit m → RulesFit (step m account reading request).0

abbrev pub RunsLeaveRulesFit : Type 0
RunsLeaveRulesFit = (secret : List ℕ) (turns : List Timed) → RulesFit (after_all (empty_machine secret) turns)

-- ---- what is shown

-- a lock as it is shown: an unlock whose end is reached is none
abbrev pub lock_in : RuleLock → ℕ → RuleLockName
lock_in lock.Unlocked now = name.Unlocked
lock_in (lock.Locked delay) now = name.Locked
lock_in (lock.Pending end) now = cond (nat_le end.second now) name.Unlocked name.Pending

abbrev pub end_in : RuleLock → ℕ → Option Moment
end_in lock.Unlocked now = None
end_in (lock.Locked delay) now = None
end_in (lock.Pending end) now = cond (nat_le end.second now) None (Some end)

-- a rule's own fields, and what time makes of its lock
pub record ShowsRule (now : ℕ) (rule : Rule) (view : RuleView) : Type 0 where
  pub key_is : view.key ≡ rule.key
  pub days_are : view.days ≡ rule.days
  pub tags_are : view.tags ≡ rule.tags
  pub description_is : view.description ≡ rule.description
  pub lock_is : view.lock ≡ lock_in rule.lock now
  pub ends : view.lock_end ≡ end_in rule.lock now

-- so a rule is shown, as one that was created or not
abbrev pub IsShownSo : Answer → Bool → ℕ → Rule → Type 0
IsShownSo answer created now rule = (view : RuleView) × (answer ≡ RuleShown created view) × ShowsRule now rule view

-- ---- commands

-- the id of a rule that an answer says was created
abbrev pub created_rule : Answer → Option RuleKey
created_rule (RuleShown true view) = Some view.key
created_rule answer = None

-- nothing but the rules of this account changes
pub record RulesAlone (old new : Machine) (account : ℕ) : Type 0 where
  pub snapshots : new.snaps ≡ old.snaps
  pub accounts : new.own ≡ old.own
  pub tokens : new.tokens ≡ old.tokens
  pub volumes : new.vols ≡ old.vols
  pub disks : new.disks ≡ old.disks
  pub policies : new.policies ≡ old.policies
  pub others : (other : ℕ) → other ≢ account → fin.get new.books other ≡ fin.get old.books other

-- one rule of the account is this one, or isn't there any more; every other one, and all else, stays
pub record OneRule (old new : Machine) (account number : ℕ) (becomes : Option Rule) : Type 0 where
  pub is : rule_at new account number ≡ becomes
  pub other_rules : (n : ℕ) → n ≢ number → rule_at new account n ≡ rule_at old account n
  pub alone : RulesAlone old new account

abbrev pub lock_given : Option ℕ → RuleLock
lock_given None = lock.Unlocked
lock_given (Some delay) = lock.Locked delay

-- a rule under the account's next number, as it was asked for
abbrev pub wanted_rule : ℕ → ℕ → ℕ → List RuleTag → Option (List ℕ) → Option ℕ → Rule
wanted_rule account number days tags text delay = record { key = rule_key account number; days = days; tags = tags; description = text; lock = lock_given delay }

abbrev pub CreatedRuleIsAsAsked : Type 0
CreatedRuleIsAsAsked =
    (m : Machine) (account : ℕ) (reading : Moment) (days : ℕ) (tags : List RuleTag) (text : Option (List ℕ)) (delay : Option ℕ) → let s = step m account reading (CreateRule days tags text delay) in
    s.0.changes ≡ m.changes + 1
    → OneRule (advance m (moment_at m reading)) s.0 account (next_rule m account) (Some (wanted_rule account (next_rule m account) days tags text delay))
    × (next_rule s.0 account ≡ next_rule m account + 1) × (created_rule s.1 ≡ Some (rule_key account (next_rule m account)))
    × IsShownSo s.1 true (second_of m reading) (wanted_rule account (next_rule m account) days tags text delay)

-- unlocked: without a lock, or with an unlock whose end is reached
abbrev pub IsLoose : RuleLock → ℕ → Type 0
IsLoose lock.Unlocked now = Unit {0}
IsLoose (lock.Locked delay) now = ⊥
IsLoose (lock.Pending end) now = end.second ≤ now

-- an unlocked rule of the account's own
pub record IsOwnLoose (m : Machine) (account now : ℕ) (key : RuleKey) (old : Rule) : Type 0 where
  pub owned : key.account ≡ account
  pub was_there : rule_at m account key.number ≡ Some old
  pub loose : IsLoose old.lock now

abbrev pub given_or : Option (List ℕ) → Option (List ℕ) → Option (List ℕ)
given_or None old = old
given_or (Some new) old = Some new

-- the given fields are new
abbrev pub with_given : Rule → Option ℕ → Option (List RuleTag) → Option (List ℕ) → Rule
with_given old days tags text = record old { days = unwrap_or days old.days; tags = unwrap_or tags old.tags; description = given_or text old.description }

abbrev pub UpdatedRuleIsAsAsked : Type 0
UpdatedRuleIsAsAsked =
    (m : Machine) (account : ℕ) (reading : Moment) (key : RuleKey) (days : Option ℕ) (tags : Option (List RuleTag)) (text : Option (List ℕ)) → let s = step m account reading (UpdateRule key days tags text) in
    RulesFit m → s.0.changes ≡ m.changes + 1
    → (old : Rule) × IsOwnLoose m account (second_of m reading) key old
    × OneRule (advance m (moment_at m reading)) s.0 account key.number (Some (with_given old days tags text)) × IsShownSo s.1 false (second_of m reading) (with_given old days tags text)

abbrev pub DeletedRuleIsGone : Type 0
DeletedRuleIsGone =
    (m : Machine) (account : ℕ) (reading : Moment) (key : RuleKey) → let s = step m account reading (DeleteRule key) in s.0.changes ≡ m.changes + 1
    → (old : Rule) × IsOwnLoose m account (second_of m reading) key old × OneRule (advance m (moment_at m reading)) s.0 account key.number None × (s.1 ≡ Done)

-- a rule of the whole account, which isn't locked, or waits for its unlock, gets a lock, and nothing else of it is new
abbrev pub LockedRuleIsAsAsked : Type 0
LockedRuleIsAsAsked =
    (m : Machine) (account : ℕ) (reading : Moment) (key : RuleKey) (delay : ℕ) → let s = step m account reading (LockRule key delay) in
    RulesFit m → s.0.changes ≡ m.changes + 1
    → (old : Rule) × (key.account ≡ account) × (rule_at m account key.number ≡ Some old) × (old.tags ≡ []) × ((own : ℕ) → old.lock ≢ lock.Locked own)
    × OneRule (advance m (moment_at m reading)) s.0 account key.number (Some (record old { lock = lock.Locked delay })) × IsShownSo s.1 false (second_of m reading) (record old { lock = lock.Locked delay })

-- a locked rule waits for the days of its delay, each of 86400 seconds, and nothing else of it is new
abbrev pub UnlockedRuleIsAsAsked : Type 0
UnlockedRuleIsAsAsked =
    (m : Machine) (account : ℕ) (reading : Moment) (key : RuleKey) → let s = step m account reading (UnlockRule key) in
    RulesFit m → s.0.changes ≡ m.changes + 1
    → (old : Rule) × (delay : ℕ) × (key.account ≡ account) × (rule_at m account key.number ≡ Some old) × (old.lock ≡ lock.Locked delay)
    × OneRule (advance m (moment_at m reading)) s.0 account key.number (Some (record old { lock = lock.Pending (record { second = second_of m reading + 86400 * delay }) }))
    × IsShownSo s.1 false (second_of m reading) (record old { lock = lock.Pending (record { second = second_of m reading + 86400 * delay }) })

-- ---- a locked rule

-- its unlock, where it waits for one, ends later
abbrev pub IsWithin : ℕ → RuleLock → Type 0
IsWithin now lock.Unlocked = Unit {0}
IsWithin now (lock.Locked delay) = Unit {0}
IsWithin now (lock.Pending end) = now < end.second

abbrev pub IsAhead : ℕ → Option Rule → Type 0
IsAhead now None = Unit {0}
IsAhead now (Some rule) = IsWithin now rule.lock

-- no call comes at or after the end of an unlock that the rule waits for
abbrev pub NoneEnds : ℕ → ℕ → Machine → List Timed → Type 0
NoneEnds account number m [] = Unit {0}
NoneEnds account number m (t ∷ ts) = IsAhead (second_of m t.reading) (rule_at m account number) × NoneEnds account number (turn m t).0 ts

-- a locked rule stays with its days, its tags and its description, whatever is called by whomever until an unlock's delay has passed
abbrev pub LockedRuleIsKept : Type 0
LockedRuleIsKept =
    (m : Machine) (turns : List Timed) (account number : ℕ) (rule : Rule) (delay : ℕ) → RulesFit m → rule_at m account number ≡ Some rule → rule.lock ≡ lock.Locked delay → NoneEnds account number m turns
    → (kept : Rule) × (rule_at (after_all m turns) account number ≡ Some kept) × (kept.days ≡ rule.days) × (kept.tags ≡ rule.tags) × (kept.description ≡ rule.description)

-- ---- numbers

abbrev pub RuleNumbersNeverFall : Type 0
RuleNumbersNeverFall = (m : Machine) (turns : List Timed) (account : ℕ) → next_rule m account ≤ next_rule (after_all m turns) account

-- two rules that were created differ in their ids, whatever was called in between and became of them
abbrev pub CreatedRulesDiffer : Type 0
CreatedRulesDiffer =
    (m : Machine) (first second : Timed) (turns : List Timed) (one two : RuleKey) → let n = after_all (turn m first).0 turns in
    created_rule (turn m first).1 ≡ Some one → created_rule (turn n second).1 ≡ Some two → one ≢ two

-- what GetRule shows is the rule, of the account's own
abbrev pub ShownRuleIsTheRule : Type 0
ShownRuleIsTheRule =
    (m : Machine) (account : ℕ) (reading : Moment) (key : RuleKey) (created : Bool) (view : RuleView) → (step m account reading (GetRule key)).1 ≡ RuleShown created view
    → (rule : Rule) × (key.account ≡ account) × (rule_at m account key.number ≡ Some rule) × (created ≡ false) × ShowsRule (second_of m reading) rule view

-- and each of its own is shown to it
abbrev pub OwnRuleIsShown : Type 0
OwnRuleIsShown =
    (m : Machine) (reading : Moment) (key : RuleKey) (rule : Rule) → rule_at m key.account key.number ≡ Some rule
    → (view : RuleView) × ((step m key.account reading (GetRule key)).1 ≡ RuleShown false view)

-- only rules of the account's own, as they are, in ascending number, and each of them
pub record ListsRules (m : Machine) (account now : ℕ) (views : List RuleView) : Type 0 where
  pub own : All (λ view. (rule : Rule) × (rule_at m account view.key.number ≡ Some rule) × ShowsRule now rule view) views
  pub ascending : IsStrictlySortedBy nat_cmp (map (λ view. view.key.number) views)
  pub each : (number : ℕ) (rule : Rule) → rule_at m account number ≡ Some rule → is_among number (map (λ view. view.key.number) views) ≡ true

abbrev pub ListHasRules : Type 0
ListHasRules = (m : Machine) (account : ℕ) (reading : Moment) → RulesFit m → (views : List RuleView) × ((step m account reading ListRules).1 ≡ RuleList views) × ListsRules m account (second_of m reading) views
