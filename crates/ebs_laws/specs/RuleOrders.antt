-- In which order the tests of calls on rules and on the bin refuse them (Recycle Bin documentation). Each test stands over fields of the request, of
-- rules and of rows.
use Rattle.std.specs.Prelude.{ℕ, ◌^◌, Bool, true, false, not, ◌&&◌, ◌==◌, nat_le, nat_lt, List, [], ◌∷◌, codes}
use Rattle.std.specs.FinMap as fin
use Rattle.std.specs.declared.option.Option.{Option}
use Rattle.std.specs.declared.option.Option.TheVariants.{None, Some}
use Rattle.ebs_model.specs.declared.keys.SnapKey.{SnapKey}
use Rattle.ebs_model.specs.declared.keys.RuleKey.{RuleKey}
use Rattle.ebs_model.specs.declared.keys.Moment.{Moment}
use Rattle.ebs_model.specs.declared.rules.Rule.{Rule}
use Rattle.ebs_model.specs.declared.rules.RuleTag.{RuleTag}
use Rattle.ebs_model.specs.declared.rules.RuleLock.{RuleLock}
use Rattle.ebs_model.specs.declared.rules.RuleLock.TheVariants as lock
use Rattle.ebs_model.specs.declared.request.Request.TheVariants.{CreateRule, GetRule, UpdateRule, DeleteRule, ListRules, LockRule, UnlockRule, ListBin, RestoreFromBin}
use Rattle.ebs_model.specs.declared.answer.Kind.TheVariants.{Snapshot as snapshot, Rule as rule}
use Rattle.ebs_model.specs.declared.answer.StateName.TheVariants as state
use Rattle.ebs_model.specs.declared.answer.QuotaName.TheVariants.{Rules, Ids}
use Rattle.ebs_model.specs.declared.answer.Spent.TheVariants.{Changes}
use Rattle.ebs_model.specs.declared.answer.Refusal.TheVariants.{BadParameter, Quota, WrongState, NotFound, RuleLocked, Exhausted}
use Rattle.ebs_model.specs.Limits.{is_description, are_rule_tags, are_rule_tags_given}
use Rattle.ebs_model.specs.Rows.{book_of}
use Rattle.ebs_model.specs.Time.{Snapshot}
use Rattle.ebs_model.specs.Machine.{Machine, advance, rows_of}
use Rattle.ebs_model.specs.Step.{step}
use Rattle.ebs_laws.specs.Words.{second_of, moment_at}
use Rattle.ebs_laws.specs.RuleWords.{rule_at}
use Rattle.ebs_laws.specs.OrderLaws.{Tests, first_of, IsRefusedBy, is_in_bin, not_there}
use Rattle.ebs_laws.specs.RowOrders.{own_list_tests}

abbrev pub found_tests : Option Rule → (Rule → Tests) → Tests
found_tests None of = (true, NotFound rule) ∷ []
found_tests (Some kept) of = of kept

-- another's rule is unknown, and so is one that isn't there; then the tests of the rule
abbrev pub rule_tests : Machine → ℕ → RuleKey → (Rule → Tests) → Tests
rule_tests m account key of = (not (key.account == account), NotFound rule) ∷ found_tests (rule_at m account key.number) of

-- GetRule: the rule alone
abbrev pub GetRuleIsRefusedInOrder : Type 0
GetRuleIsRefusedInOrder =
    (m : Machine) (account : ℕ) (reading : Moment) (key : RuleKey) → IsRefusedBy (first_of (rule_tests m account key (λ kept. []))) (step m account reading (GetRule key)).1

-- ListRules is never refused
abbrev pub ListRulesIsNotRefused : Type 0
ListRulesIsNotRefused = (m : Machine) (account : ℕ) (reading : Moment) → IsRefusedBy None (step m account reading ListRules).1

-- CreateRule: the days, the tags, the description, the lock; then the account's rules and their numbers, then the store's changes
abbrev pub are_days : ℕ → Bool
are_days days = nat_le 1 days && nat_le days 365

-- only a rule of the whole account begins with a lock, of 7 to 30 days
abbrev pub is_lock_of : List RuleTag → Option ℕ → Bool
is_lock_of tags None = true
is_lock_of [] (Some delay) = nat_le 7 delay && nat_le delay 30
is_lock_of (tag ∷ tags) (Some delay) = false

abbrev pub create_rule_tests : Machine → ℕ → ℕ → List RuleTag → Option (List ℕ) → Option ℕ → Tests
create_rule_tests m account days tags text delay =
    (not (are_days days), BadParameter (codes "RetentionPeriod"))
    ∷ (not (are_rule_tags tags), BadParameter (codes "ResourceTags"))
    ∷ (not (is_description text), BadParameter (codes "Description"))
    ∷ (not (is_lock_of tags delay), BadParameter (codes "LockConfiguration"))
    ∷ (nat_le 50 (fin.len (book_of (rows_of m) account).rules), Quota Rules 50)
    ∷ (nat_le (2 ^ 28) (book_of (rows_of m) account).next, Quota Ids (2 ^ 28))
    ∷ (nat_le (2 ^ 40) m.changes, Exhausted Changes)
    ∷ []

abbrev pub CreateRuleIsRefusedInOrder : Type 0
CreateRuleIsRefusedInOrder =
    (m : Machine) (account : ℕ) (reading : Moment) (days : ℕ) (tags : List RuleTag) (text : Option (List ℕ)) (delay : Option ℕ)
    → IsRefusedBy (first_of (create_rule_tests m account days tags text delay)) (step m account reading (CreateRule days tags text delay)).1

-- locked, or waiting for its unlock
abbrev pub is_held : RuleLock → ℕ → Bool
is_held lock.Unlocked now = false
is_held (lock.Locked delay) now = true
is_held (lock.Pending end) now = nat_lt now end.second

abbrev pub held_rule_tests : Machine → ℕ → Rule → Tests
held_rule_tests m now kept = (is_held kept.lock now, RuleLocked) ∷ (nat_le (2 ^ 40) m.changes, Exhausted Changes) ∷ []

-- UpdateRule: the days, the tags, the description; then the rule, then its lock, then the store's changes
abbrev pub are_days_given : Option ℕ → Bool
are_days_given None = true
are_days_given (Some days) = are_days days

abbrev pub update_rule_tests : Machine → ℕ → ℕ → RuleKey → Option ℕ → Option (List RuleTag) → Option (List ℕ) → Tests
update_rule_tests m account now key days tags text =
    (not (are_days_given days), BadParameter (codes "RetentionPeriod"))
    ∷ (not (are_rule_tags_given tags), BadParameter (codes "ResourceTags"))
    ∷ (not (is_description text), BadParameter (codes "Description"))
    ∷ rule_tests m account key (held_rule_tests m now)

abbrev pub UpdateRuleIsRefusedInOrder : Type 0
UpdateRuleIsRefusedInOrder =
    (m : Machine) (account : ℕ) (reading : Moment) (key : RuleKey) (days : Option ℕ) (tags : Option (List RuleTag)) (text : Option (List ℕ))
    → IsRefusedBy (first_of (update_rule_tests m account (second_of m reading) key days tags text)) (step m account reading (UpdateRule key days tags text)).1

-- DeleteRule: the rule, then its lock, then the store's changes
abbrev pub DeleteRuleIsRefusedInOrder : Type 0
DeleteRuleIsRefusedInOrder =
    (m : Machine) (account : ℕ) (reading : Moment) (key : RuleKey)
    → IsRefusedBy (first_of (rule_tests m account key (held_rule_tests m (second_of m reading)))) (step m account reading (DeleteRule key)).1

-- LockRule: the delay; then the rule, then tags that it has, then its lock, then the store's changes: one that waits for its unlock is locked again
abbrev pub has_tags : List RuleTag → Bool
has_tags [] = false
has_tags (tag ∷ tags) = true

abbrev pub is_locked : RuleLock → Bool
is_locked lock.Unlocked = false
is_locked (lock.Locked delay) = true
is_locked (lock.Pending end) = false

abbrev pub lockable_tests : Machine → Rule → Tests
lockable_tests m kept = (has_tags kept.tags, WrongState state.TagLevel) ∷ (is_locked kept.lock, RuleLocked) ∷ (nat_le (2 ^ 40) m.changes, Exhausted Changes) ∷ []

abbrev pub LockRuleIsRefusedInOrder : Type 0
LockRuleIsRefusedInOrder =
    (m : Machine) (account : ℕ) (reading : Moment) (key : RuleKey) (delay : ℕ)
    → IsRefusedBy (first_of ((not (nat_le 7 delay && nat_le delay 30), BadParameter (codes "LockConfiguration")) ∷ rule_tests m account key (lockable_tests m))) (step m account reading (LockRule key delay)).1

-- UnlockRule: the rule, then one that isn't locked, then one that waits already, then the store's changes
abbrev pub is_open : RuleLock → ℕ → Bool
is_open lock.Unlocked now = true
is_open (lock.Locked delay) now = false
is_open (lock.Pending end) now = nat_le end.second now

abbrev pub waits : RuleLock → ℕ → Bool
waits lock.Unlocked now = false
waits (lock.Locked delay) now = false
waits (lock.Pending end) now = nat_lt now end.second

abbrev pub unlockable_tests : Machine → ℕ → Rule → Tests
unlockable_tests m now kept = (is_open kept.lock now, WrongState state.Unlocked) ∷ (waits kept.lock now, RuleLocked) ∷ (nat_le (2 ^ 40) m.changes, Exhausted Changes) ∷ []

abbrev pub UnlockRuleIsRefusedInOrder : Type 0
UnlockRuleIsRefusedInOrder =
    (m : Machine) (account : ℕ) (reading : Moment) (key : RuleKey)
    → IsRefusedBy (first_of (rule_tests m account key (unlockable_tests m (second_of m reading)))) (step m account reading (UnlockRule key)).1

-- ListBin: its members, and nothing of the machine
abbrev pub BinListIsRefusedInOrder : Type 0
BinListIsRefusedInOrder =
    (m : Machine) (account : ℕ) (reading : Moment) (from most : ℕ) → IsRefusedBy (first_of (own_list_tests from most)) (step m account reading (ListBin from most)).1

-- RestoreFromBin: another's snapshot is unknown, and so is one that isn't in the bin; then the store's changes
abbrev pub restore_bin_tests : Machine → ℕ → ℕ → SnapKey → Option Snapshot → Tests
restore_bin_tests m account now key None = not_there
restore_bin_tests m account now key (Some s) =
    (not (account == key.account), NotFound snapshot) ∷ (not (is_in_bin s.row.bin_end now), NotFound snapshot) ∷ (nat_le (2 ^ 40) m.changes, Exhausted Changes) ∷ []

abbrev pub RestoreBinIsRefusedInOrder : Type 0
RestoreBinIsRefusedInOrder =
    (m : Machine) (account : ℕ) (reading : Moment) (key : SnapKey) → let now = moment_at m reading in
    IsRefusedBy (first_of (restore_bin_tests m account now.second key (fin.get (advance m now).snaps key))) (step m account reading (RestoreFromBin key)).1
