-- In which order the calls on rules and on the bin are refused.
use Rattle.std.proofs.Common.{◌≡◌, ℕ, ◌^◌, Bool, true, false, not, ◌&&◌, ◌==◌, cond, nat_le, nat_lt, List, [], ◌∷◌, ◌++◌, codes, Option, Some, None, Result, Ok, Err, ap, ◌∙◌, refl, arith}
use Rattle.std.proofs.lemmas.Bool.Decides.{nat_tests}
use Rattle.std.specs.FinMap as fin
use Rattle.sha2.specs.Sha256.{sha256}
use Rattle.ebs_model.specs.declared.keys.SnapKey.{SnapKey}
use Rattle.ebs_model.specs.declared.keys.RuleKey.{RuleKey}
use Rattle.ebs_model.specs.declared.rules.Rule.{Rule}
use Rattle.ebs_model.specs.declared.rules.RuleTag.{RuleTag}
use Rattle.ebs_model.specs.declared.rules.RuleLock.{RuleLock}
use Rattle.ebs_model.specs.declared.rules.RuleLock.TheVariants as lock
use Rattle.ebs_model.specs.declared.rules.RuleChange.{RuleChange}
use Rattle.ebs_model.specs.declared.rules.RuleChange.TheVariants.{Put, Remove}
use Rattle.ebs_model.specs.declared.rules.RuleRefusal.{RuleRefusal}
use Rattle.ebs_model.specs.declared.rules.RuleRefusal.TheVariants as refusal
use Rattle.ebs_model.specs.declared.rules.RuleCommand.{RuleCommand}
use Rattle.ebs_model.specs.declared.rules.RuleCommand.TheVariants as command
use Rattle.ebs_model.specs.declared.request.Request.TheVariants.{CreateRule, GetRule, UpdateRule, DeleteRule, ListRules, LockRule, UnlockRule, ListBin, RestoreFromBin}
use Rattle.ebs_model.specs.declared.answer.Answer.TheVariants.{SnapshotShown, RuleShown}
use Rattle.ebs_model.specs.declared.answer.Kind.TheVariants.{Snapshot as snapshot, Rule as rule}
use Rattle.ebs_model.specs.declared.answer.StateName.TheVariants as state
use Rattle.ebs_model.specs.declared.answer.QuotaName.TheVariants.{Rules, Ids}
use Rattle.ebs_model.specs.declared.answer.Spent.TheVariants.{Changes}
use Rattle.ebs_model.specs.declared.answer.Refusal.{Refusal}
use Rattle.ebs_model.specs.declared.answer.Refusal.TheVariants.{BadParameter, WrongState, NotFound, Quota, RuleLocked, Exhausted}
use Rattle.ebs_model.specs.Refuse.{◌>>=◌, ◌>>◌, refuse_if, some_or}
use Rattle.ebs_model.specs.Limits.{unless, is_retention, is_retention_given, are_rule_tags, are_rule_tags_given, is_description, is_first_delay, is_delay}
use Rattle.ebs_model.specs.Time.{Snapshot, is_ahead}
use Rattle.ebs_model.specs.Access.{owns}
use Rattle.ebs_model.specs.Machine.{Machine, advance, is_spent, rows_of}
use Rattle.ebs_model.specs.Rows.{book_of}
use Rattle.ebs_model.specs.Rules.{find, lock_at, rule_view}
use Rattle.ebs_model.specs.RuleCommands.{if_unlocked, update_of, updated, delete_of, lock_of, lock_by, unlock_of, unlock_by, lock_with, new_rule, create}
use Rattle.ebs_model.specs.Views.{view_of}
use Rattle.ebs_model.specs.Calls.Bin.{binned, recovered}
use Rattle.ebs_model.specs.Calls.Rule.{changed_rule, rule_answer, is_creation}
use Rattle.ebs_laws.specs.Words.{moment_at}
use Rattle.ebs_laws.specs.RuleWords.{rule_at}
use Rattle.ebs_laws.specs.OrderLaws.{Tests, first_of}
use Rattle.ebs_laws.specs.RowOrders.{own_list_tests}
use Rattle.ebs_laws.specs.RuleOrders.{found_tests, rule_tests, GetRuleIsRefusedInOrder, ListRulesIsNotRefused, are_days, is_lock_of, create_rule_tests, CreateRuleIsRefusedInOrder, is_held, held_rule_tests, are_days_given, update_rule_tests, UpdateRuleIsRefusedInOrder, DeleteRuleIsRefusedInOrder, has_tags, is_locked, lockable_tests, LockRuleIsRefusedInOrder, is_open, waits, unlockable_tests, UnlockRuleIsRefusedInOrder, BinListIsRefusedInOrder, restore_bin_tests, RestoreBinIsRefusedInOrder}
use Rattle.ebs_laws.proofs.Cases.{Outcome}
use Rattle.ebs_laws.proofs.Ordered.{refusal_in, bad, found, bin-same, refused-so, change_test, spent}
use Rattle.ebs_laws.proofs.RowTests.{valued}
use Rattle.ebs_laws.proofs.Whole as whole

abbrev Decided : Type 0
Decided = Result RuleChange RuleRefusal

-- an end that isn't reached lies ahead
one_of : (a b : ℕ) → not (nat_le a b) ≡ nat_lt b a
one_of a b = grind (arith, nat_tests)

held-order : (l : RuleLock) (now : ℕ) (change : RuleChange) → refusal_in (changed_rule (if_unlocked (lock_at l now) change)) ≡ first_of ((is_held l now, RuleLocked) ∷ [])
held-order lock.Unlocked now change = refl
held-order (lock.Locked delay) now change = refl
held-order (lock.Pending end) now change = by (nat_le end.second now) ∙ (λ i. first_of ((one_of end.second now i, RuleLocked) ∷ []))
  where
    by : (b : Bool) → refusal_in (changed_rule (if_unlocked (cond b lock.Unlocked (lock.Pending end)) change)) ≡ first_of ((not b, RuleLocked) ∷ [])
    by true = refl
    by false = refl

locked-order : (l : RuleLock) (now delay : ℕ) (key : RuleKey) (kept : Rule) → refusal_in (changed_rule (lock_by (lock_at l now) key kept delay)) ≡ first_of ((is_locked l, RuleLocked) ∷ [])
locked-order lock.Unlocked now delay key kept = refl
locked-order (lock.Locked own) now delay key kept = refl
locked-order (lock.Pending end) now delay key kept = by (nat_le end.second now)
  where
    by : (b : Bool) → refusal_in (changed_rule (lock_by (cond b lock.Unlocked (lock.Pending end)) key kept delay)) ≡ first_of ((false, RuleLocked) ∷ [])
    by true = refl
    by false = refl

unlocked-order : (l : RuleLock) (now : ℕ) (key : RuleKey) (kept : Rule) → refusal_in (changed_rule (unlock_by (lock_at l now) key kept now)) ≡ first_of ((is_open l now, WrongState state.Unlocked) ∷ (waits l now, RuleLocked) ∷ [])
unlocked-order lock.Unlocked now key kept = refl
unlocked-order (lock.Locked delay) now key kept = refl
unlocked-order (lock.Pending end) now key kept =
    by (nat_le end.second now) ∙ (λ i. first_of ((nat_le end.second now, WrongState state.Unlocked) ∷ (one_of end.second now i, RuleLocked) ∷ []))
  where
    by : (b : Bool) → refusal_in (changed_rule (unlock_by (cond b lock.Unlocked (lock.Pending end)) key kept now)) ≡ first_of ((b, WrongState state.Unlocked) ∷ (not b, RuleLocked) ∷ [])
    by true = refl
    by false = refl

delay-same : (tags : List RuleTag) (delay : Option ℕ) → is_first_delay tags delay ≡ is_lock_of tags delay
delay-same [] None = refl
delay-same (tag ∷ tags) None = refl
delay-same [] (Some delay) = refl
delay-same (tag ∷ tags) (Some delay) = refl

days-given-same : (days : Option ℕ) → is_retention_given days ≡ are_days_given days
days-given-same None = refl
days-given-same (Some days) = refl

module _ (at : Machine) (account : ℕ) where
  abbrev now : ℕ
  now = at.clock.second

  abbrev finished : RuleCommand → RuleChange → Result Outcome Refusal
  finished command change = refuse_if (is_spent at) (Exhausted Changes) >> Ok (whole.ruled at account change, rule_answer (is_creation command) now change)

  changes-last : (command : RuleCommand) (change : RuleChange) → refusal_in (finished command change) ≡ first_of (change_test at account)
  changes-last command change = spent at account (whole.ruled at account change, rule_answer (is_creation command) now change)

  -- a command on one rule: the rule, then the tests of it
  on-rule : (key : RuleKey) (decided : Option Rule → Decided) (command : RuleCommand) (of : Rule → Tests) → decided None ≡ Err refusal.NotFound
      → ((kept : Rule) → refusal_in (changed_rule (decided (Some kept)) >>= finished command) ≡ first_of (of kept))
      → refusal_in (changed_rule (decided (find account (book_of (rows_of at) account) key)) >>= finished command) ≡ first_of (rule_tests at account key of)
  on-rule key decided command of none some = by (key.account == account) (rule_at at account key.number)
    where
      missing : refusal_in (changed_rule (decided None) >>= finished command) ≡ Some (NotFound rule)
      missing = ap (λ x. refusal_in (changed_rule x >>= finished command)) none

      by : (b : Bool) (o : Option Rule) → refusal_in (changed_rule (decided (cond b o None)) >>= finished command) ≡ first_of ((not b, NotFound rule) ∷ found_tests o of)
      by true None = missing
      by true (Some kept) = some kept
      by false o = missing

  get-order : (key : RuleKey) → refusal_in (whole.call at account (GetRule key)) ≡ first_of (rule_tests at account key (λ kept. []))
  get-order key = by (key.account == account) (rule_at at account key.number)
    where
      by : (b : Bool) (o : Option Rule) → refusal_in {A = Outcome} (some_or (cond b o None) (NotFound rule) >>= λ kept. Ok (at, RuleShown false (rule_view now kept))) ≡ first_of ((not b, NotFound rule) ∷ found_tests o (λ kept. []))
      by true None = refl
      by true (Some kept) = refl
      by false o = refl

  held-rule : (command : RuleCommand) (kept : Rule) (change : RuleChange) → refusal_in (changed_rule (if_unlocked (lock_at kept.lock now) change) >>= finished command) ≡ first_of (held_rule_tests at now kept)
  held-rule command kept change =
      valued (changed_rule (if_unlocked (lock_at kept.lock now) change)) (finished command) ((is_held kept.lock now, RuleLocked) ∷ []) (change_test at account) (held-order kept.lock now change) (changes-last command)

  delete-order : (key : RuleKey) → refusal_in (whole.call at account (DeleteRule key)) ≡ first_of (rule_tests at account key (held_rule_tests at now))
  delete-order key = on-rule key (λ o. delete_of o key now) (command.Delete key) (held_rule_tests at now) refl (λ kept. held-rule (command.Delete key) kept (Remove key))

  update-order : (key : RuleKey) (days : Option ℕ) (tags : Option (List RuleTag)) (text : Option (List ℕ)) → refusal_in (whole.call at account (UpdateRule key days tags text)) ≡ first_of (update_rule_tests at account now key days tags text)
  update-order key days tags text =
      let all = whole.change_rules at account (command.Update key days tags text) in
      let last : Tests = rule_tests at account key (held_rule_tests at now) in
      let named : Tests = (not (is_description text), BadParameter (codes "Description")) ∷ last in
      let tagged : Tests = (not (are_rule_tags_given tags), BadParameter (codes "ResourceTags")) ∷ named in
      let bad_text : Option (List ℕ) = unless (is_description text) (codes "Description") None in
      bad (is_retention_given days) (codes "RetentionPeriod") (unless (are_rule_tags_given tags) (codes "ResourceTags") bad_text) all tagged
      (bad (are_rule_tags_given tags) (codes "ResourceTags") bad_text all named
      (bad (is_description text) (codes "Description") None all last
      (on-rule key (λ o. update_of o key days tags text now) (command.Update key days tags text) (held_rule_tests at now) refl (λ kept. held-rule (command.Update key days tags text) kept (Put (updated key kept days tags text))))))
      ∙ (λ i. first_of ((not (days-given-same days i), BadParameter (codes "RetentionPeriod")) ∷ tagged))

  lock-rule : (key : RuleKey) (delay : ℕ) (kept : Rule) (tags : List RuleTag) → refusal_in (changed_rule (lock_with tags key kept delay now) >>= finished (command.Lock key delay)) ≡ first_of ((has_tags tags, WrongState state.TagLevel) ∷ (is_locked kept.lock, RuleLocked) ∷ change_test at account)
  lock-rule key delay kept [] =
      valued (changed_rule (lock_by (lock_at kept.lock now) key kept delay)) (finished (command.Lock key delay)) ((is_locked kept.lock, RuleLocked) ∷ []) (change_test at account) (locked-order kept.lock now delay key kept) (changes-last (command.Lock key delay))
  lock-rule key delay kept (tag ∷ tags) = refl

  lock-order : (key : RuleKey) (delay : ℕ) → refusal_in (whole.call at account (LockRule key delay)) ≡ first_of ((not (nat_le 7 delay && nat_le delay 30), BadParameter (codes "LockConfiguration")) ∷ rule_tests at account key (lockable_tests at))
  lock-order key delay =
      bad (is_delay delay) (codes "LockConfiguration") None (whole.change_rules at account (command.Lock key delay)) (rule_tests at account key (lockable_tests at))
      (on-rule key (λ o. lock_of o key delay now) (command.Lock key delay) (lockable_tests at) refl (λ kept. lock-rule key delay kept kept.tags))

  unlock-order : (key : RuleKey) → refusal_in (whole.call at account (UnlockRule key)) ≡ first_of (rule_tests at account key (unlockable_tests at now))
  unlock-order key = on-rule key (λ o. unlock_of o key now) (command.Unlock key) (unlockable_tests at now) refl
      (λ kept. valued (changed_rule (unlock_by (lock_at kept.lock now) key kept now)) (finished (command.Unlock key)) ((is_open kept.lock now, WrongState state.Unlocked) ∷ (waits kept.lock now, RuleLocked) ∷ []) (change_test at account) (unlocked-order kept.lock now key kept) (changes-last (command.Unlock key)))

  create-order : (days : ℕ) (tags : List RuleTag) (text : Option (List ℕ)) (delay : Option ℕ) → refusal_in (whole.call at account (CreateRule days tags text delay)) ≡ first_of (create_rule_tests at account days tags text delay)
  create-order days tags text delay =
      let asked : RuleCommand = command.Create days tags text delay in
      let all = whole.change_rules at account asked in
      let book = book_of (rows_of at) account in
      let room : Tests = (nat_le 50 (fin.len book.rules), Quota Rules 50) ∷ (nat_le (2 ^ 28) book.next, Quota Ids (2 ^ 28)) ∷ [] in
      let last : Tests = room ++ change_test at account in
      let locked : Tests = (not (is_first_delay tags delay), BadParameter (codes "LockConfiguration")) ∷ last in
      let named : Tests = (not (is_description text), BadParameter (codes "Description")) ∷ locked in
      let tagged : Tests = (not (are_rule_tags tags), BadParameter (codes "ResourceTags")) ∷ named in
      let bad_lock : Option (List ℕ) = unless (is_first_delay tags delay) (codes "LockConfiguration") None in
      let bad_text : Option (List ℕ) = unless (is_description text) (codes "Description") bad_lock in
      bad (is_retention days) (codes "RetentionPeriod") (unless (are_rule_tags tags) (codes "ResourceTags") bad_text) all tagged
      (bad (are_rule_tags tags) (codes "ResourceTags") bad_text all named
      (bad (is_description text) (codes "Description") bad_lock all locked
      (bad (is_first_delay tags delay) (codes "LockConfiguration") None all last
      (valued (changed_rule (create account book days tags text delay)) (finished asked) room (change_test at account) (room-order (nat_le 50 (fin.len book.rules)) (nat_le (2 ^ 28) book.next) days tags text delay) (changes-last asked)))))
      ∙ (λ i. first_of ((not (are_days days), BadParameter (codes "RetentionPeriod")) ∷ (not (are_rule_tags tags), BadParameter (codes "ResourceTags")) ∷ (not (is_description text), BadParameter (codes "Description")) ∷ (not (delay-same tags delay i), BadParameter (codes "LockConfiguration")) ∷ last))
    where
      room-order : (p q : Bool) (days : ℕ) (tags : List RuleTag) (text : Option (List ℕ)) (delay : Option ℕ)
          → refusal_in (changed_rule (cond p (Err refusal.TooMany) (cond q (Err refusal.NoNumber) (Ok (Put (new_rule account (book_of (rows_of at) account) days tags text delay)))))) ≡ first_of ((p, Quota Rules 50) ∷ (q, Quota Ids (2 ^ 28)) ∷ [])
      room-order true q days tags text delay = refl
      room-order false true days tags text delay = refl
      room-order false false days tags text delay = refl

  bin-order : (from most : ℕ) → refusal_in (whole.call at account (ListBin from most)) ≡ first_of (own_list_tests from most)
  bin-order from most =
      let all = whole.act sha256 at account (ListBin from most) in
      bad (nat_lt from (2 ^ 28)) (codes "from") (unless (nat_le 1 most && nat_le most 1000) (codes "max") None) all ((not (nat_le 1 most && nat_le most 1000), BadParameter (codes "max")) ∷ [])
      (bad (nat_le 1 most && nat_le most 1000) (codes "max") None all [] refl)

  abbrev recover_rest : SnapKey → Snapshot → Result Outcome Refusal
  recover_rest key s = refuse_if (is_spent at) (Exhausted Changes) >> Ok (whole.with_snapshot at key (whole.rewritten (recovered s.row) s), SnapshotShown false (view_of account now key (recovered s.row)))

  recover-order : (key : SnapKey) → refusal_in (whole.call at account (RestoreFromBin key)) ≡ first_of (restore_bin_tests at account now key (fin.get at.snaps key))
  recover-order key = by (fin.get at.snaps key)
    where
      tests : (a b : Bool) → refusal_in (refuse_if (not a) (NotFound snapshot) >> refuse_if (not b) (NotFound snapshot)) ≡ first_of ((not a, NotFound snapshot) ∷ (not b, NotFound snapshot) ∷ [])
      tests true true = refl
      tests true false = refl
      tests false b = refl

      by : (o : Option Snapshot) → refusal_in ((some_or o (NotFound snapshot) >>= λ s. binned account key now s.row >> Ok s) >>= recover_rest key) ≡ first_of (restore_bin_tests at account now key o)
      by None = refl
      by (Some s) =
          found (binned account key now s.row) s (recover_rest key) ((not (owns account key), NotFound snapshot) ∷ (not (is_ahead s.row.bin_end now), NotFound snapshot) ∷ []) (change_test at account) (tests (owns account key) (is_ahead s.row.bin_end now))
          (spent at account (whole.with_snapshot at key (whole.rewritten (recovered s.row) s), SnapshotShown false (view_of account now key (recovered s.row))))
          ∙ (λ i. first_of ((not (owns account key), NotFound snapshot) ∷ (not (bin-same s.row.bin_end now i), NotFound snapshot) ∷ change_test at account))

pub get_rule-refused : GetRuleIsRefusedInOrder
get_rule-refused m account reading key = let at = advance m (moment_at m reading) in refused-so at account (GetRule key) (rule_tests at account key (λ kept. [])) (get-order at account key)

pub list_rules-refused : ListRulesIsNotRefused
list_rules-refused m account reading = let at = advance m (moment_at m reading) in refused-so at account ListRules [] refl

pub create_rule-refused : CreateRuleIsRefusedInOrder
create_rule-refused m account reading days tags text delay =
    let at = advance m (moment_at m reading) in refused-so at account (CreateRule days tags text delay) (create_rule_tests at account days tags text delay) (create-order at account days tags text delay)

pub update_rule-refused : UpdateRuleIsRefusedInOrder
update_rule-refused m account reading key days tags text =
    let at = advance m (moment_at m reading) in refused-so at account (UpdateRule key days tags text) (update_rule_tests at account at.clock.second key days tags text) (update-order at account key days tags text)

pub delete_rule-refused : DeleteRuleIsRefusedInOrder
delete_rule-refused m account reading key =
    let at = advance m (moment_at m reading) in refused-so at account (DeleteRule key) (rule_tests at account key (held_rule_tests at at.clock.second)) (delete-order at account key)

pub lock_rule-refused : LockRuleIsRefusedInOrder
lock_rule-refused m account reading key delay =
    let at = advance m (moment_at m reading) in
    refused-so at account (LockRule key delay) ((not (nat_le 7 delay && nat_le delay 30), BadParameter (codes "LockConfiguration")) ∷ rule_tests at account key (lockable_tests at)) (lock-order at account key delay)

pub unlock_rule-refused : UnlockRuleIsRefusedInOrder
unlock_rule-refused m account reading key =
    let at = advance m (moment_at m reading) in refused-so at account (UnlockRule key) (rule_tests at account key (unlockable_tests at at.clock.second)) (unlock-order at account key)

pub bin-list-refused : BinListIsRefusedInOrder
bin-list-refused m account reading from most = let at = advance m (moment_at m reading) in refused-so at account (ListBin from most) (own_list_tests from most) (bin-order at account from most)

pub restore-bin-refused : RestoreBinIsRefusedInOrder
restore-bin-refused m account reading key =
    let at = advance m (moment_at m reading) in refused-so at account (RestoreFromBin key) (restore_bin_tests at account at.clock.second key (fin.get at.snaps key)) (recover-order at account key)
