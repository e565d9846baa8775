-- What each command on an account's rules changes, and when it is refused (Recycle Bin documentation, retention rules and rule lock).
use Rattle.std.specs.Prelude.{Result, ℕ, Option, None, Some, List, nat_le, if◌then◌else◌, Ok, Err, unwrap_or, [], ◌∷◌, ◌+◌, max}
use Rattle.std.specs.FinMap as map
use Rattle.ebs_model.specs.declared.keys.RuleKey.{RuleKey}
use Rattle.ebs_model.specs.declared.rules.Rule.{Rule}
use Rattle.ebs_model.specs.declared.rules.RuleTag.{RuleTag}
use Rattle.ebs_model.specs.declared.rules.RuleLock.{RuleLock}
use Rattle.ebs_model.specs.declared.rules.RuleLock.TheVariants as lock
use Rattle.ebs_model.specs.declared.rules.RuleChange.{RuleChange}
use Rattle.ebs_model.specs.declared.rules.RuleChange.TheVariants.{Put, Remove}
use Rattle.ebs_model.specs.declared.rules.RuleCommand.{RuleCommand}
use Rattle.ebs_model.specs.declared.rules.RuleCommand.TheVariants.{Create, Update, Delete, Lock, Unlock}
use Rattle.ebs_model.specs.declared.rules.RuleRefusal.{RuleRefusal}
use Rattle.ebs_model.specs.declared.rules.RuleRefusal.TheVariants.{TooMany, NoNumber, Locked, NotFound, TagLevel, Unlocked}
use Rattle.ebs_model.specs.Quotas.{most_rules, most_ids}
use Rattle.ebs_model.specs.Rules.{Book, lock_at, find, bin_end}

abbrev pub Decided : Type 0
Decided = Result RuleChange RuleRefusal

-- locked where a delay is given
abbrev pub first_lock : Option ℕ → RuleLock
first_lock None = lock.Unlocked
first_lock (Some delay) = lock.Locked delay

abbrev pub new_rule : ℕ → Book → ℕ → List RuleTag → Option (List ℕ) → Option ℕ → Rule
new_rule account b days tags description delay =
    record { key = record { account = account; number = b.next }; days = days; tags = tags; description = description; lock = first_lock delay }

abbrev pub create : ℕ → Book → ℕ → List RuleTag → Option (List ℕ) → Option ℕ → Decided
create account b days tags description delay =
    if nat_le most_rules (map.len b.rules) then Err TooMany
    else (if nat_le most_ids b.next then Err NoNumber else Ok (Put (new_rule account b days tags description delay)))

-- a given description takes the place of the old one
abbrev pub or_old : Option (List ℕ) → Option (List ℕ) → Option (List ℕ)
or_old None old = old
or_old (Some new) old = Some new

-- the given fields are new
abbrev pub updated : RuleKey → Rule → Option ℕ → Option (List RuleTag) → Option (List ℕ) → Rule
updated key rule days tags description =
    record rule { key = key; days = unwrap_or days rule.days; tags = unwrap_or tags rule.tags; description = or_old description rule.description }

-- only what is unlocked is changed
abbrev pub if_unlocked : RuleLock → RuleChange → Decided
if_unlocked lock.Unlocked change = Ok change
if_unlocked (lock.Locked delay) change = Err Locked
if_unlocked (lock.Pending end) change = Err Locked

abbrev pub update_of : Option Rule → RuleKey → Option ℕ → Option (List RuleTag) → Option (List ℕ) → ℕ → Decided
update_of None key days tags description now = Err NotFound
update_of (Some rule) key days tags description now = if_unlocked (lock_at rule.lock now) (Put (updated key rule days tags description))

abbrev pub update : ℕ → Book → RuleKey → Option ℕ → Option (List RuleTag) → Option (List ℕ) → ℕ → Decided
update account b key days tags description now = update_of (find account b key) key days tags description now

abbrev pub delete_of : Option Rule → RuleKey → ℕ → Decided
delete_of None key now = Err NotFound
delete_of (Some rule) key now = if_unlocked (lock_at rule.lock now) (Remove key)

abbrev pub delete : ℕ → Book → RuleKey → ℕ → Decided
delete account b key now = delete_of (find account b key) key now

abbrev pub with_lock : RuleKey → Rule → RuleLock → RuleChange
with_lock key rule new = Put (record rule { key = key; lock = new })

-- what isn't locked, or waits for its unlock, is locked
abbrev pub lock_by : RuleLock → RuleKey → Rule → ℕ → Decided
lock_by (lock.Locked own) key rule delay = Err Locked
lock_by lock.Unlocked key rule delay = Ok (with_lock key rule (lock.Locked delay))
lock_by (lock.Pending end) key rule delay = Ok (with_lock key rule (lock.Locked delay))

-- a rule with tags can't be locked
abbrev pub lock_with : List RuleTag → RuleKey → Rule → ℕ → ℕ → Decided
lock_with [] key rule delay now = lock_by (lock_at rule.lock now) key rule delay
lock_with (tag ∷ tags) key rule delay now = Err TagLevel

abbrev pub lock_of : Option Rule → RuleKey → ℕ → ℕ → Decided
lock_of None key delay now = Err NotFound
lock_of (Some rule) key delay now = lock_with rule.tags key rule delay now

abbrev pub lock_rule : ℕ → Book → RuleKey → ℕ → ℕ → Decided
lock_rule account b key delay now = lock_of (find account b key) key delay now

-- what is locked waits for its delay
abbrev pub unlock_by : RuleLock → RuleKey → Rule → ℕ → Decided
unlock_by lock.Unlocked key rule now = Err Unlocked
unlock_by (lock.Locked delay) key rule now = Ok (with_lock key rule (lock.Pending (bin_end now delay)))
unlock_by (lock.Pending end) key rule now = Err Locked

abbrev pub unlock_of : Option Rule → RuleKey → ℕ → Decided
unlock_of None key now = Err NotFound
unlock_of (Some rule) key now = unlock_by (lock_at rule.lock now) key rule now

abbrev pub unlock_rule : ℕ → Book → RuleKey → ℕ → Decided
unlock_rule account b key now = unlock_of (find account b key) key now

abbrev pub decide : ℕ → Book → RuleCommand → ℕ → Decided
decide account b (Create days tags description delay) now = create account b days tags description delay
decide account b (Update key days tags description) now = update account b key days tags description now
decide account b (Delete key) now = delete account b key now
decide account b (Lock key delay) now = lock_rule account b key delay now
decide account b (Unlock key) now = unlock_rule account b key now

-- a rule that is put under a number leaves none of the numbers up to it
abbrev pub committed : Book → RuleChange → Book
committed b (Put rule) = record b { rules = map.insert b.rules rule.key.number rule; next = max b.next (rule.key.number + 1) }
committed b (Remove key) = record b { rules = map.remove b.rules key.number }

-- a refused command leaves the rules
abbrev pub committed_by : Book → Decided → Book
committed_by b (Ok change) = committed b change
committed_by b (Err refusal) = b
