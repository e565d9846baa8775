-- What a command on rules decides, told from what it decided.
use Rattle.std.proofs.Common.{◌≡◌, ◌≢◌, ℕ, ◌<◌, ◌==◌, Bool, true, false, cond, nat_le, arith, List, [], ◌∷◌, Option, Some, None, Ok, Err, refl}
use Rattle.std.proofs.lemmas.Bool.Decides.{nat_tests}
use Rattle.std.specs.FinMap as fin
use Rattle.ebs_model.specs.declared.keys.RuleKey.{RuleKey}
use Rattle.ebs_model.specs.declared.rules.Rule.{Rule}
use Rattle.ebs_model.specs.declared.rules.RuleTag.{RuleTag}
use Rattle.ebs_model.specs.declared.rules.RuleLock.{RuleLock}
use Rattle.ebs_model.specs.declared.rules.RuleLock.TheVariants as lock
use Rattle.ebs_model.specs.declared.rules.RuleChange.{RuleChange}
use Rattle.ebs_model.specs.declared.rules.RuleChange.TheVariants.{Put, Remove}
use Rattle.ebs_model.specs.declared.rules.RuleRefusal.{RuleRefusal}
use Rattle.ebs_model.specs.declared.rules.RuleRefusal.TheVariants.{TooMany, NoNumber}
use Rattle.ebs_model.specs.Quotas.{most_rules, most_ids}
use Rattle.ebs_model.specs.Rules.{Book, find, lock_at, bin_end}
use Rattle.ebs_model.specs.RuleCommands.{Decided, new_rule, create, updated, if_unlocked, update_of, delete_of, with_lock, lock_by, lock_with, lock_of, unlock_by, unlock_of}
use Rattle.ebs_laws.proofs.Readers.{same_number}

no_change : {r : RuleRefusal} {change : RuleChange} → ◌≡◌ {A = Decided} (Err r) (Ok change) → ⊥
no_change e = cc

change_is : {a b : RuleChange} → ◌≡◌ {A = Decided} (Ok a) (Ok b) → b ≡ a
change_is e = cc

nothing : {rule : Rule} → ◌≡◌ {A = Option Rule} None (Some rule) → ⊥
nothing e = cc

below : (n limit : ℕ) → nat_le limit n ≡ false → n < limit
below n limit e = grind (arith, nat_tests)

-- a rule that was found is the account's
pub found-own : (account : ℕ) (b : Book) (key : RuleKey) (rule : Rule) → find account b key ≡ Some rule → (key.account ≡ account) × (fin.get b.rules key.number ≡ Some rule)
found-own account b key rule e = by (key.account == account) refl e
  where
    by : (q : Bool) → (key.account == account) ≡ q → cond q (fin.get b.rules key.number) None ≡ Some rule → (key.account ≡ account) × (fin.get b.rules key.number ≡ Some rule)
    by true mine e = (same_number key.account account mine, e)
    by false other e = absurd (nothing e)

module _ (account : ℕ) (b : Book) (change : RuleChange) where
  pub creates : (days : ℕ) (tags : List RuleTag) (text : Option (List ℕ)) (delay : Option ℕ) → create account b days tags text delay ≡ Ok change
      → (change ≡ Put (new_rule account b days tags text delay)) × (fin.len b.rules < most_rules) × (b.next < most_ids)
  creates days tags text delay e = by (nat_le most_rules (fin.len b.rules)) (nat_le most_ids b.next) refl refl e
    where
      by : (p q : Bool) → nat_le most_rules (fin.len b.rules) ≡ p → nat_le most_ids b.next ≡ q → cond p (Err TooMany) (cond q (Err NoNumber) (Ok (Put (new_rule account b days tags text delay)))) ≡ Ok change
          → (change ≡ Put (new_rule account b days tags text delay)) × (fin.len b.rules < most_rules) × (b.next < most_ids)
      by true q few left e = absurd (no_change e)
      by false true few left e = absurd (no_change e)
      by false false few left e = (change_is e, below _ _ few, below _ _ left)

  module _ (key : RuleKey) (now : ℕ) where
    if-open : (l : RuleLock) (new : RuleChange) → if_unlocked l new ≡ Ok change → (l ≡ lock.Unlocked) × (change ≡ new)
    if-open lock.Unlocked new e = (refl, change_is e)
    if-open (lock.Locked delay) new e = absurd (no_change e)
    if-open (lock.Pending end) new e = absurd (no_change e)

    -- of an unlocked rule
    abbrev pub OfOpen : (Rule → RuleChange) → Type 0
    OfOpen new = (old : Rule) × (find account b key ≡ Some old) × (lock_at old.lock now ≡ lock.Unlocked) × (change ≡ new old)

    pub updates : (days : Option ℕ) (tags : Option (List RuleTag)) (text : Option (List ℕ)) → update_of (find account b key) key days tags text now ≡ Ok change → OfOpen (λ old. Put (updated key old days tags text))
    updates days tags text e = by (find account b key) refl e
      where
        by : (o : Option Rule) → find account b key ≡ o → update_of o key days tags text now ≡ Ok change → OfOpen (λ old. Put (updated key old days tags text))
        by None is e = absurd (no_change e)
        by (Some old) is e = let h = if-open (lock_at old.lock now) (Put (updated key old days tags text)) e in (old, is, h.0, h.1)

    pub deletes : delete_of (find account b key) key now ≡ Ok change → OfOpen (λ old. Remove key)
    deletes e = by (find account b key) refl e
      where
        by : (o : Option Rule) → find account b key ≡ o → delete_of o key now ≡ Ok change → OfOpen (λ old. Remove key)
        by None is e = absurd (no_change e)
        by (Some old) is e = let h = if-open (lock_at old.lock now) (Remove key) e in (old, is, h.0, h.1)

    -- neither locked nor with tags
    abbrev pub OfLockable : ℕ → Type 0
    OfLockable delay = (old : Rule) × (find account b key ≡ Some old) × (old.tags ≡ []) × ((own : ℕ) → lock_at old.lock now ≢ lock.Locked own) × (change ≡ with_lock key old (lock.Locked delay))

    pub locks : (delay : ℕ) → lock_of (find account b key) key delay now ≡ Ok change → OfLockable delay
    locks delay e = by (find account b key) refl e
      where
        of-lock : (old : Rule) (l : RuleLock) → lock_by l key old delay ≡ Ok change → ((own : ℕ) → l ≢ lock.Locked own) × (change ≡ with_lock key old (lock.Locked delay))
        of-lock old lock.Unlocked e = (λ own e. cc, change_is e)
        of-lock old (lock.Locked own) e = absurd (no_change e)
        of-lock old (lock.Pending end) e = (λ own e. cc, change_is e)

        of-tags : (old : Rule) (tags : List RuleTag) → lock_with tags key old delay now ≡ Ok change → (tags ≡ []) × ((own : ℕ) → lock_at old.lock now ≢ lock.Locked own) × (change ≡ with_lock key old (lock.Locked delay))
        of-tags old [] e = let h = of-lock old (lock_at old.lock now) e in (refl, h.0, h.1)
        of-tags old (tag ∷ tags) e = absurd (no_change e)

        by : (o : Option Rule) → find account b key ≡ o → lock_of o key delay now ≡ Ok change → OfLockable delay
        by None is e = absurd (no_change e)
        by (Some old) is e = let h = of-tags old old.tags e in (old, is, h.0, h.1, h.2)

    -- locked
    abbrev pub OfLocked : Type 0
    OfLocked = (old : Rule) × (delay : ℕ) × (find account b key ≡ Some old) × (lock_at old.lock now ≡ lock.Locked delay) × (change ≡ with_lock key old (lock.Pending (bin_end now delay)))

    pub unlocks : unlock_of (find account b key) key now ≡ Ok change → OfLocked
    unlocks e = by (find account b key) refl e
      where
        of-lock : (old : Rule) (l : RuleLock) → unlock_by l key old now ≡ Ok change → (delay : ℕ) × (l ≡ lock.Locked delay) × (change ≡ with_lock key old (lock.Pending (bin_end now delay)))
        of-lock old lock.Unlocked e = absurd (no_change e)
        of-lock old (lock.Locked delay) e = (delay, refl, change_is e)
        of-lock old (lock.Pending end) e = absurd (no_change e)

        by : (o : Option Rule) → find account b key ≡ o → unlock_of o key now ≡ Ok change → OfLocked
        by None is e = absurd (no_change e)
        by (Some old) is e = let h = of-lock old (lock_at old.lock now) e in (old, h.0, is, h.1, h.2)
