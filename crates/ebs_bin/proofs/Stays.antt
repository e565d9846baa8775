-- What commands leave of a locked rule, and the numbers that they give.
use Rattle.std.proofs.lemmas.Int.{clamps, ints}
use Rattle.std.proofs.Common.{◌≡◌, ℕ, ◌+◌, ◌<◌, ◌≤◌, ◌==◌, Bool, true, false, cond, max, arith, List, [], ◌∷◌, Option, Some, None, Ok, Err, refl, sym, ap, subst, ◌∙◌}
use Rattle.std.specs.Prelude.{nat_le}
use Rattle.std.specs.Ordering.{nat_cmp, eq_by_cmp}
use Rattle.std.specs.Cmp.{nat_cmp_total}
use Rattle.std.specs.FinMap.{FinMap, nat_cmp-IsAntisymmetric, get, insert, remove, len, get-empty, get-insert, get-remove}
use Rattle.std.proofs.lemmas.Bool.Decides.{nat_tests}
use Rattle.ebs_tables.proofs.MapEdits.{is_same}
use Rattle.ebs_model.specs.declared.keys.RuleKey.{RuleKey}
use Rattle.ebs_model.specs.declared.rules.Rule.{Rule}
use Rattle.ebs_model.specs.declared.rules.RuleTag.{RuleTag}
use Rattle.ebs_model.specs.declared.rules.RuleLock.{RuleLock}
use Rattle.ebs_model.specs.declared.rules.RuleLock.TheVariants as lock
use Rattle.ebs_model.specs.declared.rules.RuleChange.{RuleChange}
use Rattle.ebs_model.specs.declared.rules.RuleChange.TheVariants.{Put, Remove}
use Rattle.ebs_model.specs.declared.rules.RuleCommand.{RuleCommand}
use Rattle.ebs_model.specs.declared.rules.RuleCommand.TheVariants.{Create, Update, Delete, Lock, Unlock}
use Rattle.ebs_model.specs.declared.rules.RuleRefusal.{RuleRefusal}
use Rattle.ebs_model.specs.declared.rules.RuleRefusal.TheVariants.{TooMany, NoNumber}
use Rattle.ebs_model.specs.Quotas.{most_rules, most_ids}
use Rattle.ebs_model.specs.Rules.{Book, no_rules, find, lock_at}
use Rattle.ebs_model.specs.RuleCommands.{Decided, committed, committed_by, new_rule, create, updated, if_unlocked, update_of, delete_of, lock_by, lock_with, lock_of, unlock_by, unlock_of, decide}
use Rattle.ebs_bin.specs.BinLaws.{Given, step, after, IsWithin, IsAhead, NoneEnds}

none_some : {A : Type 0} {x : A} → ◌≡◌ {A = Option A} None (Some x) → ⊥
none_some e = cc

some_is : {A : Type 0} (x y : A) → ◌≡◌ {A = Option A} (Some x) (Some y) → x ≡ y
some_is x y e = cc

-- ---- numbers

abbrev pub IsNumbered : Book → Type 0
IsNumbered b = (n : ℕ) (r : Rule) → get b.rules n ≡ Some r → n < b.next

numbered_change : (b : Book) (change : RuleChange) → IsNumbered b → IsNumbered (committed b change)
numbered_change b (Put rule) h n r e = by (eq_by_cmp nat_cmp n rule.key.number) refl (sym (get-insert nat_cmp_total b.rules rule.key.number rule n) ∙ e)
  where
    by : (t : Bool) → eq_by_cmp nat_cmp n rule.key.number ≡ t → cond t (Some rule) (get b.rules n) ≡ Some r → n < max b.next (rule.key.number + 1)
    by true s f = let same : n ≡ rule.key.number = is_same nat_cmp-IsAntisymmetric n rule.key.number s in omega (arith, ints, clamps, same)
    by false s f = let less = h n r f in omega (arith, ints, clamps, less)
numbered_change b (Remove key) h n r e = by (eq_by_cmp nat_cmp n key.number) (sym (get-remove nat_cmp_total b.rules key.number n) ∙ e)
  where
    by : (t : Bool) → cond t None (get b.rules n) ≡ Some r → n < b.next
    by true f = absurd (none_some f)
    by false f = h n r f

numbered_by : (b : Book) (d : Decided) → IsNumbered b → IsNumbered (committed_by b d)
numbered_by b (Ok change) h = numbered_change b change h
numbered_by b (Err r) h = h

pub numbered_after : (account : ℕ) (gs : List Given) (b : Book) → IsNumbered b → IsNumbered (after account b gs)
numbered_after account [] b h = h
numbered_after account (g ∷ gs) b h = numbered_after account gs (step account b g) (numbered_by b (decide account b g.command g.at) h)

pub numbered_none : (first : ℕ) → IsNumbered (no_rules first)
numbered_none first n r e = absurd (none_some (sym (get-empty nat_cmp n) ∙ e))

higher_by : (b : Book) (d : Decided) → b.next ≤ (committed_by b d).next
higher_by b (Ok (Put rule)) = omega (arith, ints, clamps)
higher_by b (Ok (Remove key)) = omega arith
higher_by b (Err r) = omega arith

pub higher : (account : ℕ) (gs : List Given) (b : Book) → b.next ≤ (after account b gs).next
higher account [] b = omega arith
higher account (g ∷ gs) b = let one = higher_by b (decide account b g.command g.at) in let rest = higher account gs (step account b g) in omega (arith, one, rest)

pub created : (account : ℕ) (b : Book) (days : ℕ) (tags : List RuleTag) (description : Option (List ℕ)) (delay : Option ℕ) (made : Rule) → create account b days tags description delay ≡ Ok (Put made) → made.key.number ≡ b.next
created account b days tags description delay made e = by (nat_le most_rules (len b.rules)) (nat_le most_ids b.next) e
  where
    put_is : (x y : Rule) → ◌≡◌ {A = Decided} (Ok (Put x)) (Ok (Put y)) → x ≡ y
    put_is x y e = cc

    refused : (r : RuleRefusal) (x : RuleChange) → ◌≡◌ {A = Decided} (Err r) (Ok x) → ⊥
    refused r x e = cc

    by : (p q : Bool) → cond p (Err TooMany) (cond q (Err NoNumber) (Ok (Put (new_rule account b days tags description delay)))) ≡ Ok (Put made) → made.key.number ≡ b.next
    by true q h = absurd (refused TooMany (Put made) h)
    by false true h = absurd (refused NoNumber (Put made) h)
    by false false h = sym (ap (λ (r : Rule). r.key.number) (put_is (new_rule account b days tags description delay) made h))

-- ---- a locked rule

abbrev pub IsShut : RuleLock → Type 0
IsShut lock.Unlocked = ⊥
IsShut (lock.Locked delay) = Unit {0}
IsShut (lock.Pending end) = Unit {0}

never_open : (l : RuleLock) (now : ℕ) → IsShut l → IsWithin now l → lock_at l now ≡ lock.Unlocked → ⊥
never_open lock.Unlocked now s w e = absurd s
never_open (lock.Locked delay) now s w e = cc
never_open (lock.Pending end) now s w e = by (nat_le end.second now) refl e
  where
    by : (q : Bool) → nat_le end.second now ≡ q → cond q lock.Unlocked (lock.Pending end) ≡ lock.Unlocked → ⊥
    by true t h = let l : end.second ≤ now = grind (arith, nat_tests) in absurd (omega (arith, l, w))
    by false t h = cc

pub record Alike (rule kept : Rule) : Type 0 where
  pub days : kept.days ≡ rule.days
  pub tags : kept.tags ≡ rule.tags
  pub description : kept.description ≡ rule.description
  pub shut : IsShut kept.lock

pub record Stays (account : ℕ) (b : Book) (key : RuleKey) (rule : Rule) : Type 0 where
  pub kept : Rule
  pub is : find account b key ≡ Some kept
  pub alike : Alike rule kept

module _ (account : ℕ) (b : Book) (key : RuleKey) (rule : Rule) (shut : IsShut rule.lock) where
  -- what a decision leaves as it is
  abbrev Spares : Decided → Type 0
  Spares (Err r) = Unit {0}
  Spares (Ok (Put new)) = new.key.number ≡ key.number → Alike rule new
  Spares (Ok (Remove other)) = other.number ≡ key.number → ⊥

  found_in : (q : Bool) → cond q (get b.rules key.number) None ≡ Some rule → (q ≡ true) × (get b.rules key.number ≡ Some rule)
  found_in true e = (refl, e)
  found_in false e = absurd (none_some e)

  in_account : find account b key ≡ Some rule → (m : FinMap nat_cmp Rule) (kept : Rule) → get m key.number ≡ Some kept → cond (key.account == account) (get m key.number) None ≡ Some kept
  in_account e m kept h = ap (λ q. cond q (get m key.number) None) (found_in (key.account == account) e).0 ∙ h

  itself : Alike rule rule
  itself = record { days = refl; tags = refl; description = refl; shut = shut }

  spared : find account b key ≡ Some rule → (d : Decided) → Spares d → Stays account (committed_by b d) key rule
  spared e (Err r) s = record { kept = rule; is = e; alike = itself }
  spared e (Ok (Put new)) s = by (eq_by_cmp nat_cmp key.number new.key.number) refl
    where
      at : get (insert b.rules new.key.number new) key.number ≡ cond (eq_by_cmp nat_cmp key.number new.key.number) (Some new) (get b.rules key.number)
      at = get-insert nat_cmp_total b.rules new.key.number new key.number

      by : (t : Bool) → eq_by_cmp nat_cmp key.number new.key.number ≡ t → Stays account (committed b (Put new)) key rule
      by true t = record {
        kept = new;
        is = in_account e (insert b.rules new.key.number new) new (at ∙ ap (λ q. cond q (Some new) (get b.rules key.number)) t);
        alike = s (sym (is_same nat_cmp-IsAntisymmetric key.number new.key.number t));
      }
      by false t = record {
        kept = rule;
        is = in_account e (insert b.rules new.key.number new) rule (at ∙ ap (λ q. cond q (Some new) (get b.rules key.number)) t ∙ (found_in (key.account == account) e).1);
        alike = itself;
      }
  spared e (Ok (Remove other)) s = by (eq_by_cmp nat_cmp key.number other.number) refl
    where
      at : get (remove b.rules other.number) key.number ≡ cond (eq_by_cmp nat_cmp key.number other.number) None (get b.rules key.number)
      at = get-remove nat_cmp_total b.rules other.number key.number

      by : (t : Bool) → eq_by_cmp nat_cmp key.number other.number ≡ t → Stays account (committed b (Remove other)) key rule
      by true t = absurd (s (sym (is_same nat_cmp-IsAntisymmetric key.number other.number t)))
      by false t = record {
        kept = rule;
        is = in_account e (remove b.rules other.number) rule (at ∙ ap (λ q. cond q None (get b.rules key.number)) t ∙ (found_in (key.account == account) e).1);
        alike = itself;
      }

  -- a command's rule is this one where it has its number
  spares_found : find account b key ≡ Some rule → (k : RuleKey) (of : Option Rule → Decided) → Spares (of None) → ((r : Rule) → (k.number ≡ key.number → r ≡ rule) → Spares (of (Some r))) → Spares (of (find account b k))
  spares_found e k of none some = by (k.account == account) (get b.rules k.number) refl
    where
      by : (q : Bool) (x : Option Rule) → get b.rules k.number ≡ x → Spares (of (cond q x None))
      by false x f = none
      by true None f = none
      by true (Some r) f = some r (λ n. some_is r rule (sym f ∙ ap (get b.rules) n ∙ (found_in (key.account == account) e).1))

  module _ (now : ℕ) (within : IsWithin now rule.lock) (k : RuleKey) (r : Rule) (same : k.number ≡ key.number → r ≡ rule) where
    opened : lock_at r.lock now ≡ lock.Unlocked → k.number ≡ key.number → ⊥
    opened p n = never_open rule.lock now shut within (ap (λ (x : Rule). lock_at x.lock now) (sym (same n)) ∙ p)

    with_its_lock : (l : RuleLock) → IsShut l → k.number ≡ key.number → Alike rule (record r { key = k; lock = l })
    with_its_lock l s n = record { days = ap (λ (x : Rule). x.days) (same n); tags = ap (λ (x : Rule). x.tags) (same n); description = ap (λ (x : Rule). x.description) (same n); shut = s }

    spares_update : (p : RuleLock) → lock_at r.lock now ≡ p → (new : Rule) → new.key.number ≡ k.number → Spares (if_unlocked p (Put new))
    spares_update lock.Unlocked e new n = λ m. absurd (opened e (sym n ∙ m))
    spares_update (lock.Locked delay) e new n = tt
    spares_update (lock.Pending end) e new n = tt

    spares_delete : (p : RuleLock) → lock_at r.lock now ≡ p → Spares (if_unlocked p (Remove k))
    spares_delete lock.Unlocked e = λ m. absurd (opened e m)
    spares_delete (lock.Locked delay) e = tt
    spares_delete (lock.Pending end) e = tt

    spares_lock : (delay : ℕ) (p : RuleLock) → Spares (lock_by p k r delay)
    spares_lock delay lock.Unlocked = λ m. with_its_lock (lock.Locked delay) tt m
    spares_lock delay (lock.Locked own) = tt
    spares_lock delay (lock.Pending end) = λ m. with_its_lock (lock.Locked delay) tt m

    spares_lock_with : (delay : ℕ) (ts : List RuleTag) → Spares (lock_with ts k r delay now)
    spares_lock_with delay [] = spares_lock delay (lock_at r.lock now)
    spares_lock_with delay (t ∷ ts) = tt

    spares_unlock : (p : RuleLock) → Spares (unlock_by p k r now)
    spares_unlock lock.Unlocked = tt
    spares_unlock (lock.Locked delay) = λ m. with_its_lock _ tt m
    spares_unlock (lock.Pending end) = tt

  spares : IsNumbered b → find account b key ≡ Some rule → (now : ℕ) → IsWithin now rule.lock → (command : RuleCommand) → Spares (decide account b command now)
  spares up e now within (Create days tags description delay) = by (nat_le most_rules (len b.rules)) (nat_le most_ids b.next)
    where
      by : (p q : Bool) → Spares (cond p (Err TooMany) (cond q (Err NoNumber) (Ok (Put (new_rule account b days tags description delay)))))
      by true q = tt
      by false true = tt
      by false false = λ n. let less = up key.number rule (found_in (key.account == account) e).1 in absurd (omega (arith, n, less))
  spares up e now within (Update k days tags description) =
      spares_found e k (λ x. update_of x k days tags description now) tt (λ r same. spares_update now within k r same (lock_at r.lock now) refl (updated k r days tags description) refl)
  spares up e now within (Delete k) = spares_found e k (λ x. delete_of x k now) tt (λ r same. spares_delete now within k r same (lock_at r.lock now) refl)
  spares up e now within (Lock k delay) = spares_found e k (λ x. lock_of x k delay now) tt (λ r same. spares_lock_with now within k r same delay r.tags)
  spares up e now within (Unlock k) = spares_found e k (λ x. unlock_of x k now) tt (λ r same. spares_unlock now within k r same (lock_at r.lock now))

  pub one_stays : IsNumbered b → find account b key ≡ Some rule → (g : Given) → IsAhead g.at (find account b key) → Stays account (step account b g) key rule
  one_stays up e g ahead = spared e (decide account b g.command g.at) (spares up e g.at (subst (IsAhead g.at) e ahead) g.command)

pub all_stay : (account : ℕ) (gs : List Given) (b : Book) (key : RuleKey) (rule : Rule) → IsNumbered b → find account b key ≡ Some rule → IsShut rule.lock → NoneEnds account key b gs → Stays account (after account b gs) key rule
all_stay account [] b key rule up e shut h = record { kept = rule; is = e; alike = record { days = refl; tags = refl; description = refl; shut = shut } }
all_stay account (g ∷ gs) b key rule up e shut h =
    let one = one_stays account b key rule shut up e g h.0 in
    let rest = all_stay account gs (step account b g) key one.kept (numbered_by b (decide account b g.command g.at) up) one.is one.alike.shut h.1 in
    record {
      kept = rest.kept;
      is = rest.is;
      alike = record { days = rest.alike.days ∙ one.alike.days; tags = rest.alike.tags ∙ one.alike.tags; description = rest.alike.description ∙ one.alike.description; shut = rest.alike.shut };
    }
