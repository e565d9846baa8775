-- Each rule has at least one day, so the end of a stay in the bin lies ahead.
use Rattle.std.proofs.Common.{◌≡◌, ℕ, ◌≤◌, ◌<◌, Bool, true, false, cond, ◌==◌, max, arith, List, [], ◌∷◌, map, Option, Some, None, Ok, Err, refl, sym, subst, ◌∙◌}
use Rattle.std.proofs.lemmas.Int.{clamps, ints}
use Rattle.std.proofs.lemmas.Bool.Decides.{nat_tests}
use Rattle.std.proofs.lemmas.Map.Keys.{IsDistinct-from_sorted}
use Rattle.std.proofs.lemmas.Map.Views.{lookup-from_Contains}
use Rattle.std.proofs.lemmas.List.Elements.{All-contains_itself, recursion_from_All}
use Rattle.std.specs.Prelude.{nat_le, unwrap_or}
use Rattle.std.specs.List.{Contains, AllByRecursion}
use Rattle.std.specs.Map.{keys_of}
use Rattle.std.specs.Ordering.{nat_cmp, eq_by_cmp}
use Rattle.std.specs.Cmp.{nat_cmp_total, eq_by_cmp_equiv}
use Rattle.std.specs.FinMap.{FinMap, get, insert, len, entries, get-empty, get-insert, get-remove}
use Rattle.ebs_tables.proofs.TreeMaps.{get-lookup, entries-sorted}
use Rattle.ebs_model.specs.declared.keys.RuleKey.{RuleKey}
use Rattle.ebs_model.specs.declared.tags.Tag.{Tag}
use Rattle.ebs_model.specs.declared.rules.Rule.{Rule}
use Rattle.ebs_model.specs.declared.rules.RuleTag.{RuleTag}
use Rattle.ebs_model.specs.declared.rules.RuleLock.{RuleLock}
use Rattle.ebs_model.specs.declared.rules.RuleLock.TheVariants as lock
use Rattle.ebs_model.specs.declared.rules.RuleChange.TheVariants.{Put, Remove}
use Rattle.ebs_model.specs.declared.rules.RuleCommand.{RuleCommand}
use Rattle.ebs_model.specs.declared.rules.RuleCommand.TheVariants.{Create, Update, Delete, Lock, Unlock}
use Rattle.ebs_model.specs.declared.rules.RuleRefusal.TheVariants.{TooMany, NoNumber}
use Rattle.ebs_model.specs.Quotas.{most_rules, most_ids}
use Rattle.ebs_model.specs.Limits.{is_retention, is_retention_given}
use Rattle.ebs_model.specs.Rules.{Book, no_rules, find, matches, longer, longest, retention, lock_at, bin_end}
use Rattle.ebs_model.specs.inner.Rules.{HasDays, KeepsDays}
use Rattle.ebs_model.specs.RuleCommands.{Decided, new_rule, updated, if_unlocked, update_of, delete_of, lock_by, lock_with, lock_of, unlock_by, unlock_of, decide, committed_by}
use Rattle.ebs_model.specs.inner.RuleCommands.{HasRetention}

none_some : {A : Type 0} {x : A} → ◌≡◌ {A = Option A} None (Some x) → ⊥
none_some e = cc

some_is : {A : Type 0} (x y : A) → ◌≡◌ {A = Option A} (Some x) (Some y) → x ≡ y
some_is x y e = cc

-- an entry is found at its key
found : {X : Type 0} (m : FinMap nat_cmp X) (k : ℕ) (v : X) → Contains (entries m) (k, v) → get m k ≡ Some v
found m k v there =
    get-lookup nat_cmp m k ∙ lookup-from_Contains (eq_by_cmp_equiv nat_cmp_total) k v (entries m) (IsDistinct-from_sorted nat_cmp (keys_of (entries m)) (entries-sorted nat_cmp m)) there

each : {X : Type 0} (P Q : X → Type 0) (xs : List X) → ((x : X) → P x → Q x) → AllByRecursion P xs → AllByRecursion Q xs
each P Q [] f h = tt
each P Q (x ∷ xs) f h = (f x h.0, each P Q xs f h.1)

-- of each rule of a book what is true of each that is found
each-rule : (b : Book) → HasDays b → AllByRecursion (λ (e : ℕ × Rule). 1 ≤ e.1.days) (entries b.rules)
each-rule b h = each (Contains (entries b.rules)) (λ e. 1 ≤ e.1.days) (entries b.rules) (λ e there. h e.0 e.1 (found b.rules e.0 e.1 there)) (recursion_from_All (Contains (entries b.rules)) (entries b.rules) (All-contains_itself (entries b.rules)))

longest-lasts : (tags : List Tag) (es : List (ℕ × Rule)) → AllByRecursion (λ (e : ℕ × Rule). 1 ≤ e.1.days) es → (days : ℕ) → longest tags (map (λ e. e.1) es) ≡ Some days → 1 ≤ days
longest-lasts tags [] h days e = absurd (none_some e)
longest-lasts tags (x ∷ es) h days e = by (matches x.1.tags tags) (longest tags (map (λ e. e.1) es)) (longest-lasts tags es h.1) e
  where
    by : (b : Bool) (rest : Option ℕ) → ((n : ℕ) → rest ≡ Some n → 1 ≤ n) → cond b (longer rest x.1.days) rest ≡ Some days → 1 ≤ days
    by true None f q = let is : x.1.days ≡ days = some_is x.1.days days q in let one : 1 ≤ x.1.days = h.0 in omega (arith, is, one)
    by true (Some n) f q = let is : max n x.1.days ≡ days = some_is (max n x.1.days) days q in let one : 1 ≤ x.1.days = h.0 in omega (arith, ints, clamps, is, one)
    by false rest f q = f days q

-- a retention has at least one day
pub retention-lasts : (b : Book) → HasDays b → (tags : List Tag) (days : ℕ) → retention b tags ≡ Some days → 1 ≤ days
retention-lasts b h tags days e = longest-lasts tags (entries b.rules) (each-rule b h) days e

-- so its end lies ahead
pub end-ahead : (now days : ℕ) → 1 ≤ days → now < (bin_end now days).second
end-ahead now days h = omega (arith, h)

pub none-lasts : (first : ℕ) → HasDays (no_rules first)
none-lasts first number rule e = absurd (none_some (sym (get-empty nat_cmp number) ∙ e))

-- ---- commands keep it

retention-days : (days : ℕ) → is_retention days ≡ true → 1 ≤ days
retention-days days h = grind (arith, nat_tests)

given-days : (days : Option ℕ) (old : ℕ) → is_retention_given days ≡ true → 1 ≤ old → 1 ≤ unwrap_or days old
given-days None old h one = one
given-days (Some days) old h one = retention-days days h

-- what a decision puts has a day at least
abbrev PutsDays : Decided → Type 0
PutsDays (Ok (Put rule)) = 1 ≤ rule.days
PutsDays (Ok (Remove key)) = Unit {0}
PutsDays (Err r) = Unit {0}

module _ (now : ℕ) (key : RuleKey) (rule : Rule) (one : 1 ≤ rule.days) where
  puts-if : (l : RuleLock) (new : Rule) → 1 ≤ new.days → PutsDays (if_unlocked l (Put new))
  puts-if lock.Unlocked new h = h
  puts-if (lock.Locked delay) new h = tt
  puts-if (lock.Pending end) new h = tt

  removes-if : (l : RuleLock) → PutsDays (if_unlocked l (Remove key))
  removes-if lock.Unlocked = tt
  removes-if (lock.Locked delay) = tt
  removes-if (lock.Pending end) = tt

  puts-lock : (delay : ℕ) (l : RuleLock) → PutsDays (lock_by l key rule delay)
  puts-lock delay lock.Unlocked = one
  puts-lock delay (lock.Locked own) = tt
  puts-lock delay (lock.Pending end) = one

  puts-lock-with : (delay : ℕ) (tags : List RuleTag) → PutsDays (lock_with tags key rule delay now)
  puts-lock-with delay [] = puts-lock delay (lock_at rule.lock now)
  puts-lock-with delay (tag ∷ tags) = tt

  puts-unlock : (l : RuleLock) → PutsDays (unlock_by l key rule now)
  puts-unlock lock.Unlocked = tt
  puts-unlock (lock.Locked delay) = one
  puts-unlock (lock.Pending end) = tt

module _ (account : ℕ) (b : Book) (has : HasDays b) (now : ℕ) where
  of-found : (key : RuleKey) (of : Option Rule → Decided) → PutsDays (of None) → ((rule : Rule) → 1 ≤ rule.days → PutsDays (of (Some rule))) → PutsDays (of (find account b key))
  of-found key of none some = by (key.account == account) (get b.rules key.number) refl
    where
      by : (q : Bool) (o : Option Rule) → get b.rules key.number ≡ o → PutsDays (of (cond q o None))
      by true (Some rule) is = some rule (has key.number rule is)
      by true None is = none
      by false o is = none

  puts-days : (command : RuleCommand) → HasRetention command → PutsDays (decide account b command now)
  puts-days (Create days tags description delay) fits = by (nat_le most_rules (len b.rules)) (nat_le most_ids b.next)
    where
      by : (p q : Bool) → PutsDays (cond p (Err TooMany) (cond q (Err NoNumber) (Ok (Put (new_rule account b days tags description delay)))))
      by true q = tt
      by false true = tt
      by false false = retention-days days fits
  puts-days (Update key days tags description) fits =
      of-found key (λ o. update_of o key days tags description now) tt (λ rule one. puts-if now key rule one (lock_at rule.lock now) (updated key rule days tags description) (given-days days rule.days fits one))
  puts-days (Delete key) fits = of-found key (λ o. delete_of o key now) tt (λ rule one. removes-if now key rule one (lock_at rule.lock now))
  puts-days (Lock key delay) fits = of-found key (λ o. lock_of o key delay now) tt (λ rule one. puts-lock-with now key rule one delay rule.tags)
  puts-days (Unlock key) fits = of-found key (λ o. unlock_of o key now) tt (λ rule one. puts-unlock now key rule one (lock_at rule.lock now))

  days-by : (d : Decided) → PutsDays d → HasDays (committed_by b d)
  days-by (Ok (Put new)) one number rule e = by (eq_by_cmp nat_cmp number new.key.number) (sym (get-insert nat_cmp_total b.rules new.key.number new number) ∙ e)
    where
      by : (t : Bool) → cond t (Some new) (get b.rules number) ≡ Some rule → 1 ≤ rule.days
      by true f = subst (λ (r : Rule). 1 ≤ r.days) (some_is new rule f) one
      by false f = has number rule f
  days-by (Ok (Remove key)) one number rule e = by (eq_by_cmp nat_cmp number key.number) (sym (get-remove nat_cmp_total b.rules key.number number) ∙ e)
    where
      by : (t : Bool) → cond t None (get b.rules number) ≡ Some rule → 1 ≤ rule.days
      by true f = absurd (none_some f)
      by false f = has number rule f
  days-by (Err r) one number rule e = has number rule e

  -- a command whose days are within their limits
  pub command-lasts : (command : RuleCommand) → HasRetention command → HasDays (committed_by b (decide account b command now))
  command-lasts command fits = days-by (decide account b command now) (puts-days command fits)

-- the rules of an account, and those of all after a change of one's
pub book-lasts : (books : FinMap nat_cmp Book) → KeepsDays books → (account : ℕ) → HasDays (unwrap_or (get books account) (no_rules 0))
book-lasts books h account = by (get books account) refl
  where
    by : (o : Option Book) → get books account ≡ o → HasDays (unwrap_or o (no_rules 0))
    by None is = none-lasts 0
    by (Some b) is = h account b is

pub books-last : (books : FinMap nat_cmp Book) → KeepsDays books → (account : ℕ) (b : Book) → HasDays b → KeepsDays (insert books account b)
books-last books h account b one other found e = by (eq_by_cmp nat_cmp other account) (sym (get-insert nat_cmp_total books account b other) ∙ e)
  where
    by : (t : Bool) → cond t (Some b) (get books other) ≡ Some found → HasDays found
    by true f = subst HasDays (some_is b found f) one
    by false f = h other found f
