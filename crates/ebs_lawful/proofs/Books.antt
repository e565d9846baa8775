-- The limits of rules, through each change.
use Rattle.std.proofs.Common.{◌≡◌, ◌⊎◌, inl, inr, is_some, ℕ, ◌+◌, ◌-◌, ◌<◌, ◌≤◌, arith, max, Bool, true, false, cond, ◌==◌, nat_le, List, [], ◌∷◌, Option, Some, None, Ok, Err, refl, sym, ap, subst, ◌∙◌}
use Rattle.std.specs.Prelude.{unwrap_or}
use Rattle.std.proofs.lemmas.Bool.Decides.{nat_tests}
use Rattle.std.proofs.lemmas.Int.{clamps, ints}
use Rattle.std.specs.Ordering.{nat_cmp}
use Rattle.std.specs.Cmp.{nat_cmp_total}
use Rattle.std.specs.FinMap.{FinMap, nat_cmp-IsAntisymmetric, get, contains_key, len, get-empty, len-insert, len-remove}
use Rattle.ebs_tables.proofs.Counted.{len-known}
use Rattle.ebs_model.specs.declared.keys.RuleKey.{RuleKey}
use Rattle.ebs_model.specs.declared.keys.Moment.{Moment}
use Rattle.ebs_model.specs.declared.rules.Rule.{Rule}
use Rattle.ebs_model.specs.declared.rules.RuleTag.{RuleTag}
use Rattle.ebs_model.specs.declared.rules.RuleLock.{RuleLock}
use Rattle.ebs_model.specs.declared.rules.RuleLock.TheVariants as lock
use Rattle.ebs_model.specs.declared.rules.RuleChange.{RuleChange}
use Rattle.ebs_model.specs.declared.rules.RuleChange.TheVariants.{Put, Remove}
use Rattle.ebs_model.specs.declared.rules.RuleCommand.{RuleCommand}
use Rattle.ebs_model.specs.declared.rules.RuleCommand.TheVariants.{Create, Update, Delete, Lock, Unlock}
use Rattle.ebs_model.specs.declared.rules.RuleRefusal.TheVariants.{TooMany, NoNumber}
use Rattle.ebs_model.specs.Quotas.{last_second, most_rules, most_ids}
use Rattle.ebs_model.specs.Limits.{is_retention, is_retention_given, are_rule_tags, are_rule_tags_given, is_description, is_delay, is_first_delay}
use Rattle.ebs_model.specs.Rules.{Book, no_rules, find, lock_at, bin_end}
use Rattle.ebs_model.specs.RuleCommands.{Decided, first_lock, new_rule, or_old, updated, if_unlocked, update_of, delete_of, lock_by, lock_with, lock_of, unlock_by, unlock_of, decide, committed}
use Rattle.ebs_model.specs.Rows.{Rows, book_of}
use Rattle.ebs_model.proofs.RunLaws.{run-beside}
use Rattle.ebs_lawful.specs.Rules.{IsRuleLock, IsRule, IsBook, AreBooks}
use Rattle.ebs_lawful.proofs.Commands.{IsRuleCommand}
use Rattle.ebs_lawful.proofs.Maps.{none_some, each-insert, each-remove}
use Rattle.ebs_lawful.proofs.Effects.{IsEffect, left_all, altered, taken_out, started, snapped, created, dropped, commanded, planned, unplanned, ran}

-- rules of an account, of which there may be none yet
pub record HasRules (account : ℕ) (b : Book) : Type 0 where
  pub next : b.next ≤ most_ids
  pub each : (number : ℕ) (rule : Rule) → get b.rules number ≡ Some rule → (number < b.next) × IsRule account number rule

-- there are fewer rules than there may be, or one with this number is replaced
abbrev pub HasPlace : Book → ℕ → Type 0
HasPlace b number = (len b.rules < most_rules) ⊎ (contains_key b.rules number ≡ true)

-- what is put is a rule of the account, under a number that it comes to; what is removed was there
abbrev pub Puts : ℕ → Book → RuleChange → Type 0
Puts account b (Put rule) = (rule.key.number < most_ids) × IsRule account rule.key.number rule × HasPlace b rule.key.number
Puts account b (Remove key) = 1 ≤ b.next

abbrev PutsBy : ℕ → Book → Decided → Type 0
PutsBy account b (Ok change) = Puts account b change
PutsBy account b (Err r) = Unit {0}

same : (a b : ℕ) → (a == b) ≡ true → a ≡ b
same a b t = grind (arith, nat_tests)

first-lock : (tags : List RuleTag) (delay : Option ℕ) → is_first_delay tags delay ≡ true → IsRuleLock (first_lock delay)
first-lock tags None fits = tt
first-lock [] (Some delay) fits = fits
first-lock (tag ∷ tags) (Some delay) fits = absurd (cc)

given-days : (days : Option ℕ) (old : ℕ) → is_retention_given days ≡ true → is_retention old ≡ true → is_retention (unwrap_or days old) ≡ true
given-days None old fits h = h
given-days (Some days) old fits h = fits

given-tags : (tags : Option (List RuleTag)) (old : List RuleTag) → are_rule_tags_given tags ≡ true → are_rule_tags old ≡ true → are_rule_tags (unwrap_or tags old) ≡ true
given-tags None old fits h = h
given-tags (Some tags) old fits h = fits

given-text : (text old : Option (List ℕ)) → is_description text ≡ true → is_description old ≡ true → is_description (or_old text old) ≡ true
given-text None old fits h = h
given-text (Some text) old fits h = fits

few-days : (days : ℕ) → is_delay days ≡ true → days ≤ 30
few-days days e = grind (arith, nat_tests)

module _ (account now : ℕ) (early : now ≤ last_second) (b : Book) (has : HasRules account b) where
  -- of a rule that is found
  module _ (key : RuleKey) (rule : Rule) (mine : key.account ≡ account) (there : get b.rules key.number ≡ Some rule) (low : key.number < b.next) (h : IsRule account key.number rule) where
    number-fits : key.number < most_ids
    number-fits = let top = has.next in omega (arith, low, top)

    puts-if : (l : RuleLock) (new : Rule) → Puts account b (Put new) → PutsBy account b (if_unlocked l (Put new))
    puts-if lock.Unlocked new fits = fits
    puts-if (lock.Locked delay) new fits = tt
    puts-if (lock.Pending end) new fits = tt

    removes-if : (l : RuleLock) → PutsBy account b (if_unlocked l (Remove key))
    removes-if lock.Unlocked = omega (arith, low)
    removes-if (lock.Locked delay) = tt
    removes-if (lock.Pending end) = tt

    with-lock : (new : RuleLock) → IsRuleLock new → Puts account b (Put (record rule { key = key; lock = new }))
    with-lock new fits = (number-fits, record { owner = mine; place = refl; days = h.days; tags = h.tags; description = h.description; lock = fits }, inr (ap is_some there))

    updates : (days : Option ℕ) (tags : Option (List RuleTag)) (description : Option (List ℕ)) → IsRuleCommand (Update key days tags description) → PutsBy account b (update_of (Some rule) key days tags description now)
    updates days tags description fits = puts-if (lock_at rule.lock now) (updated key rule days tags description) (
      number-fits,
      record {
        owner = mine;
        place = refl;
        days = given-days days rule.days fits.0 h.days;
        tags = given-tags tags rule.tags fits.1 h.tags;
        description = given-text description rule.description fits.2 h.description;
        lock = h.lock;
      },
      inr (ap is_some there),
    )

    locks : (delay : ℕ) → is_delay delay ≡ true → (l : RuleLock) → PutsBy account b (lock_by l key rule delay)
    locks delay fits lock.Unlocked = with-lock (lock.Locked delay) fits
    locks delay fits (lock.Locked own) = tt
    locks delay fits (lock.Pending end) = with-lock (lock.Locked delay) fits

    locks-with : (delay : ℕ) → is_delay delay ≡ true → (tags : List RuleTag) → PutsBy account b (lock_with tags key rule delay now)
    locks-with delay fits [] = locks delay fits (lock_at rule.lock now)
    locks-with delay fits (tag ∷ tags) = tt

    unlocks : (l : RuleLock) → IsRuleLock l → PutsBy account b (unlock_by l key rule now)
    unlocks lock.Unlocked fits = tt
    unlocks (lock.Locked delay) fits = let few = few-days delay fits in with-lock (lock.Pending (bin_end now delay)) (omega (arith, few, early))
    unlocks (lock.Pending end) fits = tt

    lock-now : (l : RuleLock) → IsRuleLock l → IsRuleLock (lock_at l now)
    lock-now lock.Unlocked fits = tt
    lock-now (lock.Locked delay) fits = fits
    lock-now (lock.Pending end) fits = by (nat_le end.second now)
      where
        by : (t : Bool) → IsRuleLock (cond t lock.Unlocked (lock.Pending end))
        by true = tt
        by false = fits

  of-found : (key : RuleKey) (of : Option Rule → Decided) → PutsBy account b (of None)
      → ((rule : Rule) → key.account ≡ account → get b.rules key.number ≡ Some rule → key.number < b.next → IsRule account key.number rule → PutsBy account b (of (Some rule))) → PutsBy account b (of (find account b key))
  of-found key of none some = by (key.account == account) refl (get b.rules key.number) refl
    where
      by : (t : Bool) → (key.account == account) ≡ t → (o : Option Rule) → get b.rules key.number ≡ o → PutsBy account b (of (cond t o None))
      by true t (Some rule) is = let h = has.each key.number rule is in some rule (same key.account account t) is h.0 h.1
      by true t None is = none
      by false t o is = none

  puts : (command : RuleCommand) → IsRuleCommand command → PutsBy account b (decide account b command now)
  puts (Create days tags description delay) fits = by (nat_le most_rules (len b.rules)) (nat_le most_ids b.next) refl refl
    where
      below : (most n : ℕ) → nat_le most n ≡ false → n < most
      below most n e = grind (arith, nat_tests)

      by : (p q : Bool) → nat_le most_rules (len b.rules) ≡ p → nat_le most_ids b.next ≡ q → PutsBy account b (cond p (Err TooMany) (cond q (Err NoNumber) (Ok (Put (new_rule account b days tags description delay)))))
      by true q few e = tt
      by false true few e = tt
      by false false few e = (below most_ids b.next e, record { owner = refl; place = refl; days = fits.0; tags = fits.1; description = fits.2; lock = first-lock tags delay fits.3 }, inl (below most_rules (len b.rules) few))
  puts (Update key days tags description) fits = of-found key (λ o. update_of o key days tags description now) tt (λ rule mine there low h. updates key rule mine there low h days tags description fits)
  puts (Delete key) fits = of-found key (λ o. delete_of o key now) tt (λ rule mine there low h. removes-if key rule mine there low h (lock_at rule.lock now))
  puts (Lock key delay) fits = of-found key (λ o. lock_of o key delay now) tt (λ rule mine there low h. locks-with key rule mine there low h delay fits rule.tags)
  puts (Unlock key) fits = of-found key (λ o. unlock_of o key now) tt (λ rule mine there low h. unlocks key rule mine there low h (lock_at rule.lock now) (lock-now key rule mine there low h rule.lock h.lock))

  pub puts-change : (command : RuleCommand) (change : RuleChange) → IsRuleCommand command → decide account b command now ≡ Ok change → Puts account b change
  puts-change command change fits taken = subst (PutsBy account b) taken (puts command fits)

  pub book-of-change : (change : RuleChange) → Puts account b change → IsBook account (committed b change)
  book-of-change (Put rule) fits =
      let top = has.next in
      let low = fits.0 in
      let one : 1 ≤ max b.next (rule.key.number + 1) = omega (arith, ints, clamps) in
      let both : max b.next (rule.key.number + 1) ≤ most_ids = omega (arith, ints, clamps, top, low) in
      let here : rule.key.number < max b.next (rule.key.number + 1) = omega (arith, ints, clamps) in
      let next : ℕ = max b.next (rule.key.number + 1) in
      let all = each-insert (λ (number : ℕ) (r : Rule). (number < next) × IsRule account number r) nat_cmp_total nat_cmp-IsAntisymmetric b.rules
      (λ number r e. let was = has.each number r e in (raised number (rule.key.number + 1) was.0, was.1)) rule.key.number rule (here, fits.1) in
      record { begun = one; next = both; numbers = λ number r e. (all number r e).0; rules = λ number r e. (all number r e).1 }
    where
      raised : (number other : ℕ) → number < b.next → number < max b.next other
      raised number other h = omega (arith, ints, clamps, h)
  book-of-change (Remove key) fits =
      let all = each-remove (λ (number : ℕ) (r : Rule). (number < b.next) × IsRule account number r) nat_cmp_total nat_cmp-IsAntisymmetric b.rules has.each key.number in
      record { begun = fits; next = has.next; numbers = λ number r e. (all number r e).0; rules = λ number r e. (all number r e).1 }

-- there are no more than there may be
pub few-rules : (account : ℕ) (b : Book) (change : RuleChange) → Puts account b change → len b.rules ≤ most_rules → len (committed b change).rules ≤ most_rules
few-rules account b (Put rule) (low, is, inl room) few = subst (λ (n : ℕ). n ≤ most_rules) (sym (len-insert nat_cmp_total b.rules rule.key.number rule)) (by (contains_key b.rules rule.key.number))
  where
    by : (t : Bool) → cond t (len b.rules) (len b.rules + 1) ≤ most_rules
    by true = few
    by false = omega (arith, room)
few-rules account b (Put rule) (low, is, inr known) few = subst (λ (n : ℕ). n ≤ most_rules) (sym (len-known nat_cmp_total b.rules rule.key.number rule known)) few
few-rules account b (Remove key) fits few = subst (λ (n : ℕ). n ≤ most_rules) (sym (len-remove nat_cmp_total b.rules key.number)) (by (contains_key b.rules key.number))
  where
    by : (t : Bool) → cond t (len b.rules - 1) (len b.rules) ≤ most_rules
    by true = omega (arith, few)
    by false = few

pub rules-of : (account : ℕ) (o : Option Book) → ((b : Book) → o ≡ Some b → IsBook account b) → HasRules account (unwrap_or o (no_rules 0))
rules-of account None h = record { next = omega arith; each = λ number rule e. none_some (sym (get-empty {X = Rule} nat_cmp number) ∙ e) }
rules-of account (Some b) h = let is = h b refl in record { next = is.next; each = λ number rule e. (is.numbers number rule e, is.rules number rule e) }

module _ (rows : Rows) (at : Moment) (account : ℕ) (early : at.second ≤ last_second) (books : AreBooks rows) where
  pub books-kept : (new : Rows) → IsEffect rows at account new → AreBooks new
  books-kept new (left_all is) = subst AreBooks (sym is) books
  books-kept new (altered key row next there how is) = subst AreBooks (sym is) books
  books-kept new (taken_out key is) = subst AreBooks (sym is) books
  books-kept new (started size parent description tags token timeout of is) = subst AreBooks (sym is) books
  books-kept new (snapped volume row description tags of is) = subst AreBooks (sym is) books
  books-kept new (created origin size tags token of is) = subst AreBooks (sym is) books
  books-kept new (dropped key is) = subst AreBooks (sym is) books
  books-kept new (commanded command change fits taken is) =
      let b : Book = book_of rows account in
      let has : HasRules account b = rules-of account (get rows.books account) (λ b. books account b) in
      subst AreBooks (sym is) (each-insert IsBook nat_cmp_total nat_cmp-IsAntisymmetric rows.books books account (committed b change)
      (book-of-change account at.second early b has change (puts-change account at.second early b has command change fits taken)))
  books-kept new (planned targets hours time retain add of is) = subst AreBooks (sym is) books
  books-kept new (unplanned key is) = subst AreBooks (sym is) books
  books-kept new (ran key p of is) = subst AreBooks (sym is) (subst (λ (m : FinMap nat_cmp Book). (q : ℕ) (x : Book) → get m q ≡ Some x → IsBook q x) (sym (run-beside rows at key p).1.1.0) books)
