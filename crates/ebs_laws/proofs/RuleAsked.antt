-- What a command on rules makes of them.
use Rattle.std.proofs.lemmas.Int.{clamps, ints}
use Rattle.std.proofs.Common.{◌≡◌, ◌≢◌, ℕ, ◌+◌, ◌*◌, ◌≤◌, Bool, true, false, cond, max, nat_le, arith, List, [], unwrap_or, Option, Some, None, sym, ap, subst, ◌∙◌, refl}
use Rattle.std.proofs.lemmas.Bool.Decides.{nat_tests}
use Rattle.std.specs.FinMap as fin
use Rattle.std.specs.FinMap.{nat_cmp-IsAntisymmetric}
use Rattle.std.specs.Cmp.{nat_cmp_total}
use Rattle.ebs_model.specs.declared.keys.RuleKey.{RuleKey}
use Rattle.ebs_model.specs.declared.keys.Moment.{Moment}
use Rattle.ebs_model.specs.declared.rules.Rule.{Rule}
use Rattle.ebs_model.specs.declared.rules.RuleLock.{RuleLock}
use Rattle.ebs_model.specs.declared.rules.RuleLock.TheVariants as lock
use Rattle.ebs_model.specs.declared.rules.RuleChange.{RuleChange}
use Rattle.ebs_model.specs.declared.rules.RuleChange.TheVariants.{Put, Remove}
use Rattle.ebs_model.specs.declared.request.Request.TheVariants.{CreateRule, UpdateRule, DeleteRule, LockRule, UnlockRule}
use Rattle.ebs_model.specs.Rows.{book_of}
use Rattle.ebs_model.specs.Rules.{Book, lock_at, rule_view}
use Rattle.ebs_model.specs.RuleCommands.{committed, first_lock, or_old, updated}
use Rattle.ebs_model.specs.Machine.{Machine, rows_of, advance}
use Rattle.ebs_model.specs.Calls.Rule.{rule_answer}
use Rattle.ebs_laws.specs.Words.{second_of, moment_at}
use Rattle.ebs_laws.specs.RuleWords.{rule_at}
use Rattle.ebs_laws.specs.RuleLaws.{next_rule, rule_key, RulesFit, created_rule, RulesAlone, OneRule, IsShownSo, with_given, lock_given, wanted_rule, CreatedRuleIsAsAsked, IsLoose, IsOwnLoose, given_or, UpdatedRuleIsAsAsked, DeletedRuleIsGone, LockedRuleIsAsAsked, UnlockedRuleIsAsAsked}
use Rattle.ebs_laws.proofs.Maps.{get-itself, get-other, get-gone, get-left}
use Rattle.ebs_laws.proofs.Cases.{step-cases}
use Rattle.ebs_laws.proofs.Commanded.{found-own, creates, updates, deletes, locks, unlocks}
use Rattle.ebs_laws.proofs.RulesFit.{book-itself}
use Rattle.ebs_laws.proofs.RuleShows.{shows-rule}
use Rattle.ebs_model.specs.declared.answer.Answer.TheVariants.{Done}
use Rattle.ebs_laws.proofs.Whole.{ruled}

more : (n : ℕ) → n ≡ n + 1 → ⊥
more n e = absurd (omega (arith, e))

-- the rules of the account, and all else
module _ (at : Machine) (account : ℕ) where
  alone : (change : RuleChange) → RulesAlone at (ruled at account change) account
  alone change = record { snapshots = refl; accounts = refl; tokens = refl; volumes = refl; disks = refl; policies = refl; others = λ other apart. get-other nat_cmp_total nat_cmp-IsAntisymmetric at.books account _ other apart }

  abbrev book : Book
  book = book_of (rows_of at) account

  puts-one : (rule : Rule) → OneRule at (ruled at account (Put rule)) account rule.key.number (Some rule)
  puts-one rule = record {
    is = ap (λ (b : Book). fin.get b.rules rule.key.number) (book-itself at account (Put rule)) ∙ get-itself nat_cmp_total nat_cmp-IsAntisymmetric book.rules rule.key.number rule;
    other_rules = λ n other. ap (λ (b : Book). fin.get b.rules n) (book-itself at account (Put rule)) ∙ get-other nat_cmp_total nat_cmp-IsAntisymmetric book.rules rule.key.number rule n other;
    alone = alone (Put rule);
  }

  removes-one : (key : RuleKey) → OneRule at (ruled at account (Remove key)) account key.number None
  removes-one key = record {
    is = ap (λ (b : Book). fin.get b.rules key.number) (book-itself at account (Remove key)) ∙ get-gone nat_cmp_total nat_cmp-IsAntisymmetric book.rules key.number;
    other_rules = λ n other. ap (λ (b : Book). fin.get b.rules n) (book-itself at account (Remove key)) ∙ get-left nat_cmp_total nat_cmp-IsAntisymmetric book.rules key.number n other;
    alone = alone (Remove key);
  }

first-same : (delay : Option ℕ) → first_lock delay ≡ lock_given delay
first-same None = refl
first-same (Some delay) = refl

text-same : (new old : Option (List ℕ)) → or_old new old ≡ given_or new old
text-same None old = refl
text-same (Some text) old = refl

-- what is unlocked at a moment
is-loose : (l : RuleLock) (now : ℕ) → lock_at l now ≡ lock.Unlocked → IsLoose l now
is-loose lock.Unlocked now e = tt
is-loose (lock.Locked delay) now e = cc
is-loose (lock.Pending end) now e = by (nat_le end.second now) refl e
  where
    by : (b : Bool) → nat_le end.second now ≡ b → cond b lock.Unlocked (lock.Pending end) ≡ lock.Unlocked → end.second ≤ now
    by true t e = grind (arith, nat_tests)
    by false t e = cc

is-locked : (l : RuleLock) (now delay : ℕ) → lock_at l now ≡ lock.Locked delay → l ≡ lock.Locked delay
is-locked lock.Unlocked now delay e = cc
is-locked (lock.Locked own) now delay e = e
is-locked (lock.Pending end) now delay e = by (nat_le end.second now) e
  where
    by : (b : Bool) → cond b lock.Unlocked (lock.Pending end) ≡ lock.Locked delay → lock.Pending end ≡ lock.Locked delay
    by true e = cc
    by false e = cc

not-locked : (l : RuleLock) (now : ℕ) → ((own : ℕ) → lock_at l now ≢ lock.Locked own) → (own : ℕ) → l ≢ lock.Locked own
not-locked l now none own e = none own (ap (λ l. lock_at l now) e)

-- a rule that was put is shown
shown-so : (created : Bool) (now : ℕ) (change : RuleChange) (rule : Rule) → change ≡ Put rule → IsShownSo (rule_answer created now change) created now rule
shown-so created now change rule put = (rule_view now rule, ap (rule_answer created now) put, shows-rule now rule)

-- a rule of the account has its number in its key
own-key : (m : Machine) (account : ℕ) (key : RuleKey) (old : Rule) → RulesFit m → key.account ≡ account → rule_at m account key.number ≡ Some old → key ≡ old.key
own-key m account key old fit mine there = (λ i. record { account = mine i; number = key.number }) ∙ sym (fit account key.number old there).key_is

pub create-asked : CreatedRuleIsAsAsked
create-asked m account reading days tags text delay =
    let at = advance m (moment_at m reading) in
    let number = next_rule m account in
    let wanted = wanted_rule account number days tags text delay in
    step-cases (λ d. d.0.changes ≡ m.changes + 1 → OneRule at d.0 account number (Some wanted) × (next_rule d.0 account ≡ number + 1) × (created_rule d.1 ≡ Some (rule_key account number)) × IsShownSo d.1 true (second_of m reading) wanted) m account reading (CreateRule days tags text delay)
    (λ change good decides e.
    let made = creates account (book_of (rows_of at) account) change days tags text delay decides in
    let put : change ≡ Put wanted = made.0 ∙ (λ i. Put (record { key = rule_key account number; days = days; tags = tags; description = text; lock = first-same delay i })) in (
      subst (λ change. OneRule at (ruled at account change) account number (Some wanted)) (sym put) (puts-one at account wanted),
      ap (λ (b : Book). b.next) (book-itself at account change) ∙ ap (λ change. (committed (book_of (rows_of at) account) change).next) put ∙ higher number,
      ap (λ change. created_rule (rule_answer true at.clock.second change)) put,
      shown-so true at.clock.second change wanted put,
    ))
    (λ refusal e. absurd (more m.changes e))
  where
    higher : (n : ℕ) → max n (n + 1) ≡ n + 1
    higher n = omega (arith, ints, clamps)

pub update-asked : UpdatedRuleIsAsAsked
update-asked m account reading key days tags text fit =
    let at = advance m (moment_at m reading) in
    step-cases (λ d. d.0.changes ≡ m.changes + 1 → (old : Rule) × IsOwnLoose m account (second_of m reading) key old
    × OneRule at d.0 account key.number (Some (with_given old days tags text)) × IsShownSo d.1 false (second_of m reading) (with_given old days tags text)) m account reading (UpdateRule key days tags text)
    (λ change good decides e.
    let (old, is, loose, new) = updates account (book_of (rows_of at) account) change key at.clock.second days tags text decides in
    let own = found-own account (book_of (rows_of at) account) key old is in
    let one : updated key old days tags text ≡ with_given old days tags text =
    λ i. record { key = own-key m account key old fit own.0 own.1 i; days = unwrap_or days old.days; tags = unwrap_or tags old.tags; description = text-same text old.description i; lock = old.lock } in (
      old,
      record { owned = own.0; was_there = own.1; loose = is-loose old.lock at.clock.second loose },
      subst (λ r. OneRule at (ruled at account change) account key.number (Some r)) one
          (subst (λ change. OneRule at (ruled at account change) account key.number (Some (updated key old days tags text))) (sym new) (puts-one at account (updated key old days tags text))),
      shown-so false at.clock.second change (with_given old days tags text) (new ∙ ap Put one),
    ))
    (λ refusal e. absurd (more m.changes e))

pub delete-asked : DeletedRuleIsGone
delete-asked m account reading key =
    let at = advance m (moment_at m reading) in
    step-cases (λ d. d.0.changes ≡ m.changes + 1 → (old : Rule) × IsOwnLoose m account (second_of m reading) key old × OneRule at d.0 account key.number None × (d.1 ≡ Done)) m account reading (DeleteRule key)
    (λ change good decides e.
    let (old, is, loose, new) = deletes account (book_of (rows_of at) account) change key at.clock.second decides in
    let own = found-own account (book_of (rows_of at) account) key old is in (
      old,
      record { owned = own.0; was_there = own.1; loose = is-loose old.lock at.clock.second loose },
      subst (λ change. OneRule at (ruled at account change) account key.number None) (sym new) (removes-one at account key),
      ap (rule_answer false at.clock.second) new,
    ))
    (λ refusal e. absurd (more m.changes e))

-- a rule of which the lock alone is new
module _ (m : Machine) (account : ℕ) (reading : Moment) (key : RuleKey) (fit : RulesFit m) where
  abbrev at : Machine
  at = advance m (moment_at m reading)

  relocked : (old : Rule) (new : RuleLock) (change : RuleChange) → key.account ≡ account → rule_at m account key.number ≡ Some old → change ≡ Put (record old { key = key; lock = new })
      → OneRule at (ruled at account change) account key.number (Some (record old { lock = new })) × IsShownSo (rule_answer false at.clock.second change) false at.clock.second (record old { lock = new })
  relocked old new change mine there e =
      let one : record old { key = key; lock = new } ≡ record old { lock = new } = λ i. record old { key = own-key m account key old fit mine there i; lock = new } in (
        subst (λ r. OneRule at (ruled at account change) account key.number (Some r)) one
            (subst (λ change. OneRule at (ruled at account change) account key.number (Some (record old { key = key; lock = new }))) (sym e) (puts-one at account (record old { key = key; lock = new }))),
        shown-so false at.clock.second change (record old { lock = new }) (e ∙ ap Put one),
      )

pub lock-asked : LockedRuleIsAsAsked
lock-asked m account reading key delay fit =
    let at = advance m (moment_at m reading) in
    step-cases (λ d. d.0.changes ≡ m.changes + 1 → (old : Rule) × (key.account ≡ account) × (rule_at m account key.number ≡ Some old) × (old.tags ≡ []) × ((own : ℕ) → old.lock ≢ lock.Locked own)
    × OneRule at d.0 account key.number (Some (record old { lock = lock.Locked delay })) × IsShownSo d.1 false (second_of m reading) (record old { lock = lock.Locked delay })) m account reading (LockRule key delay)
    (λ change good decides e.
    let (old, is, none, loose, new) = locks account (book_of (rows_of at) account) change key at.clock.second delay decides in
    let own = found-own account (book_of (rows_of at) account) key old is in
    let one = relocked m account reading key fit old (lock.Locked delay) change own.0 own.1 new in
    (old, own.0, own.1, none, not-locked old.lock at.clock.second loose, one.0, one.1))
    (λ refusal e. absurd (more m.changes e))

pub unlock-asked : UnlockedRuleIsAsAsked
unlock-asked m account reading key fit =
    let at = advance m (moment_at m reading) in
    step-cases (λ d. d.0.changes ≡ m.changes + 1 → (old : Rule) × (delay : ℕ) × (key.account ≡ account) × (rule_at m account key.number ≡ Some old) × (old.lock ≡ lock.Locked delay)
    × OneRule at d.0 account key.number (Some (record old { lock = lock.Pending (record { second = second_of m reading + 86400 * delay }) })) × IsShownSo d.1 false (second_of m reading) (record old { lock = lock.Pending (record { second = second_of m reading + 86400 * delay }) })) m account reading (UnlockRule key)
    (λ change good decides e.
    let (old, delay, is, locked, new) = unlocks account (book_of (rows_of at) account) change key at.clock.second decides in
    let own = found-own account (book_of (rows_of at) account) key old is in
    let one = relocked m account reading key fit old (lock.Pending (record { second = second_of m reading + 86400 * delay })) change own.0 own.1 new in
    (old, delay, own.0, own.1, is-locked old.lock at.clock.second delay locked, one.0, one.1))
    (λ refusal e. absurd (more m.changes e))
