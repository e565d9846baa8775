-- Each rule stands under its number, which was given out, and has a day to 365 days.
use Rattle.std.proofs.lemmas.Int.{clamps, ints}
use Rattle.std.proofs.Common.{◌≡◌, ◌≢◌, ℕ, ◌+◌, ◌≤◌, Bool, true, false, max, arith, List, unwrap_or, Option, Some, None, Ok, sym, ap, subst, ◌∙◌, refl}
use Rattle.std.proofs.lemmas.Bool.Decides.{nat_tests}
use Rattle.std.specs.FinMap as fin
use Rattle.std.specs.FinMap.{nat_cmp-IsAntisymmetric}
use Rattle.std.specs.Ordering.{nat_cmp}
use Rattle.std.specs.Cmp.{nat_cmp_total}
use Rattle.ebs_model.specs.declared.rules.Rule.{Rule}
use Rattle.ebs_model.specs.declared.rules.RuleCommand.{RuleCommand}
use Rattle.ebs_model.specs.declared.rules.RuleCommand.TheVariants as command
use Rattle.ebs_model.specs.declared.rules.RuleChange.{RuleChange}
use Rattle.ebs_model.specs.declared.rules.RuleChange.TheVariants.{Put, Remove}
use Rattle.ebs_model.specs.declared.request.Request.{Request}
use Rattle.ebs_model.specs.declared.request.Request.TheVariants.{StartSnapshot, PutSnapshotBlock, CompleteSnapshot}
use Rattle.ebs_model.specs.Limits.{bad_member, is_retention, is_retention_given, unless}
use Rattle.ebs_model.specs.Rows.{book_of}
use Rattle.ebs_model.specs.Rules.{Book, no_rules}
use Rattle.ebs_model.specs.RuleCommands as rules
use Rattle.ebs_model.specs.RuleCommands.{committed}
use Rattle.ebs_model.specs.Machine.{Machine, rows_of, advance, moment_of, empty_machine}
use Rattle.ebs_laws.specs.RuleLaws.{IsFitRule, RulesFit, RulesStayFit, RunsLeaveRulesFit}
use Rattle.ebs_laws.proofs.Maps.{get-itself, get-other, by_key, was-left}
use Rattle.ebs_laws.proofs.Cases.{Outcome, Accepted, step-cases}
use Rattle.ebs_laws.proofs.Others.{others, IsRuled, rule_request}
use Rattle.ebs_laws.proofs.Commanded.{found-own, creates, updates, locks, unlocks, deletes}
use Rattle.ebs_laws.proofs.Given.{kept_by_run}
use Rattle.ebs_laws.proofs.Whole.{ruled}

-- the rules of accounts after a command of one
module _ (m : Machine) (account : ℕ) (change : RuleChange) where
  pub book-itself : book_of (rows_of (ruled m account change)) account ≡ committed (book_of (rows_of m) account) change
  book-itself = ap (λ o. unwrap_or o (no_rules 0)) (get-itself nat_cmp_total nat_cmp-IsAntisymmetric m.books account (committed (book_of (rows_of m) account) change))

  pub book-other : (other : ℕ) → other ≢ account → book_of (rows_of (ruled m account change)) other ≡ book_of (rows_of m) other
  book-other other apart = ap (λ o. unwrap_or o (no_rules 0)) (get-other nat_cmp_total nat_cmp-IsAntisymmetric m.books account (committed (book_of (rows_of m) account) change) other apart)

days-of : (days : ℕ) → is_retention days ≡ true → (1 ≤ days) × (days ≤ 365)
days-of days e = (grind (arith, nat_tests), grind (arith, nat_tests))

good-first : (b : Bool) (name : List ℕ) (rest : Option (List ℕ)) → unless b name rest ≡ None → b ≡ true
good-first true name rest e = refl
good-first false name rest e = cc

abbrev FitBook : ℕ → Book → Type 0
FitBook account b = (number : ℕ) (rule : Rule) → fin.get b.rules number ≡ Some rule → IsFitRule b.next account number rule

-- what is asked of a change
abbrev FitChange : ℕ → RuleChange → Type 0
FitChange account (Put new) = (new.key.account ≡ account) × (1 ≤ new.days) × (new.days ≤ 365)
FitChange account (Remove key) = Unit {0}

only : {x y : Rule} → Some x ≡ Some y → x ≡ y
only e = cc

fit-change : (account : ℕ) (b : Book) (change : RuleChange) → FitBook account b → FitChange account change → FitBook account (committed b change)
fit-change account b (Put new) h fits number rule e = by_key nat_cmp_total nat_cmp-IsAntisymmetric (IsFitRule (max b.next (new.key.number + 1)) account number rule) number new.key.number
    (λ same.
    let here : new ≡ rule = only (sym (ap (fin.get (fin.insert b.rules new.key.number new)) same ∙ get-itself nat_cmp_total nat_cmp-IsAntisymmetric b.rules new.key.number new) ∙ e) in
    subst (IsFitRule (max b.next (new.key.number + 1)) account number) here
    (record { key_is = λ i. record { account = fits.0 i; number = sym same i }; given = omega (arith, ints, clamps, same); least = fits.1; most = fits.2 }))
    (λ other.
    let was = h number rule (sym (get-other nat_cmp_total nat_cmp-IsAntisymmetric b.rules new.key.number new number other) ∙ e) in
    let less = was.given in
    record { key_is = was.key_is; given = omega (arith, ints, clamps, less); least = was.least; most = was.most })
fit-change account b (Remove key) h fits number rule e = h number rule (was-left nat_cmp_total (λ o. o) refl b.rules key.number number rule e)

-- what a command decides is fit
fit-decided : (account : ℕ) (b : Book) (now : ℕ) (asked : RuleCommand) (change : RuleChange) → FitBook account b → bad_member (rule_request asked) ≡ None → rules.decide account b asked now ≡ Ok change → FitChange account change
fit-decided account b now (command.Create days tags text delay) change h good e =
    let made = creates account b change days tags text delay e in
    let fits = days-of days (good-first _ _ _ good) in
    subst (FitChange account) (sym made.0) (refl, fits.0, fits.1)
fit-decided account b now (command.Update key days tags text) change h good e =
    let (old, is, loose, new) = updates account b change key now days tags text e in
    let own = found-own account b key old is in
    let was = h key.number old own.1 in
    subst (FitChange account) (sym new) (own.0, (by days (good-first _ _ _ good) old.days was.least was.most).0, (by days (good-first _ _ _ good) old.days was.least was.most).1)
  where
    by : (o : Option ℕ) → is_retention_given o ≡ true → (was : ℕ) → 1 ≤ was → was ≤ 365 → (1 ≤ unwrap_or o was) × (unwrap_or o was ≤ 365)
    by None fits was least most = (least, most)
    by (Some days) fits was least most = days-of days fits
fit-decided account b now (command.Delete key) change h good e =
    let (old, is, loose, new) = deletes account b change key now e in
    subst (FitChange account) (sym new) tt
fit-decided account b now (command.Lock key delay) change h good e =
    let (old, is, none, loose, new) = locks account b change key now delay e in
    let own = found-own account b key old is in
    let was = h key.number old own.1 in
    subst (FitChange account) (sym new) (own.0, was.least, was.most)
fit-decided account b now (command.Unlock key) change h good e =
    let (old, delay, is, locked, new) = unlocks account b change key now e in
    let own = found-own account b key old is in
    let was = h key.number old own.1 in
    subst (FitChange account) (sym new) (own.0, was.least, was.most)

abbrev Fit : Outcome → Type 0
Fit d = RulesFit d.0

fit-ruled : (m : Machine) (account : ℕ) (asked : RuleCommand) (change : RuleChange) (request : Request) → RulesFit m → IsRuled m account asked change request → RulesFit (ruled m account change)
fit-ruled m account asked change request h is a = by_key nat_cmp_total nat_cmp-IsAntisymmetric (FitBook a (book_of (rows_of (ruled m account change)) a)) a account
    (λ same. subst (λ a. FitBook a (book_of (rows_of (ruled m account change)) a)) (sym same)
    (subst (FitBook account) (sym (book-itself m account change)) (fit-change account (book_of (rows_of m) account) change (h account) (fit-decided account (book_of (rows_of m) account) m.clock.second asked change (h account) is.good is.decides))))
    (λ apart. subst (FitBook a) (sym (book-other m account change a apart)) (h a))

fit-accepted : (m : Machine) (account : ℕ) (request : Request) → RulesFit m → Accepted Fit m account request
fit-accepted m account (StartSnapshot size parent text tags token timeout) h = (λ from tests. h, λ row tests. h)
fit-accepted m account (PutSnapshotBlock k index digest bytes) h = λ s is passes tests. h
fit-accepted m account (CompleteSnapshot k count checksum) h = λ s is passes tests. h
fit-accepted m account request h = others Fit m account request (λ answer says. h) (λ k s row answer is same says. h) (λ k s answer is same says. h) (λ k row array token answer is says. h) (λ k row answer there is says. h) (λ v row text tags is made. h) (λ v row i digest bytes is asked. h)
    (λ asked change answer is says. fit-ruled m account asked change request h is) (λ snaps own policies answer is says. h)

pub fit-step : RulesStayFit
fit-step m account reading request h = step-cases Fit m account reading request (fit-accepted (advance m (moment_of m reading)) account request h) (λ refusal. h)

pub fit-empty : (secret : List ℕ) → RulesFit (empty_machine secret)
fit-empty secret account number rule e = absurd (nothing (sym (ap (λ o. fin.get (unwrap_or o (no_rules 0)).rules number) (fin.get-empty nat_cmp account) ∙ fin.get-empty nat_cmp number) ∙ e))
  where
    nothing : {rule : Rule} → None ≡ Some rule → ⊥
    nothing e = cc

pub fit-run : RunsLeaveRulesFit
fit-run secret turns = kept_by_run (λ m. RulesFit m) (λ m t. fit-step m t.call.account t.reading t.call.request) turns (empty_machine secret) (fit-empty secret)
