-- What calls leave of a locked rule, and which numbers of rules they give out.
use Rattle.std.proofs.lemmas.Int.{clamps, ints}
use Rattle.std.proofs.Common.{◌≡◌, ℕ, ◌+◌, ◌<◌, ◌≤◌, Bool, true, false, cond, max, nat_le, arith, List, [], ◌∷◌, Some, None, Ok, sym, ap, subst, ◌∙◌, refl}
use Rattle.std.proofs.lemmas.Bool.Decides.{nat_tests}
use Rattle.std.specs.FinMap as fin
use Rattle.std.specs.FinMap.{nat_cmp-IsAntisymmetric}
use Rattle.std.specs.Cmp.{nat_cmp_total}
use Rattle.ebs_model.specs.declared.keys.RuleKey.{RuleKey}
use Rattle.ebs_model.specs.declared.rules.Rule.{Rule}
use Rattle.ebs_model.specs.declared.rules.RuleLock.{RuleLock}
use Rattle.ebs_model.specs.declared.rules.RuleLock.TheVariants as lock
use Rattle.ebs_model.specs.declared.rules.RuleCommand.{RuleCommand}
use Rattle.ebs_model.specs.declared.rules.RuleCommand.TheVariants as command
use Rattle.ebs_model.specs.declared.rules.RuleChange.{RuleChange}
use Rattle.ebs_model.specs.declared.rules.RuleChange.TheVariants.{Put, Remove}
use Rattle.ebs_model.specs.declared.request.Request.{Request}
use Rattle.ebs_model.specs.declared.request.Request.TheVariants.{StartSnapshot, PutSnapshotBlock, CompleteSnapshot, CreateRule}
use Rattle.ebs_model.specs.Rows.{book_of}
use Rattle.ebs_model.specs.Rules.{Book, find, lock_at}
use Rattle.ebs_model.specs.RuleCommands as rules
use Rattle.ebs_model.specs.RuleCommands.{committed, new_rule}
use Rattle.ebs_model.specs.Calls.Rule.{rule_answer}
use Rattle.ebs_model.specs.Machine.{Machine, rows_of, advance, moment_of}
use Rattle.ebs_model.specs.Timed.{Timed, turn, after_all}
use Rattle.ebs_laws.specs.RuleLaws.{next_rule, rule_key, RulesFit, created_rule, IsWithin, IsAhead, NoneEnds, LockedRuleIsKept, RuleNumbersNeverFall, CreatedRulesDiffer}
use Rattle.ebs_laws.proofs.Maps.{get-itself, get-other, get-left, by_key}
use Rattle.ebs_laws.proofs.Cases.{Outcome, Accepted, step-cases}
use Rattle.ebs_laws.proofs.Others.{others}
use Rattle.ebs_laws.proofs.Commanded.{found-own, creates, updates, deletes, locks, unlocks}
use Rattle.ebs_laws.proofs.RulesFit.{book-itself, book-other, fit-step}
use Rattle.ebs_laws.proofs.Whole.{ruled}

only : {x y : Rule} → Some x ≡ Some y → x ≡ y
only e = cc

-- ---- a locked rule

abbrev IsShut : RuleLock → Type 0
IsShut lock.Unlocked = ⊥
IsShut (lock.Locked delay) = Unit {0}
IsShut (lock.Pending end) = Unit {0}

never-open : (l : RuleLock) (now : ℕ) → IsShut l → IsWithin now l → lock_at l now ≡ lock.Unlocked → ⊥
never-open lock.Unlocked now shut within e = shut
never-open (lock.Locked delay) now shut within e = cc
never-open (lock.Pending end) now shut within e = by (nat_le end.second now) refl e
  where
    by : (b : Bool) → nat_le end.second now ≡ b → cond b lock.Unlocked (lock.Pending end) ≡ lock.Unlocked → ⊥
    by true t e = let late : end.second ≤ now = grind (arith, nat_tests) in absurd (omega (arith, late, within))
    by false t e = cc

-- what stays of a rule
record Alike (rule kept : Rule) : Type 0 where
  days : kept.days ≡ rule.days
  tags : kept.tags ≡ rule.tags
  text : kept.description ≡ rule.description
  shut : IsShut kept.lock

record Kept (b : Book) (number : ℕ) (rule : Rule) : Type 0 where
  kept : Rule
  is : fin.get b.rules number ≡ Some kept
  alike : Alike rule kept

module _ (b : Book) (number : ℕ) (rule : Rule) (h : Kept b number rule) where
  put-elsewhere : (new : Rule) → (number ≡ new.key.number → Alike rule new) → Kept (committed b (Put new)) number rule
  put-elsewhere new here = by_key nat_cmp_total nat_cmp-IsAntisymmetric (Kept (committed b (Put new)) number rule) number new.key.number
      (λ same. record { kept = new; is = ap (fin.get (fin.insert b.rules new.key.number new)) same ∙ get-itself nat_cmp_total nat_cmp-IsAntisymmetric b.rules new.key.number new; alike = here same })
      (λ other. record { kept = h.kept; is = get-other nat_cmp_total nat_cmp-IsAntisymmetric b.rules new.key.number new number other ∙ h.is; alike = h.alike })

  module _ (account now : ℕ) (within : IsWithin now h.kept.lock) (below : number < b.next) where
    -- a command's rule is this one where it has its number
    this-one : (key : RuleKey) (old : Rule) → find account b key ≡ Some old → number ≡ key.number → old ≡ h.kept
    this-one key old is same = only (sym (found-own account b key old is).1 ∙ ap (fin.get b.rules) (sym same) ∙ h.is)

    not-loose : (key : RuleKey) (old : Rule) → find account b key ≡ Some old → lock_at old.lock now ≡ lock.Unlocked → number ≡ key.number → ⊥
    not-loose key old is loose same = never-open h.kept.lock now h.alike.shut within (ap (λ (r : Rule). lock_at r.lock now) (sym (this-one key old is same)) ∙ loose)

    relocked : (key : RuleKey) (old : Rule) (new : RuleLock) → find account b key ≡ Some old → IsShut new → number ≡ key.number → Alike rule (record old { key = key; lock = new })
    relocked key old new is shut same =
        let one = this-one key old is same in
        record { days = ap (λ (r : Rule). r.days) one ∙ h.alike.days; tags = ap (λ (r : Rule). r.tags) one ∙ h.alike.tags; text = ap (λ (r : Rule). r.description) one ∙ h.alike.text; shut = shut }

    decided-keeps : (asked : RuleCommand) (change : RuleChange) → rules.decide account b asked now ≡ Ok change → Kept (committed b change) number rule
    decided-keeps (command.Create days tags text delay) change e =
        subst (λ change. Kept (committed b change) number rule) (sym (creates account b change days tags text delay e).0)
        (put-elsewhere (new_rule account b days tags text delay) (λ same. absurd (omega (arith, same, below))))
    decided-keeps (command.Update key days tags text) change e =
        let (old, is, loose, new) = updates account b change key now days tags text e in
        subst (λ change. Kept (committed b change) number rule) (sym new) (put-elsewhere _ (λ same. absurd (not-loose key old is loose same)))
    decided-keeps (command.Delete key) change e =
        let (old, is, loose, new) = deletes account b change key now e in
        subst (λ change. Kept (committed b change) number rule) (sym new)
        (record { kept = h.kept; is = get-left nat_cmp_total nat_cmp-IsAntisymmetric b.rules key.number number (not-loose key old is loose) ∙ h.is; alike = h.alike })
    decided-keeps (command.Lock key delay) change e =
        let (old, is, none, free, new) = locks account b change key now delay e in
        subst (λ change. Kept (committed b change) number rule) (sym new) (put-elsewhere _ (relocked key old (lock.Locked delay) is tt))
    decided-keeps (command.Unlock key) change e =
        let (old, delay, is, locked, new) = unlocks account b change key now e in
        subst (λ change. Kept (committed b change) number rule) (sym new) (put-elsewhere _ (relocked key old _ is tt))

module _ (m : Machine) (account number : ℕ) (rule : Rule) (fit : RulesFit m) (h : Kept (book_of (rows_of m) account) number rule) (within : IsWithin m.clock.second h.kept.lock) where
  abbrev Stays : Outcome → Type 0
  Stays d = Kept (book_of (rows_of d.0) account) number rule

  stays-ruled : (caller : ℕ) (asked : RuleCommand) (change : RuleChange) → rules.decide caller (book_of (rows_of m) caller) asked m.clock.second ≡ Ok change → Kept (book_of (rows_of (ruled m caller change)) account) number rule
  stays-ruled caller asked change decides = by_key nat_cmp_total nat_cmp-IsAntisymmetric (Kept (book_of (rows_of (ruled m caller change)) account) number rule) account caller
      (λ same.
      subst (λ a. Kept (book_of (rows_of (ruled m a change)) account) number rule) same
      (subst (λ b. Kept b number rule) (sym (book-itself m account change))
      (decided-keeps (book_of (rows_of m) account) number rule h account m.clock.second within (fit account number h.kept h.is).given asked change (subst (λ a. rules.decide a (book_of (rows_of m) a) asked m.clock.second ≡ Ok change) (sym same) decides))))
      (λ apart. subst (λ b. Kept b number rule) (sym (book-other m caller change account apart)) h)

  stays-accepted : (caller : ℕ) (request : Request) → Accepted Stays m caller request
  stays-accepted caller (StartSnapshot size parent text tags token timeout) = (λ from tests. h, λ row tests. h)
  stays-accepted caller (PutSnapshotBlock k index digest bytes) = λ s is passes tests. h
  stays-accepted caller (CompleteSnapshot k count checksum) = λ s is passes tests. h
  stays-accepted caller request = others Stays m caller request (λ answer says. h) (λ k s row answer is same says. h) (λ k s answer is same says. h) (λ k row array token answer is says. h) (λ k row answer there is says. h) (λ v row text tags is made. h) (λ v row i digest bytes is asked. h)
      (λ asked change answer is says. stays-ruled caller asked change is.decides) (λ snaps own policies answer is says. h)

locked-run : (turns : List Timed) (m : Machine) (account number : ℕ) (rule : Rule) → RulesFit m → Kept (book_of (rows_of m) account) number rule → NoneEnds account number m turns → Kept (book_of (rows_of (after_all m turns)) account) number rule
locked-run [] m account number rule fit h none = h
locked-run (t ∷ ts) m account number rule fit h none =
    let now = moment_of m t.reading in
    let within : IsWithin now.second h.kept.lock = subst (IsAhead now.second) h.is none.0 in
    locked-run ts (turn m t).0 account number rule (fit-step m t.call.account t.reading t.call.request fit)
    (step-cases (λ d. Kept (book_of (rows_of d.0) account) number rule) m t.call.account t.reading t.call.request (stays-accepted (advance m now) account number rule fit h within t.call.account t.call.request) (λ refusal. h))
    none.1

pub locked-kept : LockedRuleIsKept
locked-kept m turns account number rule delay fit is locked none =
    let shut : IsShut rule.lock = subst IsShut (sym locked) tt in
    let last = locked-run turns m account number rule fit (record { kept = rule; is = is; alike = record { days = refl; tags = refl; text = refl; shut = shut } }) none in
    (last.kept, last.is, last.alike.days, last.alike.tags, last.alike.text)

-- ---- numbers

higher : (b : Book) (change : RuleChange) → b.next ≤ (committed b change).next
higher b (Put rule) = omega (arith, ints, clamps)
higher b (Remove key) = omega arith

module _ (m : Machine) (account : ℕ) where
  abbrev Above : Outcome → Type 0
  Above d = next_rule m account ≤ next_rule d.0 account

  above-ruled : (caller : ℕ) (change : RuleChange) → next_rule m account ≤ next_rule (ruled m caller change) account
  above-ruled caller change = by_key nat_cmp_total nat_cmp-IsAntisymmetric (next_rule m account ≤ next_rule (ruled m caller change) account) account caller
      (λ same.
      let is = ap (λ a. next_rule (ruled m a change) account) (sym same) ∙ ap (λ (b : Book). b.next) (book-itself m account change) in
      let rises = higher (book_of (rows_of m) account) change in omega (arith, is, rises))
      (λ apart. let is = ap (λ (b : Book). b.next) (book-other m caller change account apart) in omega (arith, is))

  above-accepted : (caller : ℕ) (request : Request) → Accepted Above m caller request
  above-accepted caller (StartSnapshot size parent text tags token timeout) = (λ from tests. omega arith, λ row tests. omega arith)
  above-accepted caller (PutSnapshotBlock k index digest bytes) = λ s is passes tests. omega arith
  above-accepted caller (CompleteSnapshot k count checksum) = λ s is passes tests. omega arith
  above-accepted caller request = others Above m caller request (λ answer says. omega arith) (λ k s row answer is same says. omega arith) (λ k s answer is same says. omega arith) (λ k row array token answer is says. omega arith) (λ k row answer there is says. omega arith) (λ v row text tags is made. omega arith) (λ v row i digest bytes is asked. omega arith)
      (λ asked change answer is says. above-ruled caller change) (λ snaps own policies answer is says. omega arith)

above-turn : (m : Machine) (t : Timed) (account : ℕ) → next_rule m account ≤ next_rule (turn m t).0 account
above-turn m t account =
    let at = advance m (moment_of m t.reading) in
    step-cases (Above at account) m t.call.account t.reading t.call.request (above-accepted at account t.call.account t.call.request) (λ refusal. omega arith)

pub never-fall : RuleNumbersNeverFall
never-fall m [] account = omega arith
never-fall m (t ∷ ts) account =
    let one = above-turn m t account in
    let more = never-fall (turn m t).0 ts account in
    omega (arith, one, more)

-- an id that is given out is the account's next, and the next one is above it afterwards
module _ (m : Machine) (caller : ℕ) (key : RuleKey) where
  abbrev Gives : Outcome → Type 0
  Gives d = created_rule d.1 ≡ Some key → (key.number ≡ next_rule m key.account) × (key.number < next_rule d.0 key.account)

  nothing : {key : RuleKey} → None ≡ Some key → ⊥
  nothing e = cc

  one-key : {a b : RuleKey} → Some a ≡ Some b → a ≡ b
  one-key e = cc

  gives-accepted : (request : Request) → Accepted Gives m caller request
  gives-accepted (StartSnapshot size parent text tags token timeout) = (λ from tests e. absurd (nothing e), λ row tests e. absurd (nothing e))
  gives-accepted (PutSnapshotBlock k index digest bytes) = λ s is passes tests e. absurd (nothing e)
  gives-accepted (CompleteSnapshot k count checksum) = λ s is passes tests e. absurd (nothing e)
  gives-accepted (CreateRule days tags text delay) = λ change good decides e.
      let new = new_rule caller (book_of (rows_of m) caller) days tags text delay in
      let put = (creates caller (book_of (rows_of m) caller) change days tags text delay decides).0 in
      let same : rule_key caller (next_rule m caller) ≡ key = one-key (ap (λ change. created_rule (rule_answer true m.clock.second change)) (sym put) ∙ e) in
      let next : next_rule (ruled m caller change) caller ≡ max (next_rule m caller) (next_rule m caller + 1) = ap (λ (b : Book). b.next) (book-itself m caller change) ∙ ap (λ change. (committed (book_of (rows_of m) caller) change).next) put in
      subst (λ (k : RuleKey). (k.number ≡ next_rule m k.account) × (k.number < next_rule (ruled m caller change) k.account)) same (refl, omega (arith, ints, clamps, next))
  gives-accepted request = others Gives m caller request (λ answer says e. absurd (nothing (sym (says.no_rule (λ a. a)) ∙ e))) (λ k s row answer is same says e. absurd (nothing (sym (says.no_rule (λ a. a)) ∙ e))) (λ k s answer is same says e. absurd (nothing (sym (says.no_rule (λ a. a)) ∙ e)))
      (λ k row array token answer is says e. absurd (nothing (sym (says.no_rule (λ a. a)) ∙ e))) (λ k row answer there is says e. absurd (nothing (sym (says.no_rule (λ a. a)) ∙ e))) (λ v row text tags is made e. absurd (nothing e)) (λ v row i digest bytes is asked e. absurd (nothing e))
      (λ asked change answer is says e. absurd (nothing (sym (says.no_rule (λ a. a)) ∙ e))) (λ snaps own policies answer is says e. absurd (nothing (sym (says.no_rule (λ a. a)) ∙ e)))

gives-turn : (m : Machine) (t : Timed) (key : RuleKey) → created_rule (turn m t).1 ≡ Some key → (key.number ≡ next_rule m key.account) × (key.number < next_rule (turn m t).0 key.account)
gives-turn m t key e =
    let at = advance m (moment_of m t.reading) in
    step-cases (Gives at t.call.account key) m t.call.account t.reading t.call.request (gives-accepted at t.call.account key t.call.request) (λ refusal e. cc) e

pub rules-differ : CreatedRulesDiffer
rules-differ m first second turns one two given again same =
    let n = after_all (turn m first).0 turns in
    let before = gives-turn m first one given in
    let later = gives-turn n second two again in
    let rises = never-fall (turn m first).0 turns one.account in
    let below = before.1 in
    let number = later.0 in
    let is = ap (λ (k : RuleKey). k.number) same in
    let next = ap (λ (k : RuleKey). next_rule n k.account) same in
    absurd (omega (arith, rises, below, number, is, next))
