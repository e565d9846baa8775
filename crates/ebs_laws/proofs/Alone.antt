-- What rows alone decide.
use Rattle.std.proofs.Common.{◌≡◌, ℕ, ◌≤◌, nat_le, not, List, Option, None, Some, Result, Ok, Err, sym, ap, ◌∙◌, refl, max, min}
use Rattle.sha2.specs.Sha256.{sha256}
use Rattle.ebs_model.specs.declared.keys.Moment.{Moment}
use Rattle.ebs_model.specs.declared.change.Change.{Change}
use Rattle.ebs_model.specs.declared.change.Decision.{Decision}
use Rattle.ebs_model.specs.declared.change.Decision.TheVariants as decision
use Rattle.ebs_model.specs.declared.request.Request.{Request}
use Rattle.ebs_model.specs.declared.request.Request.TheVariants.{StartSnapshot, PutSnapshotBlock, CompleteSnapshot, DeleteSnapshot, ModifyPermission, LockSnapshot, UnlockSnapshot, ArchiveSnapshot, RestoreTier, CreateVolume, CreateSnapshot, WriteVolumeBlock, DeleteVolume, CreateRule, UpdateRule, DeleteRule, LockRule, UnlockRule, RestoreFromBin, CreatePolicy, DeletePolicy, RunPolicy}
use Rattle.ebs_model.specs.declared.answer.Answer.{Answer}
use Rattle.ebs_model.specs.declared.answer.Answer.TheVariants as answer
use Rattle.ebs_model.specs.declared.answer.Spent.TheVariants.{Changes}
use Rattle.ebs_model.specs.declared.answer.Refusal.{Refusal}
use Rattle.ebs_model.specs.declared.answer.Refusal.TheVariants.{BadIndex, TokenConflict, Exhausted}
use Rattle.ebs_model.specs.declared.rows.TokenRow.{TokenRow}
use Rattle.ebs_model.specs.Quotas.{most_changes, last_second}
use Rattle.ebs_model.specs.Refuse.{◌>>=◌, ◌>>◌, refuse_if, refuse_bad}
use Rattle.ebs_model.specs.Limits.{bad_member}
use Rattle.ebs_model.specs.Rows.{Rows, first_use}
use Rattle.ebs_model.specs.inner.Rows.{aged}
use Rattle.ebs_model.specs.Calls.Start.{by_token, repeat_start, fresh_start, is_same_start, first_key}
use Rattle.ebs_model.specs.Calls.Volume.{repeat_create, fresh_create, is_same_create}
use Rattle.ebs_model.specs.declared.policy.Policy.{Policy}
use Rattle.ebs_model.specs.Calls.Run.{run_decided}
use Rattle.ebs_model.specs.Decide.{decide, commit}
use Rattle.ebs_model.specs.Machine.{Machine, advance, moment_of, rows_of, is_spent}
use Rattle.ebs_model.specs.Step.{refuse_size, refuse_digest, refuse_linear, bytes_of, array_after, changed, finish, call, settled, step}
use Rattle.ebs_model.proofs.RowLaws.{rows_of-with, rows_of-advance, aged-later}
use Rattle.ebs_laws.specs.RowLaws.{AsksChange}
use Rattle.ebs_laws.proofs.Cases.{Outcome, Accepted, IfDone, achieved, refused, after, passed, step-cases}
use Rattle.ebs_laws.proofs.Others.{others}

pub commits : (m : Machine) (bytes : List ℕ) (change : Change) → rows_of (changed m bytes change) ≡ commit (rows_of m) change
commits m bytes change = rows_of-with m (commit (rows_of m) change) (array_after m bytes change)

pub in-parts : (rows : Rows) (now later : Moment) → now.second ≤ later.second → aged later.second (aged now.second rows) ≡ aged later.second rows
in-parts rows now later h = aged-later now.second later.second h rows

-- rows that are refused
pub refuses : (at : Machine) (account : ℕ) (request : Request) (refusal : Refusal) → bad_member request ≡ None → refuse_size request ≡ Ok tt → refuse_digest sha256 request ≡ Ok tt
    → decide (rows_of at) at.clock account request ≡ Err refusal → (settled at (call at account request)).1 ≡ answer.Refused refusal
refuses at account request refusal good size digest declined = rw (good, size, digest, declined) refl

pub rows-refuse : (m : Machine) (account : ℕ) (reading : Moment) (request : Request) (refusal : Refusal) → let at = moment_of m reading in bad_member request ≡ None → refuse_size request ≡ Ok tt → refuse_digest sha256 request ≡ Ok tt
    → decide (aged at.second (rows_of m)) at account request ≡ Err refusal → (step m account reading request).1 ≡ answer.Refused refusal
rows-refuse m account reading request refusal good size digest declined =
    let at = moment_of m reading in
    refuses (advance m at) account request refusal good size digest (ap (λ rows. decide rows at account request) (rows_of-advance m at) ∙ declined)

-- a request for a change is decided by a change
abbrev pub IsChange : Decision → Type 0
IsChange (decision.Change change answer) = Unit {0}
IsChange (decision.Kept answer) = ⊥
IsChange (decision.View answer) = ⊥
IsChange (decision.Read row) = ⊥

-- or by the answer of an earlier call
abbrev pub IsSettled : Decision → Type 0
IsSettled (decision.Change change answer) = Unit {0}
IsSettled (decision.Kept answer) = Unit {0}
IsSettled (decision.View answer) = ⊥
IsSettled (decision.Read row) = ⊥

-- which earlier call a request repeats
abbrev pub Repeats : Rows → ℕ → Request → TokenRow → Type 0
Repeats rows account (StartSnapshot size parent description tags token timeout) row = first_use rows account token ≡ Some row
Repeats rows account (CreateVolume origin size tags token) row = first_use rows account token ≡ Some row
Repeats rows account request row = ⊥

module _ (P : Decision → Type 0) (changes : (change : Change) (said : Answer) → P (decision.Change change said)) (rows : Rows) (at : Moment) (account : ℕ) where
  ends_so : (change : Change) (said : Answer) → IfDone P (Ok (decision.Change change said))
  ends_so change said = achieved (changes change said)

  decides : (request : Request) → AsksChange request → ((row : TokenRow) (said : Answer) → Repeats rows account request row → P (decision.Kept said)) → IfDone P (decide rows at account request)
  decides (StartSnapshot size parent description tags token timeout) asks kept = by (first_use rows account token) refl
    where
      by : (o : Option TokenRow) → first_use rows account token ≡ o → IfDone P (by_token o (repeat_start account size parent description tags timeout) (fresh_start rows at account size parent description tags token timeout))
      by None unused = search (passed, after, ends_so) depth 20
      by (Some row) used = passed P (refuse_if (not (is_same_start row.first size parent description tags timeout)) (TokenConflict (first_key account row))) _ (λ same. achieved (kept row _ used))
  decides (PutSnapshotBlock key index digest bytes) asks kept = search (passed, after, ends_so) depth 20
  decides (CompleteSnapshot key count checksum) asks kept = search (passed, after, ends_so) depth 20
  decides (ModifyPermission key add add_all remove remove_all) asks kept = search (passed, after, ends_so) depth 20
  decides (DeleteSnapshot key) asks kept = search (passed, after, ends_so) depth 20
  decides (LockSnapshot key mode term cool_hours) asks kept = search (after, ends_so) depth 20
  decides (UnlockSnapshot key) asks kept = search (after, ends_so) depth 20
  decides (ArchiveSnapshot key) asks kept = search (after, ends_so) depth 20
  decides (RestoreTier key days) asks kept = search (after, ends_so) depth 20
  decides (CreateVolume origin size tags token) asks kept = by (first_use rows account token) refl
    where
      by : (o : Option TokenRow) → first_use rows account token ≡ o → IfDone P (by_token o (repeat_create account origin size tags) (fresh_create rows at account origin size tags token))
      by None unused = search (passed, after, ends_so) depth 20
      by (Some row) used = passed P (refuse_if (not (is_same_create row.first origin size tags)) (TokenConflict (first_key account row))) _ (λ same. achieved (kept row _ used))
  decides (CreateSnapshot key description tags) asks kept = search (passed, after, ends_so) depth 20
  decides (WriteVolumeBlock key index digest bytes) asks kept = search (passed, after, ends_so) depth 20
  decides (DeleteVolume key) asks kept = search (passed, after, ends_so) depth 20
  decides (CreateRule days tags description delay) asks kept = search (after, ends_so) depth 20
  decides (UpdateRule key days tags description) asks kept = search (after, ends_so) depth 20
  decides (DeleteRule key) asks kept = search (after, ends_so) depth 20
  decides (LockRule key delay) asks kept = search (after, ends_so) depth 20
  decides (UnlockRule key) asks kept = search (after, ends_so) depth 20
  decides (RestoreFromBin key) asks kept = search (after, ends_so) depth 20
  decides (CreatePolicy targets hours time retain add) asks kept = search (passed, ends_so) depth 20
  decides (DeletePolicy key) asks kept = search (after, ends_so) depth 20
  decides (RunPolicy key) asks kept =
      let ended : (p : Policy) → IfDone P (Ok (run_decided rows at account key p)) = λ p. ends_so _ _ in
      search (passed, after, ended) depth 20
  decides request asks kept = absurd asks

pub decides-change : (rows : Rows) (at : Moment) (account : ℕ) (request : Request) → AsksChange request → ((row : TokenRow) → Repeats rows account request row → ⊥) → IfDone IsChange (decide rows at account request)
decides-change rows at account request asks fresh = decides IsChange (λ change said. tt) rows at account request asks (λ row said used. absurd (fresh row used))

pub decides-settled : (rows : Rows) (at : Moment) (account : ℕ) (request : Request) → AsksChange request → IfDone IsSettled (decide rows at account request)
decides-settled rows at account request asks = decides IsSettled (λ change said. tt) rows at account request asks (λ row said used. tt)

-- what follows a decision is told by what follows a change, and an earlier call
module _ {B : Type 0} (f g : Decision → Result B Refusal) (same : (change : Change) (said : Answer) → f (decision.Change change said) ≡ g (decision.Change change said)) (again : (said : Answer) → f (decision.Kept said) ≡ g (decision.Kept said)) where
  at-change : (d : Decision) → IsSettled d → f d ≡ g d
  at-change (decision.Change change said) h = same change said
  at-change (decision.Kept said) h = again said
  at-change (decision.View said) h = absurd h
  at-change (decision.Read row) h = absurd h

  follows : (x : Result Decision Refusal) → IfDone IsSettled x → (x >>= f) ≡ (x >>= g)
  follows (Ok d) (achieved h) = at-change d h
  follows (Err r) refused = refl

-- an outcome with its rows alone
abbrev shown : Result Outcome Refusal → Result (Rows × Answer) Refusal
shown (Ok d) = Ok (rows_of d.0, d.1)
shown (Err r) = Err r

shown-after : {A : Type 0} (x : Result A Refusal) (f : A → Result Outcome Refusal) → shown (x >>= f) ≡ (x >>= λ v. shown (f v))
shown-after (Ok v) f = refl
shown-after (Err r) f = refl

shown-test : (x : Result (Unit {0}) Refusal) (y : Result Outcome Refusal) → shown (x >> y) ≡ (x >> shown y)
shown-test (Ok u) y = refl
shown-test (Err r) y = refl

-- what becomes of rows by what they decided, where the blocks say this of a checksum
abbrev ends : Rows → ℕ → Result (Unit {0}) Refusal → Decision → Result (Rows × Answer) Refusal
ends rows changes summed (decision.Change change said) = summed >> (refuse_if (nat_le most_changes changes) (Exhausted Changes) >> Ok (commit rows change, said))
ends rows changes summed (decision.Kept said) = Ok (rows, said)
ends rows changes summed (decision.View said) = Ok (rows, said)
ends rows changes summed (decision.Read row) = Err BadIndex

abbrev by_rows : ℕ → Request → Rows → Moment → ℕ → Result (Unit {0}) Refusal → Result (Rows × Answer) Refusal
by_rows account request rows at changes summed = refuse_bad (bad_member request) >> (refuse_size request >> (refuse_digest sha256 request >> (decide rows at account request >>= ends rows changes summed)))

module _ (m : Machine) (account : ℕ) (request : Request) where
  ended : (change : Change) (said : Answer) → shown (finish sha256 m request (decision.Change change said)) ≡ ends (rows_of m) m.changes (refuse_linear sha256 m request) (decision.Change change said)
  ended change said =
      let summed = refuse_linear sha256 m request in
      let few = refuse_if (is_spent m) (Exhausted Changes) in
      shown-test summed _ ∙ ap (λ x. summed >> x) (shown-test few _ ∙ ap (λ rows. few >> Ok (rows, said)) (commits m (bytes_of request) change))

  call-rows : AsksChange request → shown (call m account request) ≡ by_rows account request (rows_of m) m.clock m.changes (refuse_linear sha256 m request)
  call-rows asks =
      let good = refuse_bad (bad_member request) in
      let size = refuse_size request in
      let digest = refuse_digest sha256 request in
      let decided = decide (rows_of m) m.clock account request in
      shown-test good _
      ∙ ap (λ x. good >> x) (shown-test size _ ∙ ap (λ x. size >> x) (shown-test digest _ ∙ ap (λ x. digest >> x) (
      shown-after decided (finish sha256 m request)
      ∙ follows (λ d. shown (finish sha256 m request d)) (ends (rows_of m) m.changes (refuse_linear sha256 m request)) ended (λ said. refl) decided (decides-settled (rows_of m) m.clock account request asks)
      )))

abbrev answer_in : Result (Rows × Answer) Refusal → Answer
answer_in (Ok d) = d.1
answer_in (Err r) = answer.Refused r

abbrev rows_in : Rows → Result (Rows × Answer) Refusal → Rows
rows_in rows (Ok d) = d.0
rows_in rows (Err r) = rows

settled-answer : (at : Machine) (r : Result Outcome Refusal) → (settled at r).1 ≡ answer_in (shown r)
settled-answer at (Ok d) = refl
settled-answer at (Err r) = refl

settled-rows : (at : Machine) (r : Result Outcome Refusal) → rows_of (settled at r).0 ≡ rows_in (rows_of at) (shown r)
settled-rows at (Ok d) = refl
settled-rows at (Err r) = refl

module _ (account : ℕ) (reading : Moment) (request : Request) (asks : AsksChange request) where
  -- the moment of a call
  abbrev moment : Moment → Moment
  moment clock = record { second = max clock.second (min reading.second last_second) }

  abbrev outcome : Rows → Moment → ℕ → Result (Unit {0}) Refusal → Result (Rows × Answer) Refusal
  outcome rows clock changes summed = by_rows account request (aged (moment clock).second rows) (moment clock) changes summed

  abbrev summed : Machine → Result (Unit {0}) Refusal
  summed m = refuse_linear sha256 (advance m (moment_of m reading)) request

  outcome-is : (m : Machine) → shown (call (advance m (moment_of m reading)) account request) ≡ outcome (rows_of m) m.clock m.changes (summed m)
  outcome-is m = let at = advance m (moment_of m reading) in call-rows at account request asks ∙ ap (λ rows. by_rows account request rows at.clock m.changes (summed m)) (rows_of-advance m (moment_of m reading))

  answer-is : (m : Machine) → (step m account reading request).1 ≡ answer_in (outcome (rows_of m) m.clock m.changes (summed m))
  answer-is m = settled-answer (advance m (moment_of m reading)) (call (advance m (moment_of m reading)) account request) ∙ ap answer_in (outcome-is m)

  rows-are : (m : Machine) → rows_of (step m account reading request).0 ≡ rows_in (aged (moment m.clock).second (rows_of m)) (outcome (rows_of m) m.clock m.changes (summed m))
  rows-are m = settled-rows (advance m (moment_of m reading)) (call (advance m (moment_of m reading)) account request) ∙ (λ i. rows_in (rows_of-advance m (moment_of m reading) i) (outcome-is m i))

pub alone : (m n : Machine) (account : ℕ) (reading : Moment) (request : Request)
    → let a = step m account reading request in let b = step n account reading request in rows_of m ≡ rows_of n → m.clock ≡ n.clock → m.changes ≡ n.changes → AsksChange request
    → refuse_linear sha256 (advance m (moment_of m reading)) request ≡ refuse_linear sha256 (advance n (moment_of n reading)) request → (a.1 ≡ b.1) × (rows_of a.0 ≡ rows_of b.0)
alone m n account reading request rows clock changes asks summed = (
  answer-is account reading request asks m ∙ (λ i. answer_in (outcome account reading request asks (rows i) (clock i) (changes i) (summed i))) ∙ sym (answer-is account reading request asks n),
  rows-are account reading request asks m ∙ (λ i. rows_in (aged (moment account reading request asks (clock i)).second (rows i)) (outcome account reading request asks (rows i) (clock i) (changes i) (summed i))) ∙ sym (rows-are account reading request asks n),
)

-- a call that asks for no change
abbrev Leaves : Machine → Outcome → Type 0
Leaves m d = d.0 ≡ m

leaves_it : (m : Machine) (account : ℕ) (request : Request) → (AsksChange request → ⊥) → Accepted (Leaves m) m account request
leaves_it m account (StartSnapshot size parent description tags token timeout) none = absurd (none tt)
leaves_it m account (PutSnapshotBlock key index digest bytes) none = absurd (none tt)
leaves_it m account (CompleteSnapshot key count checksum) none = absurd (none tt)
leaves_it m account request none = others (Leaves m) m account request (λ answer says. refl) (λ key s row answer is same says. absurd (none same.asked)) (λ key s answer is same says. absurd (none same.asked)) (λ k row array token answer is says. absurd (none is.asked)) (λ k row answer there is says. absurd (none is.asked)) (λ v row text tags is made. absurd (none made.asked)) (λ v row i digest bytes is asked. absurd (none asked.asked)) (λ command change answer is says. absurd (none is.asked)) (λ snaps own policies answer is says. absurd (none is.asked))

pub reads-leave : (m : Machine) (account : ℕ) (reading : Moment) (request : Request) → (AsksChange request → ⊥) → (step m account reading request).0 ≡ advance m (moment_of m reading)
reads-leave m account reading request none = let at = advance m (moment_of m reading) in step-cases (Leaves at) m account reading request (leaves_it at account request none) (λ refusal. refl)
