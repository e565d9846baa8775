-- An accepted change is one that the rows decided.
use Rattle.std.proofs.Common.{◌≡◌, ◌⊎◌, inl, inr, ℕ, ◌^◌, ◌<◌, ◌≤◌, Bool, true, false, nat_le, List, Result, Ok, Err, sym, ap, subst, ◌∙◌, refl, arith}
use Rattle.std.proofs.lemmas.Bool.Decides.{nat_tests}
use Rattle.sha2.specs.Sha256.{sha256}
use Rattle.ebs_model.specs.declared.keys.Moment.{Moment}
use Rattle.ebs_model.specs.declared.change.Change.{Change}
use Rattle.ebs_model.specs.declared.change.Decision.{Decision}
use Rattle.ebs_model.specs.declared.change.Decision.TheVariants as decision
use Rattle.ebs_model.specs.declared.request.Call.{Call}
use Rattle.ebs_model.specs.declared.request.Request.{Request}
use Rattle.ebs_model.specs.declared.request.Request.TheVariants.{StartSnapshot, PutSnapshotBlock, CompleteSnapshot, DeleteSnapshot, ModifyPermission, LockSnapshot, UnlockSnapshot, ArchiveSnapshot, RestoreTier, CreateVolume, CreateSnapshot, WriteVolumeBlock, DeleteVolume, CreateRule, UpdateRule, DeleteRule, LockRule, UnlockRule, RestoreFromBin, CreatePolicy, DeletePolicy, RunPolicy}
use Rattle.ebs_model.specs.declared.answer.Answer.{Answer}
use Rattle.ebs_model.specs.declared.answer.Refusal.{Refusal}
use Rattle.ebs_model.specs.declared.answer.Refusal.TheVariants.{Exhausted}
use Rattle.ebs_model.specs.declared.answer.Spent.TheVariants as spent
use Rattle.ebs_model.specs.Refuse.{◌>>=◌, ◌>>◌, refuse_if, refuse_bad}
use Rattle.ebs_model.specs.Limits.{bad_member}
use Rattle.ebs_model.specs.inner.Rows.{aged}
use Rattle.ebs_model.specs.Decide.{decide}
use Rattle.ebs_model.specs.Machine.{Machine, advance, moment_of, rows_of, is_spent, empty_machine}
use Rattle.ebs_model.specs.Step.{refuse_size, refuse_digest, refuse_linear, bytes_of, writes_of, changed, finish, call, settled, step}
use Rattle.ebs_model.specs.inner.Turns.{Accepts}
use Rattle.ebs_model.proofs.RowLaws.{rows_of-advance}
use Rattle.ebs_model.specs.Timed.{Timed, after_all}
use Rattle.ebs_laws.specs.Puts.{CountsFit}
use Rattle.ebs_laws.specs.RowLaws.{AsksChange}
use Rattle.ebs_laws.proofs.Cases.{Outcome, accepted-is}
use Rattle.ebs_laws.proofs.Given.{kept_by_run}
use Rattle.ebs_model.specs.declared.rows.TokenRow.{TokenRow}
use Rattle.ebs_laws.specs.Words.{is_repeat}
use Rattle.ebs_laws.proofs.Uses.{repeat-aged, none-used, fresh-unused, unused-clash}
use Rattle.ebs_laws.proofs.Alone.{IsChange, IsSettled, Repeats, decides-change, decides-settled, reads-leave}

first_passed : {B : Type 0} (x : Result (Unit {0}) Refusal) (y : Result B Refusal) (v : B) → (x >> y) ≡ Ok v → x ≡ Ok tt
first_passed (Ok u) y v e = refl
first_passed (Err r) y v e = cc

rest_passed : {B : Type 0} (x : Result (Unit {0}) Refusal) (y : Result B Refusal) (v : B) → (x >> y) ≡ Ok v → y ≡ Ok v
rest_passed (Ok u) y v e = e
rest_passed (Err r) y v e = cc

only : {d e : Outcome} → let r : Result Outcome Refusal = Ok d in r ≡ Ok e → d ≡ e
only e = cc

decided : {A B : Type 0} (x : Result A Refusal) (f : A → Result B Refusal) (v : B) → (x >>= f) ≡ Ok v → (d : A) × (x ≡ Ok d) × (f d ≡ Ok v)
decided (Ok d) f v e = (d, refl, e)
decided (Err r) f v e = cc

-- a change that was accepted on a machine that stands at its moment, or an earlier start that is repeated
record Changed (at : Machine) (account : ℕ) (request : Request) (next : Machine) (answer : Answer) : Type 0 where
  change : Change
  decision_is : decide (rows_of at) at.clock account request ≡ Ok (decision.Change change answer)
  few : refuse_if (is_spent at) (Exhausted spent.Changes) ≡ Ok tt
  next_is : next ≡ changed at (bytes_of request) change

record Again (at : Machine) (account : ℕ) (request : Request) (next : Machine) : Type 0 where
  answer : Answer
  decision_is : decide (rows_of at) at.clock account request ≡ Ok (decision.Kept answer)
  next_is : next ≡ at

module _ (at : Machine) (account : ℕ) (request : Request) (next : Machine) (answer : Answer) where
  finished : (d : Decision) → IsSettled d → decide (rows_of at) at.clock account request ≡ Ok d → finish sha256 at request d ≡ Ok (next, answer) → Changed at account request next answer ⊎ Again at account request next
  finished (decision.Change change said) is from e =
      let rest = rest_passed (refuse_linear sha256 at request) _ _ e in
      let last = rest_passed (refuse_if (is_spent at) (Exhausted spent.Changes)) _ _ rest in
      let is = only last in
      let same : said ≡ answer = ap (λ (d : Outcome). d.1) is in
      inl (record {
        change = change;
        decision_is = from ∙ ap (λ said. Ok (decision.Change change said)) same;
        few = first_passed (refuse_if (is_spent at) (Exhausted spent.Changes)) _ _ rest;
        next_is = ap (λ (d : Outcome). d.0) (sym is);
      })
  finished (decision.Kept said) is from e = inr (record { answer = said; decision_is = from; next_is = ap (λ (d : Outcome). d.0) (sym (only e)) })
  finished (decision.View said) is from e = absurd is
  finished (decision.Read row) is from e = absurd is

  change-of : AsksChange request → call at account request ≡ Ok (next, answer) → Changed at account request next answer ⊎ Again at account request next
  change-of asks e =
      let sized = rest_passed (refuse_bad (bad_member request)) _ _ e in
      let digested = rest_passed (refuse_size request) _ _ sized in
      let rows = rest_passed (refuse_digest sha256 request) _ _ digested in
      let (d, from, ends) = decided (decide (rows_of at) at.clock account request) (finish sha256 at request) (next, answer) rows in
      finished d (accepted-is IsSettled (decide (rows_of at) at.clock account request) (decides-settled (rows_of at) at.clock account request asks) d from) from ends

not-repeated : (m : Machine) (account : ℕ) (request : Request) → is_repeat m account request ≡ false → (row : TokenRow) → Repeats (rows_of m) account request row → ⊥
not-repeated m account (StartSnapshot size parent text tags token timeout) fresh row used = unused-clash m account token row (fresh-unused m account size parent text tags token timeout fresh) used
not-repeated m account (CreateVolume origin size tags token) fresh row used = unused-clash m account token row (none-used m account token fresh) used
not-repeated m account request fresh row used = used

pub accepted-decided : (m : Machine) (c : Call) (reading : Moment) (next : Machine) (answer : Answer)
    → let at = moment_of m reading in AsksChange c.request → is_repeat m c.account c.request ≡ false → Accepts m c reading next answer
    → (change : Change) × (decide (aged at.second (rows_of m)) at c.account c.request ≡ Ok (decision.Change change answer)) × (next ≡ changed (advance m at) (bytes_of c.request) change)
accepted-decided m c reading next answer asks fresh e = by (change-of (advance m (moment_of m reading)) c.account c.request next answer asks e)
  where
    kept : (answer : Answer) → decide (rows_of (advance m (moment_of m reading))) (moment_of m reading) c.account c.request ≡ Ok (decision.Kept answer) → ⊥
    kept answer is =
        let at = advance m (moment_of m reading) in
        accepted-is IsChange (decide (rows_of at) at.clock c.account c.request) (decides-change (rows_of at) at.clock c.account c.request asks (not-repeated at c.account c.request (repeat-aged m (moment_of m reading) c.account c.request ∙ fresh))) (decision.Kept answer) is

    by : (Changed (advance m (moment_of m reading)) c.account c.request next answer ⊎ Again (advance m (moment_of m reading)) c.account c.request next)
        → (change : Change) × (decide (aged (moment_of m reading).second (rows_of m)) (moment_of m reading) c.account c.request ≡ Ok (decision.Change change answer)) × (next ≡ changed (advance m (moment_of m reading)) (bytes_of c.request) change)
    by (inl made) = (made.change, ap (λ rows. decide rows (moment_of m reading) c.account c.request) (sym (rows_of-advance m (moment_of m reading))) ∙ made.decision_is, made.next_is)
    by (inr again) = absurd (kept again.answer again.decision_is)

asks_or_not : (request : Request) → AsksChange request ⊎ (AsksChange request → ⊥)
asks_or_not (StartSnapshot size parent description tags token timeout) = inl tt
asks_or_not (PutSnapshotBlock key index digest bytes) = inl tt
asks_or_not (CompleteSnapshot key count checksum) = inl tt
asks_or_not (DeleteSnapshot key) = inl tt
asks_or_not (ModifyPermission key add add_all remove remove_all) = inl tt
asks_or_not (LockSnapshot key mode term cool_hours) = inl tt
asks_or_not (UnlockSnapshot key) = inl tt
asks_or_not (ArchiveSnapshot key) = inl tt
asks_or_not (RestoreTier key days) = inl tt
asks_or_not (CreateVolume origin size tags token) = inl tt
asks_or_not (CreateSnapshot key description tags) = inl tt
asks_or_not (WriteVolumeBlock key index digest bytes) = inl tt
asks_or_not (DeleteVolume key) = inl tt
asks_or_not (CreateRule days tags description delay) = inl tt
asks_or_not (UpdateRule key days tags description) = inl tt
asks_or_not (DeleteRule key) = inl tt
asks_or_not (LockRule key delay) = inl tt
asks_or_not (UnlockRule key) = inl tt
asks_or_not (RestoreFromBin key) = inl tt
asks_or_not (CreatePolicy targets hours at retain add) = inl tt
asks_or_not (DeletePolicy key) = inl tt
asks_or_not (RunPolicy key) = inl tt
asks_or_not request = inr (λ e. e)

writes_at_most : (request : Request) → writes_of request ≤ 1
writes_at_most (PutSnapshotBlock key index digest bytes) = omega arith
writes_at_most (WriteVolumeBlock key index digest bytes) = omega arith
writes_at_most request = omega arith

room : (n : ℕ) → refuse_if (nat_le (2 ^ 40) n) (Exhausted spent.Changes) ≡ Ok tt → n < 2 ^ 40
room n e = below (by (nat_le (2 ^ 40) n) e)
  where
    by : (b : Bool) → refuse_if b (Exhausted spent.Changes) ≡ Ok tt → b ≡ false
    by true e = cc
    by false e = refl

    below : nat_le (2 ^ 40) n ≡ false → n < 2 ^ 40
    below e = grind (arith, nat_tests)

pub counts-step : (m : Machine) (account : ℕ) (reading : Moment) (request : Request) → CountsFit m → CountsFit (step m account reading request).0
counts-step m account reading request h = by (asks_or_not request)
  where
    settles : AsksChange request → (r : Result Outcome Refusal) → call (advance m (moment_of m reading)) account request ≡ r → CountsFit (settled (advance m (moment_of m reading)) r).0
    settles asks (Ok d) e = counted (change-of (advance m (moment_of m reading)) account request d.0 d.1 asks e)
      where
        counted : (Changed (advance m (moment_of m reading)) account request d.0 d.1 ⊎ Again (advance m (moment_of m reading)) account request d.0) → CountsFit d.0
        counted (inl made) =
            let below = room m.changes made.few in
            let wrote = writes_at_most made.change.request in
            let kept = h.1 in
            subst CountsFit (sym made.next_is) (omega (arith, below), omega (arith, wrote, kept))
        counted (inr again) = subst CountsFit (sym again.next_is) h
    settles asks (Err r) e = h

    by : (AsksChange request ⊎ (AsksChange request → ⊥)) → CountsFit (step m account reading request).0
    by (inl asks) = settles asks (call (advance m (moment_of m reading)) account request) refl
    by (inr none) = subst CountsFit (sym (reads-leave m account reading request none)) h

pub counts-empty : (secret : List ℕ) → CountsFit (empty_machine secret)
counts-empty secret = (omega arith, omega arith)

pub counts-run : (secret : List ℕ) (turns : List Timed) → CountsFit (after_all (empty_machine secret) turns)
counts-run secret turns = kept_by_run (λ m. CountsFit m) (λ m t. counts-step m t.call.account t.reading t.call.request) turns (empty_machine secret) (counts-empty secret)
