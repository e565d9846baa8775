-- Machines that calls have made are lawful.
use Rattle.std.proofs.Common.{◌≡◌, ℕ, ◌<◌, ◌≤◌, arith, Bool, true, false, nat_le, List, [], ◌∷◌, Option, Some, None, Result, Ok, Err, refl, sym, ap, subst, ◌∙◌}
use Rattle.std.proofs.lemmas.Bool.Decides.{nat_tests}
use Rattle.std.proofs.lemmas.Int.{clamps, ints}
use Rattle.std.specs.Option.{is_none}
use Rattle.std.specs.Ordering.{nat_cmp}
use Rattle.std.specs.FinMap.{empty, get-empty}
use Rattle.sha2.specs.Sha256.{sha256}
use Rattle.ebs_model.specs.declared.rows.SnapRow.{SnapRow}
use Rattle.ebs_model.specs.declared.request.Request.{Request}
use Rattle.ebs_model.specs.declared.request.Request.TheVariants.{PutSnapshotBlock, WriteVolumeBlock}
use Rattle.ebs_model.specs.declared.change.Change.{Change}
use Rattle.ebs_model.specs.declared.change.Decision.{Decision}
use Rattle.ebs_model.specs.declared.change.Decision.TheVariants as decision
use Rattle.ebs_model.specs.declared.answer.Answer.{Answer}
use Rattle.ebs_model.specs.declared.answer.Refusal.{Refusal}
use Rattle.ebs_model.specs.declared.answer.Refusal.TheVariants.{Exhausted}
use Rattle.ebs_model.specs.declared.answer.Spent.TheVariants.{Changes}
use Rattle.ebs_model.specs.Keys.{snap_cmp, vol_cmp, policy_cmp, token_cmp}
use Rattle.ebs_model.specs.Refuse.{◌>>=◌, ◌>>◌, refuse_if, refuse_bad}
use Rattle.ebs_model.specs.Quotas.{most_changes}
use Rattle.ebs_model.specs.Limits.{bad_member}
use Rattle.ebs_model.specs.Arrays.{Hash}
use Rattle.ebs_model.specs.Rows.{Rows}
use Rattle.ebs_model.specs.inner.Rows.{no_rows}
use Rattle.ebs_model.specs.Time.{Snapshot}
use Rattle.ebs_model.specs.Machine.{Machine, empty_machine, advance, moment_of, rows_of, snap_rows, is_spent}
use Rattle.ebs_model.specs.Decide.{decide, commit}
use Rattle.ebs_model.specs.Step.{act, call, settled, finish, read, changed, array_after, bytes_of, writes_of, refuse_size, refuse_digest, refuse_linear}
use Rattle.ebs_model.specs.Timed.{Timed, turn, after_all}
use Rattle.ebs_model.proofs.RowLaws.{rows_of-advance, rows_of-with, same_rows, get-row, row_in}
use Rattle.ebs_lawful.specs.Calls.{is_within}
use Rattle.ebs_lawful.specs.Counts.{HasCounts}
use Rattle.ebs_lawful.specs.Volumes.{AreVolRows}
use Rattle.ebs_lawful.specs.Snapshots.{IsSnapRow, AreSnapRows}
use Rattle.ebs_lawful.specs.Rules.{IsBook, AreBooks}
use Rattle.ebs_lawful.specs.Policies.{ArePolicies}
use Rattle.ebs_lawful.specs.Tokens.{AreTokens}
use Rattle.ebs_lawful.specs.Owners.{AreOwn}
use Rattle.ebs_lawful.specs.Quotas.{AreInQuotas}
use Rattle.ebs_lawful.specs.Lawful.{IsLawful}
use Rattle.ebs_lawful.specs.Laws.{EmptyIsLawful, CallsKeepLaws, TimeKeepsLaws, StepsKeepLaws, RunsAreLawful}
use Rattle.ebs_lawful.proofs.Done.{of_done}
use Rattle.ebs_lawful.proofs.Maps.{each-empty}
use Rattle.ebs_lawful.proofs.Effects.{IsEffect}
use Rattle.ebs_lawful.proofs.Walk.{EffectOf, walked}
use Rattle.ebs_lawful.proofs.SnapRows.{snaps-kept}
use Rattle.ebs_lawful.proofs.VolRows.{vols-kept, policies-kept}
use Rattle.ebs_lawful.proofs.Books.{books-kept}
use Rattle.ebs_lawful.proofs.TokenRows.{tokens-kept}
use Rattle.ebs_lawful.proofs.OwnRows.{own-kept}
use Rattle.ebs_lawful.proofs.QuotaRows.{quotas-kept, no_quotas}
use Rattle.ebs_lawful.proofs.Aged.{snaps-aged, own-aged, quotas-aged}

-- what holds of rows at a moment
record AreLawful (rows : Rows) (now : ℕ) : Type 0 where
  snaps : AreSnapRows rows
  vols : AreVolRows rows
  books : AreBooks rows
  policies : ArePolicies rows
  tokens : AreTokens rows
  own : AreOwn rows
  quotas : AreInQuotas rows now

of_rows : (m : Machine) → HasCounts m → AreLawful (rows_of m) m.clock.second → IsLawful m
of_rows m counts h = record { counts = counts; snaps = h.snaps; vols = h.vols; books = h.books; policies = h.policies; tokens = h.tokens; own = h.own; quotas = h.quotas }

rows_in : (m : Machine) → IsLawful m → AreLawful (rows_of m) m.clock.second
rows_in m h = record { snaps = h.snaps; vols = h.vols; books = h.books; policies = h.policies; tokens = h.tokens; own = h.own; quotas = h.quotas }

-- ---- the empty machine

no_snaps : snap_rows empty ≡ empty
no_snaps = same_rows _ _ (λ q. get-row empty q ∙ ap row_in (get-empty {X = Snapshot} snap_cmp q) ∙ sym (get-empty {X = SnapRow} snap_cmp q))

no_rows-lawful : AreLawful no_rows 0
no_rows-lawful = record {
  snaps = each-empty snap_cmp IsSnapRow;
  vols = each-empty vol_cmp _;
  books = each-empty nat_cmp IsBook;
  policies = each-empty policy_cmp _;
  tokens = each-empty token_cmp _;
  own = record { own = each-empty nat_cmp _; snaps = each-empty snap_cmp _; vols = each-empty vol_cmp _; policies = each-empty policy_cmp _; tokens = each-empty token_cmp _ };
  quotas = no_quotas 0;
}

pub empty-lawful : EmptyIsLawful
empty-lawful secret = of_rows (empty_machine secret) (record { clock = omega arith; changes = omega arith; stamps = omega arith })
    (subst (λ (r : Rows). AreLawful r 0) (λ i. record no_rows { snaps = sym no_snaps i }) no_rows-lawful)

-- ---- time

pub time-lawful : TimeKeepsLaws
time-lawful m now later early h =
    let counts = h.counts in
    of_rows (advance m now) (record { clock = early; changes = counts.changes; stamps = counts.stamps })
    (subst (λ (r : Rows). AreLawful r now.second) (sym (rows_of-advance m now)) (record {
      snaps = snaps-aged now.second (rows_of m) h.snaps;
      vols = h.vols;
      books = h.books;
      policies = h.policies;
      tokens = h.tokens;
      own = own-aged now.second (rows_of m) h.own;
      quotas = quotas-aged m.clock.second now.second (rows_of m) later h.quotas;
    }))

-- ---- a call

abbrev Outcome : Type 0
Outcome = Result (Machine × Answer) Refusal

behind : {A B : Type 0} (x : Result A Refusal) (f : A → Result B Refusal) (p : B) → (x >>= f) ≡ Ok p → (v : A) × (x ≡ Ok v) × (f v ≡ Ok p)
behind (Ok v) f p e = (v, refl, e)
behind (Err r) f p e = absurd (cc)

past : {B : Type 0} (x : Result (Unit {0}) Refusal) (y : Result B Refusal) (p : B) → (x >> y) ≡ Ok p → (x ≡ Ok tt) × (y ≡ Ok p)
past (Ok u) y p e = (refl, e)
past (Err r) y p e = absurd (cc)

abbrev machine_in : Machine → Outcome → Machine
machine_in m (Ok p) = p.0
machine_in m (Err r) = m

first_is : (n m : Machine) (a b : Answer) → ◌≡◌ {A = Outcome} (Ok (m, b)) (Ok (n, a)) → n ≡ m
first_is n m a b e = sym (ap (machine_in m) e)

one-write : (request : Request) → writes_of request ≤ 1
one-write (PutSnapshotBlock key index digest bytes) = omega arith
one-write (WriteVolumeBlock key index digest bytes) = omega arith
one-write request = omega arith

unspent : (m : Machine) → refuse_if (is_spent m) (Exhausted Changes) ≡ Ok tt → m.changes < most_changes
unspent m e = by (nat_le most_changes m.changes) refl e
  where
    by : (b : Bool) → nat_le most_changes m.changes ≡ b → refuse_if b (Exhausted Changes) ≡ Ok tt → m.changes < most_changes
    by true t e = absurd (cc)
    by false t e = grind (arith, nat_tests)

module _ (hash : Hash) (m : Machine) (account : ℕ) (request : Request) (h : IsLawful m) where
  moved : (bytes : List ℕ) (c : Change) → m.changes < most_changes → IsEffect (rows_of m) m.clock account (commit (rows_of m) c) → IsLawful (changed m bytes c)
  moved bytes c room effect =
      let counts = h.counts in
      let early = counts.clock in
      let rows : Rows = rows_of m in
      let new : Rows = commit rows c in
      let few = counts.stamps in
      let one = one-write c.request in
      of_rows (changed m bytes c) (record { clock = early; changes = omega (arith, room); stamps = omega (arith, few, one) })
      (subst (λ (r : Rows). AreLawful r m.clock.second) (sym (rows_of-with m new (array_after m bytes c))) (record {
        snaps = snaps-kept rows m.clock account early h.snaps h.vols h.books h.policies new effect;
        vols = vols-kept rows m.clock account early h.snaps h.vols h.policies new effect;
        books = books-kept rows m.clock account early h.books new effect;
        policies = policies-kept rows m.clock account early h.snaps h.vols h.policies new effect;
        tokens = tokens-kept rows m.clock account early h.snaps h.tokens new effect;
        own = own-kept rows m.clock account h.own new effect;
        quotas = quotas-kept rows m.clock account early h.books h.quotas new effect;
      }))

  finished : (d : Decision) (n : Machine) (a : Answer) → EffectOf (rows_of m) m.clock account d → finish hash m request d ≡ Ok (n, a) → IsLawful n
  finished (decision.Kept answer) n a of e = subst IsLawful (sym (first_is n m a answer e)) h
  finished (decision.View answer) n a of e = subst IsLawful (sym (first_is n m a answer e)) h
  finished (decision.Read row) n a of e = let found = behind (read hash m request row) (λ answer. Ok (m, answer)) (n, a) e in subst IsLawful (sym (first_is n m a found.0 found.2)) h
  finished (decision.Change c answer) n a of e =
      let tested = past (refuse_linear hash m request) _ (n, a) e in
      let counted = past (refuse_if (is_spent m) (Exhausted Changes)) _ (n, a) tested.1 in
      subst IsLawful (sym (first_is n (changed m (bytes_of request) c) a answer counted.1)) (moved (bytes_of request) c (unspent m counted.0) of)

pub calls-lawful : CallsKeepLaws
calls-lawful hash m account request n answer good e h =
    let sized = past (refuse_size request) _ (n, answer) e in
    let found = behind (decide (rows_of m) m.clock account request) (finish hash m request) (n, answer) (past (refuse_digest hash request) _ (n, answer) sized.1).1 in
    let counts = h.counts in
    finished hash m account request h found.0 n answer (of_done (EffectOf (rows_of m) m.clock account) found.0 _ found.1 (walked (rows_of m) m.clock account counts.clock request good sized.0)) found.2

-- ---- steps

-- where no member is bad
pub good-within : (request : Request) → bad_member request ≡ None → is_within request ≡ true
good-within (PutSnapshotBlock key index digest bytes) e = refl
good-within (WriteVolumeBlock key index digest bytes) e = refl
good-within request e = ap is_none e

bad-none : (o : Option (List ℕ)) → refuse_bad o ≡ Ok tt → o ≡ None
bad-none None e = refl
bad-none (Some name) e = absurd (cc)

pub step-lawful : StepsKeepLaws
step-lawful m account reading request h = by (call at account request) refl
  where
    at : Machine
    at = advance m (moment_of m reading)

    now : IsLawful at
    now = let counts = h.counts in let early = counts.clock in time-lawful m (moment_of m reading) (omega (arith, ints, clamps)) (omega (arith, ints, clamps, early)) h

    by : (r : Outcome) → call at account request ≡ r → IsLawful (settled at r).0
    by (Ok done) e =
        let tested = past (refuse_bad (bad_member request)) (act sha256 at account request) done e in
        calls-lawful sha256 at account request done.0 done.1 (good-within request (bad-none (bad_member request) tested.0)) tested.1 now
    by (Err refusal) e = now

run-lawful : (m : Machine) (turns : List Timed) → IsLawful m → IsLawful (after_all m turns)
run-lawful m [] h = h
run-lawful m (t ∷ turns) h = run-lawful (turn m t).0 turns (step-lawful m t.call.account t.reading t.call.request h)

pub runs-lawful : RunsAreLawful
runs-lawful secret turns = run-lawful (empty_machine secret) turns (empty-lawful secret)
