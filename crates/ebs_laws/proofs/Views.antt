-- What is shown of a row, and to whom.
use Rattle.std.proofs.Common.{◌≡◌, ◌≢◌, ◌⊎◌, inl, inr, ℕ, ◌+◌, ◌*◌, Bool, true, false, cond, not, ◌&&◌, ◌||◌, ◌==◌, nat_le, nat_lt, Option, Some, None, Result, Ok, Err, ap, subst, ◌∙◌, refl}
use Rattle.std.specs.Option.{option_map}
use Rattle.std.specs.List.{list_any}
use Rattle.std.specs.FinMap as fin
use Rattle.ebs_model.specs.declared.keys.SnapKey.{SnapKey}
use Rattle.ebs_model.specs.declared.keys.Moment.{Moment}
use Rattle.ebs_model.specs.declared.rows.SnapRow.{SnapRow}
use Rattle.ebs_model.specs.declared.rows.LockState.{LockState}
use Rattle.ebs_model.specs.declared.rows.LockState.TheVariants as state
use Rattle.ebs_model.specs.declared.rows.Tier.{Tier}
use Rattle.ebs_model.specs.declared.rows.Tier.TheVariants as tier
use Rattle.ebs_model.specs.declared.views.SnapView.{SnapView}
use Rattle.ebs_model.specs.declared.request.Request.TheVariants.{DescribeSnapshot}
use Rattle.ebs_model.specs.declared.answer.Answer.TheVariants.{SnapshotShown, Refused}
use Rattle.ebs_model.specs.declared.answer.Kind.TheVariants.{Snapshot as snapshot}
use Rattle.ebs_model.specs.declared.answer.Refusal.{Refusal}
use Rattle.ebs_model.specs.declared.answer.Refusal.TheVariants.{NotFound}
use Rattle.ebs_model.specs.Refuse.{◌>>◌, refuse_if}
use Rattle.ebs_model.specs.Time.{Snapshot, is_reached, is_ahead, status_at, status_by, is_completed, is_readable, rested}
use Rattle.ebs_model.specs.Access.{owns, may_read, seen}
use Rattle.ebs_model.specs.Machine.{Machine, advance}
use Rattle.ebs_model.specs.declared.phases.LockPhase.TheVariants as phase
use Rattle.ebs_model.specs.declared.phases.TierPhase.TheVariants as tier_phase
use Rattle.ebs_model.specs.declared.rows.RowStatus.TheVariants as status
use Rattle.ebs_model.specs.declared.views.LockName.TheVariants as lock
use Rattle.ebs_model.specs.declared.views.TierName.TheVariants as name
use Rattle.ebs_model.specs.Views.{view_of, lock_named, lock_shown, lock_until, tier_named, tier_shown, restore_until}
use Rattle.ebs_model.specs.Step.{call, settled}
use Rattle.ebs_model.proofs.Aged.{aged_row, get-aged}
use Rattle.ebs_laws.specs.Words.{moment_at, MayRead}
use Rattle.ebs_laws.specs.ShownLaws.{lock_in, lock_end, tier_in, restore_end, ShowsRow, MayKnow, ShownIsTheRow, KnownIsShown, IsHidden, HiddenIsNotFound}
use Rattle.ebs_laws.proofs.Cases.{Outcome, step-cases}
use Rattle.ebs_laws.proofs.Acts.{call-whole}
use Rattle.ebs_laws.proofs.Readers.{first_ok, last_ok, passes_by, same_number, number_is, completed_is, tier_is, no_end, seen-out, seen-shown, was-there, read-there}

status-same : (c late : Bool) → status_by c late ≡ cond c status.Completed (cond late status.Failed status.Pending)
status-same true late = refl
status-same false true = refl
status-same false false = refl

lock-same : (lock : LockState) (now : ℕ) → lock_shown lock now ≡ lock_in lock now
lock-same state.None now = refl
lock-same (state.Governance until) now = by (nat_le until.second now)
  where
    by : (b : Bool) → lock_named (cond b phase.Expired phase.Governance) ≡ Some (cond b lock.Expired lock.Governance)
    by true = refl
    by false = refl
lock-same (state.Compliance until cool_end) now = by (nat_le until.second now) (nat_lt now cool_end.second)
  where
    by : (b c : Bool) → lock_named (cond b phase.Expired (cond c phase.CoolOff phase.Compliance)) ≡ Some (cond b lock.Expired (cond c lock.CoolOff lock.Compliance))
    by true c = refl
    by false true = refl
    by false false = refl

end-same : (lock : LockState) → lock_until lock ≡ lock_end lock
end-same state.None = refl
end-same (state.Governance until) = refl
end-same (state.Compliance until cool_end) = refl

tier-same : (tier : Tier) (now : ℕ) → tier_shown tier now ≡ tier_in tier now
tier-same tier.Standard now = refl
tier-same tier.Archived now = refl
tier-same (tier.Temporary until) now = by (nat_lt now until.second)
  where
    by : (b : Bool) → tier_named (cond b tier_phase.Temporary tier_phase.Archived) ≡ cond b name.Temporary name.Archive
    by true = refl
    by false = refl

restore-same : (tier : Tier) (now : ℕ) → restore_until tier now ≡ restore_end tier now
restore-same tier.Standard now = refl
restore-same tier.Archived now = refl
restore-same (tier.Temporary until) now = refl

not_equal : (a b : ℕ) → a ≢ b → (a == b) ≡ false
not_equal a b h = by (a == b) refl
  where
    by : (t : Bool) → (a == b) ≡ t → (a == b) ≡ false
    by true e = absurd (h (same_number a b e))
    by false e = e

module _ (account : ℕ) (key : SnapKey) (now : ℕ) (row : SnapRow) where
  owner-sees : {A : Type 0} (o : Option A) → account ≡ key.account → cond (owns account key) o None ≡ o
  owner-sees o mine = ap (λ b. cond b o None) (number_is account key.account mine)

  others-see : {A : Type 0} (o : Option A) → account ≢ key.account → cond (owns account key) o None ≡ None
  others-see o other = ap (λ b. cond b o None) (not_equal account key.account other)

  pub shows-row : ShowsRow account key now row (view_of account now key row)
  shows-row = record {
    key_is = refl;
    owner_is = refl;
    size_is = refl;
    parent_is = refl;
    description_is = refl;
    tags_are = refl;
    starts = refl;
    volume_is = refl;
    bin_end_is = refl;
    status_is = status-same row.completed (nat_le (row.last.second + 60 * row.timeout) now);
    tier_is = tier-same row.tier now;
    restored_until = restore-same row.tier now;
    to_owner = λ mine. (owner-sees _ mine ∙ lock-same row.lock now, owner-sees _ mine ∙ end-same row.lock, owner-sees _ mine);
    to_others = λ other. (others-see _ other, others-see _ other, others-see _ other);
  }

-- the caller's own, or one that it may read
known_by : (o p l c b t : Bool) → (not o && not ((o || (p || l)) && (c && (not b && t)))) ≡ false → (o ≡ true) ⊎ (((l ≡ true) ⊎ (p ≡ true)) × (c ≡ true) × (t ≡ true))
known_by true p l c b t e = inl refl
known_by false true l true false true e = inr (inr refl, refl, refl)
known_by false false true true false true e = inr (inl refl, refl, refl)
known_by false true l true false false e = cc
known_by false true l true true t e = cc
known_by false true l false b t e = cc
known_by false false true true false false e = cc
known_by false false true true true t e = cc
known_by false false true false b t e = cc
known_by false false false c b t e = cc

no_other : (a b : Bool) (r : Refusal) → (refuse_if a (NotFound snapshot) >> refuse_if b (NotFound snapshot)) ≡ Err r → r ≡ NotFound snapshot
no_other true b r e = cc
no_other false true r e = cc
no_other false false r e = cc

module _ (m : Machine) (account : ℕ) (now : Moment) (key : SnapKey) where
  pub may-know : (s : Snapshot) → fin.get (advance m now).snaps key ≡ Some s → seen account key now.second s.row ≡ Ok tt → (old : Snapshot) × MayKnow m account key now.second old × (rested now.second old ≡ s)
  may-know s is passes =
      let was = was-there m now key s is in
      let row = was.old.row in
      let there : seen account key now.second row ≡ Ok tt = ap (λ (s : Snapshot). seen account key now.second s.row) was.rests ∙ passes in
      let out = no_end row.bin_end now.second (seen-out account key now.second row there) was.ahead in
      (was.old, record { is_there = was.is_there; not_binned = out; who = by was.old was.is_there out (known_by (owns account key) row.public _ _ _ _ (passes_by _ _ (last_ok _ _ there))) }, was.rests)
    where
      by : (old : Snapshot) → fin.get m.snaps key ≡ Some old → old.row.bin_end ≡ None
          → (owns account key ≡ true) ⊎ (((list_any (λ a. a == account) old.row.shared ≡ true) ⊎ (old.row.public ≡ true)) × (is_completed (status_at old.row now.second) ≡ true) × (is_readable old.row.tier now.second ≡ true))
          → (account ≡ key.account) ⊎ MayRead m account key now.second old
      by old is out (inl mine) = inl (same_number account key.account mine)
      by old is out (inr (shown, whole, reads)) = inr (record { is_there = is; shown = inr shown; completed = completed_is old.row.completed _ whole; not_binned = out; tier = tier_is old.row.tier now.second reads })

  pub known-there : (s : Snapshot) → MayKnow m account key now.second s → (x : Snapshot) × (fin.get (advance m now).snaps key ≡ Some x) × (seen account key now.second x.row ≡ Ok tt)
  known-there s may = by may.who
    where
      by : ((account ≡ key.account) ⊎ MayRead m account key now.second s) → (x : Snapshot) × (fin.get (advance m now).snaps key ≡ Some x) × (seen account key now.second x.row ≡ Ok tt)
      by (inl mine) =
          let reached : is_reached s.row.bin_end now.second ≡ false = ap (λ end. is_reached end now.second) may.not_binned in
          let ahead : is_ahead s.row.bin_end now.second ≡ false = ap (λ end. is_ahead end now.second) may.not_binned in
          let own = number_is account key.account mine in (
            rested now.second s,
            get-aged now.second m.snaps key ∙ ap (aged_row now.second) may.is_there ∙ ap (λ b. option_map (rested now.second) (cond (not b) (Some s) None)) reached,
            λ i. refuse_if (ahead i) (NotFound snapshot) >> refuse_if (not (own i) && not (may_read account key now.second s.row)) (NotFound snapshot),
          )
      by (inr reads) =
          let (is, passes) = read-there m account now key s reads in
          (s, is, first_ok (seen account key now.second s.row) _ passes)

  pub seen-hidden : IsHidden m account key → (s : Snapshot) → fin.get (advance m now).snaps key ≡ Some s → seen account key now.second s.row ≡ Err (NotFound snapshot)
  seen-hidden hidden s is = by (seen account key now.second s.row) refl
    where
      by : (r : Result (Unit {0}) Refusal) → seen account key now.second s.row ≡ r → seen account key now.second s.row ≡ Err (NotFound snapshot)
      by (Ok u) e =
          let was = was-there m now key s is in
          absurd (hidden was.old was.is_there (seen-shown account key now.second was.old.row (ap (λ (s : Snapshot). seen account key now.second s.row) was.rests ∙ e)))
      by (Err r) e = e ∙ ap Err (no_other _ _ r e)

module _ (m : Machine) (account : ℕ) (now : Moment) (key : SnapKey) where
  abbrev Shown : Bool → SnapView → Outcome → Type 0
  Shown created view d = d.1 ≡ SnapshotShown created view → (s : Snapshot) × MayKnow m account key now.second s × (created ≡ false) × ShowsRow account key now.second s.row view

  shown-so : (created : Bool) (view : SnapView) (s : Snapshot) → fin.get (advance m now).snaps key ≡ Some s → seen account key now.second s.row ≡ Ok tt
      → SnapshotShown false (view_of account now.second key s.row) ≡ SnapshotShown created view → (s : Snapshot) × MayKnow m account key now.second s × (created ≡ false) × ShowsRow account key now.second s.row view
  shown-so created view s is passes e =
      let (old, may, rests) = may-know m account now key s is passes in
      let told : view_of account now.second key s.row ≡ view = cc in
      let new : created ≡ false = cc in
      (old, may, new, subst (ShowsRow account key now.second old.row) (ap (λ (s : Snapshot). view_of account now.second key s.row) rests ∙ told) (shows-row account key now.second old.row))

pub shown-row : ShownIsTheRow
shown-row m account reading key created view =
    step-cases (Shown m account (moment_at m reading) key created view) m account reading (DescribeSnapshot key)
    (λ s is passes e. shown-so m account (moment_at m reading) key created view s is passes e)
    (λ refusal e. cc)

module _ (at : Machine) (account : ℕ) (key : SnapKey) where
  answered : (s : Snapshot) → fin.get at.snaps key ≡ Some s → seen account key at.clock.second s.row ≡ Ok tt → (settled at (call at account (DescribeSnapshot key))).1 ≡ SnapshotShown false (view_of account at.clock.second key s.row)
  answered s is passes = ap (λ r. (settled at r).1) (call-whole at account (DescribeSnapshot key)) ∙ (rw (is, passes) refl)

  absent : fin.get at.snaps key ≡ None → (settled at (call at account (DescribeSnapshot key))).1 ≡ Refused (NotFound snapshot)
  absent is = ap (λ r. (settled at r).1) (call-whole at account (DescribeSnapshot key)) ∙ (rw is refl)

  unseen : (s : Snapshot) → fin.get at.snaps key ≡ Some s → seen account key at.clock.second s.row ≡ Err (NotFound snapshot) → (settled at (call at account (DescribeSnapshot key))).1 ≡ Refused (NotFound snapshot)
  unseen s is refuses = ap (λ r. (settled at r).1) (call-whole at account (DescribeSnapshot key)) ∙ (rw (is, refuses) refl)

pub known-shown : KnownIsShown
known-shown m account reading key s may =
    let (x, is, passes) = known-there m account (moment_at m reading) key s may in
    (view_of account (moment_at m reading).second key x.row, answered (advance m (moment_at m reading)) account key x is passes)

pub hidden-absent : HiddenIsNotFound
hidden-absent m account reading key hidden =
    let at = advance m (moment_at m reading) in
    by at (λ s is. seen-hidden m account (moment_at m reading) key hidden s is) (fin.get at.snaps key) refl
  where
    by : (at : Machine) → ((s : Snapshot) → fin.get at.snaps key ≡ Some s → seen account key at.clock.second s.row ≡ Err (NotFound snapshot)) → (o : Option Snapshot) → fin.get at.snaps key ≡ o → (settled at (call at account (DescribeSnapshot key))).1 ≡ Refused (NotFound snapshot)
    by at refuses None is = absent at account key is
    by at refuses (Some s) is = unseen at account key s is (refuses s is)
