-- Who may take a snapshot out, lock it and move it.
use Rattle.std.proofs.Common.{◌≡◌, inl, inr, ℕ, ◌+◌, ◌*◌, ◌≤◌, Bool, true, false, Some, Ok, ap, ◌∙◌, refl, nat_le, nat_lt, arith}
use Rattle.std.proofs.lemmas.Bool.Decides.{nat_tests}
use Rattle.std.specs.FinMap as fin
use Rattle.ebs_model.specs.declared.keys.SnapKey.{SnapKey}
use Rattle.ebs_model.specs.declared.keys.Moment.{Moment}
use Rattle.ebs_model.specs.declared.rows.SnapRow.{SnapRow}
use Rattle.ebs_model.specs.declared.rows.LockState.{LockState}
use Rattle.ebs_model.specs.declared.rows.LockState.TheVariants as lock
use Rattle.ebs_model.specs.declared.request.Request.TheVariants.{DeleteSnapshot, LockSnapshot, UnlockSnapshot, ArchiveSnapshot, RestoreTier}
use Rattle.ebs_model.specs.declared.answer.Refusal.TheVariants.{Locked}
use Rattle.ebs_model.specs.Refuse.{refuse_if}
use Rattle.ebs_model.specs.Time.{Snapshot, status_at, status_by, is_pending}
use Rattle.ebs_model.specs.Access.{seen, own}
use Rattle.ebs_model.specs.Machine.{Machine, advance}
use Rattle.ebs_model.specs.Views.{lock_until}
use Rattle.ebs_model.specs.Calls.Delete.{refuse_locked}
use Rattle.ebs_laws.specs.Words.{moment_at, MayShare}
use Rattle.ebs_laws.specs.AccessLaws.{IsAccepted, IsClosed, IsLockOver, MayDelete, DeletionIsForOwner, LockIsForOwner, UnlockIsForOwner, ArchiveIsForOwner, RestoreIsForOwner}
use Rattle.ebs_laws.proofs.Cases.{Outcome, step-cases}
use Rattle.ebs_laws.proofs.Readers.{first_ok, passes_by, seen-out, own-owned, no_end, was-there, may-share}

closed-by : (row : SnapRow) (now : ℕ) → is_pending (status_at row now) ≡ false → IsClosed row now
closed-by row now e = by row.completed (nat_le (row.last.second + 60 * row.timeout) now) refl refl e
  where
    by : (c late : Bool) → row.completed ≡ c → nat_le (row.last.second + 60 * row.timeout) now ≡ late → is_pending (status_by c late) ≡ false → IsClosed row now
    by true late done e p = inl done
    by false true done e p = inr (grind (arith, nat_tests))
    by false false done e p = cc

reached : (until : Moment) (now : ℕ) → refuse_if (nat_lt now until.second) (Locked until) ≡ Ok tt → until.second ≤ now
reached until now e = let over = passes_by (nat_lt now until.second) (Locked until) e in grind (arith, nat_tests)

lock-over : (held : LockState) (now : ℕ) → refuse_locked (lock_until held) now ≡ Ok tt → IsLockOver held now
lock-over lock.None now e = tt
lock-over (lock.Governance until) now e = reached until now e
lock-over (lock.Compliance until cool_end) now e = reached until now e

module _ (m : Machine) (account : ℕ) (now : Moment) (key : SnapKey) where
  abbrev Deletes : Outcome → Type 0
  Deletes d = IsAccepted d.1 → (s : Snapshot) × MayDelete m account key now.second s

  abbrev Alters : Outcome → Type 0
  Alters d = IsAccepted d.1 → (s : Snapshot) × MayShare m account key s

  may-delete : (s : Snapshot) → fin.get (advance m now).snaps key ≡ Some s → own account key now.second s.row ≡ Ok tt → is_pending (status_at s.row now.second) ≡ false → refuse_locked (lock_until s.row.lock) now.second ≡ Ok tt
      → (old : Snapshot) × MayDelete m account key now.second old
  may-delete s is passes closed unlocked =
      let was = was-there m now key s is in
      let there = ap (λ (s : Snapshot). own account key now.second s.row) was.rests ∙ passes in
      let out = seen-out account key now.second was.old.row (first_ok (seen account key now.second was.old.row) _ there) in (
        was.old,
        record {
          is_there = was.is_there;
          owned = own-owned account key now.second was.old.row there;
          closed = closed-by was.old.row now.second (ap (λ (s : Snapshot). is_pending (status_at s.row now.second)) was.rests ∙ closed);
          lock_over = lock-over was.old.row.lock now.second (ap (λ (s : Snapshot). refuse_locked (lock_until s.row.lock) now.second) was.rests ∙ unlocked);
          not_binned = no_end was.old.row.bin_end now.second out was.ahead;
        },
      )

pub deletion-owner : DeletionIsForOwner
deletion-owner m account reading key =
    step-cases (Deletes m account (moment_at m reading) key) m account reading (DeleteSnapshot key)
    (λ s is passes closed unlocked. (λ none accepted. may-delete m account (moment_at m reading) key s is passes closed unlocked, λ days some accepted. may-delete m account (moment_at m reading) key s is passes closed unlocked))
    (λ refusal accepted. absurd (accepted refusal refl))

pub lock-owner : LockIsForOwner
lock-owner m account reading key mode term cool_hours =
    step-cases (Alters m account (moment_at m reading) key) m account reading (LockSnapshot key mode term cool_hours)
    (λ s new is passes changed accepted. may-share m account (moment_at m reading) key s is passes)
    (λ refusal accepted. absurd (accepted refusal refl))

pub unlock-owner : UnlockIsForOwner
unlock-owner m account reading key =
    step-cases (Alters m account (moment_at m reading) key) m account reading (UnlockSnapshot key)
    (λ s new is passes changed accepted. may-share m account (moment_at m reading) key s is passes)
    (λ refusal accepted. absurd (accepted refusal refl))

pub archive-owner : ArchiveIsForOwner
archive-owner m account reading key =
    step-cases (Alters m account (moment_at m reading) key) m account reading (ArchiveSnapshot key)
    (λ s new is passes changed accepted. may-share m account (moment_at m reading) key s is passes)
    (λ refusal accepted. absurd (accepted refusal refl))

pub restore-owner : RestoreIsForOwner
restore-owner m account reading key days =
    step-cases (Alters m account (moment_at m reading) key) m account reading (RestoreTier key days)
    (λ s new is passes changed accepted. may-share m account (moment_at m reading) key s is passes)
    (λ refusal accepted. absurd (accepted refusal refl))
