-- In which order the calls on rows are refused.
use Rattle.std.proofs.Common.{◌≡◌, ℕ, ◌^◌, Bool, true, false, not, ◌&&◌, ◌||◌, ◌==◌, cond, nat_le, nat_lt, List, [], ◌∷◌, ◌++◌, length, codes, Option, Some, None, Result, Ok, ap, ◌∙◌, refl}
use Rattle.std.specs.List.{list_any}
use Rattle.std.specs.FinMap as fin
use Rattle.sha2.specs.Sha256.{sha256}
use Rattle.ebs_model.specs.declared.keys.SnapKey.{SnapKey}
use Rattle.ebs_model.specs.declared.rows.SnapRow.{SnapRow}
use Rattle.ebs_model.specs.declared.lock.LockMode.{LockMode}
use Rattle.ebs_model.specs.declared.lock.Term.{Term}
use Rattle.ebs_model.specs.declared.lock.LockCommand.{LockCommand}
use Rattle.ebs_model.specs.declared.lock.LockCommand.TheVariants.{Lock, Unlock}
use Rattle.ebs_model.specs.declared.request.Request.TheVariants.{DescribeSnapshot, DescribeSnapshots, DeleteSnapshot, ModifyPermission, LockSnapshot, UnlockSnapshot, ArchiveSnapshot, RestoreTier}
use Rattle.ebs_model.specs.declared.answer.Answer.TheVariants.{SnapshotShown, Done, TierShown}
use Rattle.ebs_model.specs.declared.answer.Kind.TheVariants.{Snapshot as snapshot}
use Rattle.ebs_model.specs.declared.answer.StateName.TheVariants as state
use Rattle.ebs_model.specs.declared.answer.QuotaName.TheVariants.{SharedAccounts}
use Rattle.ebs_model.specs.declared.answer.Spent.TheVariants.{Changes}
use Rattle.ebs_model.specs.declared.answer.Refusal.{Refusal}
use Rattle.ebs_model.specs.declared.answer.Refusal.TheVariants.{BadParameter, WrongState, NotFound, NotOwner, Quota, Exhausted}
use Rattle.ebs_model.specs.Refuse.{◌>>=◌, ◌>>◌, refuse_if, some_or}
use Rattle.ebs_model.specs.Limits.{unless, are_accounts, are_apart, is_term, is_cool_off, is_restore}
use Rattle.ebs_model.specs.Time.{Snapshot, status_at, status_by, is_pending, is_completed, is_ahead, is_readable}
use Rattle.ebs_model.specs.Access.{owns, seen, own, done, state_of}
use Rattle.ebs_model.specs.Machine.{Machine, advance, is_spent, rows_of}
use Rattle.ebs_model.specs.Views.{view_of, lock_shown, lock_until, tier_shown, restore_until}
use Rattle.ebs_model.specs.Locks.{lock_change}
use Rattle.ebs_model.specs.Tiers as tiers
use Rattle.ebs_model.specs.Calls.Delete.{refuse_locked, days_in_bin}
use Rattle.ebs_model.specs.Calls.Lock.{changed_lock, lock_answer}
use Rattle.ebs_model.specs.Calls.Archive.{changed_tier}
use Rattle.ebs_model.specs.Calls.Permission.{permitted, permitted_row}
use Rattle.ebs_laws.specs.Words.{moment_at}
use Rattle.ebs_laws.specs.OrderLaws.{Tests, first_of, is_late, is_unknown}
use Rattle.ebs_laws.specs.RowOrders.{describe_tests, DescribeIsRefusedInOrder, own_list_tests, OwnListIsRefusedInOrder, owner_tests, permission_row_tests, permission_tests, PermissionIsRefusedInOrder, own_tests, lasting_tests, delete_tests, DeleteIsRefusedInOrder, compliance_tests, date_tests, lock_row_tests, lock_tests, LockIsRefusedInOrder, held_tests, unlock_tests, UnlockIsRefusedInOrder, archived_tests, archive_tests, ArchiveIsRefusedInOrder, is_standard, restore_row_tests, restore_tests, RestoreIsRefusedInOrder}
use Rattle.ebs_laws.proofs.Cases.{Outcome}
use Rattle.ebs_laws.proofs.Ordered.{refusal_in, one, bad, more, found, bin-same, tier-same, refused-so, change_test, spent}
use Rattle.ebs_laws.proofs.RowTests.{valued, pending-same, lasting-order, lock-order-of, held-order, archived-order, restored-order, term-same, cool-same, restore-same}
use Rattle.ebs_laws.proofs.Whole as whole

module _ (account : ℕ) (key : SnapKey) (now : ℕ) (row : SnapRow) where
  unknown-same : (is_ahead row.bin_end now || (not (owns account key) && not ((row.public || list_any (λ a. a == account) row.shared) && (row.completed && is_readable row.tier now)))) ≡ is_unknown account key now row
  unknown-same = λ i. bin-same row.bin_end now i || (not (account == key.account) && not ((row.public || list_any (λ a. a == account) row.shared) && (row.completed && tier-same row.tier now i)))

  pub seen-order : refusal_in (seen account key now row) ≡ first_of ((is_unknown account key now row, NotFound snapshot) ∷ [])
  seen-order =
      by (is_ahead row.bin_end now) (owns account key) row.public (list_any (λ a. a == account) row.shared) row.completed (is_late row now) (is_readable row.tier now)
      ∙ ap (λ b. first_of ((b, NotFound snapshot) ∷ [])) unknown-same
    where
      by : (b o p l c late t : Bool) → refusal_in (refuse_if b (NotFound snapshot) >> refuse_if (not o && not ((o || (p || l)) && (is_completed (status_by c late) && (not b && t)))) (NotFound snapshot))
          ≡ first_of ((b || (not o && not ((p || l) && (c && t))), NotFound snapshot) ∷ [])
      by true o p l c late t = refl
      by false true p l c late t = refl
      by false false true l true late true = refl
      by false false true l true late false = refl
      by false false true l false true t = refl
      by false false true l false false t = refl
      by false false false true true late true = refl
      by false false false true true late false = refl
      by false false false true false true t = refl
      by false false false true false false t = refl
      by false false false false c late t = refl

  pub done-order : refusal_in (done account key now row) ≡ first_of (owner_tests account key now row)
  done-order =
      by (is_ahead row.bin_end now) (owns account key) row.public (list_any (λ a. a == account) row.shared) row.completed (is_late row now) (is_readable row.tier now)
      ∙ ap (λ b. first_of ((b, NotFound snapshot) ∷ (not (owns account key), NotOwner) ∷ (not row.completed, WrongState (cond (is_late row now) state.Error state.Pending)) ∷ [])) unknown-same
    where
      by : (b o p l c late t : Bool) → refusal_in (((refuse_if b (NotFound snapshot) >> refuse_if (not o && not ((o || (p || l)) && (is_completed (status_by c late) && (not b && t)))) (NotFound snapshot)) >> refuse_if (not o) NotOwner)
          >> refuse_if (not (is_completed (status_by c late))) (WrongState (state_of (status_by c late))))
          ≡ first_of ((b || (not o && not ((p || l) && (c && t))), NotFound snapshot) ∷ (not o, NotOwner) ∷ (not c, WrongState (cond late state.Error state.Pending)) ∷ [])
      by true o p l c late t = refl
      by false true p l true late t = refl
      by false true p l false true t = refl
      by false true p l false false t = refl
      by false false true l true late true = refl
      by false false true l true late false = refl
      by false false true l false true t = refl
      by false false true l false false t = refl
      by false false false true true late true = refl
      by false false false true true late false = refl
      by false false false true false true t = refl
      by false false false true false false t = refl
      by false false false false c late t = refl

  own-order : refusal_in (own account key now row) ≡ first_of (own_tests account key now row)
  own-order =
      by (is_ahead row.bin_end now) (owns account key) row.public (list_any (λ a. a == account) row.shared) row.completed (is_late row now) (is_readable row.tier now)
      ∙ ap (λ b. first_of ((b, NotFound snapshot) ∷ (not (owns account key), NotOwner) ∷ [])) unknown-same
    where
      by : (b o p l c late t : Bool) → refusal_in ((refuse_if b (NotFound snapshot) >> refuse_if (not o && not ((o || (p || l)) && (is_completed (status_by c late) && (not b && t)))) (NotFound snapshot)) >> refuse_if (not o) NotOwner)
          ≡ first_of ((b || (not o && not ((p || l) && (c && t))), NotFound snapshot) ∷ (not o, NotOwner) ∷ [])
      by true o p l c late t = refl
      by false true p l c late t = refl
      by false false true l true late true = refl
      by false false true l true late false = refl
      by false false true l false true t = refl
      by false false true l false false t = refl
      by false false false true true late true = refl
      by false false false true true late false = refl
      by false false false true false true t = refl
      by false false false true false false t = refl
      by false false false false c late t = refl

module _ (at : Machine) (account : ℕ) where
  abbrev now : ℕ
  now = at.clock.second

  abbrev describe_rest : SnapKey → Snapshot → Result Outcome Refusal
  describe_rest key s = Ok (at, SnapshotShown false (view_of account now key s.row))

  describe-order : (key : SnapKey) → refusal_in (whole.call at account (DescribeSnapshot key)) ≡ first_of (describe_tests account now key (fin.get at.snaps key))
  describe-order key = by (fin.get at.snaps key)
    where
      by : (o : Option Snapshot) → refusal_in ((some_or o (NotFound snapshot) >>= λ s. seen account key now s.row >> Ok s) >>= describe_rest key) ≡ first_of (describe_tests account now key o)
      by None = refl
      by (Some s) = found (seen account key now s.row) s (describe_rest key) ((is_unknown account key now s.row, NotFound snapshot) ∷ []) [] (seen-order account key now s.row) refl

  own-list-order : (from most : ℕ) → refusal_in (whole.call at account (DescribeSnapshots from most)) ≡ first_of (own_list_tests from most)
  own-list-order from most =
      let all = whole.act sha256 at account (DescribeSnapshots from most) in
      bad (nat_lt from (2 ^ 28)) (codes "from") (unless (nat_le 1 most && nat_le most 1000) (codes "max") None) all ((not (nat_le 1 most && nat_le most 1000), BadParameter (codes "max")) ∷ [])
      (bad (nat_le 1 most && nat_le most 1000) (codes "max") None all [] refl)

  abbrev permission_rest : SnapKey → List ℕ → Bool → List ℕ → Bool → Snapshot → Result Outcome Refusal
  permission_rest key add add_all remove remove_all s =
      refuse_if (nat_lt 1000 (length (permitted s.row.shared add remove))) (Quota SharedAccounts 1000)
      >> (refuse_if (is_spent at) (Exhausted Changes) >> Ok (whole.with_snapshot at key (whole.rewritten (permitted_row add add_all remove remove_all s.row) s), Done))

  permission-order : (key : SnapKey) (add : List ℕ) (add_all : Bool) (remove : List ℕ) (remove_all : Bool)
      → refusal_in (whole.call at account (ModifyPermission key add add_all remove remove_all)) ≡ first_of (permission_tests at account now key add add_all remove remove_all (fin.get at.snaps key))
  permission-order key add add_all remove remove_all =
      let apart = are_accounts remove && (are_apart add remove && not (add_all && remove_all)) in
      let all = whole.permit at account key add add_all remove remove_all in
      let row_tests = permission_row_tests at account now key add remove (fin.get at.snaps key) in
      bad (are_accounts add) (codes "Add") (unless apart (codes "Remove") None) all ((not apart, BadParameter (codes "Remove")) ∷ row_tests)
      (bad apart (codes "Remove") None all row_tests (by (fin.get at.snaps key)))
    where
      by : (o : Option Snapshot) → refusal_in ((some_or o (NotFound snapshot) >>= λ s. done account key now s.row >> Ok s) >>= permission_rest key add add_all remove remove_all) ≡ first_of (permission_row_tests at account now key add remove o)
      by None = refl
      by (Some s) =
          let d : Outcome = (whole.with_snapshot at key (whole.rewritten (permitted_row add add_all remove remove_all s.row) s), Done) in
          let many = nat_lt 1000 (length (permitted s.row.shared add remove)) in
          found (done account key now s.row) s (permission_rest key add add_all remove remove_all) (owner_tests account key now s.row) ((many, Quota SharedAccounts 1000) ∷ change_test at account) (done-order account key now s.row)
          (one many (Quota SharedAccounts 1000) (refuse_if (is_spent at) (Exhausted Changes) >> Ok d) (change_test at account) (spent at account d))

  abbrev delete_rest : SnapKey → Snapshot → Result Outcome Refusal
  delete_rest key s =
      refuse_if (is_pending (status_at s.row now)) (WrongState state.Pending)
      >> (refuse_locked (lock_until s.row.lock) now >> (refuse_if (is_spent at) (Exhausted Changes) >> Ok (whole.deleted at key s (days_in_bin (rows_of at) key s.row), Done)))

  delete-order : (key : SnapKey) → refusal_in (whole.call at account (DeleteSnapshot key)) ≡ first_of (delete_tests at account now key (fin.get at.snaps key))
  delete-order key = by (fin.get at.snaps key)
    where
      by : (o : Option Snapshot) → refusal_in ((some_or o (NotFound snapshot) >>= λ s. own account key now s.row >> Ok s) >>= delete_rest key) ≡ first_of (delete_tests at account now key o)
      by None = refl
      by (Some s) =
          let d : Outcome = (whole.deleted at key s (days_in_bin (rows_of at) key s.row), Done) in
          let last : Tests = lasting_tests s.row.lock now ++ change_test at account in
          let change : Result Outcome Refusal = refuse_if (is_spent at) (Exhausted Changes) >> Ok d in
          found (own account key now s.row) s (delete_rest key) (own_tests account key now s.row) ((not s.row.completed && not (is_late s.row now), WrongState state.Pending) ∷ last) (own-order account key now s.row)
          (one (is_pending (status_at s.row now)) (WrongState state.Pending) (refuse_locked (lock_until s.row.lock) now >> change) last
          (more (refuse_locked (lock_until s.row.lock) now) change (lasting_tests s.row.lock now) (change_test at account) (lasting-order s.row.lock now) (spent at account d))
          ∙ ap (λ b. first_of ((b, WrongState state.Pending) ∷ last)) (pending-same s.row.completed (is_late s.row now)))

  abbrev lock_rest : SnapKey → LockCommand → Snapshot → Result Outcome Refusal
  lock_rest key command s =
      changed_lock (lock_change s.row.lock command now) >>= λ new. refuse_if (is_spent at) (Exhausted Changes)
      >> Ok (whole.with_snapshot at key (whole.rewritten (record s.row { lock = new }) s), lock_answer (lock_shown new now) (lock_until new))

  lock-found : (key : SnapKey) (command : LockCommand) (s : Snapshot) (tests : Tests) → refusal_in (changed_lock (lock_change s.row.lock command now)) ≡ first_of tests
      → refusal_in ((done account key now s.row >> Ok s) >>= lock_rest key command) ≡ first_of (owner_tests account key now s.row ++ (tests ++ change_test at account))
  lock-found key command s tests h =
      found (done account key now s.row) s (lock_rest key command) (owner_tests account key now s.row) (tests ++ change_test at account) (done-order account key now s.row)
      (valued (changed_lock (lock_change s.row.lock command now)) _ tests (change_test at account) h
      (λ new. spent at account (whole.with_snapshot at key (whole.rewritten (record s.row { lock = new }) s), lock_answer (lock_shown new now) (lock_until new))))

  lock-order : (key : SnapKey) (mode : LockMode) (term : Term) (cool_hours : Option ℕ)
      → refusal_in (whole.call at account (LockSnapshot key mode term cool_hours)) ≡ first_of (lock_tests at account now key mode term cool_hours (fin.get at.snaps key))
  lock-order key mode term cool_hours =
      let all = whole.lock at account key (Lock mode term cool_hours) in
      let row_tests = lock_row_tests at account now key mode term cool_hours (fin.get at.snaps key) in
      bad (is_term term) (codes "LockDuration") (unless (is_cool_off mode cool_hours) (codes "CoolOffPeriod") None) all ((not (is_cool_off mode cool_hours), BadParameter (codes "CoolOffPeriod")) ∷ row_tests)
      (bad (is_cool_off mode cool_hours) (codes "CoolOffPeriod") None all row_tests (by (fin.get at.snaps key)))
      ∙ (λ i. first_of ((not (term-same term i), BadParameter (codes "LockDuration")) ∷ (not (cool-same mode cool_hours i), BadParameter (codes "CoolOffPeriod")) ∷ row_tests))
    where
      by : (o : Option Snapshot) → refusal_in ((some_or o (NotFound snapshot) >>= λ s. done account key now s.row >> Ok s) >>= lock_rest key (Lock mode term cool_hours)) ≡ first_of (lock_row_tests at account now key mode term cool_hours o)
      by None = refl
      by (Some s) = lock-found key (Lock mode term cool_hours) s (compliance_tests s.row.lock mode term cool_hours now ++ date_tests term now) (lock-order-of s.row.lock mode term cool_hours now)

  unlock-order : (key : SnapKey) → refusal_in (whole.call at account (UnlockSnapshot key)) ≡ first_of (unlock_tests at account now key (fin.get at.snaps key))
  unlock-order key = by (fin.get at.snaps key)
    where
      by : (o : Option Snapshot) → refusal_in ((some_or o (NotFound snapshot) >>= λ s. done account key now s.row >> Ok s) >>= lock_rest key Unlock) ≡ first_of (unlock_tests at account now key o)
      by None = refl
      by (Some s) = lock-found key Unlock s (held_tests s.row.lock now) (held-order s.row.lock now)

  abbrev archive_rest : SnapKey → Snapshot → Result Outcome Refusal
  archive_rest key s =
      changed_tier (tiers.archive s.row.tier now) >>= λ new. refuse_if (is_spent at) (Exhausted Changes)
      >> Ok (whole.with_snapshot at key (whole.rewritten (record s.row { tier = new }) s), Done)

  archive-order : (key : SnapKey) → refusal_in (whole.call at account (ArchiveSnapshot key)) ≡ first_of (archive_tests at account now key (fin.get at.snaps key))
  archive-order key = by (fin.get at.snaps key)
    where
      by : (o : Option Snapshot) → refusal_in ((some_or o (NotFound snapshot) >>= λ s. done account key now s.row >> Ok s) >>= archive_rest key) ≡ first_of (archive_tests at account now key o)
      by None = refl
      by (Some s) =
          found (done account key now s.row) s (archive_rest key) (owner_tests account key now s.row) (archived_tests s.row.tier now ++ change_test at account) (done-order account key now s.row)
          (valued (changed_tier (tiers.archive s.row.tier now)) _ (archived_tests s.row.tier now) (change_test at account) (archived-order s.row.tier now)
          (λ new. spent at account (whole.with_snapshot at key (whole.rewritten (record s.row { tier = new }) s), Done)))

  abbrev restore_rest : SnapKey → Option ℕ → Snapshot → Result Outcome Refusal
  restore_rest key days s =
      changed_tier (tiers.restore s.row.tier days now) >>= λ new. refuse_if (is_spent at) (Exhausted Changes)
      >> Ok (whole.with_snapshot at key (whole.rewritten (record s.row { tier = new }) s), TierShown (restore_until new now) (tier_shown new now))

  restore-order : (key : SnapKey) (days : Option ℕ) → refusal_in (whole.call at account (RestoreTier key days)) ≡ first_of (restore_tests at account now key days (fin.get at.snaps key))
  restore-order key days =
      let row_tests = restore_row_tests at account now key (fin.get at.snaps key) in
      bad (is_restore days) (codes "TemporaryRestoreDays") None (whole.restore at account key days) row_tests (by (fin.get at.snaps key))
      ∙ ap (λ b. first_of ((not b, BadParameter (codes "TemporaryRestoreDays")) ∷ row_tests)) (restore-same days)
    where
      by : (o : Option Snapshot) → refusal_in ((some_or o (NotFound snapshot) >>= λ s. done account key now s.row >> Ok s) >>= restore_rest key days) ≡ first_of (restore_row_tests at account now key o)
      by None = refl
      by (Some s) =
          let standard : Tests = (is_standard s.row.tier, WrongState state.Standard) ∷ [] in
          found (done account key now s.row) s (restore_rest key days) (owner_tests account key now s.row) (standard ++ change_test at account) (done-order account key now s.row)
          (valued (changed_tier (tiers.restore s.row.tier days now)) _ standard (change_test at account) (restored-order s.row.tier days now)
          (λ new. spent at account (whole.with_snapshot at key (whole.rewritten (record s.row { tier = new }) s), TierShown (restore_until new now) (tier_shown new now))))

pub describe-refused : DescribeIsRefusedInOrder
describe-refused m account reading key = let at = advance m (moment_at m reading) in refused-so at account (DescribeSnapshot key) (describe_tests account at.clock.second key (fin.get at.snaps key)) (describe-order at account key)

pub own-list-refused : OwnListIsRefusedInOrder
own-list-refused m account reading from most = let at = advance m (moment_at m reading) in refused-so at account (DescribeSnapshots from most) (own_list_tests from most) (own-list-order at account from most)

pub permission-refused : PermissionIsRefusedInOrder
permission-refused m account reading key add add_all remove remove_all =
    let at = advance m (moment_at m reading) in
    refused-so at account (ModifyPermission key add add_all remove remove_all) (permission_tests at account at.clock.second key add add_all remove remove_all (fin.get at.snaps key)) (permission-order at account key add add_all remove remove_all)

pub delete-refused : DeleteIsRefusedInOrder
delete-refused m account reading key = let at = advance m (moment_at m reading) in refused-so at account (DeleteSnapshot key) (delete_tests at account at.clock.second key (fin.get at.snaps key)) (delete-order at account key)

pub unlock-refused : UnlockIsRefusedInOrder
unlock-refused m account reading key = let at = advance m (moment_at m reading) in refused-so at account (UnlockSnapshot key) (unlock_tests at account at.clock.second key (fin.get at.snaps key)) (unlock-order at account key)

pub archive-refused : ArchiveIsRefusedInOrder
archive-refused m account reading key = let at = advance m (moment_at m reading) in refused-so at account (ArchiveSnapshot key) (archive_tests at account at.clock.second key (fin.get at.snaps key)) (archive-order at account key)

pub lock-refused : LockIsRefusedInOrder
lock-refused m account reading key mode term cool_hours =
    let at = advance m (moment_at m reading) in
    refused-so at account (LockSnapshot key mode term cool_hours) (lock_tests at account at.clock.second key mode term cool_hours (fin.get at.snaps key)) (lock-order at account key mode term cool_hours)

pub restore-refused : RestoreIsRefusedInOrder
restore-refused m account reading key days =
    let at = advance m (moment_at m reading) in refused-so at account (RestoreTier key days) (restore_tests at account at.clock.second key days (fin.get at.snaps key)) (restore-order at account key days)
