-- What a snapshot that was withdrawn from an account is to it.
use Rattle.std.proofs.Common.{◌≡◌, ◌≢◌, ◌⊎◌, inl, inr, ℕ, Bool, true, false, not, ◌&&◌, ◌||◌, ◌==◌, List, [], Option, Some, None, Ok, Err, sym, ap, subst, ◌∙◌, refl}
use Rattle.std.specs.List.{list_any}
use Rattle.std.specs.FinMap as fin
use Rattle.ebs_model.specs.declared.keys.SnapKey.{SnapKey}
use Rattle.ebs_model.specs.declared.keys.Moment.{Moment}
use Rattle.ebs_model.specs.declared.rows.SnapRow.{SnapRow}
use Rattle.ebs_model.specs.declared.request.Request.{Request}
use Rattle.ebs_model.specs.declared.request.Request.TheVariants.{StartSnapshot, PutSnapshotBlock, CompleteSnapshot, ListSnapshotBlocks, ListChangedBlocks, GetSnapshotBlock, DescribeSnapshot, DeleteSnapshot, ModifyPermission, LockSnapshot, UnlockSnapshot, ArchiveSnapshot, RestoreTier, CreateVolume, RestoreFromBin}
use Rattle.ebs_model.specs.declared.answer.Kind.TheVariants.{Snapshot as snapshot}
use Rattle.ebs_model.specs.declared.answer.Refusal.TheVariants.{NotFound}
use Rattle.ebs_model.specs.inner.Orders.{snaps_total, exact_snaps}
use Rattle.ebs_model.specs.Time.{Snapshot, is_ahead}
use Rattle.ebs_model.specs.Access.{owns, seen, ready}
use Rattle.ebs_model.specs.Calls.Bin.{binned}
use Rattle.ebs_model.specs.Refuse.{◌>>◌, refuse_if}
use Rattle.ebs_model.specs.Machine.{Machine, advance, rows_of, snap_rows, disk_of}
use Rattle.ebs_model.specs.Calls.Permission.{permitted_row}
use Rattle.ebs_model.specs.Decide.{decide}
use Rattle.ebs_model.proofs.RowLaws.{get-row}
use Rattle.ebs_laws.specs.Words.{moment_at, IsShown, is_repeat}
use Rattle.ebs_laws.proofs.Uses.{repeat-aged, none-used, fresh-unused}
use Rattle.ebs_laws.specs.Uploads.{put}
use Rattle.ebs_laws.specs.SharingLaws.{is_among}
use Rattle.ebs_laws.specs.ShownLaws.{IsHidden}
use Rattle.ebs_laws.specs.HiddenLaws.{RemovedIsHidden, AddsTo, HiddenStays, AsksRestore, Names, HiddenIsRefused, HiddenIsNotCompared}
use Rattle.ebs_laws.proofs.Maps.{get-itself, get-other, by_key, was-left}
use Rattle.ebs_laws.proofs.Cases.{Outcome, Accepted, step-cases}
use Rattle.ebs_laws.proofs.Others.{others}
use Rattle.ebs_laws.proofs.Acts.{row-there}
use Rattle.ebs_laws.proofs.Alone.{refuses}
use Rattle.ebs_laws.proofs.OwnRows.{row_found}
use Rattle.ebs_laws.proofs.Permitted.{among-permitted, sharing-so}
use Rattle.ebs_laws.proofs.Readers.{was-there, read-there, same_number}
use Rattle.ebs_laws.proofs.Views.{seen-hidden}
use Rattle.ebs_laws.proofs.Whole.{rewritten, completed, new_row}
use Rattle.ebs_laws.proofs.PolicyRuns.{left-each}

false_true : false ≡ true → ⊥
false_true e = cc

either : (a b c : Bool) → ((a || b) && c) ≡ true → (a ≡ true) ⊎ (b ≡ true)
either true b c e = inl refl
either false true c e = inr refl
either false false c e = cc

removed : (a b : Bool) → (a && not b) ≡ true → b ≡ true → ⊥
removed true true e h = false_true e
removed false b e h = false_true e
removed true false e h = false_true h

pub removed-hidden : RemovedIsHidden
removed-hidden m account reading key add add_all remove remove_all other done gone apart private new is shown =
    let so = sharing-so m account reading key add add_all remove remove_all done in
    let there : Some (record { row = so.row; array = so.found.array }) ≡ Some new = sym so.is_there ∙ is in
    let row_is : so.row ≡ new.row = rows there in
    by (is_among other so.found.row.shared) (is_among other add) (sym (ap (λ (row : SnapRow). is_among other row.shared) row_is) ∙ so.members other) (private new is) shown
  where
    rows : {row : SnapRow} {s : Snapshot} {array : _} → Some (record { row = row; array = array }) ≡ Some s → row ≡ s.row
    rows e = cc

    by : (old added : Bool) → is_among other new.row.shared ≡ ((old || added) && not (is_among other remove)) → new.row.public ≡ false → IsShown other key new.row → ⊥
    by old added members closed (inl mine) = apart mine
    by old added members closed (inr (inl listed)) = removed (old || added) (is_among other remove) (sym members ∙ listed) gone
    by old added members closed (inr (inr open_to_all)) = false_true (sym closed ∙ open_to_all)

module _ (account : ℕ) (key : SnapKey) (other : account ≢ key.account) where
  -- nobody's by the same list
  hidden-same : (old new : SnapRow) → new.shared ≡ old.shared → new.public ≡ old.public → (IsShown account key old → ⊥) → IsShown account key new → ⊥
  hidden-same old new shared public h (inl mine) = h (inl mine)
  hidden-same old new shared public h (inr (inl listed)) = h (inr (inl (ap (λ l. list_any (λ a. a == account) l) (sym shared) ∙ listed)))
  hidden-same old new shared public h (inr (inr all)) = h (inr (inr (sym public ∙ all)))

  pub hidden-aged : (m : Machine) (now : Moment) → IsHidden m account key → IsHidden (advance m now) account key
  hidden-aged m now h s is =
      let was = was-there m now key s is in
      hidden-same was.old.row s.row (ap (λ (s : Snapshot). s.row.shared) (sym was.rests)) (ap (λ (s : Snapshot). s.row.public) (sym was.rests)) (h was.old was.is_there)

  module _ (m : Machine) (h : IsHidden m account key) where
    hidden-insert : (k : SnapKey) (t : Snapshot) → (key ≡ k → IsShown account key t.row → ⊥) → (s : Snapshot) → fin.get (fin.insert m.snaps k t) key ≡ Some s → IsShown account key s.row → ⊥
    hidden-insert k t new s is = by_key snaps_total exact_snaps (IsShown account key s.row → ⊥) key k
        (λ same. let there : Some t ≡ Some s = sym (ap (fin.get (fin.insert m.snaps k t)) same ∙ get-itself snaps_total exact_snaps m.snaps k t) ∙ is in subst (λ (s : Snapshot). IsShown account key s.row → ⊥) (only there) (new same))
        (λ apart. h s (sym (get-other snaps_total exact_snaps m.snaps k t key apart) ∙ is))
      where
        only : {t s : Snapshot} → Some t ≡ Some s → t ≡ s
        only e = cc

    was-hidden : (k : SnapKey) (s : Snapshot) → fin.get m.snaps k ≡ Some s → key ≡ k → IsShown account key s.row → ⊥
    was-hidden k s is same = h s (ap (fin.get m.snaps) same ∙ is)

    abbrev Hides : Request → Outcome → Type 0
    Hides request d = (AddsTo account key request → ⊥) → IsHidden d.0 account key

    -- a new row is shown to its owner alone
    unshared : (account ≡ key.account) ⊎ ((list_any (λ a. a == account) [] ≡ true) ⊎ (false ≡ true)) → ⊥
    unshared (inl mine) = other mine
    unshared (inr (inl listed)) = false_true listed
    unshared (inr (inr all)) = false_true all

    hides : (caller : ℕ) (request : Request) → Accepted (Hides request) m caller request
    hides caller (StartSnapshot size parent description tags token timeout) = (λ from tests none. hidden-insert _ (record { row = _; array = from.array }) (λ same. unshared), λ row tests none. h)
    hides caller (PutSnapshotBlock k index digest bytes) = λ s is passes tests none. hidden-insert k (put s m.clock m.stamps index bytes) (was-hidden k s is)
    hides caller (CompleteSnapshot k count checksum) = λ s is passes tests none. hidden-insert k (completed s) (was-hidden k s is)
    hides caller (ModifyPermission k add add_all remove remove_all) = λ s is passes few none. hidden-insert k (rewritten (permitted_row add add_all remove remove_all s.row) s) (λ same. by s (was-hidden k s is same) (λ added. none (sym same, added)))
      where
        by : (s : Snapshot) → (IsShown account key s.row → ⊥) → (((is_among account add ≡ true) ⊎ (add_all ≡ true)) → ⊥) → IsShown account key (permitted_row add add_all remove remove_all s.row) → ⊥
        by s old none (inl mine) = other mine
        by s old none (inr (inl listed)) = one (either (is_among account s.row.shared) (is_among account add) _ (sym (among-permitted s.row.shared add remove account) ∙ listed))
          where
            one : (is_among account s.row.shared ≡ true) ⊎ (is_among account add ≡ true) → ⊥
            one (inl was) = old (inr (inl was))
            one (inr new) = none (inl new)
        by s old none (inr (inr all)) = one (either s.row.public add_all _ all)
          where
            one : (s.row.public ≡ true) ⊎ (add_all ≡ true) → ⊥
            one (inl was) = old (inr (inr was))
            one (inr new) = none (inr new)
    hides caller request = others (Hides request) m caller request (λ answer says none. h)
        (λ k s row answer is same says none. hidden-insert k (rewritten row s) (λ one. hidden-same s.row row (same.sharing_is (λ e. e)).0 (same.sharing_is (λ e. e)).1 (was-hidden k s is one)))
        (λ k s answer is same says none x e. h x (was-left snaps_total (λ o. o) refl m.snaps k key x e)) (λ k row array token answer is says none. h) (λ k row answer there is says none. h) (λ v row text tags is made none. hidden-insert _ (record { row = new_row m caller v row text tags; array = disk_of m v }) (λ same. unshared)) (λ v row i digest bytes is asked none. h) (λ command change answer is says none. h)
        (λ snaps own policies answer is says none. left-each m caller own key (λ s. IsShown account key s.row → ⊥) h (λ s new. subst (λ (row : SnapRow). IsShown account key row → ⊥) (sym new.row_is) unshared)
        (λ s row mine alters was. hidden-same s.row row (ap (λ (r : SnapRow). r.shared) alters) (ap (λ (r : SnapRow). r.public) alters) was) (fin.get snaps key) (is.leaves key))

pub hidden-stays : HiddenStays
hidden-stays m caller reading request account key h other =
    let at = advance m (moment_at m reading) in
    let aged = hidden-aged account key other m (moment_at m reading) h in
    step-cases (Hides account key other at aged request) m caller reading request (hides account key other at aged caller request) (λ refusal none. aged)

-- the rows of a machine at its moment: one that is hidden isn't seen
module _ (at : Machine) (account : ℕ) where
  abbrev pub IsUnseen : SnapKey → Type 0
  IsUnseen key = (row : SnapRow) → fin.get (snap_rows at.snaps) key ≡ Some row → seen account key at.clock.second row ≡ Err (NotFound snapshot)

  pub by-row : (P : Type 0) (key : SnapKey) → IsUnseen key → (fin.get (snap_rows at.snaps) key ≡ None → P) → ((row : SnapRow) → fin.get (snap_rows at.snaps) key ≡ Some row → seen account key at.clock.second row ≡ Err (NotFound snapshot) → P) → P
  by-row P key unseen none some = by (fin.get (snap_rows at.snaps) key) refl
    where
      by : (o : Option SnapRow) → fin.get (snap_rows at.snaps) key ≡ o → P
      by None is = none is
      by (Some row) is = some row is (unseen row is)

  abbrev pub Declines : Request → Type 0
  Declines request = decide (rows_of at) at.clock account request ≡ Err (NotFound snapshot)

  at-key : (key k : SnapKey) → k ≡ key → IsUnseen key → IsUnseen k
  at-key key k same = subst IsUnseen (sym same)

  -- nor is it found in the bin
  abbrev pub IsNotBinned : SnapKey → Type 0
  IsNotBinned key = (row : SnapRow) → fin.get (snap_rows at.snaps) key ≡ Some row → binned account key at.clock.second row ≡ Err (NotFound snapshot)

  pub declines : (request : Request) (key : SnapKey) → Names key request → is_repeat at account request ≡ false → IsUnseen key → (AsksRestore request → IsNotBinned key) → Declines request
  declines (StartSnapshot size None description tags token timeout) key same fresh h away = absurd (cc)
  declines (StartSnapshot size (Some k) description tags token timeout) key same fresh h away =
      let one : k ≡ key = cc in
      let unused = fresh-unused at account size (Some k) description tags token timeout fresh in
      by-row (Declines (StartSnapshot size (Some k) description tags token timeout)) k (at-key key k one h) (λ is. rw (unused, is) refl) (λ row is refuses. rw (unused, is, refuses) refl)
  declines (PutSnapshotBlock k index digest bytes) key same fresh h away = by-row (Declines (PutSnapshotBlock k index digest bytes)) k (at-key key k same h) (λ is. rw is refl) (λ row is refuses. rw (is, refuses) refl)
  declines (CompleteSnapshot k count checksum) key same fresh h away = by-row (Declines (CompleteSnapshot k count checksum)) k (at-key key k same h) (λ is. rw is refl) (λ row is refuses. rw (is, refuses) refl)
  declines (ListSnapshotBlocks k page most start) key same fresh h away = by-row (Declines (ListSnapshotBlocks k page most start)) k (at-key key k same h) (λ is. rw is refl) (λ row is refuses. rw (is, refuses) refl)
  declines (ListChangedBlocks k second page most start) key same fresh h away = by-row (Declines (ListChangedBlocks k second page most start)) k (at-key key k same h) (λ is. rw is refl) (λ row is refuses. rw (is, refuses) refl)
  declines (GetSnapshotBlock k index token) key same fresh h away = by-row (Declines (GetSnapshotBlock k index token)) k (at-key key k same h) (λ is. rw is refl) (λ row is refuses. rw (is, refuses) refl)
  declines (DescribeSnapshot k) key same fresh h away = by-row (Declines (DescribeSnapshot k)) k (at-key key k same h) (λ is. rw is refl) (λ row is refuses. rw (is, refuses) refl)
  declines (ModifyPermission k add add_all remove remove_all) key same fresh h away = by-row (Declines (ModifyPermission k add add_all remove remove_all)) k (at-key key k same h) (λ is. rw is refl) (λ row is refuses. rw (is, refuses) refl)
  declines (DeleteSnapshot k) key same fresh h away = by-row (Declines (DeleteSnapshot k)) k (at-key key k same h) (λ is. rw is refl) (λ row is refuses. rw (is, refuses) refl)
  declines (LockSnapshot k mode term cool_hours) key same fresh h away = by-row (Declines (LockSnapshot k mode term cool_hours)) k (at-key key k same h) (λ is. rw is refl) (λ row is refuses. rw (is, refuses) refl)
  declines (UnlockSnapshot k) key same fresh h away = by-row (Declines (UnlockSnapshot k)) k (at-key key k same h) (λ is. rw is refl) (λ row is refuses. rw (is, refuses) refl)
  declines (ArchiveSnapshot k) key same fresh h away = by-row (Declines (ArchiveSnapshot k)) k (at-key key k same h) (λ is. rw is refl) (λ row is refuses. rw (is, refuses) refl)
  declines (RestoreTier k days) key same fresh h away = by-row (Declines (RestoreTier k days)) k (at-key key k same h) (λ is. rw is refl) (λ row is refuses. rw (is, refuses) refl)
  declines (CreateVolume None size tags token) key same fresh h away = absurd (cc)
  declines (CreateVolume (Some k) size tags token) key same fresh h away =
      let one : k ≡ key = cc in
      let unused = none-used at account token fresh in
      by-row (Declines (CreateVolume (Some k) size tags token)) k (at-key key k one h) (λ is. rw (unused, is) refl) (λ row is refuses. rw (unused, is, refuses) refl)
  declines (RestoreFromBin k) key same fresh h away = by (fin.get (snap_rows at.snaps) k) refl
    where
      by : (o : Option SnapRow) → fin.get (snap_rows at.snaps) k ≡ o → Declines (RestoreFromBin k)
      by None is = rw is refl
      by (Some row) is = let refuses = subst IsNotBinned (sym same) (away tt) row is in rw (is, refuses) refl
  declines request key same fresh h away = absurd same

pub unseen-at : (m : Machine) (account : ℕ) (now : Moment) (key : SnapKey) → IsHidden m account key → IsUnseen (advance m now) account key
unseen-at m account now key h row is =
    let (s, there, same) = row_found (fin.get (advance m now).snaps key) row (sym (get-row (advance m now).snaps key) ∙ is) in
    ap (seen account key now.second) (sym same) ∙ seen-hidden m account now key h s there

-- who isn't the owner finds nothing in the bin
pub others-bin : (account : ℕ) (key : SnapKey) (now : ℕ) (row : SnapRow) → account ≢ key.account → binned account key now row ≡ Err (NotFound snapshot)
others-bin account key now row other = by (owns account key) refl
  where
    by : (b : Bool) → owns account key ≡ b → (refuse_if (not b) (NotFound snapshot) >> refuse_if (not (is_ahead row.bin_end now)) (NotFound snapshot)) ≡ Err (NotFound snapshot)
    by true mine = absurd (other (same_number account key.account mine))
    by false none = refl

pub hidden-not-binned : (m : Machine) (account : ℕ) (now : Moment) (key : SnapKey) → IsHidden m account key → IsNotBinned (advance m now) account key
hidden-not-binned m account now key h row is =
    let (s, there, same) = row_found (fin.get (advance m now).snaps key) row (sym (get-row (advance m now).snaps key) ∙ is) in
    let was = was-there m now key s there in
    others-bin account key now.second row (λ mine. h was.old was.is_there (inl mine))

pub hidden-refused : HiddenIsRefused
hidden-refused m account reading request key h names fresh good size digest =
    let now = moment_at m reading in
    refuses (advance m now) account request (NotFound snapshot) good size digest (declines (advance m now) account request key names (repeat-aged m now account request ∙ fresh) (unseen-at m account now key h) (λ asks. hidden-not-binned m account now key h))

module _ (at : Machine) (account : ℕ) (first second : SnapKey) (page : Option (List ℕ)) (most start : ℕ) where
  pub not-compared : (a : Snapshot) → fin.get at.snaps first ≡ Some a → ready account first at.clock.second a.row ≡ Ok tt → IsUnseen at account second → Declines at account (ListChangedBlocks first second page most start)
  not-compared a is passes h =
      let there = row-there at first a is in
      by-row at account (Declines at account (ListChangedBlocks first second page most start)) second h (λ none. rw (there, passes, none) refl) (λ row found refused. rw (there, passes, found, refused) refl)

pub hidden-not-compared : HiddenIsNotCompared
hidden-not-compared m account reading first second page most start a may h fits digits =
    let now = moment_at m reading in
    let (is, passes) = read-there m account now first a may in
    refuses (advance m now) account (ListChangedBlocks first second page most start) (NotFound snapshot) (rw (fits, digits) refl) refl refl (not-compared (advance m now) account first second page most start a is passes (unseen-at m account now second h))
