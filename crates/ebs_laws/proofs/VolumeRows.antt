-- What calls do to volumes.
use Rattle.std.proofs.Common.{◌≡◌, ◌≢◌, ℕ, ◌+◌, ◌≤◌, ◌<◌, false, List, [], ◌∷◌, Option, Some, None, unwrap_or, sym, ap, subst, ◌∙◌, refl, arith}
use Rattle.std.specs.FinMap as fin
use Rattle.std.specs.FinMap.{nat_cmp-IsAntisymmetric}
use Rattle.std.specs.Cmp.{nat_cmp_total}
use Rattle.ebs_model.specs.declared.keys.VolKey.{VolKey}
use Rattle.ebs_model.specs.declared.rows.Own.{Own}
use Rattle.ebs_model.specs.declared.rows.VolRow.{VolRow}
use Rattle.ebs_model.specs.declared.request.Request.{Request}
use Rattle.ebs_model.specs.Time.{Snapshot}
use Rattle.ebs_model.specs.declared.request.Request.TheVariants.{StartSnapshot, PutSnapshotBlock, CompleteSnapshot, CreateVolume}
use Rattle.ebs_model.specs.Keys.{vol_cmp, snap_cmp, policy_cmp}
use Rattle.ebs_model.specs.inner.Orders.{vols_total, exact_vols}
use Rattle.ebs_model.specs.Arrays.{WholeArray}
use Rattle.ebs_model.specs.Machine.{Machine, advance, empty_machine}
use Rattle.ebs_model.specs.Timed.{Timed, turn, after_all}
use Rattle.ebs_laws.specs.Words.{moment_at, created_id, is_repeat, volume_number_in, next_volume_number}
use Rattle.ebs_laws.specs.AccessLaws.{IsAccepted, OthersChangeNoVolume}
use Rattle.ebs_laws.specs.VolumeLaws.{VolumesGiven, VolumesStayGiven, RunsGiveVolumes, AsksDeletion, VolumeStays, VolumeNumbersNeverFall, CreatedIdsDiffer}
use Rattle.ebs_laws.proofs.Cases.{Outcome, Accepted, step-cases}
use Rattle.ebs_laws.proofs.Given.{kept_by_run}
use Rattle.ebs_laws.proofs.Others.{others, IsManaged, managed-vols}
use Rattle.ebs_laws.proofs.Maps.{get-itself, get-other, get-left, by_key, was-left}
use Rattle.ebs_laws.proofs.Uses.{repeat-aged, none-used, unused-clash}
use Rattle.ebs_laws.proofs.VolumeOrder.{volume-numbered}
use Rattle.ebs_laws.proofs.Whole.{own_of, next_volume, volume_row, created}
use Rattle.std.specs.Ordering.{nat_cmp}
use Rattle.ebs_model.specs.declared.policy.Policy.{Policy}

-- another's volumes stay
module _ (m : Machine) (account : ℕ) (key : VolKey) (other : key.account ≢ account) where
  abbrev SameVolume : Outcome → Type 0
  SameVolume d = fin.get d.0.vols key ≡ fin.get m.vols key

  volume-accepted : (request : Request) → Accepted SameVolume m account request
  volume-accepted (StartSnapshot size parent text tags token timeout) = (λ from tests. refl, λ row tests. refl)
  volume-accepted (PutSnapshotBlock k index digest bytes) = λ s is passes tests. refl
  volume-accepted (CompleteSnapshot k count checksum) = λ s is passes tests. refl
  volume-accepted request = others SameVolume m account request (λ answer says. refl) (λ k s row answer is same says. refl) (λ k s answer is same says. refl)
      (λ v row array token answer is says. get-other vols_total exact_vols m.vols v row key (λ e. other (ap (λ (k : VolKey). k.account) (e ∙ is.key_is))))
      (λ v row answer there is says. get-left vols_total exact_vols m.vols v key (λ e. other (ap (λ (k : VolKey). k.account) e ∙ sym is.owned))) (λ v row text tags is made. refl) (λ v row i digest bytes is asked. refl) (λ command change answer is says. refl) (λ snaps own policies answer is says. refl)

pub others-volumes : OthersChangeNoVolume
others-volumes m account reading request key other =
    let at = advance m (moment_at m reading) in
    step-cases (SameVolume at account key other) m account reading request (volume-accepted at account key other request) (λ refusal. refl)

-- numbers of volumes are given out in ascending order, and none comes back
module _ (m : Machine) where
  abbrev Above : ℕ → Outcome → Type 0
  Above account d = next_volume_number m account ≤ next_volume_number d.0 account

  -- a start leaves the numbers of volumes
  pub started-same : (caller : ℕ) (own : Own) → own.next_vol ≡ (own_of m caller).next_vol → (a : ℕ) → volume_number_in (fin.get (fin.insert m.own caller own) a) ≡ next_volume_number m a
  started-same caller own same a = by_key nat_cmp_total nat_cmp-IsAntisymmetric (volume_number_in (fin.get (fin.insert m.own caller own) a) ≡ next_volume_number m a) a caller
      (λ one. ap (λ a. volume_number_in (fin.get (fin.insert m.own caller own) a)) one ∙ ap volume_number_in (get-itself nat_cmp_total nat_cmp-IsAntisymmetric m.own caller own) ∙ same ∙ sym (volume-numbered (fin.get m.own caller)) ∙ ap (next_volume_number m) (sym one))
      (λ other. ap volume_number_in (get-other nat_cmp_total nat_cmp-IsAntisymmetric m.own caller own a other))

  -- a creation raises its account's number by one, and no other
  raised : (caller : ℕ) (key : VolKey) (row : VolRow) (array : WholeArray) (token : Option (List ℕ)) → key ≡ next_volume m caller → (a : ℕ) → next_volume_number m a ≤ next_volume_number (created m key row array token) a
  raised caller key row array token is a =
      let own : Own = record (own_of m key.account) { next_vol = key.number + 1 } in
      let was = volume-numbered (fin.get m.own key.account) in
      let number : key.number ≡ (own_of m key.account).next_vol = ap (λ (k : VolKey). k.number) is ∙ ap (λ a. (own_of m a).next_vol) (sym (ap (λ (k : VolKey). k.account) is)) in
      by_key nat_cmp_total nat_cmp-IsAntisymmetric (next_volume_number m a ≤ next_volume_number (created m key row array token) a) a key.account
      (λ one. let old = ap (next_volume_number m) one in let new = ap (next_volume_number (created m key row array token)) one ∙ ap volume_number_in (get-itself nat_cmp_total nat_cmp-IsAntisymmetric m.own key.account own) in omega (arith, old, new, was, number))
      (λ other. let same = ap volume_number_in (get-other nat_cmp_total nat_cmp-IsAntisymmetric m.own key.account own a other) in omega (arith, same))

  -- its own number is below the next one
  reached : (caller : ℕ) (key : VolKey) (row : VolRow) (array : WholeArray) (token : Option (List ℕ)) → key.number < next_volume_number (created m key row array token) key.account
  reached caller key row array token =
      let own : Own = record (own_of m key.account) { next_vol = key.number + 1 } in
      let new : next_volume_number (created m key row array token) key.account ≡ key.number + 1 = ap volume_number_in (get-itself nat_cmp_total nat_cmp-IsAntisymmetric m.own key.account own) in
      omega (arith, new)

  -- neither a policy nor its runs change the numbers of volumes
  managed-same : (caller : ℕ) (request : Request) (snaps : fin.FinMap snap_cmp Snapshot) (own : fin.FinMap nat_cmp Own) (policies : fin.FinMap policy_cmp Policy) → IsManaged m caller request snaps own policies → (a : ℕ) → volume_number_in (fin.get own a) ≡ next_volume_number m a
  managed-same caller request snaps own policies is a =
      let same = managed-vols m caller request snaps own policies is a in
      let was = volume-numbered (fin.get m.own a) in
      let now = volume-numbered (fin.get own a) in
      omega (arith, same, was, now)

  above-accepted : (account caller : ℕ) (request : Request) → Accepted (Above account) m caller request
  above-accepted account caller (StartSnapshot size parent text tags token timeout) = (
    λ from tests. let same = started-same caller (record (own_of m caller) { next_snap = (own_of m caller).next_snap + 1 }) refl account in omega (arith, same),
    λ row tests. omega arith,
  )
  above-accepted account caller (PutSnapshotBlock k index digest bytes) = λ s is passes tests. omega arith
  above-accepted account caller (CompleteSnapshot k count checksum) = λ s is passes tests. omega arith
  above-accepted account caller request = others (Above account) m caller request (λ answer says. omega arith) (λ k s row answer is same says. omega arith) (λ k s answer is same says. omega arith)
      (λ v row array token answer is says. raised caller v row array token is.key_is account) (λ v row answer there is says. omega arith) (λ v row text tags is made. let same = started-same caller (record (own_of m caller) { next_snap = (own_of m caller).next_snap + 1 }) refl account in omega (arith, same)) (λ v row i digest bytes is asked. omega arith) (λ command change answer is says. omega arith)
      (λ snaps own policies answer is says. let same = managed-same caller request snaps own policies is account in omega (arith, same))

  -- an id that is given out is the caller's next, and the next number is above it afterwards
  abbrev Gives : ℕ → Request → VolKey → Outcome → Type 0
  Gives caller request key d = is_repeat m caller request ≡ false → created_id d.1 ≡ Some key → (key.number ≡ next_volume_number m key.account) × (key.number < next_volume_number d.0 key.account)

  nothing : {key : VolKey} → None ≡ Some key → ⊥
  nothing e = cc

  gives-accepted : (key : VolKey) (caller : ℕ) (request : Request) → Accepted (Gives caller request key) m caller request
  gives-accepted key caller (StartSnapshot size parent text tags token timeout) = (λ from tests fresh e. absurd (nothing e), λ row tests fresh e. absurd (nothing e))
  gives-accepted key caller (PutSnapshotBlock k index digest bytes) = λ s is passes tests fresh e. absurd (nothing e)
  gives-accepted key caller (CompleteSnapshot k count checksum) = λ s is passes tests fresh e. absurd (nothing e)
  gives-accepted key caller (CreateVolume from size tags token) = (
    λ begun tests fresh e.
        let given = next_volume m caller in
        let row = volume_row given (unwrap_or size begun.size) begun.line from tags in
        subst (λ (k : VolKey). (k.number ≡ next_volume_number m k.account) × (k.number < next_volume_number (created m given row begun.array token) k.account)) (only_key e)
        (sym (volume-numbered (fin.get m.own caller)), reached caller given row begun.array token),
    λ row tests fresh e. absurd (unused-clash m caller token row (none-used m caller token fresh) tests.used),
  )
    where
      only_key : {a b : VolKey} → Some a ≡ Some b → a ≡ b
      only_key e = cc
  gives-accepted key caller request = others (Gives caller request key) m caller request
      (λ answer says fresh e. absurd (nothing (sym (says.creates_none (λ a. a)) ∙ e)))
      (λ k s row answer is same says fresh e. absurd (nothing (sym (says.creates_none (λ a. a)) ∙ e)))
      (λ k s answer is same says fresh e. absurd (nothing (sym (says.creates_none (λ a. a)) ∙ e)))
      (λ v row array token answer is says fresh e. absurd (nothing (sym (says.creates_none (λ a. a)) ∙ e)))
      (λ v row answer there is says fresh e. absurd (nothing (sym (says.creates_none (λ a. a)) ∙ e))) (λ v row text tags is made fresh e. absurd (nothing e)) (λ v row i digest bytes is asked fresh e. absurd (nothing e)) (λ command change answer is says fresh e. absurd (nothing (sym (says.creates_none (λ a. a)) ∙ e))) (λ snaps own policies answer is says fresh e. absurd (nothing (sym (says.creates_none (λ a. a)) ∙ e)))

  -- each volume's number was given out
  given-accepted : VolumesGiven m → (caller : ℕ) (request : Request) → Accepted (λ d. VolumesGiven d.0) m caller request
  given-accepted h caller (StartSnapshot size parent text tags token timeout) = (
    λ from tests k row e. let was = h k row e in let same = started-same caller (record (own_of m caller) { next_snap = (own_of m caller).next_snap + 1 }) refl k.account in omega (arith, was, same),
    λ row tests. h,
  )
  given-accepted h caller (PutSnapshotBlock k index digest bytes) = λ s is passes tests. h
  given-accepted h caller (CompleteSnapshot k count checksum) = λ s is passes tests. h
  given-accepted h caller request = others (λ d. VolumesGiven d.0) m caller request (λ answer says. h) (λ k s row answer is same says. h) (λ k s answer is same says. h)
      (λ v row array token answer is says k x e.
      let more = raised caller v row array token is.key_is k.account in
      by_key vols_total exact_vols (k.number < next_volume_number (created m v row array token) k.account) k v
      (λ same. subst (λ (k : VolKey). k.number < next_volume_number (created m v row array token) k.account) (sym same) (reached caller v row array token))
      (λ other. let was = h k x (sym (get-other vols_total exact_vols m.vols v row k other) ∙ e) in omega (arith, was, more)))
      (λ v row answer there is says k x e. h k x (was-left vols_total (λ o. o) refl m.vols v k x e))
      (λ v row text tags is made k x e. let was = h k x e in let same = started-same caller (record (own_of m caller) { next_snap = (own_of m caller).next_snap + 1 }) refl k.account in omega (arith, was, same)) (λ v row i digest bytes is asked. h) (λ command change answer is says. h)
      (λ snaps own policies answer is says k x e. let was = h k x e in let same = managed-same caller request snaps own policies is k.account in omega (arith, was, same))

  -- a volume's row stays until its owner's accepted deletion
  module _ (key : VolKey) (row : VolRow) (h : fin.get m.vols key ≡ Some row) (given : key.number < next_volume_number m key.account) where
    abbrev Kept : ℕ → Request → Outcome → Type 0
    Kept caller request d = (AsksDeletion key request → caller ≡ key.account → IsAccepted d.1 → ⊥) → fin.get d.0.vols key ≡ Some row

    kept-accepted : (caller : ℕ) (request : Request) → Accepted (Kept caller request) m caller request
    kept-accepted caller (StartSnapshot size parent text tags token timeout) = (λ from tests none. h, λ row tests none. h)
    kept-accepted caller (PutSnapshotBlock k index digest bytes) = λ s is passes tests none. h
    kept-accepted caller (CompleteSnapshot k count checksum) = λ s is passes tests none. h
    kept-accepted caller request = others (Kept caller request) m caller request (λ answer says none. h) (λ k s row answer is same says none. h) (λ k s answer is same says none. h)
        (λ v new array token answer is says none. get-other vols_total exact_vols m.vols v new key (λ same.
        let number = ap (λ (k : VolKey). k.number) (same ∙ is.key_is) in
        let next = ap (λ (k : VolKey). next_volume_number m k.account) (same ∙ is.key_is) in
        let was = volume-numbered (fin.get m.own caller) in
        absurd (omega (arith, number, next, was, given))) ∙ h)
        (λ v old answer there is says none. get-left vols_total exact_vols m.vols v key (λ same. none (subst (AsksDeletion key) (sym is.request_is) (sym same)) (is.owned ∙ ap (λ (k : VolKey). k.account) (sym same)) says.answers) ∙ h) (λ v row text tags is made none. h) (λ v row i digest bytes is asked none. h) (λ command change answer is says none. h) (λ snaps own policies answer is says none. h)

pub above-volumes : (m : Machine) (t : Timed) (account : ℕ) → next_volume_number m account ≤ next_volume_number (turn m t).0 account
above-volumes m t account =
    let at = advance m (moment_at m t.reading) in
    step-cases (Above at account) m t.call.account t.reading t.call.request (above-accepted at account t.call.account t.call.request) (λ refusal. omega arith)

pub volumes-never-fall : VolumeNumbersNeverFall
volumes-never-fall m [] account = omega arith
volumes-never-fall m (t ∷ ts) account =
    let one = above-volumes m t account in
    let more = volumes-never-fall (turn m t).0 ts account in
    omega (arith, one, more)

gives-volume : (m : Machine) (t : Timed) (key : VolKey) → is_repeat m t.call.account t.call.request ≡ false → created_id (turn m t).1 ≡ Some key → (key.number ≡ next_volume_number m key.account) × (key.number < next_volume_number (turn m t).0 key.account)
gives-volume m t key fresh =
    let at = advance m (moment_at m t.reading) in
    step-cases (Gives at t.call.account t.call.request key) m t.call.account t.reading t.call.request (gives-accepted at key t.call.account t.call.request) (λ refusal fresh e. cc)
    (repeat-aged m (moment_at m t.reading) t.call.account t.call.request ∙ fresh)

pub created-differ : CreatedIdsDiffer
created-differ m first second between a b fresh other one two same =
    let (was, above) = gives-volume m first a fresh one in
    let (is, rest) = gives-volume (after_all (turn m first).0 between) second b other two in
    let more = volumes-never-fall (turn m first).0 between a.account in
    let number = ap (λ (k : VolKey). k.number) same in
    let there = ap (λ (k : VolKey). next_volume_number (after_all (turn m first).0 between) k.account) same in
    omega (arith, above, is, more, number, there)

pub volumes-given : VolumesStayGiven
volumes-given m account reading request h =
    let at = advance m (moment_at m reading) in
    step-cases (λ d. VolumesGiven d.0) m account reading request (given-accepted at h account request) (λ refusal. h)

volumes-empty : (secret : List ℕ) → VolumesGiven (empty_machine secret)
volumes-empty secret key row e = absurd (none_some (sym (fin.get-empty {X = VolRow} vol_cmp key) ∙ e))
  where
    none_some : None ≡ Some row → ⊥
    none_some e = cc

pub volumes-run : RunsGiveVolumes
volumes-run secret turns = kept_by_run (λ m. VolumesGiven m) (λ m t. volumes-given m t.call.account t.reading t.call.request) turns (empty_machine secret) (volumes-empty secret)

stays-turn : (m : Machine) (t : Timed) (key : VolKey) (row : VolRow) → VolumesGiven m → fin.get m.vols key ≡ Some row → (AsksDeletion key t.call.request → t.call.account ≡ key.account → IsAccepted (turn m t).1 → ⊥) → fin.get (turn m t).0.vols key ≡ Some row
stays-turn m t key row given h =
    let at = advance m (moment_at m t.reading) in
    step-cases (Kept at key row h (given key row h) t.call.account t.call.request) m t.call.account t.reading t.call.request (kept-accepted at key row h (given key row h) t.call.account t.call.request) (λ refusal none. h)

pub volume-stays : VolumeStays
volume-stays m [] key row given h none = h
volume-stays m (t ∷ ts) key row given h none = volume-stays (turn m t).0 ts key row (volumes-given m t.call.account t.reading t.call.request given) (stays-turn m t key row given h none.0) none.1
