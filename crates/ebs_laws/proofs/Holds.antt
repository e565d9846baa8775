-- A block stays until another is put in its place.
use Rattle.std.proofs.Common.{◌≡◌, ℕ, ◌+◌, ◌*◌, ◌<◌, ◌≤◌, arith, false, List, [], ◌∷◌, Option, Some, None, Ok, sym, ap, ◌∙◌, refl, nat_le}
use Rattle.std.specs.FinMap as fin
use Rattle.std.specs.FinMap.{nat_cmp-IsAntisymmetric}
use Rattle.std.specs.Cmp.{nat_cmp_total}
use Rattle.sha2.specs.Sha256.{sha256}
use Rattle.ebs_model.specs.declared.keys.SnapKey.{SnapKey}
use Rattle.ebs_model.specs.declared.keys.Moment.{Moment}
use Rattle.ebs_model.specs.declared.rows.SnapRow.{SnapRow}
use Rattle.ebs_model.specs.declared.request.Request.{Request}
use Rattle.ebs_model.specs.declared.request.Request.TheVariants.{StartSnapshot, PutSnapshotBlock, CompleteSnapshot, GetSnapshotBlock}
use Rattle.ebs_model.specs.declared.answer.Answer.TheVariants.{BlockWritten, BlockRead}
use Rattle.ebs_model.specs.Arrays.{WholeBlock, WholeArray}
use Rattle.ebs_model.specs.Time.{Snapshot, status_at, is_failed, status_by}
use Rattle.ebs_model.specs.Access.{open_upload}
use Rattle.ebs_model.specs.Machine.{Machine, advance, moment_of}
use Rattle.ebs_model.specs.Step.{step}
use Rattle.ebs_model.specs.inner.Orders.{snaps_total, exact_snaps}
use Rattle.ebs_model.proofs.Aged.{aged_row, get-aged, found-rested, rested-same}
use Rattle.ebs_model.specs.Timed.{Timed, turn, after_all}
use Rattle.ebs_laws.specs.Puts.{block_in, HoldsBlock, AsksPut, IsAccepted, NoPutAt}
use Rattle.ebs_laws.specs.Uploads.{NumbersGiven, put}
use Rattle.ebs_laws.proofs.Beside.{same-next}
use Rattle.ebs_laws.proofs.Maps.{get-itself, get-other, by_key, was-left}
use Rattle.ebs_laws.proofs.Tests.{open-stands, ready-stands, stood_before}
use Rattle.ebs_laws.proofs.Cases.{Outcome, Accepted, step-cases}
use Rattle.ebs_laws.proofs.Others.{others, IsRewritten, IsManaged, managed-grows}
use Rattle.ebs_laws.proofs.Given.{grows, numbers-aged}
use Rattle.ebs_laws.proofs.Whole.{own_of, with_snapshot, with_started, with_put, completed, rewritten, managed}
use Rattle.ebs_model.specs.declared.rows.Own.{Own}
use Rattle.ebs_model.specs.Keys.{snap_cmp, policy_cmp}
use Rattle.std.specs.Ordering.{nat_cmp}
use Rattle.ebs_model.specs.declared.policy.Policy.{Policy}
use Rattle.ebs_laws.proofs.PolicyRuns.{left-each}

module _ (key : SnapKey) (index : ℕ) (block : WholeBlock) where
  -- the block is there, and its snapshot's number was given out
  abbrev pub Keeps : Machine → Type 0
  Keeps m = HoldsBlock m key index block × (key.number < (own_of m key.account).next_snap)

  pub holds-aged : (m : Machine) (now : Moment) → m.clock.second ≤ now.second → HoldsBlock m key index block → HoldsBlock (advance m now) key index block
  holds-aged m now later h s e stands = kept (fin.get m.snaps key) refl (sym (get-aged now.second m.snaps key) ∙ e)
    where
      kept : (o : Option Snapshot) → fin.get m.snaps key ≡ o → aged_row now.second o ≡ Some s → fin.get s.array index ≡ Some block
      kept None is e = cc
      kept (Some old) is e =
          let rests = found-rested now.second old s e in
          let stood = ap (λ (s : Snapshot). is_failed (status_at s.row now.second)) rests ∙ stands in
          let same = sym (rested-same now.second old stood) ∙ rests in
          ap (λ (s : Snapshot). fin.get s.array index) (sym same) ∙ h old is (stood_before old.row.completed (old.row.last.second + 60 * old.row.timeout) m.clock.second now.second later stood)

  -- another snapshot is written, or the same one with this block
  holds-same : (m : Machine) (k : SnapKey) (s : Snapshot) → HoldsBlock m key index block → (key ≡ k → fin.get s.array index ≡ Some block) → (x : Snapshot) → fin.get (fin.insert m.snaps k s) key ≡ Some x → is_failed (status_at x.row m.clock.second) ≡ false → fin.get x.array index ≡ Some block
  holds-same m k s h at x e stands = by_key snaps_total exact_snaps (fin.get x.array index ≡ Some block) key k
      (λ same. ap (λ o. block_in o index) (sym e ∙ ap (fin.get (fin.insert m.snaps k s)) same ∙ get-itself snaps_total exact_snaps m.snaps k s) ∙ at same)
      (λ other. h x (sym (get-other snaps_total exact_snaps m.snaps k s key other) ∙ e) stands)

  module _ (m : Machine) (h : Keeps m) where
    holds-open : (k : SnapKey) (account : ℕ) (s : Snapshot) → fin.get m.snaps k ≡ Some s → open_upload account k m.clock.second s.row ≡ Ok tt → key ≡ k → fin.get s.array index ≡ Some block
    holds-open k account s is passes same = h.0 s (ap (fin.get m.snaps) same ∙ is) (open-stands account k m.clock.second s.row passes)

    holds-put : (k : SnapKey) (account i : ℕ) (bytes : List ℕ) (s : Snapshot) → fin.get m.snaps k ≡ Some s → open_upload account k m.clock.second s.row ≡ Ok tt → (k ≡ key → i ≡ index → ⊥) → Keeps (with_put m k s i bytes)
    holds-put k account i bytes s is passes elsewhere = (
      holds-same m k (put s m.clock m.stamps i bytes) h.0 (λ same. get-other nat_cmp_total nat_cmp-IsAntisymmetric s.array i (record { stamp = m.stamps; bytes = bytes }) index (λ e. elsewhere (sym same) (sym e)) ∙ holds-open k account s is passes same),
      h.1,
    )

    holds-complete : (k : SnapKey) (account : ℕ) (s : Snapshot) → fin.get m.snaps k ≡ Some s → open_upload account k m.clock.second s.row ≡ Ok tt → Keeps (with_snapshot m k (completed s))
    holds-complete k account s is passes = (holds-same m k (completed s) h.0 (holds-open k account s is passes), h.1)

    -- a row is rewritten: its upload has failed as little as before
    holds-rewritten : (k : SnapKey) (account : ℕ) (s : Snapshot) (row : SnapRow) {request : Request} → fin.get m.snaps k ≡ Some s → IsRewritten m account k request s.row row → Keeps (with_snapshot m k (rewritten row s))
    holds-rewritten k account s row is same = (
      λ x e stands. by_key snaps_total exact_snaps (fin.get x.array index ≡ Some block) key k
          (λ one. here x one (sym (ap (fin.get (fin.insert m.snaps k (rewritten row s))) one ∙ get-itself snaps_total exact_snaps m.snaps k (rewritten row s)) ∙ e) stands)
          (λ other. h.0 x (sym (get-other snaps_total exact_snaps m.snaps k (rewritten row s) key other) ∙ e) stands),
      h.1,
    )
      where
        here : (x : Snapshot) → key ≡ k → Some (rewritten row s) ≡ Some x → is_failed (status_at x.row m.clock.second) ≡ false → fin.get x.array index ≡ Some block
        here x one e stands =
            let it : rewritten row s ≡ x = cc in
            let stood : is_failed (status_at s.row m.clock.second) ≡ false =
            (λ i. is_failed (status_by (sym same.completed_is i) (nat_le ((sym same.last_is i).second + 60 * sym same.timeout_is i) m.clock.second))) ∙ ap (λ (s : Snapshot). is_failed (status_at s.row m.clock.second)) it ∙ stands in
            ap (λ (s : Snapshot). fin.get s.array index) (sym it) ∙ h.0 s (ap (fin.get m.snaps) one ∙ is) stood

    holds-start : (account : ℕ) (row : SnapRow) (array : WholeArray) → let given : SnapKey = record { account = account; number = (own_of m account).next_snap } in Keeps (with_started m given row array)
    holds-start account row array =
        let given : SnapKey = record { account = account; number = (own_of m account).next_snap } in
        let more = grows m account row array key.account in
        let below = h.1 in (
          holds-same m given (record { row = row; array = array }) h.0 (λ same. let number = ap (λ k. k.number) same in let next = ap (λ k. (own_of m k.account).next_snap) same in absurd (omega (arith, number, next, below))),
          omega (arith, more, below),
        )

    holds-managed : (account : ℕ) (request : Request) (snaps : fin.FinMap snap_cmp Snapshot) (own : fin.FinMap nat_cmp Own) (policies : fin.FinMap policy_cmp Policy) → IsManaged m account request snaps own policies → Keeps (managed m snaps own policies)
    holds-managed account request snaps own policies is =
        let more = managed-grows m account request snaps own policies is key.account in
        let below = h.1 in (
          left-each m account own key (λ x. is_failed (status_at x.row m.clock.second) ≡ false → fin.get x.array index ≡ Some block) h.0
              (λ s new. let above = new.above in let next = ap (λ a. (own_of m a).next_snap) new.owner in absurd (omega (arith, above, next, below)))
              (λ s row mine alters was stands. was (sym (ap (λ (r : SnapRow). is_failed (status_at r m.clock.second)) alters) ∙ stands))
              (fin.get snaps key) (is.leaves key),
          omega (arith, more, below),
        )

    -- what the call was, of which the outcome is
    abbrev Kept : Request → Outcome → Type 0
    Kept request d = (AsksPut key index request → IsAccepted d.1 → ⊥) → Keeps d.0

    holds-accepted : (account : ℕ) (request : Request) → Accepted (Kept request) m account request
    holds-accepted account (StartSnapshot size parent description tags token timeout) = (λ from tests elsewhere. holds-start account _ _, λ row tests elsewhere. h)
    holds-accepted account (PutSnapshotBlock k i digest bytes) = λ s is passes tests elsewhere. holds-put k account i bytes s is passes (λ same at. elsewhere (same, at) (digest, refl))
    holds-accepted account (CompleteSnapshot k count checksum) = λ s is passes tests elsewhere. holds-complete k account s is passes
    holds-accepted account request = others (Kept request) m account request (λ answer says elsewhere. h) (λ k s row answer is same says elsewhere. holds-rewritten k account s row is same)
        (λ k s answer is same says elsewhere. (λ x e stands. h.0 x (was-left snaps_total (λ o. o) refl m.snaps k key x e) stands, h.1)) (λ k row array token answer is says elsewhere. let below = h.1 in let same = same-next m k row array token key.account in (h.0, omega (arith, below, same))) (λ k row answer there is says elsewhere. h) (λ v row text tags is made elsewhere. holds-start account _ _) (λ v row i digest bytes is asked elsewhere. h) (λ command change answer is says elsewhere. h)
        (λ snaps own policies answer is says elsewhere. holds-managed account request snaps own policies is)

  pub later : (m : Machine) (reading : Moment) → m.clock.second ≤ (moment_of m reading).second
  later m reading = omega arith

  pub keeps-turn : (m : Machine) (t : Timed) → Keeps m → (AsksPut key index t.call.request → IsAccepted (turn m t).1 → ⊥) → Keeps (turn m t).0
  keeps-turn m t h =
      let at = advance m (moment_of m t.reading) in
      let aged : Keeps at = (holds-aged m (moment_of m t.reading) (later m t.reading) h.0, h.1) in
      step-cases (Kept at aged t.call.request) m t.call.account t.reading t.call.request (holds-accepted at aged t.call.account t.call.request) (λ refusal elsewhere. aged)

  pub holds-turn : (m : Machine) (t : Timed) → NumbersGiven m → (s : Snapshot) → fin.get m.snaps key ≡ Some s → HoldsBlock m key index block → (AsksPut key index t.call.request → IsAccepted (turn m t).1 → ⊥) → HoldsBlock (turn m t).0 key index block
  holds-turn m t given s is h elsewhere = (keeps-turn m t (h, given key s is) elsewhere).0

  pub keeps-run : (turns : List Timed) (m : Machine) → Keeps m → NoPutAt key index m turns → Keeps (after_all m turns)
  keeps-run [] m h none = h
  keeps-run (t ∷ ts) m h none = keeps-run ts (turn m t).0 (keeps-turn m t h none.0) none.1

module _ (key : SnapKey) (index : ℕ) (bytes : List ℕ) where
  put-keeps : (m : Machine) (s : Snapshot) → fin.get m.snaps key ≡ Some s → NumbersGiven m → Keeps key index (record { stamp = m.stamps; bytes = bytes }) (with_put m key s index bytes)
  put-keeps m s is given = (
    λ x e stands. ap (λ o. block_in o index) (sym e ∙ get-itself snaps_total exact_snaps m.snaps key (put s m.clock m.stamps index bytes)) ∙ get-itself nat_cmp_total nat_cmp-IsAntisymmetric s.array index (record { stamp = m.stamps; bytes = bytes }),
    given key s is,
  )

  abbrev PutKept : ℕ → List ℕ → Outcome → Type 0
  PutKept stamp stated d = d.1 ≡ BlockWritten stated → Keeps key index (record { stamp = stamp; bytes = bytes }) d.0

  pub put-kept : (m : Machine) (account : ℕ) (reading : Moment) (digest stated : List ℕ) → NumbersGiven m → PutKept m.stamps stated (step m account reading (PutSnapshotBlock key index digest bytes))
  put-kept m account reading digest stated given =
      let at = advance m (moment_of m reading) in
      step-cases (PutKept m.stamps stated) m account reading (PutSnapshotBlock key index digest bytes) (λ s is passes tests e. put-keeps at s is (numbers-aged m (moment_of m reading) given)) (λ refusal e. cc)

  pub holds-run : (m : Machine) (turns : List Timed) (account : ℕ) (reading : Moment) (digest stated : List ℕ) → let s = step m account reading (PutSnapshotBlock key index digest bytes) in NumbersGiven m → s.1 ≡ BlockWritten stated → NoPutAt key index s.0 turns → HoldsBlock (after_all s.0 turns) key index (record { stamp = m.stamps; bytes = bytes })
  holds-run m turns account reading digest stated given written none =
      let s = step m account reading (PutSnapshotBlock key index digest bytes) in
      (keeps-run key index (record { stamp = m.stamps; bytes = bytes }) turns s.0 (put-kept m account reading digest stated given written) none).0

  abbrev ReadsIt : List ℕ → List ℕ → Outcome → Type 0
  ReadsIt found read d = d.1 ≡ BlockRead found read → (read ≡ bytes) × (found ≡ sha256 bytes)

  reads-it : (n : Machine) (stamp reader : ℕ) (later : Moment) (token found read : List ℕ) → HoldsBlock n key index (record { stamp = stamp; bytes = bytes }) → ReadsIt found read (step n reader later (GetSnapshotBlock key index token))
  reads-it n stamp reader reading token found read h =
      let block : WholeBlock = record { stamp = stamp; bytes = bytes } in
      let at = advance n (moment_of n reading) in
      let aged = holds-aged key index block n (moment_of n reading) (later key index block n reading) h in
      step-cases (ReadsIt found read) n reader reading (GetSnapshotBlock key index token)
      (λ s is passes good other there e. let same : Some other ≡ Some block = sym there ∙ aged s is (ready-stands reader key at.clock.second s.row passes) in (cc, cc))
      (λ refusal e. cc)

  pub reads-run : (m : Machine) (turns : List Timed) (account reader : ℕ) (reading later : Moment) (digest stated token found read : List ℕ) → let s = step m account reading (PutSnapshotBlock key index digest bytes) in NumbersGiven m → s.1 ≡ BlockWritten stated → NoPutAt key index s.0 turns → (step (after_all s.0 turns) reader later (GetSnapshotBlock key index token)).1 ≡ BlockRead found read → (read ≡ bytes) × (found ≡ sha256 bytes)
  reads-run m turns account reader reading later digest stated token found read given written none =
      reads-it (after_all (step m account reading (PutSnapshotBlock key index digest bytes)).0 turns) m.stamps reader later token found read (holds-run m turns account reading digest stated given written none)
