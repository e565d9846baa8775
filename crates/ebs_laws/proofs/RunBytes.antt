-- What a snapshot is of, and what stands in one that a run made.
use Rattle.std.proofs.Common.{◌≡◌, ℕ, ◌≤◌, ◌<◌, List, Option, Some, None, sym, ap, subst, ◌∙◌, refl, arith}
use Rattle.std.specs.FinMap as fin
use Rattle.ebs_model.specs.declared.keys.SnapKey.{SnapKey}
use Rattle.ebs_model.specs.declared.keys.VolKey.{VolKey}
use Rattle.ebs_model.specs.declared.keys.PolicyKey.{PolicyKey}
use Rattle.ebs_model.specs.declared.keys.AnyKey.{AnyKey}
use Rattle.ebs_model.specs.declared.keys.AnyKey.TheVariants.{Snap}
use Rattle.ebs_model.specs.declared.keys.Moment.{Moment}
use Rattle.ebs_model.specs.declared.policy.Policy.{Policy}
use Rattle.ebs_model.specs.declared.rows.SnapRow.{SnapRow}
use Rattle.ebs_model.specs.declared.request.Request.{Request}
use Rattle.ebs_model.specs.declared.request.Request.TheVariants.{StartSnapshot, PutSnapshotBlock, CompleteSnapshot, RunPolicy}
use Rattle.ebs_model.specs.declared.answer.Answer.TheVariants.{PolicyRan}
use Rattle.ebs_model.specs.inner.Orders.{snaps_total, exact_snaps}
use Rattle.ebs_model.specs.Arrays.{WholeArray}
use Rattle.ebs_model.specs.Time.{Snapshot}
use Rattle.ebs_model.specs.Machine.{Machine, advance, disk_of}
use Rattle.ebs_model.specs.Step.{step}
use Rattle.ebs_laws.specs.Words.{moment_at, next_number}
use Rattle.ebs_laws.specs.Uploads.{put}
use Rattle.ebs_laws.specs.RunBytes.{IsOf, CallKeepsVolume, RunHasBytes}
use Rattle.ebs_laws.proofs.Begun.{numbered}
use Rattle.ebs_laws.proofs.Beside.{same-next}
use Rattle.ebs_laws.proofs.Cases.{Accepted, step-cases}
use Rattle.ebs_laws.proofs.Given.{grows, numbers-aged}
use Rattle.ebs_laws.proofs.Maps.{get-itself, get-other, by_key, was-left}
use Rattle.ebs_laws.proofs.Others.{others, managed-grows}
use Rattle.ebs_laws.proofs.PolicyLaws.{makes-of-volumes, gives-numbers}
use Rattle.ebs_laws.proofs.PolicyRuns.{some_is, left-each}
use Rattle.ebs_laws.proofs.Readers.{was-there}
use Rattle.ebs_laws.proofs.Whole.{own_of, with_snapshot, with_started, completed, rewritten}

module _ (key : SnapKey) (volume : Option VolKey) where
  -- as the machine says it
  abbrev pub StaysOf : Machine → Type 0
  StaysOf m = (key.number < (own_of m key.account).next_snap) × ((s : Snapshot) → fin.get m.snaps key ≡ Some s → s.row.volume ≡ volume)

  pub of-aged : (m : Machine) (now : Moment) → StaysOf m → StaysOf (advance m now)
  of-aged m now (number, of) = (
    number,
    λ s e. let was = was-there m now key s e in ap (λ (s : Snapshot). s.row.volume) (sym was.rests) ∙ of was.old was.is_there,
  )

  module _ (m : Machine) (h : StaysOf m) where
    -- a snapshot is written, which names the volume that it named
    of-same : (k : SnapKey) (t : Snapshot) → (key ≡ k → t.row.volume ≡ volume) → (x : Snapshot) → fin.get (fin.insert m.snaps k t) key ≡ Some x → x.row.volume ≡ volume
    of-same k t at x e = by_key snaps_total exact_snaps (x.row.volume ≡ volume) key k
        (λ same. ap (λ (s : Snapshot). s.row.volume) (sym (some_is t x (sym (get-itself snaps_total exact_snaps m.snaps k t) ∙ ap (fin.get (fin.insert m.snaps k t)) (sym same) ∙ e))) ∙ at same)
        (λ other. h.1 x (sym (get-other snaps_total exact_snaps m.snaps k t key other) ∙ e))

    pub of-written : (k : SnapKey) (s t : Snapshot) → fin.get m.snaps k ≡ Some s → t.row.volume ≡ s.row.volume → StaysOf (with_snapshot m k t)
    of-written k s t is stays = (h.0, of-same k t (λ same. stays ∙ h.1 s (ap (fin.get m.snaps) same ∙ is)))

    of-started : (account : ℕ) (row : SnapRow) (array : WholeArray) → StaysOf (with_started m (record { account = account; number = (own_of m account).next_snap }) row array)
    of-started account row array =
        let given : SnapKey = record { account = account; number = (own_of m account).next_snap } in
        let more = grows m account row array key.account in
        let below = h.0 in (
          omega (arith, more, below),
          of-same given (record { row = row; array = array }) (λ same. let number = ap (λ (k : SnapKey). k.number) same in let next = ap (λ (k : SnapKey). (own_of m k.account).next_snap) same in absurd (omega (arith, number, next, below))),
        )

    of-accepted : (account : ℕ) (request : Request) → Accepted (λ d. StaysOf d.0) m account request
    of-accepted account (StartSnapshot size parent description tags token timeout) = (λ from tests. of-started account _ _, λ row tests. h)
    of-accepted account (PutSnapshotBlock k index digest bytes) = λ s is passes tests. of-written k s (put s m.clock m.stamps index bytes) is refl
    of-accepted account (CompleteSnapshot k count checksum) = λ s is passes tests. of-written k s (completed s) is refl
    of-accepted account request = others (λ d. StaysOf d.0) m account request (λ answer says. h) (λ k s row answer there is says. of-written k s (rewritten row s) there is.volume_is)
        (λ k s answer is same says. (h.0, λ x e. h.1 x (was-left snaps_total (λ o. o) refl m.snaps k key x e)))
        (λ v row array token answer is says. let below = h.0 in let same = same-next m v row array token key.account in (omega (arith, below, same), h.1)) (λ v row answer there is says. h) (λ v row text tags is made. of-started account _ _) (λ v row i digest bytes is asked. h) (λ command change answer is says. h)
        (λ snaps own policies answer is says.
        let more = managed-grows m account request snaps own policies is key.account in
        let below = h.0 in (
          omega (arith, more, below),
          left-each m account own key (λ s. s.row.volume ≡ volume) h.1
              (λ s new. let above = new.above in let next = ap (λ (a : ℕ). (own_of m a).next_snap) new.owner in absurd (omega (arith, above, next, below)))
              (λ s row mine alters was. ap (λ (r : SnapRow). r.volume) alters ∙ was)
              (fin.get snaps key) (is.leaves key),
        ))

  pub of-step : (m : Machine) (account : ℕ) (reading : Moment) (request : Request) → StaysOf m → StaysOf (step m account reading request).0
  of-step m account reading request h =
      let at = advance m (moment_at m reading) in
      let aged = of-aged m (moment_at m reading) h in
      step-cases (λ d. StaysOf d.0) m account reading request (of-accepted at aged account request) (λ refusal. aged)

-- time changes it as little
pub is-of-aged : (key : SnapKey) (volume : Option VolKey) (m : Machine) (now : Moment) → IsOf m key volume → IsOf (advance m now) key volume
is-of-aged key volume m now (number, of) = (
  number,
  λ s e. let was = was-there m now key s e in ap (λ (s : Snapshot). s.row.volume) (sym was.rests) ∙ of was.old was.is_there,
)

pub keeps-volume : CallKeepsVolume
keeps-volume m account reading request key volume (number, of) =
    let n = (step m account reading request).0 in
    let was = numbered (fin.get m.own key.account) in
    let is = numbered (fin.get n.own key.account) in
    let stays = of-step key volume m account reading request (omega (arith, number, was), of) in
    let more = stays.0 in
    (omega (arith, more, is), stays.1)

snap_is : {a b : SnapKey} → Snap a ≡ Snap b → a ≡ b
snap_is e = cc

-- a policy that ran is there
is-there : (m : Machine) (account : ℕ) (reading : Moment) (key : PolicyKey) (deleted made : List AnyKey) → (step m account reading (RunPolicy key)).1 ≡ PolicyRan deleted made → (p : Policy) × (fin.get m.policies key ≡ Some p)
is-there m account reading key deleted made =
    step-cases (λ d. d.1 ≡ PolicyRan deleted made → (p : Policy) × (fin.get m.policies key ≡ Some p)) m account reading (RunPolicy key) (λ p tests e. (p, tests.found)) (λ refusal e. cc)

pub run-has : RunHasBytes
run-has m account reading key deleted made q volume index bytes given has told there of =
    let at = advance m (moment_at m reading) in
    let new = (step m account reading (RunPolicy key)).0 in
    let (number, is, above, below) = gives-numbers m account reading key deleted made (Snap q) told there in
    let over : next_number m q.account ≤ q.number = subst (λ (k : SnapKey). next_number m k.account ≤ k.number) (sym (snap_is is)) above in
    let counts = numbered (fin.get new.own q.account) in
    let reached = of.0 in (
      omega (arith, reached, counts),
      has.1,
      λ s now stands.
          let one = makes-of-volumes m account reading key (is-there m account reading key deleted made told).0 q s (is-there m account reading key deleted made told).1 (free over) now in
          let volume_is : one.volume ≡ volume = some_is one.volume volume (sym one.of ∙ of.1 s now) in
          ap (λ (array : WholeArray). fin.get array index) (one.blocks ∙ ap (disk_of m) volume_is) ∙ has.2 one.row (ap (fin.get m.vols) (sym volume_is) ∙ one.was_there),
    )
  where
    -- no snapshot was there under a number that isn't given out yet
    free : next_number m q.account ≤ q.number → fin.get (advance m (moment_at m reading)).snaps q ≡ None
    free over = by (fin.get (advance m (moment_at m reading)).snaps q) refl
      where
        by : (o : Option Snapshot) → fin.get (advance m (moment_at m reading)).snaps q ≡ o → o ≡ None
        by None e = refl
        by (Some s) e =
            let below = numbers-aged m (moment_at m reading) given q s e in
            let was = numbered (fin.get m.own q.account) in
            absurd (omega (arith, below, was, over))
