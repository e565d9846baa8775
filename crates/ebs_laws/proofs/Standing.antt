-- The bytes that stand at an index of a snapshot.
use Rattle.std.proofs.Common.{◌≡◌, ◌⊎◌, inl, inr, ℕ, ◌+◌, arith, false, List, Option, Some, Ok, sym, ap, ◌∙◌, refl, subst, unwrap_or}
use Rattle.std.specs.FinMap as fin
use Rattle.std.specs.FinMap.{nat_cmp-IsAntisymmetric}
use Rattle.std.specs.Cmp.{nat_cmp_total}
use Rattle.sha2.specs.Sha256.{sha256}
use Rattle.ebs_model.specs.declared.keys.SnapKey.{SnapKey}
use Rattle.ebs_model.specs.declared.keys.Moment.{Moment}
use Rattle.ebs_model.specs.declared.tags.Tag.{Tag}
use Rattle.ebs_model.specs.declared.request.Request.{Request}
use Rattle.ebs_model.specs.declared.request.Request.TheVariants.{StartSnapshot, PutSnapshotBlock, GetSnapshotBlock}
use Rattle.ebs_model.specs.declared.answer.Answer.TheVariants.{Started, BlockWritten, BlockRead, Refused}
use Rattle.ebs_model.specs.declared.answer.Refusal.{Refusal}
use Rattle.ebs_model.specs.Calls.Start.{started_row}
use Rattle.ebs_model.specs.Arrays.{WholeBlock}
use Rattle.ebs_model.specs.Time.{Snapshot, status_at, is_failed}
use Rattle.ebs_model.specs.Access.{ready, base}
use Rattle.ebs_model.specs.Machine.{Machine, advance, moment_of}
use Rattle.ebs_model.specs.Rows.{no_own}
use Rattle.ebs_model.specs.Step.{step}
use Rattle.ebs_model.specs.inner.Orders.{snaps_total, exact_snaps}
use Rattle.ebs_model.specs.Timed.{Timed}
use Rattle.ebs_laws.specs.Puts.{block_in, HoldsBlock, AsksPut, IsAccepted}
use Rattle.ebs_laws.specs.Uploads.{NumbersGiven}
use Rattle.ebs_laws.specs.BlockLaws.{HasBytes}
use Rattle.ebs_laws.proofs.Maps.{get-itself}
use Rattle.ebs_laws.proofs.Tests.{first_ok, ready-stands}
use Rattle.ebs_laws.proofs.Cases.{Outcome, step-cases}
use Rattle.ebs_laws.proofs.Origins.{parent-found}
use Rattle.ebs_laws.proofs.Holds.{keeps-turn, holds-aged, later, put-kept}
use Rattle.ebs_laws.proofs.Whole.{own_of, with_started, Origin, origin}
use Rattle.ebs_laws.specs.Words.{IsUnused}
use Rattle.ebs_laws.proofs.Uses.{unused-later}

pub put-leaves : (m : Machine) (account : ℕ) (reading : Moment) (key : SnapKey) (index : ℕ) (digest bytes stated : List ℕ) → NumbersGiven m → (step m account reading (PutSnapshotBlock key index digest bytes)).1 ≡ BlockWritten stated → HasBytes (step m account reading (PutSnapshotBlock key index digest bytes)).0 key index bytes
put-leaves m account reading key index digest bytes stated given e =
    let kept = put-kept key index bytes m account reading digest stated given e in
    (kept.1, m.stamps, kept.0)

pub call-keeps : (m : Machine) (account : ℕ) (reading : Moment) (request : Request) (key : SnapKey) (index : ℕ) (bytes : List ℕ) → HasBytes m key index bytes → (AsksPut key index request → IsAccepted (step m account reading request).1 → ⊥) → HasBytes (step m account reading request).0 key index bytes
call-keeps m account reading request key index bytes (number, stamp, h) elsewhere =
    let t : Timed = record { call = record { account = account; request = request }; reading = reading } in
    let kept = keeps-turn key index (record { stamp = stamp; bytes = bytes }) m t (h, number) elsewhere in
    (kept.1, stamp, kept.0)

-- a parent's upload hasn't failed
base-stands : (account : ℕ) (key : SnapKey) (s : Snapshot) (now : ℕ) → base account key now s.row ≡ Ok tt → is_failed (status_at s.row now) ≡ false
base-stands account key s now e = ready-stands account key now s.row (first_ok (ready account key now s.row) _ e)

module _ (m : Machine) (account : ℕ) (parent : SnapKey) (index : ℕ) (bytes : List ℕ) (stamp : ℕ) (h : HoldsBlock m parent index (record { stamp = stamp; bytes = bytes })) where
  abbrev given : SnapKey
  given = record { account = account; number = (own_of m account).next_snap }

  origin-holds : (from : Origin) → origin m account given (Some parent) ≡ Ok from → fin.get from.array index ≡ Some (record { stamp = stamp; bytes = bytes })
  origin-holds from e =
      let (s, is, passes, same) = parent-found m account given from parent e in
      ap (λ (o : Origin). fin.get o.array index) (sym same) ∙ h s is (base-stands account parent s m.clock.second passes)

  -- a new upload with those blocks
  started-has : (at : Snapshot) → fin.get at.array index ≡ Some (record { stamp = stamp; bytes = bytes }) → HasBytes (with_started m given at.row at.array) given index bytes
  started-has at there =
      let next = ap (λ o. (unwrap_or o no_own).next_snap) (get-itself nat_cmp_total nat_cmp-IsAntisymmetric m.own account (record (own_of m account) { next_snap = given.number + 1 })) in (
        omega (arith, next),
        stamp,
        λ x e stands. ap (λ o. block_in o index) (sym e ∙ get-itself snaps_total exact_snaps m.snaps given at) ∙ there,
      )

abbrev ChildHas : ℕ → List ℕ → Option (List ℕ) → ℕ → Option SnapKey → SnapKey → Moment → List Tag → ℕ → Outcome → Type 0
ChildHas index bytes told owner from key begin shown gib d = d.1 ≡ Started told owner from key begin shown gib → HasBytes d.0 key index bytes

pub child-has : (m : Machine) (account : ℕ) (reading : Moment) (size : ℕ) (parent : SnapKey) (text : Option (List ℕ)) (tags : List Tag) (token : Option (List ℕ)) (timeout : ℕ) (told : Option (List ℕ)) (owner : ℕ) (from : Option SnapKey) (key : SnapKey) (begin : Moment) (shown : List Tag) (gib index : ℕ) (bytes : List ℕ) → IsUnused m account token → HasBytes m parent index bytes → ChildHas index bytes told owner from key begin shown gib (step m account reading (StartSnapshot size (Some parent) text tags token timeout))
child-has m account reading size parent text tags token timeout told owner from key begin shown gib index bytes unused (number, stamp, h) =
    let at = advance m (moment_of m reading) in
    let block : WholeBlock = record { stamp = stamp; bytes = bytes } in
    let aged = holds-aged parent index block m (moment_of m reading) (later parent index block m reading) h in
    let next : SnapKey = record { account = account; number = (own_of at account).next_snap } in
    step-cases (ChildHas index bytes told owner from key begin shown gib) m account reading (StartSnapshot size (Some parent) text tags token timeout) (
      λ origin tests e.
          let same : next ≡ key = cc in
          let row = started_row at.clock next size (Some parent) origin.line text tags timeout in
          subst (λ k. HasBytes (with_started at next row origin.array) k index bytes) same
          (started-has at account parent index bytes stamp aged (record { row = row; array = origin.array }) (origin-holds at account parent index bytes stamp aged origin tests.begins_with)),
      λ row tests e. absurd (unused-later m (moment_of m reading) account token row unused tests.used),
    )
    (λ refusal e. cc)

abbrev Gets : List ℕ → Outcome → Type 0
Gets bytes d = (d.1 ≡ BlockRead (sha256 bytes) bytes) ⊎ ((refusal : Refusal) × (d.1 ≡ Refused refusal))

pub get-answers : (m : Machine) (account : ℕ) (reading : Moment) (key : SnapKey) (index : ℕ) (token bytes : List ℕ) → HasBytes m key index bytes → Gets bytes (step m account reading (GetSnapshotBlock key index token))
get-answers m account reading key index token bytes (number, stamp, h) =
    let block : WholeBlock = record { stamp = stamp; bytes = bytes } in
    let at = advance m (moment_of m reading) in
    let aged = holds-aged key index block m (moment_of m reading) (later key index block m reading) h in
    step-cases (Gets bytes) m account reading (GetSnapshotBlock key index token)
    (λ s is passes good other there. let same : Some block ≡ Some other = sym (aged s is (ready-stands account key at.clock.second s.row passes)) ∙ there in inl (let e : block ≡ other = cc in ap (λ (b : WholeBlock). BlockRead (sha256 b.bytes) b.bytes) (sym e)))
    (λ refusal. inr (refusal, refl))
