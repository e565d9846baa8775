-- Blocks stand within the size of their snapshot.
use Rattle.std.proofs.Common.{◌≡◌, ℕ, ◌*◌, ◌^◌, ◌<◌, ◌≤◌, arith, Bool, true, false, cond, nat_le, List, Option, Some, None, sym, ap, subst, ◌∙◌, refl, ◌&&◌, Ok, unwrap_or, ◌≢◌}
use Rattle.std.proofs.lemmas.Bool.Decides.{nat_tests}
use Rattle.std.specs.FinMap as fin
use Rattle.std.specs.FinMap.{nat_cmp-IsAntisymmetric}
use Rattle.std.specs.Ordering.{nat_cmp}
use Rattle.std.specs.Cmp.{nat_cmp_total}
use Rattle.ebs_model.specs.declared.keys.SnapKey.{SnapKey}
use Rattle.ebs_model.specs.declared.keys.Moment.{Moment}
use Rattle.ebs_model.specs.declared.request.Request.{Request}
use Rattle.ebs_model.specs.declared.request.Request.TheVariants.{StartSnapshot, PutSnapshotBlock, CompleteSnapshot}
use Rattle.ebs_model.specs.Keys.{snap_cmp, vol_cmp}
use Rattle.ebs_model.specs.Limits.{is_size, is_size_given}
use Rattle.ebs_model.specs.Arrays.{WholeBlock, WholeArray}
use Rattle.ebs_model.specs.Time.{Snapshot, rested}
use Rattle.ebs_model.specs.Machine.{Machine, advance, moment_of, empty_machine, disk_of}
use Rattle.ebs_model.specs.Step.{step}
use Rattle.ebs_model.specs.inner.Orders.{snaps_total, exact_snaps, exact_vols, vols_total}
use Rattle.ebs_model.proofs.Aged.{aged_row, get-aged, found-rested, fails}
use Rattle.ebs_model.specs.Timed.{Timed, after_all}
use Rattle.ebs_laws.specs.Puts.{IsWithinSize, IndexesFit, FitsIn}
use Rattle.ebs_laws.proofs.Maps.{get-itself, get-other, by_key, was-left, get-gone, get-left}
use Rattle.ebs_laws.proofs.Cases.{Outcome, Accepted, step-cases}
use Rattle.ebs_laws.proofs.Others.{others, IsCreated}
use Rattle.ebs_laws.proofs.Origins.{begins-with, at_most}
use Rattle.ebs_laws.proofs.Given.{kept_by_run}
use Rattle.ebs_laws.proofs.Whole.{Origin, origin, completed, rewritten, volume_origin, of_no_origin}
use Rattle.ebs_laws.specs.Uploads.{put}
use Rattle.ebs_model.specs.declared.rows.VolRow.{VolRow}
use Rattle.ebs_model.specs.declared.keys.VolKey.{VolKey}
use Rattle.ebs_model.specs.declared.answer.Answer.{Answer}
use Rattle.ebs_laws.proofs.PolicyRuns.{left-each}
use Rattle.ebs_model.specs.declared.rows.SnapRow.{SnapRow}

below : (a b : ℕ) → nat_le b a ≡ false → a < b
below a b e = grind (arith, nat_tests)

both_last : (a b : Bool) → (a && b) ≡ true → b ≡ true
both_last true b e = e
both_last false b e = cc

size-bound : (size : ℕ) → is_size size ≡ true → size ≤ 16384
size-bound size e = let last = both_last (nat_le 1 size) _ e in grind (arith, nat_tests)

-- a part of the blocks in at least the room
within : (s t : Snapshot) → IsWithinSize s → t.row.size ≤ 16384 → s.row.size ≤ t.row.size → ((i : ℕ) (x : WholeBlock) → fin.get t.array i ≡ Some x → fin.get s.array i ≡ Some x) → IsWithinSize t
within s t h bound more part = (bound, λ i x e. let was = h.1 i x (part i x e) in omega (arith, was, more))

pub fits-aged : (m : Machine) (now : Moment) → IndexesFit m → IndexesFit (advance m now)
fits-aged m now h = (λ key s e. kept key s (fin.get m.snaps key) refl (sym (get-aged now.second m.snaps key) ∙ e), h.1)
  where
    emptied : (old : Snapshot) (b : Bool) (i : ℕ) (x : WholeBlock) → fin.get (cond b fin.empty old.array) i ≡ Some x → fin.get old.array i ≡ Some x
    emptied old true i x e = let none = fin.get-empty {X = WholeBlock} nat_cmp i in cc
    emptied old false i x e = e

    kept : (key : SnapKey) (s : Snapshot) (o : Option Snapshot) → fin.get m.snaps key ≡ o → aged_row now.second o ≡ Some s → IsWithinSize s
    kept key s None is e = cc
    kept key s (Some old) is e =
        let was = h.0 key old is in
        let same : old.row.size ≤ old.row.size = omega arith in
        subst IsWithinSize (found-rested now.second old s e) (within old (rested now.second old) was was.0 same (emptied old (fails old now.second)))

module _ (m : Machine) (h : IndexesFit m) where
  fits-insert : (key : SnapKey) (t : Snapshot) → IsWithinSize t → (k : SnapKey) (x : Snapshot) → fin.get (fin.insert m.snaps key t) k ≡ Some x → IsWithinSize x
  fits-insert key t fits k x e = by_key snaps_total exact_snaps (IsWithinSize x) k key
      (λ same. let is : Some t ≡ Some x = sym (ap (fin.get (fin.insert m.snaps key t)) same ∙ get-itself snaps_total exact_snaps m.snaps key t) ∙ e in subst IsWithinSize (only is) fits)
      (λ other. h.0 k x (sym (get-other snaps_total exact_snaps m.snaps key t k other) ∙ e))
    where
      only : Some t ≡ Some x → t ≡ x
      only e = cc

  -- one block more within the size
  grown : (size : ℕ) (array : WholeArray) (stamp index : ℕ) (bytes : List ℕ) → FitsIn size array → nat_le (2048 * size) index ≡ false → FitsIn size (fin.insert array index (record { stamp = stamp; bytes = bytes }))
  grown size array stamp index bytes was room = (
    was.0,
    λ i x e. by_key nat_cmp_total nat_cmp-IsAntisymmetric (i < 2048 * size) i index
        (λ same. let there = below index (2048 * size) room in omega (arith, same, there))
        (λ other. was.1 i x (sym (get-other nat_cmp_total nat_cmp-IsAntisymmetric array index (record { stamp = stamp; bytes = bytes }) i other) ∙ e)),
  )

  only_row : {a b : VolRow} → Some a ≡ Some b → a ≡ b
  only_row e = cc

  no_row : {a : VolRow} → None ≡ Some a → ⊥
  no_row e = cc

  -- of a volume that is found, the blocks are these
  disk-insert : (key : VolKey) (row : VolRow) (array : WholeArray) → FitsIn row.size array → (k : VolKey) (x : VolRow) → (k ≡ key → row ≡ x) → (k ≢ key → fin.get m.vols k ≡ Some x) → FitsIn x.size (unwrap_or (fin.get (fin.insert m.disks key array) k) fin.empty)
  disk-insert key row array fits k x here there = by_key vols_total exact_vols (FitsIn x.size (unwrap_or (fin.get (fin.insert m.disks key array) k) fin.empty)) k key
      (λ same. subst (λ o. FitsIn x.size (unwrap_or o fin.empty)) (sym (ap (fin.get (fin.insert m.disks key array)) same ∙ get-itself vols_total exact_vols m.disks key array)) (subst (λ (r : VolRow). FitsIn r.size array) (here same) fits))
      (λ other. subst (λ o. FitsIn x.size (unwrap_or o fin.empty)) (sym (get-other vols_total exact_vols m.disks key array k other)) (h.1 k x (there other)))

  disk-created : (key : VolKey) (row : VolRow) (array : WholeArray) → FitsIn row.size array → (k : VolKey) (x : VolRow) → fin.get (fin.insert m.vols key row) k ≡ Some x → FitsIn x.size (unwrap_or (fin.get (fin.insert m.disks key array) k) fin.empty)
  disk-created key row array fits k x e = disk-insert key row array fits k x
      (λ same. only_row (sym (ap (fin.get (fin.insert m.vols key row)) same ∙ get-itself vols_total exact_vols m.vols key row) ∙ e))
      (λ other. sym (get-other vols_total exact_vols m.vols key row k other) ∙ e)

  disk-removed : (key k : VolKey) (x : VolRow) → fin.get (fin.remove m.vols key) k ≡ Some x → FitsIn x.size (unwrap_or (fin.get (fin.remove m.disks key) k) fin.empty)
  disk-removed key k x e = by_key vols_total exact_vols (FitsIn x.size (unwrap_or (fin.get (fin.remove m.disks key) k) fin.empty)) k key
      (λ same. absurd (no_row (sym (ap (fin.get (fin.remove m.vols key)) same ∙ get-gone vols_total exact_vols m.vols key) ∙ e)))
      (λ other. subst (λ o. FitsIn x.size (unwrap_or o fin.empty)) (sym (get-left vols_total exact_vols m.disks key k other)) (h.1 k x (sym (get-left vols_total exact_vols m.vols key k other) ∙ e)))

  abbrev Fits : Outcome → Type 0
  Fits d = IndexesFit d.0

  -- what an upload or a volume begins with stands within its least size
  abbrev Holds : Origin → Type 0
  Holds o = FitsIn o.size o.array

  empty-fits : FitsIn 0 fin.empty
  empty-fits = (omega arith, λ i x e. absurd (nothing (sym (fin.get-empty {X = WholeBlock} nat_cmp i) ∙ e)))
    where
      nothing : {x : WholeBlock} → None ≡ Some x → ⊥
      nothing e = cc

  begins : (account : ℕ) (key : SnapKey) (from : Origin) (parent : Option SnapKey) → origin m account key parent ≡ Ok from → Holds from
  begins account key from = begins-with m account key from Holds empty-fits (λ k s is. h.0 k s is)

  begins-volume : (account : ℕ) (key : VolKey) (begun : Origin) (from : Option SnapKey) → volume_origin m account key from ≡ Ok begun → Holds begun
  begins-volume account key begun None e = let same : of_no_origin key ≡ begun = cc in subst Holds same empty-fits
  begins-volume account key begun (Some from) e = begins account (record { account = account; number = 0 }) begun (Some from) e

  -- the size that is made
  made-bound : (size : Option ℕ) (least : ℕ) → is_size_given size ≡ true → least ≤ 16384 → unwrap_or size least ≤ 16384
  made-bound None least e h = h
  made-bound (Some size) least e h = size-bound size e

  fits-volume : (account : ℕ) (key : VolKey) (row : VolRow) (array : WholeArray) (token : Option (List ℕ)) {request : Request} {answer : Answer} → IsCreated m account key row array token request answer → FitsIn row.size array
  fits-volume account key row array token is =
      let was = begins-volume account key is.begun row.origin is.begins in
      let bound = made-bound is.size is.begun.size is.fits was.0 in
      let size = is.size_is in
      let least = is.least in
      subst (λ a. FitsIn row.size a) (sym is.array_is) (omega (arith, bound, size), λ i x e. let there = was.1 i x e in omega (arith, there, least))

  fits-accepted : (account : ℕ) (request : Request) → Accepted Fits m account request
  fits-accepted account (StartSnapshot size parent description tags token timeout) = (
    λ from tests.
        let least : from.size ≤ size = at_most size from.size tests.reaches in (
          fits-insert _ (record { row = _; array = from.array }) (size-bound size tests.fits, λ i x e. let was = (begins account _ from parent tests.begins_with).1 i x e in omega (arith, was, least)),
          h.1,
        ),
    λ row tests. h,
  )
  fits-accepted account (PutSnapshotBlock key index digest bytes) = λ s is passes tests. (fits-insert key (put s m.clock m.stamps index bytes) (grown s.row.size s.array m.stamps index bytes (h.0 key s is) tests.within), h.1)
  fits-accepted account (CompleteSnapshot key count checksum) = λ s is passes tests. (fits-insert key (completed s) (h.0 key s is), h.1)
  fits-accepted account request = others Fits m account request (λ answer says. h) (λ key s row answer is same says. (fits-insert key (rewritten row s) (subst (λ n. FitsIn n s.array) (sym same.size_is) (h.0 key s is)), h.1))
      (λ key s answer is same says. (λ k x e. h.0 k x (was-left snaps_total (λ o. o) refl m.snaps key k x e), h.1))
      (λ k row array token answer is says. (h.0, disk-created k row array (fits-volume account k row array token is)))
      (λ k row answer there is says. (h.0, disk-removed k))
      (λ v row text tags is made. (fits-insert _ (record { row = _; array = disk_of m v }) (h.1 v row is), h.1))
      (λ v row i digest bytes is asked. (h.0, λ k x e. disk-insert v row _ (grown row.size (disk_of m v) m.stamps i bytes (h.1 v row is) asked.tests.within) k x (λ same. only_row (sym is ∙ ap (fin.get m.vols) (sym same) ∙ e)) (λ other. e)))
      (λ command change answer is says. h)
      (λ snaps own policies answer is says. (
        λ k. left-each m account own k IsWithinSize (h.0 k)
            (λ s new. subst (λ n. FitsIn n s.array) (sym (ap (λ (r : SnapRow). r.size) new.row_is)) (subst (FitsIn new.of.1.size) (sym new.array_is) (h.1 new.of.0 new.of.1 new.there)))
            (λ s row mine alters was. subst (λ n. FitsIn n s.array) (sym (ap (λ (r : SnapRow). r.size) alters)) was)
            (fin.get snaps k) (is.leaves k),
        h.1,
      ))

pub fits-step : (m : Machine) (account : ℕ) (reading : Moment) (request : Request) → IndexesFit m → IndexesFit (step m account reading request).0
fits-step m account reading request h =
    let aged = fits-aged m (moment_of m reading) h in
    let at = advance m (moment_of m reading) in
    step-cases (Fits at aged) m account reading request (fits-accepted at aged account request) (λ refusal. aged)

pub fits-empty : (secret : List ℕ) → IndexesFit (empty_machine secret)
fits-empty secret = (λ key s e. absurd (nothing (sym (fin.get-empty {X = Snapshot} snap_cmp key) ∙ e)), λ key row e. absurd (nothing (sym (fin.get-empty {X = VolRow} vol_cmp key) ∙ e)))
  where
    nothing : {X : Type 0} {x : X} → None ≡ Some x → ⊥
    nothing e = cc

pub fits-run : (secret : List ℕ) (turns : List Timed) → IndexesFit (after_all (empty_machine secret) turns)
fits-run secret turns = kept_by_run (λ m. IndexesFit m) (λ m t. fits-step m t.call.account t.reading t.call.request) turns (empty_machine secret) (fits-empty secret)

pub small-index : (s : Snapshot) (index : ℕ) (block : WholeBlock) → IsWithinSize s → fin.get s.array index ≡ Some block → index < 2 ^ 32
small-index s index block fits there = let within = fits.1 index block there in let bound = fits.0 in omega (arith, within, bound)
