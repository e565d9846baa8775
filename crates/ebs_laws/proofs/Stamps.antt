-- A block is known by its stamp.
use Rattle.std.proofs.Common.{◌≡◌, ◌⊎◌, inl, inr, ℕ, arith, Bool, true, false, cond, List, Option, Some, None, Ok, sym, ap, ◌∙◌, refl, ◌+◌, ◌<◌, unwrap_or, subst}
use Rattle.std.specs.FinMap as fin
use Rattle.std.specs.Ordering.{nat_cmp}
use Rattle.std.specs.Cmp.{nat_cmp_total}
use Rattle.ebs_model.specs.declared.keys.SnapKey.{SnapKey}
use Rattle.ebs_model.specs.declared.keys.Moment.{Moment}
use Rattle.ebs_model.specs.declared.request.Request.{Request}
use Rattle.ebs_model.specs.declared.request.Request.TheVariants.{StartSnapshot, PutSnapshotBlock, CompleteSnapshot}
use Rattle.ebs_model.specs.Keys.{snap_cmp, vol_cmp}
use Rattle.ebs_model.specs.Arrays.{WholeBlock, WholeArray}
use Rattle.ebs_model.specs.Time.{Snapshot}
use Rattle.ebs_model.specs.Machine.{Machine, advance, moment_of, empty_machine, disk_of}
use Rattle.ebs_model.specs.Step.{step, bytes_of}
use Rattle.ebs_model.specs.inner.Orders.{snaps_total, vols_total, exact_vols}
use Rattle.ebs_tables.proofs.MapEdits.{get-inserted}
use Rattle.ebs_model.proofs.Aged.{aged_row, get-aged, found-rested, fails}
use Rattle.ebs_laws.proofs.Maps.{was-left, by_key, get-itself, get-other}
use Rattle.ebs_model.specs.Timed.{Timed, turn, after_all}
use Rattle.ebs_laws.specs.Puts.{block_in, StampsGiven, IsBlockOf, StampsTell}
use Rattle.ebs_laws.proofs.Cases.{Outcome, Accepted, step-cases}
use Rattle.ebs_laws.proofs.Others.{others}
use Rattle.ebs_laws.proofs.Origins.{begins-with}
use Rattle.ebs_laws.proofs.Given.{kept_by_run}
use Rattle.ebs_laws.proofs.Whole.{Origin, origin, completed, rewritten, written, volume_origin, of_no_origin}
use Rattle.ebs_laws.specs.Uploads.{put}
use Rattle.ebs_model.specs.declared.keys.VolKey.{VolKey}
use Rattle.ebs_laws.proofs.Counts.{stamps_rise}
use Rattle.ebs_model.specs.declared.answer.Answer.TheVariants.{BlockWritten}
use Rattle.ebs_laws.proofs.PolicyRuns.{left-holds}

-- a block that time leaves was there
was-there : (m : Machine) (now : Moment) (x : WholeBlock) → IsBlockOf (advance m now) x → IsBlockOf m x
was-there m now x (inr there) = inr there
was-there m now x (inl (key, index, e)) = inl (key, index, kept (fin.get m.snaps key) (ap (λ o. block_in o index) (sym (get-aged now.second m.snaps key)) ∙ e))
  where
    emptied : (s : Snapshot) (b : Bool) → fin.get (cond b fin.empty s.array) index ≡ Some x → fin.get s.array index ≡ Some x
    emptied s true e = let none = fin.get-empty {X = WholeBlock} nat_cmp index in cc
    emptied s false e = e

    rests : (o : Option Snapshot) (s : Snapshot) → aged_row now.second (Some s) ≡ o → block_in o index ≡ Some x → fin.get s.array index ≡ Some x
    rests None s is e = cc
    rests (Some t) s is e = emptied s (fails s now.second) (ap (λ (s : Snapshot). fin.get s.array index) (found-rested now.second s t is) ∙ e)

    kept : (o : Option Snapshot) → block_in (aged_row now.second o) index ≡ Some x → block_in o index ≡ Some x
    kept None e = cc
    kept (Some s) e = rests (aged_row now.second (Some s)) s refl e

-- the block that a put or a write makes
abbrev made : ℕ → Request → WholeBlock
made stamp request = record { stamp = stamp; bytes = bytes_of request }

nothing : {x : WholeBlock} → None ≡ Some x → ⊥
nothing e = cc

module _ (m : Machine) where
  -- a block is the new one, which is written, or was there
  abbrev Each : WholeBlock → ℕ → WholeBlock → Type 0
  Each new next x = ((x ≡ new) × (m.stamps < next)) ⊎ IsBlockOf m x

  abbrev Comes : WholeBlock → Outcome → Type 0
  Comes new d = (x : WholeBlock) → IsBlockOf d.0 x → Each new d.0.stamps x

  abbrev Known : WholeArray → Type 0
  Known array = (i : ℕ) (x : WholeBlock) → fin.get array i ≡ Some x → IsBlockOf m x

  module _ (new : WholeBlock) (next : ℕ) where
    abbrev disk_in : Option WholeArray → WholeArray
    disk_in o = unwrap_or o fin.empty

    abbrev Snaps : fin.FinMap snap_cmp Snapshot → Type 0
    Snaps snaps = (x : WholeBlock) (k : SnapKey) (i : ℕ) → block_in (fin.get snaps k) i ≡ Some x → Each new next x

    abbrev Disks : fin.FinMap vol_cmp WholeArray → Type 0
    Disks disks = (x : WholeBlock) (k : VolKey) (i : ℕ) → fin.get (disk_in (fin.get disks k)) i ≡ Some x → Each new next x

    same-snaps : Snaps m.snaps
    same-snaps x k i e = inr (inl (k, i, e))

    same-disks : Disks m.disks
    same-disks x k i e = inr (inr (k, i, e))

    with-snap : (key : SnapKey) (t : Snapshot) → ((i : ℕ) (x : WholeBlock) → fin.get t.array i ≡ Some x → Each new next x) → (x : WholeBlock) (k : SnapKey) (i : ℕ) → block_in (fin.get (fin.insert m.snaps key t) k) i ≡ Some x → Each new next x
    with-snap key t each x k i e = at (fin.get (fin.insert m.snaps key t) k) refl e
      where
        which : (s : Snapshot) → fin.get s.array i ≡ Some x → ((s ≡ t) ⊎ (fin.get m.snaps k ≡ Some s)) → Each new next x
        which s e (inl same) = each i x (ap (λ (s : Snapshot). fin.get s.array i) (sym same) ∙ e)
        which s e (inr is) = inr (inl (k, i, ap (λ o. block_in o i) is ∙ e))

        at : (o : Option Snapshot) → fin.get (fin.insert m.snaps key t) k ≡ o → block_in o i ≡ Some x → Each new next x
        at None is e = cc
        at (Some s) is e = which s e (get-inserted snaps_total m.snaps key t k s is)

    with-disk : (key : VolKey) (array : WholeArray) → ((i : ℕ) (x : WholeBlock) → fin.get array i ≡ Some x → Each new next x) → (x : WholeBlock) (k : VolKey) (i : ℕ) → fin.get (disk_in (fin.get (fin.insert m.disks key array) k)) i ≡ Some x → Each new next x
    with-disk key array each x k i e = by_key vols_total exact_vols (Each new next x) k key
        (λ same. each i x (ap (λ o. fin.get (disk_in o) i) (sym (ap (fin.get (fin.insert m.disks key array)) same ∙ get-itself vols_total exact_vols m.disks key array)) ∙ e))
        (λ other. inr (inr (k, i, ap (λ o. fin.get (disk_in o) i) (sym (get-other vols_total exact_vols m.disks key array k other)) ∙ e)))

    without-disk : (key : VolKey) (x : WholeBlock) (k : VolKey) (i : ℕ) → fin.get (disk_in (fin.get (fin.remove m.disks key) k)) i ≡ Some x → Each new next x
    without-disk key x k i e = inr (inr (k, i, was-left vols_total (λ o. fin.get (disk_in o) i) (fin.get-empty nat_cmp i) m.disks key k x e))

    both : (snaps : fin.FinMap snap_cmp Snapshot) (disks : fin.FinMap vol_cmp WholeArray) → Snaps snaps → Disks disks
        → (x : WholeBlock) → (((k : SnapKey) × (i : ℕ) × (block_in (fin.get snaps k) i ≡ Some x)) ⊎ ((k : VolKey) × (i : ℕ) × (fin.get (disk_in (fin.get disks k)) i ≡ Some x))) → Each new next x
    both snaps disks s v x (inl there) = s x there.0 there.1 there.2
    both snaps disks s v x (inr there) = v x there.0 there.1 there.2

  -- one block more, with the next stamp
  one-more : (array : WholeArray) (index : ℕ) (bytes : List ℕ) → Known array → let new : WholeBlock = record { stamp = m.stamps; bytes = bytes } in (i : ℕ) (x : WholeBlock) → fin.get (fin.insert array index new) i ≡ Some x → Each new (m.stamps + 1) x
  one-more array index bytes known i x e = which (get-inserted nat_cmp_total array index (record { stamp = m.stamps; bytes = bytes }) i x e)
    where
      which : ((x ≡ record { stamp = m.stamps; bytes = bytes }) ⊎ (fin.get array i ≡ Some x)) → Each (record { stamp = m.stamps; bytes = bytes }) (m.stamps + 1) x
      which (inl now) = inl (now, omega arith)
      which (inr was) = inr (known i x was)

  of-snap : (key : SnapKey) (s : Snapshot) → fin.get m.snaps key ≡ Some s → Known s.array
  of-snap key s is i x e = inl (key, i, ap (λ o. block_in o i) is ∙ e)

  of-disk : (key : VolKey) → Known (disk_of m key)
  of-disk key i x e = inr (key, i, e)

  of-none : Known fin.empty
  of-none i x e = absurd (nothing (sym (fin.get-empty {X = WholeBlock} nat_cmp i) ∙ e))

  -- what an upload or a volume begins with was there
  known : (account : ℕ) (key : SnapKey) (from : Origin) (parent : Option SnapKey) → origin m account key parent ≡ Ok from → Known from.array
  known account key from = begins-with m account key from (λ o. Known o.array) of-none of-snap

  known-volume : (account : ℕ) (key : VolKey) (begun : Origin) (from : Option SnapKey) → volume_origin m account key from ≡ Ok begun → Known begun.array
  known-volume account key begun None e = let same : of_no_origin key ≡ begun = cc in subst (λ (o : Origin). Known o.array) same of-none
  known-volume account key begun (Some from) e = known account (record { account = account; number = 0 }) begun (Some from) e

  comes-accepted : (account : ℕ) (request : Request) → Accepted (Comes (made m.stamps request)) m account request
  comes-accepted account (StartSnapshot size parent description tags token timeout) = (
    λ from tests. both _ m.stamps _ _ (with-snap _ m.stamps _ (record { row = _; array = from.array }) (λ i x e. inr (known account _ from parent tests.begins_with i x e))) (same-disks _ m.stamps),
    λ row tests x there. inr there,
  )
  comes-accepted account (PutSnapshotBlock key index digest bytes) = λ s is passes tests.
      both _ (m.stamps + 1) _ _ (with-snap _ (m.stamps + 1) key (put s m.clock m.stamps index bytes) (one-more s.array index bytes (of-snap key s is))) (same-disks _ (m.stamps + 1))
  comes-accepted account (CompleteSnapshot key count checksum) = λ s is passes tests.
      both _ m.stamps _ _ (with-snap _ m.stamps key (completed s) (λ i x e. inr (of-snap key s is i x e))) (same-disks _ m.stamps)
  comes-accepted account request =
      let new : WholeBlock = made m.stamps request in
      others (Comes new) m account request (λ answer says x there. inr there)
      (λ key s row answer is same says. both new m.stamps _ _ (with-snap new m.stamps key (rewritten row s) (λ i x e. inr (of-snap key s is i x e))) (same-disks new m.stamps))
      (λ key s answer is same says. both new m.stamps _ _ (λ x k i e. inr (inl (k, i, was-left snaps_total (λ o. block_in o i) refl m.snaps key k x e))) (same-disks new m.stamps))
      (λ k row array token answer is says. both new m.stamps _ _ (same-snaps new m.stamps) (with-disk new m.stamps k array (λ i x e. inr (known-volume account k is.begun row.origin is.begins i x (ap (λ a. fin.get a i) (sym is.array_is) ∙ e)))))
      (λ k row answer out is says. both new m.stamps _ _ (same-snaps new m.stamps) (without-disk new m.stamps k))
      (λ v row text tags is made. both new m.stamps _ _ (with-snap new m.stamps _ (record { row = _; array = disk_of m v }) (λ i x e. inr (of-disk v i x e))) (same-disks new m.stamps))
      (λ v row i digest bytes is asked.
      subst (λ new. Comes new (written m v i bytes, BlockWritten digest)) (ap (made m.stamps) (sym asked.request_is))
      (both _ (m.stamps + 1) _ _ (same-snaps _ (m.stamps + 1)) (with-disk _ (m.stamps + 1) v _ (one-more (disk_of m v) i bytes (of-disk v)))))
      (λ command change answer is says. both new m.stamps _ _ (same-snaps new m.stamps) (same-disks new m.stamps))
      (λ snaps own policies answer is says. both new m.stamps _ _
      (λ x k i. left-holds m account own k (λ o. block_in o i ≡ Some x → Each new m.stamps x) (λ e. inr (inl (k, i, e))) (λ e. cc)
      (λ s fresh e. inr (of-disk fresh.of.0 i x (ap (λ a. fin.get a i) (sym fresh.array_is) ∙ e))) (λ s row mine alters was. was) (fin.get snaps k) (is.leaves k))
      (same-disks new m.stamps))

comes : (m : Machine) (account : ℕ) (reading : Moment) (request : Request) (x : WholeBlock) → let s = step m account reading request in IsBlockOf s.0 x → Each m (made m.stamps request) s.0.stamps x
comes m account reading request x there =
    let at = advance m (moment_of m reading) in
    before _ (step-cases (Comes at (made at.stamps request)) m account reading request (comes-accepted at account request) (λ refusal x there. inr there) x there)
  where
    before : (next : ℕ) → Each (advance m (moment_of m reading)) (made m.stamps request) next x → Each m (made m.stamps request) next x
    before next (inl new) = inl new
    before next (inr was) = inr (was-there m (moment_of m reading) x was)

abbrev stamp_of : WholeBlock → ℕ
stamp_of x = x.stamp

pub stamps-step : (m : Machine) (account : ℕ) (reading : Moment) (request : Request) → StampsGiven m → StampsGiven (step m account reading request).0
stamps-step m account reading request given x there = by (comes m account reading request x there)
  where
    by : Each m (made m.stamps request) (step m account reading request).0.stamps x → x.stamp < (step m account reading request).0.stamps
    by (inl (is, more)) = let new = ap stamp_of is in omega (arith, new, more)
    by (inr was) = let old = given x was in let rise = stamps_rise m account reading request in omega (arith, old, rise)

pub tells-step : (m : Machine) (account : ℕ) (reading : Moment) (request : Request) → StampsGiven m → StampsTell m → StampsTell (step m account reading request).0
tells-step m account reading request given tells x y one two same = by _ (comes m account reading request x one) (comes m account reading request y two)
  where
    apart : (a b : WholeBlock) → a ≡ made m.stamps request → IsBlockOf m b → a.stamp ≡ b.stamp → ⊥
    apart a b is was e =
        let old = given b was in
        let new = ap stamp_of is in
        omega (arith, old, new, e)

    by : (next : ℕ) → Each m (made m.stamps request) next x → Each m (made m.stamps request) next y → x ≡ y
    by next (inl a) (inl b) = a.0 ∙ sym b.0
    by next (inl a) (inr b) = absurd (apart x y a.0 b same)
    by next (inr a) (inl b) = absurd (apart y x b.0 a (sym same))
    by next (inr a) (inr b) = tells x y a b same

no_block : (secret : List ℕ) (x : WholeBlock) → IsBlockOf (empty_machine secret) x → ⊥
no_block secret x (inl (key, index, e)) = nothing (sym (ap (λ o. block_in o index) (fin.get-empty {X = Snapshot} snap_cmp key)) ∙ e)
no_block secret x (inr (key, index, e)) = nothing (sym (ap (λ o. fin.get (unwrap_or o fin.empty) index) (fin.get-empty {X = WholeArray} vol_cmp key) ∙ fin.get-empty {X = WholeBlock} nat_cmp index) ∙ e)

pub stamps-empty : (secret : List ℕ) → StampsGiven (empty_machine secret)
stamps-empty secret x there = absurd (no_block secret x there)

pub stamps-run : (secret : List ℕ) (turns : List Timed) → StampsGiven (after_all (empty_machine secret) turns)
stamps-run secret turns = kept_by_run (λ m. StampsGiven m) (λ m t. stamps-step m t.call.account t.reading t.call.request) turns (empty_machine secret) (stamps-empty secret)

pub tells-run : (secret : List ℕ) (turns : List Timed) → StampsTell (after_all (empty_machine secret) turns)
tells-run secret turns = (kept_by_run (λ m. StampsGiven m × StampsTell m) each turns (empty_machine secret) (stamps-empty secret, λ x y one two same. absurd (no_block secret x one))).1
  where
    each : (m : Machine) (t : Timed) → StampsGiven m × StampsTell m → StampsGiven (turn m t).0 × StampsTell (turn m t).0
    each m t h = (stamps-step m t.call.account t.reading t.call.request h.0, tells-step m t.call.account t.reading t.call.request h.0 h.1)
