-- What a call that reads a block finds.
use Rattle.std.proofs.Common.{◌≡◌, ◌⊎◌, inl, inr, ℕ, Bool, true, false, if◌then◌else◌, List, Option, Some, None, Result, Ok, Err, refl, sym, ap, subst, ◌∙◌}
use Rattle.std.specs.Prelude.{IfOk, IsSome}
use Rattle.std.specs.Str.{bytes_eq}
use Rattle.std.proofs.lemmas.Bool.{false≢true}
use Rattle.std.proofs.lemmas.Slice.Eq.{bytes_eq-Decides}
use Rattle.std.specs.Option.{option_map}
use Rattle.std.specs.FinMap as fin
use Rattle.sha2.specs.Sha256.{sha256}
use Rattle.ebs_world.specs.declared.area.Area.{Area}
use Rattle.ebs_world.specs.View.{View, IsTrueToItself}
use Rattle.ebs_slots.specs.declared.refusal.StageRefusal.{StageRefusal}
use Rattle.ebs_slots.specs.inner.Slots.{SlotTable}
use Rattle.ebs_slots.specs.Slots.{IsBlock}
use Rattle.ebs_slots.specs.inner.Standing.{IsRead}
use Rattle.ebs_model.specs.declared.keys.SnapKey.{SnapKey}
use Rattle.ebs_model.specs.declared.keys.VolKey.{VolKey}
use Rattle.ebs_model.specs.declared.keys.Moment.{Moment}
use Rattle.ebs_model.specs.declared.array.Block.{Block}
use Rattle.ebs_model.specs.declared.request.Request.{Request}
use Rattle.ebs_model.specs.declared.request.Request.TheVariants.{StartSnapshot, PutSnapshotBlock, CompleteSnapshot, ListSnapshotBlocks, ListChangedBlocks, GetSnapshotBlock, DescribeSnapshot, DescribeSnapshots, DeleteSnapshot, ModifyPermission, LockSnapshot, UnlockSnapshot, ArchiveSnapshot, RestoreTier, CreateVolume, CreateSnapshot, WriteVolumeBlock, ReadVolumeBlock, DescribeVolume, DeleteVolume, CreateRule, GetRule, UpdateRule, DeleteRule, ListRules, LockRule, UnlockRule, ListBin, RestoreFromBin, CreatePolicy, GetPolicy, DeletePolicy, RunPolicy}
use Rattle.ebs_model.specs.declared.change.ReadRow.{ReadRow}
use Rattle.ebs_model.specs.declared.change.Decision.{Decision}
use Rattle.ebs_model.specs.declared.change.Decision.TheVariants as decision
use Rattle.ebs_model.specs.declared.answer.Answer.{Answer}
use Rattle.ebs_model.specs.declared.answer.Answer.TheVariants as answers
use Rattle.ebs_model.specs.declared.answer.Refusal.{Refusal}
use Rattle.ebs_model.specs.declared.answer.Refusal.TheVariants as refusals
use Rattle.ebs_model.specs.declared.answer.Failure.{Failure}
use Rattle.ebs_model.specs.declared.answer.Failure.TheVariants.{Refused, Memory}
use Rattle.ebs_model.specs.Refuse.{◌>>=◌, ◌>>◌, some_or, refuse_bad}
use Rattle.ebs_model.specs.Limits.{bad_member}
use Rattle.ebs_model.specs.Arrays.{Hash, WholeArray, WholeBlock}
use Rattle.ebs_model.specs.Calls.Disk.{block_or_zeros}
use Rattle.ebs_model.specs.Kept.{same, kept_request}
use Rattle.ebs_model.specs.inner.Kept.{digested, digested_block, kept_outcome, kept_answer, ActsAlike, AgesAlike}
use Rattle.ebs_model.specs.Machine.{Machine, advance, rows_of}
use Rattle.ebs_model.specs.Decide.{decide}
use Rattle.ebs_model.specs.Step.{act, finish, read, settled}
use Rattle.ebs_model.specs.inner.Follows.{Agrees}
use Rattle.ebs_catalog.specs.Wants.{OnMemory, NamesMember}
use Rattle.ebs_kept.specs.inner.Requests as requests
use Rattle.ebs_kept.specs.inner.Shown.{kept_block}
use Rattle.ebs_kept.proofs.Decided.{IfDone, achieved, refused, after, passed, of_done}
use Rattle.ebs_recovery.specs.Stands.{Holder, snapshot, volume, blocks_at}
use Rattle.ebs_recovery.specs.inner.Stands.{EachBlock}
use Rattle.ebs_recovery.specs.inner.Fits.{Seen, Fit, recorded, running}
use Rattle.ebs_recovery.proofs.Places.{in_slot}
use Rattle.ebs_recovery.proofs.Frames.{fit_tells, fit_honest}
use Rattle.ebs_recovery.proofs.Fitting.{is_machine, block-digested}
use Rattle.ebs_recovery.proofs.Outcomes.{each_aged}
use Rattle.ebs_disk_store.specs.inner.Shown.{AreSlotted}
use Rattle.ebs_disk_store.specs.declared.loading.Loaded.TheVariants as loaded
use Rattle.ebs_disk_store.specs.inner.Told.{at_clock}
use Rattle.ebs_disk_store.specs.inner.Turned.{kept_call, Fails, TurnAt}
use Rattle.ebs_disk_store.specs.inner.Fetched.{IsFetch, IsThere, Finds, Fetched, answer_of}
use Rattle.ebs_disk_store.specs.inner.Fetched as told
use Rattle.ebs_disk_store.proofs.Steps.{kept_is, outcome_is, outcome_err, second_is}
use Rattle.ebs_disk_store.proofs.Wants.{named_wants}

-- the block at the index is answered, or all zeros
abbrev IsAt : Hash → WholeArray → ℕ → Answer → Type 0
IsAt hash array index answer = ((x : WholeBlock) × (fin.get array index ≡ Some x) × (answer ≡ answers.BlockRead (hash x.bytes) x.bytes)) ⊎ (answer ≡ answers.ZeroBlockRead)

-- the machine is left
record IsFound (hash : Hash) (m : Machine) (array : WholeArray) (index : ℕ) (d : Machine × Answer) : Type 0 where
  stays : d.0 ≡ m
  answers : IsAt hash array index d.1

-- where it reads
record IsReading (r : Request) (holder : Holder) (index : ℕ) : Type 0 where
  bare : kept_request r ≡ r
  found : (hash : Hash) (m : Machine) (account : ℕ) (n : Machine) (a : Answer) → act hash m account r ≡ Ok (n, a) → IsFound hash m (blocks_at m holder) index (n, a)
  there : (m : Machine) (block : Block) → IsThere m r block → fin.get (blocks_at m holder) index ≡ Some (kept_block block)

-- rows leave it to blocks
abbrev LeavesIt : Decision → Type 0
LeavesIt (decision.Change change answer) = ⊥
LeavesIt (decision.Kept answer) = ⊥
LeavesIt (decision.View answer) = ⊥
LeavesIt (decision.Read row) = Unit {0}

module _ (hash : Hash) (m : Machine) (r : Request) (array : WholeArray) (index : ℕ) (reads : (row : ReadRow) → IfDone (IsAt hash array index) (read hash m r row)) where
  read_of : (d : Decision) → LeavesIt d → IfDone (IsFound hash m array index) (finish hash m r d)
  read_of (decision.Change change answer) h = absurd h
  read_of (decision.Kept answer) h = absurd h
  read_of (decision.View answer) h = absurd h
  read_of (decision.Read row) h = at (read hash m r row) (reads row)
    where
      at : (x : Result Answer Refusal) → IfDone (IsAt hash array index) x → IfDone (IsFound hash m array index) (x >>= λ answer. Ok (m, answer))
      at (Ok answer) (achieved h) = achieved (record { stays = refl; answers = h })
      at (Err refusal) h = refused

  read_so : (x : Result Decision Refusal) → IfDone LeavesIt x → IfDone (IsFound hash m array index) (x >>= finish hash m r)
  read_so (Ok d) (achieved h) = read_of d h
  read_so (Err refusal) h = refused

get_read : (hash : Hash) (m : Machine) (key : SnapKey) (index : ℕ) (token : List ℕ) (row : ReadRow) → IfDone (IsAt hash (blocks_at m (snapshot key)) index) (read hash m (GetSnapshotBlock key index token) row)
get_read hash m key index token row = passed _ _ _ (at (fin.get (blocks_at m (snapshot key)) index) refl)
  where
    at : (o : Option WholeBlock) → fin.get (blocks_at m (snapshot key)) index ≡ o
        → IfDone (IsAt hash (blocks_at m (snapshot key)) index) (some_or o refusals.BadIndex >>= λ block. Ok (answers.BlockRead (hash block.bytes) block.bytes))
    at None is = refused
    at (Some x) is = achieved (inl (x, is, refl))

volume_read : (hash : Hash) (m : Machine) (key : VolKey) (index : ℕ) (row : ReadRow) → IfDone (IsAt hash (blocks_at m (volume key)) index) (read hash m (ReadVolumeBlock key index) row)
volume_read hash m key index row = passed _ _ _ (achieved (at (fin.get (blocks_at m (volume key)) index) refl))
  where
    at : (o : Option WholeBlock) → fin.get (blocks_at m (volume key)) index ≡ o → IsAt hash (blocks_at m (volume key)) index (block_or_zeros hash o)
    at None is = inr refl
    at (Some x) is = inl (x, is, refl)

get_found : (hash : Hash) (m : Machine) (account : ℕ) (key : SnapKey) (index : ℕ) (token : List ℕ) (n : Machine) (a : Answer) → act hash m account (GetSnapshotBlock key index token) ≡ Ok (n, a)
    → IsFound hash m (blocks_at m (snapshot key)) index (n, a)
get_found hash m account key index token n a e = of_done _ (n, a) _ e
    (read_so hash m (GetSnapshotBlock key index token) (blocks_at m (snapshot key)) index (get_read hash m key index token) (decide (rows_of m) m.clock account (GetSnapshotBlock key index token))
    (after LeavesIt _ _ (λ row. achieved tt)))

volume_found : (hash : Hash) (m : Machine) (account : ℕ) (key : VolKey) (index : ℕ) (n : Machine) (a : Answer) → act hash m account (ReadVolumeBlock key index) ≡ Ok (n, a)
    → IsFound hash m (blocks_at m (volume key)) index (n, a)
volume_found hash m account key index n a e = of_done _ (n, a) _ e
    (read_so hash m (ReadVolumeBlock key index) (blocks_at m (volume key)) index (volume_read hash m key index) (decide (rows_of m) m.clock account (ReadVolumeBlock key index))
    (after LeavesIt _ _ (λ row. achieved tt)))

reading : (r : Request) → IsFetch r → (holder : Holder) × (index : ℕ) × IsReading r holder index
reading (StartSnapshot size parent description tags token timeout) h = absurd h
reading (PutSnapshotBlock at index digest bytes) h = absurd h
reading (CompleteSnapshot at count checksum) h = absurd h
reading (ListSnapshotBlocks at page most start) h = absurd h
reading (ListChangedBlocks first second page most start) h = absurd h
reading (GetSnapshotBlock at index token) h = (snapshot at, index, record { bare = refl; found = λ hash m account n a e. get_found hash m account at index token n a e; there = λ m block e. e })
reading (DescribeSnapshot at) h = absurd h
reading (DescribeSnapshots from most) h = absurd h
reading (DeleteSnapshot at) h = absurd h
reading (ModifyPermission at add add_all remove remove_all) h = absurd h
reading (LockSnapshot at mode term cool_hours) h = absurd h
reading (UnlockSnapshot at) h = absurd h
reading (ArchiveSnapshot at) h = absurd h
reading (RestoreTier at days) h = absurd h
reading (CreateVolume origin size tags token) h = absurd h
reading (CreateSnapshot at description tags) h = absurd h
reading (WriteVolumeBlock at index digest bytes) h = absurd h
reading (ReadVolumeBlock at index) h = (volume at, index, record { bare = refl; found = λ hash m account n a e. volume_found hash m account at index n a e; there = λ m block e. e })
reading (DescribeVolume at) h = absurd h
reading (DeleteVolume at) h = absurd h
reading (CreateRule days tags description delay) h = absurd h
reading (GetRule at) h = absurd h
reading (UpdateRule at days tags description) h = absurd h
reading (DeleteRule at) h = absurd h
reading ListRules h = absurd h
reading (LockRule at delay) h = absurd h
reading (UnlockRule at) h = absurd h
reading (ListBin from most) h = absurd h
reading (RestoreFromBin at) h = absurd h
reading (CreatePolicy targets hours time retain add) h = absurd h
reading (GetPolicy at) h = absurd h
reading (DeletePolicy at) h = absurd h
reading (RunPolicy at) h = absurd h

pub fetch_bare : (r : Request) → IsFetch r → kept_request r ≡ r
fetch_bare r fetch = (reading r fetch).2.bare

module _ (at : Machine) (account : ℕ) where
  -- a member out of its limits
  pub find_bad : (r : Request) (f : Failure) → Agrees (Err f) (refuse_bad (bad_member r)) → OnMemory {A = Unit {0}} (Err f) (NamesMember (refuse_bad (bad_member r))) → Finds at account r (Err f)
  find_bad r (Refused refusal) e h = ap (λ (x : Result (Unit {0}) Refusal). x >> act same at account r) (sym e)
  find_bad r Memory e h = named_wants at account r h

  passed_is : (r : Request) → Ok tt ≡ refuse_bad (bad_member r) → kept_call at account r ≡ act same at account r
  passed_is r passed = ap (λ (x : Result (Unit {0}) Refusal). x >> act same at account r) (sym passed)

  pub find_got : (key : SnapKey) (index : ℕ) (token : List ℕ) (block : Block) → Ok tt ≡ refuse_bad (bad_member (GetSnapshotBlock key index token))
      → requests.Finds at (Ok block) (act same at account (GetSnapshotBlock key index token)) → fin.get (blocks_at at (snapshot key)) index ≡ Some (kept_block block)
      → Finds at account (GetSnapshotBlock key index token) (Ok (Some block))
  find_got key index token block passed e there = (passed_is (GetSnapshotBlock key index token) passed ∙ e, there)

  pub find_failed : (r : Request) (f : Failure) → Ok tt ≡ refuse_bad (bad_member r) → requests.Finds at (Err f) (act same at account r) → OnMemory {A = Block} (Err f) ⊥ → Finds at account r (Err f)
  find_failed r (Refused refusal) passed e never = passed_is r passed ∙ e
  find_failed r Memory passed e never = absurd never

  pub find_volume : (key : VolKey) (index : ℕ) (result : Result (Option Block) Failure) → Ok tt ≡ refuse_bad (bad_member (ReadVolumeBlock key index))
      → requests.FindsOrZeros at result (act same at account (ReadVolumeBlock key index))
      → ((found : Option Block) → result ≡ Ok found → option_map kept_block found ≡ fin.get (blocks_at at (volume key)) index) → OnMemory result ⊥ → Finds at account (ReadVolumeBlock key index) result
  find_volume key index (Ok (Some block)) passed e there never = (passed_is (ReadVolumeBlock key index) passed ∙ e, sym (there (Some block) refl))
  find_volume key index (Ok None) passed e there never = passed_is (ReadVolumeBlock key index) passed ∙ e
  find_volume key index (Err (Refused refusal)) passed e there never = passed_is (ReadVolumeBlock key index) passed ∙ e
  find_volume key index (Err Memory) passed e there never = absurd never

-- a block that is found has a slot
pub has_slot : (keys : _) (m : Machine) (now : Moment) (account : ℕ) (r : Request) (block : Block) → IsFetch r → AreSlotted keys m → Finds (advance m now) account r (Ok (Some block)) → IsSome (fin.get keys block.stamp)
has_slot keys m now account r block fetch slotted finds =
    let is = reading r fetch in
    each_aged (λ x. IsSome (fin.get keys x.stamp)) m now slotted is.0 is.1 (kept_block block) (is.2.there (advance m now) block finds.1)

-- ---- what is told, whatever the disk

module _ (Still Rose : Type 0) (v : View) (s t : Seen) (account : ℕ) (now : Moment) (r : Request) where
  pub told_failed : (f : Failure) (answer : Answer) → Finds (advance s.recorded now) account r (Err f) → Fails s t now f answer → Still → Fetched Still Rose v s t account now r answer
  told_failed (Refused refusal) answer e how still = subst (Fetched Still Rose v s t account now r) (sym how.1) (told.refused refusal e how.0 still)
  told_failed Memory answer e how still = subst (Fetched Still Rose v s t account now r) (sym how.1) (told.memory still how.0)

  -- whatever digest the bytes have that were loaded
  pub told_loaded : (block : Block) (bytes : List ℕ) → Finds (advance s.recorded now) account r (Ok (Some block)) → (slots : SlotTable) → slots ≡ s.slots → IsRead v slots block.stamp bytes → t ≡ at_clock s now
      → Fetched Still Rose v s t account now r (answer_of (loaded.Block block.digest bytes))
  told_loaded block bytes finds slots same_slots read clock = by (bytes_eq (sha256 bytes) block.digest) refl
    where
      by : (b : Bool) → bytes_eq (sha256 bytes) block.digest ≡ b
          → Fetched Still Rose v s t account now r (if b then answers.BlockRead block.digest bytes else answers.Refused (refusals.Damaged block.digest (sha256 bytes)))
      by true e = told.fetched block.digest bytes finds.0 ((bytes_eq-Decides (sha256 bytes) block.digest).0 e) clock
      by false e = told.damaged block.digest (sha256 bytes) finds.0 (λ same. false≢true (sym e ∙ (bytes_eq-Decides (sha256 bytes) block.digest).1 same))
          (block, finds.1, (bytes, subst (λ (u : SlotTable). IsRead v u block.stamp bytes) same_slots read, refl)) clock

-- bytes with the digest that is kept are answered
good_answer : (stored bytes : List ℕ) → sha256 bytes ≡ stored → answers.BlockRead stored bytes ≡ answer_of (loaded.Block stored bytes)
good_answer stored bytes e =
    ap (λ (b : Bool). if b then answers.BlockRead stored bytes else answers.Refused (refusals.Damaged stored (sha256 bytes))) (sym ((bytes_eq-Decides (sha256 bytes) stored).1 e))

-- the bytes that are loaded are those that stand in the block's slot
abbrev pub LoadsAt : View → SlotTable → Block → Result (List ℕ) StageRefusal → Type 0
LoadsAt v slots block result = (slot : ℕ) (bytes : List ℕ) → fin.get slots.keys block.stamp ≡ Some slot → v.tells ≡ true → IsBlock v.reads slots.area slot bytes → IfOk result (λ given. given ≡ bytes)

-- ---- the machine's own step

no_ok : {A : Type 0} (refusal : Refusal) (d : Machine × Answer) → ◌≡◌ {A = Result (Machine × Answer) Refusal} (Err refusal) (Ok d) → A
no_ok refusal d e = absurd (cc)

digests : (a b c d : List ℕ) → answers.BlockRead a b ≡ answers.BlockRead c d → a ≡ c
digests a b c d e = cc

zero_no : {A : Type 0} (a b : List ℕ) (x : Answer) → x ≡ answers.ZeroBlockRead → kept_answer x ≡ answers.BlockRead a b → A
zero_no a b x is e = absurd (no (ap kept_answer (sym is) ∙ e))
  where
    no : answers.ZeroBlockRead ≡ answers.BlockRead a b → ⊥
    no e = cc

abbrev stamp_in : Option WholeBlock → ℕ
stamp_in None = 0
stamp_in (Some x) = x.stamp

stamps : (x : WholeBlock) (block : Block) → ◌≡◌ {A = Option WholeBlock} (Some (digested_block x)) (Some (kept_block block)) → x.stamp ≡ block.stamp
stamps x block e = ap stamp_in e

module _ (v : View) (law : IsTrueToItself v) (acts : ActsAlike) (ages : AgesAlike) (s : Seen) (fit : Fit v s) (now : Moment) (account : ℕ) (r : Request) (fetch : IsFetch r) where
  abbrev M : Machine
  M = advance (recorded v s) now

  abbrev kept : Machine
  kept = advance s.recorded now

  abbrev Outcome : Type 0
  Outcome = Result (Machine × Answer) Refusal

  abbrev holder : Holder
  holder = (reading r fetch).0

  abbrev index : ℕ
  index = (reading r fetch).1

  at_block : IsReading r holder index
  at_block = (reading r fetch).2

  same_is : act same kept account r ≡ kept_outcome (act sha256 M account r)
  same_is = outcome_is v law acts ages s fit now account r r at_block.bare

  same_form : kept ≡ digested M
  same_form = kept_is v law acts ages s fit now account r r at_block.bare

  call_refused : (o : Option (List ℕ)) (refusal : Refusal) → (refuse_bad o >> act same kept account r) ≡ Err refusal → (refuse_bad o >> act sha256 M account r) ≡ Err refusal
  call_refused None refusal e = outcome_err (act sha256 M account r) refusal (sym same_is ∙ e)
  call_refused (Some name) refusal e = e

  -- the machine's answer is the kept form's, with bytes for the digest
  record IsAnswer (answer : Answer) : Type 0 where
    whole : Answer
    is : (refuse_bad (bad_member r) >> act sha256 M account r) ≡ Ok (M, whole)
    kept : kept_answer whole ≡ answer
    at : IsAt sha256 (blocks_at M holder) index whole

  answer_is : (answer : Answer) → kept_call kept account r ≡ Ok (kept, answer) → IsAnswer answer
  answer_is answer e = at (bad_member r) refl e
    where
      by : (x : Outcome) → act sha256 M account r ≡ x → kept_outcome x ≡ Ok (kept, answer) → bad_member r ≡ None → IsAnswer answer
      by (Ok d) found f none =
          let was = at_block.found sha256 M account d.0 d.1 found in
          record {
            whole = d.1;
            is = ap (λ (o : Option (List ℕ)). refuse_bad o >> act sha256 M account r) none ∙ found ∙ ap (λ (m : Machine). Ok (m, d.1)) was.stays;
            kept = second_is (digested d.0) kept (kept_answer d.1) answer f;
            at = was.answers;
          }
      by (Err refusal) found f none = no_ok refusal (kept, answer) f

      at : (o : Option (List ℕ)) → bad_member r ≡ o → (refuse_bad o >> act same kept account r) ≡ Ok (kept, answer) → IsAnswer answer
      at None none f = by (act sha256 M account r) refl (sym same_is ∙ f) none
      at (Some name) none f = no_ok (refusals.BadParameter name) (kept, answer) f

  -- the block that is read, with its bytes
  record IsWhole (block : Block) : Type 0 where
    bytes : List ℕ
    call : (refuse_bad (bad_member r) >> act sha256 M account r) ≡ Ok (M, answers.BlockRead (sha256 bytes) bytes)
    digest : block.digest ≡ sha256 bytes
    slot : ℕ
    found : fin.get s.slots.keys block.stamp ≡ Some slot
    stands : IsBlock v.reads s.slots.area slot bytes

  abbrev StandsAt : WholeBlock → Type 0
  StandsAt x = (slot : ℕ) × (fin.get s.slots.keys x.stamp ≡ Some slot) × IsBlock v.reads s.slots.area slot x.bytes

  standing : EachBlock StandsAt M
  standing = each_aged StandsAt (recorded v s) now (subst (EachBlock StandsAt) (sym (is_machine v s law fit))
      (λ key i x e.
      let own = in_slot v.reads fit.state.slots key i x (fit.right.stand v.reads (law.reads_as_image (fit_tells v s fit) (fit_honest v s fit)) key i x e) in
      (own.slot, fit.right.keys key i x e ∙ own.found, subst (λ (a : Area). IsBlock v.reads a own.slot x.bytes) (sym fit.right.area) own.stands)))

  whole_is : (block : Block) → Finds kept account r (Ok (Some block)) → IsWhole block
  whole_is block finds = by (answer_is (answers.BlockRead block.digest block.digest) finds.0)
    where
      of : (a : IsAnswer (answers.BlockRead block.digest block.digest)) (x : WholeBlock) → fin.get (blocks_at M holder) index ≡ Some x → a.whole ≡ answers.BlockRead (sha256 x.bytes) x.bytes → IsWhole block
      of a x here answered =
          let stamp : x.stamp ≡ block.stamp = stamps x block (sym (ap (option_map digested_block) here) ∙ sym (block-digested M holder index) ∙ ap (λ (m : Machine). fin.get (blocks_at m holder) index) (sym same_form) ∙ at_block.there kept block finds.1) in
          let at = standing holder index x here in
          record {
            bytes = x.bytes;
            call = a.is ∙ ap (λ (w : Answer). Ok (M, w)) answered;
            digest = sym (digests (sha256 x.bytes) (sha256 x.bytes) block.digest block.digest (ap kept_answer (sym answered) ∙ a.kept));
            slot = at.0;
            found = ap (λ (n : ℕ). fin.get s.slots.keys n) (sym stamp) ∙ at.1;
            stands = at.2;
          }

      by : IsAnswer (answers.BlockRead block.digest block.digest) → IsWhole block
      by a = at a.at
        where
          at : IsAt sha256 (blocks_at M holder) index a.whole → IsWhole block
          at (inl f) = of a f.0 f.1 f.2
          at (inr zeros) = zero_no block.digest block.digest a.whole zeros a.kept

  module _ (new : View) (t : Seen) (machine : recorded new t ≡ recorded v s) (clock : t.clock ≡ now) where
    running_is : running new t ≡ M
    running_is = λ i. advance (machine i) (clock i)

    pub turn_loaded : (block : Block) (bytes : List ℕ) → Finds kept account r (Ok (Some block)) → LoadsAt v s.slots block (Ok bytes) → TurnAt v new s t account now r (answer_of (loaded.Block block.digest bytes))
    turn_loaded block bytes finds loads =
        let w = whole_is block finds in
        let is : bytes ≡ w.bytes = loads w.slot w.bytes w.found (fit_tells v s fit) w.stands in
        let whole : answers.BlockRead (sha256 w.bytes) w.bytes ≡ answers.BlockRead block.digest bytes = (λ i. answers.BlockRead (sym w.digest i) (sym is i)) in
        let answer : answers.BlockRead (sha256 w.bytes) w.bytes ≡ answer_of (loaded.Block block.digest bytes) = whole ∙ good_answer block.digest bytes (ap sha256 is ∙ sym w.digest) in
        inl (ap (settled M) w.call ∙ (λ i. (sym running_is i, answer i)))

    pub turn_zeros : Finds kept account r (Ok None) → TurnAt v new s t account now r answers.ZeroBlockRead
    turn_zeros finds = by (answer_is answers.ZeroBlockRead finds)
      where
        block_no : {A : Type 0} (a b : List ℕ) → answers.BlockRead a b ≡ answers.ZeroBlockRead → A
        block_no a b e = absurd (cc)

        by : IsAnswer answers.ZeroBlockRead → TurnAt v new s t account now r answers.ZeroBlockRead
        by a = at a.at
          where
            at : IsAt sha256 (blocks_at M holder) index a.whole → TurnAt v new s t account now r answers.ZeroBlockRead
            at (inl f) = block_no (sha256 f.0.bytes) (sha256 f.0.bytes) (ap kept_answer (sym f.2) ∙ a.kept)
            at (inr zeros) = inl (ap (settled M) (a.is ∙ ap (λ (w : Answer). Ok (M, w)) zeros) ∙ (λ i. (sym running_is i, answers.ZeroBlockRead)))

    pub turn_refused : (refusal : Refusal) → Finds kept account r (Err (Refused refusal)) → TurnAt v new s t account now r (answers.Refused refusal)
    turn_refused refusal finds = inl (ap (settled M) (call_refused (bad_member r) refusal finds) ∙ (λ i. (sym running_is i, answers.Refused refusal)))

  pub turn_failed : (t : Seen) (f : Failure) (answer : Answer) → Finds kept account r (Err f) → Fails s t now f answer → TurnAt v v s t account now r answer
  turn_failed t (Refused refusal) answer finds how = subst (TurnAt v v s t account now r) (sym how.1) (turn_refused v t (ap (recorded v) how.0) (ap (λ (u : Seen). u.clock) how.0) refusal finds)
  turn_failed t Memory answer finds how = inr (inr how.1, ap (running v) how.0, ap (recorded v) how.0)
