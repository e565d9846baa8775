-- What a store on a disk tells, by what it keeps.
use Rattle.std.proofs.Common.{◌≡◌, ◌-◌, if◌then◌else◌, inl, inr, ⊎_elim, ℕ, Bool, true, false, refl, List, [], ◌∷◌, Option, Some, None, Result, Ok, Err, sym, ap, subst, ◌∙◌}
use Rattle.sha2.specs.Sha256.{sha256}
use Rattle.ebs_world.specs.declared.area.Area.{Area}
use Rattle.ebs_world.specs.declared.area.Area.TheVariants.{Blocks}
use Rattle.ebs_world.specs.Image.{Spells}
use Rattle.ebs_world.specs.View.{View}
use Rattle.std.specs.Prelude.{IsSome, nat_le}
use Rattle.std.specs.FinMap as fin
use Rattle.ebs_holds.specs.Counted.{without_stamp}
use Rattle.ebs_slots.specs.inner.Slots.{SlotTable, IsNext, adopted, count_of, forgotten, released, staged}
use Rattle.ebs_slots.specs.Slots.{start_of}
use Rattle.ebs_slots.proofs.Maps.{gone}
use Rattle.ebs_http.specs.declared.message.Message.{Message}
use Rattle.ebs_model.specs.declared.keys.Moment.{Moment}
use Rattle.ebs_model.specs.declared.keys.SnapKey.{SnapKey}
use Rattle.ebs_model.specs.declared.keys.VolKey.{VolKey}
use Rattle.ebs_model.specs.declared.request.Request.{Request}
use Rattle.ebs_model.specs.declared.request.Request.TheVariants.{GetSnapshotBlock, ReadVolumeBlock}
use Rattle.ebs_model.specs.declared.request.Call.{Call}
use Rattle.ebs_model.specs.declared.array.Block.{Block}
use Rattle.ebs_model.specs.declared.answer.Answer.{Answer}
use Rattle.ebs_model.specs.declared.answer.Refusal.{Refusal}
use Rattle.ebs_model.specs.Kept.{same, kept_request}
use Rattle.ebs_model.specs.Limits.{bad_member, unless}
use Rattle.ebs_model.specs.Machine.{Machine, advance}
use Rattle.ebs_model.specs.Refuse.{◌>>◌, refuse_bad}
use Rattle.ebs_model.specs.Step.{act, refuse_digest}
use Rattle.ebs_exchanges.specs.Exchanges.{Exchange}
use Rattle.ebs_exchanges.specs.Stops.{OwnCall}
use Rattle.ebs_session.specs.Session.{Chain}
use Rattle.ebs_recovery.specs.Made.{SlotOfStamp}
use Rattle.ebs_recovery.specs.inner.Fits.{Seen, kept_state}
use Rattle.ebs_kept.specs.inner.Shown.{kept_block}
use Rattle.ebs_disk_store.specs.declared.heads.PutHead.{PutHead}
use Rattle.ebs_disk_store.specs.declared.heads.PutHead.TheVariants as head
use Rattle.ebs_recovery.specs.inner.Changes.{IsRowChange}
use Rattle.ebs_disk_store.specs.inner.Told as told_of
use Rattle.ebs_disk_store.specs.inner.Turned.{IsLeft, IsSpared, Told, kept_call}
use Rattle.ebs_disk_store.specs.inner.Turned as turned
use Rattle.ebs_disk_store.specs.inner.Viewed.{IsView, Viewed}
use Rattle.ebs_disk_store.specs.inner.Viewed as viewed
use Rattle.ebs_disk_store.specs.inner.Fetched.{IsFetch, IsThere, Fetched}
use Rattle.ebs_disk_store.specs.inner.Fetched as fetched
use Rattle.ebs_disk_store.specs.Collected.{IsShared}
use Rattle.ebs_disk_store.specs.inner.Shown.{AreSlotted}
use Rattle.ebs_disk_store.specs.inner.Puts.{GivesUp, IsPutLeft, IsReturned, IsWholeSpared, WholePutTold, kept_put, bad_index, index_of, refuse_head, with_bytes}
use Rattle.ebs_disk_store.specs.inner.Puts as puts
use Rattle.ebs_disk_store.specs.inner.Applied.{Applied}
use Rattle.ebs_disk_store.specs.inner.Applied as applied
use Rattle.ebs_disk_store.proofs.Fetches.{fetch_bare}
use Rattle.ebs_disk_store.proofs.Looks.{look}
use Rattle.ebs_disk_store.proofs.PutRecorded.{put_kept}
use Rattle.ebs_disk_store.proofs.RowCalls.{plain}
use Rattle.ebs_service.specs.inner.Served.{IsApplied, OwnChain, Served, served_on}
use Rattle.ebs_service.specs.inner.Served as served
use Rattle.ebs_cli.specs.Told.{Kept, BringsBlock, BringsIn, IsAt, IsFoundIn, IsTold, MayFail, OwnReplies, Replies, Tells, machine_at, outcome, replies_on, without}
use Rattle.ebs_cli.specs.Told as told
use Rattle.ebs_cli.proofs.Bytes.{fetch_is}
use Rattle.ebs_cli.proofs.Slotted.{IsSteady, applied_has}
use Rattle.ebs_cli.proofs.Whole.{call_bare, change_other, viewed_bare}

-- what a store that is seen so keeps
abbrev pub kept_of : Seen → Kept
kept_of s = record { state = kept_state s; clock = s.clock }

-- ---- calls within their limits

unbad : {B : Type 0} (bad : Option (List ℕ)) (made result : Result B Refusal) → bad ≡ None → (refuse_bad bad >> made) ≡ result → made ≡ result
unbad None made result good is = is
unbad (Some name) made result good is = absurd cc

good_index : {B : Type 0} (test : Bool) (name : List ℕ) (rest : Option (List ℕ)) (made result : Result B Refusal) → unless test name rest ≡ None → (refuse_bad (unless test name None) >> made) ≡ result → made ≡ result
good_index true name rest made result good is = is
good_index false name rest made result good is = absurd cc

-- the test on a put's index passes where no member is out of its limits
passes_index : {B : Type 0} (put : PutHead) (bytes : List ℕ) (made result : Result B Refusal) → bad_member (with_bytes put bytes) ≡ None → (refuse_bad (bad_index (index_of put)) >> made) ≡ result → made ≡ result
passes_index (head.Snapshot key index digest) bytes made result good is = good_index _ _ _ made result good is
passes_index (head.Volume key index digest) bytes made result good is = good_index _ _ _ made result good is

kept_acts : (m : Machine) (account : ℕ) (request : Request) (result : Result (Machine × Answer) Refusal) → bad_member request ≡ None → kept_request request ≡ request → kept_call m account request ≡ result
    → act same m account (kept_request request) ≡ result
kept_acts m account request result good bare is = ap (λ (r : Request). act same m account r) bare ∙ unbad (bad_member request) (act same m account request) result good is

put_acts : (m : Machine) (account : ℕ) (put : PutHead) (bytes : List ℕ) (result : Result (Machine × Answer) Refusal) → bad_member (with_bytes put bytes) ≡ None → kept_put m account put (sha256 bytes) ≡ result
    → act same m account (kept_request (with_bytes put bytes)) ≡ result
put_acts m account put bytes result good is = ap (λ (r : Request). act same m account r) (put_kept put bytes) ∙ passes_index put bytes (act same m account (with_bytes put (sha256 bytes))) result good is

put_digest : (put : PutHead) (bytes : List ℕ) → bad_member (with_bytes put bytes) ≡ None → refuse_head put (sha256 bytes) ≡ Ok tt → refuse_digest same (kept_request (with_bytes put bytes)) ≡ Ok tt
put_digest put bytes good is = ap (λ (r : Request). refuse_digest same r) (put_kept put bytes) ∙ passes_index put bytes (refuse_digest same (with_bytes put (sha256 bytes))) (Ok tt) good is

brings : (put : PutHead) (bytes : List ℕ) → BringsBlock (with_bytes put bytes)
brings (head.Snapshot key index digest) bytes = tt
brings (head.Volume key index digest) bytes = tt

-- ---- a stamp that is given up

-- the keys stay but for one that no block of the machine has
record Lost (m : Machine) (old new : SlotTable) : Type 0 where
  gone : Option ℕ
  dead : (stamp : ℕ) → gone ≡ Some stamp → IsShared m stamp → ⊥
  keys : new.keys ≡ without old.keys gone

abbrev keys_of : SlotTable → SlotOfStamp
keys_of s = s.keys

same_stamp : (a b : ℕ) → Some a ≡ Some b → a ≡ b
same_stamp a b e = cc

no_stamp : (stamp : ℕ) → None ≡ Some stamp → ⊥
no_stamp stamp e = cc

-- ---- what is kept stays

left_kept : (s t : Seen) (account : ℕ) (now : Moment) (request : Request) → IsLeft s t account now request → kept_of t ≡ kept_of s
left_kept s t account now request left = ⊎_elim (ap kept_of) (⊎_elim (ap kept_of) (ap kept_of)) left

spared_kept : (s t : Seen) → IsSpared s t → kept_of t ≡ kept_of s
spared_kept s t left = ⊎_elim (ap kept_of) (ap kept_of) left

put_left_kept : (s t : Seen) (account : ℕ) (now : Moment) (put : PutHead) (slot : ℕ) → IsPutLeft s t account now put slot → kept_of t ≡ kept_of s
put_left_kept s t account now put slot left = ⊎_elim (ap kept_of) (⊎_elim (ap kept_of) (ap kept_of)) left

whole_spared_kept : (s t : Seen) (digest : List ℕ) → IsWholeSpared s t digest → kept_of t ≡ kept_of s
whole_spared_kept s t digest left = ⊎_elim (ap kept_of) (⊎_elim (ap kept_of) (λ (w : IsReturned s t digest). ap kept_of w.2)) left

-- ---- what a call tells

there_is : (m : Machine) (request : Request) (block : Block) → IsFetch request → IsThere m request block → IsAt m request (kept_block block)
there_is m request block fetch there = ⊎_elim
    (λ (w : (key : SnapKey) × (index : ℕ) × (token : List ℕ) × (request ≡ GetSnapshotBlock key index token)). subst (λ (r : Request). IsThere m r block → IsAt m r (kept_block block)) (sym w.3) (λ h. h) there)
    (λ (w : (key : VolKey) × (index : ℕ) × (request ≡ ReadVolumeBlock key index)). subst (λ (r : Request). IsThere m r block → IsAt m r (kept_block block)) (sym w.2) (λ h. h) there)
    (fetch_is request fetch)

viewed_tells : (Still Rose : Type 0) (v : View) (s t : Seen) (account : ℕ) (now : Moment) (request : Request) (answer : Answer) → bad_member request ≡ None → IsView request → Still
    → Viewed s t account now request answer → Tells Still Rose v (kept_of s) (kept_of t) account now request answer
viewed_tells Still Rose v s t account now request answer good view still (viewed.shown a acts is) =
    told.answered a (kept_acts _ account request _ good (look request view).bare acts) (viewed_bare s t account now request a view (viewed.shown a acts is)) (ap kept_of is) still
viewed_tells Still Rose v s t account now request answer good view still (viewed.refused refusal acts is) =
    told.refused refusal (kept_acts _ account request _ good (look request view).bare acts) (ap kept_of is) (inl still)
viewed_tells Still Rose v s t account now request answer good view still (viewed.memory is) = told.memory (ap kept_of is)

fetched_tells : (Still Rose : Type 0) (v : View) (s t : Seen) (account : ℕ) (now : Moment) (request : Request) (answer : Answer) → (v.tells ≡ true → s.slots.area ≡ Blocks) → bad_member request ≡ None → IsFetch request
    → Fetched Still Rose v s t account now request answer → Tells Still Rose v (kept_of s) (kept_of t) account now request answer
fetched_tells Still Rose v s t account now request answer area good fetch (fetched.fetched digest bytes acts whole is) =
    told.fetched digest bytes (kept_acts _ account request _ good (fetch_bare request fetch) acts) whole (ap kept_of is)
fetched_tells Still Rose v s t account now request answer area good fetch (fetched.zeros acts is still) =
    told.answered _ (kept_acts _ account request _ good (fetch_bare request fetch) acts) tt (ap kept_of is) still
fetched_tells Still Rose v s t account now request answer area good fetch (fetched.damaged stored found acts other (block, there, (bytes, read, found_is)) is) =
    told.damaged stored found (kept_block block) (kept_acts _ account request _ good (fetch_bare request fetch) acts) other (there_is (advance s.recorded now) request block fetch there) (
      bytes,
      found_is,
      λ slot got tells. record {
        size = read.size;
        stands = subst (λ (a : Area). Spells (v.reads a) (start_of a slot) bytes) (area tells) (read.read slot got tells);
      },
    )
    (ap kept_of is)
fetched_tells Still Rose v s t account now request answer area good fetch (fetched.refused refusal acts is still) =
    told.refused refusal (kept_acts _ account request _ good (fetch_bare request fetch) acts) (ap kept_of is) (inl still)
fetched_tells Still Rose v s t account now request answer area good fetch (fetched.unavailable digest rose acts is) =
    told.unavailable rose (told.read digest (kept_acts _ account request _ good (fetch_bare request fetch) acts)) (ap kept_of is)
fetched_tells Still Rose v s t account now request answer area good fetch (fetched.memory still is) = told.memory (ap kept_of is)

changed_tells : (Still Rose : Type 0) (v : View) (s t : Seen) (account : ℕ) (now : Moment) (request : Request) (answer : Answer) → bad_member request ≡ None → IsRowChange request
    → Told Still Rose s t account now request answer → Tells Still Rose v (kept_of s) (kept_of t) account now request answer
changed_tells Still Rose v s t account now request answer good change (turned.made_change a acts more clock at slots pending) =
    told.changed a None (kept_acts _ account request _ good (plain request change).kept acts) more at clock (ap (λ (x : SlotTable). x.keys) slots)
changed_tells Still Rose v s t account now request answer good change (turned.answered a acts is still) =
    told.answered a (kept_acts _ account request _ good (plain request change).kept acts) (call_bare _ account request (change_other request change) _ a acts) (ap kept_of is) still
changed_tells Still Rose v s t account now request answer good change (turned.refused refusal acts is still) =
    told.refused refusal (kept_acts _ account request _ good (plain request change).kept acts) (ap kept_of is) (inl still)
changed_tells Still Rose v s t account now request answer good change (turned.unavailable rose would left) =
    told.unavailable rose (told.change would.next would.answer (kept_acts _ account request _ good (plain request change).kept would.accepts) would.more) (left_kept s t account now request left)
changed_tells Still Rose v s t account now request answer good change (turned.memory left) = told.memory (spared_kept s t left)

-- a stamp without a slot is no block's
no_slot : (o : Option ℕ) → o ≡ None → IsSome o → ⊥
no_slot o e some = cc

unshared : (m : Machine) (keys : SlotOfStamp) (key : ℕ) → AreSlotted keys m → fin.get keys key ≡ None → (stamp : ℕ) → Some key ≡ Some stamp → IsShared m stamp → ⊥
unshared m keys key slotted none stamp e shared =
    no_slot (fin.get keys shared.block.stamp) (ap (fin.get keys) (shared.is ∙ sym (same_stamp key stamp e)) ∙ none) (slotted shared.key shared.index shared.block shared.there)

-- the slots of a block that was brought, and of the one that it replaced
gone_from : (m : Machine) (old new : SlotTable) (key : ℕ) → AreSlotted new.keys m → new ≡ released old key → Lost m old new
gone_from m old new key slotted is = by (nat_le (count_of old key) 1) refl
  where
    by : (b : Bool) → nat_le (count_of old key) 1 ≡ b → Lost m old new
    by true few =
        let keys : new.keys ≡ fin.remove old.keys key = ap keys_of is ∙ ap (λ (b : Bool). keys_of (if b then forgotten old key else record old { counts = fin.insert old.counts key (count_of old key - 1) })) few in
        record { gone = Some key; dead = unshared m new.keys key slotted (ap (λ (k : SlotOfStamp). fin.get k key) keys ∙ gone old.keys key); keys = keys }
    by false many = record { gone = None; dead = λ stamp e shared. no_stamp stamp e; keys = ap keys_of is ∙ ap (λ (b : Bool). keys_of (if b then forgotten old key else record old { counts = fin.insert old.counts key (count_of old key - 1) })) many }

lost_of : (m : Machine) (old new : SlotTable) (gone : Option ℕ) → AreSlotted new.keys m → new ≡ without_stamp old gone → Lost m old new
lost_of m old new None slotted is = record { gone = None; dead = λ stamp e shared. no_stamp stamp e; keys = ap keys_of is }
lost_of m old new (Some key) slotted is = gone_from m old new key slotted is

brought_in : (s t : Seen) (slot : ℕ) (digest : List ℕ) → GivesUp t.recorded (adopted (staged s.slots slot digest) slot s.recorded.stamps) t.slots → BringsIn (kept_of s) (kept_of t) slot
brought_in s t slot digest up =
    let lost = lost_of t.recorded (adopted (staged s.slots slot digest) slot s.recorded.stamps) t.slots up.gone up.slotted up.is in
    record { gone = lost.gone; dead = lost.dead; slots = lost.keys }

-- a put that is refused once it was staged
abbrev GivenUpAt : Seen → Seen → Moment → PutHead → List ℕ → Type 0
GivenUpAt s t now put digest = (refuse_head put digest ≡ Ok tt) × ((slot : ℕ) × IsNext s.slots slot × (t ≡ told_of.at_clock (told_of.without_lease (puts.staged_in s slot digest) slot) now))

put_tells : (Still Rose : Type 0) (v : View) (s t : Seen) (account : ℕ) (now : Moment) (put : PutHead) (bytes : List ℕ) (answer : Answer) → bad_member (with_bytes put bytes) ≡ None
    → WholePutTold Still Rose s t account now put (sha256 bytes) answer → Tells Still Rose v (kept_of s) (kept_of t) account now (with_bytes put bytes) answer
put_tells Still Rose v s t account now put bytes answer good (puts.put_made a acts more clock at slot next slots pending) =
    told.changed a (Some slot) (put_acts _ account put bytes _ good acts) more at clock (brought_in s t slot (sha256 bytes) slots)
put_tells Still Rose v s t account now put bytes answer good (puts.put_refused refusal acts left) =
    told.refused refusal (put_acts _ account put bytes _ good acts)
    (⊎_elim (λ (w : (t ≡ told_of.at_clock s now) × Still). ap kept_of w.0) (λ (w : GivenUpAt s t now put (sha256 bytes)). ap kept_of w.1.2) left)
    (⊎_elim (λ (w : (t ≡ told_of.at_clock s now) × Still). inl w.1) (λ (w : GivenUpAt s t now put (sha256 bytes)). inr (brings put bytes, put_digest put bytes good w.0)) left)
put_tells Still Rose v s t account now put bytes answer good (puts.put_unstaged rose passes left) =
    told.unavailable rose (told.put (brings put bytes) (put_digest put bytes good passes)) (spared_kept s t left)
put_tells Still Rose v s t account now put bytes answer good (puts.put_unavailable rose would slot next left) =
    told.unavailable rose (told.change would.next would.answer (put_acts _ account put bytes _ good would.accepts) would.more) (put_left_kept (puts.staged_in s slot (sha256 bytes)) t account now put slot left)
put_tells Still Rose v s t account now put bytes answer good (puts.put_memory left) = told.memory (whole_spared_kept s t (sha256 bytes) left)

applied_tells : (Still Rose : Type 0) (v : View) (s t : Seen) (account : ℕ) (now : Moment) (request : Request) (answer : Answer) → (v.tells ≡ true → s.slots.area ≡ Blocks) → bad_member request ≡ None
    → Applied Still Rose v s t account now request answer → Tells Still Rose v (kept_of s) (kept_of t) account now request answer
applied_tells Still Rose v s t account now request answer area good (applied.shown view still is) = viewed_tells Still Rose v s t account now request answer good view still is
applied_tells Still Rose v s t account now request answer area good (applied.fetched fetch is) = fetched_tells Still Rose v s t account now request answer area good fetch is
applied_tells Still Rose v s t account now request answer area good (applied.changed change is) = changed_tells Still Rose v s t account now request answer good change is
applied_tells Still Rose v s t account now request answer area good (applied.put put bytes is within by) =
    subst (λ (r : Request). Tells Still Rose v (kept_of s) (kept_of t) account now r answer) (sym is) (put_tells Still Rose v s t account now put bytes answer (subst (λ (r : Request). bad_member r ≡ None) is good) by)
applied_tells Still Rose v s t account now request answer area good (applied.bad refusal refuses is still e) = absurd (never (bad_member request) refusal good refuses)
  where
    never : (bad : Option (List ℕ)) (refusal : Refusal) → bad ≡ None → refuse_bad bad ≡ Err refusal → ⊥
    never None refusal good is = cc
    never (Some name) refusal good is = cc
applied_tells Still Rose v s t account now request answer area good (applied.starved is still e) =
    subst (λ (a : Answer). Tells Still Rose v (kept_of s) (kept_of t) account now request a) (sym e) (told.memory (ap kept_of is))

-- ---- the area of the slots stays

abbrev area_of : Seen → Area
area_of s = s.slots.area

abbrev IsOfBlocks : SlotTable → Type 0
IsOfBlocks s = s.area ≡ Blocks

area_steady : IsSteady IsOfBlocks
area_steady = record { returned = λ s slot digest next is. is; taken = λ s slot digest stamp next is. is; gone = λ s key is. is; lowered = λ s key is. is }

-- ---- one after another

-- its slots lie in the area of the blocks, where the disk tells
abbrev pub LieInBlocks : View → Seen → Type 0
LieInBlocks v s = v.tells ≡ true → s.slots.area ≡ Blocks

is_told : (Still sound : Type 0) (old new : View) (s t : Seen) (call : Call) (reading : Moment) (answer : Answer) → LieInBlocks old s → IsApplied Still sound old new s t call reading answer
    → IsTold Still old new (kept_of s) (kept_of t) call reading.second answer
is_told Still sound old new s t call reading answer area by = record {
  within = by.within;
  tells = applied_tells Still _ old s t call.account _ call.request answer area by.within by.told;
  cause = by.cause;
  slot = by.ran.slot;
  free = by.ran.free.no_key;
  ran = by.ran.ran;
}

still_lie : (Still sound : Type 0) (old new : View) (s t : Seen) (call : Call) (reading : Moment) (answer : Answer) → LieInBlocks old s → IsApplied Still sound old new s t call reading answer → LieInBlocks new t
still_lie Still sound old new s t call reading answer area by = λ tells. applied_has IsOfBlocks area_steady Still _ old s t call.account _ call.request answer by.told (area (sym by.ran.ran.told ∙ tells))

reply_is : (Still sound : Type 0) (old new : View) (s t : Seen) (message : Message) (reading : Moment) (answer : Answer) → LieInBlocks old s → Served Still sound old new s t message reading answer
    → Replies Still old new (kept_of s) (kept_of t) message reading.second answer
reply_is Still sound old new s t message reading answer area (served.refused refusal makes is still kept) = told.no_call refusal makes is still (ap kept_of kept)
reply_is Still sound old new s t message reading answer area (served.starved is still kept) = told.unread is still (ap kept_of kept)
reply_is Still sound old new s t message reading answer area (served.applied call makes by) = told.told call makes (is_told Still sound old new s t call reading answer area by)

reply_lies : {D : Type 0} (view : D → View) (sound : Type 0) (s t : Seen) (d e : D) (message : Message) (reading : Moment) (answer : Answer) → LieInBlocks (view d) s
    → Served (e ≡ d) sound (view d) (view e) s t message reading answer → LieInBlocks (view e) t
reply_lies view sound s t d e message reading answer area (served.refused refusal makes is still kept) = λ tells. ap area_of kept ∙ area (ap (λ x. (view x).tells) (sym still) ∙ tells)
reply_lies view sound s t d e message reading answer area (served.starved is still kept) = λ tells. ap area_of kept ∙ area (ap (λ x. (view x).tells) (sym still) ∙ tells)
reply_lies view sound s t d e message reading answer area (served.applied call makes by) = still_lie (e ≡ d) sound (view d) (view e) s t call reading answer area by

pub replies_are : {D : Type 0} (view : D → View) (sound : Type 0) (xs : List Exchange) (s t : Seen) (d e : D) → LieInBlocks (view d) s → Chain (served_on sound view) s d xs t e
    → Chain (replies_on view) (kept_of s) d xs (kept_of t) e
replies_are view sound [] s t d e area ends = (ap kept_of ends.0, ends.1)
replies_are view sound (x ∷ xs) s t d e area (next, mid, served, rest) = (
  kept_of next,
  mid,
  reply_is (mid ≡ d) sound (view d) (view mid) s next x.message (record { second = x.reading }) x.answer area served,
  replies_are view sound xs next t mid e (reply_lies view sound s next d mid x.message (record { second = x.reading }) x.answer area served) rest,
)

pub own_replies_are : {D : Type 0} (view : D → View) (sound : Type 0) (xs : List OwnCall) (s t : Seen) (d e : D) → LieInBlocks (view d) s → OwnChain sound view s d xs t e
    → OwnReplies view (kept_of s) d xs (kept_of t) e
own_replies_are view sound [] s t d e area ends = (ap kept_of ends.0, ends.1)
own_replies_are view sound (x ∷ xs) s t d e area (next, mid, by, rest) = (
  kept_of next,
  mid,
  is_told (mid ≡ d) sound (view d) (view mid) s next x.call (record { second = x.reading }) x.answer area by,
  own_replies_are view sound xs next t mid e (still_lie (mid ≡ d) sound (view d) (view mid) s next x.call (record { second = x.reading }) x.answer area by) rest,
)
