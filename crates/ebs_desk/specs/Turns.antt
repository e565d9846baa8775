-- What a turn does to the store and its disk, by its item, and what a line of turns leaves.
use Rattle.std.specs.Prelude.{ℕ, ◌≡◌, ◌≤◌, ◌⊎◌, List, [], ◌∷◌, length, is_some, Ok, Err, None, Some}
use Rattle.std.specs.FinMap as fin
use Rattle.sha2.specs.Sha256.{sha256}
use Rattle.ebs_world.specs.declared.area.Area.TheVariants.{Blocks}
use Rattle.ebs_world.specs.View.{View, Leaves}
use Rattle.ebs_model.specs.declared.keys.Moment.{Moment}
use Rattle.ebs_model.specs.declared.request.Request.{Request}
use Rattle.ebs_model.specs.declared.answer.Answer.{Answer}
use Rattle.ebs_model.specs.Quotas.{Rose}
use Rattle.ebs_model.specs.Machine.{advance}
use Rattle.ebs_model.specs.Step.{step}
use Rattle.ebs_turns.specs.declared.line.Turn.{Turn}
use Rattle.ebs_turns.specs.Line.{is_out}
use Rattle.ebs_desk.specs.declared.item.Item.{Item}
use Rattle.ebs_desk.specs.declared.item.Item.TheVariants.{Entry, Fault, Tick, Saving, Full, Staged, Blank}
use Rattle.ebs_desk.specs.declared.shelf.Shelf.{Shelf}
use Rattle.ebs_recovery.specs.Made.{Made}
use Rattle.ebs_recovery.specs.inner.Fits.{Seen, running, Fits}
use Rattle.ebs_disk_store.specs.inner.Told.{IfSound, at_reading}
use Rattle.ebs_disk_store.specs.inner.Turned.{MayLeave}
use Rattle.ebs_disk_store.specs.declared.heads.PutHead.{PutHead}
use Rattle.ebs_disk_store.specs.inner.Applied.{Applied}
use Rattle.ebs_disk_store.specs.inner.Fetched.{answer_of}
use Rattle.ebs_disk_store.specs.inner.Puts.{PutTold, with_bytes}
use Rattle.ebs_disk_store.specs.inner.Collected.{Sliced}
use Rattle.ebs_disk_store.specs.declared.pointing.StoreStop.TheVariants.{Exhausted}
use Rattle.ebs_disk_store.specs.inner.Pointed.{Pointed}
use Rattle.ebs_slots.specs.inner.Standing.{Lies}
use Rattle.ebs_desk.specs.Line.{history, block_under, IsFault}
use Rattle.ebs_desk.specs.Saves.{Saves}

-- the disk tells and promises what it did, and its count of faults didn't fall
pub record Goes (old new : View) : Type 0 where
  pub told : new.tells ≡ old.tells
  pub honest : new.honest ≡ old.honest
  pub count : old.faults ≤ new.faults

-- what the store tells of a call: of all of it, or of the put of a block that was staged before, whose lease is spent
pub data Tells (Still Rose : Type 0) (v : View) (s t : Seen) (account : ℕ) (now : Moment) (request : Request) (answer : Answer) : Type 0 where
  whole : Applied Still Rose v s t account now request answer → Tells Still Rose v s t account now request answer
  put : (head : PutHead) (slot : ℕ) (block : List ℕ) → request ≡ with_bytes head block → PutTold Still Rose s t account now head slot (sha256 block) answer → Tells Still Rose v s t account now request answer

-- the store answered the call. On an honest disk with a sound store that is the machine's own step
pub record Answers (Still sound : Type 0) (old new : View) (s t : Seen) (account : ℕ) (reading : Moment) (request : Request) (answer : Answer) : Type 0 where
  pub told : Tells Still (Rose old.faults new.faults) old s t account (at_reading s reading) request answer
  pub step : IfSound sound old (step (running old s) account reading request ≡ (running new t, answer))

-- the block lies in the slot, which is under lease
pub record IsStaged (v : View) (s : Seen) (slot : ℕ) (block : List ℕ) : Type 0 where
  pub leased : fin.get s.slots.leases slot ≡ Some (sha256 block)
  pub lies : Lies v Blocks slot block

-- whatever a crash leaves while a turn with this item is made stands for what was recorded before, alone or after the change that was pending, or for what is recorded behind it; or, where
-- the disk failed in it, for what was recorded, after one change more
pub record LeavesOne {D : Type 0} (old new : View) (s t : Seen) (item : Item D) : Type 0 where
  pub change : Made
  pub leaves : Leaves old new (MayLeave (IsFault item) old new s t change)

-- no change is pending behind a turn with this item that wasn't before it, but where the disk failed in it
abbrev pub LeavesPending : {D : Type 0} → Seen → Seen → Item D → Type 0
LeavesPending s t item = IsFault item ⊎ ((t.pending ≡ None) ⊎ (t.pending ≡ s.pending))

module _ {D : Type 0} (sound : Type 0) (view : D → View) where
  -- what a turn with this item did
  abbrev pub DidItem : Seen → D → Item D → Seen → D → Type 0
  DidItem s d (Entry account reading request loaded) t e = Answers (e ≡ d) sound (view d) (view e) s t account reading request.value (answer_of loaded.value)
  DidItem s d (Fault before after) t e = (before.value ≡ d) × (after.value ≡ e) × Rose (view d).faults (view e).faults × IfSound sound (view d) (running (view e) t ≡ running (view d) s)
  DidItem s d (Tick reading work progress) t e = Sliced s t (at_reading s reading) work (Ok progress) × IfSound sound (view d) (running (view e) t ≡ advance (running (view d) s) (at_reading s reading))
  DidItem s d (Saving left) t e = Saves (e ≡ d) sound (view d) (view e) s t × (t.journal.since_checkpoint ≡ left) × IfSound sound (view d) (running (view e) t ≡ running (view d) s)
  DidItem s d Full t e = Pointed s t (Err Exhausted) × IfSound sound (view d) (running (view e) t ≡ running (view d) s)
  DidItem s d (Staged block) t e = IfSound sound (view d) (running (view e) t ≡ running (view d) s)
  DidItem s d Blank t e = IfSound sound (view d) (running (view e) t ≡ running (view d) s)

  pub record Did (s : Seen) (d : D) (item : Item D) (t : Seen) (e : D) : Type 0 where
    pub goes : Goes (view d) (view e)
    pub did : DidItem s d item t e
    pub pending : LeavesPending s t item
    pub moments : IfSound sound (view d) (LeavesOne (view d) (view e) s t item)

  -- the turns did this one after the other
  abbrev pub Went : Seen → D → List (Turn (Item D)) → Seen → D → Type 0
  Went s d [] t e = (t ≡ s) × (e ≡ d)
  Went s d (x ∷ xs) t e = (between : Seen) × (mid : D) × Did s d x.item between mid × Went between mid xs t e

  -- the turns of the line made the last of the first, which has answered no call; the store fits its disk, just the leases that are out by the line are out, and what was
  -- staged under them lies there
  pub record Follows (first : Shelf Seen D) (line : List (Turn (Item D))) (last : Shelf Seen D) : Type 0 where
    pub went : Went first.store first.disk line last.store last.disk
    pub fits : Fits sound (view last.disk) last.store
    pub counted : last.entries ≡ length (history line)
    pub leases : (slot : ℕ) → is_some (fin.get last.store.slots.leases slot) ≡ is_out slot line
    pub staged : (slot : ℕ) (block : List ℕ) → block_under slot line ≡ Some block → IsStaged (view last.disk) last.store slot block
