-- What a call leaves of the pass that made it.
use Rattle.std.specs.Prelude.{ℕ, ◌+◌, ◌≡◌, ◌≢◌, ◌<◌, ◌≤◌, ◌^◌, ◌++◌, List, [], ◌∷◌, Option, Some, None, slice_get, is_some, false, Result, Ok, Err}
use Rattle.std.specs.FinMap as fin
use Rattle.std.specs.declared.snapshot.Snapshot.{Snapshot}
use Rattle.ebs_world.specs.View.{View as DiskView}
use Rattle.ebs_model.specs.declared.keys.Moment.{Moment}
use Rattle.ebs_model.specs.declared.request.Request.{Request}
use Rattle.ebs_model.specs.declared.answer.Answer.{Answer}
use Rattle.ebs_model.specs.declared.answer.Answer.TheVariants.{Refused, Memory}
use Rattle.ebs_model.specs.declared.answer.Refusal.TheVariants.{Unavailable, Exhausted}
use Rattle.ebs_model.specs.declared.answer.Spent.TheVariants.{Turns}
use Rattle.ebs_turns.specs.declared.line.Deed.{Deed}
use Rattle.ebs_turns.specs.declared.line.Deed.TheVariants.{Nothing, Takes, Spends}
use Rattle.ebs_turns.specs.declared.line.Turn.{Turn}
use Rattle.ebs_turns.specs.declared.seats.View.{View}
use Rattle.ebs_turns.specs.Line.{turns_of}
use Rattle.ebs_desk.specs.declared.desk.Receipt.{Receipt}
use Rattle.ebs_desk.specs.declared.item.Item.{Item}
use Rattle.ebs_desk.specs.declared.desk.TurnRefusal.{TurnRefusal}
use Rattle.ebs_desk.specs.declared.desk.TurnRefusal.TheVariants as refusal
use Rattle.ebs_desk.specs.declared.item.Item.TheVariants.{Entry, Fault, Tick, Saving, Full, Staged, Blank}
use Rattle.ebs_desk.specs.declared.shelf.Shelf.{Shelf}
use Rattle.ebs_recovery.specs.inner.Fits.{Seen, running, Fits}
use Rattle.ebs_collect.specs.declared.backlog.Progress.{Progress}
use Rattle.ebs_disk_store.specs.declared.collecting.Unavailable.{Unavailable as StoreUnavailable}
use Rattle.ebs_disk_store.specs.declared.loading.Loaded.{Loaded}
use Rattle.ebs_disk_store.specs.inner.Fetched.{answer_of}
use Rattle.ebs_disk_store.specs.inner.Told.{IfSound}
use Rattle.ebs_disk_store.specs.declared.heads.PutHead.{PutHead}
use Rattle.ebs_disk_store.specs.inner.Puts.{with_bytes}
use Rattle.ebs_disk_store.specs.inner.Viewed.{IsView}
use Rattle.ebs_desk.specs.Line.{AreAnswered, AreRisen, history, run_line, last_count}
use Rattle.ebs_desk.specs.Saves.{IsLow}
use Rattle.ebs_desk.specs.Turns.{Went}
use Rattle.ebs_desk.specs.Fronts.{LeavesOnlyFronts}

-- the turn of a pass
abbrev pub turn_with : {D : Type 0} → ℕ → Item D → Deed → Turn (Item D)
turn_with by item deed = record { by = by; item = item; deed = deed }

-- the turn of a pass, which takes and spends no lease
abbrev pub turn_of : {D : Type 0} → ℕ → Item D → Turn (Item D)
turn_of by item = turn_with by item Nothing

-- what the turn of a call leaves, by its answer: an item, its place where it is an entry, and the number of entries
pub data IsLeft {D : Type 0} (account : ℕ) (reading : Moment) (asked : Snapshot Request) (before : Snapshot D) (disk : D) (answer : Answer) (entries : ℕ) (left : Item D × Option ℕ × ℕ) : Type 0 where
  of_entry : (said : Snapshot Loaded) → answer_of said.value ≡ answer → answer ≢ Refused Unavailable → answer ≢ Memory → left ≡ (Entry account reading asked said, Some entries, entries + 1)
      → IsLeft account reading asked before disk answer entries left
  of_fault : (after : Snapshot D) → after.value ≡ disk → answer ≡ Refused Unavailable → left ≡ (Fault before after, None, entries) → IsLeft account reading asked before disk answer entries left
  of_blank : answer ≡ Memory → left ≡ (Blank, None, entries) → IsLeft account reading asked before disk answer entries left

-- what the turn of a slice leaves, by its end: an item, and what is told
abbrev pub IsTicked : {D : Type 0} → Moment → ℕ → Snapshot D → D → Result Progress StoreUnavailable → Item D × Result Progress TurnRefusal → Type 0
IsTicked reading work before disk (Ok progress) left = left ≡ (Tick reading work progress, Ok progress)
IsTicked {D} reading work before disk (Err unavailable) left = (after : Snapshot D) × (after.value ≡ disk) × (left ≡ (Fault before after, Err refusal.Unavailable))

module _ {D : Type 0} (sound : Type 0) (view : D → DiskView) (first : Shelf Seen D) where
  -- the turns of the line went one after the other from the first store and its disk on, to a store that fits its disk. On an honest disk with a sound store each entry's answer is that of one machine,
  -- which begins as that store's; and whatever the disk, the count of each fault rose, from no less than that of the fault before it
  pub record IsLegal (line : List (Turn (Item D))) : Type 0 where
    pub store : Seen
    pub disk : D
    pub went : Went sound view first.store first.disk line store disk
    pub fits : Fits sound (view disk) store
    pub answered : IfSound sound (view first.disk) (AreAnswered (running (view first.disk) first.store) line)
    pub risen : AreRisen view (view first.disk).faults line

  -- a turn of the pass with this number stands behind the line that it had seen and those of others between; the line is legal with it, and has no more turns of the pass
  pub record Adds (number : ℕ) (before after : List (Turn (Item D))) (x : Turn (Item D)) : Type 0 where
    pub between : List (Turn (Item D))
    pub line : after ≡ (before ++ between) ++ x ∷ []
    pub legal : IsLegal after
    pub own : turns_of number after ≡ turns_of number before ++ x ∷ []

  -- what the turn of a call made of the line, by what was answered: an entry stands at its place, and is this call with this answer; or the disk failed, which a call that
  -- reads no block and changes nothing is never told; or memory was wanting
  pub data Answered (number : ℕ) (before after : List (Turn (Item D))) (deed : Deed) (account : ℕ) (reading : Moment) (request : Request) (receipt : Receipt) : Type 0 where
    entered : (asked : Snapshot Request) (said : Snapshot Loaded) (place : ℕ) → asked.value ≡ request → answer_of said.value ≡ receipt.answer → receipt.place ≡ Some place
        → receipt.answer ≢ Refused Unavailable → receipt.answer ≢ Memory → receipt.answer ≢ Refused (Exhausted Turns) → Adds number before after (turn_with number (Entry account reading asked said) deed)
        → slice_get (history after) place ≡ Some (turn_with number (Entry account reading asked said) deed) → Answered number before after deed account reading request receipt
    failed : (old new : Snapshot D) → receipt.answer ≡ Refused Unavailable → (IsView request → ⊥) → receipt.place ≡ None → Adds number before after (turn_with number (Fault old new) deed)
        → Answered number before after deed account reading request receipt
    wanted : receipt.answer ≡ Memory → receipt.place ≡ None → Adds number before after (turn_with number Blank deed) → Answered number before after deed account reading request receipt

  -- what the pass that called knows: it took one turn; or it is a put whose block was staged in a turn of its own, and then put in a second one; or 2^42 tickets were taken, and
  -- nothing was done
  pub data Called (v : View (Shelf Seen D) (Item D)) (account : ℕ) (reading : Moment) (request : Request) (receipt : Receipt) (w : View (Shelf Seen D) (Item D)) : Type 0 where
    in_one : w.ticket_word < 2 ^ 42 → Answered v.number v.seen w.seen Nothing account reading request receipt → Called v account reading request receipt w
    in_two : (head : PutHead) (block : Snapshot (List ℕ)) (slot : ℕ) (mid : List (Turn (Item D))) → w.ticket_word < 2 ^ 42 → request ≡ with_bytes head block.value
        → Adds v.number v.seen mid (turn_with v.number (Staged block) (Takes slot)) → Answered v.number mid w.seen (Spends slot) account reading request receipt → Called v account reading request receipt w
    ended : receipt.answer ≡ Refused (Exhausted Turns) → receipt.place ≡ None → 2 ^ 42 ≤ w.ticket_word → w.seen ≡ v.seen → Called v account reading request receipt w

  -- what the pass that collected knows: time passed until the reading, and so many blocks were looked at; or the disk failed; or 2^42 tickets were taken, and nothing was done
  pub data Ticked (v : View (Shelf Seen D) (Item D)) (reading : Moment) (work : ℕ) (told : Result Progress TurnRefusal) (w : View (Shelf Seen D) (Item D)) : Type 0 where
    ticked : (progress : Progress) → told ≡ Ok progress → w.ticket_word < 2 ^ 42 → Adds v.number v.seen w.seen (turn_of v.number (Tick reading work progress)) → Ticked v reading work told w
    undone : (before after : Snapshot D) → told ≡ Err refusal.Unavailable → w.ticket_word < 2 ^ 42 → Adds v.number v.seen w.seen (turn_of v.number (Fault before after)) → Ticked v reading work told w
    spent : told ≡ Err refusal.Turns → 2 ^ 42 ≤ w.ticket_word → w.seen ≡ v.seen → Ticked v reading work told w

  -- what the pass that saved knows: a checkpoint was written, or passed over since fewer records stood behind the last one; or the disk failed; or no checkpoint can be written; or memory was wanting;
  -- or 2^42 tickets were taken, and nothing was done
  pub data Saved (v : View (Shelf Seen D) (Item D)) (least : ℕ) (told : Result (Unit {0}) TurnRefusal) (w : View (Shelf Seen D) (Item D)) : Type 0 where
    saved : (left : ℕ) → IsLow least left → told ≡ Ok tt → w.ticket_word < 2 ^ 42 → Adds v.number v.seen w.seen (turn_of v.number (Saving left)) → Saved v least told w
    unsaved : (before after : Snapshot D) → told ≡ Err refusal.Unavailable → w.ticket_word < 2 ^ 42 → Adds v.number v.seen w.seen (turn_of v.number (Fault before after)) → Saved v least told w
    filled : told ≡ Err refusal.Exhausted → w.ticket_word < 2 ^ 42 → Adds v.number v.seen w.seen (turn_of v.number Full) → Saved v least told w
    starved : told ≡ Err refusal.Memory → w.ticket_word < 2 ^ 42 → Adds v.number v.seen w.seen (turn_of v.number Blank) → Saved v least told w
    unopened : told ≡ Err refusal.Turns → 2 ^ 42 ≤ w.ticket_word → w.seen ≡ v.seen → Saved v least told w

  -- the store and the disk that a line leaves from the first on: the store fits the disk, no lease is out, and on an honest disk with a sound store its machine is the one that the line leaves,
  -- and a crash at any moment leaves just fronts of the line
  pub record Closed (line : List (Turn (Item D))) (store : Seen) (disk : D) : Type 0 where
    pub legal : IsLegal line
    pub went : Went sound view first.store first.disk line store disk
    pub machine : IfSound sound (view first.disk) (running (view disk) store ≡ run_line (running (view first.disk) first.store) line)
    pub fits : Fits sound (view disk) store
    pub bare : (slot : ℕ) → is_some (fin.get store.slots.leases slot) ≡ false
    pub count : last_count view (view first.disk).faults line ≤ (view disk).faults
    pub leaves : LeavesOnlyFronts sound view first line store disk
