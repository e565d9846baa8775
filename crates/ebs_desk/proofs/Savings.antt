-- What a saving makes of the store, and of the pass's view.
use Rattle.std.proofs.Common.{◌≡◌, inl, inr, ℕ, ◌<◌, ◌^◌, length, Some, Result, Ok, Err, IsErrOf, refl, ap, sym, ◌∙◌, subst}
use Rattle.std.specs.declared.snapshot.Snapshot.{Snapshot}
use Rattle.atomic_table.specs.Table.{Me}
use Rattle.ebs_world.specs.View.{View as DiskView, Leaves}
use Rattle.ebs_model.specs.Quotas.{Rose}
use Rattle.ebs_slots.specs.inner.Slots.{SlotTable}
use Rattle.ebs_turns.specs.declared.line.Deed.TheVariants.{Nothing}
use Rattle.ebs_turns.specs.declared.line.Left.{Left as TurnLeft}
use Rattle.ebs_turns.specs.declared.line.Turn.{Turn}
use Rattle.ebs_turns.specs.declared.seats.Opening.{Opening}
use Rattle.ebs_turns.specs.declared.seats.Place.{Place}
use Rattle.ebs_turns.specs.declared.seats.View.{View}
use Rattle.ebs_turns.specs.Known.{Began, MayEnd}
use Rattle.ebs_turns.specs.Tells.{after_look, behind}
use Rattle.ebs_recovery.specs.Made.{advanced}
use Rattle.ebs_recovery.specs.inner.Fits.{Seen, running}
use Rattle.ebs_disk_store.specs.declared.pointing.StoreStop.{StoreStop}
use Rattle.ebs_disk_store.specs.declared.pointing.StoreStop.TheVariants.{Unavailable, Exhausted, Memory}
use Rattle.ebs_disk_store.specs.inner.Told.{IfSound}
use Rattle.ebs_disk_store.specs.inner.Turned.{MayLeave}
use Rattle.ebs_desk.specs.declared.desk.TurnRefusal.{TurnRefusal}
use Rattle.ebs_desk.specs.declared.item.Item.{Item}
use Rattle.ebs_desk.specs.declared.item.Item.TheVariants.{Fault, Saving, Full, Blank}
use Rattle.ebs_desk.specs.declared.shelf.Shelf.{Shelf}
use Rattle.ebs_desk.specs.Line.{entries_in}
use Rattle.ebs_desk.specs.Saves.{Saves, passed, written, SaveTold, IsSaved}
use Rattle.ebs_desk.specs.Turns.{Goes, Did, Follows}
use Rattle.ebs_desk.specs.Calls.{Saved, saved, unsaved, filled, starved}
use Rattle.ebs_desk.proofs.Pendings.{IsOldPending, pending_of}
use Rattle.ebs_desk.proofs.Calling.{left_one, added}

-- a saving that ended so didn't end with that stop
pub done_is_no_stop : (left : ℕ) (stop : StoreStop) → ◌≡◌ {A = Result ℕ StoreStop} (Ok left) (Err stop) → ⊥
done_is_no_stop left stop is = cc

full_is_no_fault : ◌≡◌ {A = Result ℕ StoreStop} (Err Exhausted) (Err Unavailable) → ⊥
full_is_no_fault is = cc

memory_is_no_fault : ◌≡◌ {A = Result ℕ StoreStop} (Err Memory) (Err Unavailable) → ⊥
memory_is_no_fault is = cc

-- the stop of a checkpoint is that of the saving
pub same_stop : {A : Type 0} (r : Result A StoreStop) (stop other : StoreStop) → r ≡ Err stop → r ≡ Err other → ◌≡◌ {A = Result ℕ StoreStop} (Err stop) (Err other)
same_stop {A} r stop other is err = ap (λ (x : StoreStop). Err x) (one_stop stop other (sym is ∙ err))
  where
    one_stop : (x y : StoreStop) → ◌≡◌ {A = Result A StoreStop} (Err x) (Err y) → x ≡ y
    one_stop x y e = cc

pub same_cause : {A : Type 0} (r : Result A StoreStop) (stop other : StoreStop) → r ≡ Err stop → ◌≡◌ {A = Result ℕ StoreStop} (Err stop) (Err other) → r ≡ Err other
same_cause r stop other is err = is ∙ ap (λ (x : StoreStop). Err x) (one_stop stop other err)
  where
    one_stop : (x y : StoreStop) → ◌≡◌ {A = Result ℕ StoreStop} (Err x) (Err y) → x ≡ y
    one_stop x y e = cc

pub no_stop : {A : Type 0} (r : Result A StoreStop) (x : A) (stop : StoreStop) → r ≡ Ok x → r ≡ Err stop → ⊥
no_stop {A} r x stop is err = two_ends (sym is ∙ err)
  where
    two_ends : ◌≡◌ {A = Result A StoreStop} (Ok x) (Err stop) → ⊥
    two_ends e = cc

-- the saving ended since the disk failed
abbrev Fails : Result ℕ StoreStop → Type 0
Fails done = IsErrOf done Unavailable

module _ (Still sound : Type 0) (old new : DiskView) (s t : Seen) where
  saves_leases : Saves Still sound old new s t → t.slots.leases ≡ s.slots.leases
  saves_leases (passed is still) = ap (λ (z : Seen). z.slots.leases) is
  saves_leases (written point recorded) = ap (λ (z : Seen). z.slots.leases) point.is

  saves_pending : Saves Still sound old new s t → IsOldPending s t
  saves_pending (passed is still) = inr (pending_of is)
  saves_pending (written point recorded) = inl (pending_of point.is)

  -- no lease is taken or given up
  pub saved_leases : (least : ℕ) (done : Result ℕ StoreStop) → SaveTold Still sound old new s t least done → t.slots.leases ≡ s.slots.leases
  saved_leases least (Ok left) told = saves_leases told.0
  saved_leases least (Err Unavailable) told = ap (λ (z : SlotTable). z.leases) told.slots
  saved_leases least (Err Exhausted) told = ap (λ (z : Seen). z.slots.leases) told.0
  saved_leases least (Err Memory) told = ap (λ (z : Seen). z.slots.leases) told

module _ {D : Type 0} (sound : Type 0) (view : D → DiskView) where
  abbrev V : Type 0
  V = View (Shelf Seen D) (Item D)

  abbrev M : Type 0
  M = Me (Place (Shelf Seen D) (Item D)) V

  abbrev Left : Type 0
  Left = Item D × Result (Unit {0}) TurnRefusal

  -- the turn did this, and it is no entry
  abbrev DidOne : Seen → D → Seen → D → Item D → Type 0
  DidOne s d t e item = Did sound view s d item t e × ((x : Turn (Item D)) → length (entries_in item x) ≡ 0)

  -- what the turn of a saving did, by what it leaves
  pub did_saved : (s t : Seen) (d e : D) (least : ℕ) (before : Snapshot D) (done : Result ℕ StoreStop) (left : Left) → before.value ≡ d → IsSaved before e done left
      → Goes (view d) (view e) → SaveTold (e ≡ d) sound (view d) (view e) s t least done
      → IfSound sound (view d) (running (view e) t ≡ running (view d) s)
      → (Fails done → Rose (view d).faults (view e).faults)
      → IfSound sound (view d) (Leaves (view d) (view e) (MayLeave (Fails done) (view d) (view e) s t (advanced s.clock)))
      → DidOne s d t e left.0
  did_saved s t d e least before (Ok count) left was is goes told same cause leaves = subst (λ (z : Left). DidOne s d t e z.0) (sym is) (
    record {
      goes = goes;
      did = (told.0, told.1, same);
      pending = inr (saves_pending (e ≡ d) sound (view d) (view e) s t told.0);
      moments = λ sure tells honest. left_one sound view s t d e (Saving count) (Fails (Ok count)) (advanced s.clock) (done_is_no_stop count Unavailable) (leaves sure tells honest);
    },
    λ x. refl,
  )
  did_saved s t d e least before (Err Unavailable) left was is goes told same cause leaves = subst (λ (z : Left). DidOne s d t e z.0) (sym is.2) (
    record {
      goes = goes;
      did = (was, is.1, cause refl, same);
      pending = inl tt;
      moments = λ sure tells honest. left_one sound view s t d e (Fault before is.0) (Fails (Err Unavailable)) (advanced s.clock) (λ fails. tt) (leaves sure tells honest);
    },
    λ x. refl,
  )
  did_saved s t d e least before (Err Exhausted) left was is goes told same cause leaves = subst (λ (z : Left). DidOne s d t e z.0) (sym is) (
    record {
      goes = goes;
      did = (told, same);
      pending = inr (inl (pending_of told.0));
      moments = λ sure tells honest. left_one sound view s t d e Full (Fails (Err Exhausted)) (advanced s.clock) full_is_no_fault (leaves sure tells honest);
    },
    λ x. refl,
  )
  did_saved s t d e least before (Err Memory) left was is goes told same cause leaves = subst (λ (z : Left). DidOne s d t e z.0) (sym is) (
    record {
      goes = goes;
      did = same;
      pending = inr (inl (pending_of told));
      moments = λ sure tells honest. left_one sound view s t d e Blank (Fails (Err Memory)) (advanced s.clock) memory_is_no_fault (leaves sure tells honest);
    },
    λ x. refl,
  )

  -- the word that the look found
  low_word : (v w : V) (found : ℕ) (m : M) (shelf : Shelf Seen D) → found < 2 ^ 42 → Began (Follows sound view) (after_look found v) m shelf → (left : TurnLeft (Item D)) → w ≡ behind left m.0 → w.ticket_word < 2 ^ 42
  low_word v w found m shelf low b left is = subst (λ n. n < 2 ^ 42) (sym (ap (λ (u : V). u.ticket_word) is ∙ ap (λ (u : V). u.ticket_word) b.view)) low

  pub saves : (about : Opening (Shelf Seen D)) (v w : V) (found : ℕ) (m : M) (shelf next : Shelf Seen D) (least : ℕ) (before : Snapshot D) (done : Result ℕ StoreStop) (left : Left)
      → v.about ≡ Some about → found < 2 ^ 42 → Began (Follows sound view) (after_look found v) m shelf → MayEnd (Follows sound view) m next left.0 Nothing → w ≡ behind (record { item = left.0; deed = Nothing }) m.0
      → SaveTold (next.disk ≡ shelf.disk) sound (view shelf.disk) (view next.disk) shelf.store next.store least done → IsSaved before next.disk done left → Saved sound view about.first.value v least left.1 w
  saves about v w found m shelf next least before (Ok count) left of low b may is told leaves =
      let may' = subst (λ (z : Left). MayEnd (Follows sound view) m next z.0 Nothing) leaves may in let is' = is ∙ ap (λ (z : Left). behind (record { item = z.0; deed = Nothing }) m.0) leaves in
      saved count told.2 (ap (λ z. z.1) leaves) (low_word v w found m shelf low b (record { item = Saving count; deed = Nothing }) is')
      (added sound view about (after_look found v) w m shelf next (Saving count) Nothing of b may' is')
  saves about v w found m shelf next least before (Err Unavailable) left of low b may is told leaves =
      let may' = subst (λ (z : Left). MayEnd (Follows sound view) m next z.0 Nothing) leaves.2 may in let is' = is ∙ ap (λ (z : Left). behind (record { item = z.0; deed = Nothing }) m.0) leaves.2 in
      unsaved before leaves.0 (ap (λ z. z.1) leaves.2) (low_word v w found m shelf low b (record { item = Fault before leaves.0; deed = Nothing }) is')
      (added sound view about (after_look found v) w m shelf next (Fault before leaves.0) Nothing of b may' is')
  saves about v w found m shelf next least before (Err Exhausted) left of low b may is told leaves =
      let may' = subst (λ (z : Left). MayEnd (Follows sound view) m next z.0 Nothing) leaves may in let is' = is ∙ ap (λ (z : Left). behind (record { item = z.0; deed = Nothing }) m.0) leaves in
      filled (ap (λ z. z.1) leaves) (low_word v w found m shelf low b (record { item = Full; deed = Nothing }) is')
      (added sound view about (after_look found v) w m shelf next Full Nothing of b may' is')
  saves about v w found m shelf next least before (Err Memory) left of low b may is told leaves =
      let may' = subst (λ (z : Left). MayEnd (Follows sound view) m next z.0 Nothing) leaves may in let is' = is ∙ ap (λ (z : Left). behind (record { item = z.0; deed = Nothing }) m.0) leaves in
      starved (ap (λ z. z.1) leaves) (low_word v w found m shelf low b (record { item = Blank; deed = Nothing }) is')
      (added sound view about (after_look found v) w m shelf next Blank Nothing of b may' is')
