-- What a slice makes of the pass's view.
use Rattle.std.proofs.Common.{◌≡◌, ⊎_elim, inl, inr, ℕ, ◌<◌, ◌^◌, length, true, false, Some, Result, Ok, Err, refl, ap, sym, ◌∙◌, subst, OnOk, OnErr, IsErr}
use Rattle.std.proofs.lemmas.Bool.{false≢true}
use Rattle.std.specs.declared.snapshot.Snapshot.{Snapshot}
use Rattle.atomic_table.specs.Table.{Me}
use Rattle.ebs_world.specs.View.{View as DiskView, Leaves, IsCaused}
use Rattle.ebs_model.specs.declared.keys.Moment.{Moment}
use Rattle.ebs_model.specs.Machine.{advance}
use Rattle.ebs_turns.specs.declared.line.Deed.TheVariants.{Nothing}
use Rattle.ebs_turns.specs.declared.line.Left.{Left as TurnLeft}
use Rattle.ebs_turns.specs.declared.line.Turn.{Turn}
use Rattle.ebs_turns.specs.declared.seats.Opening.{Opening}
use Rattle.ebs_turns.specs.declared.seats.Place.{Place}
use Rattle.ebs_turns.specs.declared.seats.View.{View}
use Rattle.ebs_turns.specs.Known.{Began, MayEnd}
use Rattle.ebs_turns.specs.Tells.{after_look, behind}
use Rattle.ebs_collect.specs.declared.backlog.Progress.{Progress}
use Rattle.ebs_recovery.specs.Made.{advanced}
use Rattle.ebs_recovery.specs.inner.Fits.{Seen, recorded, running}
use Rattle.ebs_disk_store.specs.declared.collecting.Unavailable.{Unavailable}
use Rattle.ebs_disk_store.specs.inner.Told.{IfSound, at_reading}
use Rattle.ebs_disk_store.specs.inner.Collected.{Sliced}
use Rattle.ebs_disk_store.specs.inner.Turned.{MayLeave}
use Rattle.ebs_desk.specs.declared.desk.TurnRefusal.{TurnRefusal}
use Rattle.ebs_desk.specs.declared.item.Item.{Item}
use Rattle.ebs_desk.specs.declared.item.Item.TheVariants.{Fault, Tick}
use Rattle.ebs_desk.specs.declared.shelf.Shelf.{Shelf}
use Rattle.ebs_desk.specs.Line.{entries_in}
use Rattle.ebs_desk.specs.Turns.{Goes, Did, Follows}
use Rattle.ebs_desk.specs.Calls.{IsTicked, Ticked, ticked, undone}
use Rattle.ebs_desk.proofs.Calling.{left_one, added}

module _ {D : Type 0} (sound : Type 0) (view : D → DiskView) where
  abbrev V : Type 0
  V = View (Shelf Seen D) (Item D)

  abbrev M : Type 0
  M = Me (Place (Shelf Seen D) (Item D)) V

  abbrev Left : Type 0
  Left = Item D × Result Progress TurnRefusal

  -- what the turn of a slice did, by what it leaves, and that it is no entry
  pub did_ticked : (s t : Seen) (d e : D) (reading : Moment) (work : ℕ) (before : Snapshot D) (done : Result Progress Unavailable) (left : Left) → before.value ≡ d → IsTicked reading work before e done left
      → Goes (view d) (view e) → Sliced s t (at_reading s reading) work done → IsCaused (view d) (view e) done
      → OnOk done (IfSound sound (view d) (running (view e) t ≡ advance (running (view d) s) (at_reading s reading)))
      → OnErr done (IfSound sound (view d) ((recorded (view e) t ≡ recorded (view d) s) × (running (view e) t ≡ running (view d) s)))
      → IfSound sound (view d) (Leaves (view d) (view e) (MayLeave (IsErr done) (view d) (view e) s t (advanced (at_reading s reading))))
      → Did sound view s d left.0 t e × ((x : Turn (Item D)) → length (entries_in left.0 x) ≡ 0)
  did_ticked s t d e reading work before (Ok progress) left was is goes told caused moved same leaves =
      subst (λ (z : Left). Did sound view s d z.0 t e × ((x : Turn (Item D)) → length (entries_in z.0 x) ≡ 0)) (sym is) (
        record {
          goes = goes;
          did = (told, moved);
          pending = inr (⊎_elim inr inl told.0.passes.pending);
          moments = λ sure tells honest. left_one sound view s t d e (Tick reading work progress) (false ≡ true) (advanced (at_reading s reading)) (λ fails. false≢true fails) (leaves sure tells honest);
        },
        λ x. refl,
      )
  did_ticked s t d e reading work before (Err unavailable) left was is goes told caused moved same leaves =
      subst (λ (z : Left). Did sound view s d z.0 t e × ((x : Turn (Item D)) → length (entries_in z.0 x) ≡ 0)) (sym is.2) (
        record {
          goes = goes;
          did = (was, is.1, caused, λ sure tells honest. (same sure tells honest).1);
          pending = inl tt;
          moments = λ sure tells honest. left_one sound view s t d e (Fault before is.0) (true ≡ true) (advanced (at_reading s reading)) (λ fails. tt) (leaves sure tells honest);
        },
        λ x. refl,
      )

  -- the word that the look found
  low_word : (v w : V) (found : ℕ) (m : M) (shelf : Shelf Seen D) → found < 2 ^ 42 → Began (Follows sound view) (after_look found v) m shelf → (left : TurnLeft (Item D)) → w ≡ behind left m.0 → w.ticket_word < 2 ^ 42
  low_word v w found m shelf low b left is = subst (λ n. n < 2 ^ 42) (sym (ap (λ (u : V). u.ticket_word) is ∙ ap (λ (u : V). u.ticket_word) b.view)) low

  pub ticks : (about : Opening (Shelf Seen D)) (v w : V) (found : ℕ) (m : M) (shelf next : Shelf Seen D) (reading : Moment) (work : ℕ) (before : Snapshot D) (done : Result Progress Unavailable) (left : Left)
      → v.about ≡ Some about → found < 2 ^ 42 → Began (Follows sound view) (after_look found v) m shelf → MayEnd (Follows sound view) m next left.0 Nothing → w ≡ behind (record { item = left.0; deed = Nothing }) m.0
      → IsTicked reading work before next.disk done left → Ticked sound view about.first.value v reading work left.1 w
  ticks about v w found m shelf next reading work before (Ok progress) left of low b may is leaves =
      let may' = subst (λ (z : Left). MayEnd (Follows sound view) m next z.0 Nothing) leaves may in let is' = is ∙ ap (λ (z : Left). behind (record { item = z.0; deed = Nothing }) m.0) leaves in
      ticked progress (ap (λ z. z.1) leaves) (low_word v w found m shelf low b (record { item = Tick reading work progress; deed = Nothing }) is')
      (added sound view about (after_look found v) w m shelf next (Tick reading work progress) Nothing of b may' is')
  ticks about v w found m shelf next reading work before (Err unavailable) left of low b may is leaves =
      let may' = subst (λ (z : Left). MayEnd (Follows sound view) m next z.0 Nothing) leaves.2 may in let is' = is ∙ ap (λ (z : Left). behind (record { item = z.0; deed = Nothing }) m.0) leaves.2 in
      undone before leaves.0 (ap (λ z. z.1) leaves.2) (low_word v w found m shelf low b (record { item = Fault before leaves.0; deed = Nothing }) is')
      (added sound view about (after_look found v) w m shelf next (Fault before leaves.0) Nothing of b may' is')
