-- What a call makes of the pass's view.
use Rattle.std.proofs.Common.{◌≡◌, ℕ, ◌+◌, ◌<◌, ◌^◌, List, [], ◌∷◌, ◌++◌, length, Option, Some, slice_get, refl, ap, sym, ◌∙◌, subst, ⊎_elim, inl, inr, arith, eq-eqb, ◌==◌, cond}
use Rattle.std.specs.declared.snapshot.Snapshot.{Snapshot}
use Rattle.std.proofs.lemmas.List.Elements.{filter-append}
use Rattle.atomic_table.specs.Table.{Me}
use Rattle.ebs_world.specs.View.{View as DiskView, Ran, Leaves as DiskLeaves}
use Rattle.ebs_world.specs.Image.{Places}
use Rattle.ebs_model.specs.Quotas.{Rose}
use Rattle.ebs_model.specs.declared.keys.Moment.{Moment}
use Rattle.ebs_model.specs.declared.request.Request.{Request}
use Rattle.ebs_model.specs.declared.answer.Answer.{Answer}
use Rattle.ebs_model.specs.declared.answer.Answer.TheVariants.{Refused, Memory}
use Rattle.ebs_model.specs.declared.answer.Refusal.TheVariants.{Unavailable}
use Rattle.ebs_lawful.specs.OwnAnswers.{CallsAnswerOwn, StepsAnswerOwn}
use Rattle.ebs_turns.specs.declared.line.Deed.{Deed}
use Rattle.ebs_turns.specs.declared.line.Turn.{Turn}
use Rattle.ebs_turns.specs.declared.seats.Opening.{Opening}
use Rattle.ebs_turns.specs.declared.seats.Place.{Place}
use Rattle.ebs_turns.specs.declared.seats.View.{View}
use Rattle.ebs_turns.specs.Line.{turns_of, IsDeed}
use Rattle.ebs_turns.specs.Known.{Began, MayEnd, Leaves}
use Rattle.ebs_turns.specs.Tells.{behind}
use Rattle.ebs_recovery.specs.Made.{Made}
use Rattle.ebs_recovery.specs.inner.Fits.{Seen, running, Fits}
use Rattle.ebs_desk.specs.declared.item.Item.{Item}
use Rattle.ebs_desk.specs.declared.item.Item.TheVariants.{Entry, Fault, Blank}
use Rattle.ebs_desk.specs.declared.shelf.Shelf.{Shelf}
use Rattle.ebs_disk_store.specs.declared.loading.Loaded.{Loaded}
use Rattle.ebs_disk_store.specs.inner.Told.{IfSound, at_reading}
use Rattle.ebs_disk_store.specs.inner.Turned.{Turn as StoreTurn, MayLeave}
use Rattle.ebs_disk_store.proofs.Left.{left_told}
use Rattle.ebs_desk.specs.Line.{IsFault, entries_in, history}
use Rattle.ebs_desk.specs.Turns.{Goes, Tells, LeavesOne, Did, Follows}
use Rattle.ebs_desk.specs.Fronts.{LeavesOnlyFronts}
use Rattle.ebs_desk.specs.Calls.{IsLeft, of_entry, of_fault, of_blank, turn_with, IsLegal, Adds, Answered, Closed, entered, failed, wanted}
use Rattle.ebs_desk.proofs.StoreCalls.{tells_left, tells_up, stays}
use Rattle.ebs_desk.proofs.Pendings.{tells_pending}
use Rattle.ebs_desk.proofs.Leases.{MovesLeases}
use Rattle.ebs_desk.proofs.Went.{history-append, history_small, follows_more, get_behind}
use Rattle.ebs_desk.proofs.Legal.{answered, risen}

module _ {D : Type 0} (sound : Type 0) (view : D → DiskView) where
  abbrev M : Type 0
  M = Me (Place (Shelf Seen D) (Item D)) (View (Shelf Seen D) (Item D))

  pub goes_of : (places : Places) (old new : DiskView) → Ran places old new → Goes old new
  goes_of places old new ran = record { told = ran.told; honest = ran.kept_honest; count = ran.count }

  legal_of : (first : Shelf Seen D) (line : List (Turn (Item D))) (last : Shelf Seen D) → Follows sound view first line last → IsLegal sound view first line
  legal_of first line last f = record {
    store = last.store;
    disk = last.disk;
    went = f.went;
    fits = f.fits;
    answered = λ sure tells honest. (answered sound view first.store first.disk line last.store last.disk f.went sure tells honest).0;
    risen = (risen sound view first.store first.disk line last.store last.disk f.went).0;
  }

  -- the line begins with what was seen before the turn, and its own turns in it are those
  adds : (about : Opening (Shelf Seen D)) (v w : View (Shelf Seen D) (Item D)) (m : M) (shelf : Shelf Seen D) (item : Item D) (deed : Deed) (next : Shelf Seen D) → Began (Follows sound view) v m shelf
      → Follows sound view about.first.value (m.0.seen ++ turn_with m.0.number item deed ∷ []) next → w ≡ behind (record { item = item; deed = deed }) m.0 → Adds sound view about.first.value v.number v.seen w.seen (turn_with v.number item deed)
  adds about v w m shelf item deed next b f is = let seen : m.0.seen ≡ b.line = ap (λ u. u.seen) b.view in let by : m.0.number ≡ v.number = ap (λ u. u.number) b.view in
      let line : w.seen ≡ b.line ++ turn_with v.number item deed ∷ [] = ap (λ u. u.seen) is ∙ (λ i. seen i ++ turn_with (by i) item deed ∷ []) in record {
        between = b.sees.begins.0;
        line = line ∙ ap (λ l. l ++ turn_with v.number item deed ∷ []) (sym b.sees.begins.1);
        legal = subst (IsLegal sound view about.first.value) (sym (ap (λ u. u.seen) is)) (legal_of about.first.value (m.0.seen ++ turn_with m.0.number item deed ∷ []) next f);
        own = ap (turns_of v.number) line ∙ (filter-append (λ x. v.number == x.by) b.line (turn_with v.number item deed ∷ []) ∙ (λ i. b.sees.own i ++ cond (eq-eqb v.number v.number refl i) (turn_with v.number item deed ∷ []) []));
      }

  abbrev V : Type 0
  V = View (Shelf Seen D) (Item D)

  -- the number of answered calls stays small
  pub small : (about : Opening (Shelf Seen D)) (v : V) (m : M) (shelf : Shelf Seen D) → Began (Follows sound view) v m shelf → v.about ≡ Some about → shelf.entries < 2 ^ 63
  small about v m shelf b is = let f = b.stands about is in let c = f.counted in let h = history_small b.line in let l = b.sees.long in let s = b.sees.short in omega arith

  -- where a turn with this item tells of a failure as what it did in the store
  pub left_one : (s t : Seen) (d e : D) (item : Item D) (Failed : Type 0) (change : Made) → (Failed → IsFault item) → DiskLeaves (view d) (view e) (MayLeave Failed (view d) (view e) s t change) → LeavesOne (view d) (view e) s t item
  left_one s t d e item Failed change fails leaves = record { change = change; leaves = left_told Failed (IsFault item) fails (view d) (view e) s t change leaves }

  other_stop : Memory ≡ Refused Unavailable → ⊥
  other_stop e = cc

  -- what the turn of a call did, by what it leaves
  pub did_left : (s t : Seen) (d e : D) (account : ℕ) (reading : Moment) (request : Request) (asked : Snapshot Request) (before : Snapshot D) (answer : Answer) (entries : ℕ) (left : Item D × Option ℕ × ℕ)
      → asked.value ≡ request → before.value ≡ d → IsLeft account reading asked before e answer entries left → Goes (view d) (view e)
      → Tells (e ≡ d) (Rose (view d).faults (view e).faults) (view d) s t account (at_reading s reading) request answer
      → (answer ≡ Refused Unavailable → Rose (view d).faults (view e).faults)
      → IfSound sound (view d) (StoreTurn (view d) (view e) s t account reading request answer)
      → StepsAnswerOwn
      → (change : Made) → IfSound sound (view d) (DiskLeaves (view d) (view e) (MayLeave (answer ≡ Refused Unavailable) (view d) (view e) s t change))
      → Did sound view s d left.0 t e × ((x : Turn (Item D)) → left.2 ≡ entries + length (entries_in left.0 x))
  did_left s t d e account reading request asked before answer entries left asks was (of_entry said says fine unstarved is) goes told cause step own change leaves =
      subst (λ (z : Item D × Option ℕ × ℕ). Did sound view s d z.0 t e × ((x : Turn (Item D)) → z.2 ≡ entries + length (entries_in z.0 x))) (sym is) (
        record {
          goes = goes;
          did = record {
            told = subst (λ (z : Request × Answer). Tells (e ≡ d) (Rose (view d).faults (view e).faults) (view d) s t account (at_reading s reading) z.0 z.1) (λ i. (sym asks i, sym says i)) told;
            step = λ sure tells honest. ⊎_elim
                (λ done. subst (λ (z : Request × Answer). Rattle.ebs_model.specs.Step.step (running (view d) s) account reading z.0 ≡ (running (view e) t, z.1)) (λ i. (sym asks i, sym says i)) done)
                (λ stop. absurd (⊎_elim fine unstarved stop.0)) (step sure tells honest);
          };
          pending = ⊎_elim (λ fails. absurd (fine fails)) (λ old. inr old) (tells_pending _ _ _ s t account (at_reading s reading) request answer told);
          moments = λ sure tells honest. left_one s t d e (Entry account reading asked said) (answer ≡ Refused Unavailable) change fine (leaves sure tells honest);
        },
        λ x. omega arith,
      )
  did_left s t d e account reading request asked before answer entries left asks was (of_fault after now fails is) goes told cause step own change leaves =
      subst (λ (z : Item D × Option ℕ × ℕ). Did sound view s d z.0 t e × ((x : Turn (Item D)) → z.2 ≡ entries + length (entries_in z.0 x))) (sym is) (
        record {
          goes = goes;
          did = (was, now, cause fails, λ sure tells honest. stays own (view d) (view e) s t account reading request answer (step sure tells honest) (inl fails));
          pending = inl tt;
          moments = λ sure tells honest. left_one s t d e (Fault before after) (answer ≡ Refused Unavailable) change (λ told. tt) (leaves sure tells honest);
        },
        λ x. omega arith,
      )
  did_left s t d e account reading request asked before answer entries left asks was (of_blank starves is) goes told cause step own change leaves =
      subst (λ (z : Item D × Option ℕ × ℕ). Did sound view s d z.0 t e × ((x : Turn (Item D)) → z.2 ≡ entries + length (entries_in z.0 x))) (sym is) (
        record {
          goes = goes;
          did = λ sure tells honest. stays own (view d) (view e) s t account reading request answer (step sure tells honest) (inr starves);
          pending = ⊎_elim (λ fails. absurd (other_stop (sym starves ∙ fails))) (λ old. inr old) (tells_pending _ _ _ s t account (at_reading s reading) request answer told);
          moments = λ sure tells honest. left_one s t d e Blank (answer ≡ Refused Unavailable) change (λ told. other_stop (sym starves ∙ told)) (leaves sure tells honest);
        },
        λ x. omega arith,
      )

  -- so it may end
  pub due : (v : V) (m : M) (shelf : Shelf Seen D) (item : Item D) (deed : Deed) (next : Shelf Seen D) (b : Began (Follows sound view) v m shelf) → Did sound view shelf.store shelf.disk item next.store next.disk → Fits sound (view next.disk) next.store
      → ((x : Turn (Item D)) → next.entries ≡ shelf.entries + length (entries_in item x)) → MovesLeases (view shelf.disk) (view next.disk) shelf.store next.store item deed → IsDeed b.line v.lease deed → MayEnd (Follows sound view) m next item deed
  due v m shelf item deed next b did fits entries moves done = record {
    stage = ap (λ u. u.stage) b.view;
    out = b.out;
    stands = λ a e. subst (λ (u : V). Follows sound view a.first.value (u.seen ++ turn_with u.number item deed ∷ []) next) (sym b.view)
        (follows_more sound view a.first.value b.line shelf (turn_with v.number item deed) next (b.stands a (sym (ap (λ u. u.about) b.view) ∙ e)) did fits (entries (turn_with v.number item deed)) moves);
    done = subst (λ (u : V). IsDeed u.seen u.lease deed) (sym b.view) done;
  }

  -- and leaves this of the pass's view
  pub added : (about : Opening (Shelf Seen D)) (v w : V) (m : M) (shelf next : Shelf Seen D) (item : Item D) (deed : Deed) → v.about ≡ Some about → Began (Follows sound view) v m shelf
      → MayEnd (Follows sound view) m next item deed → w ≡ behind (record { item = item; deed = deed }) m.0 → Adds sound view about.first.value v.number v.seen w.seen (turn_with v.number item deed)
  added about v w m shelf next item deed of b may is = adds about v w m shelf item deed next b (may.stands about (ap (λ u. u.about) b.view ∙ of)) is

  placed : (about : Opening (Shelf Seen D)) (v w : V) (m : M) (shelf : Shelf Seen D) (account : ℕ) (reading : Moment) (asked : Snapshot Request) (said : Snapshot Loaded) (deed : Deed) → v.about ≡ Some about → Began (Follows sound view) v m shelf
      → w ≡ behind (record { item = Entry account reading asked said; deed = deed }) m.0 → slice_get (history w.seen) shelf.entries ≡ Some (turn_with v.number (Entry account reading asked said) deed)
  placed about v w m shelf account reading asked said deed of b is = let x : Turn (Item D) = turn_with v.number (Entry account reading asked said) deed in
      let line : w.seen ≡ b.line ++ x ∷ [] = ap (λ u. u.seen) is ∙ ap (λ (u : V). u.seen ++ turn_with u.number (Entry account reading asked said) deed ∷ []) b.view in
      let all : history w.seen ≡ history b.line ++ x ∷ [] = ap history line ∙ history-append b.line (x ∷ []) in
      (λ i. slice_get (all i) ((b.stands about of).counted i)) ∙ get_behind (history b.line) x

  pub answers : (about : Opening (Shelf Seen D)) (v w : V) (m : M) (shelf next : Shelf Seen D) (deed : Deed) (account : ℕ) (reading : Moment) (request : Request) (asked : Snapshot Request) (before : Snapshot D) (answer : Answer) (left : Item D × Option ℕ × ℕ)
      → v.about ≡ Some about → Began (Follows sound view) v m shelf → MayEnd (Follows sound view) m next left.0 deed → w ≡ behind (record { item = left.0; deed = deed }) m.0
      → asked.value ≡ request → CallsAnswerOwn → Tells (next.disk ≡ shelf.disk) (Rose (view shelf.disk).faults (view next.disk).faults) (view shelf.disk) shelf.store next.store account (at_reading shelf.store reading) request answer
      → IsLeft account reading asked before next.disk answer shelf.entries left → Answered sound view about.first.value v.number v.seen w.seen deed account reading request (record { answer = answer; place = left.1 })
  answers about v w m shelf next deed account reading request asked before answer left of b may is asks own told (of_entry said says fine unstarved e) =
      let may' = subst (λ (z : Item D × Option ℕ × ℕ). MayEnd (Follows sound view) m next z.0 deed) e may in let is' = is ∙ ap (λ (z : Item D × Option ℕ × ℕ). behind (record { item = z.0; deed = deed }) m.0) e in
      let a = added about v w m shelf next (Entry account reading asked said) deed of b may' is' in
      entered asked said shelf.entries asks says (ap (λ z. z.1) e) fine unstarved (tells_left own _ _ _ shelf.store next.store account (at_reading shelf.store reading) request answer told) a (placed about v w m shelf account reading asked said deed of b is')
  answers about v w m shelf next deed account reading request asked before answer left of b may is asks own told (of_fault after now fails e) =
      let may' = subst (λ (z : Item D × Option ℕ × ℕ). MayEnd (Follows sound view) m next z.0 deed) e may in let is' = is ∙ ap (λ (z : Item D × Option ℕ × ℕ). behind (record { item = z.0; deed = deed }) m.0) e in
      let a = added about v w m shelf next (Fault before after) deed of b may' is' in
      failed before after fails (tells_up own _ _ _ shelf.store next.store account (at_reading shelf.store reading) request answer told fails) (ap (λ z. z.1) e) a
  answers about v w m shelf next deed account reading request asked before answer left of b may is asks own told (of_blank starves e) =
      let may' = subst (λ (z : Item D × Option ℕ × ℕ). MayEnd (Follows sound view) m next z.0 deed) e may in let is' = is ∙ ap (λ (z : Item D × Option ℕ × ℕ). behind (record { item = z.0; deed = deed }) m.0) e in
      let a = added about v w m shelf next Blank deed of b may' is' in
      wanted starves (ap (λ z. z.1) e) a

  -- what the desk gives back
  pub closes : (about : Opening (Shelf Seen D)) (v : V) (shelf : Shelf Seen D) → v.about ≡ Some about → Leaves (Follows sound view) v shelf
      → ((line : List (Turn (Item D))) → Follows sound view about.first.value line shelf → LeavesOnlyFronts sound view about.first.value line shelf.store shelf.disk) → Closed sound view about.first.value v.seen shelf.store shelf.disk
  closes about v shelf of l fronts = let f = l.stands about of in record {
    legal = legal_of about.first.value v.seen shelf f;
    went = f.went;
    machine = λ sure tells honest. (answered sound view about.first.value.store about.first.value.disk v.seen shelf.store shelf.disk f.went sure tells honest).1;
    fits = f.fits;
    bare = λ slot. f.leases slot ∙ l.none_out slot;
    count = (risen sound view about.first.value.store about.first.value.disk v.seen shelf.store shelf.disk f.went).1;
    leaves = fronts v.seen f;
  }
