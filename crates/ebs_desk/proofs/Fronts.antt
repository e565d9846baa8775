-- What a crash leaves while a line of turns is made.
use Rattle.std.proofs.Common.{◌≡◌, ◌⊎◌, inl, inr, ℕ, ◌≤◌, List, [], ◌∷◌, ◌++◌, length, append_assoc, None, Some, refl, sym, ap, subst, ◌∙◌, arith}
use Rattle.std.proofs.lemmas.List.{length-append, append-nil}
use Rattle.ebs_world.specs.Image.{Image, Images}
use Rattle.ebs_world.specs.View.{View, Leaves, IsTrueToItself}
use Rattle.ebs_world.specs.inner.Runs.{leaves_weaker, leaves_on, leaves_not}
use Rattle.ebs_model.specs.Machine.{Machine, advance}
use Rattle.ebs_model.specs.declared.keys.Moment.{Moment}
use Rattle.ebs_records.specs.declared.record.Record.{Record}
use Rattle.ebs_turns.specs.declared.line.Turn.{Turn}
use Rattle.ebs_recovery.specs.Made.{record_of}
use Rattle.ebs_recovery.specs.Stands.{Stands}
use Rattle.ebs_recovery.specs.inner.Fits.{Seen, StandsForOne, for_recorded, with_pending, recorded, running, Fits}
use Rattle.ebs_recovery.specs.inner.FitLaws.{ImagesStandForOne}
use Rattle.ebs_disk_store.specs.inner.Turned.{MayLeave}
use Rattle.ebs_desk.specs.declared.item.Item.{Item}
use Rattle.ebs_desk.specs.declared.shelf.Shelf.{Shelf}
use Rattle.ebs_desk.specs.Line.{machine_after, IsFault, run_line}
use Rattle.ebs_desk.specs.Turns.{LeavesOne, LeavesPending, Did, Went}
use Rattle.ebs_desk.specs.Fronts.{IsInTime, StandsForOneMore, HaveFailed, HasFirstFailed, StandsForFront, LeavesOnlyFronts}
use Rattle.ebs_desk.proofs.Legal.{IsAt, one_answer}

-- the machine at a moment is that of the records, as time leaves it
in_time : (r m : Machine) (now : Moment) → m ≡ advance r now → IsInTime r m
in_time r m now is = is ∙ sym (ap (λ (n : Machine). advance r n.clock) is)

not_none : (r : Record) → None ≡ Some r → ⊥
not_none r e = cc

module _ {D : Type 0} where
  run_more : (m : Machine) (xs : List (Turn (Item D))) (x : Turn (Item D)) → run_line m (xs ++ x ∷ []) ≡ machine_after (run_line m xs) x.item
  run_more m [] x = refl
  run_more m (y ∷ ys) x = run_more (machine_after m y.item) ys x

  -- a front of so many is one of fewer
  fewer : (first : Machine) (line : List (Turn (Item D))) (least most : ℕ) → least ≤ most → (c : Image) → StandsForFront first line most c → StandsForFront first line least c
  fewer first line least most le c f = record { front = f.front; back = f.back; is = f.is; long = omega (arith, le, f.long); recorded = f.recorded; in_time = f.in_time; stands = f.stands }

  failed_last : (xs : List (Turn (Item D))) (x : Turn (Item D)) → IsFault x.item → HaveFailed (xs ++ x ∷ [])
  failed_last [] x fails = inl fails
  failed_last (y ∷ ys) x fails = inr (failed_last ys x fails)

  failed_before : (xs : List (Turn (Item D))) (x : Turn (Item D)) → HaveFailed xs → HaveFailed (xs ++ x ∷ [])
  failed_before [] x fails = absurd fails
  failed_before (y ∷ ys) x (inl fails) = inl fails
  failed_before (y ∷ ys) x (inr fails) = inr (failed_before ys x fails)

  -- nothing is pending, or the disk failed in one of these turns
  abbrev MayPend : List (Turn (Item D)) → Seen → Type 0
  MayPend past s = (s.pending ≡ None) ⊎ HaveFailed past

  pends : (past : List (Turn (Item D))) (x : Turn (Item D)) (s t : Seen) → MayPend past s → LeavesPending s t x.item → MayPend (past ++ x ∷ []) t
  pends past x s t may (inl fails) = inr (failed_last past x fails)
  pends past x s t may (inr (inl none)) = inl none
  pends past x s t (inl none) (inr (inr same)) = inl (same ∙ none)
  pends past x s t (inr fails) (inr (inr same)) = inr (failed_before past x fails)

  -- what is pending is one change more
  for_one : (past rest : List (Turn (Item D))) (v : View) (s : Seen) (c : Image) → MayPend past s → StandsForOne v s c → Stands c (recorded v s) ⊎ ((HaveFailed past ⊎ HasFirstFailed rest) × StandsForOneMore (recorded v s) c)
  for_one past rest v s c may (for_recorded stands) = inl stands
  for_one past rest v s c (inl none) (with_pending change some whole after) = absurd (not_none (record_of change) (sym none ∙ some))
  for_one past rest v s c (inr fails) (with_pending change some whole after) = inr (inl fails, (change, after))

  -- a store at a place of the line
  pub at_place : (first : Machine) (line front back : List (Turn (Item D))) (v : View) (s : Seen) (c : Image) → line ≡ front ++ back → run_line first front ≡ running v s
      → Stands c (recorded v s) ⊎ ((HaveFailed front ⊎ HasFirstFailed back) × StandsForOneMore (recorded v s) c) → StandsForFront first line (length front) c
  at_place first line front back v s c is at stands = record { front = front; back = back; is = is; long = omega arith; recorded = recorded v s; in_time = in_time (recorded v s) (run_line first front) s.clock at; stands = stands }

module _ {D : Type 0} (sound : Type 0) (view : D → View) where
  -- the turns of the first part, and those of the second from there on
  parts : (front back : List (Turn (Item D))) (s t : Seen) (d e : D) → Went sound view s d (front ++ back) t e → (u : Seen) × (f : D) × Went sound view s d front u f × Went sound view u f back t e
  parts [] back s t d e went = (s, d, (refl, refl), went)
  parts (x ∷ front) back s t d e went = let p = parts front back went.0 t went.1 e went.3 in (p.0, p.1, (went.0, went.1, went.2, p.2), p.3)

  module _ (sure : sound) (first : Machine) where
    -- where these turns have led
    record Reaches (past : List (Turn (Item D))) (s : Seen) (d : D) : Type 0 where
      pub at : IsAt sound view (run_line first past) s d
      pub pending : MayPend past s

    one_more : (past : List (Turn (Item D))) (x : Turn (Item D)) (s t : Seen) (d e : D) → Reaches past s d → Did sound view s d x.item t e → Reaches (past ++ x ∷ []) t e
    one_more past x s t d e r did = record {
      at = subst (λ (m : Machine). IsAt sound view m t e) (sym (run_more first past x)) (one_answer sound view sure (run_line first past) s d x.item t e did r.at).1;
      pending = pends past x s t r.pending did.pending;
    }

    reached : (past front : List (Turn (Item D))) (s t : Seen) (d e : D) → Reaches past s d → Went sound view s d front t e → Reaches (past ++ front) t e
    reached past [] s t d e r went = subst (λ (l : List (Turn (Item D))). Reaches l t e) (sym (append-nil past)) (subst (λ (z : Seen × D). Reaches past z.0 z.1) (λ i. (sym went.0 i, sym went.1 i)) r)
    reached past (x ∷ front) s t d e r went = subst (λ (l : List (Turn (Item D))). Reaches l t e) (append_assoc past (x ∷ []) front) (reached (past ++ x ∷ []) front went.0 t went.1 e (one_more past x s went.0 d went.1 r went.2) went.3)

    module _ (line : List (Turn (Item D))) where
      abbrev For : List (Turn (Item D)) → Images
      For front = StandsForFront first line (length front)

      shorter : (past : List (Turn (Item D))) (x : Turn (Item D)) (c : Image) → For (past ++ x ∷ []) c → For past c
      shorter past x c f = fewer first line (length past) (length (past ++ x ∷ [])) (omega (arith, length-append past (x ∷ []))) c f

      -- an image of one of a turn's moments
      at_turn : (past rest : List (Turn (Item D))) (x : Turn (Item D)) (s t : Seen) (d e : D) (one : LeavesOne (view d) (view e) s t x.item) → line ≡ past ++ x ∷ rest
          → Reaches past s d → Reaches (past ++ x ∷ []) t e → (c : Image) → MayLeave (IsFault x.item) (view d) (view e) s t one.change c → For past c
      at_turn past rest x s t d e one is before behind c (inl stands) = at_place first line past (x ∷ rest) (view d) s c is before.at.machine (for_one past (x ∷ rest) (view d) s c before.pending stands)
      at_turn past rest x s t d e one is before behind c (inr (inl stands)) =
          shorter past x c (at_place first line (past ++ x ∷ []) rest (view e) t c (is ∙ sym (append_assoc past (x ∷ []) rest)) behind.at.machine (inl stands))
      at_turn past rest x s t d e one is before behind c (inr (inr (fails, after))) = at_place first line past (x ∷ rest) (view d) s c is before.at.machine (inr (inr fails, (one.change, after)))

      -- those that are still to come
      goes_on : (past rest : List (Turn (Item D))) (s t : Seen) (d e : D) → line ≡ past ++ rest → Reaches past s d → Went sound view s d rest t e → Leaves (view e) (view e) (StandsForOne (view e) t)
          → Leaves (view d) (view e) (For past)
      goes_on past [] s t d e is r went last =
          let ended = subst (λ (z : Seen × D). Reaches past z.0 z.1) (λ i. (sym went.0 i, sym went.1 i)) r in
          subst (λ (f : D). Leaves (view f) (view e) (For past)) went.1
          (leaves_weaker (view e) (view e) (StandsForOne (view e) t) (For past) (λ c one. at_place first line past [] (view e) t c is ended.at.machine (for_one past [] (view e) t c ended.pending one)) last)
      goes_on past (x ∷ rest) s t d e is r went last =
          let one = went.2.moments sure r.at.tells r.at.honest in
          let behind = one_more past x s went.0 d went.1 r went.2 in
          leaves_on (view d) (view went.1) (view e) (For past)
          (leaves_weaker (view d) (view went.1) (MayLeave (IsFault x.item) (view d) (view went.1) s went.0 one.change) (For past) (at_turn past rest x s went.0 d went.1 one is r behind) one.leaves)
          (leaves_weaker (view went.1) (view e) (For (past ++ x ∷ [])) (For past) (shorter past x)
          (goes_on (past ++ x ∷ []) rest went.0 t went.1 e (is ∙ sym (append_assoc past (x ∷ []) rest)) behind went.3 last))

  -- behind each front of the line, to its end
  pub leave_fronts : ((d : D) → IsTrueToItself (view d)) → ((d : D) → ImagesStandForOne (view d)) → (first : Shelf Seen D) (line : List (Turn (Item D))) (last : Seen) (end : D) → Went sound view first.store first.disk line last end
      → Fits sound (view end) last → LeavesOnlyFronts sound view first line last end
  leave_fronts law images first line last end went fits front back is =
      let p = parts front back first.store last first.disk end (subst (λ (l : List (Turn (Item D))). Went sound view first.store first.disk l last end) is went) in
      record {
        store = p.0;
        disk = p.1;
        went = p.2;
        goes_on = p.3;
        leaves = λ clean sure tells honest.
            let m = running (view first.disk) first.store in
            let start : Reaches sure m [] first.store first.disk = record { at = record { machine = refl; tells = tells; honest = honest }; pending = inl clean } in
            let there = reached sure m [] front first.store p.0 first.disk p.1 start p.2 in
            let ended = reached sure m front back p.0 last p.1 end there p.3 in
            goes_on sure m (front ++ back) front back p.0 last p.1 end refl there p.3
            (leaves_not (view end) (StandsForOne (view end) last) (law end) ended.at.honest (images end last (fits sure ended.at.tells ended.at.honest)));
      }
