-- Exchanges one after another, or a command's own calls, and what is left at their moments.
use Rattle.std.proofs.Common.{◌≡◌, ◌⊎◌, ℕ, zero, suc, ◌+◌, ◌≤◌, List, [], ◌∷◌, ◌++◌, length, append_assoc, inl, inr, None, true, refl, sym, ap, subst, ◌∙◌, arith}
use Rattle.std.proofs.lemmas.List.{length-append, append-nil}
use Rattle.ebs_world.specs.Image.{Image, Images}
use Rattle.ebs_world.specs.View.{View, Leaves, IsTrueToItself}
use Rattle.ebs_world.specs.inner.Runs.{leaves_weaker, leaves_on, leaves_not}
use Rattle.ebs_model.specs.Limits.{bad_member}
use Rattle.ebs_model.specs.declared.answer.Answer.TheVariants.{Refused}
use Rattle.ebs_model.specs.declared.answer.Refusal.TheVariants.{Unavailable}
use Rattle.ebs_exchanges.specs.Stops.{Point, Along, OwnCall}
use Rattle.ebs_recovery.specs.Stands.{Stands}
use Rattle.ebs_recovery.specs.Made.{called}
use Rattle.ebs_recovery.specs.inner.Fits.{Seen, recorded, Fits}
use Rattle.ebs_recovery.specs.inner.FitLaws.{ImagesStandForOne}
use Rattle.ebs_disk_store.specs.inner.Told.{RanOffJournalAndOne, called_at}
use Rattle.ebs_disk_store.specs.inner.Turned.{MayLeave}
use Rattle.ebs_disk_store.specs.inner.Pending.{RecordedCallsAreAsked, IsPendingAfter}
use Rattle.ebs_service.specs.inner.Fronts.{point, StoodOf}
use Rattle.ebs_service.specs.Fronts.{OneMoreOf, FrontOf}
use Rattle.ebs_service.proofs.Points.{along_more}
use Rattle.ebs_service.proofs.Pendings.{IsPendingIn, Holds, moment_of_call, still_pending, pending_after, in_hand, for_one}

-- the moments of these numbers, the first of them now
abbrev moments_from : ℕ → (ℕ → ℕ) → ℕ → ℕ
moments_from first later zero = first
moments_from first later (suc i) = later i

-- which call each asks for, and its part of both machines
module _ {X : Type 0} (Makes : X → OwnCall → Type 0) (Part : Point → X → Point → Type 0) {D : Type 0} (view : D → View) where
  -- what one of them did: no call of the disk, or a call that the store applied
  pub data Did (x : X) (d f : D) (s u : Seen) : Type 0 where
    by_none : f ≡ d → u ≡ s → Did x d f s u
    by_call : (made : OwnCall) → Makes x made → bad_member made.call.request ≡ None → IsPendingAfter s u made.call.account (moment_of_call s made) made.call.request made.answer
        → (u.pending ≡ None) ⊎ (recorded (view f) u ≡ recorded (view d) s) → RanOffJournalAndOne s.slots (view d) (view f)
        → Leaves (view d) (view f) (MayLeave (made.answer ≡ Refused Unavailable) (view d) (view f) s u (called (called_at made.call.account (moment_of_call s made) made.call.request))) → Did x d f s u

  pub record Took (x : X) (d f : D) (s u : Seen) : Type 0 where
    pub part : Part (point (view d) s) x (point (view f) u)
    pub did : Did x d f s u

  -- each did so where the disk tells and is honest, and the last of them ends here
  abbrev pub Path : Seen → D → List X → Seen → D → Type 0
  Path s d [] t e = (t ≡ s) × (e ≡ d)
  Path s d (x ∷ xs) t e = (u : Seen) × (f : D) × ((view d).tells ≡ true → (view d).honest ≡ true → Took x d f s u) × Path u f xs t e

module _ {X : Type 0} (Makes : X → OwnCall → Type 0) (Part : Point → X → Point → Type 0) {D : Type 0} (view : D → View) (sound : Type 0) (is_sound : sound) (law : (d : D) → IsTrueToItself (view d)) (images : (d : D) → ImagesStandForOne (view d))
    (asked : RecordedCallsAreAsked) (whole : List X) (p : Point) where
  abbrev Held : List X → View → Seen → Type 0
  Held past v s = Holds Makes Part p past v s

  -- it stands for a front of at least so many
  abbrev For : ℕ → Images
  For n = FrontOf Makes Part p whole n

  weaker : (m n : ℕ) → m ≤ n → (c : Image) → For n c → For m c
  weaker m n le c h = record { front = h.front; back = h.back; is = h.is; long = omega (arith, le, h.long); after = h.after; runs = h.runs; stands = h.stands }

  -- an image of the store after these
  at_front : (past rest : List X) (v : View) (s : Seen) (c : Image) → whole ≡ past ++ rest → Along Part p past (point v s)
      → Stands c (recorded v s) ⊎ OneMoreOf Makes Part p whole past (point v s) c → For (length past) c
  at_front past rest v s c is runs stands = record { front = past; back = rest; is = is; long = omega arith; after = point v s; runs = runs; stands = stands }

  -- those that are still to come
  pub record Goes (past rest : List X) (v w : View) (s t : Seen) : Type 0 where
    pub runs : Along Part (point v s) rest (point w t)
    pub moments : Leaves v w (For (length past))
    pub when : ℕ → ℕ
    pub begins : when 0 ≡ v.moment
    pub ascends : (i : ℕ) → when i ≤ when (i + 1)
    pub ends : when (length rest) ≤ w.moment
    pub fronts : (i : ℕ) (c : Image) → i ≤ length rest → w.left_since (when i) c → For (length past + i) c

  -- none
  ended : (past : List X) (d : D) (s : Seen) → (view d).tells ≡ true → (view d).honest ≡ true → whole ≡ past ++ [] → Along Part p past (point (view d) s) → Held past (view d) s → Fits sound (view d) s
      → Goes past [] (view d) (view d) s s
  ended past d s tells honest is runs pending fits =
      let now : Leaves (view d) (view d) (For (length past)) = leaves_not (view d) (For (length past)) (law d) honest
      (λ c left. at_front past [] (view d) s c is runs (for_one Makes Part p asked whole past [] (view d) s c is pending (images d s (fits is_sound tells honest) c left))) in
      record {
        runs = refl;
        moments = now;
        when = λ i. (view d).moment;
        begins = refl;
        ascends = λ i. omega arith;
        ends = omega arith;
        fronts = λ i c le left. weaker (length past + i) (length past) (omega (arith, le)) c (now.each c left);
      }

  longer : (past : List X) (x : X) → length (past ++ x ∷ []) ≡ length past + 1
  longer past x = length-append past (x ∷ [])

  -- one more, and those behind it
  module _ (past rest : List X) (x : X) (v mid w : View) (s u t : Seen) (first : Part (point v s) x (point mid u)) (later : v.moment ≤ mid.moment)
      (before : Leaves mid w (For (length past)) → Leaves v w (For (length past))) (goes : Goes (past ++ x ∷ []) rest mid w u t) where
    moved : Leaves v w (For (length past))
    moved = before (leaves_weaker mid w (For (length (past ++ x ∷ []))) (For (length past)) (weaker (length past) (length (past ++ x ∷ [])) (omega (arith, longer past x))) goes.moments)

    at_moment : (i : ℕ) (c : Image) → i ≤ length (x ∷ rest) → w.left_since (moments_from v.moment goes.when i) c → For (length past + i) c
    at_moment zero c le left = weaker (length past + 0) (length past) (omega arith) c (moved.each c left)
    at_moment (suc i) c le left = weaker (length past + suc i) (length (past ++ x ∷ []) + i) (omega (arith, longer past x)) c (goes.fronts i c (omega (arith, le)) left)

    climbs : (i : ℕ) → moments_from v.moment goes.when i ≤ moments_from v.moment goes.when (i + 1)
    climbs zero = subst (λ (n : ℕ). v.moment ≤ n) (sym goes.begins) later
    climbs (suc i) =
        let next : suc (i + 1) ≡ suc i + 1 = omega arith in
        subst (λ (n : ℕ). goes.when i ≤ moments_from v.moment goes.when n) next (goes.ascends i)

    one_more : Goes past (x ∷ rest) v w s t
    one_more = record {
      runs = (point mid u, first, goes.runs);
      moments = moved;
      when = moments_from v.moment goes.when;
      begins = refl;
      ascends = climbs;
      ends = goes.ends;
      fronts = at_moment;
    }

  -- what one of them does
  record Steps (past : List X) (x : X) (d f : D) (s u : Seen) : Type 0 where
    pub tells : (view f).tells ≡ true
    pub honest : (view f).honest ≡ true
    pub pending : Held (past ++ x ∷ []) (view f) u
    pub part : Part (point (view d) s) x (point (view f) u)
    pub later : (view d).moment ≤ (view f).moment
    pub before : (e : D) → Leaves (view f) (view e) (For (length past)) → Leaves (view d) (view e) (For (length past))

  module _ (past rest : List X) (x : X) (d f : D) (s u : Seen) (tells : (view d).tells ≡ true) (honest : (view d).honest ≡ true) (is : whole ≡ past ++ x ∷ rest)
      (runs : Along Part p past (point (view d) s)) (pending : Held past (view d) s) where
    -- an image of one of its moments
    at_call : Part (point (view d) s) x (point (view f) u) → (made : OwnCall) → Makes x made → bad_member made.call.request ≡ None → (c : Image)
        → MayLeave (made.answer ≡ Refused Unavailable) (view d) (view f) s u (called (called_at made.call.account (moment_of_call s made) made.call.request)) c → For (length past) c
    at_call first made makes within c (inl one) = at_front past (x ∷ rest) (view d) s c is runs (for_one Makes Part p asked whole past (x ∷ rest) (view d) s c is pending one)
    at_call first made makes within c (inr (inl stands)) = weaker (length past) (length (past ++ x ∷ [])) (omega (arith, longer past x)) c
        (at_front (past ++ x ∷ []) rest (view f) u c (is ∙ sym (append_assoc past (x ∷ []) rest)) (along_more Part p (point (view d) s) (point (view f) u) past x runs first) (inl stands))
    at_call first made makes within c (inr (inr (told, after))) = at_front past (x ∷ rest) (view d) s c is runs (inr (in_hand Makes Part p whole past rest x (view d) s c made is makes within runs told after))

    steps_by : Part (point (view d) s) x (point (view f) u) → Did Makes Part view x d f s u → Steps past x d f s u
    steps_by first (by_none still same) = record {
      tells = subst (λ (e : D). (view e).tells ≡ true) (sym still) tells;
      honest = subst (λ (e : D). (view e).honest ≡ true) (sym still) honest;
      pending = still_pending Makes Part p past x (view d) (view f) s u (ap (λ (q : Seen). q.pending) same) (λ i. recorded (view (still i)) (same i)) pending;
      part = first;
      later = subst (λ (e : D). (view d).moment ≤ (view e).moment) (sym still) (omega arith);
      before = λ e leaves. subst (λ (g : D). Leaves (view g) (view e) (For (length past))) still leaves;
    }
    steps_by first (by_call made makes within after stays ran moments) =
        let left : Leaves (view d) (view f) (For (length past)) = leaves_weaker (view d) (view f) (MayLeave (made.answer ≡ Refused Unavailable) (view d) (view f) s u (called (called_at made.call.account (moment_of_call s made) made.call.request))) (For (length past))
        (at_call first made makes within) moments in
        record {
          tells = ran.ran.told ∙ tells;
          honest = ran.ran.kept_honest ∙ honest;
          pending = pending_after Makes Part p past x (view d) (view f) s u made makes within runs pending after stays;
          part = first;
          later = left.later;
          before = λ e leaves. leaves_on (view d) (view f) (view e) (For (length past)) left leaves;
        }

    steps : ((view d).tells ≡ true → (view d).honest ≡ true → Took Makes Part view x d f s u) → Steps past x d f s u
    steps took = let t = took tells honest in steps_by t.part t.did

  pub goes_on : (past rest : List X) (d e : D) (s t : Seen) → (view d).tells ≡ true → (view d).honest ≡ true → whole ≡ past ++ rest → Along Part p past (point (view d) s) → Held past (view d) s
      → Path Makes Part view s d rest t e → Fits sound (view e) t → Goes past rest (view d) (view e) s t
  goes_on past [] d e s t tells honest is runs pending (same, still) fits =
      subst (λ (f : D). Goes past [] (view d) (view f) s t) (sym still)
      (subst (λ (u : Seen). Goes past [] (view d) (view d) s u) (sym same)
      (ended past d s tells honest is runs pending (subst (λ (u : Seen). Fits sound (view d) u) same (subst (λ (f : D). Fits sound (view f) t) still fits))))
  goes_on past (x ∷ rest) d e s t tells honest is runs pending (u, f, took, path) fits =
      let step : Steps past x d f s u = steps past rest x d f s u tells honest is runs pending took in
      one_more past rest x (view d) (view f) (view e) s u t step.part step.later (step.before e)
      (goes_on (past ++ x ∷ []) rest f e u t step.tells step.honest (is ∙ sym (append_assoc past (x ∷ []) rest)) (along_more Part p (point (view d) s) (point (view f) u) past x runs step.part) step.pending path fits)

  -- where some of them have led
  pub record Reached (xs : List X) (d : D) (s : Seen) : Type 0 where
    pub tells : (view d).tells ≡ true
    pub honest : (view d).honest ≡ true
    pub runs : Along Part p xs (point (view d) s)
    pub pending : Held xs (view d) s

  pub reached : (past front back : List X) (d f : D) (s u : Seen) → (view d).tells ≡ true → (view d).honest ≡ true → whole ≡ past ++ (front ++ back) → Along Part p past (point (view d) s) → Held past (view d) s
      → Path Makes Part view s d front u f → Reached (past ++ front) f u
  reached past [] back d f s u tells honest is runs pending (same, still) =
      subst (λ (l : List X). Reached l f u) (sym (append-nil past))
      (subst (λ (e : D). Reached past e u) (sym still)
      (subst (λ (q : Seen). Reached past d q) (sym same) (record { tells = tells; honest = honest; runs = runs; pending = pending })))
  reached past (x ∷ front) back d f s u tells honest is runs pending (next, world, took, path) =
      let step : Steps past x d world s next = steps past (front ++ back) x d world s next tells honest is runs pending took in
      subst (λ (l : List X). Reached l f u) (append_assoc past (x ∷ []) front)
      (reached (past ++ x ∷ []) front back world f next u step.tells step.honest (is ∙ sym (append_assoc past (x ∷ []) (front ++ back)))
      (along_more Part p (point (view d) s) (point (view world) next) past x runs step.part) step.pending path)

none_first : (i : ℕ) → 0 + i ≡ i
none_first i = omega arith

module _ {X : Type 0} (Makes : X → OwnCall → Type 0) (Part : Point → X → Point → Type 0) {D : Type 0} (view : D → View) (sound : Type 0) (is_sound : sound) (law : (d : D) → IsTrueToItself (view d)) (images : (d : D) → ImagesStandForOne (view d))
    (asked : RecordedCallsAreAsked) where
  nothing_pending : (start : Point) (v : View) (s : Seen) → s.pending ≡ None → Holds Makes Part start [] v s
  nothing_pending start v s none = subst (IsPendingIn Makes Part start [] (recorded v s)) (sym none) tt

  pub stood : (s t : Seen) (old new : D) (xs : List X) → Path Makes Part view s old xs t new → Fits sound (view new) t → s.pending ≡ None → (view old).tells ≡ true → (view old).honest ≡ true
      → StoodOf Makes Part (view old) (view new) s t xs
  stood s t old new xs path fits none tells honest =
      let g = goes_on Makes Part view sound is_sound law images asked xs (point (view old) s) [] xs old new s t tells honest refl refl (nothing_pending (point (view old) s) (view old) s none) path fits in
      record { runs = g.runs; moments = g.moments; when = g.when; begins = g.begins; ascends = g.ascends; ends = g.ends; fronts = λ i c le left. subst (λ (n : ℕ). FrontOf Makes Part (point (view old) s) xs n c) (none_first i) (g.fronts i c le left) }

  pub stays : (s u t : Seen) (old mid new : D) (front back : List X) → Path Makes Part view s old front u mid → Path Makes Part view u mid back t new → Fits sound (view new) t → s.pending ≡ None
      → (view old).tells ≡ true → (view old).honest ≡ true → (c : Image) → (view new).left_since (view mid).moment c → FrontOf Makes Part (point (view old) s) (front ++ back) (length front) c
  stays s u t old mid new front back first later fits none tells honest c left =
      let at = reached Makes Part view sound is_sound law images asked (front ++ back) (point (view old) s) [] front back old mid s u tells honest refl refl (nothing_pending (point (view old) s) (view old) s none) first in
      let g = goes_on Makes Part view sound is_sound law images asked (front ++ back) (point (view old) s) front back mid new u t at.tells at.honest refl at.runs at.pending later fits in
      g.moments.each c left
