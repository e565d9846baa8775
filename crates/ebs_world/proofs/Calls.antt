-- What one more call does to the states of a disk in memory.
use Rattle.std.proofs.Common.{◌≡◌, ◌≢◌, ◌⊎◌, inl, inr, ⊎_elim, ℕ, zero, suc, ◌+◌, ◌-◌, ◌<◌, ◌≤◌, List, [], ◌∷◌, ◌++◌, length, get_or, Bool, true, false, not, cond, ltb, Vec, refl, sym, ◌∙◌, ap, subst, arith, length-append}
use Rattle.std.specs.declared.alloc.Global.{Global}
use Rattle.std.proofs.lemmas.List.{take_all, take-append-le, get_or_past}
use Rattle.std.proofs.lemmas.Bool.{false≢true, cases_Bool, cases_lt, lt-ltb, le-ltb}
use Rattle.ebs_world.specs.declared.area.Area.{Area}
use Rattle.ebs_world.specs.declared.area.Area.TheVariants.{Journal0, Journal1, Blocks, Archive}
use Rattle.ebs_world.specs.declared.log.Log.{Log}
use Rattle.ebs_world.specs.declared.log.Step.{Step}
use Rattle.ebs_world.specs.declared.log.Step.TheVariants.{Write, Sync}
use Rattle.ebs_world.specs.inner.Held.{same, over, shown}
use Rattle.ebs_world.specs.Image.{Image, Places, Everywhere, IsOutside, Spells, Keeps, Was, Durable}
use Rattle.ebs_world.specs.inner.Log.{State, mark, after, replay, synced, IsImage, present, state_at, LeftSince, Noted}
use Rattle.ebs_world.specs.inner.Logged.{seen, log_view}
use Rattle.ebs_world.specs.inner.Replay.{only_now}
use Rattle.ebs_world.specs.inner.Runs.{was_whole}
use Rattle.ebs_world.specs.View.{Ran}
use Rattle.ebs_world.proofs.Put.{cond_true, cond_false, cond_same, over_at}

pub same_is : (a b : Area) → same a b ≡ true → a ≡ b
same_is Journal0 Journal0 e = refl
same_is Journal1 Journal1 e = refl
same_is Blocks Blocks e = refl
same_is Archive Archive e = refl
same_is Journal0 Journal1 e = absurd (false≢true e)
same_is Journal0 Blocks e = absurd (false≢true e)
same_is Journal0 Archive e = absurd (false≢true e)
same_is Journal1 Journal0 e = absurd (false≢true e)
same_is Journal1 Blocks e = absurd (false≢true e)
same_is Journal1 Archive e = absurd (false≢true e)
same_is Blocks Journal0 e = absurd (false≢true e)
same_is Blocks Journal1 e = absurd (false≢true e)
same_is Blocks Archive e = absurd (false≢true e)
same_is Archive Journal0 e = absurd (false≢true e)
same_is Archive Journal1 e = absurd (false≢true e)
same_is Archive Blocks e = absurd (false≢true e)

pub same_self : (a : Area) → same a a ≡ true
same_self Journal0 = refl
same_self Journal1 = refl
same_self Blocks = refl
same_self Archive = refl

differs : (a area : Area) → a ≢ area → same a area ≡ false
differs a area other = elim (cases_Bool (same a area)) [ inl equal ↦ absurd (other (same_is a area equal)) | inr unequal ↦ unequal ]

abbrev IsInside : Area → ℕ → ℕ → Area → ℕ → Type 0
IsInside area at n a i = (a ≡ area) × (at ≤ i) × (i < at + n)

place : (area : Area) (at n : ℕ) (a : Area) (i : ℕ) → IsOutside area at n a i ⊎ IsInside area at n a i
place area at n a i = elim (cases_Bool (same a area)) [
  | inr differ ↦ inl (inl (λ is. false≢true (sym differ ∙ ap (λ b. same b area) is ∙ same_self area)))
  | inl equal ↦ elim (cases_lt i at) [
    | inl before ↦ inl (inr (inl before))
    | inr from ↦ elim (cases_lt i (at + n)) [
      | inl within ↦ inr (same_is a area equal, from, within)
      | inr past ↦ inl (inr (inr past))
    ]
  ]
]

not_both : (area : Area) (at n : ℕ) (a : Area) (i : ℕ) → IsOutside area at n a i → IsInside area at n a i → ⊥
not_both area at n a i (inl other) inside = other inside.0
not_both area at n a i (inr (inl before)) inside = omega (arith, before, inside.1)
not_both area at n a i (inr (inr past)) inside = omega (arith, past, inside.2)

over_out : (at : ℕ) (piece : List ℕ) (f : ℕ → ℕ) (i : ℕ) → (i < at) ⊎ (at + length piece ≤ i) → over at piece f i ≡ f i
over_out at piece f i (inl before) = cond_true (ltb i at) (f i) _ (lt-ltb i at before)
over_out at piece f i (inr past) = cond_false (ltb i at) (f i) _ (le-ltb i at (omega (arith, past))) ∙ get_or_past piece (i - at) (f i) (omega (arith, past))

mark_out : (at n : ℕ) (f : ℕ → Bool) (i : ℕ) → (i < at) ⊎ (at + n ≤ i) → mark at n f i ≡ f i
mark_out at n f i (inl before) = cond_true (ltb i at) (f i) _ (lt-ltb i at before)
mark_out at n f i (inr past) = cond_false (ltb i at) (f i) _ (le-ltb i at (omega (arith, past))) ∙ cond_false (ltb (i - at) n) true (f i) (le-ltb (i - at) n (omega (arith, past)))

-- what a piece put over an image changes
pub put_keeps : (old new : Image) (area : Area) (at : ℕ) (piece : List ℕ) → ((a : Area) (i : ℕ) → new a i ≡ cond (same a area) (over at piece (old a) i) (old a i)) → Keeps (IsOutside area at (length piece)) old new
put_keeps old new area at piece is a i (inl other) = is a i ∙ cond_false (same a area) _ _ (differs a area other)
put_keeps old new area at piece is a i (inr far) = is a i ∙ cond_same (same a area) _ _ (over_out at piece (old a) i far)

pub spells_from : (f : ℕ → ℕ) (at : ℕ) (bytes : List ℕ) → ((k : ℕ) → k < length bytes → get_or bytes k 0 ≡ f (at + k)) → Spells f at bytes
spells_from f at [] shows = tt
spells_from f at (b ∷ bytes) shows = (
  sym (ap f (omega arith)) ∙ sym (shows zero (omega arith)),
  spells_from f (at + 1) bytes (λ k below. shows (suc k) (omega (arith, below)) ∙ ap f (omega arith)),
)

pub put_spells : (old new : Image) (area : Area) (at : ℕ) (piece : List ℕ) → ((a : Area) (i : ℕ) → new a i ≡ cond (same a area) (over at piece (old a) i) (old a i)) → Spells (new area) at piece
put_spells old new area at piece is =
    spells_from (new area) at piece (λ k below. over_at at piece (old area) k below ∙ sym (is area (at + k) ∙ cond_true (same area area) _ _ (same_self area)))

module _ (s : State) (area : Area) (at : ℕ) (v : Vec ℕ Global) where
  dirty_out : (a : Area) (i : ℕ) → IsOutside area at (length v.items) a i → (after s (Write area at v)).dirty a i ≡ s.dirty a i
  dirty_out a i (inl other) = cond_false (same a area) _ _ (differs a area other)
  dirty_out a i (inr far) = cond_same (same a area) _ _ (mark_out at (length v.items) (s.dirty a) i far)

  dirty_in : (a : Area) (i : ℕ) → IsInside area at (length v.items) a i → (after s (Write area at v)).dirty a i ≡ true
  dirty_in a i inside =
      cond_true (same a area) _ _ (ap (λ b. same b area) inside.0 ∙ same_self area)
      ∙ cond_false (ltb i at) (s.dirty a i) _ (le-ltb i at inside.1) ∙ cond_true (ltb (i - at) (length v.items)) true (s.dirty a i) (lt-ltb (i - at) (length v.items) (omega (arith, inside.1, inside.2)))

  abbrev filled : {X Y : Type 0} → X ⊎ Y → ℕ → ℕ → ℕ
  filled (inl x) c n = c
  filled (inr y) c n = n

  -- an image after a write was one before it, but for the range
  writes : (c : Image) → IsImage (after s (Write area at v)) c → Was (IsOutside area at (length v.items)) (IsImage s) c
  writes c image = (
    λ a i. filled (place area at (length v.items) a i) (c a i) (s.kept a i),
    λ a i clean. was a i (place area at (length v.items) a i) clean,
    λ a i out. stays a i (place area at (length v.items) a i) out,
  )
    where
      was : (a : Area) (i : ℕ) (p : IsOutside area at (length v.items) a i ⊎ IsInside area at (length v.items) a i) → s.dirty a i ≡ false → filled p (c a i) (s.kept a i) ≡ s.kept a i
      was a i (inl out) clean = image a i (dirty_out a i out ∙ clean)
      was a i (inr inside) clean = refl

      stays : (a : Area) (i : ℕ) (p : IsOutside area at (length v.items) a i ⊎ IsInside area at (length v.items) a i) → IsOutside area at (length v.items) a i → c a i ≡ filled p (c a i) (s.kept a i)
      stays a i (inl o) out = refl
      stays a i (inr inside) out = absurd (not_both area at (length v.items) a i out inside)

  write_settles : IsImage s s.now → IsImage (after s (Write area at v)) (after s (Write area at v)).now
  write_settles settled a i clean = go (place area at (length v.items) a i)
    where
      go : IsOutside area at (length v.items) a i ⊎ IsInside area at (length v.items) a i → (after s (Write area at v)).now a i ≡ s.kept a i
      go (inl out) = put_keeps s.now (after s (Write area at v)).now area at v.items (λ b j. refl) a i out ∙ settled a i (sym (dirty_out a i out) ∙ clean)
      go (inr inside) = absurd (false≢true (sym clean ∙ dirty_in a i inside))

module _ (s : State) (area : Area) (settled : IsImage s s.now) where
  -- a sync shrinks the images
  syncs : (c : Image) → IsImage (after s (Sync area)) c → IsImage s c
  syncs c image a i clean = go (same a area) (image a i)
    where
      go : (b : Bool) → (cond b false (s.dirty a i) ≡ false → c a i ≡ cond b (s.now a i) (s.kept a i)) → c a i ≡ s.kept a i
      go true is = is refl ∙ settled a i clean
      go false is = is clean

  sync_settles : IsImage (after s (Sync area)) (after s (Sync area)).now
  sync_settles a i clean = go (same a area) clean
    where
      go : (b : Bool) → cond b false (s.dirty a i) ≡ false → s.now a i ≡ cond b (s.now a i) (s.kept a i)
      go true clean = refl
      go false clean = settled a i clean

step_settles : (s : State) (x : Step) → IsImage s s.now → IsImage (after s x) (after s x).now
step_settles s (Write area at v) settled = write_settles s area at v settled
step_settles s (Sync area) settled = sync_settles s area settled

replay_settles : (s : State) (xs : List Step) → IsImage s s.now → IsImage (replay s xs) (replay s xs).now
replay_settles s [] settled = settled
replay_settles s (x ∷ xs) settled = replay_settles (after s x) xs (step_settles s x settled)

-- what is read of bytes that weren't written since the last sync is what was kept then
pub settles : (first : Image) (steps : List Step) → IsImage (present first steps) (present first steps).now
settles first steps = replay_settles (synced first) steps (λ a i clean. refl)

pub replay_snoc : (s : State) (xs : List Step) (x : Step) → replay s (xs ++ x ∷ []) ≡ after (replay s xs) x
replay_snoc s [] x = refl
replay_snoc s (y ∷ xs) x = replay_snoc (after s y) xs x

-- what a run of calls does to the images
pub record Moves (places : Places) (first : Image) (old new : List Step) : Type 0 where
  pub images : (c : Image) → IsImage (present first new) c → Was places (IsImage (present first old)) c
  pub later : length old ≤ length new
  pub nothing_else : (t : ℕ) (c : Image) → LeftSince first new t c → LeftSince first old t c ⊎ IsImage (present first new) c
  pub remembers : (t : ℕ) (c : Image) → LeftSince first old t c → LeftSince first new t c

module _ (first : Image) where
  -- the states of the moments before the call stay, and the last is that after it
  earlier : (steps : List Step) (x : Step) (k : ℕ) → k ≤ length steps → state_at first (steps ++ x ∷ []) k ≡ state_at first steps k
  earlier steps x k le = ap (λ (l : List Step). present first l) (take-append-le k steps (x ∷ []) le)

  last : (steps : List Step) (x : Step) (k : ℕ) → length steps < k → state_at first (steps ++ x ∷ []) k ≡ present first (steps ++ x ∷ [])
  last steps x k lt = ap (λ (l : List Step). present first l) (take_all k (steps ++ x ∷ []) (omega (arith, lt, length-append steps (x ∷ []))))

  one_more : (places : Places) (steps : List Step) (x : Step) → ((c : Image) → IsImage (after (present first steps) x) c → Was places (IsImage (present first steps)) c) → Moves places first steps (steps ++ x ∷ [])
  one_more places steps x follows = record {
    images = λ c image. follows c (subst (λ s. IsImage s c) (replay_snoc (synced first) steps x) image);
    later = omega (arith, length-append steps (x ∷ []));
    nothing_else = λ t c since. elim (cases_lt (length steps) since.k) [
      | inr before ↦ inl (record { k = since.k; later = since.later; made = before; image = subst (λ s. IsImage s c) (earlier steps x since.k before) since.image })
      | inl past ↦ inr (subst (λ s. IsImage s c) (last steps x since.k past) since.image)
    ];
    remembers = λ t c since. record { k = since.k; later = since.later; made = omega (arith, since.made, length-append steps (x ∷ [])); image = subst (λ s. IsImage s c) (sym (earlier steps x since.k since.made)) since.image };
  }

  pub none_more : (places : Places) (old new : List Step) → new ≡ old → Moves places first old new
  none_more places old new e = subst (λ (l : List Step). Moves places first old l) (sym e)
      (record { images = was_whole places (IsImage (present first old)); later = omega arith; nothing_else = λ t c since. inl since; remembers = λ t c since. since })

  pub written : (old new : List Step) (area : Area) (at : ℕ) (piece : List ℕ) → Noted area at piece old new → Moves (IsOutside area at (length piece)) first old new
  written old new area at piece noted =
      subst (λ (l : List Step). Moves (IsOutside area at (length piece)) first old l) (sym noted.steps)
      (one_more (IsOutside area at (length piece)) old (Write area at noted.kept)
      (λ c image. subst (λ (p : List ℕ). Was (IsOutside area at (length p)) (IsImage (present first old)) c) noted.piece_is (writes (present first old) area at noted.kept c image)))

  -- what is read after a write is the piece over what was read
  pub now_written : (old new : List Step) (area : Area) (at : ℕ) (piece : List ℕ) → Noted area at piece old new → (a : Area) (i : ℕ)
      → (present first new).now a i ≡ cond (same a area) (over at piece ((present first old).now a) i) ((present first old).now a i)
  now_written old new area at piece noted a i =
      ap (λ (l : List Step). (present first l).now a i) noted.steps ∙ ap (λ s. s.now a i) (replay_snoc (synced first) old (Write area at noted.kept))
      ∙ ap (λ (p : List ℕ). cond (same a area) (over at p ((present first old).now a) i) ((present first old).now a i)) noted.piece_is

  pub now_synced : (old new : List Step) (area : Area) → new ≡ old ++ Sync area ∷ [] → (a : Area) (i : ℕ) → (present first new).now a i ≡ (present first old).now a i
  now_synced old new area e a i = ap (λ (l : List Step). (present first l).now a i) e ∙ ap (λ s. s.now a i) (replay_snoc (synced first) old (Sync area))

  pub is_synced : (old new : List Step) (area : Area) → new ≡ old ++ Sync area ∷ [] → Moves Everywhere first old new
  is_synced old new area e = subst (λ (l : List Step). Moves Everywhere first old l) (sym e)
      (one_more Everywhere old (Sync area) (λ c image. was_whole Everywhere (IsImage (present first old)) c (syncs (present first old) area (settles first old) c image)))

  pub durable : (old new : List Step) (area : Area) → new ≡ old ++ Sync area ∷ [] → Durable area (present first old).now (IsImage (present first new))
  durable old new area e c image i =
      let after_sync : IsImage (after (present first old) (Sync area)) c = subst (λ s. IsImage s c) (ap (λ (l : List Step). present first l) e ∙ replay_snoc (synced first) old (Sync area)) image in
      after_sync area i (cond_true (same area area) false _ (same_self area)) ∙ cond_true (same area area) _ _ (same_self area)

-- a run of calls on a disk in memory, by its log and what is read of it
pub ran_by : (places : Places) (honest : Bool) (first : Image) (old new : List Step) (read reads : Image) → Keeps places read reads → Moves places first old new → (m n : ℕ) → m ≤ n
    → Ran places (seen honest first old read m) (seen honest first new reads n)
ran_by places honest first old new read reads keeps moves m n le = record {
  told = refl;
  kept_honest = refl;
  kept = λ told. keeps;
  images = λ honest. moves.images;
  moments = λ honest. record {
    later = moves.later;
    each = λ c left. ⊎_elim (λ was. was_whole places (IsImage (present first old)) c (only_now first old c was)) (moves.images c) (moves.nothing_else (length old) c left);
    before = λ t c le left. ⊎_elim (λ was. inl was) (λ now. inr (moves.images c now)) (moves.nothing_else t c left);
  };
  remembers = λ honest t c le left. moves.remembers t c left;
  count = le;
}

-- no call, whatever happened to the count of faults
pub stays : (places : Places) (log : Log) (m n : ℕ) → m ≤ n → Ran places (log_view log m) (log_view log n)
stays places log m n le = ran_by places (not log.spoiled) (shown log.first) log.steps.items log.steps.items (shown log.bytes) (shown log.bytes) (λ a i here. refl) (none_more (shown log.first) places log.steps.items log.steps.items refl) m n le
