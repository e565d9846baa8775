-- A collection of the store that was had of a disk.
use Rattle.std.proofs.Common.{◌≡◌, ◌⊎◌, inl, inr, ℕ, ◌≤◌, List, None, Result, Ok, Err, max, min, arith, refl, ap, subst, ◌∙◌}
use Rattle.std.specs.FinMap as fin
use Rattle.std.specs.FinMap.{len-empty}
use Rattle.std.specs.Ordering.{nat_cmp}
use Rattle.ebs_world.specs.Ends.{Outlet}
use Rattle.ebs_world.specs.Image.{Image}
use Rattle.ebs_world.specs.View.{View, Leaves}
use Rattle.ebs_world.specs.inner.Runs.{leaves_on, leaves_weaker}
use Rattle.ebs_model.specs.Machine.{Machine, advance}
use Rattle.ebs_model.specs.Quotas.{last_second}
use Rattle.ebs_model.specs.declared.keys.Moment.{Moment}
use Rattle.ebs_exchanges.specs.Lives.{aged, at_rest, restarted}
use Rattle.ebs_exchanges.specs.inner.LifeLaws.{LivesAged, LivesAgain}
use Rattle.ebs_recovery.specs.Made.{State}
use Rattle.ebs_recovery.specs.Stands.{Stands}
use Rattle.ebs_recovery.specs.inner.Fits.{Seen, kept_state, recorded}
use Rattle.ebs_disk_store.specs.declared.collecting.Usage.{Usage}
use Rattle.ebs_disk_store.specs.declared.pointing.StoreStop.{StoreStop}
use Rattle.ebs_disk_store.specs.declared.pointing.StoreStop.TheVariants as stops
use Rattle.ebs_disk_store.specs.inner.Told.{at_reading}
use Rattle.ebs_commands.specs.Collects.{CollectEnds, CollectedAs, PointEnds, Promised, usage_of}
use Rattle.ebs_commands.specs.Ends.{Writes}
use Rattle.ebs_commands.specs.Lines.{usage_line}
use Rattle.ebs_commands.specs.inner.Collects.{Ended, Failed, Finished, MayAge, used}
use Rattle.ebs_commands.specs.declared.ending.CommandEnd.{CommandEnd}
use Rattle.ebs_commands.specs.declared.ending.CommandEnd.TheVariants.{Done, DiskFailed, AlreadyMade, OutputFailed, Memory, Damaged, Exhausted}
use Rattle.ebs_cli.specs.Done.{EndsAt, IsCollectedAt}
use Rattle.ebs_cli.specs.Left.{IsLeftAged}
use Rattle.ebs_cli.specs.Told.{moment_at}
use Rattle.ebs_opening.specs.inner.Opens.{Has}
use Rattle.ebs_cli.proofs.Had.{stands_recorded}
use Rattle.ebs_cli.proofs.Slotted.{IsUnleased}
use Rattle.ebs_cli.proofs.Told.{kept_of}

-- ---- the images

-- what holds of any life
pub record Laws : Type 0 where
  pub again : LivesAgain
  pub aged : LivesAged

abbrev at_second : ℕ → Moment
at_second second = record { second = second }

module _ (laws : Laws) (m : Machine) (second : ℕ) (early : m.clock.second ≤ second) where
  left_aged : (c : Image) → Stands c m ⊎ Stands c (advance m (at_second second)) → IsLeftAged m second c
  left_aged c (inl stands) = record { machine = m; stop = restarted; stops = inl (refl, refl); stands = stands; lives = λ past lives. laws.again past (at_rest m) lives }
  left_aged c (inr stands) =
      record { machine = advance m (at_second second); stop = aged second; stops = inr (refl, refl); stands = stands; lives = λ past lives. laws.aged past (at_rest m) second lives early }

  module _ (v : View) (s : Seen) (clean : s.pending ≡ None) (is : recorded v s ≡ m) where
    one_left : (c : Image) → MayAge v s (at_second second) c → IsLeftAged m second c
    one_left c (inl one) = left_aged c (inl (stands_recorded v s m clean is c one))
    one_left c (inr stands) = left_aged c (inr (subst (λ (n : Machine). Stands c (advance n (at_second second))) is stands))

    -- whatever a crash leaves of the collection
    pub all_left : (w : View) → Leaves v w (MayAge v s (at_second second)) → Leaves v w (IsLeftAged m second)
    all_left w moments = leaves_weaker v w (MayAge v s (at_second second)) (IsLeftAged m second) one_left moments

    -- and of what was before it, where that left the machine
    pub all_since : (u w : View) → Leaves u v (λ c. Stands c m) → Leaves v w (MayAge v s (at_second second)) → Leaves u w (IsLeftAged m second)
    all_since u w before moments =
        leaves_on u v w (IsLeftAged m second) (leaves_weaker u v (λ c. Stands c m) (IsLeftAged m second) (λ c stands. left_aged c (inl stands)) before) (all_left w moments)

-- the machine that answers calls stands at the store's clock, so a collection is no earlier
in_order : (a b c : ℕ) → b ≡ a → a ≤ max b c
in_order a b c is = omega (arith, is)

pub in_time : (v : View) (s : Seen) (m : Machine) (reading : Moment) → Has v s m → m.clock.second ≤ (moment_at (kept_of s) reading.second).second
in_time v s m reading has = in_order m.clock.second s.clock.second (min reading.second last_second) (ap (λ (n : Machine). n.clock.second) has.answers)

-- ---- what is kept

pub collected_at : (sound : Type 0) (v w : View) (s t : Seen) (reading : Moment) → Finished sound v w s t (at_reading s reading) → IsCollectedAt (kept_of s) (kept_of t) reading.second
collected_at sound v w s t reading f = (f.collected, f.clock)

pub kept_still : (sound : Type 0) (v w : View) (s t : Seen) → Failed sound v w s t → kept_of t ≡ kept_of s
kept_still sound v w s t f = λ i. record { state = f.kept i; clock = f.clock i }

-- ---- what is used

none_leased : (s : Seen) → IsUnleased s.slots → fin.len s.slots.leases ≡ 0
none_leased s none = ap (λ (l : fin.FinMap nat_cmp (List ℕ)). fin.len l) none ∙ len-empty nat_cmp (List ℕ)

pub usage_is : (s : Seen) → IsUnleased s.slots → used s.slots ≡ usage_of (kept_of s).state.slots 0
usage_is s none = ap (λ (n : ℕ). usage_of s.slots.keys n) (none_leased s none)

-- the machine, the slots and how the checkpoint ended, where what is promised of the first disk holds of the opened one
pub ends_at : {D : Type 0} (view : D → View) (sound Holds : Type 0) (d e : D) (s t : Seen) (reading : Moment) → (Holds → Promised sound (view d)) → (point : Result (Unit {0}) StoreStop) → Ended sound (view d) (view e) s t (at_reading s reading) point
    → EndsAt view Holds d e (kept_of s) (kept_of t) reading.second point
ends_at view sound Holds d e s t reading holds point ended = record { collected = collected_at sound (view d) (view e) s t reading ended.finished; point = point_with Holds (view d) (view e) (kept_state s) (kept_state t) (at_reading s reading) point ended.point }
  where
    point_with : (P : Type 0) (v w : View) (k l : State) (now : Moment) (r : Result (Unit {0}) StoreStop) → PointEnds (Promised sound (view d)) v w k l now r → PointEnds Holds v w k l now r
    point_with P v w k l now (Ok done) (is, none) = (is, λ p. none (holds p))
    point_with P v w k l now (Err stops.Unavailable) rose = rose
    point_with P v w k l now (Err stops.Exhausted) (inl late) = inl (λ p. late (holds p))
    point_with P v w k l now (Err stops.Exhausted) (inr long) = inr long
    point_with P v w k l now (Err stops.Memory) _ = tt

-- ---- how it ends

module _ (F G : Type 0) (E H : Result (Unit {0}) StoreStop → Type 0) (fails : F → G) (ends : (r : Result (Unit {0}) StoreStop) → E r → H r) where
  -- what is known of each is told of both
  pub collected_with : (end : CommandEnd) → CollectedAs end F E → CollectedAs end G H
  collected_with Done went = ends (Ok tt) went
  collected_with OutputFailed went = ends (Ok tt) went
  collected_with DiskFailed (inl failed) = inl (fails failed)
  collected_with DiskFailed (inr ended) = inr (ends (Err stops.Unavailable) ended)
  collected_with Exhausted went = ends (Err stops.Exhausted) went
  collected_with Memory (inl ended) = inl (ends (Ok tt) ended)
  collected_with Memory (inr ended) = inr (ends (Err stops.Memory) ended)
  collected_with AlreadyMade went = absurd went
  collected_with Damaged went = absurd went

-- what is written of a text is written of the same text
pub writes_with : (end : CommandEnd) (text told : List ℕ) (before after : Outlet) → (end ≡ Done → text ≡ told) → (end ≡ OutputFailed → text ≡ told) → Writes end text before after → Writes end told before after
writes_with Done text told before after done unput wrote = subst (λ (xs : List ℕ). Writes Done xs before after) (done refl) wrote
writes_with OutputFailed text told before after done unput wrote = subst (λ (xs : List ℕ). Writes OutputFailed xs before after) (unput refl) wrote
writes_with DiskFailed text told before after done unput still = still
writes_with Exhausted text told before after done unput still = still
writes_with Memory text told before after done unput still = still
writes_with AlreadyMade text told before after done unput still = still
writes_with Damaged text told before after done unput still = still

module _ {F Ga : Type 0} {E H : Result (Unit {0}) StoreStop → Type 0} (old_usage new_usage : Usage) (before after : Outlet) (fails : F → Ga) (finishes : (r : Result (Unit {0}) StoreStop) → E r → H r) (same : (r : Result (Unit {0}) StoreStop) → E r → old_usage ≡ new_usage) where
  told_done : (end : CommandEnd) → CollectedAs end F E → end ≡ Done → usage_line old_usage ≡ usage_line new_usage
  told_done end went is = ap usage_line (same (Ok tt) (subst (λ (x : CommandEnd). CollectedAs x F E) is went))

  told_unput : (end : CommandEnd) → CollectedAs end F E → end ≡ OutputFailed → usage_line old_usage ≡ usage_line new_usage
  told_unput end went is = ap usage_line (same (Ok tt) (subst (λ (x : CommandEnd). CollectedAs x F E) is went))

  pub ends_with : (end : CommandEnd) → CollectEnds end F E old_usage before after → CollectEnds end Ga H new_usage before after
  ends_with end (went, written) = (collected_with F Ga E H fails finishes end went, writes_with end (usage_line old_usage) (usage_line new_usage) before after (told_done end went) (told_unput end went) written)
