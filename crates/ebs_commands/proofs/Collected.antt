-- What a collection and the checkpoint behind it leave, and what is told of them.
use Rattle.std.proofs.Common.{◌≡◌, ◌∙◌, ◌⊎◌, inl, inr, ⊎_elim, ℕ, suc, ◌^◌, ◌≤◌, ◌<◌, List, [], ◌∷◌, length, None, Some, Result, Ok, Err, OnOk, OnErr, refl, sym, ap, subst, arith}
use Rattle.std.specs.Prelude.{IsErrOf}
use Rattle.std.specs.List.{AllByRecursion}
use Rattle.std.specs.Ordering.{nat_cmp}
use Rattle.std.specs.FinMap as fin
use Rattle.ebs_world.specs.Ends.{Outlet}
use Rattle.ebs_world.specs.Image.{Image}
use Rattle.ebs_world.specs.View.{View, IsTrueToItself, Leaves, Ran}
use Rattle.ebs_world.specs.inner.Runs.{leaves_on, leaves_weaker}
use Rattle.ebs_journal.specs.Opening.{OffJournal}
use Rattle.ebs_journal.specs.inner.Line.{Line}
use Rattle.ebs_journal.specs.inner.Standing.{IsSettled}
use Rattle.ebs_laws.specs.TimeLaws.{TimePassesInParts}
use Rattle.ebs_model.specs.Machine.{Machine, advance}
use Rattle.ebs_model.specs.Quotas.{Rose}
use Rattle.ebs_model.specs.declared.keys.Moment.{Moment}
use Rattle.ebs_records.specs.declared.record.Record.{Record}
use Rattle.ebs_checkpoints.specs.declared.checkpoint.Checkpoint.{Checkpoint}
use Rattle.ebs_point_rules.specs.Values.{HasShortLists}
use Rattle.ebs_recovery.specs.Made.{Made, HasWholeBlock, SlotOfStamp, advanced, record_of, spelled}
use Rattle.ebs_recovery.specs.Stands.{Stands}
use Rattle.ebs_recovery.specs.inner.BaseLaws.{StateIsSaid}
use Rattle.ebs_recovery.specs.inner.Bases.{state_of}
use Rattle.ebs_recovery.specs.inner.FitLaws.{JournalIsTold}
use Rattle.ebs_recovery.specs.inner.Fits.{Fit, Fits, Seen, StandsAfter, StandsForOne, for_recorded, kept_state, recorded, running, with_pending}
use Rattle.ebs_slots.specs.inner.Slots.{SlotTable}
use Rattle.ebs_disk_store.specs.Collected.{AreShared}
use Rattle.ebs_disk_store.specs.declared.pointing.StoreStop.{StoreStop}
use Rattle.ebs_disk_store.specs.declared.pointing.StoreStop.TheVariants as stops
use Rattle.ebs_disk_store.specs.declared.collecting.Usage.{Usage}
use Rattle.ebs_disk_store.specs.inner.Collected.{Collects, IsAged, IsUnpassed}
use Rattle.ebs_disk_store.specs.inner.Pointed.{IsExhausted, IsLong, Pointed}
use Rattle.ebs_disk_store.specs.inner.Told.{IfSound}
use Rattle.ebs_disk_store.specs.inner.Turned.{MayLeave}
use Rattle.ebs_commands.specs.Collects.{CollectEnds, CollectedAs, HasLastEpoch, HasNoRecords, IsTooLong, Promised, TellsUsage, lengths_of}
use Rattle.ebs_commands.specs.Ends.{Writes}
use Rattle.ebs_commands.specs.Lines.{usage_line}
use Rattle.ebs_commands.specs.inner.Collects.{Ended, Failed, Finished, IsCollectedOr, MayAge, after_point}
use Rattle.ebs_commands.specs.declared.ending.CommandEnd.{CommandEnd}
use Rattle.ebs_commands.specs.declared.ending.CommandEnd.TheVariants.{Done, DiskFailed, AlreadyMade, OutputFailed, Memory, Damaged, Exhausted}

abbrev clock_of : Seen → Moment
clock_of s = s.clock

abbrev leases_of : Seen → fin.FinMap nat_cmp (List ℕ)
leases_of s = s.slots.leases

-- ---- the collection by itself

module _ (sound : Type 0) (old new : View) (s t : Seen) (now : Moment) where
  abbrev pub Ages : Type 0
  Ages = IfSound sound old (IsAged (recorded old s) now (recorded new t))

  abbrev pub Stays : Type 0
  Stays = IfSound sound old ((recorded new t ≡ recorded old s) × (running new t ≡ running old s))

  may_age : (Fails : Type 0) → IsAged (recorded old s) now (recorded new t) → (c : Image) → MayLeave Fails old new s t (advanced now) c → MayAge old s now c
  may_age Fails aged c (inl one) = inl one
  may_age Fails (inl is) c (inr (inl stands)) = inl (for_recorded (subst (λ (m : Machine). Stands c m) is stands))
  may_age Fails (inr is) c (inr (inl stands)) = inr (subst (λ (m : Machine). Stands c m) is stands)
  may_age Fails aged c (inr (inr (fails, after))) = inr (subst (λ (m : Machine). Stands c m) after.leads after.stands)

  -- each image of its moments stands for a machine before it, or for what time leaves
  pub images_age : (Fails : Type 0) → Ages → IfSound sound old (Leaves old new (MayLeave Fails old new s t (advanced now))) → IfSound sound old (Leaves old new (MayAge old s now))
  images_age Fails ages moments = λ is told honest. leaves_weaker old new (MayLeave Fails old new s t (advanced now)) (MayAge old s now) (may_age Fails (ages is told honest)) (moments is told honest)

  -- nothing that is kept has changed
  pub failed : IsUnpassed s t now → Stays → Rose old.faults new.faults → Failed sound old new s t
  failed left stays rose = record {
    rose = rose;
    kept = ⊎_elim (ap kept_state) (⊎_elim (ap kept_state) (ap kept_state)) left;
    clock = ⊎_elim (ap clock_of) (⊎_elim (ap clock_of) (ap clock_of)) left;
    leases = ⊎_elim (ap leases_of) (⊎_elim (ap leases_of) (ap leases_of)) left;
    same = stays;
  }

  -- each of its images does then
  pub images_stay : (Fails : Type 0) → Stays → IfSound sound old (Leaves old new (MayLeave Fails old new s t (advanced now))) → IfSound sound old (Leaves old new (MayAge old s now))
  images_stay Fails stays moments = images_age Fails (λ is told honest. inl (stays is told honest).0) moments

-- ---- what a journal reads as

some_rest : {P : Type 0} (n : ℕ) → suc n ≡ 0 → P
some_rest n is = absurd (omega (arith, is))

module _ (v : View) (j : Line) (checkpoint : List ℕ) (law : IsTrueToItself v) where
  no_records : (rs : List (List ℕ)) → IsSettled v j checkpoint rs → j.since_checkpoint ≡ 0 → HasNoRecords v
  no_records [] settled none = record { area = j.area; epoch = j.epoch; checkpoint = checkpoint; journal = settled.images v.reads (law.reads_as_image settled.tells settled.honest) }
  no_records (r ∷ rs) settled none = some_rest (length rs) (sym settled.behind.since_checkpoint ∙ none)

  last_epoch : (rs : List (List ℕ)) → IsSettled v j checkpoint rs → 2 ^ 62 ≤ j.epoch → HasLastEpoch v
  last_epoch rs settled late = record { area = j.area; epoch = j.epoch; checkpoint = checkpoint; records = rs; journal = settled.images v.reads (law.reads_as_image settled.tells settled.honest); late = late }

-- ---- a checkpoint that is too long

short_lists : (p : Checkpoint) → AllByRecursion (λ (n : ℕ). n < 2 ^ 32) (lengths_of p) → HasShortLists p
short_lists p (a, (b, (c, (d, (e, (f, (g, (h, none)))))))) = record { accounts = a; snapshots = b; volumes = c; rules = d; policies = e; nodes = f; standard = g; archive = h }

-- ---- the collection and its checkpoint

no_record : {P : Type 0} (r : Record) → None ≡ Some r → P
no_record r is = cc

rose_since : (a b c : ℕ) → a ≤ b → Rose b c → Rose a c
rose_since a b c later rose = omega (arith, later, rose)

-- the store was collected at this moment, and then its checkpoint was written or not
module _ (parts : TimePassesInParts) (sound : Type 0) (first mid new : View) (s m t : Seen) (now : Moment) (collects : Collects s m now) (idle : m.waiting ≡ 0) (ran : Ran OffJournal first mid) where
  -- time that has passed twice until a moment has passed once
  once : (x : Machine) → advance (advance x now) now ≡ advance x now
  once x = parts x now now (omega arith)

  aged_twice : (x y z : Machine) → IsAged x now y → IsAged y now z → IsAged x now z
  aged_twice x y z aged (inl is) = subst (λ (n : Machine). IsAged x now n) (sym is) aged
  aged_twice x y z (inl one) (inr is) = inr (is ∙ ap (λ (n : Machine). advance n now) one)
  aged_twice x y z (inr one) (inr is) = inr (is ∙ (ap (λ (n : Machine). advance n now) one ∙ once x))

  at_clock : (x : Machine) → advance x m.clock ≡ advance x now
  at_clock x = ap (λ (at : Moment). advance x at) collects.passes.clock

  -- ---- the images

  module _ (aged : IsAged (recorded first s) now (recorded mid m)) (settled : (m.pending ≡ None) ⊎ (recorded mid m ≡ recorded first s)) (behind : IsAged (recorded mid m) now (recorded new t)) where
    stands_aged : (n : Machine) (c : Image) → IsAged (recorded first s) now n → Stands c n → MayAge first s now c
    stands_aged n c (inl is) stands = inl (for_recorded (subst (λ (x : Machine). Stands c x) is stands))
    stands_aged n c (inr is) stands = inr (subst (λ (x : Machine). Stands c x) is stands)

    pending_aged : (c : Image) (e : Made) → m.pending ≡ Some (record_of e) → HasWholeBlock e → StandsAfter (recorded mid m) e c → (m.pending ≡ None) ⊎ (recorded mid m ≡ recorded first s) → (m.pending ≡ s.pending) ⊎ (m.pending ≡ None) → MayAge first s now c
    pending_aged c e pending whole after (inl none) kept = no_record (record_of e) (sym none ∙ pending)
    pending_aged c e pending whole after (inr same) (inr none) = no_record (record_of e) (sym none ∙ pending)
    pending_aged c e pending whole after (inr same) (inl kept) = inl (with_pending e (sym kept ∙ pending) whole (subst (λ (x : Machine). StandsAfter x e c) same after))

    one_aged : (c : Image) → StandsForOne mid m c → MayAge first s now c
    one_aged c (for_recorded stands) = stands_aged (recorded mid m) c aged stands
    one_aged c (with_pending e pending whole after) = pending_aged c e pending whole after settled collects.passes.pending

    age_again : (Fails : Type 0) (c : Image) → MayLeave Fails mid new m t (advanced m.clock) c → MayAge first s now c
    age_again Fails c (inl one) = one_aged c one
    age_again Fails c (inr (inl stands)) = stands_aged (recorded new t) c (aged_twice (recorded first s) (recorded mid m) (recorded new t) aged behind) stands
    age_again Fails c (inr (inr (fails, after))) = stands_aged after.next c (aged_twice (recorded first s) (recorded mid m) after.next aged (inr (after.leads ∙ at_clock (recorded mid m)))) after.stands

  -- what is recorded then is what was, or what answered calls
  behind_is : (r : Result (Unit {0}) StoreStop) → OnOk r (IfSound sound mid (recorded new t ≡ running mid m)) → OnErr r (IfSound sound mid (recorded new t ≡ recorded mid m)) → IfSound sound mid (IsAged (recorded mid m) now (recorded new t))
  behind_is (Ok done) aged same = λ is told honest. inr (aged is told honest ∙ at_clock (recorded mid m))
  behind_is (Err stop) aged same = λ is told honest. inl (same is told honest)

  -- each image of all moments stands for a machine before them, or for what time leaves
  pub images_on : (r : Result (Unit {0}) StoreStop) → IfSound sound first (IsAged (recorded first s) now (recorded mid m)) → IfSound sound first ((m.pending ≡ None) ⊎ (recorded mid m ≡ recorded first s))
      → OnOk r (IfSound sound mid (recorded new t ≡ running mid m)) → OnErr r (IfSound sound mid (recorded new t ≡ recorded mid m)) → IfSound sound first (Leaves first mid (MayAge first s now))
      → IfSound sound mid (Leaves mid new (MayLeave (IsErrOf r stops.Unavailable) mid new m t (advanced m.clock))) → IfSound sound first (Leaves first new (MayAge first s now))
  images_on r aged settled ok err before moments = λ is told honest.
      let tells = ran.told ∙ told in
      let true_at = ran.kept_honest ∙ honest in
      leaves_on first mid new (MayAge first s now) (before is told honest)
      (leaves_weaker mid new (MayLeave (IsErrOf r stops.Unavailable) mid new m t (advanced m.clock)) (MayAge first s now)
      (age_again (aged is told honest) (settled is told honest) (behind_is r ok err is tells true_at) (IsErrOf r stops.Unavailable)) (moments is tells true_at))

  -- ---- what is kept

  module _ (waiting : t.waiting ≡ m.waiting) (clock : t.clock ≡ m.clock) (slots : t.slots ≡ m.slots) (again : IsAged m.recorded now t.recorded) (machine : IfSound sound mid (running new t ≡ running mid m)) (moves : IfSound sound first (running mid m ≡ advance (running first s) now)) where
    same_then : IsAged m.recorded now t.recorded → advance m.recorded now ≡ advance t.recorded now
    same_then (inl is) = ap (λ (n : Machine). advance n now) (sym is)
    same_then (inr is) = sym (once m.recorded) ∙ ap (λ (n : Machine). advance n now) (sym is)

    keys_are : m.slots.keys ≡ t.slots.keys
    keys_are = ap (λ (u : SlotTable). u.keys) (sym slots)

    finished : Finished sound first new s t now
    finished = record {
      collected = record {
        machine = aged_twice s.recorded m.recorded t.recorded collects.passes.recorded again;
        slots = λ stamp slot e. collects.slots.keys stamp slot (ap (λ (keys : SlotOfStamp). fin.get keys stamp) keys_are ∙ e);
        shared = subst (λ (keys : SlotOfStamp). AreShared keys (advance t.recorded now)) keys_are (subst (λ (n : Machine). AreShared m.slots.keys n) (same_then again) (collects.shared idle));
      };
      idle = waiting ∙ idle;
      clock = clock ∙ collects.passes.clock;
      leases = ap (λ (u : SlotTable). u.leases) slots ∙ collects.slots.leases;
      machine = λ is told honest. machine is (ran.told ∙ told) (ran.kept_honest ∙ honest) ∙ moves is told honest;
    }

  -- ---- how the checkpoint ended

  module _ (law : IsTrueToItself new) (tells : JournalIsTold new) (said : StateIsSaid) (fits : Fits sound new t) (told_on : new.tells ≡ mid.tells) (honest_on : new.honest ≡ mid.honest) where
    fit_of : Promised sound first → Fit new t
    fit_of p = fits p.0 (told_on ∙ (ran.told ∙ p.1)) (honest_on ∙ (ran.kept_honest ∙ p.2))

    settled_of : (fit : Fit new t) → t.pending ≡ None → IsSettled new t.journal fit.checkpoint (spelled fit.changes)
    settled_of fit none = (tells t fit).0 none

    nothing_behind : t.pending ≡ None → t.journal.since_checkpoint ≡ 0 → Promised sound first → HasNoRecords new
    nothing_behind none behind p = let fit = fit_of p in no_records new t.journal fit.checkpoint law (spelled fit.changes) (settled_of fit none) behind

    last_of_all : t.pending ≡ None → 2 ^ 62 ≤ t.journal.epoch → Promised sound first → HasLastEpoch new
    last_of_all none late p = let fit = fit_of p in last_epoch new t.journal fit.checkpoint law (spelled fit.changes) (settled_of fit none) late

    written : IsAged s.recorded now m.recorded → t.recorded ≡ advance m.recorded m.clock → t.recorded ≡ advance s.recorded now
    written (inl is) aged = aged ∙ (at_clock m.recorded ∙ ap (λ (n : Machine). advance n now) is)
    written (inr is) aged = aged ∙ (at_clock m.recorded ∙ (ap (λ (n : Machine). advance n now) is ∙ once s.recorded))

    too_long : t.recorded ≡ m.recorded → IsLong m → IsTooLong (advance t.recorded now)
    too_long same long = record {
      point = long.point;
      rules = long.rules;
      state = state_of long.point;
      says = said long.point;
      machine = long.machine ∙ (at_clock m.recorded ∙ ap (λ (n : Machine). advance n now) (sym same));
      long = λ short. long.long (short_lists long.point short);
    }

    no_more : t.recorded ≡ m.recorded → t.journal.epoch ≡ m.journal.epoch → t.pending ≡ None → IsExhausted m → (Promised sound first → HasLastEpoch new) ⊎ IsTooLong (advance t.recorded now)
    no_more same epoch none (inl late) = inl (last_of_all none (subst (λ (n : ℕ). 2 ^ 62 ≤ n) (sym epoch) late))
    no_more same epoch none (inr long) = inr (too_long same long)

    pub ended : (r : Result (Unit {0}) StoreStop) → Pointed m t r → (IsErrOf r stops.Unavailable → Rose mid.faults new.faults) → IfSound sound mid (running new t ≡ running mid m) → IfSound sound first (running mid m ≡ advance (running first s) now) → Ended sound first new s t now r
    ended (Ok done) pointed cause machine moves =
        let recorded_is : t.recorded ≡ advance m.recorded m.clock = ap (λ (u : Seen). u.recorded) pointed.is in
        record {
          finished = finished (ap (λ (u : Seen). u.waiting) pointed.is) (ap (λ (u : Seen). u.clock) pointed.is) (ap (λ (u : Seen). u.slots) pointed.is) (inr (recorded_is ∙ at_clock m.recorded)) machine moves;
          point = (written collects.passes.recorded recorded_is, nothing_behind (ap (λ (u : Seen). u.pending) pointed.is) pointed.records);
        }
    ended (Err stops.Unavailable) left cause machine moves =
        record { finished = finished left.waiting left.clock left.slots (inl left.recorded) machine moves; point = rose_since first.faults mid.faults new.faults ran.count (cause refl) }
    ended (Err stops.Exhausted) (is, why) cause machine moves =
        let same : t.recorded ≡ m.recorded = ap (λ (u : Seen). u.recorded) is in
        record {
          finished = finished (ap (λ (u : Seen). u.waiting) is) (ap (λ (u : Seen). u.clock) is) (ap (λ (u : Seen). u.slots) is) (inl same) machine moves;
          point = no_more same (ap (λ (u : Seen). u.journal.epoch) is) (ap (λ (u : Seen). u.pending) is) why;
        }
    ended (Err stops.Memory) is cause machine moves =
        record { finished = finished (ap (λ (u : Seen). u.waiting) is) (ap (λ (u : Seen). u.clock) is) (ap (λ (u : Seen). u.slots) is) (inl (ap (λ (u : Seen). u.recorded) is)) machine moves; point = tt }

-- ---- the end

module _ (Fails : Type 0) (Finishes : Result (Unit {0}) StoreStop → Type 0) where
  pub by_point : (r : Result (Unit {0}) StoreStop) → Finishes r → IsCollectedOr (after_point r) Fails Finishes
  by_point (Ok done) all = all
  by_point (Err stops.Unavailable) all = inr all
  by_point (Err stops.Exhausted) all = all
  by_point (Err stops.Memory) all = all

  pub as_none : (end : CommandEnd) → IsCollectedOr (Err end) Fails Finishes → CollectedAs end Fails Finishes
  as_none DiskFailed why = why
  as_none Exhausted why = why
  as_none Memory why = inr why
  as_none Done why = absurd why
  as_none AlreadyMade why = absurd why
  as_none OutputFailed why = absurd why
  as_none Damaged why = absurd why

  -- nothing was written then
  pub unwritten : (end : CommandEnd) (text : List ℕ) (before after : Outlet) → IsCollectedOr (Err end) Fails Finishes → after ≡ before → Writes end text before after
  unwritten DiskFailed text before after why still = still
  unwritten Exhausted text before after why still = still
  unwritten Memory text before after why still = still
  unwritten Done text before after why still = absurd why
  unwritten AlreadyMade text before after why still = still
  unwritten OutputFailed text before after why still = absurd why
  unwritten Damaged text before after why still = still

  pub ended_early : (end : CommandEnd) (usage : Usage) (before after : Outlet) → IsCollectedOr (Err end) Fails Finishes → after ≡ before → CollectEnds end Fails Finishes usage before after
  ended_early end usage before after why still = (as_none end why, unwritten end (usage_line usage) before after why still)

  -- a collection that was finished with its checkpoint ends as its usage is told
  pub told : (end : CommandEnd) (usage : Usage) (before after : Outlet) → Finishes (Ok tt) → TellsUsage end usage before after → CollectEnds end Fails Finishes usage before after
  told Done usage before after all tells = (all, tells)
  told OutputFailed usage before after all tells = (all, tells)
  told Memory usage before after all tells = (inl all, tells)
  told DiskFailed usage before after all tells = absurd tells
  told AlreadyMade usage before after all tells = absurd tells
  told Damaged usage before after all tells = absurd tells
  told Exhausted usage before after all tells = absurd tells

module _ (F G : Type 0) (E H : Result (Unit {0}) StoreStop → Type 0) (fails : F → G) (ends : (r : Result (Unit {0}) StoreStop) → E r → H r) where
  -- what is known of each is told of both
  pub collected_with : (end : CommandEnd) → CollectedAs end F E → CollectedAs end G H
  collected_with Done went = ends (Ok tt) went
  collected_with OutputFailed went = ends (Ok tt) went
  collected_with DiskFailed (inl why) = inl (fails why)
  collected_with DiskFailed (inr all) = inr (ends (Err stops.Unavailable) all)
  collected_with Exhausted went = ends (Err stops.Exhausted) went
  collected_with Memory (inl all) = inl (ends (Ok tt) all)
  collected_with Memory (inr all) = inr (ends (Err stops.Memory) all)
  collected_with AlreadyMade went = absurd went
  collected_with Damaged went = absurd went
