-- A session over the store that was had of a disk.
use Rattle.std.proofs.Common.{◌≡◌, ◌⊎◌, inl, inr, ⊎_elim, ℕ, ◌+◌, ◌-◌, ◌≤◌, ◌^◌, min, List, [], ◌∷◌, ◌++◌, length, map, true, refl, subst, ◌∙◌, arith}
use Rattle.ebs_world.specs.Image.{Image, Images}
use Rattle.ebs_world.specs.View.{View, Leaves, Ran, IsTrueToItself}
use Rattle.ebs_journal.specs.Opening.{OffMaking}
use Rattle.ebs_model.specs.Machine.{Machine}
use Rattle.ebs_exchanges.specs.Exchanges.{Exchange}
use Rattle.ebs_exchanges.specs.Stops.{Point, Along, Does, OwnCall, Runs, IsUntold, Makes, second_at}
use Rattle.ebs_exchanges.specs.Lives.{Event, exchanged, restarted, at_rest, Lives, all_exchanged}
use Rattle.ebs_exchanges.specs.inner.LifeLaws.{LivesOn, LivesAgain, LivesUntold, LifeReadsBack, RunIsOfCalls}
use Rattle.ebs_recovery.specs.inner.Fits.{Seen}
use Rattle.ebs_recovery.specs.Stands.{Stands}
use Rattle.ebs_service.specs.Fronts.{IsCounted, failures_in, OneMoreOf, FrontOf, StandsForFront}
use Rattle.ebs_service.specs.inner.Fronts.{point, StoodOf, Stood}
use Rattle.ebs_model.specs.Quotas.{Rose}
use Rattle.ebs_disk_store.specs.inner.Opened.{MayRefuse}
use Rattle.ebs_disk_store.specs.declared.refusal.OpenRefusal.{OpenRefusal}
use Rattle.ebs_disk_store.specs.declared.refusal.OpenRefusal.TheVariants.{DiskFailed, NotMade, AlreadyMade, NotAJournal, BadVersion, BadRecord, BadCheckpoint, NotBuilt, Memory}
use Rattle.ebs_cli.specs.declared.outcome.Outcome.TheVariants.{Unready}
use Rattle.ebs_cli.specs.Outcomes.{IsWhole}
use Rattle.ebs_opening.specs.Opens.{AllStand, IsUnready}
use Rattle.ebs_cli.specs.Opens.{OnlyMakes}
use Rattle.ebs_opening.specs.inner.Opens.{Has, IsReadOrNew}
use Rattle.ebs_cli.specs.inner.Keeps.{AnswersAll, FallsApart}
use Rattle.ebs_cli.specs.Keeps.{KeepsAll}
use Rattle.ebs_cli.specs.Left.{Acknowledges, GoesOn, IsLeftOf, loses_message}
use Rattle.ebs_cli.specs.inner.OnDisk.{AnsweredBy, WentWhere}
use Rattle.ebs_cli.specs.OnDisk.{WentFrom}
use Rattle.ebs_cli.proofs.Told.{LieInBlocks, kept_of, replies_are}
use Rattle.ebs_cli.proofs.Had.{kept_or_new, lie_in_blocks}

-- what holds of any life
pub record Laws : Type 0 where
  pub on : LivesOn
  pub again : LivesAgain
  pub untold : LivesUntold
  pub read_back : LifeReadsBack
  pub is_run : RunIsOfCalls

-- ---- of exchanges, or of a command's own calls

-- what each makes of a life, whether it is told or lost
module _ {X : Type 0} (Makes : X → OwnCall → Type 0) (Part : Point → X → Point → Type 0) (tell : X → Event) (lose : X → ℕ → Event)
    (on : (past : List Event) (p q : Point) (xs : List X) → Lives past p → Along Part p xs q → Lives (past ++ map tell xs) q)
    (again : LivesAgain)
    (untold : (past : List Event) (p : Point) (x : X) (made : OwnCall) (second : ℕ) (next : Machine) → Lives past p → Makes x made → IsUntold made.call second p.recorded next → Lives (past ++ lose x second ∷ []) (at_rest next)) where
  pub goes_on : (m : Machine) (xs : List X) (least : ℕ) (c : Image) → FrontOf Makes Part (at_rest m) xs least c → (past : List Event) → Lives past (at_rest m) → GoesOn Makes Part tell lose (at_rest m) past xs least c
  goes_on m xs least c f past lives = by f.stands
    where
      gone : Lives (past ++ map tell f.front) f.after
      gone = on past (at_rest m) f.after f.front lives f.runs

      by : Stands c f.after.recorded ⊎ OneMoreOf Makes Part (at_rest m) xs f.front f.after c → GoesOn Makes Part tell lose (at_rest m) past xs least c
      by (inl stands) = record {
        front = f.front;
        back = f.back;
        is = f.is;
        long = f.long;
        reached = f.after;
        runs = f.runs;
        machine = f.after.recorded;
        stop = restarted;
        stops = inl (refl, refl);
        lives = again (past ++ map tell f.front) f.after gone;
        stands = stands;
      }
      by (inr more) = record {
        front = f.front;
        back = f.back;
        is = f.is;
        long = f.long;
        reached = f.after;
        runs = f.runs;
        machine = more.next;
        stop = lose more.is_open.x (second_at more.at more.made);
        stops = inr (more, refl, refl);
        lives = untold (past ++ map tell f.front) f.after more.is_open.x more.made (second_at more.at more.made) more.next gone more.is_open.makes more.lost;
        stands = more.stands;
      }

-- before the first of them
front_none : {X : Type 0} (Makes : X → OwnCall → Type 0) (Part : Point → X → Point → Type 0) (m : Machine) (xs : List X) (c : Image) → Stands c m → FrontOf Makes Part (at_rest m) xs 0 c
front_none Makes Part m xs c stands = record { front = []; back = xs; is = refl; long = omega arith; after = at_rest m; runs = refl; stands = inl stands }

-- at the start both machines are the one that the disk stood for
point_is : (u : View) (s : Seen) (m : Machine) → Has u s m → point u s ≡ at_rest m
point_is u s m has = λ i. record { recorded = has.records i; running = has.answers i }

-- over the store that was had of a disk, whose images have what `Has` says of a front
module _ {X : Type 0} (Makes : X → OwnCall → Type 0) (Part : Point → X → Point → Type 0) (m : Machine) (xs : List X) (Has_of : ℕ → Images) (has_of : (i : ℕ) (c : Image) → FrontOf Makes Part (at_rest m) xs i c → Has_of i c)
    (v u w : View) (s t : Seen) (law : IsTrueToItself w) (honest : w.honest ≡ true) (later : v.moment ≤ u.moment) (has : Has u s m) (stood : StoodOf Makes Part u w s t xs) where
  same : point u s ≡ at_rest m
  same = point_is u s m has

  pub went_along : Along Part (at_rest m) xs (point w t)
  went_along = subst (λ (p : Point). Along Part p xs (point w t)) same stood.runs

  front_is : (i : ℕ) (c : Image) → FrontOf Makes Part (point u s) xs i c → Has_of i c
  front_is i c front = has_of i c (subst (λ (p : Point). FrontOf Makes Part p xs i c) same front)

  pub acknowledged : Acknowledges v w Has_of (length xs)
  acknowledged = record {
    when = stood.when;
    begins = omega (arith, later, stood.begins);
    ascends = stood.ascends;
    ends = stood.ends;
    left = λ i c le since. front_is i c (stood.fronts i c le since);
  }

  pub at_end : (c : Image) → w.may_leave c → Has_of (length xs) c
  at_end c now = front_is (length xs) c (stood.fronts (length xs) c (omega arith) (law.counts_now honest (stood.when (length xs)) c stood.ends now))

  pub since_first : Leaves v u (λ c. Stands c m) → (c : Image) → w.left_since v.moment c → Has_of 0 c
  since_first opening c since = ⊎_elim (λ before. has_of 0 c (front_none Makes Part m xs c (opening.each c before))) (front_is 0 c) (stood.moments.before v.moment c later since)

-- ---- a session

left_of : Laws → (m : Machine) (xs : List Exchange) (least : ℕ) (c : Image) → StandsForFront (at_rest m) xs least c → IsLeftOf m xs least c
left_of laws m xs least c f = record {
  front = f;
  goes_on = goes_on Makes Does exchanged loses_message laws.on laws.again (λ past p x made second next lives makes lost. laws.untold past p x.message second next lives (made.call, makes.call, lost)) m xs least c f;
}

pub went_from : Laws → (v u w : View) (s t : Seen) (m : Machine) (xs : List Exchange) → IsTrueToItself w → w.honest ≡ true → v.moment ≤ u.moment → Has u s m
    → (AllStand v m → Leaves v u (λ c. Stands c m)) → Stood u w s t xs → WentFrom m v w xs
went_from laws v u w s t m xs law honest later has opening stood = record {
  after = point w t;
  runs = runs;
  is_run = laws.is_run (at_rest m) (point w t) xs runs;
  read_back = λ past lives. laws.read_back (past ++ all_exchanged xs) (point w t) (laws.on past (at_rest m) (point w t) xs lives runs);
  acknowledges = acknowledged Makes Does m xs (IsLeftOf m xs) (left_of laws m xs) v u w s t law honest later has stood;
  ends = at_end Makes Does m xs (IsLeftOf m xs) (left_of laws m xs) v u w s t law honest later has stood;
  from_first = λ all. since_first Makes Does m xs (IsLeftOf m xs) (left_of laws m xs) v u w s t law honest later has stood (opening all);
}
  where
    runs : Runs (at_rest m) xs (point w t)
    runs = went_along Makes Does m xs (IsLeftOf m xs) (left_of laws m xs) v u w s t law honest later has stood

counted : (v u w : View) (xs : List Exchange) → v.faults ≤ u.faults → IsCounted u xs w → IsCounted v xs w
counted v u w xs le count = grow v.faults u.faults (failures_in xs) w.faults le count
  where
    grow : (a b n c : ℕ) → a ≤ b → min (b + n) (2 ^ 64 - 1) ≤ c → min (a + n) (2 ^ 64 - 1) ≤ c
    grow a b n c le count = omega (arith, le, count)

-- the session's exchanges, from the disk before its opening on
pub went_where : Laws → (sound : Type 0) (v u w : View) (s : Seen) (xs : List Exchange) → IsTrueToItself w → Ran OffMaking v u
    → (v.tells ≡ true → v.honest ≡ true → (m : Machine) → Stands v.reads m → Has u s m)
    → (v.tells ≡ true → v.honest ≡ true → (m : Machine) → Stands v.reads m → AllStand v m → Leaves v u (λ c. Stands c m))
    → AnsweredBy sound u w s xs → WentWhere sound v w xs
went_where laws sound v u w s xs law ran has opening answered = record {
  tells = answered.tells ∙ ran.told;
  honest = answered.honest ∙ ran.kept_honest;
  counted = counted v u w xs ran.count answered.counted;
  went = λ is_sound told honest m stands. went_from laws v u w s answered.last m xs law (answered.honest ∙ ran.kept_honest ∙ honest) (ran.moments honest).later
      (has told honest m stands) (opening told honest m stands) (answered.stood is_sound (ran.told ∙ told) (ran.kept_honest ∙ honest));
}

-- what was answered stays
pub keeps_all : {D : Type 0} (view : D → View) → Laws → (sound : Type 0) (d opened e : D) (s : Seen) (xs : List Exchange) → OnlyMakes (view d) (view opened) → ((view d).tells ≡ true → IsReadOrNew (view d) s)
    → ((view d).tells ≡ true → (view d).honest ≡ true → (m : Machine) → Stands (view d).reads m → Has (view opened) s m)
    → FallsApart view sound s opened e xs → AnswersAll view sound s opened e xs → KeepsAll view sound d e xs
keeps_all view laws sound d opened e s xs opening read has apart answers =
    let area : LieInBlocks (view opened) s = lie_in_blocks (view d) (view opened) s opening.ran.told read in
    record {
      opened = opened;
      kept = kept_of s;
      had = record { read = λ told. kept_or_new (view d) s (read told); opening = opening };
      last = kept_of answers.last;
      answers = replies_are view sound xs s answers.last opened e area answers.replies;
      each = λ is_sound told honest m stands front back is.
          let p = apart front back is in
          record {
            mid = p.1;
            between = kept_of p.0;
            answered = replies_are view sound front s p.0 opened p.1 area p.2;
            left = λ c since. left_of laws m (front ++ back) (length front) c (subst (λ (q : Point). StandsForFront q (front ++ back) (length front) c)
                (point_is (view opened) s m (has told honest m stands)) (p.3 is_sound (opening.ran.told ∙ told) (opening.ran.kept_honest ∙ honest) c since));
          };
    }

-- where no count rises and the disk stood for a machine, a store isn't had for want of memory alone
pub whole : (v w : View) (refusal : OpenRefusal) → IsUnready v w refusal → (Rose v.faults w.faults → ⊥) → MayRefuse refusal → IsWhole (Unready refusal)
whole v w DiskFailed why quiet may = absurd (quiet why)
whole v w NotMade why quiet may = absurd why
whole v w AlreadyMade why quiet may = absurd may
whole v w (NotAJournal nine) why quiet may = absurd may
whole v w (BadVersion version) why quiet may = absurd may
whole v w (BadRecord place) why quiet may = absurd may
whole v w BadCheckpoint why quiet may = absurd may
whole v w NotBuilt why quiet may = may
whole v w Memory why quiet may = tt
