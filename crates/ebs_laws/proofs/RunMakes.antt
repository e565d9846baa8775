-- What a run makes stays, and so does what is among the newest of its volume.
use Rattle.std.proofs.Common.{◌≡◌, ◌⊎◌, inl, inr, ℕ, ◌+◌, ◌*◌, ◌<◌, ◌≤◌, ◌&&◌, nat_le, Ordering, Less, Equal, Greater, Bool, true, false, cond, List, [], ◌∷◌, map, length, Option, Some, None, sym, ap, subst, ◌∙◌, refl, arith}
use Rattle.std.proofs.lemmas.Bool.{false≢true}
use Rattle.std.proofs.lemmas.Bool.Decides.{nat_tests}
use Rattle.std.proofs.lemmas.List.{length-map}
use Rattle.std.proofs.lemmas.List.Sums.{sum_by-cons}
use Rattle.std.specs.Prelude.{is_some}
use Rattle.std.specs.List.{AllByRecursion, filter, count_by}
use Rattle.std.specs.Option.{option_map}
use Rattle.std.specs.Ordering.{is_lt, eq_by_cmp, ordering_then, nat_cmp, MatchOrdering}
use Rattle.std.specs.FinMap as fin
use Rattle.ebs_tables.proofs.MapEdits.{is_same, tied}
use Rattle.ebs_model.specs.declared.keys.SnapKey.{SnapKey}
use Rattle.ebs_model.specs.declared.keys.VolKey.{VolKey}
use Rattle.ebs_model.specs.declared.keys.PolicyKey.{PolicyKey}
use Rattle.ebs_model.specs.declared.keys.AnyKey.TheVariants.{Snap}
use Rattle.ebs_model.specs.declared.keys.Moment.{Moment}
use Rattle.ebs_model.specs.declared.policy.Policy.{Policy}
use Rattle.ebs_model.specs.declared.policy.Made.{Made}
use Rattle.ebs_model.specs.declared.policy.Retain.{Retain}
use Rattle.ebs_model.specs.declared.policy.Retain.TheVariants as retain
use Rattle.ebs_model.specs.declared.rows.SnapRow.{SnapRow}
use Rattle.ebs_model.specs.declared.rows.VolRow.{VolRow}
use Rattle.ebs_model.specs.Keys.{snap_cmp}
use Rattle.ebs_model.specs.inner.Orders.{snaps_total, exact_snaps}
use Rattle.ebs_model.specs.Time.{Snapshot, is_ahead}
use Rattle.ebs_model.specs.Access.{owns}
use Rattle.ebs_model.specs.Rows.{Rows}
use Rattle.ebs_model.specs.Machine.{Machine, rows_of, snap_rows, disk_of}
use Rattle.ebs_model.specs.Retention.{months_after, is_before, newer, is_picked}
use Rattle.ebs_model.specs.Policies.{is_policy, is_managed, managed, made_of, is_same_volume, of_volume}
use Rattle.ebs_model.specs.Calls.Start.{next_key}
use Rattle.ebs_model.specs.Calls.Run.{following, new_keys, run_row, made_rows, run_released, run_ended, freed}
use Rattle.ebs_model.specs.Step.{source_array}
use Rattle.ebs_model.proofs.RowLaws.{row_in, with_array, get-row, get-with}
use Rattle.ebs_model.proofs.RunLaws.{among, new_row, or_else, with_made, left_of, get-new, get-run}
use Rattle.ebs_model.proofs.VolumeGroups.{same_volume}
use Rattle.ebs_listing.proofs.Ascending.{order}
use Rattle.ebs_laws.specs.Uploads.{NumbersGiven}
use Rattle.ebs_laws.specs.RunLaws.{StartsPassed, KeepsSome, PassesTime, Ascend, IsRunOf, EachIsMade, IsHad, IsNewer, HasNewer}
use Rattle.ebs_laws.proofs.Elements.{all-shown}
use Rattle.ebs_laws.proofs.PolicyRuns.{both_hold, turned_off, some_is, none_some, each, each_passed, IsNew, is_new, due_volumes, IsDueTarget, due_targets-are, array, Known, all_known, released-is, ended-is}
use Rattle.ebs_laws.proofs.PolicyLaws.{policy-is}
use Rattle.ebs_laws.proofs.Readers.{same_number}
use Rattle.ebs_laws.proofs.RunTargets.{element, ascend, lower_number, holds, run_volumes, volumes-ascend}
use Rattle.ebs_laws.proofs.SameLists.{filter-twice}
use Rattle.ebs_laws.proofs.Whole.{own_of, ran}

-- ---- order

-- the second is newer than the first
newer-is : (a b : Made) → a.key.account ≡ b.key.account → is_before a b ≡ true → (a.start.second < b.start.second) ⊎ ((a.start.second ≡ b.start.second) × (a.key.number < b.key.number))
newer-is a b same e = by (nat_cmp a.start.second b.start.second) (order a.start.second b.start.second) e
  where
    by : (o : Ordering) → MatchOrdering o (a.start.second < b.start.second) (a.start.second ≡ b.start.second) (b.start.second < a.start.second) → is_lt (ordering_then o (snap_cmp a.key b.key)) ≡ true
        → (a.start.second < b.start.second) ⊎ ((a.start.second ≡ b.start.second) × (a.key.number < b.key.number))
    by Less h e = inl h
    by Equal h e = inr (h, lower_number a.key.account b.key.account a.key.number b.key.number same e)
    by Greater h e = absurd (false≢true e)

-- where none counts, the count is none
none_counted : {X : Type 0} (p : X → Bool) (xs : List X) → AllByRecursion (λ x. p x ≡ false) xs → count_by p xs ≡ 0
none_counted p [] h = refl
none_counted p (x ∷ xs) h =
    let one : count_by p (x ∷ xs) ≡ cond (p x) 1 0 + count_by p xs = sum_by-cons (λ k. cond (p k) 1 0) x xs in
    let first = ap {B = ℕ} (λ b. cond b 1 0) h.0 in
    let rest = none_counted p xs h.1 in
    omega (arith, one, first, rest)

is_false : (b : Bool) → (b ≡ true → ⊥) → b ≡ false
is_false true h = absurd (h refl)
is_false false h = refl

-- one that begins now, with none newer, isn't picked
not-picked : (r : Retain) (made : List Made) (now : ℕ) (one : Made) → KeepsSome r → PassesTime r now → newer made one ≡ 0 → one.start.second ≡ now → is_picked r made now one ≡ true → ⊥
not-picked (retain.Count n) made now one some passes none begins e = let few : n ≤ newer made one = le_is n (newer made one) e in absurd (omega (arith, few, none, some))
  where
    le_is : (a b : ℕ) → nat_le a b ≡ true → a ≤ b
    le_is a b e = grind (arith, nat_tests)
not-picked (retain.Days n) made now one some passes none begins e = absurd (grind (arith, nat_tests))
not-picked (retain.Weeks n) made now one some passes none begins e = absurd (grind (arith, nat_tests))
not-picked (retain.Months n) made now one some passes none begins e = let reached = subst (λ (s : ℕ). nat_le (months_after s n) now ≡ true) begins e in absurd (grind (arith, nat_tests))
not-picked (retain.Years n) made now one some passes none begins e = let reached = subst (λ (s : ℕ). nat_le (months_after s (12 * n)) now ≡ true) begins e in absurd (grind (arith, nat_tests))

-- ---- the new ones

-- numbers are given out in the order of the volumes
in-order : (at : Moment) (key : PolicyKey) (p : Policy) (first : SnapKey) (volumes : List (VolKey × VolRow)) → Ascend (map (λ (v : VolKey). v.number) (map (λ (e : VolKey × VolRow). e.0) volumes))
    → (q r : SnapKey) (row other : SnapRow) (a b : VolKey) → new_row at key p first volumes q ≡ Some row → new_row at key p first volumes r ≡ Some other → q.number < r.number → row.volume ≡ Some a → other.volume ≡ Some b → a.number < b.number
in-order at key p first [] up q r row other a b e f less is and = absurd (none_some e)
in-order at key p first (v ∷ volumes) up q r row other a b e f less is and =
    by (eq_by_cmp snap_cmp q first) (eq_by_cmp snap_cmp r first) refl refl e f (λ e f. in-order at key p (following first) volumes up.1 q r row other a b e f less is and)
  where
    next : SnapKey
    next = following first

    above-first : AllByRecursion (λ (e : VolKey × VolRow). v.0.number < e.0.number) volumes
    above-first = unmapped volumes up.0
      where
        unmapped : (es : List (VolKey × VolRow)) → AllByRecursion (λ later. v.0.number < later) (map (λ (v : VolKey). v.number) (map (λ (e : VolKey × VolRow). e.0) es)) → AllByRecursion (λ (e : VolKey × VolRow). v.0.number < e.0.number) es
        unmapped [] h = tt
        unmapped (e ∷ es) h = (h.0, unmapped es h.1)

    later : (k : SnapKey) (x : SnapRow) → new_row at key p next volumes k ≡ Some x → IsNew at key p (λ (e : VolKey × VolRow). v.0.number < e.0.number) next volumes k x
    later k x e = is_new at key p (λ (e : VolKey × VolRow). v.0.number < e.0.number) next volumes above-first k x e

    volume-is : (k : SnapKey) (x : SnapRow) (c d : VolKey) (o : VolRow) → x ≡ run_row at k key p (d, o) → x.volume ≡ Some c → c ≡ d
    volume-is k x c d o same is = some_is c d (sym is ∙ ap (λ (r : SnapRow). r.volume) same)

    by : (s t : Bool) → eq_by_cmp snap_cmp q first ≡ s → eq_by_cmp snap_cmp r first ≡ t → cond s (Some (run_row at first key p v)) (new_row at key p next volumes q) ≡ Some row → cond t (Some (run_row at first key p v)) (new_row at key p next volumes r) ≡ Some other
        → (new_row at key p next volumes q ≡ Some row → new_row at key p next volumes r ≡ Some other → a.number < b.number) → a.number < b.number
    by true true s t e f again =
        let one = ap (λ (k : SnapKey). k.number) (is_same exact_snaps q first s) in
        let two = ap (λ (k : SnapKey). k.number) (is_same exact_snaps r first t) in
        absurd (omega (arith, one, two, less))
    by true false s t e f again =
        let n = later r other f in
        let mine = ap (λ (k : VolKey). k.number) (volume-is first row a v.0 v.1 (sym (some_is _ _ e)) is) in
        let its = ap (λ (k : VolKey). k.number) (volume-is r other b n.of.0 n.of.1 n.row_is and) in
        let above = n.known in
        omega (arith, mine, its, above)
    by false true s t e f again =
        let above = (later q row e).above in
        let two = ap (λ (k : SnapKey). k.number) (is_same exact_snaps r first t) in
        absurd (omega (arith, above, two, less))
    by false false s t e f again = again e f

module _ (m : Machine) (key : PolicyKey) (p : Policy) (given : NumbersGiven m) (passed : StartsPassed m) where
  abbrev Entry : Type 0
  Entry = SnapKey × SnapRow

  abbrev now : ℕ
  now = m.clock.second

  abbrev first : SnapKey
  first = next_key (rows_of m) key.account

  abbrev volumes : List (VolKey × VolRow)
  volumes = due_volumes m key p

  abbrev made : Rows
  made = made_rows (rows_of m) m.clock key p

  abbrev all : List Entry
  all = managed made key now

  abbrev new : SnapKey → Option SnapRow
  new q = new_row m.clock key p first volumes q

  abbrev counted_of : SnapRow → List Made
  counted_of row = of_volume now row.volume all

  -- one that was there, where none is made
  old-is : (q : SnapKey) (row : SnapRow) → new q ≡ None → with_made (rows_of m) m.clock key p q ≡ Some row → (s : Snapshot) × (fin.get m.snaps q ≡ Some s) × (s.row ≡ row)
  old-is q row none w = by (fin.get m.snaps q) refl
    where
      there : row_in (fin.get m.snaps q) ≡ Some row
      there = sym (get-row m.snaps q) ∙ sym (ap (λ (o : Option SnapRow). or_else o (fin.get (snap_rows m.snaps) q)) none) ∙ w

      by : (o : Option Snapshot) → fin.get m.snaps q ≡ o → (s : Snapshot) × (fin.get m.snaps q ≡ Some s) × (s.row ≡ row)
      by None e = absurd (none_some (sym (ap row_in e) ∙ there))
      by (Some s) e = (s, e, some_is s.row row (sym (ap row_in e) ∙ there))

  made-is : (e : Entry) → Known m key p e → with_made (rows_of m) m.clock key p e.0 ≡ Some e.1
  made-is e known = sym (get-new (rows_of m) m.clock key p volumes e.0) ∙ known.0

  owner-is : (e : Entry) → Known m key p e → key.account ≡ e.0.account
  owner-is e known = same_number key.account e.0.account (both_hold (owns key.account e.0) _ known.1).0

  managed-parts : (x : Entry) → Known m key p x → (is_policy key x.1.policy ≡ true) × (is_ahead x.1.bin_end now ≡ false)
  managed-parts x known =
      let (own, rest) = both_hold (owns key.account x.0) _ known.1 in
      let (of, more) = both_hold (is_policy key x.1.policy) _ rest in
      let (volume, out) = both_hold (is_some x.1.volume) _ more in
      (of, turned_off _ out)

  new-is : (q : SnapKey) (row : SnapRow) → new q ≡ Some row → IsNew m.clock key p (IsDueTarget m key p) first volumes q row
  new-is q row e = is_new m.clock key p (IsDueTarget m key p) first volumes (due_targets-are m key p) q row e

  -- what isn't picked stays as it was made
  pub stays-unpicked : (q : SnapKey) (row : SnapRow) → with_made (rows_of m) m.clock key p q ≡ Some row → (is_picked p.retain (counted_of row) now (made_of now (q, row)) ≡ true → ⊥) → fin.get (ran m key p).snaps q ≡ Some (with_array (array m key p q) row)
  stays-unpicked q row w out = get-with _ _ q ∙ ap (option_map (with_array (array m key p q))) (get-run (rows_of m) m.clock key p q ∙ by (among q (run_ended (rows_of m) m.clock key p)) (among q (run_released (rows_of m) m.clock key p)) refl refl)
    where
      by : (a b : Bool) → among q (run_ended (rows_of m) m.clock key p) ≡ a → among q (run_released (rows_of m) m.clock key p) ≡ b
          → cond a (left_of (rows_of m) m.clock q (option_map freed (with_made (rows_of m) m.clock key p q))) (cond b (option_map freed (with_made (rows_of m) m.clock key p q)) (with_made (rows_of m) m.clock key p q)) ≡ Some row
      by true b t u = absurd (out (ended-is m key p q row w t).0.is_picked)
      by false true t u = absurd (out (released-is m key p q row w u).0.is_picked)
      by false false t u = w

  -- a new one has none newer of its volume
  module _ (q : SnapKey) (row : SnapRow) (e : new q ≡ Some row) where
    pub one : IsNew m.clock key p (IsDueTarget m key p) first volumes q row
    one = new-is q row e

    starts : row.start.second ≡ now
    starts = ap (λ (r : SnapRow). r.start.second) one.row_is

    none-later : (x : Entry) → Known m key p x → is_same_volume row.volume x.1.volume ≡ true → is_before (made_of now (q, row)) (made_of now x) ≡ true → ⊥
    none-later x known same before = by (new x.0) refl
      where
        order-is : (row.start.second < x.1.start.second) ⊎ ((row.start.second ≡ x.1.start.second) × (q.number < x.0.number))
        order-is = newer-is (made_of now (q, row)) (made_of now x) (one.owner ∙ owner-is x known) before

        of_old : (s : Snapshot) → fin.get m.snaps x.0 ≡ Some s → s.row ≡ x.1 → (row.start.second < x.1.start.second) ⊎ ((row.start.second ≡ x.1.start.second) × (q.number < x.0.number)) → ⊥
        of_old s there is (inl less) = let in_time = passed x.0 s there in let at = ap (λ (r : SnapRow). r.start.second) is in omega (arith, less, in_time, at, starts)
        of_old s there is (inr h) =
            let below = given x.0 s there in
            let above = one.above in
            let next = ap (λ (a : ℕ). (own_of m a).next_snap) (owner-is x known) in
            let more = h.1 in
            omega (arith, below, above, next, more)

        of_new : IsNew m.clock key p (IsDueTarget m key p) first volumes x.0 x.1 → new x.0 ≡ Some x.1 → (row.start.second < x.1.start.second) ⊎ ((row.start.second ≡ x.1.start.second) × (q.number < x.0.number)) → ⊥
        of_new two f (inl less) = let at = ap (λ (r : SnapRow). r.start.second) two.row_is in omega (arith, less, at, starts)
        of_new two f (inr h) =
            let up = in-order m.clock key p first volumes (volumes-ascend m key p) q x.0 row x.1 one.of.0 two.of.0 e f h.1 (ap (λ (r : SnapRow). r.volume) one.row_is) (ap (λ (r : SnapRow). r.volume) two.row_is) in
            let volume = some_is one.of.0 two.of.0 (sym (ap (λ (r : SnapRow). r.volume) one.row_is) ∙ same_volume row.volume x.1.volume same ∙ ap (λ (r : SnapRow). r.volume) two.row_is) in
            let number = ap (λ (v : VolKey). v.number) volume in
            omega (arith, up, number)

        by : (o : Option SnapRow) → new x.0 ≡ o → ⊥
        by None n = let s = old-is x.0 x.1 n (made-is x known) in of_old s.0 s.1 s.2 order-is
        by (Some other) n =
            let is : other ≡ x.1 = some_is other x.1 (sym (ap (λ (o : Option SnapRow). or_else o (fin.get (snap_rows m.snaps) x.0)) n) ∙ made-is x known) in
            let f = n ∙ ap Some is in
            of_new (new-is x.0 x.1 f) f order-is

    none-newer : newer (counted_of row) (made_of now (q, row)) ≡ 0
    none-newer =
        let here : Entry → Bool = λ x. is_same_volume row.volume x.1.volume in
        none_counted (is_before (made_of now (q, row))) (counted_of row)
        (all-shown (λ other. is_before (made_of now (q, row)) other ≡ false) (made_of now) (filter here all)
        (each (λ (x : Entry). Known m key p x × (here x ≡ true)) (λ (x : Entry). is_before (made_of now (q, row)) (made_of now x) ≡ false) (filter here all)
        (λ x h. is_false _ (none-later x h.0 h.1))
        (each_passed here (Known m key p) all (all_known m key p))))

    -- so it stays, with all the blocks of its volume
    pub new-stays : KeepsSome p.retain → PassesTime p.retain now → fin.get (ran m key p).snaps q ≡ Some (record { row = row; array = disk_of m one.of.0 })
    new-stays some time =
        stays-unpicked q row (ap (λ (o : Option SnapRow). or_else o (fin.get (snap_rows m.snaps) q)) e) (not-picked p.retain (counted_of row) now (made_of now (q, row)) some time none-newer starts)
        ∙ ap (λ (o : Option VolKey). Some (with_array (source_array m o q) row)) one.source

  -- ---- one of each target

  module _ (some : KeepsSome p.retain) (time : PassesTime p.retain now) where
    run-of : (q : SnapKey) (e : VolKey × VolRow) → IsDueTarget m key p e → new q ≡ Some (run_row m.clock q key p e) → IsRunOf m m.clock key p e.0 q (ran m key p)
    run-of q e target n =
        let is = one q (run_row m.clock q key p e) n in
        let volume = some_is is.of.0 e.0 (ap (λ (r : SnapRow). r.volume) (sym is.row_is)) in
        record {
          of = e.1;
          was_there = target.there;
          snapshot = record { row = run_row m.clock q key p e; array = disk_of m e.0 };
          is_there = new-stays q (run_row m.clock q key p e) n some time ∙ ap (λ (v : VolKey). Some (record { row = run_row m.clock q key p e; array = disk_of m v })) volume;
          by_policy = refl;
          row = record {
            key_is = refl;
            size_is = refl;
            line_is = refl;
            volume_is = refl;
            description_is = refl;
            tags_are = refl;
            starts = refl;
            last_is = refl;
            completed = refl;
            no_timeout = refl;
            no_parent = refl;
            no_put = refl;
            not_shared = refl;
            not_public = refl;
            no_lock = refl;
            tier_is = refl;
            not_binned = refl;
            no_policy = refl;
          };
          blocks = refl;
        }

    -- those from one number on are made of what is left of the volumes
    made-each : (rest : List (VolKey × VolRow)) (k : SnapKey) → AllByRecursion (IsDueTarget m key p) rest → ((q : SnapKey) (row : SnapRow) → new_row m.clock key p k rest q ≡ Some row → new q ≡ Some row)
        → EachIsMade m m.clock key p (ran m key p) k (map (λ (e : VolKey × VolRow). e.0) rest) (map Snap (new_keys k rest))
    made-each [] k targets known = tt
    made-each (e ∷ rest) k targets known = (
      refl,
      run-of k e targets.0 (known k (run_row m.clock k key p e) (ap (λ (b : Bool). cond b (Some (run_row m.clock k key p e)) (new_row m.clock key p (following k) rest k)) (tied snaps_total k))),
      made-each rest (following k) targets.1 (λ q row n. known q row (behind q row n)),
    )
      where
        behind : (q : SnapKey) (row : SnapRow) → new_row m.clock key p (following k) rest q ≡ Some row → new_row m.clock key p k (e ∷ rest) q ≡ Some row
        behind q row n = by (eq_by_cmp snap_cmp q k) refl
          where
            by : (b : Bool) → eq_by_cmp snap_cmp q k ≡ b → cond b (Some (run_row m.clock k key p e)) (new_row m.clock key p (following k) rest q) ≡ Some row
            by true t =
                let above = (is_new m.clock key p (IsDueTarget m key p) (following k) rest targets.1 q row n).above in
                let same = ap (λ (k : SnapKey). k.number) (is_same exact_snaps q k t) in
                absurd (omega (arith, above, same))
            by false t = n

    pub each-is-made : EachIsMade m m.clock key p (ran m key p) first (run_volumes m key p) (map Snap (new_keys first volumes))
    each-is-made = made-each volumes first (due_targets-are m key p) (λ q row n. n)

  -- ---- the newest ones

  module _ (some : KeepsSome p.retain) (time : PassesTime p.retain now) (unbinned : (k : SnapKey) (s : Snapshot) → fin.get m.snaps k ≡ Some s → is_ahead s.row.bin_end now ≡ false → s.row.bin_end ≡ None)
      (volume : VolKey) (q : SnapKey) (was : Snapshot) (had : IsHad m key volume q was) where
    abbrev mine : Made
    mine = made_of now (q, was.row)

    abbrev later : Entry → Bool
    later x = is_same_volume was.row.volume x.1.volume && is_before mine (made_of now x)

    abbrev passes : Entry → Bool
    passes x = is_managed key now x && later x

    abbrev newer_ones : List Entry
    newer_ones = filter passes (fin.entries made.snaps)

    abbrev key_of : Entry → SnapKey
    key_of x = x.0

    many : newer (counted_of was.row) mine ≡ length (map key_of newer_ones)
    many =
        counted-list (filter (λ (x : Entry). is_same_volume was.row.volume x.1.volume) all)
        ∙ ap length (sym (filter-twice (λ (x : Entry). is_same_volume was.row.volume x.1.volume) (λ x. is_before mine (made_of now x)) all) ∙ sym (filter-twice (is_managed key now) later (fin.entries made.snaps)))
        ∙ sym (length-map newer_ones key_of)
      where
        counted-list : (es : List Entry) → count_by (is_before mine) (map (made_of now) es) ≡ length (filter (λ x. is_before mine (made_of now x)) es)
        counted-list [] = refl
        counted-list (x ∷ es) = sum_by-cons (λ k. cond (is_before mine k) 1 0) (made_of now x) (map (made_of now) es) ∙ by (is_before mine (made_of now x)) (counted-list es)
          where
            by : (b : Bool) → count_by (is_before mine) (map (made_of now) es) ≡ length (filter (λ x. is_before mine (made_of now x)) es)
                → cond b 1 0 + count_by (is_before mine) (map (made_of now) es) ≡ length (cond b (x ∷ filter (λ x. is_before mine (made_of now x)) es) (filter (λ x. is_before mine (made_of now x)) es))
            by true again = omega (arith, again)
            by false again = omega (arith, again)

    own-number : (x : Entry) → passes x ≡ true → key.account ≡ x.0.account
    own-number x t = same_number key.account x.0.account (both_hold (owns key.account x.0) _ (both_hold (is_managed key now x) _ t).0).0

    once : Ascend (map (λ (k : SnapKey). k.number) (map key_of newer_ones))
    once = ascend snap_cmp (λ k. k.number) passes (λ a b s t less. lower_number a.0.account b.0.account a.0.number b.0.number (sym (own-number a s) ∙ own-number b t) (holds _ less)) (fin.entries made.snaps) (fin.entries_sorted made.snaps)

    -- each of them was there, or is made and stays
    is-newer : (x : Entry) → Known m key p x → later x ≡ true → (t : Snapshot) × (IsHad m key volume x.0 t ⊎ IsHad (ran m key p) key volume x.0 t) × IsNewer q was x.0 t
    is-newer x known t = by (new x.0) refl
      where
        own : key.account ≡ x.0.account
        own = owner-is x known

        parts : (is_same_volume was.row.volume x.1.volume ≡ true) × (is_before mine (made_of now x) ≡ true)
        parts = both_hold _ _ t

        of : x.1.volume ≡ Some volume
        of = sym (same_volume was.row.volume x.1.volume parts.0) ∙ had.of

        policy : x.1.policy ≡ Some key
        policy = policy-is key x.1.policy (managed-parts x known).0

        out : is_ahead x.1.bin_end now ≡ false
        out = (managed-parts x known).1

        later-than : (was.row.start.second < x.1.start.second) ⊎ ((was.row.start.second ≡ x.1.start.second) × (q.number < x.0.number))
        later-than = newer-is mine (made_of now x) (sym had.owned ∙ own) parts.1

        by : (o : Option SnapRow) → new x.0 ≡ o → (t : Snapshot) × (IsHad m key volume x.0 t ⊎ IsHad (ran m key p) key volume x.0 t) × IsNewer q was x.0 t
        by None n =
            let s = old-is x.0 x.1 n (made-is x known) in (
              s.0,
              inl (record { is_there = s.1; owned = own; by_policy = ap (λ (r : SnapRow). r.policy) s.2 ∙ policy; of = ap (λ (r : SnapRow). r.volume) s.2 ∙ of; not_binned = unbinned x.0 s.0 s.1 (ap (λ (r : SnapRow). is_ahead r.bin_end now) s.2 ∙ out) }),
              subst (λ (r : SnapRow). (was.row.start.second < r.start.second) ⊎ ((was.row.start.second ≡ r.start.second) × (q.number < x.0.number))) (sym s.2) later-than,
            )
        by (Some other) n =
            let is : other ≡ x.1 = some_is other x.1 (sym (ap (λ (o : Option SnapRow). or_else o (fin.get (snap_rows m.snaps) x.0)) n) ∙ made-is x known) in
            let f = n ∙ ap Some is in (
              record { row = x.1; array = disk_of m (one x.0 x.1 f).of.0 },
              inr (record { is_there = new-stays x.0 x.1 f some time; owned = own; by_policy = policy; of = of; not_binned = ap (λ (r : SnapRow). r.bin_end) (new-is x.0 x.1 f).row_is }),
              later-than,
            )

    pub has-newer : (n : ℕ) → n ≤ newer (counted_of was.row) mine → HasNewer m (ran m key p) key volume q was n
    has-newer n le = record {
      newer = map key_of newer_ones;
      many = let same = many in omega (arith, le, same);
      once = once;
      each = λ k there.
          let x = element (λ (x : Entry). Known m key p x × (later x ≡ true)) key_of newer_ones k all-newer there in
          subst (λ (k : SnapKey). (t : Snapshot) × (IsHad m key volume k t ⊎ IsHad (ran m key p) key volume k t) × IsNewer q was k t) x.key_is (is-newer x.one x.known.0 x.known.1);
    }
      where
        all-newer : AllByRecursion (λ (x : Entry). Known m key p x × (later x ≡ true)) newer_ones
        all-newer =
            subst (AllByRecursion (λ (x : Entry). Known m key p x × (later x ≡ true))) (sym (filter-twice (is_managed key now) later (fin.entries made.snaps)))
            (each_passed later (Known m key p) all (all_known m key p))
