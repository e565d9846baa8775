-- After a run at most so many snapshots of a volume are left.
use Rattle.std.proofs.Common.{◌≡◌, ℕ, ◌+◌, ◌≤◌, arith, T, Ordering, Less, Equal, Greater, Bool, true, false, cond, not, ◌&&◌, List, [], ◌∷◌, map, Option, Some, None, refl, sym, ap, subst, ◌∙◌}
use Rattle.std.proofs.lemmas.Bool.{false≢true}
use Rattle.std.proofs.lemmas.List.Sums.{sum_by-cons}
use Rattle.std.specs.Prelude.{is_some}
use Rattle.std.specs.List.{AllByRecursion, filter, count_by}
use Rattle.std.specs.Option.{option_map}
use Rattle.std.specs.Ordering.{is_lt, is_eq, eq_by_cmp}
use Rattle.std.specs.FinMap as fin
use Rattle.std.specs.FinMap.Entries.{is_sorted, below_all}
use Rattle.ebs_tables.proofs.MapEdits.{tied}
use Rattle.ebs_model.specs.declared.keys.SnapKey.{SnapKey}
use Rattle.ebs_model.specs.declared.keys.VolKey.{VolKey}
use Rattle.ebs_model.specs.declared.keys.PolicyKey.{PolicyKey}
use Rattle.ebs_model.specs.declared.policy.Policy.{Policy}
use Rattle.ebs_model.specs.declared.policy.Made.{Made}
use Rattle.ebs_model.specs.declared.policy.Retain.TheVariants.{Count}
use Rattle.ebs_model.specs.declared.rows.SnapRow.{SnapRow}
use Rattle.ebs_model.specs.declared.request.Request.TheVariants.{RunPolicy}
use Rattle.ebs_model.specs.declared.answer.Answer.TheVariants.{PolicyRan}
use Rattle.ebs_model.specs.Keys.{snap_cmp}
use Rattle.ebs_model.specs.inner.Orders.{snaps_total, exact_snaps}
use Rattle.ebs_model.specs.Time.{is_ahead}
use Rattle.ebs_model.specs.Access.{owns}
use Rattle.ebs_model.specs.Rows.{Rows, is_key}
use Rattle.ebs_model.specs.Machine.{Machine, advance, rows_of}
use Rattle.ebs_model.specs.Retention.{is_picked, is_ended}
use Rattle.ebs_model.specs.Policies.{is_policy, is_managed, managed, made_of, is_same_volume, of_volume}
use Rattle.ebs_model.specs.Calls.Run.{due_targets, made_rows, run_rows, run_released, run_ended, freed}
use Rattle.ebs_model.specs.Step.{source_array}
use Rattle.ebs_model.proofs.RowLaws.{rows-with, is_key-other}
use Rattle.ebs_model.proofs.RunLaws.{among, with_made, get-new, binned_by, left_of, get-run}
use Rattle.ebs_model.specs.Calls.Delete.{days_in_bin}
use Rattle.ebs_model.proofs.VolumeGroups.{same_volume}
use Rattle.ebs_lifecycle.specs.RetentionLaws.{AreDistinct}
use Rattle.ebs_lifecycle.proofs.AtMost.{at_most}
use Rattle.ebs_laws.specs.Words.{second_of, moment_at}
use Rattle.ebs_laws.specs.PolicyLaws.{is_loose, AtMostAreLeft}
use Rattle.ebs_laws.proofs.Cases.{step-cases}
use Rattle.ebs_laws.proofs.PolicyRuns.{some_is, none_some, both_hold, each, each_found}
use Rattle.ebs_laws.proofs.SameLists.{own-lists, filter-twice}
use Rattle.ebs_laws.proofs.Whole.{ran_source, ran}

abbrev Entry : Type 0
Entry = SnapKey × SnapRow

-- ---- counts

counts : {K : Type 0} (p : K → Bool) (a : K) (rest : List K) (b : Bool) → p a ≡ b → count_by p (a ∷ rest) ≡ cond b 1 0 + count_by p rest
counts p a rest b t = sum_by-cons (λ k. cond (p k) 1 0) a rest ∙ ap (λ b. cond b 1 0 + count_by p rest) t

-- what is counted of fewer is no more, where each that counts there counts here
module _ (f : Entry → Made) (one two : Made → Bool) (F A : Entry → Bool) where
  abbrev Counts : Entry → Type 0
  Counts e = F e ≡ true → one (f e) ≡ true → (A e ≡ true) × (two (f e) ≡ true)

  no_more : (es : List Entry) → AllByRecursion Counts es → count_by one (map f (filter F es)) ≤ count_by two (map f (filter A es))
  no_more [] h = omega arith
  no_more (e ∷ es) h = by (F e) (A e) (one (f e)) (two (f e)) refl refl refl refl h.0 (no_more es h.1)
    where
      few : List Made
      few = map f (filter F es)

      all : List Made
      all = map f (filter A es)

      bits : (l t : Bool) → (l ≡ true → t ≡ true) → cond l 1 0 ≤ cond t 1 0
      bits true true g = omega arith
      bits true false g = absurd (false≢true (g refl))
      bits false true g = omega arith
      bits false false g = omega arith

      by : (b c l t : Bool) → F e ≡ b → A e ≡ c → one (f e) ≡ l → two (f e) ≡ t → Counts e → count_by one few ≤ count_by two all → count_by one (map f (cond b (e ∷ filter F es) (filter F es))) ≤ count_by two (map f (cond c (e ∷ filter A es) (filter A es)))
      by true true l t u v w x g le =
          let i = counts one (f e) few l w in
          let j = counts two (f e) all t x in
          let k = bits l t (λ s. sym x ∙ (g u (w ∙ s)).1) in
          omega (arith, i, j, k, le)
      by true false true t u v w x g le = absurd (false≢true (sym v ∙ (g u w).0))
      by true false false t u v w x g le = let i = counts one (f e) few false w in omega (arith, i, le)
      by false true l t u v w x g le = let j = counts two (f e) all t x in omega (arith, j, le)
      by false false l t u v w x g le = le

-- ---- lists of entries

two_parts : (a b : Bool) → T (a && b) → T a × T b
two_parts true true h = (tt, tt)
two_parts true false h = absurd h
two_parts false b h = absurd h

not_both : (r : Ordering) → T (is_lt r) → is_eq r ≡ true → ⊥
not_both Less h e = false≢true e
not_both Equal h e = h
not_both Greater h e = h

later_key : (x y : SnapKey) → T (is_lt (snap_cmp x y)) → is_key x y ≡ false
later_key x y h = is_key-other x y (λ same. not_both (snap_cmp x y) h (ap (λ (k : SnapKey). eq_by_cmp snap_cmp x k) (sym same) ∙ tied snaps_total x))

module _ (now : ℕ) (A : Entry → Bool) where
  none_again : (x : SnapKey) (es : List Entry) → T (below_all snap_cmp x es) → count_by (λ (other : Made). is_key x other.key) (map (made_of now) (filter A es)) ≡ 0
  none_again x [] h = refl
  none_again x (e ∷ es) h = by (A e) (none_again x es (two_parts _ _ h).1)
    where
      by : (b : Bool) → count_by (λ (other : Made). is_key x other.key) (map (made_of now) (filter A es)) ≡ 0 → count_by (λ (other : Made). is_key x other.key) (map (made_of now) (cond b (e ∷ filter A es) (filter A es))) ≡ 0
      by true again = let i = counts (λ (other : Made). is_key x other.key) (made_of now e) (map (made_of now) (filter A es)) false (later_key x e.0 (two_parts _ _ h).0) in omega (arith, i, again)
      by false again = again

  are_distinct : (es : List Entry) → T (is_sorted snap_cmp es) → AreDistinct (map (made_of now) (filter A es))
  are_distinct [] h = tt
  are_distinct (e ∷ es) h = by (A e) (are_distinct es (two_parts _ _ h).1)
    where
      by : (b : Bool) → AreDistinct (map (made_of now) (filter A es)) → AreDistinct (map (made_of now) (cond b (e ∷ filter A es) (filter A es)))
      by true again = (none_again e.0 es (two_parts _ _ h).0, again)
      by false again = again

-- each that passes has its key among those that pass
each_among : (P : Entry → Bool) (es : List Entry) → AllByRecursion (λ e. P e ≡ true → among e.0 (map (λ e. e.0) (filter P es)) ≡ true) es
each_among P [] = tt
each_among P (e ∷ es) = (
  λ t. ap (λ (b : Bool). among e.0 (map (λ e. e.0) (cond b (e ∷ filter P es) (filter P es)))) t ∙ ap (λ (b : Bool). cond b true (among e.0 (map (λ e. e.0) (filter P es)))) (tied snaps_total e.0),
  each (λ (x : Entry). P x ≡ true → among x.0 (map (λ e. e.0) (filter P es)) ≡ true) (λ (x : Entry). P x ≡ true → among x.0 (map (λ e. e.0) (filter P (e ∷ es))) ≡ true) es (λ x h t. more x.0 (P e) (h t)) (each_among P es),
)
  where
    more : (q : SnapKey) (b : Bool) → among q (map (λ e. e.0) (filter P es)) ≡ true → among q (map (λ e. e.0) (cond b (e ∷ filter P es) (filter P es))) ≡ true
    more q true h = first (eq_by_cmp snap_cmp q e.0)
      where
        first : (c : Bool) → cond c true (among q (map (λ e. e.0) (filter P es))) ≡ true
        first true = refl
        first false = h
    more q false h = h

-- a test that drops what another one keeps out
dropped : (O K V : Entry → Bool) (es : List Entry) → AllByRecursion (λ e. O e ≡ true → K e ≡ false → V e ≡ false) es → filter V (filter O es) ≡ filter V (filter (λ e. O e && K e) es)
dropped O K V [] h = refl
dropped O K V (e ∷ es) h = by (O e) (K e) refl refl h.0 (dropped O K V es h.1)
  where
    by : (o k : Bool) → O e ≡ o → K e ≡ k → (O e ≡ true → K e ≡ false → V e ≡ false) → filter V (filter O es) ≡ filter V (filter (λ e. O e && K e) es)
        → filter V (cond o (e ∷ filter O es) (filter O es)) ≡ filter V (cond (o && k) (e ∷ filter (λ e. O e && K e) es) (filter (λ e. O e && K e) es))
    by true true t u g again = ap (λ (rest : List Entry). cond (V e) (e ∷ rest) rest) again
    by true false t u g again = ap (λ (b : Bool). cond b (e ∷ filter V (filter O es)) (filter V (filter O es))) (g t u) ∙ again
    by false k t u g again = again

-- ---- a run under a count

module _ (m : Machine) (key : PolicyKey) (p : Policy) (n : ℕ) (count : p.retain ≡ Count n) (volume : Option VolKey) where
  abbrev now : ℕ
  now = m.clock.second

  abbrev made : Rows
  made = made_rows (rows_of m) m.clock key p

  abbrev gone : List SnapKey
  gone = run_ended (rows_of m) m.clock key p

  abbrev free : List SnapKey
  free = run_released (rows_of m) m.clock key p

  abbrev last : Rows
  last = run_rows (rows_of m) m.clock key p

  abbrev keep : SnapKey → Bool
  keep q = not (among q gone) && not (among q free)

  abbrev own : Entry → Bool
  own e = owns key.account e.0

  abbrev rest : Entry → Bool
  rest e = is_policy key e.1.policy && (is_some e.1.volume && not (is_ahead e.1.bin_end now))

  abbrev here : Entry → Bool
  here e = is_same_volume volume e.1.volume

  abbrev counted_all : List Made
  counted_all = of_volume now volume (managed made key now)

  -- what isn't given up is as it was made
  as_made : (q : SnapKey) → keep q ≡ true → fin.get last.snaps q ≡ fin.get made.snaps q
  as_made q t = get-run (rows_of m) m.clock key p q ∙ by (among q gone) (among q free) t ∙ sym (get-new (rows_of m) m.clock key p (due_targets (rows_of m) key p now) q)
    where
      w : Option SnapRow
      w = with_made (rows_of m) m.clock key p q

      by : (a b : Bool) → (not a && not b) ≡ true → cond a (left_of (rows_of m) m.clock q (option_map freed w)) (cond b (option_map freed w) w) ≡ w
      by true b e = absurd (false≢true e)
      by false true e = absurd (false≢true e)
      by false false e = refl

  -- what is given up has no policy
  no_policy : (q : SnapKey) (row : SnapRow) → keep q ≡ false → fin.get last.snaps q ≡ Some row → row.policy ≡ None
  no_policy q row t e = by (among q gone) (among q free) (with_made (rows_of m) m.clock key p q) t (sym (get-run (rows_of m) m.clock key p q) ∙ e)
    where
      off : (r : SnapRow) (d : Option ℕ) → binned_by m.clock (freed r) d ≡ Some row → row.policy ≡ None
      off r None e = absurd (none_some e)
      off r (Some days) e = ap (λ (r : SnapRow). r.policy) (sym (some_is _ row e))

      by : (a b : Bool) (w : Option SnapRow) → (not a && not b) ≡ false → cond a (left_of (rows_of m) m.clock q (option_map freed w)) (cond b (option_map freed w) w) ≡ Some row → row.policy ≡ None
      by true b None t e = absurd (none_some e)
      by true b (Some r) t e = off r (days_in_bin (rows_of m) q (freed r)) e
      by false true None t e = absurd (none_some e)
      by false true (Some r) t e = ap (λ (r : SnapRow). r.policy) (sym (some_is _ row e))
      by false false w t e = absurd (false≢true (sym t))

  given_up : AllByRecursion (λ e. own e ≡ true → keep e.0 ≡ false → rest e ≡ false) (fin.entries last.snaps)
  given_up = each (λ (e : Entry). fin.get last.snaps e.0 ≡ Some e.1) (λ e. own e ≡ true → keep e.0 ≡ false → rest e ≡ false) (fin.entries last.snaps)
      (λ e there mine t. ap (λ (o : Option PolicyKey). is_policy key o && (is_some e.1.volume && not (is_ahead e.1.bin_end now))) (no_policy e.0 e.1 t there))
      (each_found snaps_total last.snaps)

  -- what is managed afterwards was managed before, and isn't given up
  left_over : managed (rows_of (ran m key p)) key now ≡ filter rest (filter (λ e. own e && keep e.0) (fin.entries made.snaps))
  left_over =
      ap (λ (snaps : fin.FinMap snap_cmp SnapRow). filter (is_managed key now) (fin.entries snaps)) (rows-with last.snaps (λ q. source_array m (ran_source m key p q) q))
      ∙ filter-twice own rest (fin.entries last.snaps)
      ∙ dropped own (λ e. keep e.0) rest (fin.entries last.snaps) given_up
      ∙ ap (filter rest) (own-lists snaps_total exact_snaps (λ q. owns key.account q && keep q) made.snaps last.snaps (λ q t. as_made q (both_hold _ _ t).1))

  abbrev passes : Entry → Bool
  passes e = own e && (rest e && here e)

  abbrev stays_on : Entry → Bool
  stays_on e = (own e && keep e.0) && (rest e && here e)

  in_both : (P : Entry → Bool) (es : List Entry) → filter here (filter rest (filter P es)) ≡ filter (λ e. P e && (rest e && here e)) es
  in_both P es = sym (filter-twice rest here (filter P es)) ∙ sym (filter-twice P (λ e. rest e && here e) es)

  all_are : counted_all ≡ map (made_of now) (filter passes (fin.entries made.snaps))
  all_are = ap (λ (es : List Entry). map (made_of now) (filter here es)) (filter-twice own rest (fin.entries made.snaps)) ∙ ap (map (made_of now)) (in_both own (fin.entries made.snaps))

  left_are : of_volume now volume (managed (rows_of (ran m key p)) key now) ≡ map (made_of now) (filter stays_on (fin.entries made.snaps))
  left_are = ap (λ (es : List Entry). map (made_of now) (filter here es)) left_over ∙ ap (map (made_of now)) (in_both (λ e. own e && keep e.0) (fin.entries made.snaps))

  abbrev ends : Entry → Bool
  ends e = is_ended p.retain (of_volume now e.1.volume (managed made key now)) now (made_of now e)

  -- one that is left, without a lock and in the standard tier, isn't picked
  not_picked : (e : Entry) → ((is_managed key now e && ends e) ≡ true → among e.0 (map (λ e. e.0) (filter (λ e. is_managed key now e && ends e) (fin.entries made.snaps))) ≡ true)
      → stays_on e ≡ true → is_loose (made_of now e) ≡ true → (passes e ≡ true) × (not (is_picked (Count n) counted_all now (made_of now e)) ≡ true)
  not_picked e h on loose =
      let (mine, more) = both_hold (own e && keep e.0) (rest e && here e) on in
      let (is_own, kept) = both_hold (own e) (keep e.0) mine in
      let (is_rest, is_here) = both_hold (rest e) (here e) more in
      let stays = both_hold (not (among e.0 gone)) (not (among e.0 free)) kept in
      ((λ i. is_own i && (is_rest i && is_here i)), by (is_picked (Count n) counted_all now (made_of now e)) refl is_own is_rest is_here stays.0)
    where
      by : (b : Bool) → is_picked (Count n) counted_all now (made_of now e) ≡ b → own e ≡ true → rest e ≡ true → here e ≡ true → not (among e.0 gone) ≡ true → not b ≡ true
      by false t is_own is_rest is_here out = refl
      by true t is_own is_rest is_here out =
          let same : volume ≡ e.1.volume = same_volume volume e.1.volume is_here in
          let picked : is_picked p.retain (of_volume now e.1.volume (managed made key now)) now (made_of now e) ≡ true =
          (λ i. is_picked (count i) (of_volume now (sym same i) (managed made key now)) now (made_of now e)) ∙ t in
          let ended : ends e ≡ true = λ i. picked i && loose i in
          let listed = h (λ i. (is_own i && is_rest i) && ended i) in
          let same_list : among e.0 gone ≡ true = ap (λ (es : List Entry). among e.0 (map (λ e. e.0) es)) (sym (filter-twice (is_managed key now) ends (fin.entries made.snaps))) ∙ listed in
          absurd (false≢true (ap not (sym same_list) ∙ out))

  pub at_most_left : count_by is_loose (of_volume now volume (managed (rows_of (ran m key p)) key now)) ≤ n
  at_most_left =
      let es = fin.entries made.snaps in
      let sorted : T (is_sorted snap_cmp es) = fin.entries_sorted made.snaps in
      let distinct : AreDistinct counted_all = subst AreDistinct (sym all_are) (are_distinct now passes es sorted) in
      let few = at_most n counted_all now distinct in
      let unpicked : Made → Bool = λ one. not (is_picked (Count n) counted_all now one) in
      let fewer : count_by is_loose (map (made_of now) (filter stays_on es)) ≤ count_by unpicked (map (made_of now) (filter passes es)) =
      no_more (made_of now) is_loose unpicked stays_on passes es
      (each (λ (e : Entry). (is_managed key now e && ends e) ≡ true → among e.0 (map (λ e. e.0) (filter (λ e. is_managed key now e && ends e) es)) ≡ true)
      (Counts (made_of now) is_loose unpicked stays_on passes) es not_picked (each_among (λ e. is_managed key now e && ends e) es)) in
      let left = ap (count_by is_loose) left_are in
      let whole = ap (count_by unpicked) all_are in
      omega (arith, few, fewer, left, whole)

pub at-most-left : AtMostAreLeft
at-most-left m account reading key p n volume deleted made there count =
    let at = advance m (moment_at m reading) in
    step-cases (λ d. d.1 ≡ PolicyRan deleted made → count_by is_loose (of_volume (second_of m reading) volume (managed (rows_of d.0) key (second_of m reading))) ≤ n) m account reading (RunPolicy key)
    (λ own tests e. at_most_left at key own n (ap (λ (p : Policy). p.retain) (sym (some_is p own (sym there ∙ tests.found))) ∙ count) volume)
    (λ refusal e. cc)
