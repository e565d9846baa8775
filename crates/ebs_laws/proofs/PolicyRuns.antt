-- What a run of a policy leaves of each snapshot.
use Rattle.std.proofs.Common.{◌≡◌, ◌≢◌, Ordering, ℕ, ◌+◌, ◌≤◌, ◌<◌, arith, unwrap_or, Bool, true, false, cond, not, ◌&&◌, ◌==◌, List, [], ◌∷◌, map, length, Option, Some, None, refl, sym, ap, subst, ◌∙◌}
use Rattle.std.proofs.lemmas.Bool.{false≢true}
use Rattle.std.proofs.lemmas.Map.Keys.{IsDistinct-from_sorted}
use Rattle.std.proofs.lemmas.Map.Views.{lookup-from_Contains}
use Rattle.std.proofs.lemmas.List.Elements.{All-contains_itself, recursion_from_All}
use Rattle.std.specs.Prelude.{is_some}
use Rattle.std.specs.List.{Contains, AllByRecursion, filter}
use Rattle.std.specs.Map.{keys_of}
use Rattle.std.specs.Option.{option_map}
use Rattle.std.specs.Ordering.{nat_cmp, eq_by_cmp}
use Rattle.std.specs.Cmp.{IsTotalOrder, nat_cmp_total, eq_by_cmp_equiv}
use Rattle.std.specs.FinMap as fin
use Rattle.std.specs.FinMap.{nat_cmp-IsAntisymmetric}
use Rattle.ebs_tables.proofs.TreeMaps.{get-lookup, entries-sorted}
use Rattle.ebs_tables.proofs.MapEdits.{is_same, tied}
use Rattle.ebs_model.specs.declared.keys.SnapKey.{SnapKey}
use Rattle.ebs_model.specs.declared.keys.VolKey.{VolKey}
use Rattle.ebs_model.specs.declared.keys.PolicyKey.{PolicyKey}
use Rattle.ebs_model.specs.declared.keys.Moment.{Moment}
use Rattle.ebs_model.specs.declared.policy.Policy.{Policy}
use Rattle.ebs_model.specs.declared.rows.SnapRow.{SnapRow}
use Rattle.ebs_model.specs.declared.rows.VolRow.{VolRow}
use Rattle.ebs_model.specs.declared.rows.Own.{Own}
use Rattle.ebs_model.specs.Keys.{snap_cmp}
use Rattle.ebs_model.specs.inner.Orders.{snaps_total, exact_snaps, vols_total}
use Rattle.ebs_model.specs.Arrays.{WholeArray}
use Rattle.ebs_model.specs.Time.{Snapshot, is_ahead}
use Rattle.ebs_model.specs.Views.{lock_until}
use Rattle.ebs_model.specs.Rows as model_rows
use Rattle.ebs_model.specs.Rows.{Rows, no_own, is_key}
use Rattle.ebs_model.specs.Machine.{Machine, rows_of, snap_rows, array_at, disk_of}
use Rattle.ebs_model.specs.Policies.{is_due, is_target, targets, is_policy, is_managed, managed, is_archived, made_of, of_volume}
use Rattle.ebs_model.specs.Retention.{is_picked, is_ended, is_released}
use Rattle.ebs_model.specs.Calls.Start.{next_key, with_upload}
use Rattle.ebs_model.specs.Calls.Delete.{days_in_bin}
use Rattle.ebs_model.specs.Calls.Run.{due_targets, following, source_of, run_row, with_new, made_rows, run_released, run_ended, freed}
use Rattle.ebs_model.specs.Step.{source_array}
use Rattle.ebs_model.proofs.RowLaws.{row_in, with_array, get-row, get-with, key_itself, is_key-other}
use Rattle.ebs_model.proofs.RunLaws.{among, new_row, or_else, with_made, get-new, binned_by, left_of, run_left, get-run}
use Rattle.ebs_laws.proofs.Maps.{get-itself, get-other}
use Rattle.ebs_laws.proofs.Readers.{same_number}
use Rattle.ebs_laws.proofs.Whole.{own_of, rewritten, binned_row, ran_source, ran}

pub both_hold : (a b : Bool) → (a && b) ≡ true → (a ≡ true) × (b ≡ true)
both_hold true true e = (refl, refl)
both_hold true false e = absurd (false≢true e)
both_hold false b e = absurd (false≢true e)

pub turned_off : (b : Bool) → not b ≡ true → b ≡ false
turned_off true e = absurd (false≢true e)
turned_off false e = refl

pub none_some : {A : Type 0} {x : A} → ◌≡◌ {A = Option A} None (Some x) → ⊥
none_some e = cc

pub some_is : {A : Type 0} (x y : A) → ◌≡◌ {A = Option A} (Some x) (Some y) → x ≡ y
some_is x y e = cc

-- ---- lists

pub each : {X : Type 0} (P Q : X → Type 0) (xs : List X) → ((x : X) → P x → Q x) → AllByRecursion P xs → AllByRecursion Q xs
each P Q [] f h = tt
each P Q (x ∷ xs) f h = (f x h.0, each P Q xs f h.1)

-- each entry is found at its key
pub each_found : {K X : Type 0} {R : K → K → Ordering} (o : IsTotalOrder R) (m : fin.FinMap R X) → AllByRecursion (λ (e : K × X). fin.get m e.0 ≡ Some e.1) (fin.entries m)
each_found {K = K} {X = X} {R = R} o m =
    each (Contains (fin.entries m)) (λ (e : K × X). fin.get m e.0 ≡ Some e.1) (fin.entries m)
    (λ e there. get-lookup R m e.0 ∙ lookup-from_Contains (eq_by_cmp_equiv o) e.0 e.1 (fin.entries m) (IsDistinct-from_sorted R (keys_of (fin.entries m)) (entries-sorted R m)) there)
    (recursion_from_All (Contains (fin.entries m)) (fin.entries m) (All-contains_itself (fin.entries m)))

-- those that pass a test pass it
pub each_passed : {X : Type 0} (test : X → Bool) (Q : X → Type 0) (xs : List X) → AllByRecursion Q xs → AllByRecursion (λ x. Q x × (test x ≡ true)) (filter test xs)
each_passed test Q [] h = tt
each_passed test Q (x ∷ xs) h = by (test x) refl (each_passed test Q xs h.1)
  where
    by : (b : Bool) → test x ≡ b → AllByRecursion (λ x. Q x × (test x ≡ true)) (filter test xs) → AllByRecursion (λ x. Q x × (test x ≡ true)) (cond b (x ∷ filter test xs) (filter test xs))
    by true t again = ((h.0, t), again)
    by false t again = again

-- a key among those of the rows that pass a test
pub record IsPicked (q : SnapKey) (test : SnapKey × SnapRow → Bool) (Q : SnapKey × SnapRow → Type 0) : Type 0 where
  pub row : SnapRow
  pub known : Q (q, row)
  pub passes : test (q, row) ≡ true

pub picked : (q : SnapKey) (test : SnapKey × SnapRow → Bool) (Q : SnapKey × SnapRow → Type 0) (es : List (SnapKey × SnapRow)) → AllByRecursion Q es → among q (map (λ e. e.0) (filter test es)) ≡ true → IsPicked q test Q
picked q test Q [] h t = absurd (false≢true t)
picked q test Q (e ∷ es) h t = by (test e) refl (picked q test Q es h.1) t
  where
    there : test e ≡ true → eq_by_cmp snap_cmp q e.0 ≡ true → IsPicked q test Q
    there u k =
        let is : e ≡ (q, e.1) = λ i. (sym (is_same exact_snaps q e.0 k) i, e.1) in
        record { row = e.1; known = subst Q is h.0; passes = ap test (sym is) ∙ u }

    at : test e ≡ true → (b : Bool) → eq_by_cmp snap_cmp q e.0 ≡ b → (among q (map (λ e. e.0) (filter test es)) ≡ true → IsPicked q test Q) → cond b true (among q (map (λ e. e.0) (filter test es))) ≡ true → IsPicked q test Q
    at u true k again t = there u k
    at u false k again t = again t

    by : (b : Bool) → test e ≡ b → (among q (map (λ e. e.0) (filter test es)) ≡ true → IsPicked q test Q) → among q (map (λ e. e.0) (cond b (e ∷ filter test es) (filter test es))) ≡ true → IsPicked q test Q
    by true u again t = at u (eq_by_cmp snap_cmp q e.0) refl again t
    by false u again t = again t

-- ---- what is made

-- a row that is made of one of these volumes
pub record IsNew (at : Moment) (key : PolicyKey) (p : Policy) (Q : VolKey × VolRow → Type 0) (first : SnapKey) (volumes : List (VolKey × VolRow)) (q : SnapKey) (row : SnapRow) : Type 0 where
  pub of : VolKey × VolRow
  pub known : Q of
  pub row_is : row ≡ run_row at q key p of
  pub source : source_of first volumes q ≡ Some of.0
  pub owner : q.account ≡ first.account
  pub above : first.number ≤ q.number
  pub below : q.number < first.number + length volumes

pub apart : (q first : SnapKey) → eq_by_cmp snap_cmp q first ≡ false → is_key q first ≡ false
apart q first t = is_key-other q first (λ same. false≢true (sym t ∙ ap (λ k. eq_by_cmp snap_cmp k first) same ∙ tied snaps_total first))

pub is_new : (at : Moment) (key : PolicyKey) (p : Policy) (Q : VolKey × VolRow → Type 0) (first : SnapKey) (volumes : List (VolKey × VolRow)) → AllByRecursion Q volumes
    → (q : SnapKey) (row : SnapRow) → new_row at key p first volumes q ≡ Some row → IsNew at key p Q first volumes q row
is_new at key p Q first [] h q row e = absurd (none_some e)
is_new at key p Q first (v ∷ volumes) h q row e = by (eq_by_cmp snap_cmp q first) refl (is_new at key p Q (following first) volumes h.1 q row) e
  where
    next : SnapKey
    next = following first

    by : (b : Bool) → eq_by_cmp snap_cmp q first ≡ b → (new_row at key p next volumes q ≡ Some row → IsNew at key p Q next volumes q row)
        → cond b (Some (run_row at first key p v)) (new_row at key p next volumes q) ≡ Some row → IsNew at key p Q first (v ∷ volumes) q row
    by true t again e =
        let same : q ≡ first = is_same exact_snaps q first t in
        let number : q.number ≡ first.number = ap (λ (k : SnapKey). k.number) same in
        record {
          of = v;
          known = h.0;
          row_is = sym (some_is _ _ e) ∙ ap (λ (k : SnapKey). run_row at k key p v) (sym same);
          source = ap (λ (b : Bool). cond b (Some v.0) (source_of next volumes q)) (ap (is_key q) (sym same) ∙ key_itself q);
          owner = ap (λ (k : SnapKey). k.account) same;
          above = omega (arith, number);
          below = omega (arith, number);
        }
    by false t again e =
        let new = again e in
        let above = new.above in
        let below = new.below in
        record {
          of = new.of;
          known = new.known;
          row_is = new.row_is;
          source = ap (λ (b : Bool). cond b (Some v.0) (source_of next volumes q)) (apart q first t) ∙ new.source;
          owner = new.owner;
          above = omega (arith, above);
          below = omega (arith, below);
        }

pub not_new : (at : Moment) (key : PolicyKey) (p : Policy) (first : SnapKey) (volumes : List (VolKey × VolRow)) (q : SnapKey) → new_row at key p first volumes q ≡ None → source_of first volumes q ≡ None
not_new at key p first [] q e = refl
not_new at key p first (v ∷ volumes) q e = by (eq_by_cmp snap_cmp q first) refl (not_new at key p (following first) volumes q) e
  where
    by : (b : Bool) → eq_by_cmp snap_cmp q first ≡ b → (new_row at key p (following first) volumes q ≡ None → source_of (following first) volumes q ≡ None)
        → cond b (Some (run_row at first key p v)) (new_row at key p (following first) volumes q) ≡ None → source_of first (v ∷ volumes) q ≡ None
    by true t again e = absurd (none_some (sym e))
    by false t again e = ap (λ (b : Bool). cond b (Some v.0) (source_of (following first) volumes q)) (apart q first t) ∙ again e

module _ (m : Machine) (key : PolicyKey) (p : Policy) where
  abbrev pub now : ℕ
  now = m.clock.second

  abbrev pub first : SnapKey
  first = next_key (rows_of m) key.account

  abbrev pub due_volumes : List (VolKey × VolRow)
  due_volumes = due_targets (rows_of m) key p now

  -- a volume of the account's own that has a target tag, where a due moment has come
  pub record IsDueTarget (e : VolKey × VolRow) : Type 0 where
    pub there : fin.get m.vols e.0 ≡ Some e.1
    pub mine : key.account ≡ e.0.account
    pub tagged : is_target p e.1 ≡ true
    pub due : is_due p p.last.second now ≡ true

  pub due_targets-are : AllByRecursion IsDueTarget due_volumes
  due_targets-are = by (is_due p p.last.second now) refl
    where
      by : (b : Bool) → is_due p p.last.second now ≡ b → AllByRecursion IsDueTarget (cond b (targets (rows_of m) key.account p) [])
      by true t =
          each (λ (e : VolKey × VolRow). (fin.get m.vols e.0 ≡ Some e.1) × (((key.account == e.0.account) && is_target p e.1) ≡ true)) IsDueTarget (targets (rows_of m) key.account p)
          (λ e is. let (own, tagged) = both_hold _ _ is.1 in record { there = is.0; mine = same_number key.account e.0.account own; tagged = tagged; due = t })
          (each_passed (λ (e : VolKey × VolRow). (key.account == e.0.account) && is_target p e.1) (λ e. fin.get m.vols e.0 ≡ Some e.1) (fin.entries m.vols) (each_found vols_total m.vols))
      by false t = tt

  -- a snapshot that the run makes of one of them
  pub record IsBegun (q : SnapKey) (s : Snapshot) : Type 0 where
    pub of : VolKey × VolRow
    pub target : IsDueTarget of
    pub row_is : s.row ≡ run_row m.clock q key p of
    pub array_is : s.array ≡ disk_of m of.0
    pub owner : key.account ≡ q.account
    pub above : (own_of m key.account).next_snap ≤ q.number
    pub below : q.number < (own_of m key.account).next_snap + length due_volumes

  -- a snapshot that was there, or that the run makes
  pub data IsCounted (q : SnapKey) (s : Snapshot) : Type 0 where
    standing : fin.get m.snaps q ≡ Some s → IsCounted q s
    begun : IsBegun q s → IsCounted q s

  abbrev pub array : SnapKey → WholeArray
  array q = source_array m (ran_source m key p q) q

  pub whole : (o : Option Snapshot) → option_map (with_array (array_at o)) (row_in o) ≡ o
  whole None = refl
  whole (Some s) = refl

  pub counted : (q : SnapKey) (row : SnapRow) → with_made (rows_of m) m.clock key p q ≡ Some row → IsCounted q (with_array (array q) row)
  counted q row e = by (new_row m.clock key p first due_volumes q) refl e
    where
      by : (o : Option SnapRow) → new_row m.clock key p first due_volumes q ≡ o → or_else o (fin.get (snap_rows m.snaps) q) ≡ Some row → IsCounted q (with_array (array q) row)
      by None n e = standing (
          sym (whole (fin.get m.snaps q)) ∙ ap (option_map (with_array (array_at (fin.get m.snaps q)))) (sym (get-row m.snaps q) ∙ e)
          ∙ ap (λ (o : Option VolKey). Some (with_array (source_array m o q) row)) (sym (not_new m.clock key p first due_volumes q n))
          )
      by (Some new) n e =
          let same : new ≡ row = some_is new row e in
          let is = is_new m.clock key p IsDueTarget first due_volumes due_targets-are q new n in
          let above = is.above in
          let below = is.below in
          begun (record {
            of = is.of;
            target = is.known;
            row_is = sym same ∙ is.row_is;
            array_is = ap (λ (o : Option VolKey). source_array m o q) is.source;
            owner = sym is.owner;
            above = above;
            below = below;
          })

  -- ---- what is given up

  -- a snapshot of the policy, of a volume and outside the bin, that its retention rule picks
  pub record IsGivenUp (q : SnapKey) (row : SnapRow) : Type 0 where
    pub owned : key.account ≡ q.account
    pub of_policy : is_policy key row.policy ≡ true
    pub has_volume : is_some row.volume ≡ true
    pub not_binned : is_ahead row.bin_end now ≡ false
    pub is_picked : is_picked p.retain (of_volume now row.volume (managed (made_rows (rows_of m) m.clock key p) key now)) now (made_of now (q, row)) ≡ true

  abbrev pub Known : SnapKey × SnapRow → Type 0
  Known e = (fin.get (made_rows (rows_of m) m.clock key p).snaps e.0 ≡ Some e.1) × (is_managed key now e ≡ true)

  pub all_known : AllByRecursion Known (managed (made_rows (rows_of m) m.clock key p) key now)
  all_known =
      let snaps = (made_rows (rows_of m) m.clock key p).snaps in
      each_passed (is_managed key now) (λ e. fin.get snaps e.0 ≡ Some e.1) (fin.entries snaps) (each_found snaps_total snaps)

  given_up : (q : SnapKey) (row : SnapRow) → is_managed key now (q, row) ≡ true
      → is_picked p.retain (of_volume now row.volume (managed (made_rows (rows_of m) m.clock key p) key now)) now (made_of now (q, row)) ≡ true → IsGivenUp q row
  given_up q row e picked =
      let (own, rest) = both_hold _ _ e in
      let (of, more) = both_hold _ _ rest in
      let (volume, out) = both_hold _ _ more in
      record { owned = same_number key.account q.account own; of_policy = of; has_volume = volume; not_binned = turned_off _ out; is_picked = picked }

  -- the row that a key among the given ones has
  pub row_there : (q : SnapKey) (row other : SnapRow) → with_made (rows_of m) m.clock key p q ≡ Some row → fin.get (made_rows (rows_of m) m.clock key p).snaps q ≡ Some other → other ≡ row
  row_there q row other e there = some_is other row (sym there ∙ get-new (rows_of m) m.clock key p due_volumes q ∙ e)

  -- one that is released is under a lock that lasts, and one that ends has none and stands in the standard tier
  pub released-is : (q : SnapKey) (row : SnapRow) → with_made (rows_of m) m.clock key p q ≡ Some row → among q (run_released (rows_of m) m.clock key p) ≡ true → IsGivenUp q row × (is_ahead (lock_until row.lock) now ≡ true)
  released-is q row e t =
      let snaps = managed (made_rows (rows_of m) m.clock key p) key now in
      let one = picked q (λ e. is_released p.retain (of_volume now e.1.volume snaps) now (made_of now e)) Known snaps all_known t in
      let (pick, locked) = both_hold _ _ one.passes in
      subst (λ (row : SnapRow). IsGivenUp q row × (is_ahead (lock_until row.lock) now ≡ true)) (row_there q row one.row e one.known.0) (given_up q one.row one.known.1 pick, locked)

  abbrev pub Ends : SnapKey → SnapRow → Type 0
  Ends q row = IsGivenUp q row × ((is_ahead (lock_until row.lock) now ≡ false) × (is_archived row.tier ≡ false))

  pub ended-is : (q : SnapKey) (row : SnapRow) → with_made (rows_of m) m.clock key p q ≡ Some row → among q (run_ended (rows_of m) m.clock key p) ≡ true → Ends q row
  ended-is q row e t =
      let snaps = managed (made_rows (rows_of m) m.clock key p) key now in
      let one = picked q (λ e. is_ended p.retain (of_volume now e.1.volume snaps) now (made_of now e)) Known snaps all_known t in
      let (pick, rest) = both_hold _ _ one.passes in
      let (free, standard) = both_hold _ _ rest in
      subst (Ends q) (row_there q row one.row e one.known.0) (given_up q one.row one.known.1 pick, (turned_off _ free, turned_off _ standard))

  -- what a run leaves of a snapshot: none where none was; it as it was, or without its policy, or in the bin, or nothing of it
  pub data RunLeaves (q : SnapKey) (new : Option Snapshot) : Type 0 where
    none_there : fin.get m.snaps q ≡ None → new ≡ None → RunLeaves q new
    stays : (s : Snapshot) → IsCounted q s → new ≡ Some s → RunLeaves q new
    frees : (s : Snapshot) → IsCounted q s → IsGivenUp q s.row → is_ahead (lock_until s.row.lock) now ≡ true → new ≡ Some (rewritten (freed s.row) s) → RunLeaves q new
    bins : (s : Snapshot) (days : ℕ) → IsCounted q s → IsGivenUp q s.row → is_ahead (lock_until s.row.lock) now ≡ false → is_archived s.row.tier ≡ false → days_in_bin (rows_of m) q (freed s.row) ≡ Some days
        → new ≡ Some (rewritten (binned_row m (freed s.row) days) s) → RunLeaves q new
    takes : (s : Snapshot) → IsCounted q s → IsGivenUp q s.row → is_ahead (lock_until s.row.lock) now ≡ false → is_archived s.row.tier ≡ false → days_in_bin (rows_of m) q (freed s.row) ≡ None → new ≡ None → RunLeaves q new

  pub run-leaves : (q : SnapKey) → RunLeaves q (fin.get (ran m key p).snaps q)
  run-leaves q = by (with_made (rows_of m) m.clock key p q) refl
    where
      got : fin.get (ran m key p).snaps q ≡ option_map (with_array (array q)) (run_left (rows_of m) m.clock key p q)
      got = get-with _ _ q ∙ ap (option_map (with_array (array q))) (get-run (rows_of m) m.clock key p q)

      over : Bool → Bool → Option SnapRow → Option Snapshot
      over gone free o = option_map (with_array (array q)) (cond gone (left_of (rows_of m) m.clock q (option_map freed o)) (cond free (option_map freed o) o))

      nothing : (gone free : Bool) → over gone free None ≡ None
      nothing true free = refl
      nothing false true = refl
      nothing false false = refl

      absent : with_made (rows_of m) m.clock key p q ≡ None → fin.get m.snaps q ≡ None
      absent e = at (new_row m.clock key p first due_volumes q) e
        where
          out : (o : Option Snapshot) → row_in o ≡ None → o ≡ None
          out None e = refl
          out (Some s) e = absurd (none_some (sym e))

          at : (o : Option SnapRow) → or_else o (fin.get (snap_rows m.snaps) q) ≡ None → fin.get m.snaps q ≡ None
          at None e = out (fin.get m.snaps q) (sym (get-row m.snaps q) ∙ e)
          at (Some row) e = absurd (none_some (sym e))

      ended : (row : SnapRow) → IsCounted q (with_array (array q) row) → Ends q row → (d : Option ℕ) → days_in_bin (rows_of m) q (freed row) ≡ d
          → fin.get (ran m key p).snaps q ≡ option_map (with_array (array q)) (binned_by m.clock (freed row) d) → RunLeaves q (fin.get (ran m key p).snaps q)
      ended row is ends None d e = takes (with_array (array q) row) is ends.0 ends.1.0 ends.1.1 d e
      ended row is ends (Some days) d e = bins (with_array (array q) row) days is ends.0 ends.1.0 ends.1.1 d e

      there : (row : SnapRow) → with_made (rows_of m) m.clock key p q ≡ Some row → (gone free : Bool) → among q (run_ended (rows_of m) m.clock key p) ≡ gone → among q (run_released (rows_of m) m.clock key p) ≡ free
          → fin.get (ran m key p).snaps q ≡ over gone free (Some row) → RunLeaves q (fin.get (ran m key p).snaps q)
      there row w true free t u e = ended row (counted q row w) (ended-is q row w t) (days_in_bin (rows_of m) q (freed row)) refl e
      there row w false true t u e = let is = released-is q row w u in frees (with_array (array q) row) (counted q row w) is.0 is.1 e
      there row w false false t u e = stays (with_array (array q) row) (counted q row w) e

      by : (o : Option SnapRow) → with_made (rows_of m) m.clock key p q ≡ o → RunLeaves q (fin.get (ran m key p).snaps q)
      by None w = none_there (absent w) (got ∙ ap (over (among q (run_ended (rows_of m) m.clock key p)) (among q (run_released (rows_of m) m.clock key p))) w ∙ nothing _ _)
      by (Some row) w = there row w _ _ refl refl (got ∙ ap (over (among q (run_ended (rows_of m) m.clock key p)) (among q (run_released (rows_of m) m.clock key p))) w)

  -- another's snapshot stays as it was
  pub run-other : (q : SnapKey) → key.account ≢ q.account → (new : Option Snapshot) → RunLeaves q new → new ≡ fin.get m.snaps q
  run-other q other new left = by left
    where
      known : (s : Snapshot) → IsCounted q s → Some s ≡ fin.get m.snaps q
      known s (standing is) = sym is
      known s (begun is) = absurd (other is.owner)

      by : RunLeaves q new → new ≡ fin.get m.snaps q
      by (none_there is e) = e ∙ sym is
      by (stays s c e) = e ∙ known s c
      by (frees s c g l e) = absurd (other g.owned)
      by (bins s days c g l t d e) = absurd (other g.owned)
      by (takes s c g l t d e) = absurd (other g.owned)

-- ---- the account's numbers

pub new-own-other : (rows : Rows) (at : Moment) (key : PolicyKey) (p : Policy) (other : ℕ) → other ≢ key.account → (volumes : List (VolKey × VolRow)) → fin.get (with_new rows at key p volumes).own other ≡ fin.get rows.own other
new-own-other rows at key p other h [] = refl
new-own-other rows at key p other h (e ∷ volumes) =
    new-own-other (with_upload rows (next_key rows key.account) (run_row at (next_key rows key.account) key p e)) at key p other h volumes
    ∙ get-other nat_cmp_total nat_cmp-IsAntisymmetric rows.own key.account _ other h

pub new-vol : (rows : Rows) (at : Moment) (key : PolicyKey) (p : Policy) (volumes : List (VolKey × VolRow)) → (model_rows.own_of (with_new rows at key p volumes) key.account).next_vol ≡ (model_rows.own_of rows key.account).next_vol
new-vol rows at key p [] = refl
new-vol rows at key p (e ∷ volumes) =
    let first : SnapKey = next_key rows key.account in
    new-vol (with_upload rows first (run_row at first key p e)) at key p volumes
    ∙ ap (λ (o : Option Own). (unwrap_or o no_own).next_vol) (get-itself nat_cmp_total nat_cmp-IsAntisymmetric rows.own key.account (record (model_rows.own_of rows key.account) { next_snap = first.number + 1 }))

-- ---- what such a call leaves of each snapshot

abbrev pub own_in : fin.FinMap nat_cmp Own → ℕ → Own
own_in own account = unwrap_or (fin.get own account) no_own

-- it is as it was, or a run left it so
pub data Left (m : Machine) (account : ℕ) (own : fin.FinMap nat_cmp Own) (q : SnapKey) (new : Option Snapshot) : Type 0 where
  as_it_was : new ≡ fin.get m.snaps q → Left m account own q new
  by_run : (key : PolicyKey) (p : Policy) → account ≡ key.account → (own_in own account).next_snap ≡ (own_of m account).next_snap + length (due_volumes m key p) → RunLeaves m key p q new → Left m account own q new

-- a snapshot that was just made of a volume of the account's own
pub record IsFresh (m : Machine) (account : ℕ) (own : fin.FinMap nat_cmp Own) (q : SnapKey) (s : Snapshot) : Type 0 where
  pub key : PolicyKey
  pub policy : Policy
  pub of : VolKey × VolRow
  pub there : fin.get m.vols of.0 ≡ Some of.1
  pub mine : account ≡ of.0.account
  pub owner : account ≡ q.account
  pub above : (own_of m account).next_snap ≤ q.number
  pub below : q.number < (own_in own account).next_snap
  pub row_is : s.row ≡ run_row m.clock q key policy of
  pub array_is : s.array ≡ disk_of m of.0

-- all but its policy and its end in the bin stay
abbrev pub Alters : SnapRow → SnapRow → Type 0
Alters was row = row ≡ record was { policy = None; bin_end = row.bin_end }

module _ (m : Machine) (account : ℕ) (own : fin.FinMap nat_cmp Own) (q : SnapKey) where
  fresh : (key : PolicyKey) (p : Policy) → account ≡ key.account → (own_in own account).next_snap ≡ (own_of m account).next_snap + length (due_volumes m key p) → (s : Snapshot) → IsBegun m key p q s → IsFresh m account own q s
  fresh key p mine count s h =
      let next : (own_of m key.account).next_snap ≡ (own_of m account).next_snap = ap (λ a. (own_of m a).next_snap) (sym mine) in
      let above = h.above in
      let below = h.below in
      record {
        key = key;
        policy = p;
        of = h.of;
        there = h.target.there;
        mine = mine ∙ h.target.mine;
        owner = mine ∙ h.owner;
        above = omega (arith, above, next);
        below = omega (arith, below, next, count);
        row_is = h.row_is;
        array_is = h.array_is;
      }

  -- what holds of each snapshot that was there, that was made and that is rewritten so, and of none, holds of what is left
  pub left-holds : (Q : Option Snapshot → Type 0) → Q (fin.get m.snaps q) → Q None → ((s : Snapshot) → IsFresh m account own q s → Q (Some s)) → ((s : Snapshot) (row : SnapRow) → account ≡ q.account → Alters s.row row → Q (Some s) → Q (Some (rewritten row s)))
      → (new : Option Snapshot) → Left m account own q new → Q new
  left-holds Q was none new altered o (as_it_was e) = subst Q (sym e) was
  left-holds Q was none new altered o (by_run key p mine count left) = by left
    where
      known : (s : Snapshot) → IsCounted m key p q s → Q (Some s)
      known s (standing is) = subst Q is was
      known s (begun is) = new s (fresh key p mine count s is)

      by : RunLeaves m key p q o → Q o
      by (none_there is e) = subst Q (sym e) none
      by (stays s c e) = subst Q (sym e) (known s c)
      by (frees s c g l e) = subst Q (sym e) (altered s (freed s.row) (mine ∙ g.owned) refl (known s c))
      by (bins s days c g l t d e) = subst Q (sym e) (altered s (binned_row m (freed s.row) days) (mine ∙ g.owned) refl (known s c))
      by (takes s c g l t d e) = subst Q (sym e) none

  pub left-each : (P : Snapshot → Type 0) → ((s : Snapshot) → fin.get m.snaps q ≡ Some s → P s) → ((s : Snapshot) → IsFresh m account own q s → P s) → ((s : Snapshot) (row : SnapRow) → account ≡ q.account → Alters s.row row → P s → P (rewritten row s))
      → (new : Option Snapshot) → Left m account own q new → (x : Snapshot) → new ≡ Some x → P x
  left-each P was new altered = left-holds (λ o. (x : Snapshot) → o ≡ Some x → P x) was (λ x e. absurd (none_some e)) (λ s is x e. subst P (some_is s x e) (new s is))
      (λ s row mine alters known x e. subst P (some_is (rewritten row s) x e) (altered s row mine alters (known s refl)))

  -- another's snapshot is as it was
  pub left-other : q.account ≢ account → (new : Option Snapshot) → Left m account own q new → new ≡ fin.get m.snaps q
  left-other other new (as_it_was e) = e
  left-other other new (by_run key p mine count left) = run-other m key p q (λ same. other (sym (mine ∙ same))) new left
