-- What waits for time: each upload that is open at the latest moment or after it.
use Rattle.std.proofs.Common.{◌≡◌, ℕ, ◌+◌, ◌*◌, ◌≤◌, arith, Bool, true, false, cond, ◌&&◌, List, [], ◌∷◌, Option, Some, None, Ordering, is_some, refl, sym, ap, ◌∙◌}
use Rattle.std.proofs.lemmas.Bool.{false≢true}
use Rattle.std.proofs.lemmas.Bool.Decides.{nat_tests}
use Rattle.std.specs.Prelude.{nat_le}
use Rattle.std.proofs.lemmas.Map.Entries.{option_filter, lookup-filter-keys}
use Rattle.std.specs.Option.{option_map}
use Rattle.std.specs.List.{AllByRecursion, filter, count_by}
use Rattle.std.specs.List.Sorted.{IsStrictlySortedBy}
use Rattle.std.specs.Map.{keys_of}
use Rattle.std.specs.BTreeMap.{is_at}
use Rattle.std.specs.Ordering.{eq_by_cmp}
use Rattle.std.specs.FinMap.{FinMap, get, contains_key, insert, remove, empty, entries, from_entries, same_map, get-insert, get-remove, get-empty}
use Rattle.ebs_tables.specs.Aged.{aged_map}
use Rattle.ebs_tables.proofs.AgedLaws.{get-aged, count-aged}
use Rattle.ebs_tables.proofs.MapEdits.{is_same, tied}
use Rattle.ebs_tables.proofs.TreeMaps.{entries-seen, get-seen, get-lookup, entries-sorted}
use Rattle.ebs_model.specs.declared.keys.SnapKey.{SnapKey}
use Rattle.ebs_model.specs.declared.rows.SnapRow.{SnapRow}
use Rattle.ebs_model.specs.Keys.{snap_cmp}
use Rattle.ebs_model.specs.inner.Orders.{snaps_total, exact_snaps}
use Rattle.ebs_model.specs.inner.MapValues.{map_values}
use Rattle.ebs_model.specs.Access.{owns}
use Rattle.ebs_model.specs.Time.{stays, status_at, status_by, is_failed, is_pending}
use Rattle.ebs_model.proofs.Values.{get-map_values, entries-map_values}
use Rattle.ebs_catalog.specs.declared.rows.KeptRow.{KeptRow}
use Rattle.ebs_catalog.specs.Held.{whole}
use Rattle.ebs_catalog.specs.Counts.{is_pending_row, is_open}
use Rattle.ebs_catalog.specs.Sound.{AreAwaited}
use Rattle.ebs_catalog.proofs.RowsKept.{Kept, rows_of, get-rows}
use Rattle.ebs_catalog.proofs.Stale.{Waits, keys_at}
use Rattle.ebs_catalog.proofs.CountLaws.{and_right, count_by-map, count_by-filter}

some_same : (v k : KeptRow) → Some v ≡ Some k → v ≡ k
some_same v k e = cc

none_some : (k : KeptRow) → ◌≡◌ {A = Option KeptRow} None (Some k) → ⊥
none_some k e = cc

pub awaited-empty : (w : Waits) (latest : ℕ) → AreAwaited empty w latest
awaited-empty w latest = record { each = λ q k e now l p. absurd (none_some k (sym (get-empty snap_cmp q) ∙ e)) }

-- an edit of one key
module _ (m m' : Kept) (w w' : Waits) (k : SnapKey) (latest latest' : ℕ) (later : latest ≤ latest') (rows : (q : SnapKey) → eq_by_cmp snap_cmp q k ≡ false → get m' q ≡ get m q) (waits : (q : SnapKey) → eq_by_cmp snap_cmp q k ≡ false → get w' q ≡ get w q) where
  pub awaited-edit : ((v : KeptRow) → get m' k ≡ Some v → (now : ℕ) → latest' ≤ now → is_pending (status_at v.row now) ≡ true → contains_key w' k ≡ true) → AreAwaited m w latest → AreAwaited m' w' latest'
  awaited-edit here h = record { each = λ q v e now l p. by q v e now l p (eq_by_cmp snap_cmp q k) refl }
    where
      by : (q : SnapKey) (v : KeptRow) → get m' q ≡ Some v → (now : ℕ) → latest' ≤ now → is_pending (status_at v.row now) ≡ true → (b : Bool) → eq_by_cmp snap_cmp q k ≡ b → contains_key w' q ≡ true
      by q v e now l p true t =
          let same = is_same exact_snaps q k t in
          ap (contains_key w') same ∙ here v (sym (ap (get m') same) ∙ e) now l p
      by q v e now l p false t = ap is_some (waits q t) ∙ h.each q v (sym (rows q t) ∙ e) now (omega (arith, later, l)) p

inserted : (m : Kept) (k : SnapKey) (v : KeptRow) (q : SnapKey) → eq_by_cmp snap_cmp q k ≡ false → get (insert m k v) q ≡ get m q
inserted m k v q t = get-insert snaps_total m k v q ∙ ap (λ b. cond b (Some v) (get m q)) t

removed : {V : Type 0} (m : FinMap snap_cmp V) (k q : SnapKey) → eq_by_cmp snap_cmp q k ≡ false → get (remove m k) q ≡ get m q
removed m k q t = get-remove snaps_total m k q ∙ ap (λ b. cond b None (get m q)) t

again : (m : Kept) (k : SnapKey) (v : KeptRow) (q : SnapKey) → eq_by_cmp snap_cmp q k ≡ false → get (insert (remove m k) k v) q ≡ get m q
again m k v q t = inserted (remove m k) k v q t ∙ removed m k q t

marked : (w : Waits) (k q : SnapKey) → eq_by_cmp snap_cmp q k ≡ false → get (insert w k tt) q ≡ get w q
marked w k q t = get-insert snaps_total w k tt q ∙ ap (λ b. cond b (Some tt) (get w q)) t

written : (m : Kept) (k : SnapKey) (v : KeptRow) → get (insert m k v) k ≡ Some v
written m k v = get-insert snaps_total m k v k ∙ ap (λ b. cond b (Some v) (get m k)) (tied snaps_total k)

pub le_self : (n : ℕ) → n ≤ n
le_self n = omega arith

module _ (m : Kept) (w : Waits) (k : SnapKey) (v : KeptRow) (latest : ℕ) where
  -- a row that begins to wait
  pub awaited-added : AreAwaited m w latest → AreAwaited (insert m k v) (insert w k tt) latest
  awaited-added = awaited-edit m _ w _ k latest latest (le_self latest) (λ q t. inserted m k v q t) (λ q t. marked w k q t) (λ u e now l p. ap is_some (get-insert snaps_total w k tt k ∙ ap (λ b. cond b (Some tt) (get w k)) (tied snaps_total k)))

  -- one that is never open
  pub awaited-closed : ((now : ℕ) → is_pending (status_at v.row now) ≡ false) → AreAwaited m w latest → AreAwaited (insert m k v) w latest
  awaited-closed closed = awaited-edit m _ w _ k latest latest (le_self latest) (λ q t. inserted m k v q t) (λ q t. refl) here
    where
      here : (u : KeptRow) → get (insert m k v) k ≡ Some u → (now : ℕ) → latest ≤ now → is_pending (status_at u.row now) ≡ true → contains_key w k ≡ true
      here u e now l p =
          let is = ap (λ (x : KeptRow). x.row) (some_same v u (sym (written m k v) ∙ e)) in
          absurd (false≢true (sym (closed now) ∙ ap (λ (r : SnapRow). is_pending (status_at r now)) is ∙ p))

  -- one that is written again while it waits
  pub awaited-known : contains_key w k ≡ true → AreAwaited m w latest → AreAwaited (insert (remove m k) k v) w latest
  awaited-known here = awaited-edit m _ w _ k latest latest (le_self latest) (λ q t. again m k v q t) (λ q t. refl) (λ u e now l p. here)

  -- one that is written again and is open when it was
  pub awaited-status : (kept : KeptRow) → get m k ≡ Some kept → ((now : ℕ) → status_at v.row now ≡ status_at kept.row now) → AreAwaited m w latest → AreAwaited (insert (remove m k) k v) w latest
  awaited-status kept at same h = awaited-edit m _ w _ k latest latest (le_self latest) (λ q t. again m k v q t) (λ q t. refl) here h
    where
      here : (u : KeptRow) → get (insert (remove m k) k v) k ≡ Some u → (now : ℕ) → latest ≤ now → is_pending (status_at u.row now) ≡ true → contains_key w k ≡ true
      here u e now l p =
          let is = ap (λ (x : KeptRow). x.row) (some_same v u (sym (written (remove m k) k v) ∙ e)) in
          h.each k kept at now l (ap is_pending (sym (same now)) ∙ ap (λ (r : SnapRow). is_pending (status_at r now)) is ∙ p)

  -- one that is written again with the same row
  pub awaited-again : (kept : KeptRow) → get m k ≡ Some kept → v.row ≡ kept.row → AreAwaited m w latest → AreAwaited (insert (remove m k) k v) w latest
  awaited-again kept at same h = awaited-status kept at (λ now. ap (λ (r : SnapRow). status_at r now) same) h

  -- one that is never open again
  pub awaited-over : (latest' : ℕ) → latest ≤ latest' → ((now : ℕ) → latest' ≤ now → is_pending (status_at v.row now) ≡ false) → AreAwaited m w latest → AreAwaited (insert (remove m k) k v) (remove w k) latest'
  awaited-over latest' later over h = awaited-edit m _ w _ k latest latest' later (λ q t. again m k v q t) (λ q t. removed w k q t) here h
    where
      here : (u : KeptRow) → get (insert (remove m k) k v) k ≡ Some u → (now : ℕ) → latest' ≤ now → is_pending (status_at u.row now) ≡ true → contains_key (remove w k) k ≡ true
      here u e now l p =
          let is = ap (λ (x : KeptRow). x.row) (some_same v u (sym (written (remove m k) k v) ∙ e)) in
          absurd (false≢true (sym (over now l) ∙ ap (λ (r : SnapRow). is_pending (status_at r now)) is ∙ p))

-- one that is written again, and waits
pub awaited-waiting : (m : Kept) (w : Waits) (k : SnapKey) (v : KeptRow) (latest : ℕ) → AreAwaited m w latest → AreAwaited (insert (remove m k) k v) (insert w k tt) latest
awaited-waiting m w k v latest = awaited-edit m _ w _ k latest latest (le_self latest) (λ q t. again m k v q t) (λ q t. marked w k q t) (λ u e now l p. ap is_some (get-insert snaps_total w k tt k ∙ ap (λ b. cond b (Some tt) (get w k)) (tied snaps_total k)))

-- a key more that waits
pub awaited-marked : (m : Kept) (w : Waits) (k : SnapKey) (latest : ℕ) → AreAwaited m w latest → AreAwaited m (insert w k tt) latest
awaited-marked m w k latest = awaited-edit m _ w _ k latest latest (le_self latest) (λ q t. refl) (λ q t. marked w k q t) (λ u e now l p. ap is_some (get-insert snaps_total w k tt k ∙ ap (λ b. cond b (Some tt) (get w k)) (tied snaps_total k)))

-- one that is gone
pub awaited-removed : (m : Kept) (w : Waits) (k : SnapKey) (latest latest' : ℕ) → latest ≤ latest' → AreAwaited m w latest → AreAwaited (remove m k) (remove w k) latest'
awaited-removed m w k latest latest' later h = awaited-edit m _ w _ k latest latest' later (λ q t. removed m k q t) (λ q t. removed w k q t) (λ u e now l p. absurd (none_some u (sym (get-remove snaps_total m k k ∙ ap (λ b. cond b None (get m k)) (tied snaps_total k)) ∙ e))) h

-- a later moment
pub awaited-later : (m : Kept) (w : Waits) (latest latest' : ℕ) → latest ≤ latest' → AreAwaited m w latest → AreAwaited m w latest'
awaited-later m w latest latest' later h = record { each = λ q k e now l p. h.each q k e now (omega (arith, later, l)) p }

-- what is found open waits
pub awaits-found : (m : Kept) (w : Waits) (latest now : ℕ) → AreAwaited m w latest → latest ≤ now → (k : SnapKey) (row : SnapRow) → get (rows_of m) k ≡ Some row → is_pending (status_at row now) ≡ true → contains_key w k ≡ true
awaits-found m w latest now h later k row e p = at (get m k) refl (sym (get-rows m k) ∙ e)
  where
    row_same : (a : SnapRow) → Some a ≡ Some row → a ≡ row
    row_same a e = cc

    no_row : ◌≡◌ {A = Option SnapRow} None (Some row) → ⊥
    no_row e = cc

    at : (o : Option KeptRow) → get m k ≡ o → option_map whole o ≡ Some row → contains_key w k ≡ true
    at None t e = absurd (no_row e)
    at (Some v) t e = h.each k v t now later (ap (λ (r : SnapRow). is_pending (status_at r now)) (row_same (whole v) e) ∙ p)

-- a failed upload is never open again
pub failed-later : (row : SnapRow) (now later : ℕ) → is_failed (status_at row now) ≡ true → now ≤ later → is_pending (status_at row later) ≡ false
failed-later row now later f le = by row.completed (nat_le (row.last.second + 60 * row.timeout) now) refl (nat_le (row.last.second + 60 * row.timeout) later) refl f
  where
    still : (a : ℕ) → nat_le a now ≡ true → nat_le a later ≡ false → ⊥
    still a t u = absurd (grind (arith, nat_tests))

    by : (c late : Bool) → nat_le (row.last.second + 60 * row.timeout) now ≡ late → (after : Bool) → nat_le (row.last.second + 60 * row.timeout) later ≡ after → is_failed (status_by c late) ≡ true → is_pending (status_by c after) ≡ false
    by true late t after u f = refl
    by false false t after u f = absurd (false≢true f)
    by false true t true u f = refl
    by false true t false u f = absurd (still _ t u)

-- entries whose keys pass a test
module _ {K X : Type 0} (R : K → K → Ordering) (p : K → Bool) where
  all-filter : (P : K → Type 0) (es : List (K × X)) → AllByRecursion P (keys_of es) → AllByRecursion P (keys_of (filter (λ e. p e.0) es))
  all-filter P [] h = tt
  all-filter P (e ∷ es) h = elim (p e.0) as (λ b. AllByRecursion P (keys_of (cond b (e ∷ filter (λ e. p e.0) es) (filter (λ e. p e.0) es)))) [ true ↦ (h.0, all-filter P es h.1) | false ↦ all-filter P es h.1 ]

  sorted-filter : (es : List (K × X)) → IsStrictlySortedBy R (keys_of es) → IsStrictlySortedBy R (keys_of (filter (λ e. p e.0) es))
  unfolding IsStrictlySortedBy
  sorted-filter [] h = tt
  sorted-filter (e ∷ es) h = elim (p e.0) as (λ b. IsStrictlySortedBy R (keys_of (cond b (e ∷ filter (λ e. p e.0) es) (filter (λ e. p e.0) es)))) [ true ↦ (all-filter _ es h.0, sorted-filter es h.1) | false ↦ sorted-filter es h.1 ]

-- open uploads are counted over what waits
module _ (m : Kept) (w : Waits) (latest now : ℕ) (h : AreAwaited m w latest) (later : latest ≤ now) where
  abbrev is_left : KeptRow → Bool
  is_left k = stays now k.row && is_pending (status_at k.row now)

  abbrev left : Kept
  left = aged_map is_left (λ k. k) m

  found : (q : SnapKey) → get left q ≡ option_map (λ k. k) (option_filter is_left (get m q))
  found q = get-aged snaps_total is_left (λ k. k) m q

  abbrev waiting : Waits
  waiting = from_entries (keys_at (λ q. is_pending_row now (get m q)) (entries w))

  found-waiting : (q : SnapKey) → get waiting q ≡ cond (is_pending_row now (get m q)) (get w q) None
  found-waiting q =
      get-seen snaps_total (keys_at (λ q. is_pending_row now (get m q)) (entries w)) q
      ∙ lookup-filter-keys (is_at (snap_cmp q)) (λ k. is_pending_row now (get m k)) (is_pending_row now (get m q)) (λ k t. ap (λ x. is_pending_row now (get m x)) (sym (is_same exact_snaps q k t))) (entries w)
      ∙ ap (λ x. cond (is_pending_row now (get m q)) x None) (sym (get-lookup snap_cmp w q))

  is_marked : (o : Option (Unit {0})) → is_some o ≡ true → o ≡ Some tt
  is_marked None e = absurd (false≢true e)
  is_marked (Some u) e = refl

  one : (q : SnapKey) (o : Option KeptRow) → get m q ≡ o → option_map (λ k. tt) (option_map (λ k. k) (option_filter is_left o)) ≡ cond (is_pending_row now o) (get w q) None
  one q None e = refl
  one q (Some k) e = by (is_left k) refl
    where
      by : (b : Bool) → is_left k ≡ b → option_map (λ k. tt) (option_map (λ k. k) (cond b (Some k) None)) ≡ cond b (get w q) None
      by true t = sym (is_marked (get w q) (h.each q k e now later (and_right (stays now k.row) _ t)))
      by false t = refl

  same-keys : map_values (λ k. tt) left ≡ waiting
  same-keys = same_map snaps_total exact_snaps _ _ (λ q. get-map_values snaps_total (λ k. tt) left q ∙ ap (option_map (λ k. tt)) (found q) ∙ one q (get m q) refl ∙ sym (found-waiting q))

  pub waiting-count : (account : ℕ) → count_by (λ e. is_open account now e.0 (get m e.0)) (entries w) ≡ count_by (λ e. is_left e.1 && owns account e.0) (entries m)
  waiting-count account =
      let p : SnapKey × Unit {0} → Bool = λ e. owns account e.0 in
      let es = entries w in
      sym (count_by-filter p (λ e. is_pending_row now (get m e.0)) es)
      ∙ ap (count_by p) (sym (entries-seen snaps_total (keys_at (λ q. is_pending_row now (get m q)) es) (sorted-filter snap_cmp (λ q. is_pending_row now (get m q)) es (entries-sorted snap_cmp w))))
      ∙ ap (λ x. count_by p (entries x)) (sym same-keys)
      ∙ ap (count_by p) (entries-map_values snaps_total (λ k. tt) left)
      ∙ count_by-map p (λ (e : SnapKey × KeptRow). (e.0, tt)) (entries left)
      ∙ count-aged snaps_total is_left (λ k. k) (λ e. owns account e.0) m
