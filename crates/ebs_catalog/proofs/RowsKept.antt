-- Rows of kept ones, and edits of them.
use Rattle.std.proofs.Common.{◌≡◌, ℕ, ◌≤◌, ◌^◌, Bool, true, false, ◌&&◌, cond, Option, Some, None, is_some, refl, sym, ap, subst, ◌∙◌, Ordering, arith}
use Rattle.std.specs.Prelude.{nat_le}
use Rattle.std.proofs.lemmas.Bool.Decides.{nat_tests}
use Rattle.std.proofs.lemmas.Bool.{false≢true}
use Rattle.std.specs.Option.{option_map}
use Rattle.std.specs.Ordering.{eq_by_cmp, nat_cmp}
use Rattle.std.specs.Cmp.{IsTotalOrder}
use Rattle.std.specs.FinMap.{FinMap, get, contains_key, insert, remove, empty, IsAntisymmetric, same_map, get-insert, get-remove, get-empty}
use Rattle.ebs_tables.specs.Full.{full, released}
use Rattle.ebs_tables.proofs.MapEdits.{is_same, tied, insert-known}
use Rattle.ebs_tables.proofs.FullLaws.{get-full, flat, ready-some}
use Rattle.ebs_model.specs.Limits.{is_size, is_timeout}
use Rattle.ebs_model.specs.Time.{stays, status_at, is_failed, rested_row}
use Rattle.ebs_model.specs.inner.Rows.{aged_snaps}
use Rattle.ebs_model.proofs.RowLaws.{same_rows, left_row, get-aged_snaps}
use Rattle.ebs_model.specs.declared.keys.SnapKey.{SnapKey}
use Rattle.ebs_model.specs.declared.keys.Moment.{Moment}
use Rattle.ebs_model.specs.declared.rows.SnapRow.{SnapRow}
use Rattle.ebs_model.specs.Keys.{snap_cmp}
use Rattle.ebs_model.specs.inner.Orders.{snaps_total, exact_snaps}
use Rattle.ebs_model.specs.inner.MapValues.{map_values}
use Rattle.ebs_model.proofs.Values.{get-map_values, map_values-insert}
use Rattle.ebs_catalog.specs.declared.rows.KeptRow.{KeptRow}
use Rattle.ebs_catalog.specs.Held.{whole}
use Rattle.ebs_catalog.specs.Sound.{IsSound, IsSoundRow}
use Rattle.ebs_catalog.specs.Decided.{HasLimits}

abbrev pub Kept : Type 0
Kept = FinMap snap_cmp KeptRow

abbrev pub rows_of : Kept → FinMap snap_cmp SnapRow
rows_of m = map_values whole m

pub get-rows : (m : Kept) (q : SnapKey) → get (rows_of m) q ≡ option_map whole (get m q)
get-rows m q = get-map_values snaps_total whole m q

pub rows-insert : (m : Kept) (k : SnapKey) (v : KeptRow) → rows_of (insert m k v) ≡ insert (rows_of m) k (whole v)
rows-insert m k v = map_values-insert snaps_total whole exact_snaps m k v

pub rows-remove : (m : Kept) (k : SnapKey) → rows_of (remove m k) ≡ remove (rows_of m) k
rows-remove m k = same_map snaps_total exact_snaps _ _ (λ q.
    get-rows (remove m k) q ∙ ap (option_map whole) (get-remove snaps_total m k q) ∙ by (eq_by_cmp snap_cmp q k) (get m q)
    ∙ ap (cond (eq_by_cmp snap_cmp q k) None) (sym (get-rows m q)) ∙ sym (get-remove snaps_total (rows_of m) k q))
  where
    by : (b : Bool) (o : Option KeptRow) → option_map whole (cond b None o) ≡ cond b None (option_map whole o)
    by true o = refl
    by false o = refl

module _ {K X : Type 0} {R : K → K → Ordering} (o : IsTotalOrder R) (same : IsAntisymmetric R) where
  -- what is taken out and written again
  pub again : (m : FinMap R X) (k : K) (v : X) → insert (remove m k) k v ≡ insert m k v
  again m k v = same_map o same _ _ (λ q.
      get-insert o (remove m k) k v q ∙ ap (cond (eq_by_cmp R q k) (Some v)) (get-remove o m k q) ∙ by (eq_by_cmp R q k) (get m q) ∙ sym (get-insert o m k v q))
    where
      by : (b : Bool) (x : Option X) → cond b (Some v) (cond b None x) ≡ cond b (Some v) x
      by true x = refl
      by false x = refl

  -- what was written is found
  pub found : (m : FinMap R X) (k : K) (v : X) → get (insert m k v) k ≡ Some v
  found m k v = get-insert o m k v k ∙ ap (λ b. cond b (Some v) (get m k)) (tied o k)

  -- what was taken out isn't
  pub gone : (m : FinMap R X) (k : K) → get (remove m k) k ≡ None
  gone m k = get-remove o m k k ∙ ap (λ b. cond b None (get m k)) (tied o k)

pub rows-again : (m : Kept) (k : SnapKey) (v : KeptRow) → rows_of (insert (remove m k) k v) ≡ insert (rows_of m) k (whole v)
rows-again m k v = ap rows_of (again snaps_total exact_snaps m k v) ∙ rows-insert m k v

-- what is kept of each row, through edits
pub sound-empty : IsSound empty
sound-empty = record { each = λ key k e. absurd (none_is k (sym (get-empty snap_cmp key) ∙ e)) }
  where
    none_is : (k : KeptRow) → ◌≡◌ {A = Option KeptRow} None (Some k) → ⊥
    none_is k e = cc

pub sound-insert : (m : Kept) (key : SnapKey) (v : KeptRow) → IsSound m → IsSoundRow key v → IsSound (insert m key v)
sound-insert m key v s h = record { each = λ q k e. by q k (eq_by_cmp snap_cmp q key) refl (sym (get-insert snaps_total m key v q) ∙ e) }
  where
    some_same : (a b : KeptRow) → Some a ≡ Some b → a ≡ b
    some_same a b e = cc

    by : (q : SnapKey) (k : KeptRow) (b : Bool) → eq_by_cmp snap_cmp q key ≡ b → cond b (Some v) (get m q) ≡ Some k → IsSoundRow q k
    by q k true t e = subst (λ p. IsSoundRow p k) (sym (is_same exact_snaps q key t)) (subst (IsSoundRow key) (some_same v k e) h)
    by q k false t e = s.each q k e

pub sound-remove : (m : Kept) (key : SnapKey) → IsSound m → IsSound (remove m key)
sound-remove m key s = record { each = λ q k e. by q k (eq_by_cmp snap_cmp q key) (sym (get-remove snaps_total m key q) ∙ e) }
  where
    none_is : (k : KeptRow) → ◌≡◌ {A = Option KeptRow} None (Some k) → ⊥
    none_is k e = cc

    by : (q : SnapKey) (k : KeptRow) (b : Bool) → cond b None (get m q) ≡ Some k → IsSoundRow q k
    by q k true e = absurd (none_is k e)
    by q k false e = s.each q k e

pub sound-again : (m : Kept) (key : SnapKey) (v : KeptRow) → IsSound m → IsSoundRow key v → IsSound (insert (remove m key) key v)
sound-again m key v s h = sound-insert (remove m key) key v (sound-remove m key s) h

-- a kept row that is changed but for its size, its timeout and its key, isn't open again, and is completed where it has an end in the bin
pub sound-kept : (m : Kept) (key : SnapKey) (kept : KeptRow) → get m key ≡ Some kept → (v : KeptRow) → v.row.key ≡ kept.row.key → v.row.size ≡ kept.row.size → v.row.start ≡ kept.row.start → v.row.timeout ≡ kept.row.timeout → (v.row.completed ≡ false → kept.row.completed ≡ false) → ((is_some kept.row.bin_end ≡ true → kept.row.completed ≡ true) → is_some v.row.bin_end ≡ true → v.row.completed ≡ true) → IsSound m → IsSound (insert (remove m key) key v)
sound-kept m key kept at v p s w t pending bins is =
    let r = is.each key kept at in
    sound-again m key v is (record { place = p ∙ r.place; size = ap is_size s ∙ r.size; start = subst (λ (n : Moment). n.second ≤ 2 ^ 36) (sym w) r.start; timeout = λ e. subst (λ n. 1 ≤ n) (sym t) (r.timeout (pending e)); binned = bins r.binned })

-- a row that is written again with the same put set
pub same-put : (m : Kept) (k : SnapKey) (kept : KeptRow) → get m k ≡ Some kept → (put : FinMap nat_cmp (Option (Unit {0}))) → full put ≡ full kept.put → rows_of (insert (remove m k) k (record kept { put = put })) ≡ rows_of m
same-put m k kept at put h =
    rows-again m k (record kept { put = put })
    ∙ ap (insert (rows_of m) k) (λ i. record kept.row { put = h i })
    ∙ insert-known snaps_total exact_snaps (rows_of m) k (whole kept) (get-rows m k ∙ ap (option_map whole) at)

-- what is found of the rows
pub found-row : (m : Kept) (k : SnapKey) (o : Option KeptRow) → o ≡ get m k → get (rows_of m) k ≡ option_map whole o
found-row m k o h = get-rows m k ∙ ap (option_map whole) (sym h)

module _ {K V : Type 0} {R : K → K → Ordering} (o : IsTotalOrder R) (same : IsAntisymmetric R) where
  pub is-ready : (m : FinMap R (Option V)) (k : K) → contains_key (full m) k ≡ true → contains_key m k ≡ true
  is-ready m k e = by (get (full m) k) refl e
    where
      by : (x : Option V) → get (full m) k ≡ x → is_some x ≡ true → contains_key m k ≡ true
      by None h e = absurd (false≢true e)
      by (Some v) h e = ready-some o m k v h

  -- a released key is there with a value, or isn't
  pub released-free : (m : FinMap R (Option V)) (k : K) → contains_key (released m k) k ≡ contains_key (full (released m k)) k
  released-free m k = by (contains_key (full m) k) refl
    where
      by : (b : Bool) → contains_key (full m) k ≡ b → contains_key (cond b m (remove m k)) k ≡ contains_key (full (cond b m (remove m k))) k
      by true e = is-ready m k e ∙ sym e
      by false e = ap is_some (gone o same m k) ∙ sym (ap is_some (get-full o (remove m k) k ∙ ap flat (gone o same m k)))

  -- and so is another that was
  pub released-others : (m : FinMap R (Option V)) (k q : K) → contains_key m q ≡ contains_key (full m) q → contains_key (released m k) q ≡ contains_key (full (released m k)) q
  released-others m k q h = by (contains_key (full m) k)
    where
      left : (b : Bool) → is_some (cond b None (get m q)) ≡ is_some (flat (cond b None (get m q)))
      left true = refl
      left false = h ∙ ap is_some (get-full o m q)

      by : (b : Bool) → contains_key (cond b m (remove m k)) q ≡ contains_key (full (cond b m (remove m k))) q
      by true = h
      by false = ap is_some (get-remove o m k q) ∙ left (eq_by_cmp R q k) ∙ ap (λ x. is_some (flat x)) (sym (get-remove o m k q)) ∙ sym (ap is_some (get-full o (remove m k) q))

-- 10 minutes or more
pub timed : (minutes : ℕ) → is_timeout minutes ≡ true → 1 ≤ minutes
timed minutes e = by (nat_le 10 minutes) refl e
  where
    by : (b : Bool) → nat_le 10 minutes ≡ b → (b && nat_le minutes 4320) ≡ true → 1 ≤ minutes
    by true t e = grind (arith, nat_tests)
    by false t e = absurd (false≢true e)

-- rows of which time leaves the same
pub aged-same : (now : ℕ) (a b : FinMap snap_cmp SnapRow) → ((q : SnapKey) → left_row now (get a q) ≡ left_row now (get b q)) → aged_snaps now a ≡ aged_snaps now b
aged-same now a b h = same_rows _ _ (λ q. get-aged_snaps now a q ∙ h q ∙ sym (get-aged_snaps now b q))

module _ (now : ℕ) (m : Kept) (key : SnapKey) (kept : KeptRow) (at : get m key ≡ Some kept) where
  left-found : left_row now (get (rows_of m) key) ≡ left_row now (Some (whole kept))
  left-found = ap (left_row now) (get-rows m key ∙ ap (option_map whole) at)

  emptied : (put : FinMap nat_cmp (Option (Unit {0}))) → is_failed (status_at kept.row now) ≡ true → (b : Bool) → option_map (rested_row now) (cond b (Some (whole (record kept { put = put }))) None) ≡ option_map (rested_row now) (cond b (Some (whole kept)) None)
  emptied put f true = λ i. Some (record kept.row { put = (ap (λ t. cond t empty (full put)) f ∙ sym (ap (λ t. cond t empty (full kept.put)) f)) i })
  emptied put f false = refl

  -- a failed upload whose put set is given up
  pub given_up : (put : FinMap nat_cmp (Option (Unit {0}))) → is_failed (status_at kept.row now) ≡ true → aged_snaps now (rows_of (insert (remove m key) key (record kept { put = put }))) ≡ aged_snaps now (rows_of m)
  given_up put f = ap (aged_snaps now) (rows-again m key (record kept { put = put })) ∙ aged-same now _ _ (λ q. ap (left_row now) (get-insert snaps_total (rows_of m) key (whole (record kept { put = put })) q) ∙ by q (eq_by_cmp snap_cmp q key) refl)
    where
      by : (q : SnapKey) (b : Bool) → eq_by_cmp snap_cmp q key ≡ b → left_row now (cond b (Some (whole (record kept { put = put }))) (get (rows_of m) q)) ≡ left_row now (get (rows_of m) q)
      by q true t = emptied put f (stays now kept.row) ∙ sym left-found ∙ ap (λ p. left_row now (get (rows_of m) p)) (sym (is_same exact_snaps q key t))
      by q false t = refl

  -- a row that is gone
  pub gone-row : stays now kept.row ≡ false → aged_snaps now (rows_of (remove m key)) ≡ aged_snaps now (rows_of m)
  gone-row s = ap (aged_snaps now) (rows-remove m key) ∙ aged-same now _ _ (λ q. ap (left_row now) (get-remove snaps_total (rows_of m) key q) ∙ by q (eq_by_cmp snap_cmp q key) refl)
    where
      by : (q : SnapKey) (b : Bool) → eq_by_cmp snap_cmp q key ≡ b → left_row now (cond b None (get (rows_of m) q)) ≡ left_row now (get (rows_of m) q)
      by q true t = sym (ap (λ b. option_map (rested_row now) (cond b (Some (whole kept)) None)) s) ∙ sym left-found ∙ ap (λ p. left_row now (get (rows_of m) p)) (sym (is_same exact_snaps q key t))
      by q false t = refl

-- a row's limits
pub limited : (m : Kept) (key : SnapKey) (row : SnapRow) → IsSound m → get (rows_of m) key ≡ Some row → HasLimits row
limited m key row s e = at (get m key) refl (sym (get-rows m key) ∙ e)
  where
    none_is : ◌≡◌ {A = Option SnapRow} None (Some row) → ⊥
    none_is e = cc

    some_same : (a : SnapRow) → Some a ≡ Some row → a ≡ row
    some_same a e = cc

    at : (o : Option KeptRow) → get m key ≡ o → option_map whole o ≡ Some row → HasLimits row
    at None t e = absurd (none_is e)
    at (Some k) t e = let r = s.each key k t in subst HasLimits (some_same (whole k) e) (record { size = r.size; start = r.start; timeout = r.timeout; binned = r.binned })
