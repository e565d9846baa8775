-- Rows and arrays of snapshots, key by key: what is found in them, what time leaves of them, and how snapshots are made of them.
use Rattle.std.proofs.Common.{◌≡◌, ℕ, ◌≤◌, arith, Bool, true, false, cond, ◌&&◌, ◌==◌, List, [], ◌∷◌, map, Option, Some, None, refl, sym, ap, subst, ◌∙◌}
use Rattle.std.proofs.lemmas.Bool.{false≢true}
use Rattle.std.proofs.lemmas.Bool.Decides.{nat_tests}
use Rattle.std.proofs.lemmas.Map.Entries.{option_filter, lookup-filter-values}
use Rattle.std.proofs.lemmas.Map.Made.{lookup-map_values, keys_of-map_values}
use Rattle.std.proofs.lemmas.Map.Keys.{IsDistinct-from_sorted}
use Rattle.std.specs.Option.{option_map}
use Rattle.std.specs.List.{filter}
use Rattle.std.specs.List.Sorted.{IsStrictlySortedBy}
use Rattle.std.specs.Map.{lookup, keys_of}
use Rattle.std.specs.BTreeMap.{is_at}
use Rattle.std.specs.Ordering.{eq_by_cmp}
use Rattle.std.specs.Cmp.{eq_by_cmp_equiv}
use Rattle.std.specs.FinMap.{FinMap, get, insert, empty, entries, same_map, get-insert}
use Rattle.ebs_model.specs.declared.keys.SnapKey.{SnapKey}
use Rattle.ebs_model.specs.declared.keys.Moment.{Moment}
use Rattle.ebs_model.specs.declared.rows.SnapRow.{SnapRow}
use Rattle.ebs_model.specs.Keys.{snap_cmp}
use Rattle.ebs_model.specs.Arrays.{WholeArray}
use Rattle.ebs_model.specs.Time.{Snapshot, stays, rested, rested_row}
use Rattle.ebs_model.specs.Rows.{Rows, is_key}
use Rattle.ebs_model.specs.inner.Rows.{aged, aged_snaps}
use Rattle.ebs_model.specs.Machine.{Machine, advance, aged_rows, snap_rows, rows_of, array_at, with_arrays}
use Rattle.ebs_model.specs.Step.{with_rows}
use Rattle.ebs_model.proofs.Aged.{aged_row, get-aged, aged-aged}
use Rattle.ebs_tables.proofs.MapEdits.{is_same, tied}
use Rattle.ebs_model.specs.inner.Orders.{snaps_total, exact_snaps}
use Rattle.ebs_tables.proofs.TreeMaps.{entries-seen, get-seen, get-lookup, entries-sorted}

-- keys that are the same by the test are one
same_numbers : (a b : ℕ) → (a == b) ≡ true → a ≡ b
same_numbers a b e = grind (arith, nat_tests)

number_itself : (n : ℕ) → (n == n) ≡ true
number_itself n = grind (arith, nat_tests)

both_are : (a b : Bool) → (a && b) ≡ true → (a ≡ true) × (b ≡ true)
both_are true true e = (refl, refl)
both_are true false e = absurd (false≢true e)
both_are false b e = absurd (false≢true e)

pub key_itself : (k : SnapKey) → is_key k k ≡ true
key_itself k = λ i. number_itself k.account i && number_itself k.number i

pub is_key-same : (a b : SnapKey) → is_key a b ≡ true → a ≡ b
is_key-same a b e =
    let (account, number) = both_are _ _ e in
    λ i. record { account = same_numbers a.account b.account account i; number = same_numbers a.number b.number number i }

pub is_key-other : (a b : SnapKey) → (a ≡ b → ⊥) → is_key a b ≡ false
is_key-other a b h = by (is_key a b) refl
  where
    by : (t : Bool) → is_key a b ≡ t → is_key a b ≡ false
    by true e = absurd (h (is_key-same a b e))
    by false e = e

-- the row of what is found
abbrev pub row_in : Option Snapshot → Option SnapRow
row_in found = option_map (λ s. s.row) found

-- a row with an array
abbrev pub with_array : WholeArray → SnapRow → Snapshot
with_array array row = record { row = row; array = array }

pub get-row : (m : FinMap snap_cmp Snapshot) (q : SnapKey) → get (snap_rows m) q ≡ row_in (get m q)
unfolding snap_rows
get-row m q =
    get-seen snaps_total (map (λ e. (e.0, e.1.row)) (entries m)) q
    ∙ lookup-map_values (λ (s : Snapshot). s.row) (is_at (snap_cmp q)) (entries m)
    ∙ ap row_in (sym (get-lookup snap_cmp m q))

lookup-with : (array : SnapKey → WholeArray) (q : SnapKey) (es : List (SnapKey × SnapRow)) → lookup (is_at (snap_cmp q)) (map {B = SnapKey × Snapshot} (λ e. (e.0, with_array (array e.0) e.1)) es) ≡ option_map (with_array (array q)) (lookup (is_at (snap_cmp q)) es)
lookup-with array q [] = refl
lookup-with array q (e ∷ es) = by (is_at (snap_cmp q) e.0) refl (lookup-with array q es)
  where
    by : (b : Bool) → eq_by_cmp snap_cmp q e.0 ≡ b → lookup (is_at (snap_cmp q)) (map {B = SnapKey × Snapshot} (λ e. (e.0, with_array (array e.0) e.1)) es) ≡ option_map (with_array (array q)) (lookup (is_at (snap_cmp q)) es)
        → cond b (Some (with_array (array e.0) e.1)) (lookup (is_at (snap_cmp q)) (map {B = SnapKey × Snapshot} (λ e. (e.0, with_array (array e.0) e.1)) es)) ≡ option_map (with_array (array q)) (cond b (Some e.1) (lookup (is_at (snap_cmp q)) es))
    by true t h = ap (λ k. Some (with_array (array k) e.1)) (sym (is_same exact_snaps q e.0 t))
    by false t h = h

pub get-with : (rows : FinMap snap_cmp SnapRow) (array : SnapKey → WholeArray) (q : SnapKey) → get (with_arrays rows array) q ≡ option_map (with_array (array q)) (get rows q)
unfolding with_arrays
get-with rows array q = get-seen snaps_total _ q ∙ lookup-with array q (entries rows) ∙ ap (option_map (with_array (array q))) (sym (get-lookup snap_cmp rows q))

-- rows that have the same at each key are the same, and so are snapshots
pub same_rows : (a b : FinMap snap_cmp SnapRow) → ((q : SnapKey) → get a q ≡ get b q) → a ≡ b
same_rows a b h = same_map snaps_total exact_snaps a b h

pub same_snaps : (a b : FinMap snap_cmp Snapshot) → ((q : SnapKey) → get a q ≡ get b q) → a ≡ b
same_snaps a b h = same_map snaps_total exact_snaps a b h

-- the rows of what is made of rows and arrays are the rows
row-with : (array : WholeArray) (o : Option SnapRow) → row_in (option_map (with_array array) o) ≡ o
row-with array None = refl
row-with array (Some row) = refl

pub rows-with : (rows : FinMap snap_cmp SnapRow) (array : SnapKey → WholeArray) → snap_rows (with_arrays rows array) ≡ rows
rows-with rows array = same_rows _ _ (λ q. get-row (with_arrays rows array) q ∙ ap row_in (get-with rows array q) ∙ row-with (array q) (get rows q))

pub rows_of-with : (m : Machine) (rows : Rows) (array : SnapKey → WholeArray) → rows_of (with_rows m rows array) ≡ rows
rows_of-with m rows array = λ i. record { snaps = rows-with rows.snaps array i; own = rows.own; tokens = rows.tokens; vols = rows.vols; books = rows.books; policies = rows.policies }

-- snapshots are made of their rows and arrays
whole : (o : Option Snapshot) → option_map (with_array (array_at o)) (row_in o) ≡ o
whole None = refl
whole (Some s) = refl

pub with-itself : (m : FinMap snap_cmp Snapshot) (array : SnapKey → WholeArray) → ((q : SnapKey) → array q ≡ array_at (get m q)) → with_arrays (snap_rows m) array ≡ m
with-itself m array h = same_snaps _ _ (λ q.
    get-with (snap_rows m) array q ∙ (λ i. option_map (with_array (h q i)) (get-row m q i)) ∙ whole (get m q))

-- the rows after one of them is replaced
pub rows-insert : (m : FinMap snap_cmp Snapshot) (key : SnapKey) (s : Snapshot) → snap_rows (insert m key s) ≡ insert (snap_rows m) key s.row
rows-insert m key s = same_rows _ _ (λ q.
    get-row (insert m key s) q ∙ ap row_in (get-insert snaps_total m key s q) ∙ by (eq_by_cmp snap_cmp q key) (get m q)
    ∙ ap (cond (eq_by_cmp snap_cmp q key) (Some s.row)) (sym (get-row m q)) ∙ sym (get-insert snaps_total (snap_rows m) key s.row q))
  where
    by : (b : Bool) (o : Option Snapshot) → row_in (cond b (Some s) o) ≡ cond b (Some s.row) (row_in o)
    by true o = refl
    by false o = refl

-- snapshots after the row and the array of one of them are replaced
pub with-insert : (m : FinMap snap_cmp Snapshot) (key : SnapKey) (row : SnapRow) (array : SnapKey → WholeArray) → ((q : SnapKey) → (q ≡ key → ⊥) → array q ≡ array_at (get m q))
    → with_arrays (insert (snap_rows m) key row) array ≡ insert m key (with_array (array key) row)
with-insert m key row array h = same_snaps _ _ (λ q.
    get-with (insert (snap_rows m) key row) array q ∙ ap (option_map (with_array (array q))) (get-insert snaps_total (snap_rows m) key row q) ∙ by q (eq_by_cmp snap_cmp q key) refl
    ∙ sym (get-insert snaps_total m key (with_array (array key) row) q))
  where
    by : (q : SnapKey) (b : Bool) → eq_by_cmp snap_cmp q key ≡ b → option_map (with_array (array q)) (cond b (Some row) (get (snap_rows m) q)) ≡ cond b (Some (with_array (array key) row)) (get m q)
    by q true e = ap (λ k. Some (with_array (array k) row)) (is_same exact_snaps q key e)
    by q false e =
        let other : q ≡ key → ⊥ = λ same. false≢true (sym e ∙ ap (λ k. eq_by_cmp snap_cmp k key) same ∙ tied snaps_total key) in
        (λ i. option_map (with_array (h q other i)) (get-row m q i)) ∙ whole (get m q)

-- one array in the place of the key's, and the others as they are
pub with-replaced : (m : FinMap snap_cmp Snapshot) (key : SnapKey) (row : SnapRow) (new : SnapKey → WholeArray)
    → with_arrays (insert (snap_rows m) key row) (λ q. cond (is_key q key) (new q) (array_at (get m q))) ≡ insert m key (with_array (new key) row)
with-replaced m key row new =
    with-insert m key row (λ q. cond (is_key q key) (new q) (array_at (get m q))) (λ q other. ap (λ t. cond t (new q) (array_at (get m q))) (is_key-other q key other))
    ∙ ap (λ t. insert m key (with_array (cond t (new key) (array_at (get m key))) row)) (key_itself key)

-- the array stays where one row alone is replaced
pub with-row : (m : FinMap snap_cmp Snapshot) (key : SnapKey) (row : SnapRow) → with_arrays (insert (snap_rows m) key row) (λ q. array_at (get m q)) ≡ insert m key (with_array (array_at (get m key)) row)
with-row m key row = with-insert m key row (λ q. array_at (get m q)) (λ q other. refl)

-- the entries of the rows
pub entries-rows : (m : FinMap snap_cmp Snapshot) → entries (snap_rows m) ≡ map (λ e. (e.0, e.1.row)) (entries m)
unfolding snap_rows
entries-rows m = entries-seen snaps_total (map (λ e. (e.0, e.1.row)) (entries m)) (subst (IsStrictlySortedBy snap_cmp) (sym (keys_of-map_values (λ (s : Snapshot). s.row) (entries m))) (entries-sorted snap_cmp m))

-- what time leaves of a row
abbrev pub left_row : ℕ → Option SnapRow → Option SnapRow
left_row now found = option_map (rested_row now) (option_filter (stays now) found)

pub get-aged_snaps : (now : ℕ) (rows : FinMap snap_cmp SnapRow) (q : SnapKey) → get (aged_snaps now rows) q ≡ left_row now (get rows q)
unfolding aged_snaps
get-aged_snaps now rows q =
    get-seen snaps_total (map (λ e. (e.0, rested_row now e.1)) (filter (λ e. stays now e.1) (entries rows))) q
    ∙ lookup-map_values (rested_row now) (is_at (snap_cmp q)) (filter (λ e. stays now e.1) (entries rows))
    ∙ ap (option_map (rested_row now)) (lookup-filter-values (eq_by_cmp_equiv snaps_total) (stays now) q (entries rows) (IsDistinct-from_sorted snap_cmp (keys_of (entries rows)) (entries-sorted snap_cmp rows)) ∙ ap (option_filter (stays now)) (sym (get-lookup snap_cmp rows q)))

-- time does to the rows what it does to the snapshots
row-aged : (now : ℕ) (o : Option Snapshot) → row_in (aged_row now o) ≡ left_row now (row_in o)
row-aged now None = refl
row-aged now (Some s) = by (stays now s.row)
  where
    by : (b : Bool) → row_in (option_map (rested now) (cond b (Some s) None)) ≡ option_map (rested_row now) (cond b (Some s.row) None)
    by true = refl
    by false = refl

pub rows-aged : (now : ℕ) (m : FinMap snap_cmp Snapshot) → snap_rows (aged_rows now m) ≡ aged_snaps now (snap_rows m)
rows-aged now m = same_rows _ _ (λ q.
    get-row (aged_rows now m) q ∙ ap row_in (get-aged now m q) ∙ row-aged now (get m q) ∙ ap (left_row now) (sym (get-row m q)) ∙ sym (get-aged_snaps now (snap_rows m) q))

pub rows_of-advance : (m : Machine) (now : Moment) → rows_of (advance m now) ≡ aged now.second (rows_of m)
rows_of-advance m now = λ i. record { snaps = rows-aged now.second m.snaps i; own = m.own; tokens = m.tokens; vols = m.vols; books = m.books; policies = m.policies }

-- a later moment leaves of what was left what it leaves of the whole
pub aged_snaps-later : (now later : ℕ) → now ≤ later → (rows : FinMap snap_cmp SnapRow) → aged_snaps later (aged_snaps now rows) ≡ aged_snaps later rows
aged_snaps-later now later h rows =
    let bare = with_arrays rows (λ q. empty) in
    let are = rows-with rows (λ q. empty) in
    ap (λ r. aged_snaps later (aged_snaps now r)) (sym are) ∙ ap (aged_snaps later) (sym (rows-aged now bare)) ∙ sym (rows-aged later (aged_rows now bare))
    ∙ ap snap_rows (aged-aged now later h bare) ∙ rows-aged later bare ∙ ap (aged_snaps later) are

pub aged-later : (now later : ℕ) → now ≤ later → (rows : Rows) → aged later (aged now rows) ≡ aged later rows
aged-later now later h rows = λ i. record { snaps = aged_snaps-later now later h rows.snaps i; own = rows.own; tokens = rows.tokens; vols = rows.vols; books = rows.books; policies = rows.policies }
