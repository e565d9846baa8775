-- What time does to the snapshots, key by key.
use Rattle.std.proofs.Common.{◌≡◌, ℕ, ◌+◌, ◌*◌, ◌≤◌, Bool, true, false, cond, not, ◌&&◌, List, Option, Some, None, refl, sym, ap, ◌∙◌, arith}
use Rattle.std.proofs.lemmas.Bool.Decides.{nat_tests}
use Rattle.std.proofs.lemmas.Bool.{false≢true}
use Rattle.std.specs.Prelude.{nat_le}
use Rattle.std.specs.Option.{option_map}
use Rattle.std.specs.List.{filter, count_by}
use Rattle.std.specs.List.Sorted.{IsStrictlySortedBy}
use Rattle.std.specs.Map.{keys_of}
use Rattle.std.specs.BTreeMap.{is_at}
use Rattle.std.specs.Ordering.{eq_by_cmp}
use Rattle.std.specs.Cmp.{eq_by_cmp_equiv}
use Rattle.std.proofs.lemmas.Map.Entries.{option_filter, lookup-filter-values}
use Rattle.std.proofs.lemmas.Map.Made.{lookup-map_values}
use Rattle.std.proofs.lemmas.Map.Keys.{IsDistinct-from_sorted}
use Rattle.std.specs.FinMap.{FinMap, get, insert, remove, from_entries, entries, same_map, get-insert, get-remove}
use Rattle.std.specs.FinMap as fin
use Rattle.ebs_model.specs.declared.keys.SnapKey.{SnapKey}
use Rattle.ebs_model.specs.declared.keys.Moment.{Moment}
use Rattle.ebs_model.specs.Keys.{snap_cmp}
use Rattle.ebs_model.specs.Time.{Snapshot, is_failed, status_by, status_at, is_reached, stays, rested}
use Rattle.ebs_model.specs.Machine.{aged, aged_rows}
use Rattle.ebs_tables.proofs.TreeMaps.{entries-seen, get-seen, get-lookup, entries-sorted, sorted-rewritten, count_by-rewritten}
use Rattle.ebs_model.specs.inner.Orders.{snaps_total, exact_snaps}

abbrev pub lasts : ℕ → Snapshot → Bool
lasts now s = stays now s.row

abbrev pub fails : Snapshot → ℕ → Bool
fails s now = is_failed (status_at s.row now)

-- what time leaves of a snapshot
abbrev pub aged_row : ℕ → Option Snapshot → Option Snapshot
aged_row now found = option_map (rested now) (option_filter (lasts now) found)

pub get-aged : (now : ℕ) (m : FinMap snap_cmp Snapshot) (q : SnapKey) → get (aged_rows now m) q ≡ aged_row now (get m q)
unfolding aged_rows
get-aged now m q =
    let distinct = IsDistinct-from_sorted snap_cmp (keys_of (entries m)) (entries-sorted snap_cmp m) in
    get-seen snaps_total (aged now (entries m)) q
    ∙ lookup-map_values (rested now) (is_at (snap_cmp q)) (filter (λ e. lasts now e.1) (entries m))
    ∙ ap (option_map (rested now)) (lookup-filter-values (eq_by_cmp_equiv snaps_total) (lasts now) q (entries m) distinct ∙ ap (option_filter (lasts now)) (sym (get-lookup snap_cmp m q)))

aged_cond : (now : ℕ) (b : Bool) (x y : Option Snapshot) → aged_row now (cond b x y) ≡ cond b (aged_row now x) (aged_row now y)
aged_cond now true x y = refl
aged_cond now false x y = refl

-- a row that time leaves as it is
pub aged-insert : (now : ℕ) (m : FinMap snap_cmp Snapshot) (k : SnapKey) (row : Snapshot) → aged_row now (Some row) ≡ Some row → aged_rows now (insert m k row) ≡ insert (aged_rows now m) k row
aged-insert now m k row h = same_map snaps_total exact_snaps _ _ (λ q.
    get-aged now (insert m k row) q ∙ ap (aged_row now) (get-insert snaps_total m k row q) ∙ aged_cond now (eq_by_cmp snap_cmp q k) _ _
    ∙ (λ i. cond (eq_by_cmp snap_cmp q k) (h i) (sym (get-aged now m q) i)) ∙ sym (get-insert snaps_total (aged_rows now m) k row q))

pub aged-remove : (now : ℕ) (m : FinMap snap_cmp Snapshot) (k : SnapKey) → aged_rows now (remove m k) ≡ remove (aged_rows now m) k
aged-remove now m k = same_map snaps_total exact_snaps _ _ (λ q.
    get-aged now (remove m k) q ∙ ap (aged_row now) (get-remove snaps_total m k q) ∙ aged_cond now (eq_by_cmp snap_cmp q k) _ _
    ∙ ap (cond (eq_by_cmp snap_cmp q k) None) (sym (get-aged now m q)) ∙ sym (get-remove snaps_total (aged_rows now m) k q))

later_true : (x now later : ℕ) → now ≤ later → nat_le x now ≡ true → nat_le x later ≡ true
later_true x now later h e = grind (arith, nat_tests)

pending_failed : (b : Bool) → is_failed (status_by false b) ≡ b
pending_failed true = refl
pending_failed false = refl

failed_later : (completed : Bool) (x now later : ℕ) → now ≤ later → is_failed (status_by completed (nat_le x now)) ≡ true → is_failed (status_by completed (nat_le x later)) ≡ true
failed_later true x now later h e = absurd (false≢true e)
failed_later false x now later h e = pending_failed _ ∙ later_true x now later h (sym (pending_failed _) ∙ e)

reached_later : (end : Option Moment) (now later : ℕ) → now ≤ later → is_reached end now ≡ true → is_reached end later ≡ true
reached_later None now later h e = absurd (false≢true e)
reached_later (Some end) now later h e = later_true end.second now later h e

kept_empty : {A : Type 0} (a b : Bool) (none x : A) → (a ≡ true → b ≡ true) → cond b none (cond a none x) ≡ cond b none x
kept_empty true b none x h = ap (λ c. cond c none none) (h refl) ∙ sym (ap (λ c. cond c none x) (h refl))
kept_empty false b none x h = refl

rested_later : (now later : ℕ) → now ≤ later → (row : Snapshot) → rested later (rested now row) ≡ rested later row
rested_later now later h row =
    let failed = failed_later row.row.completed (row.row.last.second + 60 * row.row.timeout) now later h in
    λ i. record {
      row = record row.row { put = kept_empty (fails row now) (fails row later) fin.empty row.row.put failed i };
      array = kept_empty (fails row now) (fails row later) fin.empty row.array failed i;
    }

aged_row_later : (now later : ℕ) → now ≤ later → (found : Option Snapshot) → aged_row later (aged_row now found) ≡ aged_row later found
aged_row_later now later h None = refl
aged_row_later now later h (Some row) =
    elim (is_reached row.row.bin_end now) as (λ b. is_reached row.row.bin_end now ≡ b → aged_row later (option_map (rested now) (cond (not b) (Some row) None)) ≡ aged_row later (Some row)) [
      | true ↦ λ e. sym (ap (λ b. option_map (rested later) (cond (not b) (Some row) None)) (reached_later row.row.bin_end now later h e))
      | false ↦ λ e. mapped (not (is_reached row.row.bin_end later))
    ] refl
  where
    mapped : (b : Bool) → option_map (rested later) (cond b (Some (rested now row)) None) ≡ option_map (rested later) (cond b (Some row) None)
    mapped true = ap Some (rested_later now later h row)
    mapped false = refl

pub aged-aged : (now later : ℕ) → now ≤ later → (m : FinMap snap_cmp Snapshot) → aged_rows later (aged_rows now m) ≡ aged_rows later m
aged-aged now later h m = same_map snaps_total exact_snaps _ _ (λ q.
    get-aged later (aged_rows now m) q ∙ ap (aged_row later) (get-aged now m q) ∙ aged_row_later now later h (get m q) ∙ sym (get-aged later m q))

-- an upload that hasn't failed is left as it is
pub rested-same : (now : ℕ) (row : Snapshot) → fails row now ≡ false → rested now row ≡ row
rested-same now row h = λ i. record { row = record row.row { put = cond (h i) fin.empty row.row.put }; array = cond (h i) fin.empty row.array }

pub aged_row-same : (now : ℕ) (row : Snapshot) → lasts now row ≡ true → fails row now ≡ false → aged_row now (Some row) ≡ Some row
aged_row-same now row h f = ap (λ b. option_map (rested now) (cond b (Some row) None)) h ∙ ap Some (rested-same now row f)

-- a finite map is what its entries make
pub from_entries-entries : (m : FinMap snap_cmp Snapshot) → from_entries (entries m) ≡ m
from_entries-entries m = same_map snaps_total exact_snaps _ _ (λ q. get-seen snaps_total (entries m) q ∙ sym (get-lookup snap_cmp m q))

-- the rows at a moment, of rows that are kept as they were at an earlier one
module _ (clock now : ℕ) (later : clock ≤ now) (raw m : FinMap snap_cmp Snapshot) (is : aged_rows clock raw ≡ m) where
  pub rows-now : aged_rows now m ≡ aged_rows now raw
  rows-now = ap (aged_rows now) (sym is) ∙ aged-aged clock now later raw

  pub get-now : (key : SnapKey) (found : Option Snapshot) → found ≡ get raw key → get (aged_rows now m) key ≡ aged_row now found
  get-now key found e = ap (λ rows. get rows key) rows-now ∙ get-aged now raw key ∙ ap (aged_row now) (sym e)

  pub insert-now : (key : SnapKey) (row : Snapshot) → aged_row now (Some row) ≡ Some row → aged_rows now (insert raw key row) ≡ insert (aged_rows now m) key row
  insert-now key row h = aged-insert now raw key row h ∙ ap (λ rows. insert rows key row) (sym rows-now)

  pub remove-now : (key : SnapKey) → aged_rows now (remove raw key) ≡ remove (aged_rows now m) key
  remove-now key = aged-remove now raw key ∙ ap (λ rows. remove rows key) (sym rows-now)

-- what is found at the moment, of what is kept
pub found-stays : (now : ℕ) (kept row : Snapshot) → aged_row now (Some kept) ≡ Some row → lasts now kept ≡ true
found-stays now kept row e = elim (lasts now kept) as (λ b. option_map (rested now) (cond b (Some kept) None) ≡ Some row → b ≡ true) [ true ↦ λ e. refl | false ↦ λ e. cc ] e

pub found-rested : (now : ℕ) (kept row : Snapshot) → aged_row now (Some kept) ≡ Some row → rested now kept ≡ row
found-rested now kept row e = elim (lasts now kept) as (λ b. option_map (rested now) (cond b (Some kept) None) ≡ Some row → rested now kept ≡ row) [ true ↦ λ e. cc | false ↦ λ e. cc ] e

-- of a tree map's entries
pub aged_rows-seen : (now : ℕ) (es : List (SnapKey × Snapshot)) → IsStrictlySortedBy snap_cmp (keys_of es) → aged_rows now (from_entries es) ≡ from_entries (aged now es)
unfolding aged_rows
aged_rows-seen now es sorted = ap (λ x. from_entries (aged now x)) (entries-seen snaps_total es sorted)

-- the entries at a moment
pub entries-aged : (now : ℕ) (m : FinMap snap_cmp Snapshot) → entries (aged_rows now m) ≡ aged now (entries m)
unfolding aged_rows
entries-aged now m = entries-seen snaps_total (aged now (entries m)) (sorted-rewritten (lasts now) (rested now) snap_cmp (entries m) (entries-sorted snap_cmp m))

-- a count at a moment, over a tree map's entries
pub count-aged : (now : ℕ) (p : SnapKey × Snapshot → Bool) (es : List (SnapKey × Snapshot)) (m : FinMap snap_cmp Snapshot) → from_entries es ≡ m → IsStrictlySortedBy snap_cmp (keys_of es) → count_by p (entries (aged_rows now m)) ≡ count_by (λ e. lasts now e.1 && p (e.0, rested now e.1)) es
count-aged now p es m is sorted = ap (count_by p) (entries-aged now m ∙ ap (aged now) (ap entries (sym is) ∙ entries-seen snaps_total es sorted)) ∙ count_by-rewritten (lasts now) (rested now) p es

-- where there is nothing, time leaves nothing
pub aged-empty : (now : ℕ) → aged_rows now fin.empty ≡ fin.empty
aged-empty now = same_map snaps_total exact_snaps _ _ (λ q. get-aged now fin.empty q ∙ ap (aged_row now) (fin.get-empty snap_cmp q) ∙ sym (fin.get-empty snap_cmp q))
