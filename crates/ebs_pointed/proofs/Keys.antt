-- The keys of a finite map, and its rows at their own keys.
use Rattle.std.proofs.Common.{◌≡◌, ℕ, true, cond, ◌&&◌, eqb, nat_le, List, [], ◌∷◌, ◌++◌, map, Ordering, Less, refl, sym, ap, subst, ◌∙◌, arith}
use Rattle.std.proofs.lemmas.Bool.Decides.{nat_tests}
use Rattle.std.specs.List.{filter, AllByRecursion}
use Rattle.std.specs.List.Sorted.{IsStrictlySortedBy}
use Rattle.std.specs.Map.{keys_of}
use Rattle.std.specs.Cmp.{IsTotalOrder, nat_cmp_total}
use Rattle.std.specs.Ordering.{nat_cmp, is_lt}
use Rattle.std.specs.FinMap as fin
use Rattle.std.specs.FinMap.{FinMap, entries, nat_cmp-IsAntisymmetric}
use Rattle.ebs_tables.proofs.TreeMaps.{entries-seen, entries-sorted, from_entries-entries, rewritten, sorted-rewritten}
use Rattle.ebs_model.specs.declared.rows.SnapRow.{SnapRow}
use Rattle.ebs_model.specs.declared.keys.SnapKey.{SnapKey}
use Rattle.ebs_model.specs.Keys.{snap_cmp}
use Rattle.ebs_model.specs.Time.{rested_row, stays}
use Rattle.ebs_model.specs.inner.Orders.{snaps_total}
use Rattle.ebs_model.specs.inner.Rows.{aged_snaps}
use Rattle.ebs_lawful.proofs.Maps.{each-entry}
use Rattle.ebs_row_rules.specs.Order.{ascends}
use Rattle.ebs_catalog.specs.declared.rows.KeptRow.{KeptRow}
use Rattle.ebs_catalog.specs.Held.{whole}
use Rattle.ebs_pointed.specs.Placed.{ArePlaced, HaveKeys}
use Rattle.ebs_pointed.specs.Snapshots.{put_set}

pub itself : (n : ℕ) → eqb n n ≡ true
itself n = grind (arith, nat_tests)

pub same_number : (m n : ℕ) → eqb m n ≡ true → m ≡ n
same_number m n t = grind (arith, nat_tests)

at_zero : (n : ℕ) → nat_le 0 n ≡ true
at_zero n = grind (arith, nat_tests)

-- all numbers are at 0 or above it
pub from_none : {X : Type 0} (es : List (ℕ × X)) → filter (λ e. nat_le 0 e.0) es ≡ es
from_none [] = refl
from_none (e ∷ es) = (λ i. cond (at_zero e.0 i) (e ∷ from_none es i) (from_none es i))

-- rows whose keys are sorted ascend
pub sorted-rows : {K X : Type 0} (R : K → K → Ordering) (key : X → K) (xs : List X) → IsStrictlySortedBy R (map key xs) → ascends R key xs ≡ true
unfolding IsStrictlySortedBy
sorted-rows R key [] h = refl
sorted-rows R key (x ∷ []) h = refl
sorted-rows R key (x ∷ y ∷ ys) h = λ i. is_lt (h.0.0 i) && sorted-rows R key (y ∷ ys) h.1 i

as_they_are : {K : Type 0} (ks : List K) → map (λ k. k) ks ≡ ks
as_they_are [] = refl
as_they_are (k ∷ ks) = ap (λ l. k ∷ l) (as_they_are ks)

pub keys-ascend : {K X : Type 0} (R : K → K → Ordering) (m : FinMap R X) → ascends R (λ k. k) (fin.keys m) ≡ true
keys-ascend R m = sorted-rows R (λ k. k) (fin.keys m) (subst (IsStrictlySortedBy R) (sym (as_they_are (fin.keys m))) (entries-sorted R m))

pub all_joined : {X : Type 0} (P : X → Type 0) (xs ys : List X) → AllByRecursion P xs → AllByRecursion P ys → AllByRecursion P (xs ++ ys)
all_joined P [] ys h all = all
all_joined P (x ∷ xs) ys h all = (h.0, all_joined P xs ys h.1 all)

pub sorted-joined : {K : Type 0} (R : K → K → Ordering) (xs ys : List K) → IsStrictlySortedBy R xs → IsStrictlySortedBy R ys → AllByRecursion (λ x. AllByRecursion (λ y. R x y ≡ Less) ys) xs → IsStrictlySortedBy R (xs ++ ys)
unfolding IsStrictlySortedBy
sorted-joined R [] ys h up far = up
sorted-joined R (x ∷ xs) ys h up far = (all_joined (λ y. R x y ≡ Less) xs ys h.0 far.0, sorted-joined R xs ys h.1 up far.1)

-- a set is made of its numbers again
tagged : (es : List (ℕ × Unit {0})) → map {B = ℕ × Unit {0}} (λ n. (n, tt)) (keys_of es) ≡ es
tagged [] = refl
tagged (e ∷ es) = ap (λ l. e ∷ l) (tagged es)

pub keys-set : (m : FinMap nat_cmp (Unit {0})) → put_set (fin.keys m) ≡ m
keys-set m = ap fin.from_entries (tagged (entries m)) ∙ from_entries-entries nat_cmp_total nat_cmp-IsAntisymmetric m

-- the rows of a map that stand at their own keys, as a list
pub have_keys : {K V : Type 0} {R : K → K → Ordering} (o : IsTotalOrder R) (own : V → K) (m : FinMap R V) (rows : List (K × V)) → rows ≡ entries m → ArePlaced own m → HaveKeys own rows
have_keys o own m rows is placed = subst (HaveKeys own) (sym is) (each-entry o m (λ e. own e.1 ≡ e.0) (λ e found. placed e.0 e.1 found))

kept_keys : (es : List (SnapKey × KeptRow)) → HaveKeys (λ (row : SnapRow). row.key) (map {B = SnapKey × SnapRow} (λ e. (e.0, whole e.1)) es) → HaveKeys (λ (kept : KeptRow). kept.row.key) es
kept_keys [] h = tt
kept_keys (e ∷ es) h = (h.0, kept_keys es h.1)

-- and of rows as they are kept
pub have_kept_keys : (m : FinMap snap_cmp SnapRow) (es : List (SnapKey × KeptRow)) → map {B = SnapKey × SnapRow} (λ e. (e.0, whole e.1)) es ≡ entries m → ArePlaced (λ (row : SnapRow). row.key) m → HaveKeys (λ (kept : KeptRow). kept.row.key) es
have_kept_keys m es is placed = kept_keys es (have_keys snaps_total (λ (row : SnapRow). row.key) m (map {B = SnapKey × SnapRow} (λ e. (e.0, whole e.1)) es) is placed)

-- what a moment leaves of a map's rows
pub entries-left : (now : ℕ) (m : FinMap snap_cmp SnapRow) → entries (aged_snaps now m) ≡ rewritten (stays now) (rested_row now) (entries m)
unfolding aged_snaps
entries-left now m = entries-seen snaps_total (rewritten (stays now) (rested_row now) (entries m)) (sorted-rewritten (stays now) (rested_row now) snap_cmp (entries m) (entries-sorted snap_cmp m))
