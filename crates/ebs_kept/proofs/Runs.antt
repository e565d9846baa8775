-- What a run of a policy makes of rows and arrays.
use Rattle.std.proofs.Common.{◌≡◌, ℕ, ◌<◌, arith, Bool, true, false, cond, ◌&&◌, ◌==◌, List, [], ◌∷◌, map, Option, None, Some, refl, sym, ap, subst, ◌∙◌}
use Rattle.std.specs.Option.{option_map}
use Rattle.std.specs.List.{AllByRecursion, Contains, filter}
use Rattle.std.specs.Map.{keys_of}
use Rattle.std.proofs.Common.{Ordering}
use Rattle.std.proofs.lemmas.Map.Keys.{IsDistinct-from_sorted}
use Rattle.std.proofs.lemmas.Map.Views.{lookup-from_Contains}
use Rattle.std.proofs.lemmas.List.Elements.{All-contains_itself, recursion_from_All}
use Rattle.std.specs.Ordering.{eq_by_cmp}
use Rattle.std.specs.Cmp.{IsTotalOrder, eq_by_cmp_equiv}
use Rattle.ebs_tables.proofs.TreeMaps.{get-lookup, entries-sorted}
use Rattle.std.specs.FinMap.{FinMap, get, entries}
use Rattle.ebs_tables.proofs.MapEdits.{is_same}
use Rattle.ebs_model.specs.declared.keys.SnapKey.{SnapKey}
use Rattle.ebs_model.specs.declared.keys.VolKey.{VolKey}
use Rattle.ebs_model.specs.declared.keys.PolicyKey.{PolicyKey}
use Rattle.ebs_model.specs.declared.keys.Moment.{Moment}
use Rattle.ebs_model.specs.declared.keys.AnyKey.{AnyKey}
use Rattle.ebs_model.specs.declared.keys.AnyKey.TheVariants.{Snap, Vol}
use Rattle.ebs_model.specs.declared.policy.Policy.{Policy}
use Rattle.ebs_model.specs.declared.rows.SnapRow.{SnapRow}
use Rattle.ebs_model.specs.declared.rows.VolRow.{VolRow}
use Rattle.ebs_model.specs.declared.request.Request.{Request}
use Rattle.ebs_model.specs.declared.request.Request.TheVariants.{RunPolicy}
use Rattle.ebs_model.specs.Keys.{snap_cmp}
use Rattle.ebs_model.specs.inner.Orders.{exact_snaps, vols_total}
use Rattle.ebs_model.specs.Arrays.{WholeArray}
use Rattle.ebs_model.specs.Policies.{is_due, is_target, targets}
use Rattle.ebs_model.specs.Rules.{bin_end}
use Rattle.ebs_model.specs.Rows.{Rows, is_key}
use Rattle.ebs_model.specs.Calls.Start.{next_key}
use Rattle.ebs_model.specs.Calls.Delete.{days_in_bin}
use Rattle.ebs_model.specs.Calls.Run.{due_targets, following, new_keys, source_of, run_row, run_released, run_ended, freed, run_by}
use Rattle.ebs_model.proofs.RunLaws.{among, new_row, with_made, binned_by, left_of, run_left, run-beside}
use Rattle.ebs_kept.proofs.Arrays.{copies_of, copied, same-test}

-- what is made, and of which volumes
abbrev pub AreMade : Rows → ℕ → List AnyKey → List AnyKey → Request → Type 0
AreMade rows now made sources (RunPolicy key) = (p : Policy) × (get rows.policies key ≡ Some p)
    × (made ≡ map Snap (new_keys (next_key rows key.account) (due_targets rows key p now)))
    × (sources ≡ map (λ (e : VolKey × VolRow). Vol e.0) (due_targets rows key p now))
AreMade rows now made sources request = Unit {0}

-- ---- volumes

each : {X : Type 0} (P Q : X → Type 0) (xs : List X) → ((x : X) → P x → Q x) → AllByRecursion P xs → AllByRecursion Q xs
each P Q [] f h = tt
each P Q (x ∷ xs) f h = (f x h.0, each P Q xs f h.1)

-- each entry is found at its key
each_found : {K X : Type 0} {R : K → K → Ordering} (o : IsTotalOrder R) (m : FinMap R X) → AllByRecursion (λ (e : K × X). get m e.0 ≡ Some e.1) (entries m)
each_found {K = K} {X = X} {R = R} o m =
    each (Contains (entries m)) (λ (e : K × X). get m e.0 ≡ Some e.1) (entries m)
    (λ e there. get-lookup R m e.0 ∙ lookup-from_Contains (eq_by_cmp_equiv o) e.0 e.1 (entries m) (IsDistinct-from_sorted R (keys_of (entries m)) (entries-sorted R m)) there)
    (recursion_from_All (Contains (entries m)) (entries m) (All-contains_itself (entries m)))

filtered : {X : Type 0} (test : X → Bool) (Q : X → Type 0) (xs : List X) → AllByRecursion Q xs → AllByRecursion Q (filter test xs)
filtered test Q [] h = tt
filtered test Q (x ∷ xs) h = by (test x) (filtered test Q xs h.1)
  where
    by : (b : Bool) → AllByRecursion Q (filter test xs) → AllByRecursion Q (cond b (x ∷ filter test xs) (filter test xs))
    by true again = (h.0, again)
    by false again = again

abbrev pub IsFound : Rows → VolKey × VolRow → Type 0
IsFound rows e = get rows.vols e.0 ≡ Some e.1

-- each of them is there
pub due-found : (rows : Rows) (key : PolicyKey) (p : Policy) (now : ℕ) → AllByRecursion (IsFound rows) (due_targets rows key p now)
due-found rows key p now = by (is_due p p.last.second now)
  where
    all : AllByRecursion (IsFound rows) (entries rows.vols)
    all = each_found vols_total rows.vols

    by : (b : Bool) → AllByRecursion (IsFound rows) (cond b (targets rows key.account p) [])
    by true = filtered (λ e. (key.account == e.0.account) && is_target p e.1) (IsFound rows) (entries rows.vols) all
    by false = tt

-- ---- arrays

-- a volume's whole array where there is a source
abbrev pub from_source : (VolKey → WholeArray) → Option VolKey → WholeArray → WholeArray
from_source disk None array = array
from_source disk (Some volume) array = disk volume

same_key : (q key : SnapKey) → is_key q key ≡ true → q ≡ key
same_key q key t = is_same exact_snaps q key (sym (same-test q key) ∙ t)

-- numbers go up
none-before : (first : SnapKey) (volumes : List (VolKey × VolRow)) (q : SnapKey) → q.number < first.number → source_of first volumes q ≡ None
none-before first [] q less = refl
none-before first (e ∷ volumes) q less = by (is_key q first) refl (none-before (following first) volumes q (omega (arith, less)))
  where
    by : (b : Bool) → is_key q first ≡ b → source_of (following first) volumes q ≡ None → cond b (Some e.0) (source_of (following first) volumes q) ≡ None
    by true t h = let one : q.number ≡ first.number = ap (λ (k : SnapKey). k.number) (same_key q first t) in absurd (omega (arith, less, one))
    by false t h = h

pub copied-made : (disk : VolKey → WholeArray) (first : SnapKey) (volumes : List (VolKey × VolRow)) (q : SnapKey) (array : WholeArray)
    → copied (copies_of disk (map Snap (new_keys first volumes)) (map (λ (e : VolKey × VolRow). Vol e.0) volumes)) q array ≡ from_source disk (source_of first volumes q) array
copied-made disk first [] q array = refl
copied-made disk first (e ∷ volumes) q array =
    copied-made disk (following first) volumes q (cond (eq_by_cmp snap_cmp q first) (disk e.0) array)
    ∙ by (is_key q first) refl
  where
    by : (b : Bool) → is_key q first ≡ b
        → from_source disk (source_of (following first) volumes q) (cond (eq_by_cmp snap_cmp q first) (disk e.0) array) ≡ from_source disk (cond b (Some e.0) (source_of (following first) volumes q)) array
    by true t =
        let one : q.number ≡ first.number = ap (λ (k : SnapKey). k.number) (same_key q first t) in
        let none : source_of (following first) volumes q ≡ None = none-before (following first) volumes q (omega (arith, one)) in
        let here : eq_by_cmp snap_cmp q first ≡ true = sym (same-test q first) ∙ t in
        λ i. from_source disk (none i) (cond (here i) (disk e.0) array)
    by false t = ap (λ b. from_source disk (source_of (following first) volumes q) (cond b (disk e.0) array)) (sym (same-test q first) ∙ t)

-- a source is one of the volumes
source_in : (Q : VolKey → Type 0) (first : SnapKey) (volumes : List (VolKey × VolRow)) → AllByRecursion (λ (e : VolKey × VolRow). Q e.0) volumes → (q : SnapKey) (v : VolKey) → source_of first volumes q ≡ Some v → Q v
source_in Q first [] h q v e = cc
source_in Q first (x ∷ volumes) h q v e = by (is_key q first) (source_in Q (following first) volumes h.1 q v) e
  where
    by : (b : Bool) → (source_of (following first) volumes q ≡ Some v → Q v) → cond b (Some x.0) (source_of (following first) volumes q) ≡ Some v → Q v
    by true again e = let same : x.0 ≡ v = cc in subst Q same h.0
    by false again e = again e

pub source-known : (Q : VolKey → Type 0) → (rows : Rows) → ((e : VolKey × VolRow) → IsFound rows e → Q e.0) → (key : PolicyKey) (p : Policy) (now : ℕ) (first q : SnapKey) (v : VolKey) → source_of first (due_targets rows key p now) q ≡ Some v → Q v
source-known Q rows h key p now first q v e = source_in Q first (due_targets rows key p now) (each (IsFound rows) (λ e. Q e.0) (due_targets rows key p now) h (due-found rows key p now)) q v e

-- ---- rows

-- what stands at a key of what is made is a row of its source
pub new-at : (Q : VolKey × VolRow → Type 0) (at : Moment) (policy : PolicyKey) (p : Policy) (Z : Type 0) (q first : SnapKey) (volumes : List (VolKey × VolRow)) → AllByRecursion Q volumes
    → (source_of first volumes q ≡ None → new_row at policy p first volumes q ≡ None → Z)
    → ((e : VolKey × VolRow) → Q e → (k : SnapKey) → source_of first volumes q ≡ Some e.0 → new_row at policy p first volumes q ≡ Some (run_row at k policy p e) → Z)
    → Z
new-at Q at policy p Z q first [] h none some = none refl refl
new-at Q at policy p Z q first (e ∷ volumes) h none some = by (eq_by_cmp snap_cmp q first) refl (new-at Q at policy p Z q (following first) volumes h.1)
  where
    source_is : (b : Bool) → eq_by_cmp snap_cmp q first ≡ b → source_of first (e ∷ volumes) q ≡ cond b (Some e.0) (source_of (following first) volumes q)
    source_is b t = ap (λ b. cond b (Some e.0) (source_of (following first) volumes q)) (same-test q first ∙ t)

    row_is : (b : Bool) → eq_by_cmp snap_cmp q first ≡ b → new_row at policy p first (e ∷ volumes) q ≡ cond b (Some (run_row at first policy p e)) (new_row at policy p (following first) volumes q)
    row_is b t = ap (λ b. cond b (Some (run_row at first policy p e)) (new_row at policy p (following first) volumes q)) t

    by : (b : Bool) → eq_by_cmp snap_cmp q first ≡ b
        → ((source_of (following first) volumes q ≡ None → new_row at policy p (following first) volumes q ≡ None → Z)
        → ((e : VolKey × VolRow) → Q e → (k : SnapKey) → source_of (following first) volumes q ≡ Some e.0 → new_row at policy p (following first) volumes q ≡ Some (run_row at k policy p e) → Z) → Z)
        → Z
    by true t again = some e h.0 first (source_is true t) (row_is true t)
    by false t again = again (λ s r. none (source_is false t ∙ s) (row_is false t ∙ r)) (λ v known k s r. some v known k (source_is false t ∙ s) (row_is false t ∙ r))

-- what a run leaves of a row is the row, without its policy or with an end in the bin
pub run-kept : (P : SnapRow → Type 0) → ((w : SnapRow) → P w → P (freed w)) → ((w : SnapRow) (end : Moment) → P w → P (record w { bin_end = Some end }))
    → (rows : Rows) (at : Moment) (key : PolicyKey) (p : Policy) (q : SnapKey) → ((w : SnapRow) → with_made rows at key p q ≡ Some w → P w) → (row : SnapRow) → run_left rows at key p q ≡ Some row → P row
run-kept P freeing binning rows at key p q h row e = by (among q (run_ended rows at key p)) (among q (run_released rows at key p)) e
  where
    free : (o : Option SnapRow) → with_made rows at key p q ≡ o → option_map freed o ≡ Some row → P row
    free None is e = cc
    free (Some w) is e = let same : freed w ≡ row = cc in subst P same (freeing w (h w is))

    binned : (w : SnapRow) (d : Option ℕ) → P w → binned_by at w d ≡ Some row → P row
    binned w None known e = cc
    binned w (Some days) known e = let same : record w { bin_end = Some (bin_end at.second days) } ≡ row = cc in subst P same (binning w (bin_end at.second days) known)

    gone : (o : Option SnapRow) → with_made rows at key p q ≡ o → left_of rows at q (option_map freed o) ≡ Some row → P row
    gone None is e = cc
    gone (Some w) is e = binned (freed w) (days_in_bin rows q (freed w)) (freeing w (h w is)) e

    by : (a b : Bool) → cond a (left_of rows at q (option_map freed (with_made rows at key p q))) (cond b (option_map freed (with_made rows at key p q)) (with_made rows at key p q)) ≡ Some row → P row
    by true b e = gone (with_made rows at key p q) refl e
    by false true e = free (with_made rows at key p q) refl e
    by false false e = h row e

-- volumes stay
pub run-vols : (rows : Rows) (at : Moment) (key : PolicyKey) (o : Option Policy) → (run_by rows at key o).vols ≡ rows.vols
run-vols rows at key None = refl
run-vols rows at key (Some p) = (run-beside rows at key p).0
