-- Every snapshot of a policy was started at a moment of the store.
use Rattle.std.proofs.Common.{◌≡◌, ℕ, ◌≤◌, ◌^◌, Bool, true, false, cond, List, [], ◌∷◌, map, Some, Ordering, Less, Equal, Greater, sym, subst}
use Rattle.std.specs.List.{filter, AllByRecursion}
use Rattle.std.specs.FinMap.Entries.{put, by_order}
use Rattle.std.specs.FinMap.{get, entries, entries-insert}
use Rattle.std.proofs.lemmas.List.Elements.{All-from_recursion}
use Rattle.ebs_model.specs.declared.keys.SnapKey.{SnapKey}
use Rattle.ebs_model.specs.declared.keys.VolKey.{VolKey}
use Rattle.ebs_model.specs.declared.keys.PolicyKey.{PolicyKey}
use Rattle.ebs_model.specs.declared.keys.Moment.{Moment}
use Rattle.ebs_model.specs.declared.policy.Policy.{Policy}
use Rattle.ebs_model.specs.declared.rows.SnapRow.{SnapRow}
use Rattle.ebs_model.specs.declared.rows.VolRow.{VolRow}
use Rattle.ebs_model.specs.Keys.{snap_cmp}
use Rattle.ebs_model.specs.inner.Orders.{snaps_total}
use Rattle.ebs_model.specs.Time.{stays, rested_row}
use Rattle.ebs_model.specs.Policies.{is_managed, is_same_volume, made_of, of_volume, managed}
use Rattle.ebs_model.specs.Rows.{Rows}
use Rattle.ebs_model.specs.inner.Rows.{aged, aged_snaps}
use Rattle.ebs_model.specs.Calls.Start.{next_key, with_upload}
use Rattle.ebs_model.specs.Calls.Run.{run_row, with_new, due_targets, made_rows}
use Rattle.ebs_lifecycle.specs.Retention.{AreStarted}
use Rattle.ebs_catalog.proofs.CountLaws.{entries-aged}
use Rattle.ebs_catalog.proofs.Picked.{each, all-found}
use Rattle.ebs_catalog.proofs.Placed.{Entries}

abbrev IsStarted : SnapKey × SnapRow → Type 0
IsStarted e = e.1.start.second ≤ 2 ^ 36

abbrev AllStarted : Entries → Type 0
AllStarted es = AllByRecursion IsStarted es

of_some : {A : Type 0} (P : A → Type 0) (p : A → Bool) (xs : List A) → AllByRecursion P xs → AllByRecursion P (filter p xs)
of_some P p [] h = tt
of_some P p (x ∷ xs) h = by (p x) (of_some P p xs h.1)
  where
    by : (b : Bool) → AllByRecursion P (filter p xs) → AllByRecursion P (cond b (x ∷ filter p xs) (filter p xs))
    by true rest = (h.0, rest)
    by false rest = rest

with_one : (k : SnapKey) (row : SnapRow) (es : Entries) → row.start.second ≤ 2 ^ 36 → AllStarted es → AllStarted (put snap_cmp k row es)
with_one k row [] h all = (h, tt)
with_one k row (e ∷ es) h all = by (snap_cmp k e.0) (with_one k row es h all.1)
  where
    by : (r : Ordering) → AllStarted (put snap_cmp k row es) → AllStarted (by_order r ((k, row) ∷ e ∷ es) ((e.0, row) ∷ es) (e ∷ put snap_cmp k row es))
    by Less rest = (h, all)
    by Equal rest = (h, all.1)
    by Greater rest = (all.0, rest)

rested_each : (now : ℕ) (es : Entries) → AllStarted es → AllStarted (map (λ e. (e.0, rested_row now e.1)) es)
rested_each now [] h = tt
rested_each now (e ∷ es) h = (h.0, rested_each now es h.1)

made_each : (now : ℕ) (es : Entries) → AllStarted es → AllByRecursion (λ m. m.start.second ≤ 2 ^ 36) (map (made_of now) es)
made_each now [] h = tt
made_each now (e ∷ es) h = (h.0, made_each now es h.1)

with_all : (rows : Rows) (at : Moment) (key : PolicyKey) (policy : Policy) (volumes : List (VolKey × VolRow)) → at.second ≤ 2 ^ 36
    → AllStarted (entries rows.snaps) → AllStarted (entries (with_new rows at key policy volumes).snaps)
with_all rows at key policy [] h all = all
with_all rows at key policy (e ∷ volumes) h all =
    let k : SnapKey = next_key rows key.account in
    let row : SnapRow = run_row at k key policy e in
    with_all (with_upload rows k row) at key policy volumes h (subst AllStarted (sym (entries-insert snaps_total rows.snaps k row)) (with_one k row (entries rows.snaps) h all))

-- of rows that were, with those that a run makes
pub volume-started : (rows : Rows) (at : Moment) (key : PolicyKey) (policy : Policy) (v : VolKey) → at.second ≤ 2 ^ 36
    → ((k : SnapKey) (row : SnapRow) → get rows.snaps k ≡ Some row → row.start.second ≤ 2 ^ 36)
    → AreStarted (of_volume at.second (Some v) (managed (made_rows (aged at.second rows) at key policy) key at.second))
volume-started rows at key policy v h starts =
    let es : Entries = entries rows.snaps in
    let before : AllStarted es = each (λ q. get rows.snaps q.0 ≡ Some q.1) IsStarted (λ q is. starts q.0 q.1 is) es (all-found snaps_total rows.snaps) in
    let left : AllStarted (entries (aged_snaps at.second rows.snaps)) =
    subst AllStarted (sym (entries-aged at.second rows.snaps)) (rested_each at.second (filter (λ e. stays at.second e.1) es) (of_some IsStarted (λ e. stays at.second e.1) es before)) in
    let made : AllStarted (entries (made_rows (aged at.second rows) at key policy).snaps) = with_all (aged at.second rows) at key policy (due_targets (aged at.second rows) key policy at.second) h left in
    let own = of_some IsStarted (is_managed key at.second) (entries (made_rows (aged at.second rows) at key policy).snaps) made in
    All-from_recursion (λ m. m.start.second ≤ 2 ^ 36) (of_volume at.second (Some v) (managed (made_rows (aged at.second rows) at key policy) key at.second))
    (made_each at.second (filter (λ e. is_same_volume (Some v) e.1.volume) (managed (made_rows (aged at.second rows) at key policy) key at.second))
    (of_some IsStarted (λ e. is_same_volume (Some v) e.1.volume) (managed (made_rows (aged at.second rows) at key policy) key at.second) own))
