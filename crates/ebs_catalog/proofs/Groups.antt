-- Snapshots by volume.
use Rattle.std.proofs.Common.{◌≡◌, ℕ, Bool, true, false, cond, ◌&&◌, ◌==◌, List, [], ◌∷◌, ◌++◌, map, Option, Some, None, unwrap_or, refl, sym, ap, ◌∙◌, arith}
use Rattle.std.proofs.lemmas.Bool.{false≢true}
use Rattle.std.proofs.lemmas.Bool.Decides.{nat_tests}
use Rattle.std.specs.List.{filter}
use Rattle.std.specs.Ordering.{eq_by_cmp}
use Rattle.std.specs.FinMap.{FinMap, get, insert, remove, get-insert, get-remove}
use Rattle.ebs_tables.proofs.MapEdits.{is_same, tied}
use Rattle.ebs_model.specs.declared.keys.SnapKey.{SnapKey}
use Rattle.ebs_model.specs.declared.keys.VolKey.{VolKey}
use Rattle.ebs_model.specs.declared.keys.PolicyKey.{PolicyKey}
use Rattle.ebs_model.specs.declared.keys.Moment.{Moment}
use Rattle.ebs_model.specs.declared.keys.AnyKey.{AnyKey}
use Rattle.ebs_model.specs.declared.policy.Made.{Made}
use Rattle.ebs_model.specs.Keys.{vol_cmp}
use Rattle.ebs_model.specs.inner.Orders.{vols_total, exact_vols}
use Rattle.ebs_model.specs.Policies.{is_same_volume}
use Rattle.ebs_model.proofs.VolumeGroups.{same_volume}
use Rattle.ebs_catalog.specs.declared.rows.KeptRow.{KeptRow}
use Rattle.ebs_catalog.specs.Runs.{group, IsAdded, kept_made, counts_for, added_row, added_rows, new_of, new_by, added_new}

same_itself : (n : ℕ) → (n == n) ≡ true
same_itself n = grind (arith, nat_tests)

pub itself : (v : VolKey) → is_same_volume (Some v) (Some v) ≡ true
itself v = ap (λ b. b && (v.number == v.number)) (same_itself v.account) ∙ same_itself v.number

pub is-volume : (v w : VolKey) → eq_by_cmp vol_cmp v w ≡ is_same_volume (Some v) (Some w)
is-volume v w = by (eq_by_cmp vol_cmp v w) (is_same_volume (Some v) (Some w)) refl refl
  where
    by : (a b : Bool) → eq_by_cmp vol_cmp v w ≡ a → is_same_volume (Some v) (Some w) ≡ b → a ≡ b
    by true true s t = refl
    by false false s t = refl
    by true false s t = absurd (false≢true (sym t ∙ ap (λ k. is_same_volume (Some v) (Some k)) (sym (is_same exact_vols v w s)) ∙ itself v))
    by false true s t = absurd (false≢true (sym s ∙ ap (λ (o : Option VolKey). eq_by_cmp vol_cmp v (unwrap_or o v)) (sym (same_volume (Some v) (Some w) t)) ∙ tied vols_total v))

-- a group that was taken and is written again with one more
pub one-added : (m : FinMap vol_cmp (List Made)) (volume : VolKey) (made : Made) (taken : List Made) → taken ≡ group m volume → IsAdded m (insert (remove m volume) volume (taken ++ made ∷ [])) volume made
one-added m volume made taken is = λ v.
    ap (λ o. unwrap_or o []) (get-insert vols_total (remove m volume) volume (taken ++ made ∷ []) v ∙ ap (cond (eq_by_cmp vol_cmp v volume) (Some (taken ++ made ∷ []))) (get-remove vols_total m volume v))
    ∙ by v (eq_by_cmp vol_cmp v volume) refl
  where
    by : (v : VolKey) (b : Bool) → eq_by_cmp vol_cmp v volume ≡ b
        → unwrap_or (cond b (Some (taken ++ made ∷ [])) (cond b None (get m v))) [] ≡ cond (is_same_volume (Some v) (Some volume)) (group m v ++ made ∷ []) (group m v)
    by v true t =
        ap (λ ms. ms ++ made ∷ []) (is ∙ ap (group m) (sym (is_same exact_vols v volume t)))
        ∙ ap (λ b. cond b (group m v ++ made ∷ []) (group m v)) (sym t ∙ is-volume v volume)
    by v false t = ap (λ b. cond b (group m v ++ made ∷ []) (group m v)) (sym t ∙ is-volume v volume)

append-same : {A : Type 0} (xs ys zs : List A) → (xs ++ ys) ++ zs ≡ xs ++ (ys ++ zs)
append-same [] ys zs = refl
append-same (x ∷ xs) ys zs = ap (λ l. x ∷ l) (append-same xs ys zs)

-- a row more of those that are added
pub row-added : (policy : PolicyKey) (from : ℕ) (until : Option ℕ) (now : ℕ) (v : VolKey) (e : SnapKey × KeptRow) (rows : List (SnapKey × KeptRow)) (old : List Made)
    → added_rows policy from until now v rows (added_row policy from until now v e old) ≡ added_rows policy from until now v (e ∷ rows) old
row-added policy from until now v e rows old = by (counts_for policy from until now v e)
  where
    rest : List (SnapKey × KeptRow)
    rest = filter (counts_for policy from until now v) rows

    by : (b : Bool) → cond b (old ++ kept_made now e ∷ []) old ++ map (kept_made now) rest ≡ old ++ map (kept_made now) (cond b (e ∷ rest) rest)
    by true = append-same old (kept_made now e ∷ []) (map (kept_made now) rest)
    by false = refl

-- one more of what is made
pub one-made : (at : Moment) (v : VolKey) (id source : AnyKey) (made sources : List AnyKey) (old : List Made)
    → added_new at v made sources (old ++ new_of at v id source) ≡ added_new at v (id ∷ made) (source ∷ sources) old
one-made at v id source made sources old = append-same old (new_of at v id source) (new_by at v made sources)
