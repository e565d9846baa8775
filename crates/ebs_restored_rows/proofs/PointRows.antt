-- A checkpoint's rules let its rows be put back, and its lists say its machine's rows.
use Rattle.std.proofs.Common.{◌≡◌, Bool, true, false, cond, List, [], ◌∷◌, map, Some, refl, sym, ap, ◌∙◌}
use Rattle.std.specs.List.{list_all}
use Rattle.std.specs.Ordering.{eq_by_cmp}
use Rattle.std.specs.FinMap.{find, same_map, get-from_entries}
use Rattle.ebs_model.specs.declared.keys.SnapKey.{SnapKey}
use Rattle.ebs_model.specs.Keys.{snap_cmp}
use Rattle.ebs_model.specs.inner.Orders.{snaps_total, exact_snaps}
use Rattle.ebs_model.specs.Machine.{rows_of, snap_rows}
use Rattle.ebs_model.proofs.RowLaws.{get-row, row_in}
use Rattle.ebs_checkpoints.specs.declared.snapshots.SnapPoint.{SnapPoint}
use Rattle.ebs_checkpoints.specs.declared.checkpoint.Checkpoint.{Checkpoint}
use Rattle.ebs_node_rules.specs.Arrays.{Arrays, arrays_of}
use Rattle.ebs_node_rules.specs.States.{status_of, has_node_by, is_ahead, is_plain, is_upload_or_done, has_puts_by, fits_state}
use Rattle.ebs_checkpoint_rules.specs.Rules.{HasRules}
use Rattle.ebs_recovery.specs.inner.Bases.{snapshot_of, snaps_of, machine_of}
use Rattle.ebs_recovery.specs.Bases.{row_of, vols_of, owns_of, tokens_of, books_of, policies_of}
use Rattle.ebs_lawful_points.proofs.Parts.{five, each-of, all-of, weaker}
use Rattle.ebs_lawful_points.proofs.Taken.{within, owned}
use Rattle.ebs_restored_rows.specs.Restores.{MayRestore}
use Rattle.ebs_restored_rows.specs.Said.{snaps_said, rows_said}

-- ---- rules

passes : {X : Type 0} (first second : X → Bool) → ((x : X) → first x ≡ true → second x ≡ true) → (xs : List X) → list_all first xs ≡ true → list_all second xs ≡ true
passes first second gives xs all = all-of second xs (weaker (λ x. first x ≡ true) (λ x. second x ≡ true) gives xs (each-of first xs all))

pub rules-let-restore : (point : Checkpoint) → HasRules point → MayRestore point.accounts point.snapshots point.volumes point.rules point.policies
rules-let-restore point rules =
    let inside = within point rules in
    let mine = owned point rules in
    record {
      accounts_within = inside.accounts;
      snapshots_within = inside.snapshots;
      volumes_within = inside.volumes;
      rules_within = inside.rules;
      policies_within = inside.policies;
      plain = passes (fits_state point.clock.second point.nodes) is_plain (λ p e. (parts p e).2) point.snapshots rules.states;
      uploads = passes (fits_state point.clock.second point.nodes) is_upload_or_done (λ p e. (parts p e).3) point.snapshots rules.states;
      tokens_used = mine.tokens;
      snapshots_owned = mine.snapshots;
      volumes_owned = mine.volumes;
      rules_owned = mine.rules;
    }
  where
    parts : (p : SnapPoint) → fits_state point.clock.second point.nodes p ≡ true → (has_node_by (status_of p point.clock.second) point.nodes p ≡ true) × (is_ahead p.bin_end point.clock.second ≡ true) × (is_plain p ≡ true) × (is_upload_or_done p ≡ true) × (has_puts_by (status_of p point.clock.second) p ≡ true)
    parts p e = five (has_node_by (status_of p point.clock.second) point.nodes p) (is_ahead p.bin_end point.clock.second) (is_plain p) (is_upload_or_done p) (has_puts_by (status_of p point.clock.second) p) e

-- ---- the machine's rows

find-rows : (arrays : Arrays) (ps : List SnapPoint) (q : SnapKey) → find snap_cmp q (map (λ (p : SnapPoint). (p.key, row_of p)) ps) ≡ row_in (find snap_cmp q (map (λ (p : SnapPoint). (p.key, snapshot_of arrays p)) ps))
find-rows arrays [] q = refl
find-rows arrays (p ∷ ps) q = by (eq_by_cmp snap_cmp q p.key) (find-rows arrays ps q)
  where
    by : (b : Bool) → find snap_cmp q (map (λ (p : SnapPoint). (p.key, row_of p)) ps) ≡ row_in (find snap_cmp q (map (λ (p : SnapPoint). (p.key, snapshot_of arrays p)) ps))
        → cond b (Some (row_of p)) (find snap_cmp q (map (λ (p : SnapPoint). (p.key, row_of p)) ps)) ≡ row_in (cond b (Some (snapshot_of arrays p)) (find snap_cmp q (map (λ (p : SnapPoint). (p.key, snapshot_of arrays p)) ps)))
    by true h = refl
    by false h = h

snaps-say : (point : Checkpoint) → snaps_said point.snapshots ≡ snap_rows (snaps_of point)
unfolding snaps_of
snaps-say point = same_map snaps_total exact_snaps _ _ (λ q.
    get-from_entries snaps_total (map (λ (p : SnapPoint). (p.key, row_of p)) point.snapshots) q ∙ find-rows (arrays_of point.nodes) point.snapshots q
    ∙ ap row_in (sym (get-from_entries snaps_total (map (λ (p : SnapPoint). (p.key, snapshot_of (arrays_of point.nodes) p)) point.snapshots) q)) ∙ sym (get-row (snaps_of point) q))

pub lists-say-rows : (point : Checkpoint) → rows_said point.accounts point.snapshots point.volumes point.rules point.policies ≡ rows_of (machine_of point)
unfolding vols_of owns_of tokens_of books_of policies_of
lists-say-rows point = λ i. record {
  snaps = snaps-say point i;
  own = owns_of point;
  tokens = tokens_of point;
  vols = vols_of point;
  books = books_of point;
  policies = policies_of point;
}
