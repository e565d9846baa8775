-- A row that is found at the moment, and what becomes of it in the bin.
use Rattle.std.proofs.Common.{◌≡◌, ℕ, ◌+◌, ◌*◌, ◌<◌, ◌≤◌, arith, Bool, true, false, cond, not, Option, Some, None, is_some, refl, sym, ap, ◌∙◌}
use Rattle.std.proofs.lemmas.Bool.{false≢true}
use Rattle.std.proofs.lemmas.Bool.Decides.{nat_tests}
use Rattle.std.specs.Prelude.{nat_le}
use Rattle.std.specs.Option.{option_map}
use Rattle.std.specs.List.{filter}
use Rattle.std.specs.FinMap.{FinMap, get, insert, empty}
use Rattle.ebs_model.specs.declared.keys.SnapKey.{SnapKey}
use Rattle.ebs_model.specs.declared.keys.Moment.{Moment}
use Rattle.ebs_model.specs.declared.rows.SnapRow.{SnapRow}
use Rattle.ebs_model.specs.Keys.{snap_cmp}
use Rattle.ebs_model.specs.inner.Orders.{snaps_total, exact_snaps}
use Rattle.ebs_model.specs.Time.{stays, status_at, status_by, is_failed, is_ahead, rested_row}
use Rattle.ebs_model.specs.Rules.{bin_end}
use Rattle.ebs_model.specs.Rows.{Rows, is_key, changed_row, with_row}
use Rattle.ebs_model.specs.inner.Rows.{aged, aged_snaps}
use Rattle.ebs_model.specs.Calls.Delete.{days_in_bin, deleted, deleted_by, commit_delete}
use Rattle.ebs_model.specs.Calls.Bin.{recovered, commit_recover}
use Rattle.ebs_model.proofs.RowLaws.{left_row, get-aged_snaps}
use Rattle.ebs_model.proofs.RuleLaws.{end-ahead}
use Rattle.ebs_catalog.specs.Held.{is_ended}
use Rattle.ebs_catalog.specs.Decided.{HasLimits}
use Rattle.ebs_catalog.specs.Bins.{days_at, binned_row, removed}
use Rattle.ebs_catalog.proofs.RowsKept.{found as written}
use Rattle.ebs_catalog.proofs.Stale.{Waits, stale_in}
use Rattle.ebs_catalog.proofs.Commits.{aged-remove, left-open, row-aged, open-ended, others, stale-inserted}

none_some : (a : SnapRow) → ◌≡◌ {A = Option SnapRow} None (Some a) → ⊥
none_some a e = cc

some_same : (a b : SnapRow) → Some a ≡ Some b → a ≡ b
some_same a b e = cc

-- the kept row of one that is found at the moment
pub record Raw (now : ℕ) (s : FinMap snap_cmp SnapRow) (key : SnapKey) (row : SnapRow) : Type 0 where
  pub kept : SnapRow
  pub at : get s key ≡ Some kept
  pub stay : stays now kept ≡ true
  pub rested : rested_row now kept ≡ row

pub raw : (now : ℕ) (s : FinMap snap_cmp SnapRow) (key : SnapKey) (row : SnapRow) → get (aged_snaps now s) key ≡ Some row → Raw now s key row
raw now s key row e = by (get s key) refl (sym (get-aged_snaps now s key) ∙ e)
  where
    left : (r : SnapRow) → get s key ≡ Some r → (b : Bool) → stays now r ≡ b → option_map (rested_row now) (cond b (Some r) None) ≡ Some row → Raw now s key row
    left r at true t h = record { kept = r; at = at; stay = t; rested = some_same (rested_row now r) row h }
    left r at false t h = absurd (none_some row h)

    by : (o : Option SnapRow) → get s key ≡ o → left_row now o ≡ Some row → Raw now s key row
    by None t h = absurd (none_some row h)
    by (Some r) t h = left r t (stays now r) refl h

-- a completed one is kept as it is found
pub whole-sound : (now : ℕ) (row : SnapRow) → row.completed ≡ true → is_failed (status_at row now) ≡ false
whole-sound now row c = ap (λ b. is_failed (status_by b (nat_le (row.last.second + 60 * row.timeout) now))) c

pub as-found : (now : ℕ) (row : SnapRow) → row.completed ≡ true → rested_row now row ≡ row
as-found now row c = λ i. record row { put = cond (whole-sound now row c i) empty row.put }

-- an end that lies ahead isn't reached
not-reached : (end now : ℕ) → now < end → nat_le end now ≡ false
not-reached end now h = grind (arith, nat_tests)

-- so many days from now
pub stays-binned : (at : Moment) (days : ℕ) (row : SnapRow) → 1 ≤ days → stays at.second (binned_row at days row) ≡ true
stays-binned at days row one = ap not (not-reached (bin_end at.second days).second at.second (end-ahead at.second days one))

-- days are the same of what time leaves
days-rested : (rows : Rows) (now : ℕ) (key : SnapKey) (row : SnapRow) → days_in_bin (aged now rows) key (rested_row now row) ≡ days_in_bin rows key row
days-rested rows now key row = refl

some_is : (a b : ℕ) → ◌≡◌ {A = Option ℕ} (Some a) (Some b) → a ≡ b
some_is a b e = cc

none_days : (a : ℕ) → ◌≡◌ {A = Option ℕ} None (Some a) → ⊥
none_days a e = cc

-- only what is completed stays in the bin
pub days-completed : (rows : Rows) (key : SnapKey) (row : SnapRow) (days : ℕ) → days_in_bin rows key row ≡ Some days → row.completed ≡ true
days-completed rows key row days e = by row.completed refl e
  where
    by : (b : Bool) → row.completed ≡ b → days_in_bin rows key (record row { completed = b }) ≡ Some days → row.completed ≡ true
    by true t h = t
    by false t h = absurd (none_days days h)

module _ (rows : Rows) (at : Moment) (key : SnapKey) (row : SnapRow) (is : get (aged_snaps at.second rows.snaps) key ≡ Some row) where
  abbrev r : Raw at.second rows.snaps key row
  r = raw at.second rows.snaps key row is

  -- a snapshot that goes to the bin
  pub binned-aged : (days : ℕ) → 1 ≤ days → days_at rows key (get rows.snaps key) ≡ Some days → aged at.second (with_row rows key (binned_row at days)) ≡ commit_delete (aged at.second rows) at key
  binned-aged days one e =
      let d : days_in_bin rows key r.kept ≡ Some days = ap (days_at rows key) (sym r.at) ∙ e in
      let whole = days-completed rows key r.kept days d in
      let same : r.kept ≡ row = sym (as-found at.second r.kept whole) ∙ r.rested in
      let there : days_in_bin (aged at.second rows) key row ≡ Some days = ap (days_in_bin (aged at.second rows) key) (sym same) ∙ d in
      row-aged at.second rows key row (binned_row at days) (r.at ∙ ap Some same) is (left-open at.second (binned_row at days row) (stays-binned at days row one) (whole-sound at.second row (ap (λ (x : SnapRow). x.completed) (sym same) ∙ whole)))
      ∙ (λ i. record (aged at.second rows) { snaps = changed_row (aged_snaps at.second rows.snaps) key (binned_row at days) (is i) })
      ∙ sym (ap (deleted (aged at.second rows) at key) is ∙ ap (deleted_by (aged at.second rows) at key row) there)

  -- one that is taken out
  pub removed-aged : days_at rows key (get rows.snaps key) ≡ None → aged at.second (removed rows key) ≡ commit_delete (aged at.second rows) at key
  removed-aged e =
      let there : days_in_bin (aged at.second rows) key row ≡ None = ap (days_in_bin (aged at.second rows) key) (sym r.rested) ∙ ap (days_at rows key) (sym r.at) ∙ e in
      (λ i. record (aged at.second rows) { snaps = aged-remove at.second rows.snaps key i })
      ∙ sym (ap (deleted (aged at.second rows) at key) is ∙ ap (deleted_by (aged at.second rows) at key row) there)

  -- one that is taken from the bin
  pub recovered-aged : row.completed ≡ true → aged at.second (with_row rows key recovered) ≡ commit_recover (aged at.second rows) key
  recovered-aged whole =
      let c : r.kept.completed ≡ true = ap (λ (x : SnapRow). x.completed) r.rested ∙ whole in
      let same : r.kept ≡ row = sym (as-found at.second r.kept c) ∙ r.rested in
      row-aged at.second rows key row recovered (r.at ∙ ap Some same) is (left-open at.second (recovered row) refl (whole-sound at.second (recovered row) whole))

-- what goes to the bin is completed
pub completed-days : (rows : Rows) (key : SnapKey) (days : ℕ) (row : SnapRow) → get rows.snaps key ≡ Some row → days_at rows key (get rows.snaps key) ≡ Some days → row.completed ≡ true
completed-days rows key days row at e = days-completed rows key row days (ap (days_at rows key) (sym at) ∙ e)

-- it isn't ended when it goes there
pub binned-stale : (rows : Rows) (at : Moment) (key : SnapKey) (row : SnapRow) → get (aged_snaps at.second rows.snaps) key ≡ Some row → (days : ℕ) → 1 ≤ days → days_at rows key (get rows.snaps key) ≡ Some days → (w : Waits)
    → stale_in (changed_row rows.snaps key (binned_row at days) (get rows.snaps key)) (insert w key tt) at.second ≡ filter (λ q. not (is_key q key)) (stale_in rows.snaps w at.second)
binned-stale rows at key row is days one e w =
    let k = raw at.second rows.snaps key row is in
    let new = binned_row at days k.kept in
    let whole = completed-days rows key days k.kept k.at e in
    let fresh = open-ended at.second new (stays-binned at days k.kept one) (whole-sound at.second new whole) in
    ap (λ o. stale_in (changed_row rows.snaps key (binned_row at days) o) (insert w key tt) at.second) k.at
    ∙ stale-inserted rows.snaps (insert rows.snaps key new) key at.second (others rows.snaps key new) (ap (is_ended at.second) (written snaps_total exact_snaps rows.snaps key new) ∙ fresh) w

-- what lies ahead is there
pub ahead-some : (end : Option Moment) (now : ℕ) → is_ahead end now ≡ true → is_some end ≡ true
ahead-some None now e = absurd (false≢true e)
ahead-some (Some end) now e = refl

-- what is found in the bin is completed, where each kept row with an end there is
pub raw-completed : (rows : Rows) (at : Moment) (key : SnapKey) (row : SnapRow) → get (aged_snaps at.second rows.snaps) key ≡ Some row → is_ahead row.bin_end at.second ≡ true
    → ((r : SnapRow) → get rows.snaps key ≡ Some r → HasLimits r) → (r : SnapRow) → get rows.snaps key ≡ Some r → r.completed ≡ true
raw-completed rows at key row is ahead limits r found =
    let k = raw at.second rows.snaps key row is in
    let same : k.kept ≡ r = some_same k.kept r (sym k.at ∙ found) in
    let end : is_ahead r.bin_end at.second ≡ true = ap (λ (x : SnapRow). is_ahead x.bin_end at.second) (sym same) ∙ ap (λ (x : SnapRow). is_ahead x.bin_end at.second) k.rested ∙ ahead in
    (limits r found).binned (ahead-some r.bin_end at.second end)
