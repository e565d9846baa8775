-- Where nothing is kept of what time has ended, nothing is behind a put.
use Rattle.std.proofs.Common.{arith, ◌≡◌, ℕ, ◌+◌, ◌*◌, nat_le, Bool, true, false, cond, not, List, Option, Some, is_some, refl, sym, ap, ◌∙◌}
use Rattle.std.proofs.lemmas.Bool.{false≢true}
use Rattle.std.specs.Ordering.{eq_by_cmp}
use Rattle.std.specs.FinMap.{FinMap, get, insert, empty, get-insert}
use Rattle.ebs_tables.proofs.MapEdits.{is_same, tied}
use Rattle.ebs_model.specs.declared.keys.SnapKey.{SnapKey}
use Rattle.ebs_model.specs.declared.keys.VolKey.{VolKey}
use Rattle.ebs_model.specs.declared.keys.AnyKey.{AnyKey}
use Rattle.ebs_model.specs.declared.keys.Moment.{Moment}
use Rattle.ebs_model.specs.declared.array.Block.{Block}
use Rattle.ebs_model.specs.declared.rows.SnapRow.{SnapRow}
use Rattle.ebs_model.specs.declared.request.Request.{Request}
use Rattle.ebs_model.specs.declared.request.Request.TheVariants.{StartSnapshot, PutSnapshotBlock, CompleteSnapshot, ListSnapshotBlocks, ListChangedBlocks, GetSnapshotBlock, DescribeSnapshot, DescribeSnapshots, DeleteSnapshot, ModifyPermission, LockSnapshot, UnlockSnapshot, ArchiveSnapshot, RestoreTier, CreateVolume, CreateSnapshot, WriteVolumeBlock, ReadVolumeBlock, DescribeVolume, DeleteVolume, CreateRule, GetRule, UpdateRule, DeleteRule, ListRules, LockRule, UnlockRule, ListBin, RestoreFromBin, CreatePolicy, GetPolicy, DeletePolicy, RunPolicy}
use Rattle.ebs_model.specs.Keys.{snap_cmp}
use Rattle.ebs_model.specs.inner.Orders.{snaps_total}
use Rattle.ebs_model.specs.Time.{status_at, status_by, is_failed}
use Rattle.ebs_model.specs.inner.Time.{has_blocks}
use Rattle.ebs_model.specs.Rows.{Rows, changed_row}
use Rattle.ebs_model.specs.inner.Rows.{aged, aged_snaps}
use Rattle.ebs_model.specs.Decide.{commit_by}
use Rattle.ebs_model.specs.Calls.Put.{put_row}
use Rattle.ebs_model.specs.Step.{writes_of}
use Rattle.ebs_model.proofs.Commits.{IsOpenRow, Facts}
use Rattle.ebs_model.proofs.RowLaws.{get-aged_snaps}
use Rattle.ebs_lineage.specs.Owned.{Blocks}
use Rattle.ebs_holds.specs.declared.holder.Holder.{Holder}
use Rattle.ebs_holds.specs.Holders.{is_holder, of_snap, of_vol}
use Rattle.ebs_holds.specs.Orders.{exact_holders}
use Rattle.ebs_holds.specs.Holds.{Holding, blocks_at}
use Rattle.ebs_holds.specs.Changes.{after}
use Rattle.ebs_kept.specs.inner.Shown.{IsGoodRow}
use Rattle.ebs_kept.specs.inner.Stamps.{is_shown}
use Rattle.ebs_kept.specs.inner.Counted.{IsAllShown}
use Rattle.ebs_kept.proofs.Ended.{is_left, has-left, shown-alike}
use Rattle.ebs_kept.proofs.Timely.{on_time}

no_write : {A : Type 0} → ◌≡◌ {A = ℕ} 0 1 → A
no_write e = absurd (omega (arith, e))

module _ (now : ℕ) (rows new : Rows) (g h : Holding) (all : IsAllShown now rows g) where
  -- one array is changed, and it is shown
  one-changed : (target : Holder) → is_shown now new target ≡ true → ((q : Holder) → is_holder q target ≡ false → is_shown now new q ≡ is_shown now rows q)
      → (put : Holder → Blocks) → ((q : Holder) → blocks_at h q ≡ cond (is_holder q target) (put q) (blocks_at g q)) → IsAllShown now new h
  one-changed target shows alike put arrays q hidden = arrays q ∙ by (is_holder q target) refl
    where
      by : (b : Bool) → is_holder q target ≡ b → cond b (put q) (blocks_at g q) ≡ empty
      by true t = absurd (false≢true (sym hidden ∙ ap (is_shown now new) (is_same exact_holders q target t) ∙ shows))
      by false t = all q (sym (alike q t) ∙ hidden)

  module _ (at : Moment) (at_is : at.second ≡ now) (good : (key : SnapKey) (row : SnapRow) → get (aged_snaps now rows.snaps) key ≡ Some row → IsGoodRow row) where
    abbrev left : FinMap snap_cmp SnapRow
    left = aged_snaps now rows.snaps

    module _ (key : SnapKey) (index : ℕ) (old : SnapRow) (going : IsOpenRow (aged now rows) now key old) (committed : (aged now new).snaps ≡ changed_row left key (put_row at index) (get left key)) (vols : new.vols ≡ rows.vols) where
      -- what is left of a key behind the put
      left-is : (q : SnapKey) → has_blocks now (get new.snaps q) ≡ is_left now (cond (eq_by_cmp snap_cmp q key) (Some (put_row at index old)) (get left q))
      left-is q =
          has-left now (get new.snaps q)
          ∙ ap (is_left now) (sym (get-aged_snaps now new.snaps q) ∙ ap (λ (m : FinMap snap_cmp SnapRow). get m q) committed
          ∙ ap (λ (o : Option SnapRow). get (changed_row left key (put_row at index) o) q) going.found ∙ get-insert snaps_total left key (put_row at index old) q)

      fresh : is_failed (status_at (put_row at index old) now) ≡ false
      fresh = ap (λ (s : ℕ). is_failed (status_by old.completed (nat_le (s + 60 * old.timeout) now))) at_is ∙ on_time old.completed now old.timeout ((good key old going.found).timeout)

      put-shows : is_shown now new (of_snap key) ≡ true
      put-shows = left-is key ∙ ap (λ b. is_left now (cond b (Some (put_row at index old)) (get left key))) (tied snaps_total key) ∙ ap not fresh

      rest-alike : (q : SnapKey) → eq_by_cmp snap_cmp q key ≡ false → has_blocks now (get new.snaps q) ≡ has_blocks now (get rows.snaps q)
      rest-alike q t =
          left-is q ∙ ap (λ b. is_left now (cond b (Some (put_row at index old)) (get left q))) t
          ∙ sym (has-left now (get rows.snaps q) ∙ ap (is_left now) (sym (get-aged_snaps now rows.snaps q)))

      put-alike : (q : Holder) → is_holder q (of_snap key) ≡ false → is_shown now new q ≡ is_shown now rows q
      put-alike q t = by q.is_volume refl
        where
          snap : SnapKey
          snap = record { account = q.account; number = q.number }

          vol : VolKey
          vol = record { account = q.account; number = q.number }

          by : (b : Bool) → q.is_volume ≡ b → is_shown now new q ≡ is_shown now rows q
          by true e =
              ap (λ b. cond b (is_some (get new.vols vol)) (has_blocks now (get new.snaps snap))) e
              ∙ ap (λ (m : _). is_some (get m vol)) vols
              ∙ sym (ap (λ b. cond b (is_some (get rows.vols vol)) (has_blocks now (get rows.snaps snap))) e)
          by false e =
              let other : eq_by_cmp snap_cmp snap key ≡ false = (λ i. is_holder (record { is_volume = sym e i; account = q.account; number = q.number }) (of_snap key)) ∙ t in
              ap (λ b. cond b (is_some (get new.vols vol)) (has_blocks now (get new.snaps snap))) e
              ∙ rest-alike snap other
              ∙ sym (ap (λ b. cond b (is_some (get rows.vols vol)) (has_blocks now (get rows.snaps snap))) e)

    module _ (account : ℕ) (made : Option SnapKey) (volume : Option VolKey) (ids sources : List AnyKey) (source : Option Holder) (block : Block) where
      abbrev Is : Request → Type 0
      Is request = Facts (aged now rows) account made request now → aged now new ≡ commit_by (aged now rows) at account made volume request
          → ((q : Holder) → blocks_at h q ≡ after ids sources source block (blocks_at g) request q) → writes_of request ≡ 1 → IsAllShown now new h

      pub put-all : (request : Request) → Is request
      put-all (PutSnapshotBlock key index stated bytes) (old, going, within) committed arrays one =
          let snaps = ap (λ (r : Rows). r.snaps) committed in
          let vols = ap (λ (r : Rows). r.vols) committed in
          one-changed (of_snap key) (put-shows key index old going snaps vols) (put-alike key index old going snaps vols) (λ q. insert (blocks_at g q) index block) arrays
      put-all (WriteVolumeBlock key index stated bytes) (row, found, within) committed arrays one =
          let alike = shown-alike now new rows committed in
          one-changed (of_vol key) (alike (of_vol key) ∙ ap is_some found) (λ q t. alike q) (λ q. insert (blocks_at g q) index block) arrays
      put-all (StartSnapshot size parent description tags token timeout) facts committed arrays one = no_write one
      put-all (CompleteSnapshot key count checksum) facts committed arrays one = no_write one
      put-all (ListSnapshotBlocks key page most start) facts committed arrays one = no_write one
      put-all (ListChangedBlocks first second page most start) facts committed arrays one = no_write one
      put-all (GetSnapshotBlock key index token) facts committed arrays one = no_write one
      put-all (DescribeSnapshot key) facts committed arrays one = no_write one
      put-all (DescribeSnapshots from most) facts committed arrays one = no_write one
      put-all (DeleteSnapshot key) facts committed arrays one = no_write one
      put-all (ModifyPermission key add add_all remove remove_all) facts committed arrays one = no_write one
      put-all (LockSnapshot key mode term cool_hours) facts committed arrays one = no_write one
      put-all (UnlockSnapshot key) facts committed arrays one = no_write one
      put-all (ArchiveSnapshot key) facts committed arrays one = no_write one
      put-all (RestoreTier key days) facts committed arrays one = no_write one
      put-all (CreateVolume origin size tags token) facts committed arrays one = no_write one
      put-all (CreateSnapshot source description tags) facts committed arrays one = no_write one
      put-all (ReadVolumeBlock key index) facts committed arrays one = no_write one
      put-all (DescribeVolume key) facts committed arrays one = no_write one
      put-all (DeleteVolume key) facts committed arrays one = no_write one
      put-all (CreateRule days tags description delay) facts committed arrays one = no_write one
      put-all (GetRule key) facts committed arrays one = no_write one
      put-all (UpdateRule key days tags description) facts committed arrays one = no_write one
      put-all (DeleteRule key) facts committed arrays one = no_write one
      put-all ListRules facts committed arrays one = no_write one
      put-all (LockRule key delay) facts committed arrays one = no_write one
      put-all (UnlockRule key) facts committed arrays one = no_write one
      put-all (ListBin from most) facts committed arrays one = no_write one
      put-all (RestoreFromBin key) facts committed arrays one = no_write one
      put-all (CreatePolicy targets hours time retain add) facts committed arrays one = no_write one
      put-all (GetPolicy key) facts committed arrays one = no_write one
      put-all (DeletePolicy key) facts committed arrays one = no_write one
      put-all (RunPolicy key) facts committed arrays one = no_write one
