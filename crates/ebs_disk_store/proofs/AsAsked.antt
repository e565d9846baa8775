-- A change whose record is that of a call is what was asked.
use Rattle.std.proofs.Common.{◌≡◌, ℕ, ◌+◌, Bool, true, false, cond, ◌&&◌, nat_le, nat_lt, unwrap_or, List, [], ◌∷◌, Option, Some, None, Result, Ok, Err, refl, sym, ap, subst, ◌∙◌, arith}
use Rattle.std.specs.Option.{option_map}
use Rattle.std.specs.FinMap as fin
use Rattle.sha2.specs.Sha256.{sha256}
use Rattle.ebs_world.specs.Image.{Image}
use Rattle.ebs_model.specs.declared.keys.SnapKey.{SnapKey}
use Rattle.ebs_model.specs.declared.keys.VolKey.{VolKey}
use Rattle.ebs_model.specs.declared.keys.Moment.{Moment}
use Rattle.ebs_model.specs.declared.keys.AnyKey.TheVariants.{Vol}
use Rattle.ebs_model.specs.declared.tags.Tag.{Tag}
use Rattle.ebs_model.specs.declared.rows.TokenRow.{TokenRow}
use Rattle.ebs_model.specs.declared.request.Request.{Request}
use Rattle.ebs_model.specs.declared.request.Request.TheVariants.{StartSnapshot, PutSnapshotBlock, CompleteSnapshot, ListSnapshotBlocks, ListChangedBlocks, GetSnapshotBlock, DescribeSnapshot, DescribeSnapshots, DeleteSnapshot, ModifyPermission, LockSnapshot, UnlockSnapshot, ArchiveSnapshot, RestoreTier, CreateVolume, CreateSnapshot, WriteVolumeBlock, ReadVolumeBlock, DescribeVolume, DeleteVolume, CreateRule, GetRule, UpdateRule, DeleteRule, ListRules, LockRule, UnlockRule, ListBin, RestoreFromBin, CreatePolicy, GetPolicy, DeletePolicy, RunPolicy}
use Rattle.ebs_model.specs.declared.change.Decision.{Decision}
use Rattle.ebs_model.specs.declared.change.Decision.TheVariants as decision
use Rattle.ebs_model.specs.declared.answer.Answer.{Answer}
use Rattle.ebs_model.specs.declared.answer.Answer.TheVariants.{VolumeShown}
use Rattle.ebs_model.specs.declared.answer.Refusal.{Refusal}
use Rattle.ebs_model.specs.declared.answer.Refusal.TheVariants.{BadSize, Quota}
use Rattle.ebs_model.specs.declared.answer.QuotaName.TheVariants.{Volumes, ClientTokens, Ids}
use Rattle.ebs_model.specs.Quotas.{most_volumes, most_tokens, most_ids}
use Rattle.ebs_model.specs.Refuse.{◌>>=◌, ◌>>◌, refuse_if}
use Rattle.ebs_model.specs.inner.Orders.{snaps_total, exact_snaps}
use Rattle.ebs_model.specs.Keys.{snap_cmp}
use Rattle.ebs_model.specs.Time.{Snapshot, stays, rested}
use Rattle.ebs_model.specs.Rows.{Rows, volume_count, first_use, token_count}
use Rattle.ebs_model.specs.Decisions.{makes}
use Rattle.ebs_model.specs.Calls.Start.{by_token, has_token, least_size}
use Rattle.ebs_model.specs.Calls.Volume.{next_volume, repeat_create, fresh_create}
use Rattle.ebs_model.specs.Machine.{Machine, advance, aged_rows, rows_of, snap_rows}
use Rattle.ebs_model.specs.Step.{act, finish, refuse_size}
use Rattle.ebs_model.proofs.Aged.{aged_row, get-aged}
use Rattle.ebs_model.proofs.RowLaws.{get-row, row_in, same_rows}
use Rattle.ebs_kept.specs.inner.Requests.{BringsNoBlock}
use Rattle.ebs_recovery.specs.Made.{SlotOfStamp, bare}
use Rattle.ebs_recovery.specs.inner.Stands.{map_entries, refilled, refilled_snapshot}
use Rattle.ebs_recovery.proofs.Places.{get-map_entries}
use Rattle.ebs_recovery.specs.inner.Fits.{Seen}
use Rattle.ebs_disk_store.specs.inner.Calls.{recorded_request, size_or}
use Rattle.ebs_disk_store.specs.inner.Pending.{DoneAsAsked, RecordedCallsAreAsked}
use Rattle.ebs_disk_store.proofs.PutRuled.{both_ok}

-- ---- the bytes of blocks are in no row, at each moment

row_left : (now : ℕ) (c : Image) (keys : SlotOfStamp) (key : SnapKey) (o : Option Snapshot) → row_in (aged_row now (option_map (refilled_snapshot c keys key) o)) ≡ row_in (aged_row now o)
row_left now c keys key None = refl
row_left now c keys key (Some s) = at (stays now s.row)
  where
    at : (b : Bool) → row_in (option_map (rested now) (cond b (Some (refilled_snapshot c keys key s)) None)) ≡ row_in (option_map (rested now) (cond b (Some s) None))
    at true = refl
    at false = refl

module _ (c : Image) (s : Seen) (now : Moment) where
  abbrev filled : fin.FinMap snap_cmp Snapshot
  filled = map_entries (refilled_snapshot c s.slots.keys) s.recorded.snaps

  snaps_left : snap_rows (aged_rows now.second filled) ≡ snap_rows (aged_rows now.second s.recorded.snaps)
  snaps_left = same_rows _ _ (λ q.
      get-row (aged_rows now.second filled) q
      ∙ ap row_in (get-aged now.second filled q ∙ ap (aged_row now.second) (get-map_entries snaps_total exact_snaps (refilled_snapshot c s.slots.keys) s.recorded.snaps q))
      ∙ row_left now.second c s.slots.keys q (fin.get s.recorded.snaps q)
      ∙ ap row_in (sym (get-aged now.second s.recorded.snaps q)) ∙ sym (get-row (aged_rows now.second s.recorded.snaps) q))

  rows_left : rows_of (advance (refilled c s.slots.keys s.recorded) now) ≡ rows_of (advance s.recorded now)
  rows_left = λ i. record { snaps = snaps_left i; own = s.recorded.own; tokens = s.recorded.tokens; vols = s.recorded.vols; books = s.recorded.books; policies = s.recorded.policies }

-- ---- a request by its record

data Brought (made : Request) : Type 0 where
  put : (key : SnapKey) (index : ℕ) (digest bytes : List ℕ) → made ≡ PutSnapshotBlock key index digest bytes → Brought made
  write : (key : VolKey) (index : ℕ) (digest bytes : List ℕ) → made ≡ WriteVolumeBlock key index digest bytes → Brought made
  other : bare made ≡ made → BringsNoBlock made → Brought made

brought : (made : Request) → Brought made
brought (StartSnapshot size parent description tags token timeout) = other refl tt
brought (PutSnapshotBlock key index digest bytes) = put key index digest bytes refl
brought (CompleteSnapshot key count checksum) = other refl tt
brought (ListSnapshotBlocks key page most start) = other refl tt
brought (ListChangedBlocks first second page most start) = other refl tt
brought (GetSnapshotBlock key index token) = other refl tt
brought (DescribeSnapshot key) = other refl tt
brought (DescribeSnapshots from most) = other refl tt
brought (DeleteSnapshot key) = other refl tt
brought (ModifyPermission key add add_all remove remove_all) = other refl tt
brought (LockSnapshot key mode term cool_hours) = other refl tt
brought (UnlockSnapshot key) = other refl tt
brought (ArchiveSnapshot key) = other refl tt
brought (RestoreTier key days) = other refl tt
brought (CreateVolume origin size tags token) = other refl tt
brought (CreateSnapshot key description tags) = other refl tt
brought (WriteVolumeBlock key index digest bytes) = write key index digest bytes refl
brought (ReadVolumeBlock key index) = other refl tt
brought (DescribeVolume key) = other refl tt
brought (DeleteVolume key) = other refl tt
brought (CreateRule days tags description delay) = other refl tt
brought (GetRule key) = other refl tt
brought (UpdateRule key days tags description) = other refl tt
brought (DeleteRule key) = other refl tt
brought ListRules = other refl tt
brought (LockRule key delay) = other refl tt
brought (UnlockRule key) = other refl tt
brought (ListBin from most) = other refl tt
brought (RestoreFromBin key) = other refl tt
brought (CreatePolicy targets hours time retain add) = other refl tt
brought (GetPolicy key) = other refl tt
brought (DeletePolicy key) = other refl tt
brought (RunPolicy key) = other refl tt

-- what brings no block is recorded as it is
bare_is : (made r : Request) → BringsNoBlock r → bare made ≡ r → made ≡ r
bare_is made r none e = by (brought made)
  where
    by : Brought made → made ≡ r
    by (put key index digest bytes is) = absurd (subst BringsNoBlock (sym e ∙ ap bare is) none)
    by (write key index digest bytes is) = absurd (subst BringsNoBlock (sym e ∙ ap bare is) none)
    by (other same own) = sym same ∙ e

abbrev with_found : List ℕ → Request → Request
with_found found (PutSnapshotBlock key index digest bytes) = PutSnapshotBlock key index digest found
with_found found (WriteVolumeBlock key index digest bytes) = WriteVolumeBlock key index digest found
with_found found request = request

found_put : (key : SnapKey) (index : ℕ) (digest : List ℕ) (made : Request) → bare made ≡ PutSnapshotBlock key index digest [] → (found : List ℕ) × (made ≡ PutSnapshotBlock key index digest found)
found_put key index digest made e = by (brought made)
  where
    apart : (at : VolKey) (n : ℕ) (stated : List ℕ) → WriteVolumeBlock at n stated [] ≡ PutSnapshotBlock key index digest [] → ⊥
    apart at n stated e = cc

    by : Brought made → (found : List ℕ) × (made ≡ PutSnapshotBlock key index digest found)
    by (put at n stated bytes is) = (bytes, is ∙ ap (with_found bytes) (sym (ap bare is) ∙ e))
    by (write at n stated bytes is) = absurd (apart at n stated (sym (ap bare is) ∙ e))
    by (other same own) = absurd (subst BringsNoBlock (sym same ∙ e) own)

found_write : (key : VolKey) (index : ℕ) (digest : List ℕ) (made : Request) → bare made ≡ WriteVolumeBlock key index digest [] → (found : List ℕ) × (made ≡ WriteVolumeBlock key index digest found)
found_write key index digest made e = by (brought made)
  where
    apart : (at : SnapKey) (n : ℕ) (stated : List ℕ) → PutSnapshotBlock at n stated [] ≡ WriteVolumeBlock key index digest [] → ⊥
    apart at n stated e = cc

    by : Brought made → (found : List ℕ) × (made ≡ WriteVolumeBlock key index digest found)
    by (put at n stated bytes is) = absurd (apart at n stated (sym (ap bare is) ∙ e))
    by (write at n stated bytes is) = (bytes, is ∙ ap (with_found bytes) (sym (ap bare is) ∙ e))
    by (other same own) = absurd (subst BringsNoBlock (sym same ∙ e) own)

-- ---- a creation without a size, and one with the size that rows give

abbrev Outcome : Type 0
Outcome = Result (Machine × Answer) Refusal

abbrev changes_in : Outcome → ℕ
changes_in (Ok done) = done.0.changes
changes_in (Err r) = 0

module _ (m : Machine) (account : ℕ) (origin : Option SnapKey) (tags : List Tag) (token : Option (List ℕ)) (least : ℕ) (is : least_size (rows_of m) account m.clock.second origin ≡ Ok least) where
  abbrev asked : Request
  asked = CreateVolume origin None tags token

  abbrev sized : Request
  sized = CreateVolume origin (Some least) tags token

  -- what follows of the size that is wanted and the least one
  abbrev wants : ℕ → ℕ → Result Decision Refusal
  wants wanted few =
      let rows : Rows = rows_of m in
      refuse_if (nat_lt wanted few) BadSize >> (refuse_if (nat_le most_volumes (volume_count rows account)) (Quota Volumes most_volumes)
      >> (refuse_if (has_token token && nat_le most_tokens (token_count rows account)) (Quota ClientTokens most_tokens) >> (refuse_if (nat_le most_ids (next_volume rows account).number) (Quota Ids most_ids)
      >> Ok (decision.Change (makes account m.clock (CreateVolume origin (Some wanted) tags token) (Vol (next_volume rows account) ∷ [])) (VolumeShown true wanted origin tags (next_volume rows account))))))

  fresh_alike : fresh_create (rows_of m) m.clock account origin None tags token ≡ fresh_create (rows_of m) m.clock account origin (Some least) tags token
  fresh_alike = ap (λ (x : Result ℕ Refusal). x >>= λ few. wants (unwrap_or None few) few) is ∙ sym (ap (λ (x : Result ℕ Refusal). x >>= λ few. wants (unwrap_or (Some least) few) few) is)

  same_finish : (x : Result Decision Refusal) → (x >>= finish sha256 m asked) ≡ (x >>= finish sha256 m sized)
  same_finish (Ok (decision.Change c answer)) = refl
  same_finish (Ok (decision.Kept answer)) = refl
  same_finish (Ok (decision.View answer)) = refl
  same_finish (Ok (decision.Read row)) = refl
  same_finish (Err r) = refl

  module _ (next : Machine) (answer : Answer) (counted : next.changes ≡ m.changes + 1) where
    kept_no : {A : Type 0} (b : Bool) (r : Refusal) (told : Answer) → ((refuse_if b r >> Ok (decision.Kept told)) >>= finish sha256 m sized) ≡ Ok (next, answer) → A
    kept_no true r told e = absurd (cc)
    kept_no false r told e = let stays : m.changes ≡ next.changes = ap changes_in e in absurd (omega (arith, stays, counted))

    by_use : (o : Option TokenRow) → first_use (rows_of m) account token ≡ o
        → (by_token o (repeat_create account origin (Some least) tags) (fresh_create (rows_of m) m.clock account origin (Some least) tags token) >>= finish sha256 m sized) ≡ Ok (next, answer)
        → act sha256 m account asked ≡ Ok (next, answer)
    by_use None none e =
        (λ i. by_token (none i) (repeat_create account origin None tags) (fresh_alike i) >>= finish sha256 m asked)
        ∙ same_finish (fresh_create (rows_of m) m.clock account origin (Some least) tags token) ∙ e
    by_use (Some row) some e = kept_no _ _ _ e

    -- a change of the second is one of the first
    unsized_alike : act sha256 m account sized ≡ Ok (next, answer) → act sha256 m account asked ≡ Ok (next, answer)
    unsized_alike e = by_use (first_use (rows_of m) account token) refl (both_ok (refuse_size sized) _ (next, answer) e).1

-- ---- what was asked

module _ (c : Image) (s : Seen) (account : ℕ) (now : Moment) (made : Request) (next : Machine) (answer : Answer)
    (acts : act sha256 (advance (refilled c s.slots.keys s.recorded) now) account made ≡ Ok (next, answer)) (counted : next.changes ≡ s.recorded.changes + 1) where
  abbrev at : Machine
  at = advance (refilled c s.slots.keys s.recorded) now

  itself : (r : Request) → BringsNoBlock r → bare made ≡ r → act sha256 at account r ≡ Ok (next, answer)
  itself r none e = ap (act sha256 at account) (sym (bare_is made r none e)) ∙ acts

  unsized : (origin : Option SnapKey) (tags : List Tag) (token : Option (List ℕ)) (x : Result ℕ Refusal) → least_size (rows_of (advance s.recorded now)) account now.second origin ≡ x
      → bare made ≡ CreateVolume origin (size_or None x) tags token → act sha256 at account (CreateVolume origin None tags token) ≡ Ok (next, answer)
  unsized origin tags token (Err r) is e = itself (CreateVolume origin None tags token) tt e
  unsized origin tags token (Ok least) is e = unsized_alike at account origin tags token least (ap (λ (rows : Rows). least_size rows account now.second origin) (rows_left c s now) ∙ is) next answer counted
      (itself (CreateVolume origin (Some least) tags token) tt e)

  as_asked : (request : Request) → bare made ≡ bare (recorded_request (advance s.recorded now) account request) → DoneAsAsked at account request made next answer
  as_asked (StartSnapshot size parent description tags token timeout) e = itself _ tt e
  as_asked (PutSnapshotBlock key index digest bytes) e = found_put key index digest made e
  as_asked (CompleteSnapshot key count checksum) e = itself _ tt e
  as_asked (ListSnapshotBlocks key page most start) e = itself _ tt e
  as_asked (ListChangedBlocks first second page most start) e = itself _ tt e
  as_asked (GetSnapshotBlock key index token) e = itself _ tt e
  as_asked (DescribeSnapshot key) e = itself _ tt e
  as_asked (DescribeSnapshots from most) e = itself _ tt e
  as_asked (DeleteSnapshot key) e = itself _ tt e
  as_asked (ModifyPermission key add add_all remove remove_all) e = itself _ tt e
  as_asked (LockSnapshot key mode term cool_hours) e = itself _ tt e
  as_asked (UnlockSnapshot key) e = itself _ tt e
  as_asked (ArchiveSnapshot key) e = itself _ tt e
  as_asked (RestoreTier key days) e = itself _ tt e
  as_asked (CreateVolume origin (Some size) tags token) e = itself _ tt e
  as_asked (CreateVolume origin None tags token) e = unsized origin tags token (least_size (rows_of (advance s.recorded now)) account now.second origin) refl e
  as_asked (CreateSnapshot key description tags) e = itself _ tt e
  as_asked (WriteVolumeBlock key index digest bytes) e = found_write key index digest made e
  as_asked (ReadVolumeBlock key index) e = itself _ tt e
  as_asked (DescribeVolume key) e = itself _ tt e
  as_asked (DeleteVolume key) e = itself _ tt e
  as_asked (CreateRule days tags description delay) e = itself _ tt e
  as_asked (GetRule key) e = itself _ tt e
  as_asked (UpdateRule key days tags description) e = itself _ tt e
  as_asked (DeleteRule key) e = itself _ tt e
  as_asked ListRules e = itself _ tt e
  as_asked (LockRule key delay) e = itself _ tt e
  as_asked (UnlockRule key) e = itself _ tt e
  as_asked (ListBin from most) e = itself _ tt e
  as_asked (RestoreFromBin key) e = itself _ tt e
  as_asked (CreatePolicy targets hours time retain add) e = itself _ tt e
  as_asked (GetPolicy key) e = itself _ tt e
  as_asked (DeletePolicy key) e = itself _ tt e
  as_asked (RunPolicy key) e = itself _ tt e

pub recorded_asked : RecordedCallsAreAsked
recorded_asked c s account now request made next answer e acts counted = as_asked c s account now made next answer acts counted request e
