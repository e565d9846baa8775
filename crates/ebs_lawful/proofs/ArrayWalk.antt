-- What each call tells of arrays, where it is accepted as a change.
use Rattle.std.proofs.Common.{◌≡◌, ℕ, ◌<◌, ◌≤◌, arith, Bool, true, false, nat_le, nat_lt, List, [], ◌∷◌, Option, Some, None, Result, Ok, Err, unwrap_or, refl}
use Rattle.std.specs.FinMap.{get, remove}
use Rattle.ebs_model.specs.declared.keys.SnapKey.{SnapKey}
use Rattle.ebs_model.specs.declared.keys.VolKey.{VolKey}
use Rattle.ebs_model.specs.declared.keys.PolicyKey.{PolicyKey}
use Rattle.ebs_model.specs.declared.keys.Moment.{Moment}
use Rattle.ebs_model.specs.declared.keys.AnyKey.TheVariants.{Snap, Vol}
use Rattle.ebs_model.specs.declared.policy.Policy.{Policy}
use Rattle.ebs_model.specs.declared.tags.Tag.{Tag}
use Rattle.ebs_model.specs.declared.rows.SnapRow.{SnapRow}
use Rattle.ebs_model.specs.declared.rows.VolRow.{VolRow}
use Rattle.ebs_model.specs.declared.request.Request.{Request}
use Rattle.ebs_model.specs.declared.request.Request.TheVariants.{StartSnapshot, PutSnapshotBlock, CompleteSnapshot, ListSnapshotBlocks, ListChangedBlocks, GetSnapshotBlock, DescribeSnapshot, DescribeSnapshots, DeleteSnapshot, ModifyPermission, LockSnapshot, UnlockSnapshot, ArchiveSnapshot, RestoreTier, CreateVolume, CreateSnapshot, WriteVolumeBlock, ReadVolumeBlock, DescribeVolume, DeleteVolume, CreateRule, GetRule, UpdateRule, DeleteRule, ListRules, LockRule, UnlockRule, ListBin, RestoreFromBin, CreatePolicy, GetPolicy, DeletePolicy, RunPolicy}
use Rattle.ebs_model.specs.declared.change.ReadRow.{ReadRow}
use Rattle.ebs_model.specs.declared.change.Decision.{Decision}
use Rattle.ebs_model.specs.declared.change.Decision.TheVariants as decision
use Rattle.ebs_model.specs.declared.answer.Answer.{Answer}
use Rattle.ebs_model.specs.declared.answer.Answer.TheVariants.{Started, BlockWritten, SnapshotShown, VolumeShown}
use Rattle.ebs_model.specs.declared.answer.Refusal.{Refusal}
use Rattle.ebs_model.specs.declared.answer.Refusal.TheVariants.{BadIndex}
use Rattle.ebs_model.specs.Quotas.{blocks_of}
use Rattle.ebs_model.specs.Refuse.{◌>>=◌, refuse_if}
use Rattle.ebs_model.specs.Access.{open_upload, base}
use Rattle.ebs_model.specs.Views.{view_of}
use Rattle.ebs_model.specs.Decisions.{makes, alters}
use Rattle.ebs_model.specs.Decide.{decide}
use Rattle.ebs_model.specs.Rows.{Rows, the_row, the_volume, the_policy}
use Rattle.ebs_model.specs.Calls.Start.{next_key, least_size}
use Rattle.ebs_model.specs.Calls.Disk.{snapped_row}
use Rattle.ebs_model.specs.Calls.Volume.{next_volume}
use Rattle.ebs_model.specs.Calls.Run.{run_decided}
use Rattle.ebs_lawful.proofs.Done.{IfDone, achieved, after, passed, by_use, found, found_volume, found_policy, below, within}
use Rattle.ebs_model.specs.Decisions.{made_snap, made_vol}
use Rattle.ebs_model.specs.declared.change.Change.{Change}
use Rattle.ebs_model.specs.declared.answer.Refusal.TheVariants.{BadSize}

-- a size that isn't less than that of what it begins with
abbrev pub HasLeast : Rows → Option SnapKey → ℕ → Type 0
HasLeast rows None size = Unit {0}
HasLeast rows (Some parent) size = (row : SnapRow) × (get rows.snaps parent ≡ Some row) × (row.size ≤ size)

abbrev pub HasLeastGiven : Rows → Option SnapKey → Option ℕ → Type 0
HasLeastGiven rows origin None = ⊥
HasLeastGiven rows origin (Some size) = HasLeast rows origin size

abbrev pub ArrayFacts : Rows → ℕ → Option SnapKey → Option VolKey → Request → Type 0
ArrayFacts rows account made vol (StartSnapshot size parent description tags token timeout) = (made ≡ Some (next_key rows account)) × HasLeast rows parent size
ArrayFacts rows account made vol (PutSnapshotBlock key index digest bytes) = (row : SnapRow) × (get rows.snaps key ≡ Some row) × (index < blocks_of row.size)
ArrayFacts rows account made vol (CreateSnapshot volume description tags) = (row : VolRow) × (get rows.vols volume ≡ Some row) × (made ≡ Some (next_key rows account))
ArrayFacts rows account made vol (CreateVolume origin size tags token) = (vol ≡ Some (next_volume rows account)) × HasLeastGiven rows origin size
ArrayFacts rows account made vol (WriteVolumeBlock key index digest bytes) = (row : VolRow) × (get rows.vols key ≡ Some row) × (index < blocks_of row.size)
ArrayFacts rows account made vol (RunPolicy key) = (p : Policy) × (get rows.policies key ≡ Some p)
ArrayFacts rows account made vol request = Unit {0}

is_other : Request → Bool
is_other (StartSnapshot size parent description tags token timeout) = false
is_other (PutSnapshotBlock key index digest bytes) = false
is_other (CreateSnapshot volume description tags) = false
is_other (CreateVolume origin size tags token) = false
is_other (WriteVolumeBlock key index digest bytes) = false
is_other (RunPolicy key) = false
is_other request = true

other-facts : (rows : Rows) (account : ℕ) (made : Option SnapKey) (vol : Option VolKey) (r : Request) → is_other r ≡ true → ArrayFacts rows account made vol r
unfolding is_other
other-facts rows account made vol (StartSnapshot size parent description tags token timeout) e = absurd (cc)
other-facts rows account made vol (PutSnapshotBlock key index digest bytes) e = absurd (cc)
other-facts rows account made vol (CreateSnapshot volume description tags) e = absurd (cc)
other-facts rows account made vol (CreateVolume origin size tags token) e = absurd (cc)
other-facts rows account made vol (WriteVolumeBlock key index digest bytes) e = absurd (cc)
other-facts rows account made vol (RunPolicy key) e = absurd (cc)
other-facts rows account made vol r e = tt

abbrev pub FactsOf : Rows → Moment → ℕ → Decision → Type 0
FactsOf rows at account (decision.Change c answer) = (c.at ≡ at) × (c.account ≡ account) × ArrayFacts rows account (made_snap c.made) (made_vol c.made) c.request
FactsOf rows at account (decision.Kept answer) = Unit {0}
FactsOf rows at account (decision.View answer) = Unit {0}
FactsOf rows at account (decision.Read row) = Unit {0}

module _ (rows : Rows) (at : Moment) (account : ℕ) where
  abbrev Ends : Request → Type 0
  Ends request = IfDone (FactsOf rows at account) (decide rows at account request)

  shown : (answer : Answer) → IfDone (FactsOf rows at account) (Ok (decision.View answer))
  shown answer = achieved {x = decision.View answer} tt

  again : (answer : Answer) → IfDone (FactsOf rows at account) (Ok (decision.Kept answer))
  again answer = achieved {x = decision.Kept answer} tt

  reads : (row : ReadRow) → IfDone (FactsOf rows at account) (Ok (decision.Read row))
  reads row = achieved {x = decision.Read row} tt

  least-of : (parent : Option SnapKey) (least size : ℕ) → least_size rows account at.second parent ≡ Ok least → least ≤ size → HasLeast rows parent size
  least-of None least size e low = tt
  least-of (Some parent) least size e low = of (the_row rows parent (base account parent at.second)) refl e
    where
      size_is : (row : SnapRow) → ◌≡◌ {A = Result ℕ Refusal} (Ok row.size) (Ok least) → least ≡ row.size
      size_is row e = cc

      of : (r : Result SnapRow Refusal) → the_row rows parent (base account parent at.second) ≡ r → (r >>= λ row. Ok row.size) ≡ Ok least → HasLeast rows (Some parent) size
      of (Ok row) is e = let same = size_is row e in (row, (found rows parent (base account parent at.second) row is).0, omega (arith, low, same))
      of (Err r) is e = absurd (cc)

  starts : (size : ℕ) (parent : Option SnapKey) (description : Option (List ℕ)) (tags : List Tag) (token : Option (List ℕ)) (timeout : ℕ) → Ends (StartSnapshot size parent description tags token timeout)
  starts size parent description tags token timeout =
      let key : SnapKey = next_key rows account in
      let d : Decision = decision.Change (makes account at (StartSnapshot size parent description tags token timeout) (Snap key ∷ [])) (Started description account parent key at tags size) in
      let ended : (least : ℕ) → least_size rows account at.second parent ≡ Ok least → refuse_if (nat_lt size least) BadSize ≡ Ok tt → IfDone (FactsOf rows at account) (Ok d) =
      λ least is low. achieved {x = d} (refl, refl, (refl, least-of parent least size is (within _ _ _ low))) in
      search (by_use, passed, after, ended, again) depth 20

  creates : (origin : Option SnapKey) (size : Option ℕ) (tags : List Tag) (token : Option (List ℕ)) → Ends (CreateVolume origin size tags token)
  creates origin size tags token =
      let key : VolKey = next_volume rows account in
      let d : ℕ → Decision = λ wanted. decision.Change (makes account at (CreateVolume origin (Some wanted) tags token) (Vol key ∷ [])) (VolumeShown true wanted origin tags key) in
      let ended : (least : ℕ) → least_size rows account at.second origin ≡ Ok least → refuse_if (nat_lt (unwrap_or size least) least) BadSize ≡ Ok tt → IfDone (FactsOf rows at account) (Ok (d (unwrap_or size least))) =
      λ least is low. achieved {x = d (unwrap_or size least)} (refl, refl, (refl, least-of origin least (unwrap_or size least) is (within _ _ _ low))) in
      search (by_use, passed, after, ended, again) depth 20

  puts : (key : SnapKey) (index : ℕ) (digest bytes : List ℕ) → Ends (PutSnapshotBlock key index digest bytes)
  puts key index digest bytes =
      let d : Decision = decision.Change (alters account at (PutSnapshotBlock key index digest [])) (BlockWritten digest) in
      let ended : (row : SnapRow) → the_row rows key (open_upload account key at.second) ≡ Ok row → refuse_if (nat_le (blocks_of row.size) index) BadIndex ≡ Ok tt → IfDone (FactsOf rows at account) (Ok d) =
      λ row is room. achieved {x = d} (refl, refl, (row, (found rows key (open_upload account key at.second) row is).0, below _ _ _ room)) in
      search (passed, after, ended) depth 20

  snaps-volume : (volume : VolKey) (description : Option (List ℕ)) (tags : List Tag) → Ends (CreateSnapshot volume description tags)
  snaps-volume volume description tags =
      let key : SnapKey = next_key rows account in
      let d : VolRow → Decision = λ row. decision.Change (makes account at (CreateSnapshot volume description tags) (Snap key ∷ [])) (SnapshotShown true (view_of account at.second key (snapped_row at key volume row description tags))) in
      let ended : (row : VolRow) → the_volume rows account volume ≡ Ok row → IfDone (FactsOf rows at account) (Ok (d row)) =
      λ row is. achieved {x = d row} (refl, refl, (row, (found_volume rows account volume row is).0, refl)) in
      search (passed, after, ended) depth 20

  writes : (key : VolKey) (index : ℕ) (digest bytes : List ℕ) → Ends (WriteVolumeBlock key index digest bytes)
  writes key index digest bytes =
      let d : Decision = decision.Change (alters account at (WriteVolumeBlock key index digest [])) (BlockWritten digest) in
      let ended : (row : VolRow) → the_volume rows account key ≡ Ok row → refuse_if (nat_le (blocks_of row.size) index) BadIndex ≡ Ok tt → IfDone (FactsOf rows at account) (Ok d) =
      λ row is room. achieved {x = d} (refl, refl, (row, (found_volume rows account key row is).0, below _ _ _ room)) in
      search (passed, after, ended) depth 20

  runs : (key : PolicyKey) → Ends (RunPolicy key)
  runs key =
      let ended : (p : Policy) → the_policy rows account key ≡ Ok p → IfDone (FactsOf rows at account) (Ok (run_decided rows at account key p)) =
      λ p is. achieved {x = run_decided rows at account key p} (refl, refl, (p, (found_policy rows account key p is).0)) in
      search (passed, after, ended) depth 20

  -- a change of another kind
  leaves : (answer : Answer) (c : Change) → c.at ≡ at → c.account ≡ account → is_other c.request ≡ true → IfDone (FactsOf rows at account) (Ok (decision.Change c answer))
  leaves answer c when who e = achieved {x = decision.Change c answer} (when, who, other-facts rows account (made_snap c.made) (made_vol c.made) c.request e)

  pub told : (request : Request) → Ends request
  unfolding is_other
  told (StartSnapshot size parent description tags token timeout) = starts size parent description tags token timeout
  told (PutSnapshotBlock key index digest bytes) = puts key index digest bytes
  told (CompleteSnapshot key count checksum) = search (passed, after, leaves) depth 20
  told (ListSnapshotBlocks key page most start) = search (after, reads) depth 20
  told (ListChangedBlocks first second page most start) = search (after, reads) depth 20
  told (GetSnapshotBlock key index token) = search (after, reads) depth 20
  told (DescribeSnapshot key) = search (after, shown) depth 20
  told (DescribeSnapshots from most) = shown _
  told (DeleteSnapshot key) = search (passed, after, leaves) depth 20
  told (ModifyPermission key add add_all remove remove_all) = search (passed, after, leaves) depth 20
  told (LockSnapshot key mode term cool_hours) = search (after, leaves) depth 20
  told (UnlockSnapshot key) = search (after, leaves) depth 20
  told (ArchiveSnapshot key) = search (after, leaves) depth 20
  told (RestoreTier key days) = search (after, leaves) depth 20
  told (CreateVolume origin size tags token) = creates origin size tags token
  told (CreateSnapshot volume description tags) = snaps-volume volume description tags
  told (WriteVolumeBlock key index digest bytes) = writes key index digest bytes
  told (ReadVolumeBlock key index) = search (passed, after, reads) depth 20
  told (DescribeVolume key) = search (passed, after, shown) depth 20
  told (DeleteVolume key) = search (passed, after, leaves) depth 20
  told (CreateRule days tags description delay) = search (after, leaves) depth 20
  told (GetRule key) = search (after, shown) depth 20
  told (UpdateRule key days tags description) = search (after, leaves) depth 20
  told (DeleteRule key) = search (after, leaves) depth 20
  told ListRules = shown _
  told (LockRule key delay) = search (after, leaves) depth 20
  told (UnlockRule key) = search (after, leaves) depth 20
  told (ListBin from most) = shown _
  told (RestoreFromBin key) = search (passed, after, leaves) depth 20
  told (CreatePolicy targets hours time retain add) = search (passed, after, leaves) depth 20
  told (GetPolicy key) = search (passed, after, shown) depth 20
  told (DeletePolicy key) = search (passed, after, leaves) depth 20
  told (RunPolicy key) = runs key
