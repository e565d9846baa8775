-- What a change does to the blocks that nodes keep, by its request.
use Rattle.std.proofs.Common.{◌≡◌, ℕ, ◌∷◌, List, [], Option, None, refl, ap, subst, Ok}
use Rattle.std.specs.FinMap as fin
use Rattle.ebs_model.specs.declared.keys.Moment.{Moment}
use Rattle.ebs_model.specs.declared.request.Request.{Request}
use Rattle.ebs_model.specs.declared.request.Request.TheVariants.{StartSnapshot, PutSnapshotBlock, CompleteSnapshot, ListSnapshotBlocks, ListChangedBlocks, GetSnapshotBlock, DescribeSnapshot, DescribeSnapshots, DeleteSnapshot, ModifyPermission, LockSnapshot, UnlockSnapshot, ArchiveSnapshot, RestoreTier, CreateVolume, CreateSnapshot, WriteVolumeBlock, ReadVolumeBlock, DescribeVolume, DeleteVolume, CreateRule, GetRule, UpdateRule, DeleteRule, ListRules, LockRule, UnlockRule, ListBin, RestoreFromBin, CreatePolicy, GetPolicy, DeletePolicy, RunPolicy}
use Rattle.ebs_model.specs.declared.answer.Answer.{Answer}
use Rattle.ebs_model.specs.declared.change.Change.{Change}
use Rattle.ebs_model.specs.declared.change.Decision.{Decision}
use Rattle.ebs_model.specs.declared.change.Decision.TheVariants as decision
use Rattle.ebs_model.specs.Decide.{decide}
use Rattle.ebs_model.specs.Machine.{Machine, rows_of}
use Rattle.ebs_lineage.specs.Table.{NodeMap}
use Rattle.ebs_slots.specs.inner.Slots.{SlotTable, adopted}
use Rattle.ebs_collect.specs.Slices.{IsCounted}
use Rattle.ebs_holds.specs.Counted.{KeepsBlocks, KeepsCounted, PutsCounted, without_stamp}
use Rattle.ebs_kept.specs.inner.Requests.{Brings}
use Rattle.ebs_disk_store.specs.declared.heads.PutHead.{PutHead}
use Rattle.ebs_disk_store.specs.declared.heads.PutHead.TheVariants as head
use Rattle.ebs_disk_store.specs.inner.Applied.{IsPut}
use Rattle.ebs_disk_store.specs.inner.Puts.{with_bytes}
use Rattle.ebs_disk_store.proofs.PutRuled.{upload_of, volume_of}

-- no bytes are each digest
no_bytes : {A : Type 0} → ((digest : List ℕ) → [] ≡ digest) → A
no_bytes h = absurd (never (h (0 ∷ [])))
  where
    never : ◌≡◌ {A = List ℕ} [] (0 ∷ []) → ⊥
    never e = cc

-- a change that brings no block
module _ (old new : NodeMap) (stamp : ℕ) (gone : Option ℕ) where
  pub keeps_blocks : (r : Request) → ((digest : List ℕ) → Brings r digest []) → KeepsCounted old new r stamp gone → KeepsBlocks old new
  keeps_blocks (StartSnapshot size parent description tags token timeout) none keeps = keeps
  keeps_blocks (PutSnapshotBlock key index digest bytes) none keeps = no_bytes none
  keeps_blocks (CompleteSnapshot key count checksum) none keeps = keeps
  keeps_blocks (ListSnapshotBlocks key page most start) none keeps = keeps
  keeps_blocks (ListChangedBlocks first second page most start) none keeps = keeps
  keeps_blocks (GetSnapshotBlock key index token) none keeps = keeps
  keeps_blocks (DescribeSnapshot key) none keeps = keeps
  keeps_blocks (DescribeSnapshots from most) none keeps = keeps
  keeps_blocks (DeleteSnapshot key) none keeps = keeps
  keeps_blocks (ModifyPermission key add add_all remove remove_all) none keeps = keeps
  keeps_blocks (LockSnapshot key mode term cool_hours) none keeps = keeps
  keeps_blocks (UnlockSnapshot key) none keeps = keeps
  keeps_blocks (ArchiveSnapshot key) none keeps = keeps
  keeps_blocks (RestoreTier key days) none keeps = keeps
  keeps_blocks (CreateVolume origin size tags token) none keeps = keeps
  keeps_blocks (CreateSnapshot key description tags) none keeps = keeps
  keeps_blocks (WriteVolumeBlock key index digest bytes) none keeps = no_bytes none
  keeps_blocks (ReadVolumeBlock key index) none keeps = keeps
  keeps_blocks (DescribeVolume key) none keeps = keeps
  keeps_blocks (DeleteVolume key) none keeps = keeps
  keeps_blocks (CreateRule days tags description delay) none keeps = keeps
  keeps_blocks (GetRule key) none keeps = keeps
  keeps_blocks (UpdateRule key days tags description) none keeps = keeps
  keeps_blocks (DeleteRule key) none keeps = keeps
  keeps_blocks ListRules none keeps = keeps
  keeps_blocks (LockRule key delay) none keeps = keeps
  keeps_blocks (UnlockRule key) none keeps = keeps
  keeps_blocks (ListBin from most) none keeps = keeps
  keeps_blocks (RestoreFromBin key) none keeps = keeps
  keeps_blocks (CreatePolicy targets hours time retain add) none keeps = keeps
  keeps_blocks (GetPolicy key) none keeps = keeps
  keeps_blocks (DeletePolicy key) none keeps = keeps
  keeps_blocks (RunPolicy key) none keeps = keeps

  -- and one that brings one
  puts_counted : (r : Request) → IsPut r → KeepsCounted old new r stamp gone → PutsCounted old new stamp gone
  puts_counted (StartSnapshot size parent description tags token timeout) put keeps = absurd put
  puts_counted (PutSnapshotBlock key index digest bytes) put keeps = keeps
  puts_counted (CompleteSnapshot key count checksum) put keeps = absurd put
  puts_counted (ListSnapshotBlocks key page most start) put keeps = absurd put
  puts_counted (ListChangedBlocks first second page most start) put keeps = absurd put
  puts_counted (GetSnapshotBlock key index token) put keeps = absurd put
  puts_counted (DescribeSnapshot key) put keeps = absurd put
  puts_counted (DescribeSnapshots from most) put keeps = absurd put
  puts_counted (DeleteSnapshot key) put keeps = absurd put
  puts_counted (ModifyPermission key add add_all remove remove_all) put keeps = absurd put
  puts_counted (LockSnapshot key mode term cool_hours) put keeps = absurd put
  puts_counted (UnlockSnapshot key) put keeps = absurd put
  puts_counted (ArchiveSnapshot key) put keeps = absurd put
  puts_counted (RestoreTier key days) put keeps = absurd put
  puts_counted (CreateVolume origin size tags token) put keeps = absurd put
  puts_counted (CreateSnapshot key description tags) put keeps = absurd put
  puts_counted (WriteVolumeBlock key index digest bytes) put keeps = keeps
  puts_counted (ReadVolumeBlock key index) put keeps = absurd put
  puts_counted (DescribeVolume key) put keeps = absurd put
  puts_counted (DeleteVolume key) put keeps = absurd put
  puts_counted (CreateRule days tags description delay) put keeps = absurd put
  puts_counted (GetRule key) put keeps = absurd put
  puts_counted (UpdateRule key days tags description) put keeps = absurd put
  puts_counted (DeleteRule key) put keeps = absurd put
  puts_counted ListRules put keeps = absurd put
  puts_counted (LockRule key delay) put keeps = absurd put
  puts_counted (UnlockRule key) put keeps = absurd put
  puts_counted (ListBin from most) put keeps = absurd put
  puts_counted (RestoreFromBin key) put keeps = absurd put
  puts_counted (CreatePolicy targets hours time retain add) put keeps = absurd put
  puts_counted (GetPolicy key) put keeps = absurd put
  puts_counted (DeletePolicy key) put keeps = absurd put
  puts_counted (RunPolicy key) put keeps = absurd put

-- once the next stamp has the slot of the lease, and what it replaced is given up, the slots count the blocks again
pub put_counted : (old new : NodeMap) (r : Request) (s : SlotTable) (stamp slot : ℕ) (gone : Option ℕ) → IsPut r → KeepsCounted old new r stamp gone → IsCounted s old → fin.get s.keys stamp ≡ None
    → IsCounted (without_stamp (adopted s slot stamp) gone) new
put_counted old new r s stamp slot gone put keeps counted none = puts_counted old new stamp gone r put keeps s (adopted s slot stamp) slot counted none (record { keys = refl; counts = refl })

-- what is decided of a put is one
abbrev request_in : Decision → Request
request_in (decision.Change change answer) = change.request
request_in (decision.Kept answer) = ListRules
request_in (decision.View answer) = ListRules
request_in (decision.Read row) = ListRules

pub is_put : (m : Machine) (at : Moment) (account : ℕ) (put : PutHead) (change : Change) (answer : Answer) → decide (rows_of m) at account (with_bytes put []) ≡ Ok (decision.Change change answer) → IsPut change.request
is_put m at account (head.Snapshot key index stated) change answer e = subst IsPut (ap request_in (upload_of m at account key index stated (decision.Change change answer) e).4) tt
is_put m at account (head.Volume key index stated) change answer e = subst IsPut (ap request_in (volume_of m at account key index stated (decision.Change change answer) e).3) tt
