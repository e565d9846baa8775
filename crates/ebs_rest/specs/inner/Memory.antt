-- Where memory is taken: for a value that is owned, or for the name of a bad member. What is read before either is never in want of it.
use Rattle.std.specs.Prelude.{codes, ℕ, List, Result, Ok, Err, Option, Some, None, ◌≡◌, false, ◌⊎◌}
use Rattle.std.specs.Str.{is_utf8}
use Rattle.ebs_http.specs.declared.message.Message.{Message}
use Rattle.ebs_model.specs.declared.answer.Refusal.{Refusal}
use Rattle.ebs_model.specs.declared.answer.Refusal.TheVariants.{BadParameter}
use Rattle.ebs_rest.specs.declared.table.Operation.{Operation}
use Rattle.ebs_rest.specs.declared.table.Operation.TheVariants.{StartSnapshot, PutSnapshotBlock, CompleteSnapshot, ListSnapshotBlocks, ListChangedBlocks, GetSnapshotBlock, DescribeSnapshot, DescribeSnapshots, DeleteSnapshot, ModifyPermission, LockSnapshot, UnlockSnapshot, ArchiveSnapshot, RestoreTier, CreateVolume, CreateSnapshot, WriteVolumeBlock, ReadVolumeBlock, DescribeVolume, DeleteVolume, CreateRule, GetRule, UpdateRule, DeleteRule, ListRules, LockRule, UnlockRule, ListBin, RestoreFromBin, CreatePolicy, GetPolicy, DeletePolicy, RunPolicy}
use Rattle.ebs_members.specs.Sources.{Members, required, path_of, query_of, in_path, path_bytes}
use Rattle.ebs_members.specs.Kinds as kind
use Rattle.ebs_rest.specs.Calls as call
use Rattle.ebs_rest.specs.CallOf.{caller, operation_at, route_of, call_of}
use Rattle.ebs_members.specs.inner.Memory.{IsGiven}
use Rattle.ebs_members.specs.inner.Outcome.{IsGood}

abbrev pub HasSnapshot : Members → Type 0
HasSnapshot path = IsGood (call.snapshot path)

abbrev pub HasVolume : Members → Type 0
HasVolume path = IsGood (call.volume path)

abbrev pub HasRule : Members → Type 0
HasRule path = IsGood (call.rule path)

abbrev pub HasBlock : Members → Type 0
HasBlock path = HasSnapshot path × IsGood (required path (codes "blockIndex") kind.index)

-- the call comes to its query or its JSON, from which it makes what is owned: the members of its path that stand before these are good
abbrev pub Makes : Operation → Members → List ℕ → List ℕ → Type 0
Makes StartSnapshot path query body = IsGiven body
Makes PutSnapshotBlock path query body = ⊥
Makes CompleteSnapshot path query body = ⊥
Makes ListSnapshotBlocks path query body = HasSnapshot path × IsGiven query
Makes ListChangedBlocks path query body = IsGiven query
Makes GetSnapshotBlock path query body = HasBlock path × IsGiven query
Makes DescribeSnapshot path query body = ⊥
Makes DescribeSnapshots path query body = IsGiven query
Makes DeleteSnapshot path query body = ⊥
Makes ModifyPermission path query body = HasSnapshot path × IsGiven body
Makes LockSnapshot path query body = HasSnapshot path × IsGiven body
Makes UnlockSnapshot path query body = ⊥
Makes ArchiveSnapshot path query body = HasSnapshot path × IsGiven body
Makes RestoreTier path query body = HasSnapshot path × IsGiven body
Makes CreateVolume path query body = IsGiven body
Makes CreateSnapshot path query body = HasVolume path × IsGiven body
Makes WriteVolumeBlock path query body = ⊥
Makes ReadVolumeBlock path query body = ⊥
Makes DescribeVolume path query body = ⊥
Makes DeleteVolume path query body = ⊥
Makes CreateRule path query body = IsGiven body
Makes GetRule path query body = ⊥
Makes UpdateRule path query body = HasRule path × IsGiven body
Makes DeleteRule path query body = ⊥
Makes ListRules path query body = ⊥
Makes LockRule path query body = HasRule path × IsGiven body
Makes UnlockRule path query body = ⊥
Makes ListBin path query body = IsGiven query
Makes RestoreFromBin path query body = ⊥
Makes CreatePolicy path query body = IsGiven body
Makes GetPolicy path query body = ⊥
Makes DeletePolicy path query body = ⊥
Makes RunPolicy path query body = ⊥

-- a call that isn't there makes nothing, nor one of a bad account
abbrev pub MakesIn : Result Operation Refusal → List ℕ → Message → Type 0
MakesIn (Err refusal) route message = ⊥
MakesIn (Ok operation) route message =
    IsGood (caller message) × Makes operation (in_path route (path_of message.target)) (query_of message.target) message.body

abbrev pub MakesAt : List ℕ → Message → Type 0
MakesAt route message = MakesIn (operation_at message.method route) route message

abbrev pub MakesBy : Option (List ℕ) → Message → Type 0
MakesBy None message = ⊥
MakesBy (Some route) message = MakesAt route message

-- a path that isn't UTF-8 is copied for the match
abbrev pub IsPathCopied : Message → Type 0
IsPathCopied message = is_utf8 (path_bytes message.target) ≡ false

-- a value that is owned is to be made
abbrev pub MakesValue : Message → Type 0
MakesValue message = IsPathCopied message ⊎ MakesBy (route_of (path_of message.target)) message

abbrev pub IsBadMember : Refusal → Type 0
IsBadMember (BadParameter name) = Unit {0}
IsBadMember _ = ⊥

-- the refusal hands out a name
abbrev pub HandsOutName : {A : Type 0} → Result A Refusal → Type 0
HandsOutName (Ok x) = ⊥
HandsOutName (Err refusal) = IsBadMember refusal

-- why there may be no memory for a message
abbrev pub MayWantMemory : Message → Type 0
MayWantMemory message = MakesValue message ⊎ HandsOutName (call_of message)
