-- Records of the journal.
use Rattle.std.proofs.Common.{ℕ, List, ◌++◌, ◌∷◌, ◌^◌, Bool, ◌-◌, true, false, ◌&&◌, Option, Some, None, ◌≡◌}
use Rattle.std.specs.Prelude.{nat_le, nat_lt}
use Rattle.std.specs.Option.{is_none}
use Rattle.ebs_model.specs.declared.keys.Moment.{Moment}
use Rattle.ebs_model.specs.declared.request.Request.{Request}
use Rattle.ebs_model.specs.declared.request.Request.TheVariants.{StartSnapshot, PutSnapshotBlock, CompleteSnapshot, CreateVolume, WriteVolumeBlock}
use Rattle.ebs_model.specs.Limits.{most_gib, is_size, is_size_given, bad_member}
use Rattle.ebs_records.specs.declared.record.AcceptedCall.{AcceptedCall}
use Rattle.ebs_records.specs.declared.record.Transfer.{Transfer}
use Rattle.ebs_records.specs.declared.record.Record.{Record}
use Rattle.ebs_records.specs.declared.record.Record.TheVariants.{Accepted, Advance, Moved}
use Rattle.ebs_records.specs.Calls.{called_in, IsAsked}
use Rattle.ebs_model.specs.Quotas.{blocks_of}
use Rattle.ebs_records.specs.Fields.{long, moment, IsAccount, IsMoment, word, flag, key, IsWord, IsLong, IsFlag, IsKey}

-- ---- the spelling

-- the moment, the account, and the call with its fields
abbrev pub accepted : AcceptedCall → List ℕ
accepted a = (moment a.at ++ long a.account) ++ called_in (a.request, a.slot)

abbrev pub IsAcceptedCall : AcceptedCall → Type 0
IsAcceptedCall a = (IsMoment a.at × IsAccount a.account) × IsAsked (a.request, a.slot)

-- the snapshot, the index, the way, the copy and the slot
abbrev pub transfer : Transfer → List ℕ
transfer t = key t.key ++ (word t.index ++ (flag t.to_archive ++ (long t.copy ++ long t.slot)))

abbrev pub IsTransfer : Transfer → Type 0
IsTransfer t = IsKey t.key × (IsWord t.index × (IsFlag t.to_archive × (IsLong t.copy × IsLong t.slot)))

-- a byte for the kind of record, and what it has
abbrev pub record_bytes : Record → List ℕ
record_bytes (Accepted a) = 1 ∷ accepted a
record_bytes (Advance at) = 2 ∷ moment at
record_bytes (Moved t) = 3 ∷ transfer t

abbrev pub HasSpelling : Record → Type 0
HasSpelling (Accepted a) = IsAcceptedCall a
HasSpelling (Advance at) = IsMoment at
HasSpelling (Moved t) = IsTransfer t

-- ---- the limits

-- at most 2^36 seconds
abbrev pub is_moment : Moment → Bool
is_moment at = nat_le at.second (2 ^ 36)

-- an index of an image of the greatest size
abbrev pub is_index : ℕ → Bool
is_index index = nat_lt index (blocks_of most_gib)

-- a slot of 524288 bytes in the area of blocks that ends at or below byte 2^62
abbrev pub is_slot : ℕ → Bool
is_slot slot = nat_lt slot (2 ^ 43)

-- one that a block is moved to: those of the archive begin, and end, one block later
abbrev pub is_moved_slot : Bool → ℕ → Bool
is_moved_slot true slot = nat_lt slot (2 ^ 43 - 1)
is_moved_slot false slot = is_slot slot

-- a copy of a block in the archive
abbrev pub is_copy : ℕ → Bool
is_copy copy = nat_lt copy (2 ^ 42)

-- a block that is written has an index, and a slot for its bytes
abbrev pub is_block : ℕ → Option ℕ → Bool
is_block index None = false
is_block index (Some slot) = is_index index && is_slot slot

abbrev pub is_within : Request → Option ℕ → Bool
is_within (StartSnapshot size parent description tags token timeout) slot = is_size size && is_none (bad_member (StartSnapshot size parent description tags token timeout))
is_within (PutSnapshotBlock key index digest bytes) slot = is_block index slot
is_within (CompleteSnapshot key count checksum) slot = nat_le count (blocks_of most_gib)
is_within (CreateVolume origin size tags token) slot = is_size_given size && is_none (bad_member (CreateVolume origin size tags token))
is_within (WriteVolumeBlock key index digest bytes) slot = is_block index slot
is_within request slot = is_none (bad_member request)

abbrev pub has_limits : Record → Bool
has_limits (Accepted a) = is_moment a.at && is_within a.request a.slot
has_limits (Advance at) = is_moment at
has_limits (Moved t) = is_index t.index && (is_copy t.copy && is_moved_slot t.to_archive t.slot)

-- a record is a value within its limits
pub record IsRecord (r : Record) : Type 0 where
  pub spelled : HasSpelling r
  pub limits : has_limits r ≡ true
