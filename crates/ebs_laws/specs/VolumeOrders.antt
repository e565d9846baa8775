-- In which order the tests of calls on volumes refuse them (EBS API reference, CreateVolume, CreateSnapshot, DescribeVolumes, DeleteVolume). Each test
-- stands over fields of the request and of rows.
use Rattle.std.specs.Prelude.{ℕ, ◌*◌, ◌^◌, length, nat_eq, Bool, not, ◌&&◌, ◌||◌, ◌==◌, nat_le, nat_lt, is_some, unwrap_or, List, [], ◌∷◌, ◌++◌, codes}
use Rattle.std.specs.List.{count_by}
use Rattle.std.specs.Cmp.Lexicographic.{pointwise}
use Rattle.sha2.specs.Sha256.{sha256}
use Rattle.std.specs.FinMap as fin
use Rattle.std.specs.declared.option.Option.{Option}
use Rattle.std.specs.declared.option.Option.TheVariants.{None, Some}
use Rattle.ebs_model.specs.declared.keys.SnapKey.{SnapKey}
use Rattle.ebs_model.specs.declared.keys.VolKey.{VolKey}
use Rattle.ebs_model.specs.declared.keys.TokenKey.{TokenKey}
use Rattle.ebs_model.specs.declared.keys.Moment.{Moment}
use Rattle.ebs_model.specs.declared.tags.Tag.{Tag}
use Rattle.ebs_model.specs.declared.rows.VolRow.{VolRow}
use Rattle.ebs_model.specs.declared.rows.TokenRow.{TokenRow}
use Rattle.ebs_model.specs.declared.request.Request.TheVariants.{CreateVolume, CreateSnapshot, WriteVolumeBlock, ReadVolumeBlock, DescribeVolume, DeleteVolume}
use Rattle.ebs_model.specs.declared.answer.Kind.TheVariants.{Volume as volume}
use Rattle.ebs_model.specs.declared.answer.StateName.TheVariants as state
use Rattle.ebs_model.specs.declared.answer.QuotaName.TheVariants.{Snapshots, Volumes, ClientTokens, Ids}
use Rattle.ebs_model.specs.declared.answer.Spent.TheVariants.{Changes}
use Rattle.ebs_model.specs.declared.answer.Refusal.TheVariants.{BadParameter, BadSize, BadIndex, TokenConflict, Quota, WrongState, Checksum, NotFound, Exhausted}
use Rattle.ebs_model.specs.Limits.{is_description, are_tags, is_token_given}
use Rattle.ebs_model.specs.Calls.Start.{first_key}
use Rattle.ebs_model.specs.Calls.Volume.{is_same_create}
use Rattle.ebs_model.specs.Time.{Snapshot}
use Rattle.ebs_model.specs.Machine.{Machine, advance}
use Rattle.ebs_model.specs.Step.{step}
use Rattle.ebs_laws.specs.Words.{moment_at, next_number, next_volume_number, use_of}
use Rattle.ebs_laws.specs.OrderLaws.{Tests, first_of, IsRefusedBy, reader_tests, not_there, is_restored}

-- what the account has of its own: volumes, client tokens and numbers, then the store's changes
abbrev pub volume_room_tests : Machine → ℕ → Option (List ℕ) → Tests
volume_room_tests m account token =
    (nat_le 1000 (count_by (λ (e : VolKey × VolRow). account == e.0.account) (fin.entries m.vols)), Quota Volumes 1000)
    ∷ (is_some token && nat_le 65536 (count_by (λ (e : TokenKey × TokenRow). account == e.0.account) (fin.entries m.tokens)), Quota ClientTokens 65536)
    ∷ (nat_le (2 ^ 28) (next_volume_number m account), Quota Ids (2 ^ 28))
    ∷ (nat_le (2 ^ 40) m.changes, Exhausted Changes)
    ∷ []

-- the origin's row as one that is read, and not a temporary restore, then a size below the origin's
abbrev pub origin_tests : Machine → ℕ → Option (List ℕ) → Option ℕ → SnapKey → Option Snapshot → Tests
origin_tests m account token size from None = not_there
origin_tests m account token size from (Some s) =
    (reader_tests account from m.clock.second s.row ++ ((is_restored s.row.tier, WrongState state.Temporary) ∷ []))
    ++ ((nat_lt (unwrap_or size s.row.size) s.row.size, BadSize) ∷ volume_room_tests m account token)

abbrev pub begun_tests : Machine → ℕ → Option (List ℕ) → Option ℕ → Option SnapKey → Tests
begun_tests m account token size None = volume_room_tests m account token
begun_tests m account token size (Some from) = origin_tests m account token size from (fin.get m.snaps from)

-- whether another call was given with the client token before, which alone decides where one was
abbrev pub creation_tests : Machine → ℕ → Option SnapKey → Option ℕ → List Tag → Option (List ℕ) → Option TokenRow → Tests
creation_tests m account from size tags token None = begun_tests m account token size from
creation_tests m account from size tags token (Some row) = (not (is_same_create row.first from size tags), TokenConflict (first_key account row)) ∷ []

abbrev pub is_sized_within : Option ℕ → Bool
is_sized_within size = nat_le 1 (unwrap_or size 1) && nat_le (unwrap_or size 1) 16384

-- CreateVolume: a size or an origin, the tags, the token, the size; then the token's use, then the origin's row, then room
abbrev pub create_tests : Machine → ℕ → Option SnapKey → Option ℕ → List Tag → Option (List ℕ) → Tests
create_tests m account from size tags token =
    (not (is_some from || is_some size), BadParameter (codes "Size"))
    ∷ (not (are_tags tags), BadParameter (codes "Tags"))
    ∷ (not (is_token_given token), BadParameter (codes "ClientToken"))
    ∷ (not (is_sized_within size), BadSize)
    ∷ creation_tests m account from size tags token (use_of m account token)

abbrev pub CreateIsRefusedInOrder : Type 0
CreateIsRefusedInOrder =
    (m : Machine) (account : ℕ) (reading : Moment) (from : Option SnapKey) (size : Option ℕ) (tags : List Tag) (token : Option (List ℕ))
    → IsRefusedBy (first_of (create_tests (advance m (moment_at m reading)) account from size tags token)) (step m account reading (CreateVolume from size tags token)).1

-- DescribeVolume: another's volume is unknown, and so is one that isn't there
abbrev pub volume_tests : ℕ → VolKey → Option VolRow → Tests
volume_tests account key found = (not (account == key.account), NotFound volume) ∷ (not (is_some found), NotFound volume) ∷ []

abbrev pub DescribeVolumeIsRefusedInOrder : Type 0
DescribeVolumeIsRefusedInOrder =
    (m : Machine) (account : ℕ) (reading : Moment) (key : VolKey)
    → IsRefusedBy (first_of (volume_tests account key (fin.get m.vols key))) (step m account reading (DescribeVolume key)).1

-- DeleteVolume: the same, then the store's changes
abbrev pub DeleteVolumeIsRefusedInOrder : Type 0
DeleteVolumeIsRefusedInOrder =
    (m : Machine) (account : ℕ) (reading : Moment) (key : VolKey)
    → IsRefusedBy (first_of (volume_tests account key (fin.get m.vols key) ++ ((nat_le (2 ^ 40) m.changes, Exhausted Changes) ∷ []))) (step m account reading (DeleteVolume key)).1

-- what the account has of its own for one snapshot more: snapshots and numbers, then the store's changes
abbrev pub snapshot_room_tests : Machine → ℕ → Tests
snapshot_room_tests m account =
    (nat_le 10000 (count_by (λ (e : SnapKey × Snapshot). e.0.account == account) (fin.entries m.snaps)), Quota Snapshots 10000)
    ∷ (nat_le (2 ^ 28) (next_number m account), Quota Ids (2 ^ 28))
    ∷ (nat_le (2 ^ 40) m.changes, Exhausted Changes)
    ∷ []

-- CreateSnapshot: the description, the tags; then the volume, then room
abbrev pub snapshot_tests : Machine → ℕ → VolKey → Option (List ℕ) → List Tag → Tests
snapshot_tests m account key text tags =
    (not (is_description text), BadParameter (codes "Description"))
    ∷ (not (are_tags tags), BadParameter (codes "Tags"))
    ∷ (volume_tests account key (fin.get m.vols key) ++ snapshot_room_tests m account)

abbrev pub CreateSnapshotIsRefusedInOrder : Type 0
CreateSnapshotIsRefusedInOrder =
    (m : Machine) (account : ℕ) (reading : Moment) (key : VolKey) (text : Option (List ℕ)) (tags : List Tag)
    → IsRefusedBy (first_of (snapshot_tests (advance m (moment_at m reading)) account key text tags)) (step m account reading (CreateSnapshot key text tags)).1

-- the volume, then an index within its size
abbrev pub index_tests : ℕ → VolKey → ℕ → Option VolRow → Tests
index_tests account key index None = volume_tests account key None
index_tests account key index (Some row) = volume_tests account key (Some row) ++ ((nat_le (2048 * row.size) index, BadIndex) ∷ [])

-- WriteVolumeBlock: the index's digits, the body, the digest; then the volume and the index, then the store's changes
abbrev pub write_tests : Machine → ℕ → VolKey → ℕ → List ℕ → List ℕ → Tests
write_tests m account key index digest bytes =
    (not (nat_lt index (10 ^ 10)), BadParameter (codes "blockIndex"))
    ∷ (not (length bytes == 524288), BadParameter (codes "body"))
    ∷ (not (pointwise nat_eq digest (sha256 bytes)), Checksum digest (sha256 bytes))
    ∷ (index_tests account key index (fin.get m.vols key) ++ ((nat_le (2 ^ 40) m.changes, Exhausted Changes) ∷ []))

abbrev pub WriteIsRefusedInOrder : Type 0
WriteIsRefusedInOrder =
    (m : Machine) (account : ℕ) (reading : Moment) (key : VolKey) (index : ℕ) (digest bytes : List ℕ)
    → IsRefusedBy (first_of (write_tests m account key index digest bytes)) (step m account reading (WriteVolumeBlock key index digest bytes)).1

-- ReadVolumeBlock: the index's digits; then the volume and the index
abbrev pub ReadIsRefusedInOrder : Type 0
ReadIsRefusedInOrder =
    (m : Machine) (account : ℕ) (reading : Moment) (key : VolKey) (index : ℕ)
    → IsRefusedBy (first_of ((not (nat_lt index (10 ^ 10)), BadParameter (codes "blockIndex")) ∷ index_tests account key index (fin.get m.vols key))) (step m account reading (ReadVolumeBlock key index)).1
