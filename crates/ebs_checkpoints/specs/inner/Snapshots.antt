-- Beside what is promised: snapshots, with the node of their blocks and their copies in the archive.
use Rattle.std.proofs.Common.{◌++◌, refl}
use Rattle.ebs_checkpoints.specs.declared.snapshots.SnapPoint.{SnapPoint}
use Rattle.ebs_records.specs.inner.Apart.{Apart, apart_pair, apart_by}
use Rattle.ebs_records.specs.Fields.{IsWord, IsLong, word, long, flag, IsFlag, optional, IsOptional, IsAccount, IsMoment, moment, IsKey, key, IsVolume, volume, IsText, text, AreMembers, members, IsTag, tag, IsPolicyKey, policy_key}
use Rattle.ebs_records.specs.inner.Numbers.{apart_word, apart_long}
use Rattle.ebs_records.specs.inner.Choices.{apart_flag, apart_optional}
use Rattle.ebs_records.specs.inner.Keys.{apart_account, apart_moment, apart_key, apart_volume}
use Rattle.ebs_records.specs.inner.Lists.{apart_text, apart_members}
use Rattle.ebs_records.specs.inner.Tags.{apart_tag}
use Rattle.ebs_records.specs.inner.Names.{apart_policy_key, apart_line}
use Rattle.ebs_records.specs.Names.{IsLine, line}
use Rattle.ebs_records.specs.inner.States.{apart_lock, apart_tier}
use Rattle.ebs_records.specs.States.{IsLock, lock, IsTier, tier}
use Rattle.ebs_checkpoints.specs.Nodes.{IsCopy, copy}
use Rattle.ebs_checkpoints.specs.inner.Nodes.{apart_copy}
use Rattle.ebs_checkpoints.specs.Snapshots.{AreOrigins, AreStates, AreTimes, IsHeld, IsNamed, IsSnapPoint, IsTold, IsUpload, held, named, origins, snap_point, states, times, told, upload}

apart_parent : Apart (IsOptional IsKey) (optional key)
apart_parent = apart_optional IsKey key apart_key

apart_volume_of : Apart (IsOptional IsVolume) (optional volume)
apart_volume_of = apart_optional IsVolume volume apart_volume

apart_policy_of : Apart (IsOptional IsPolicyKey) (optional policy_key)
apart_policy_of = apart_optional IsPolicyKey policy_key apart_policy_key

apart_indexes : Apart (AreMembers IsWord) (members word)
apart_indexes = apart_members IsWord word apart_word

apart_description : Apart (IsOptional IsText) (optional text)
apart_description = apart_optional IsText text apart_text

apart_tags : Apart (AreMembers IsTag) (members tag)
apart_tags = apart_members IsTag tag apart_tag

apart_shared : Apart (AreMembers IsAccount) (members long)
apart_shared = apart_members IsAccount long apart_account

apart_end : Apart (IsOptional IsMoment) (optional moment)
apart_end = apart_optional IsMoment moment apart_moment

apart_node_of : Apart (IsOptional IsLong) (optional long)
apart_node_of = apart_optional IsLong long apart_long

apart_copies : Apart (AreMembers IsCopy) (members copy)
apart_copies = apart_members IsCopy copy apart_copy

apart_named : Apart IsNamed named
apart_named = apart_pair IsKey key _ _ apart_key (apart_pair IsWord word IsLine line apart_word apart_line)

apart_origins : Apart AreOrigins origins
apart_origins = apart_pair (IsOptional IsKey) (optional key) _ _ apart_parent (apart_pair (IsOptional IsVolume) (optional volume) (IsOptional IsPolicyKey) (optional policy_key) apart_volume_of apart_policy_of)

apart_times : Apart AreTimes times
apart_times = apart_pair IsMoment moment _ _ apart_moment (apart_pair IsWord word IsMoment moment apart_word apart_moment)

apart_upload : Apart IsUpload upload
apart_upload = apart_pair IsFlag flag (AreMembers IsWord) (members word) apart_flag apart_indexes

apart_told : Apart IsTold told
apart_told = apart_pair (IsOptional IsText) (optional text) _ _ apart_description (apart_pair (AreMembers IsTag) (members tag) _ _ apart_tags (apart_pair (AreMembers IsAccount) (members long) IsFlag flag apart_shared apart_flag))

apart_states : Apart AreStates states
apart_states = apart_pair IsLock lock _ _ apart_lock (apart_pair IsTier tier (IsOptional IsMoment) (optional moment) apart_tier apart_end)

apart_held : Apart IsHeld held
apart_held = apart_pair (IsOptional IsLong) (optional long) (AreMembers IsCopy) (members copy) apart_node_of apart_copies

pub apart_snap_point : Apart IsSnapPoint snap_point
apart_snap_point = apart_by {V = SnapPoint} (λ v. ((v.key, (v.size, v.line)), ((v.parent, (v.volume, v.policy)), ((v.start, (v.timeout, v.last)), ((v.completed, v.put), ((v.description, (v.tags, (v.shared, v.public))), ((v.lock, (v.tier, v.bin_end)), (v.node, v.copies)))))))) (λ p. record { key = p.0.0; size = p.0.1.0; line = p.0.1.1; parent = p.1.0.0; volume = p.1.0.1.0; policy = p.1.0.1.1; start = p.1.1.0.0; timeout = p.1.1.0.1.0; last = p.1.1.0.1.1; completed = p.1.1.1.0.0; put = p.1.1.1.0.1; description = p.1.1.1.1.0.0; tags = p.1.1.1.1.0.1.0; shared = p.1.1.1.1.0.1.1.0; public = p.1.1.1.1.0.1.1.1; lock = p.1.1.1.1.1.0.0; tier = p.1.1.1.1.1.0.1.0; bin_end = p.1.1.1.1.1.0.1.1; node = p.1.1.1.1.1.1.0; copies = p.1.1.1.1.1.1.1 })
    (λ p. IsNamed p.0 × (AreOrigins p.1.0 × (AreTimes p.1.1.0 × (IsUpload p.1.1.1.0 × (IsTold p.1.1.1.1.0 × (AreStates p.1.1.1.1.1.0 × IsHeld p.1.1.1.1.1.1)))))) (λ p. named p.0 ++ (origins p.1.0 ++ (times p.1.1.0 ++ (upload p.1.1.1.0 ++ (told p.1.1.1.1.0 ++ (states p.1.1.1.1.1.0 ++ held p.1.1.1.1.1.1)))))) (λ v. refl)
    (apart_pair IsNamed named _ _ apart_named (apart_pair AreOrigins origins _ _ apart_origins (apart_pair AreTimes times _ _ apart_times (apart_pair IsUpload upload _ _ apart_upload (apart_pair IsTold told _ _ apart_told (apart_pair AreStates states IsHeld held apart_states apart_held))))))
