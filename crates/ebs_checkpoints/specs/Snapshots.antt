-- Snapshots, with the node of their blocks and their copies in the archive.
use Rattle.std.proofs.Common.{ℕ, List, ◌++◌, Bool, Option}
use Rattle.ebs_model.specs.declared.keys.SnapKey.{SnapKey}
use Rattle.ebs_model.specs.declared.keys.VolKey.{VolKey}
use Rattle.ebs_model.specs.declared.keys.PolicyKey.{PolicyKey}
use Rattle.ebs_model.specs.declared.keys.Moment.{Moment}
use Rattle.ebs_model.specs.declared.rows.Line.{Line}
use Rattle.ebs_model.specs.declared.rows.LockState.{LockState}
use Rattle.ebs_model.specs.declared.rows.Tier.{Tier}
use Rattle.ebs_model.specs.declared.tags.Tag.{Tag}
use Rattle.ebs_checkpoints.specs.declared.nodes.CopyRow.{CopyRow}
use Rattle.ebs_checkpoints.specs.declared.snapshots.SnapPoint.{SnapPoint}
use Rattle.ebs_records.specs.Fields.{IsWord, IsLong, word, long, flag, IsFlag, optional, IsOptional, IsAccount, IsMoment, moment, IsKey, key, IsVolume, volume, IsText, text, AreMembers, members, IsTag, tag, IsPolicyKey, policy_key}
use Rattle.ebs_records.specs.Names.{IsLine, line}
use Rattle.ebs_records.specs.States.{IsLock, lock, IsTier, tier}
use Rattle.ebs_checkpoints.specs.Nodes.{IsCopy, copy}

-- key, size and line
abbrev pub Named : Type 0
Named = SnapKey × (ℕ × Line)

abbrev pub IsNamed : Named → Type 0
IsNamed g = IsKey g.0 × (IsWord g.1.0 × IsLine g.1.1)

abbrev pub named : Named → List ℕ
named g = key g.0 ++ (word g.1.0 ++ line g.1.1)

-- parent, volume and policy
abbrev pub Origins : Type 0
Origins = Option SnapKey × (Option VolKey × Option PolicyKey)

abbrev pub AreOrigins : Origins → Type 0
AreOrigins g = IsOptional IsKey g.0 × (IsOptional IsVolume g.1.0 × IsOptional IsPolicyKey g.1.1)

abbrev pub origins : Origins → List ℕ
origins g = optional key g.0 ++ (optional volume g.1.0 ++ optional policy_key g.1.1)

-- start, timeout and the last put
abbrev pub Times : Type 0
Times = Moment × (ℕ × Moment)

abbrev pub AreTimes : Times → Type 0
AreTimes g = IsMoment g.0 × (IsWord g.1.0 × IsMoment g.1.1)

abbrev pub times : Times → List ℕ
times g = moment g.0 ++ (word g.1.0 ++ moment g.1.1)

-- whether it is completed, and what was put
abbrev pub Upload : Type 0
Upload = Bool × List ℕ

abbrev pub IsUpload : Upload → Type 0
IsUpload g = IsFlag g.0 × AreMembers IsWord g.1

abbrev pub upload : Upload → List ℕ
upload g = flag g.0 ++ members word g.1

-- description, tags, shared accounts, and whether it is public
abbrev pub Told : Type 0
Told = Option (List ℕ) × (List Tag × (List ℕ × Bool))

abbrev pub IsTold : Told → Type 0
IsTold g = IsOptional IsText g.0 × (AreMembers IsTag g.1.0 × (AreMembers IsAccount g.1.1.0 × IsFlag g.1.1.1))

abbrev pub told : Told → List ℕ
told g = optional text g.0 ++ (members tag g.1.0 ++ (members long g.1.1.0 ++ flag g.1.1.1))

-- lock, tier and the end in the bin
abbrev pub States : Type 0
States = LockState × (Tier × Option Moment)

abbrev pub AreStates : States → Type 0
AreStates g = IsLock g.0 × (IsTier g.1.0 × IsOptional IsMoment g.1.1)

abbrev pub states : States → List ℕ
states g = lock g.0 ++ (tier g.1.0 ++ optional moment g.1.1)

-- the node of its blocks, and its copies in the archive
abbrev pub Held : Type 0
Held = Option ℕ × List CopyRow

abbrev pub IsHeld : Held → Type 0
IsHeld g = IsOptional IsLong g.0 × AreMembers IsCopy g.1

abbrev pub held : Held → List ℕ
held g = optional long g.0 ++ members copy g.1

-- a snapshot, with its node and its copies
abbrev pub IsSnapPoint : SnapPoint → Type 0
IsSnapPoint v = IsNamed (v.key, (v.size, v.line)) × (AreOrigins (v.parent, (v.volume, v.policy)) × (AreTimes (v.start, (v.timeout, v.last)) × (IsUpload (v.completed, v.put) × (IsTold (v.description, (v.tags, (v.shared, v.public))) × (AreStates (v.lock, (v.tier, v.bin_end)) × IsHeld (v.node, v.copies))))))

abbrev pub snap_point : SnapPoint → List ℕ
snap_point v = named (v.key, (v.size, v.line)) ++ (origins (v.parent, (v.volume, v.policy)) ++ (times (v.start, (v.timeout, v.last)) ++ (upload (v.completed, v.put) ++ (told (v.description, (v.tags, (v.shared, v.public))) ++ (states (v.lock, (v.tier, v.bin_end)) ++ held (v.node, v.copies))))))
