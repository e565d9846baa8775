-- The changing calls, each with the fields that its record has, in their order.
use Rattle.std.proofs.Common.{ℕ, Bool, List, Option, ◌++◌, ◌∷◌, [], Some, None, ◌≡◌}
use Rattle.ebs_model.specs.declared.keys.SnapKey.{SnapKey}
use Rattle.ebs_model.specs.declared.keys.VolKey.{VolKey}
use Rattle.ebs_model.specs.declared.keys.RuleKey.{RuleKey}
use Rattle.ebs_model.specs.declared.keys.PolicyKey.{PolicyKey}
use Rattle.ebs_model.specs.declared.tags.Tag.{Tag}
use Rattle.ebs_model.specs.declared.rules.RuleTag.{RuleTag}
use Rattle.ebs_model.specs.declared.request.Request.{Request}
use Rattle.ebs_model.specs.declared.lock.LockMode.{LockMode}
use Rattle.ebs_model.specs.declared.lock.Term.{Term}
use Rattle.ebs_model.specs.declared.policy.Retain.{Retain}
use Rattle.ebs_model.specs.declared.request.Request.TheVariants.{StartSnapshot, PutSnapshotBlock, CompleteSnapshot, DeleteSnapshot, ModifyPermission, LockSnapshot, UnlockSnapshot, ArchiveSnapshot, RestoreTier, CreateVolume, CreateSnapshot, WriteVolumeBlock, DeleteVolume, CreateRule, UpdateRule, DeleteRule, LockRule, UnlockRule, RestoreFromBin, CreatePolicy, DeletePolicy, RunPolicy}
use Rattle.ebs_records.specs.declared.calls.ChangingCall.{ChangingCall}
use Rattle.ebs_records.specs.declared.calls.ChangingCall.TheVariants as call
use Rattle.ebs_records.specs.States.{IsRetain, retain}
use Rattle.ebs_records.specs.Fields.{IsWord, IsLong, IsOptional, IsFlag, IsKey, IsVolume, IsRule, IsAccount, IsText, IsDigest, AreMembers, IsTag, IsRuleTag, IsPolicyKey, IsMode, IsTerm, word, long, optional, flag, key, volume, rule, text, digest, members, tag, rule_tag, policy_key, mode, term}

-- a call's number, one byte
abbrev pub number_of : ChangingCall → ℕ
number_of call.StartSnapshot = 1
number_of call.PutSnapshotBlock = 2
number_of call.CompleteSnapshot = 3
number_of call.DeleteSnapshot = 9
number_of call.ModifyPermission = 10
number_of call.LockSnapshot = 11
number_of call.UnlockSnapshot = 12
number_of call.ArchiveSnapshot = 13
number_of call.RestoreTier = 14
number_of call.CreateVolume = 15
number_of call.CreateSnapshot = 16
number_of call.WriteVolumeBlock = 17
number_of call.DeleteVolume = 20
number_of call.CreateRule = 21
number_of call.UpdateRule = 23
number_of call.DeleteRule = 24
number_of call.LockRule = 26
number_of call.UnlockRule = 27
number_of call.RestoreFromBin = 29
number_of call.CreatePolicy = 30
number_of call.DeletePolicy = 32
number_of call.RunPolicy = 33

-- its fields; of a block that is written the slot of its bytes in their place
abbrev pub Fields : ChangingCall → Type 0
Fields call.StartSnapshot = ℕ × (Option SnapKey × (Option (List ℕ) × (List Tag × (Option (List ℕ) × ℕ))))
Fields call.PutSnapshotBlock = SnapKey × (ℕ × (List ℕ × ℕ))
Fields call.CompleteSnapshot = SnapKey × (ℕ × Option (List ℕ))
Fields call.DeleteSnapshot = SnapKey
Fields call.ModifyPermission = SnapKey × (List ℕ × (Bool × (List ℕ × Bool)))
Fields call.LockSnapshot = SnapKey × (LockMode × (Term × Option ℕ))
Fields call.UnlockSnapshot = SnapKey
Fields call.ArchiveSnapshot = SnapKey
Fields call.RestoreTier = SnapKey × Option ℕ
Fields call.CreateVolume = Option SnapKey × (Option ℕ × (List Tag × Option (List ℕ)))
Fields call.CreateSnapshot = VolKey × (Option (List ℕ) × List Tag)
Fields call.WriteVolumeBlock = VolKey × (ℕ × (List ℕ × ℕ))
Fields call.DeleteVolume = VolKey
Fields call.CreateRule = ℕ × (List RuleTag × (Option (List ℕ) × Option ℕ))
Fields call.UpdateRule = RuleKey × (Option ℕ × (Option (List RuleTag) × Option (List ℕ)))
Fields call.DeleteRule = RuleKey
Fields call.LockRule = RuleKey × ℕ
Fields call.UnlockRule = RuleKey
Fields call.RestoreFromBin = SnapKey
Fields call.CreatePolicy = List Tag × (ℕ × (ℕ × (Retain × List Tag)))
Fields call.DeletePolicy = PolicyKey
Fields call.RunPolicy = PolicyKey

abbrev pub AreFields : (c : ChangingCall) → Fields c → Type 0
AreFields call.StartSnapshot f = IsLong f.0 × (IsOptional IsKey f.1.0 × (IsOptional IsText f.1.1.0 × (AreMembers IsTag f.1.1.1.0 × (IsOptional IsText f.1.1.1.1.0 × IsWord f.1.1.1.1.1))))
AreFields call.PutSnapshotBlock f = IsKey f.0 × (IsLong f.1.0 × (IsDigest f.1.1.0 × IsLong f.1.1.1))
AreFields call.CompleteSnapshot f = IsKey f.0 × (IsLong f.1.0 × IsOptional IsDigest f.1.1)
AreFields call.DeleteSnapshot f = IsKey f
AreFields call.ModifyPermission f = IsKey f.0 × (AreMembers IsAccount f.1.0 × (IsFlag f.1.1.0 × (AreMembers IsAccount f.1.1.1.0 × IsFlag f.1.1.1.1)))
AreFields call.LockSnapshot f = IsKey f.0 × (IsMode f.1.0 × (IsTerm f.1.1.0 × IsOptional IsWord f.1.1.1))
AreFields call.UnlockSnapshot f = IsKey f
AreFields call.ArchiveSnapshot f = IsKey f
AreFields call.RestoreTier f = IsKey f.0 × IsOptional IsWord f.1
AreFields call.CreateVolume f = IsOptional IsKey f.0 × (IsOptional IsLong f.1.0 × (AreMembers IsTag f.1.1.0 × IsOptional IsText f.1.1.1))
AreFields call.CreateSnapshot f = IsVolume f.0 × (IsOptional IsText f.1.0 × AreMembers IsTag f.1.1)
AreFields call.WriteVolumeBlock f = IsVolume f.0 × (IsLong f.1.0 × (IsDigest f.1.1.0 × IsLong f.1.1.1))
AreFields call.DeleteVolume f = IsVolume f
AreFields call.CreateRule f = IsWord f.0 × (AreMembers IsRuleTag f.1.0 × (IsOptional IsText f.1.1.0 × IsOptional IsWord f.1.1.1))
AreFields call.UpdateRule f = IsRule f.0 × (IsOptional IsWord f.1.0 × (IsOptional (AreMembers IsRuleTag) f.1.1.0 × IsOptional IsText f.1.1.1))
AreFields call.DeleteRule f = IsRule f
AreFields call.LockRule f = IsRule f.0 × IsWord f.1
AreFields call.UnlockRule f = IsRule f
AreFields call.RestoreFromBin f = IsKey f
AreFields call.CreatePolicy f = AreMembers IsTag f.0 × (IsWord f.1.0 × (IsWord f.1.1.0 × (IsRetain f.1.1.1.0 × AreMembers IsTag f.1.1.1.1)))
AreFields call.DeletePolicy f = IsPolicyKey f
AreFields call.RunPolicy f = IsPolicyKey f

abbrev pub fields : (c : ChangingCall) → Fields c → List ℕ
fields call.StartSnapshot f = long f.0 ++ (optional key f.1.0 ++ (optional text f.1.1.0 ++ (members tag f.1.1.1.0 ++ (optional text f.1.1.1.1.0 ++ word f.1.1.1.1.1))))
fields call.PutSnapshotBlock f = key f.0 ++ (long f.1.0 ++ (digest f.1.1.0 ++ long f.1.1.1))
fields call.CompleteSnapshot f = key f.0 ++ (long f.1.0 ++ optional digest f.1.1)
fields call.DeleteSnapshot f = key f
fields call.ModifyPermission f = key f.0 ++ (members long f.1.0 ++ (flag f.1.1.0 ++ (members long f.1.1.1.0 ++ flag f.1.1.1.1)))
fields call.LockSnapshot f = key f.0 ++ (mode f.1.0 ++ (term f.1.1.0 ++ optional word f.1.1.1))
fields call.UnlockSnapshot f = key f
fields call.ArchiveSnapshot f = key f
fields call.RestoreTier f = key f.0 ++ optional word f.1
fields call.CreateVolume f = optional key f.0 ++ (optional long f.1.0 ++ (members tag f.1.1.0 ++ optional text f.1.1.1))
fields call.CreateSnapshot f = volume f.0 ++ (optional text f.1.0 ++ members tag f.1.1)
fields call.WriteVolumeBlock f = volume f.0 ++ (long f.1.0 ++ (digest f.1.1.0 ++ long f.1.1.1))
fields call.DeleteVolume f = volume f
fields call.CreateRule f = word f.0 ++ (members rule_tag f.1.0 ++ (optional text f.1.1.0 ++ optional word f.1.1.1))
fields call.UpdateRule f = rule f.0 ++ (optional word f.1.0 ++ (optional (members rule_tag) f.1.1.0 ++ optional text f.1.1.1))
fields call.DeleteRule f = rule f
fields call.LockRule f = rule f.0 ++ word f.1
fields call.UnlockRule f = rule f
fields call.RestoreFromBin f = key f
fields call.CreatePolicy f = members tag f.0 ++ (word f.1.0 ++ (word f.1.1.0 ++ (retain f.1.1.1.0 ++ members tag f.1.1.1.1)))
fields call.DeletePolicy f = policy_key f
fields call.RunPolicy f = policy_key f

-- a call with its fields
abbrev pub Called : Type 0
Called = (c : ChangingCall) × Fields c

abbrev pub IsCalled : Called → Type 0
IsCalled c = AreFields c.0 c.1

abbrev pub called : Called → List ℕ
called c = number_of c.0 ∷ fields c.0 c.1

-- the call that a request is with the slot of its bytes, where it is a change
abbrev pub call_in : Request → Option ℕ → Option Called
call_in (StartSnapshot size parent description tags token timeout) None = Some (call.StartSnapshot, (size, (parent, (description, (tags, (token, timeout))))))
call_in (PutSnapshotBlock key index digest []) (Some slot) = Some (call.PutSnapshotBlock, (key, (index, (digest, slot))))
call_in (CompleteSnapshot key count checksum) None = Some (call.CompleteSnapshot, (key, (count, checksum)))
call_in (DeleteSnapshot key) None = Some (call.DeleteSnapshot, key)
call_in (ModifyPermission key add add_all remove remove_all) None = Some (call.ModifyPermission, (key, (add, (add_all, (remove, remove_all)))))
call_in (LockSnapshot key mode term cool_hours) None = Some (call.LockSnapshot, (key, (mode, (term, cool_hours))))
call_in (UnlockSnapshot key) None = Some (call.UnlockSnapshot, key)
call_in (ArchiveSnapshot key) None = Some (call.ArchiveSnapshot, key)
call_in (RestoreTier key days) None = Some (call.RestoreTier, (key, days))
call_in (CreateVolume origin size tags token) None = Some (call.CreateVolume, (origin, (size, (tags, token))))
call_in (CreateSnapshot key description tags) None = Some (call.CreateSnapshot, (key, (description, tags)))
call_in (WriteVolumeBlock key index digest []) (Some slot) = Some (call.WriteVolumeBlock, (key, (index, (digest, slot))))
call_in (DeleteVolume key) None = Some (call.DeleteVolume, key)
call_in (CreateRule days tags description delay) None = Some (call.CreateRule, (days, (tags, (description, delay))))
call_in (UpdateRule key days tags description) None = Some (call.UpdateRule, (key, (days, (tags, description))))
call_in (DeleteRule key) None = Some (call.DeleteRule, key)
call_in (LockRule key delay) None = Some (call.LockRule, (key, delay))
call_in (UnlockRule key) None = Some (call.UnlockRule, key)
call_in (RestoreFromBin key) None = Some (call.RestoreFromBin, key)
call_in (CreatePolicy targets hours at retain add) None = Some (call.CreatePolicy, (targets, (hours, (at, (retain, add)))))
call_in (DeletePolicy key) None = Some (call.DeletePolicy, key)
call_in (RunPolicy key) None = Some (call.RunPolicy, key)
call_in request slot = None

-- ---- what a request and its slot have as bytes

abbrev pub called_by : Option Called → List ℕ
called_by None = []
called_by (Some c) = called c

-- it is a changing call
pub record IsAsked (p : Request × Option ℕ) : Type 0 where
  pub given : Called
  pub is : call_in p.0 p.1 ≡ Some given
  pub fit : IsCalled given

abbrev pub called_in : Request × Option ℕ → List ℕ
called_in p = called_by (call_in p.0 p.1)
