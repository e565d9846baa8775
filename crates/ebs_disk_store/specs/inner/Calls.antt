-- The calls that the store records.
use Rattle.std.specs.Prelude.{◌≡◌, ℕ, List, [], false, Ok, Result, Err, Bool, true, Option, None, Some}
use Rattle.std.specs.List.{AllByRecursion}
use Rattle.std.specs.Str.{IsUtf8}
use Rattle.ebs_model.specs.declared.tags.Tag.{Tag}
use Rattle.ebs_model.specs.declared.rules.RuleTag.{RuleTag}
use Rattle.ebs_model.specs.declared.request.Request.{Request}
use Rattle.ebs_model.specs.declared.request.Request.TheVariants.{StartSnapshot, CompleteSnapshot, DeleteSnapshot, ModifyPermission, LockSnapshot, UnlockSnapshot, ArchiveSnapshot, RestoreTier, CreateVolume, CreateSnapshot, DeleteVolume, CreateRule, UpdateRule, DeleteRule, LockRule, UnlockRule, RestoreFromBin, CreatePolicy, DeletePolicy, RunPolicy}
use Rattle.ebs_model.specs.declared.answer.Answer.{Answer}
use Rattle.ebs_model.specs.declared.answer.Failure.{Failure}
use Rattle.ebs_model.specs.declared.answer.Failure.TheVariants.{Refused, Memory}
use Rattle.ebs_model.specs.declared.change.Change.{Change}
use Rattle.ebs_model.specs.declared.change.Decision.{Decision}
use Rattle.ebs_model.specs.declared.change.Decision.TheVariants as decision
use Rattle.ebs_model.specs.declared.answer.Refusal.TheVariants.{Exhausted, BadIndex}
use Rattle.ebs_model.specs.declared.answer.Spent.TheVariants.{Changes}
use Rattle.ebs_model.specs.Kept.{same}
use Rattle.ebs_model.specs.Decide.{decide}
use Rattle.ebs_model.specs.Calls.Start.{least_size}
use Rattle.ebs_model.specs.Machine.{Machine, rows_of, is_spent}
use Rattle.ebs_model.specs.Step.{act, changed}
use Rattle.ebs_catalog.specs.Held.{IsDecided}
use Rattle.ebs_records.specs.States.{IsRetain}
use Rattle.ebs_model.specs.declared.answer.Refusal.{Refusal}
use Rattle.ebs_disk_store.specs.declared.ruling.Ruling.{Ruling}
use Rattle.ebs_disk_store.specs.declared.ruling.Ruling.TheVariants as ruling
use Rattle.ebs_kept.specs.inner.Requests.{Brings}
use Rattle.ebs_kept.specs.inner.Wants.{MayRunOut}
use Rattle.ebs_records.specs.Fields.{IsOptional, IsAccount, IsKey, IsVolume, IsRule, IsTerm, IsLong, IsWord, IsPolicyKey, IsDigest}

-- a tag's texts are in UTF-8
abbrev pub HasTexts : Tag → Type 0
HasTexts tag = IsUtf8 tag.key × IsUtf8 tag.value

-- and so are those of a rule's tag
abbrev pub HasRuleTexts : RuleTag → Type 0
HasRuleTexts tag = IsUtf8 tag.key × IsOptional IsUtf8 tag.value

-- its keys, its accounts, its date and its numbers have their widths, and its texts are in UTF-8
abbrev pub HasFields : Request → Type 0
HasFields (StartSnapshot size parent description tags token timeout) =
    IsLong size × (IsOptional IsKey parent × (IsOptional IsUtf8 description × (AllByRecursion HasTexts tags × (IsOptional IsUtf8 token × IsWord timeout))))
HasFields (CompleteSnapshot key count checksum) = IsKey key × IsOptional IsDigest checksum
HasFields (DeleteSnapshot key) = IsKey key
HasFields (ModifyPermission key add add_all remove remove_all) = IsKey key × (AllByRecursion IsAccount add × AllByRecursion IsAccount remove)
HasFields (LockSnapshot key mode term cool_hours) = IsKey key × IsTerm term
HasFields (UnlockSnapshot key) = IsKey key
HasFields (ArchiveSnapshot key) = IsKey key
HasFields (RestoreTier key days) = IsKey key
HasFields (CreateVolume origin size tags token) = IsOptional IsKey origin × (IsOptional IsLong size × (AllByRecursion HasTexts tags × IsOptional IsUtf8 token))
HasFields (CreateSnapshot key description tags) = IsVolume key × (IsOptional IsUtf8 description × AllByRecursion HasTexts tags)
HasFields (DeleteVolume key) = IsVolume key
HasFields (CreateRule days tags description delay) = AllByRecursion HasRuleTexts tags × IsOptional IsUtf8 description
HasFields (UpdateRule key days tags description) = IsRule key × (IsOptional (AllByRecursion HasRuleTexts) tags × IsOptional IsUtf8 description)
HasFields (DeleteRule key) = IsRule key
HasFields (LockRule key delay) = IsRule key
HasFields (UnlockRule key) = IsRule key
HasFields (RestoreFromBin key) = IsKey key
HasFields (CreatePolicy targets hours time retain add) = AllByRecursion HasTexts targets × (IsWord hours × (IsWord time × (IsRetain retain × AllByRecursion HasTexts add)))
HasFields (DeletePolicy key) = IsPolicyKey key
HasFields (RunPolicy key) = IsPolicyKey key
HasFields request = Unit {0}

-- a change that the machine, which stands at its moment, makes for the request, with its answer
pub record IsRuled (m : Machine) (account : ℕ) (request : Request) (change : Change) (answer : Answer) : Type 0 where
  pub at : change.at ≡ m.clock
  pub decided : IsDecided (rows_of m) change
  pub brings : (digest : List ℕ) → Brings change.request digest []
  pub unspent : is_spent m ≡ false
  pub acts : act same m account request ≡ Ok (changed m [] change, answer)

-- what the machine does for the request
abbrev pub Rules : Machine → ℕ → Request → Result Ruling Failure → Type 0
Rules m account request (Ok (ruling.Change change answer)) = IsRuled m account request change answer × (decide (rows_of m) m.clock account request ≡ Ok (decision.Change change answer))
Rules m account request (Ok (ruling.Answer answer)) = act same m account request ≡ Ok (m, answer)
Rules m account request (Err (Refused refusal)) = act same m account request ≡ Err refusal
Rules m account request (Err Memory) = MayRunOut (act same m account request)

-- what is made of a decision that reads no block, after the test on an upload's checksum
abbrev pub ruling_of : Decision → Result (Unit {0}) Refusal → Bool → Result Ruling Failure
ruling_of (decision.Change change answer) (Err refusal) spent = Err (Refused refusal)
ruling_of (decision.Change change answer) (Ok tested) true = Err (Refused (Exhausted Changes))
ruling_of (decision.Change change answer) (Ok tested) false = Ok (ruling.Change change answer)
ruling_of (decision.Kept answer) tested spent = Ok (ruling.Answer answer)
ruling_of (decision.View answer) tested spent = Ok (ruling.Answer answer)
ruling_of (decision.Read row) tested spent = Err (Refused BadIndex)

-- ---- the request that a change is recorded by

abbrev pub size_of : Request → Option ℕ
size_of (CreateVolume origin size tags token) = size
size_of request = None

-- a creation with this size, and another request as it is
abbrev pub with_size : Option ℕ → Request → Request
with_size made (CreateVolume origin size tags token) = CreateVolume origin made tags token
with_size made request = request

-- the size that is given, or that of the origin
abbrev pub size_or : Option ℕ → Result ℕ Refusal → Option ℕ
size_or (Some size) least = Some size
size_or None (Ok least) = Some least
size_or None (Err refusal) = None

-- a creation is recorded with the size that it makes
abbrev pub recorded_request : Machine → ℕ → Request → Request
recorded_request m account (CreateVolume origin size tags token) = CreateVolume origin (size_or size (least_size (rows_of m) account m.clock.second origin)) tags token
recorded_request m account request = request
