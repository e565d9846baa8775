-- When a call may be in want of memory: never where it would be refused, but for the name of a bad member, which is copied.
use Rattle.std.specs.declared.result.Result.{Result}
use Rattle.std.specs.declared.result.Result.TheVariants.{Ok, Err}
use Rattle.ebs_model.specs.declared.request.Request.{Request}
use Rattle.ebs_model.specs.declared.request.Request.TheVariants.{StartSnapshot, CompleteSnapshot, DescribeSnapshot, DescribeSnapshots, DeleteSnapshot, ModifyPermission, LockSnapshot, UnlockSnapshot, CreateVolume, CreateSnapshot, DescribeVolume, CreateRule, GetRule, UpdateRule, DeleteRule, ListRules, LockRule, UnlockRule, ListBin, RestoreFromBin, CreatePolicy, RunPolicy}
use Rattle.ebs_model.specs.declared.change.Decision.{Decision}
use Rattle.ebs_model.specs.declared.change.Decision.TheVariants.{Read}
use Rattle.ebs_model.specs.declared.answer.Refusal.{Refusal}
use Rattle.ebs_model.specs.declared.answer.Refusal.TheVariants.{BadParameter}
use Rattle.ebs_model.specs.declared.answer.Failure.{Failure}
use Rattle.ebs_model.specs.declared.answer.Failure.TheVariants.{Memory}

-- where there is want of memory, this holds
abbrev pub OnMemory : {A : Type 0} → Result A Failure → Type 0 → Type 0
OnMemory (Err Memory) holds = holds
OnMemory result holds = Unit {0}

-- no refusal
abbrev pub IsAccepted : {A : Type 0} → Result A Refusal → Type 0
IsAccepted (Ok value) = Unit {0}
IsAccepted (Err refusal) = ⊥

-- a refusal has the name of a member
abbrev pub HasName : Refusal → Type 0
HasName (BadParameter name) = Unit {0}
HasName refusal = ⊥

-- a refusal by the name of a member
abbrev pub NamesMember : {A : Type 0} → Result A Refusal → Type 0
NamesMember (Ok value) = ⊥
NamesMember (Err refusal) = HasName refusal

-- the call is decided, and no blocks are read
abbrev pub IsSettled : Result Decision Refusal → Type 0
IsSettled (Ok (Read row)) = ⊥
IsSettled (Ok decision) = Unit {0}
IsSettled (Err refusal) = ⊥

-- what the rows decide where they are in want of memory; of all other calls they decide without any
abbrev pub MayWant : Request → Result Decision Refusal → Type 0
MayWant (StartSnapshot size parent description tags token timeout) decided = IsSettled decided
MayWant (CompleteSnapshot key count checksum) decided = NamesMember decided
MayWant (DescribeSnapshot key) decided = IsSettled decided
MayWant (DescribeSnapshots from most) decided = IsSettled decided
MayWant (DeleteSnapshot key) decided = IsSettled decided
MayWant (ModifyPermission key add add_all remove remove_all) decided = IsSettled decided
MayWant (LockSnapshot key mode term cool_hours) decided = NamesMember decided
MayWant (UnlockSnapshot key) decided = NamesMember decided
MayWant (CreateVolume origin size tags token) decided = IsSettled decided
MayWant (CreateSnapshot key description tags) decided = IsSettled decided
MayWant (DescribeVolume key) decided = IsSettled decided
MayWant (CreateRule days tags description delay) decided = IsSettled decided
MayWant (GetRule key) decided = IsSettled decided
MayWant (UpdateRule key days tags description) decided = IsSettled decided
MayWant (DeleteRule key) decided = IsSettled decided
MayWant ListRules decided = IsSettled decided
MayWant (LockRule key delay) decided = IsSettled decided
MayWant (UnlockRule key) decided = IsSettled decided
MayWant (ListBin from most) decided = IsSettled decided
MayWant (RestoreFromBin key) decided = IsSettled decided
MayWant (CreatePolicy targets hours time retain add) decided = IsSettled decided
MayWant (RunPolicy key) decided = IsSettled decided
MayWant request decided = ⊥
