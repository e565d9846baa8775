-- When a call may be in want of memory.
use Rattle.std.specs.Prelude.{Result, Ok, Err, ℕ, Bool, true, false, is_none, ◌≡◌}
use Rattle.ebs_model.specs.declared.request.Request.{Request}
use Rattle.ebs_model.specs.declared.request.Request.TheVariants.{StartSnapshot, DeleteSnapshot, ModifyPermission, CreateVolume, CreateSnapshot, CreateRule, UpdateRule, DeleteRule, LockRule, UnlockRule, RestoreFromBin, CreatePolicy, RunPolicy}
use Rattle.ebs_model.specs.declared.answer.Refusal.{Refusal}
use Rattle.ebs_model.specs.declared.answer.Failure.{Failure}
use Rattle.ebs_model.specs.declared.answer.Failure.TheVariants.{Refused, Memory}
use Rattle.ebs_model.specs.Rows.{Rows, first_use}
use Rattle.ebs_catalog.specs.Wants.{HasName}

-- where the call isn't refused, or is by the name of a member, which is copied
abbrev pub MayRunOut : {A : Type 0} → Result A Refusal → Type 0
MayRunOut (Ok value) = Unit {0}
MayRunOut (Err refusal) = HasName refusal

-- a call that is a change where rows accept it, of those whose decision takes copies: one that shows nothing and repeats no other
abbrev pub is_copied_change : Rows → ℕ → Request → Bool
is_copied_change rows account (StartSnapshot size parent description tags token timeout) = is_none (first_use rows account token)
is_copied_change rows account (DeleteSnapshot key) = true
is_copied_change rows account (ModifyPermission key add add_all remove remove_all) = true
is_copied_change rows account (CreateVolume origin size tags token) = is_none (first_use rows account token)
is_copied_change rows account (CreateSnapshot source description tags) = true
is_copied_change rows account (CreateRule days tags description delay) = true
is_copied_change rows account (UpdateRule key days tags description) = true
is_copied_change rows account (DeleteRule key) = true
is_copied_change rows account (LockRule key delay) = true
is_copied_change rows account (UnlockRule key) = true
is_copied_change rows account (RestoreFromBin key) = true
is_copied_change rows account (CreatePolicy targets hours at retain add) = true
is_copied_change rows account (RunPolicy key) = true
is_copied_change rows account request = false

-- a refusal is the call's, and want of memory is where the call may run out
abbrev pub Tells : {A : Type 0} → Failure → Result A Refusal → Type 0
Tells (Refused r) wanted = Err r ≡ wanted
Tells Memory wanted = MayRunOut wanted
