-- What is said of rows alone.
use Rattle.std.specs.Prelude.{◌≡◌, ◌≢◌, ℕ, ◌≤◌, List, None}
use Rattle.std.specs.declared.result.Result.TheVariants.{Ok, Err}
use Rattle.sha2.specs.Sha256.{sha256}
use Rattle.ebs_model.specs.declared.keys.Moment.{Moment}
use Rattle.ebs_model.specs.declared.change.Change.{Change}
use Rattle.ebs_model.specs.declared.request.Request.{Request}
use Rattle.ebs_model.specs.declared.request.Request.TheVariants.{StartSnapshot, PutSnapshotBlock, CompleteSnapshot, DeleteSnapshot, ModifyPermission, LockSnapshot, UnlockSnapshot, ArchiveSnapshot, RestoreTier, CreateVolume, CreateSnapshot, WriteVolumeBlock, DeleteVolume, CreateRule, UpdateRule, DeleteRule, LockRule, UnlockRule, RestoreFromBin, CreatePolicy, DeletePolicy, RunPolicy}
use Rattle.ebs_model.specs.declared.answer.Answer.TheVariants.{Refused}
use Rattle.ebs_model.specs.declared.answer.Refusal.{Refusal}
use Rattle.ebs_model.specs.declared.answer.Refusal.TheVariants.{BadIndex}
use Rattle.ebs_model.specs.Limits.{bad_member}
use Rattle.ebs_model.specs.Rows.{Rows}
use Rattle.ebs_model.specs.inner.Rows.{aged}
use Rattle.ebs_model.specs.Decide.{decide, commit}
use Rattle.ebs_model.specs.Machine.{Machine, advance, moment_of, rows_of}
use Rattle.ebs_model.specs.Step.{refuse_size, refuse_digest, refuse_linear, changed, step}

-- a change is asked for
abbrev pub AsksChange : Request → Type 0
AsksChange (StartSnapshot size parent description tags token timeout) = Unit {0}
AsksChange (PutSnapshotBlock key index digest bytes) = Unit {0}
AsksChange (CompleteSnapshot key count checksum) = Unit {0}
AsksChange (DeleteSnapshot key) = Unit {0}
AsksChange (ModifyPermission key add add_all remove remove_all) = Unit {0}
AsksChange (LockSnapshot key mode term cool_hours) = Unit {0}
AsksChange (UnlockSnapshot key) = Unit {0}
AsksChange (ArchiveSnapshot key) = Unit {0}
AsksChange (RestoreTier key days) = Unit {0}
AsksChange (CreateVolume origin size tags token) = Unit {0}
AsksChange (CreateSnapshot key description tags) = Unit {0}
AsksChange (WriteVolumeBlock key index digest bytes) = Unit {0}
AsksChange (DeleteVolume key) = Unit {0}
AsksChange (CreateRule days tags description delay) = Unit {0}
AsksChange (UpdateRule key days tags description) = Unit {0}
AsksChange (DeleteRule key) = Unit {0}
AsksChange (LockRule key delay) = Unit {0}
AsksChange (UnlockRule key) = Unit {0}
AsksChange (RestoreFromBin key) = Unit {0}
AsksChange (CreatePolicy targets hours at retain add) = Unit {0}
AsksChange (DeletePolicy key) = Unit {0}
AsksChange (RunPolicy key) = Unit {0}
AsksChange request = ⊥

-- the rows after a change are what it makes of the rows before it
abbrev pub ChangeCommitsRows : Type 0
ChangeCommitsRows = (m : Machine) (bytes : List ℕ) (change : Change) → rows_of (changed m bytes change) ≡ commit (rows_of m) change

-- a change that is asked for is answered by the rows and by what the blocks say of a checksum, and so are the rows after it
abbrev pub RowsDecideAlone : Type 0
RowsDecideAlone =
    (m n : Machine) (account : ℕ) (reading : Moment) (request : Request)
    → let a = step m account reading request in let b = step n account reading request in rows_of m ≡ rows_of n → m.clock ≡ n.clock → m.changes ≡ n.changes → AsksChange request
    → refuse_linear sha256 (advance m (moment_of m reading)) request ≡ refuse_linear sha256 (advance n (moment_of n reading)) request → (a.1 ≡ b.1) × (rows_of a.0 ≡ rows_of b.0)

-- what the rows at the call's moment refuse is refused
abbrev pub RowsRefuse : Type 0
RowsRefuse =
    (m : Machine) (account : ℕ) (reading : Moment) (request : Request) (refusal : Refusal)
    → let at = moment_of m reading in bad_member request ≡ None → refuse_size request ≡ Ok tt → refuse_digest sha256 request ≡ Ok tt
    → decide (aged at.second (rows_of m)) at account request ≡ Err refusal → (step m account reading request).1 ≡ Refused refusal

-- a read that is refused, but for a block that isn't there, is refused by rows and tokens whatever the blocks
abbrev pub ReadsAreRefusedAlike : Type 0
ReadsAreRefusedAlike =
    (m n : Machine) (account : ℕ) (reading : Moment) (request : Request) (refusal : Refusal) → rows_of m ≡ rows_of n → m.clock ≡ n.clock → m.secret ≡ n.secret
    → (AsksChange request → ⊥) → refusal ≢ BadIndex → (step m account reading request).1 ≡ Refused refusal → (step n account reading request).1 ≡ Refused refusal

-- a call that asks for no change leaves the machine as time alone makes it
abbrev pub ReadsLeave : Type 0
ReadsLeave =
    (m : Machine) (account : ℕ) (reading : Moment) (request : Request) → (AsksChange request → ⊥) → (step m account reading request).0 ≡ advance m (moment_of m reading)

-- time does to the rows what it does to the machine
abbrev pub RowsAge : Type 0
RowsAge = (m : Machine) (now : Moment) → rows_of (advance m now) ≡ aged now.second (rows_of m)

-- time may pass in parts
abbrev pub RowsAgeInParts : Type 0
RowsAgeInParts = (rows : Rows) (now later : Moment) → now.second ≤ later.second → aged later.second (aged now.second rows) ≡ aged later.second rows
