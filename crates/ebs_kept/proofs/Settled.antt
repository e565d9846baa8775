-- A change that wasn't made.
use Rattle.std.proofs.Common.{◌≡◌, ℕ, List, Result, Ok, Err, refl, sym, ap, ◌∙◌}
use Rattle.ebs_model.specs.declared.request.Request.{Request}
use Rattle.ebs_model.specs.declared.request.Request.TheVariants.{StartSnapshot, PutSnapshotBlock, CompleteSnapshot, ListSnapshotBlocks, ListChangedBlocks, GetSnapshotBlock, DescribeSnapshot, DescribeSnapshots, DeleteSnapshot, ModifyPermission, LockSnapshot, UnlockSnapshot, ArchiveSnapshot, RestoreTier, CreateVolume, CreateSnapshot, WriteVolumeBlock, ReadVolumeBlock, DescribeVolume, DeleteVolume, CreateRule, GetRule, UpdateRule, DeleteRule, ListRules, LockRule, UnlockRule, ListBin, RestoreFromBin, CreatePolicy, GetPolicy, DeletePolicy, RunPolicy}
use Rattle.ebs_model.specs.declared.change.Change.{Change}
use Rattle.ebs_model.specs.declared.change.Decision.TheVariants as decision
use Rattle.ebs_model.specs.declared.answer.Answer.{Answer}
use Rattle.ebs_model.specs.declared.answer.Refusal.{Refusal}
use Rattle.ebs_model.specs.declared.answer.Refusal.TheVariants.{Exhausted}
use Rattle.ebs_model.specs.declared.answer.Spent.TheVariants.{Changes}
use Rattle.ebs_model.specs.declared.answer.Failure.{Failure}
use Rattle.ebs_model.specs.declared.answer.Failure.TheVariants.{Refused, Memory}
use Rattle.ebs_model.specs.Refuse.{◌>>◌, refuse_if}
use Rattle.ebs_model.specs.Kept.{same}
use Rattle.ebs_model.specs.Machine.{Machine, is_spent}
use Rattle.ebs_model.specs.Step.{refuse_linear, finish, changed, bytes_of}
use Rattle.ebs_model.specs.inner.Follows.{Follows}
use Rattle.ebs_kept.specs.inner.Requests.{with_digest, Settles}

-- the checksum is no put's
pub linear-same : (m : Machine) (digest : List ℕ) (request : Request) → refuse_linear same m (with_digest digest request) ≡ refuse_linear same m request
linear-same m digest (StartSnapshot size parent description tags token timeout) = refl
linear-same m digest (PutSnapshotBlock key index stated bytes) = refl
linear-same m digest (CompleteSnapshot key count checksum) = refl
linear-same m digest (ListSnapshotBlocks key page most start) = refl
linear-same m digest (ListChangedBlocks first second page most start) = refl
linear-same m digest (GetSnapshotBlock key index token) = refl
linear-same m digest (DescribeSnapshot key) = refl
linear-same m digest (DescribeSnapshots from most) = refl
linear-same m digest (DeleteSnapshot key) = refl
linear-same m digest (ModifyPermission key add add_all remove remove_all) = refl
linear-same m digest (LockSnapshot key mode term cool_hours) = refl
linear-same m digest (UnlockSnapshot key) = refl
linear-same m digest (ArchiveSnapshot key) = refl
linear-same m digest (RestoreTier key days) = refl
linear-same m digest (CreateVolume origin size tags token) = refl
linear-same m digest (CreateSnapshot source description tags) = refl
linear-same m digest (WriteVolumeBlock key index stated bytes) = refl
linear-same m digest (ReadVolumeBlock key index) = refl
linear-same m digest (DescribeVolume key) = refl
linear-same m digest (DeleteVolume key) = refl
linear-same m digest (CreateRule days tags description delay) = refl
linear-same m digest (GetRule key) = refl
linear-same m digest (UpdateRule key days tags description) = refl
linear-same m digest (DeleteRule key) = refl
linear-same m digest ListRules = refl
linear-same m digest (LockRule key delay) = refl
linear-same m digest (UnlockRule key) = refl
linear-same m digest (ListBin from most) = refl
linear-same m digest (RestoreFromBin key) = refl
linear-same m digest (CreatePolicy targets hours time retain add) = refl
linear-same m digest (GetPolicy key) = refl
linear-same m digest (DeletePolicy key) = refl
linear-same m digest (RunPolicy key) = refl

stopped : {B : Type 0} (x y : Result (Unit {0}) Refusal) (z : Result B Refusal) (r : Refusal) → (x >> y) ≡ Err r → (x >> (y >> z)) ≡ Err r
stopped (Ok u) (Ok v) z r e = cc
stopped (Ok u) (Err q) z r e = cc
stopped (Err q) y z r e = cc

pub follows-err : (old new at : Machine) (digest : List ℕ) (request : Request) (change : Change) (answer : Answer) (f : Failure)
    → Settles old new at digest request change (Err f) → Follows old new (Err f) (finish same at (with_digest digest request) (decision.Change change answer))
follows-err old new at digest request change answer (Refused r) (left, e) = (
  sym (ap (λ x. x >> refuse_if (is_spent at) (Exhausted Changes) >> Ok (changed at (bytes_of (with_digest digest request)) change, answer)) (linear-same at digest request)
      ∙ stopped (refuse_linear same at request) (refuse_if (is_spent at) (Exhausted Changes)) (Ok (changed at (bytes_of (with_digest digest request)) change, answer)) r e),
  left,
)
follows-err old new at digest request change answer Memory left = left
