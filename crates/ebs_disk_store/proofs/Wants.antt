-- Want of memory, and what the call would have been.
use Rattle.std.proofs.Common.{◌≡◌, ◌∙◌, ℕ, Result, Ok, Err, sym, subst}
use Rattle.sha2.specs.Sha256.{sha256}
use Rattle.ebs_world.specs.View.{View, IsTrueToItself}
use Rattle.ebs_model.specs.declared.keys.Moment.{Moment}
use Rattle.ebs_model.specs.declared.request.Request.{Request}
use Rattle.ebs_model.specs.declared.request.Request.TheVariants.{StartSnapshot, PutSnapshotBlock, CompleteSnapshot, ListSnapshotBlocks, ListChangedBlocks, GetSnapshotBlock, DescribeSnapshot, DescribeSnapshots, DeleteSnapshot, ModifyPermission, LockSnapshot, UnlockSnapshot, ArchiveSnapshot, RestoreTier, CreateVolume, CreateSnapshot, WriteVolumeBlock, ReadVolumeBlock, DescribeVolume, DeleteVolume, CreateRule, GetRule, UpdateRule, DeleteRule, ListRules, LockRule, UnlockRule, ListBin, RestoreFromBin, CreatePolicy, GetPolicy, DeletePolicy, RunPolicy}
use Rattle.ebs_model.specs.declared.answer.Answer.{Answer}
use Rattle.ebs_model.specs.declared.answer.Answer.TheVariants as answers
use Rattle.ebs_model.specs.declared.answer.Refusal.{Refusal}
use Rattle.ebs_model.specs.declared.answer.Failure.{Failure}
use Rattle.ebs_model.specs.declared.answer.Failure.TheVariants.{Refused, Memory}
use Rattle.ebs_model.specs.Refuse.{◌>>◌, refuse_bad}
use Rattle.ebs_model.specs.Limits.{bad_member}
use Rattle.ebs_model.specs.Kept.{same, kept_request}
use Rattle.ebs_model.specs.inner.Kept.{kept_outcome, ActsAlike, AgesAlike}
use Rattle.ebs_model.specs.Machine.{Machine, advance}
use Rattle.ebs_model.specs.Step.{act, call}
use Rattle.ebs_catalog.specs.Wants.{OnMemory, NamesMember}
use Rattle.ebs_kept.specs.inner.Requests.{BringsNoBlock}
use Rattle.ebs_kept.specs.inner.Wants.{MayRunOut}
use Rattle.ebs_recovery.specs.inner.Fits.{Seen, Fit, recorded}
use Rattle.ebs_disk_store.specs.declared.ruling.Ruling.{Ruling}
use Rattle.ebs_disk_store.specs.declared.ruling.Ruling.TheVariants as ruling
use Rattle.ebs_disk_store.specs.inner.Calls.{Rules}
use Rattle.ebs_disk_store.specs.inner.Turned.{kept_call, Fails}
use Rattle.ebs_disk_store.specs.inner.Viewed.{Shows}
use Rattle.ebs_disk_store.specs.inner.Fetched.{Finds}
use Rattle.ebs_disk_store.specs.inner.Applied.{IsPut}
use Rattle.ebs_disk_store.proofs.Steps.{outcome_is}

abbrev Outcome : Type 0
Outcome = Result (Machine × Answer) Refusal

-- what isn't refused
pub answered : (x : Outcome) (done : Machine × Answer) → x ≡ Ok done → MayRunOut x
answered x done e = subst (λ (y : Outcome). MayRunOut y) (sym e) tt

module _ (m : Machine) (account : ℕ) (request : Request) where
  -- a bad member's name is copied
  pub named_wants : NamesMember (refuse_bad (bad_member request)) → MayRunOut (kept_call m account request)
  named_wants h = of (refuse_bad (bad_member request)) h
    where
      of : (x : Result (Unit {0}) Refusal) → NamesMember x → MayRunOut (x >> act same m account request)
      of (Ok u) h = absurd h
      of (Err r) h = h

  pub named_failure : (f : Failure) → OnMemory {A = Unit {0}} (Err f) (NamesMember (refuse_bad (bad_member request))) → OnMemory {A = Answer} (Err f) (MayRunOut (kept_call m account request))
  named_failure (Refused r) h = tt
  named_failure Memory h = named_wants h

  pub within_wants : Ok tt ≡ refuse_bad (bad_member request) → MayRunOut (act same m account request) → MayRunOut (kept_call m account request)
  within_wants e h = subst (λ (x : Result (Unit {0}) Refusal). MayRunOut (x >> act same m account request)) e h

  pub ruled_wants : (x : Result Ruling Failure) (r : Ruling) → x ≡ Ok r → Rules m account request x → MayRunOut (act same m account request)
  ruled_wants x r e h = by r (subst (λ (y : Result Ruling Failure). Rules m account request y) e h)
    where
      by : (r : Ruling) → Rules m account request (Ok r) → MayRunOut (act same m account request)
      by (ruling.Change change answer) h = answered (act same m account request) _ h.0.acts
      by (ruling.Answer answer) h = answered (act same m account request) _ h

  pub rules_wants : (f : Failure) → Rules m account request (Err f) → OnMemory {A = Answer} (Err f) (MayRunOut (act same m account request))
  rules_wants (Refused r) h = tt
  rules_wants Memory h = h

  pub shows_wants : (f : Failure) → Shows m account request (Err f) → OnMemory {A = Answer} (Err f) (MayRunOut (kept_call m account request))
  shows_wants (Refused r) h = tt
  shows_wants Memory h = h

  pub finds_wants : (f : Failure) → Finds m account request (Err f) → OnMemory {A = Answer} (Err f) (MayRunOut (kept_call m account request))
  finds_wants (Refused r) h = tt
  finds_wants Memory h = h

-- what a failure answers
never : (r : Refusal) → answers.Refused r ≡ answers.Memory → ⊥
never r e = cc

pub failed_wants : (s t : Seen) (now : Moment) (x : Outcome) (f : Failure) (answer : Answer) → Fails s t now f answer → OnMemory {A = Answer} (Err f) (MayRunOut x) → answer ≡ answers.Memory → MayRunOut x
failed_wants s t now x (Refused r) answer how h is = absurd (never r (sym how.1 ∙ is))
failed_wants s t now x Memory answer how h is = h

-- the machine with its bytes refuses what the kept form does
module _ (v : View) (law : IsTrueToItself v) (acts : ActsAlike) (ages : AgesAlike) (s : Seen) (fit : Fit v s) (now : Moment) (account : ℕ) (request : Request) (bare : kept_request request ≡ request) where
  pub whole_wants : MayRunOut (kept_call (advance s.recorded now) account request) → MayRunOut (call (advance (recorded v s) now) account request)
  whole_wants h = by (refuse_bad (bad_member request)) h
    where
      from_kept : (x : Outcome) → MayRunOut (kept_outcome x) → MayRunOut x
      from_kept (Ok done) h = tt
      from_kept (Err r) h = h

      by : (x : Result (Unit {0}) Refusal) → MayRunOut (x >> act same (advance s.recorded now) account request) → MayRunOut (x >> act sha256 (advance (recorded v s) now) account request)
      by (Ok u) h = from_kept (act sha256 (advance (recorded v s) now) account request) (subst (λ (x : Outcome). MayRunOut x) (outcome_is v law acts ages s fit now account request request bare) h)
      by (Err r) h = h

-- a put brings a block
pub put_brings : (request : Request) → IsPut request → BringsNoBlock request → ⊥
put_brings (ListSnapshotBlocks key page most start) put bare = absurd put
put_brings (ListChangedBlocks first second page most start) put bare = absurd put
put_brings (DescribeSnapshot key) put bare = absurd put
put_brings (DescribeSnapshots from most) put bare = absurd put
put_brings (DescribeVolume key) put bare = absurd put
put_brings (GetRule key) put bare = absurd put
put_brings ListRules put bare = absurd put
put_brings (ListBin from most) put bare = absurd put
put_brings (StartSnapshot size parent description tags token timeout) put bare = absurd put
put_brings (PutSnapshotBlock key index digest bytes) put bare = bare
put_brings (CompleteSnapshot key count checksum) put bare = absurd put
put_brings (GetSnapshotBlock key index token) put bare = absurd put
put_brings (DeleteSnapshot key) put bare = absurd put
put_brings (ModifyPermission key add add_all remove remove_all) put bare = absurd put
put_brings (LockSnapshot key mode term cool_hours) put bare = absurd put
put_brings (UnlockSnapshot key) put bare = absurd put
put_brings (ArchiveSnapshot key) put bare = absurd put
put_brings (RestoreTier key days) put bare = absurd put
put_brings (CreateVolume origin size tags token) put bare = absurd put
put_brings (CreateSnapshot key description tags) put bare = absurd put
put_brings (WriteVolumeBlock key index digest bytes) put bare = bare
put_brings (ReadVolumeBlock key index) put bare = absurd put
put_brings (DeleteVolume key) put bare = absurd put
put_brings (CreateRule days tags description delay) put bare = absurd put
put_brings (UpdateRule key days tags description) put bare = absurd put
put_brings (DeleteRule key) put bare = absurd put
put_brings (LockRule key delay) put bare = absurd put
put_brings (UnlockRule key) put bare = absurd put
put_brings (RestoreFromBin key) put bare = absurd put
put_brings (CreatePolicy targets hours time retain add) put bare = absurd put
put_brings (GetPolicy key) put bare = absurd put
put_brings (DeletePolicy key) put bare = absurd put
put_brings (RunPolicy key) put bare = absurd put
