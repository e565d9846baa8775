-- What a call of any kind tells.
use Rattle.std.specs.Prelude.{ℕ, ◌≡◌, List, None, Err}
use Rattle.sha2.specs.Sha256.{sha256}
use Rattle.ebs_world.specs.View.{View}
use Rattle.ebs_model.specs.declared.keys.Moment.{Moment}
use Rattle.ebs_model.specs.declared.request.Request.{Request}
use Rattle.ebs_model.specs.declared.request.Request.TheVariants.{PutSnapshotBlock, WriteVolumeBlock}
use Rattle.ebs_model.specs.declared.answer.Answer.{Answer}
use Rattle.ebs_model.specs.declared.answer.Answer.TheVariants as answers
use Rattle.ebs_model.specs.declared.answer.Refusal.{Refusal}
use Rattle.ebs_model.specs.Limits.{bad_member}
use Rattle.ebs_model.specs.Refuse.{refuse_bad}
use Rattle.ebs_disk_store.specs.declared.kinds.Kind.{Kind}
use Rattle.ebs_disk_store.specs.declared.kinds.Kind.TheVariants as kind
use Rattle.ebs_disk_store.specs.declared.heads.PutHead.{PutHead}
use Rattle.ebs_disk_store.specs.inner.Fetched.{IsFetch, Fetched}
use Rattle.ebs_disk_store.specs.inner.Puts.{with_bytes, WholePutTold}
use Rattle.ebs_disk_store.specs.inner.Told.{at_clock}
use Rattle.ebs_disk_store.specs.inner.Turned.{Told}
use Rattle.ebs_disk_store.specs.inner.Viewed.{IsView, Viewed}
use Rattle.ebs_recovery.specs.inner.Changes.{IsRowChange}
use Rattle.ebs_recovery.specs.inner.Fits.{Seen}

-- a block is put into an upload, or written to a volume
abbrev pub IsPut : Request → Type 0
IsPut (PutSnapshotBlock key index digest bytes) = Unit {0}
IsPut (WriteVolumeBlock key index digest bytes) = Unit {0}
IsPut request = ⊥

abbrev pub IsOf : Kind → Request → Type 0
IsOf kind.View request = IsView request
IsOf kind.Read request = IsFetch request
IsOf kind.Change request = IsRowChange request
IsOf kind.Put request = IsPut request

-- what a call tells at its moment, whatever its disk, by its kind. A put with a member out of its limits is refused first, or memory is wanting; neither calls the disk
pub data Applied (Still Rose : Type 0) (v : View) (s t : Seen) (account : ℕ) (now : Moment) (request : Request) (answer : Answer) : Type 0 where
  shown : IsView request → Still → Viewed s t account now request answer → Applied Still Rose v s t account now request answer
  fetched : IsFetch request → Fetched Still Rose v s t account now request answer → Applied Still Rose v s t account now request answer
  changed : IsRowChange request → Told Still Rose s t account now request answer → Applied Still Rose v s t account now request answer
  put : (head : PutHead) (bytes : List ℕ) → request ≡ with_bytes head bytes → bad_member request ≡ None → WholePutTold Still Rose s t account now head (sha256 bytes) answer
      → Applied Still Rose v s t account now request answer
  bad : (refusal : Refusal) → refuse_bad (bad_member request) ≡ Err refusal → t ≡ at_clock s now → Still → answer ≡ answers.Refused refusal → Applied Still Rose v s t account now request answer
  starved : t ≡ s → Still → answer ≡ answers.Memory → Applied Still Rose v s t account now request answer
