-- What is pending behind a call of the store.
use Rattle.std.proofs.Common.{◌≡◌, ◌⊎◌, ⊎_elim, inl, inr, ℕ, List, None, refl, ap}
use Rattle.sha2.specs.Sha256.{sha256}
use Rattle.ebs_world.specs.View.{View}
use Rattle.ebs_model.specs.declared.keys.Moment.{Moment}
use Rattle.ebs_model.specs.declared.request.Request.{Request}
use Rattle.ebs_model.specs.declared.answer.Answer.{Answer}
use Rattle.ebs_model.specs.declared.answer.Answer.TheVariants.{Refused}
use Rattle.ebs_model.specs.declared.answer.Refusal.TheVariants.{Unavailable}
use Rattle.ebs_recovery.specs.inner.Fits.{Seen}
use Rattle.ebs_disk_store.specs.declared.heads.PutHead.{PutHead}
use Rattle.ebs_disk_store.specs.inner.Told.{without_lease}
use Rattle.ebs_disk_store.specs.inner.Turned as turned
use Rattle.ebs_disk_store.specs.inner.Turned.{Told, IsSpared}
use Rattle.ebs_disk_store.specs.inner.Viewed as viewed
use Rattle.ebs_disk_store.specs.inner.Viewed.{Viewed}
use Rattle.ebs_disk_store.specs.inner.Fetched as fetch
use Rattle.ebs_disk_store.specs.inner.Fetched.{Fetched}
use Rattle.ebs_disk_store.specs.inner.Puts as puts
use Rattle.ebs_disk_store.specs.inner.Puts.{WholePutTold, PutTold}
use Rattle.ebs_disk_store.specs.inner.Applied.{Applied, shown, fetched, changed, put, bad, starved}
use Rattle.ebs_desk.specs.Turns.{Tells}
use Rattle.ebs_desk.specs.Turns as tells

-- nothing is pending, or what was
abbrev pub IsOldPending : Seen → Seen → Type 0
IsOldPending s t = (t.pending ≡ None) ⊎ (t.pending ≡ s.pending)

-- so it is, or the disk failed
abbrev Pends : Seen → Seen → Answer → Type 0
Pends s t answer = (answer ≡ Refused Unavailable) ⊎ IsOldPending s t

pub pending_of : {s t : Seen} → t ≡ s → t.pending ≡ s.pending
pending_of is = ap (λ (z : Seen). z.pending) is

pub spared_pending : (s t : Seen) → IsSpared s t → IsOldPending s t
spared_pending s t left = ⊎_elim (λ is. inr (pending_of is)) (λ is. inl (pending_of is)) left

viewed_pending : (s t : Seen) (account : ℕ) (now : Moment) (request : Request) (answer : Answer) → Viewed s t account now request answer → Pends s t answer
viewed_pending s t account now request answer (viewed.shown a e is) = inr (inr (pending_of is))
viewed_pending s t account now request answer (viewed.refused r e is) = inr (inr (pending_of is))
viewed_pending s t account now request answer (viewed.memory is) = inr (inr (pending_of is))

fetched_pending : (Still Rose : Type 0) (v : View) (s t : Seen) (account : ℕ) (now : Moment) (request : Request) (answer : Answer) → Fetched Still Rose v s t account now request answer → Pends s t answer
fetched_pending Still Rose v s t account now request answer (fetch.fetched digest bytes e hash is) = inr (inr (pending_of is))
fetched_pending Still Rose v s t account now request answer (fetch.zeros e is still) = inr (inr (pending_of is))
fetched_pending Still Rose v s t account now request answer (fetch.damaged stored found e differ there is) = inr (inr (pending_of is))
fetched_pending Still Rose v s t account now request answer (fetch.refused r e is still) = inr (inr (pending_of is))
fetched_pending Still Rose v s t account now request answer (fetch.unavailable digest rose e is) = inl refl
fetched_pending Still Rose v s t account now request answer (fetch.memory still is) = inr (inr (pending_of is))

told_pending : (Still Rose : Type 0) (s t : Seen) (account : ℕ) (now : Moment) (request : Request) (answer : Answer) → Told Still Rose s t account now request answer → Pends s t answer
told_pending Still Rose s t account now request answer (turned.made_change a e more clock at slots pending) = inr (inl pending)
told_pending Still Rose s t account now request answer (turned.answered a e is still) = inr (inr (pending_of is))
told_pending Still Rose s t account now request answer (turned.refused r e is still) = inr (inr (pending_of is))
told_pending Still Rose s t account now request answer (turned.unavailable rose would left) = inl refl
told_pending Still Rose s t account now request answer (turned.memory left) = inr (spared_pending s t left)

put_pending : (Still Rose : Type 0) (s t : Seen) (account : ℕ) (now : Moment) (head : PutHead) (digest : List ℕ) (answer : Answer) → WholePutTold Still Rose s t account now head digest answer → Pends s t answer
put_pending Still Rose s t account now head digest answer (puts.put_made a e more clock at slot next gives pending) = inr (inl pending)
put_pending Still Rose s t account now head digest answer (puts.put_refused r e how) = inr (⊎_elim (λ h. inr (pending_of h.0)) (λ h. inl (pending_of h.1.2)) how)
put_pending Still Rose s t account now head digest answer (puts.put_unstaged rose tested left) = inl refl
put_pending Still Rose s t account now head digest answer (puts.put_unavailable rose would slot next left) = inl refl
put_pending Still Rose s t account now head digest answer (puts.put_memory left) = inr (⊎_elim (λ is. inr (pending_of is)) (λ more. ⊎_elim (λ is. inl (pending_of is)) (λ h. inl (pending_of h.2)) more) left)

commit_pending : (Still Rose : Type 0) (s t : Seen) (account : ℕ) (now : Moment) (head : PutHead) (slot : ℕ) (digest : List ℕ) (answer : Answer) → PutTold Still Rose s t account now head slot digest answer → Pends s t answer
commit_pending Still Rose s t account now head slot digest answer (puts.made_change a e more clock at gives pending) = inr (inl pending)
commit_pending Still Rose s t account now head slot digest answer (puts.refused r e is still) = inr (inr (pending_of is))
commit_pending Still Rose s t account now head slot digest answer (puts.unavailable rose would left) = inl refl
commit_pending Still Rose s t account now head slot digest answer (puts.memory left) = inr (spared_pending (without_lease s slot) t left)

applied_pending : (Still Rose : Type 0) (v : View) (s t : Seen) (account : ℕ) (now : Moment) (request : Request) (answer : Answer) → Applied Still Rose v s t account now request answer → Pends s t answer
applied_pending Still Rose v s t account now request answer (shown kind still told) = viewed_pending s t account now request answer told
applied_pending Still Rose v s t account now request answer (fetched kind told) = fetched_pending Still Rose v s t account now request answer told
applied_pending Still Rose v s t account now request answer (changed kind told) = told_pending Still Rose s t account now request answer told
applied_pending Still Rose v s t account now request answer (put head bytes is within told) = put_pending Still Rose s t account now head (sha256 bytes) answer told
applied_pending Still Rose v s t account now request answer (bad r e is still a) = inr (inr (pending_of is))
applied_pending Still Rose v s t account now request answer (starved is still a) = inr (inr (pending_of is))

-- behind a call of either kind
pub tells_pending : (Still Rose : Type 0) (v : View) (s t : Seen) (account : ℕ) (now : Moment) (request : Request) (answer : Answer) → Tells Still Rose v s t account now request answer → (answer ≡ Refused Unavailable) ⊎ IsOldPending s t
tells_pending Still Rose v s t account now request answer (tells.whole told) = applied_pending Still Rose v s t account now request answer told
tells_pending Still Rose v s t account now request answer (tells.put head slot block is told) = commit_pending Still Rose s t account now head slot (sha256 block) answer told
