-- A block that is staged and put in one call.
use Rattle.std.proofs.Common.{◌≡◌, inl, inr, ⊎_elim, ℕ, ◌≤◌, List, Ok, Err, sym, subst, ◌∙◌, arith}
use Rattle.ebs_model.specs.Quotas.{Rose}
use Rattle.ebs_model.specs.declared.answer.Failure.{Failure}
use Rattle.ebs_model.specs.declared.answer.Failure.TheVariants as failure
use Rattle.ebs_world.specs.View.{View}
use Rattle.ebs_model.specs.declared.keys.Moment.{Moment}
use Rattle.ebs_model.specs.declared.request.Request.{Request}
use Rattle.ebs_model.specs.declared.answer.Answer.{Answer}
use Rattle.ebs_model.specs.Machine.{advance}
use Rattle.ebs_model.specs.Step.{step}
use Rattle.ebs_slots.specs.inner.Slots.{IsNext}
use Rattle.ebs_recovery.specs.inner.Fits.{Seen, recorded}
use Rattle.ebs_disk_store.specs.inner.Told.{without_lease}
use Rattle.ebs_disk_store.specs.inner.Turned.{Fails, IsSpared, Turn}
use Rattle.ebs_disk_store.specs.declared.heads.PutHead.{PutHead}
use Rattle.ebs_disk_store.specs.inner.Puts.{PutRules, PutTold, WouldPut, made_change, refused, unavailable, memory, refuse_head, staged_in, WholePutTold, put_made, put_refused, put_unavailable, put_memory}

-- the gate of the store in which a block was staged is closed
spared_staged : (s t : Seen) (slot : ℕ) (digest : List ℕ) → IsSpared (without_lease (staged_in s slot digest) slot) t → t ≡ without_lease (staged_in s slot digest) slot
spared_staged s t slot digest left = ⊎_elim (λ is. is) (λ is. is) left

-- staging leaves the machine
staged_would : (s : Seen) (account : ℕ) (now : Moment) (put : PutHead) (slot : ℕ) (digest : List ℕ) → WouldPut (staged_in s slot digest) account now put digest → WouldPut s account now put digest
staged_would s account now put slot digest would = record { next = would.next; answer = would.answer; accepts = would.accepts; more = would.more }

-- what a put tells of the store in which its block was staged, it tells of the store before
pub whole_told : (Still Rose Kept Risen : Type 0) (s t : Seen) (account : ℕ) (now : Moment) (put : PutHead) (slot : ℕ) (digest : List ℕ) (answer : Answer) → IsNext s.slots slot → (Rose → Risen) → refuse_head put digest ≡ Ok tt
    → PutTold Still Rose (staged_in s slot digest) t account now put slot digest answer → WholePutTold Kept Risen s t account now put digest answer
whole_told Still Rose Kept Risen s t account now put slot digest answer next risen tested (made_change a done counted clock at slots pending) = put_made a done counted clock at slot next slots pending
whole_told Still Rose Kept Risen s t account now put slot digest answer next risen tested (refused refusal e is still) = put_refused refusal e (inr (tested, (slot, next, is)))
whole_told Still Rose Kept Risen s t account now put slot digest answer next risen tested (unavailable rose would left) = put_unavailable (risen rose) (staged_would s account now put slot digest would) slot next left
whole_told Still Rose Kept Risen s t account now put slot digest answer next risen tested (memory left) = put_memory (inr (inr (slot, next, spared_staged s t slot digest left)))

-- a put that is refused before it is staged
pub whole_failed : (Still Rose : Type 0) (s t : Seen) (account : ℕ) (now : Moment) (put : PutHead) (digest : List ℕ) (f : Failure) (answer : Answer) → PutRules (advance s.recorded now) account put digest (Err f)
    → Fails s t now f answer → Still → WholePutTold Still Rose s t account now put digest answer
whole_failed Still Rose s t account now put digest (failure.Refused refusal) answer e how still = subst (WholePutTold Still Rose s t account now put digest) (sym how.1) (put_refused refusal e (inl (how.0, still)))
whole_failed Still Rose s t account now put digest failure.Memory answer e how still = subst (WholePutTold Still Rose s t account now put digest) (sym how.1) (put_memory (inl how.0))

-- a count that rose in a later call rose
pub risen_on : (before between now : ℕ) → before ≤ between → Rose between now → Rose before now
risen_on before between now later rose = omega (arith, later, rose)

-- and so does the machine's step
pub whole_turn : (old mid new : View) (s u t : Seen) (account : ℕ) (reading : Moment) (request : Request) (answer : Answer) → recorded mid u ≡ recorded old s → u.clock ≡ s.clock
    → Turn mid new u t account reading request answer → Turn old new s t account reading request answer
whole_turn old mid new s u t account reading request answer same clock (inl e) = inl ((λ i. step (advance (sym same i) (sym clock i)) account reading request) ∙ e)
whole_turn old mid new s u t account reading request answer same clock (inr h) = inr (h.0, h.1 ∙ (λ i. advance (same i) (clock i)), h.2 ∙ same)
