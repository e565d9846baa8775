-- A name is handed out as a text, which takes memory.
use Rattle.std.proofs.Common.{◌≡◌, ◌⊎◌, inl, inr, refl, ap, sym, subst, ◌∙◌}
use Rattle.std.specs.declared.result.Result.{Result}
use Rattle.std.specs.declared.result.Result.TheVariants.{Err}
use Rattle.ebs_model.specs.declared.answer.Refusal.{Refusal}
use Rattle.ebs_model.specs.declared.answer.Refusal.TheVariants.{BadParameter, NoSuchCall}
use Rattle.ebs_model.specs.declared.answer.Failure.{Failure}
use Rattle.ebs_model.specs.declared.answer.Failure.TheVariants.{Refused, Memory as out}
use Rattle.ebs_members.specs.declared.members.Wrong.{Wrong}
use Rattle.ebs_members.specs.declared.members.Wrong.TheVariants.{Member, NoSuchCall as no_such_call, Memory}
use Rattle.ebs_members.specs.inner.Outcome.{Misses, RanOut, Fails, IsHandedOut}
use Rattle.ebs_rest.specs.inner.Memory.{HandsOutName}

abbrev refused : (A : Type 0) → Refusal → Result A Refusal
refused A r = Err r

-- what is handed out is what was read
pub handed_on : {A : Type 0} (want : Result A Refusal) (wrong : Wrong) (failure : Failure) → Misses want wrong → IsHandedOut wrong failure → Fails want failure
handed_on {A} want (Member name) (Refused r) h k = let e : BadParameter name.now ≡ r = cc in h ∙ ap (refused A) e
handed_on want (Member name) out h k = tt
handed_on want no_such_call failure h k = subst (λ f. Fails want f) (sym k) h
handed_on want Memory failure h k = subst (λ f. Fails want f) (sym k) tt

-- where memory is in want, a name is handed out, or it was in want before
pub wanting : {A M : Type 0} (want : Result A Refusal) (wrong : Wrong) (failure : Failure) → Misses want wrong → IsHandedOut wrong failure → (RanOut wrong → M) → failure ≡ out → M ⊎ HandsOutName want
wanting want (Member name) failure h k made e = inr (subst (λ w. HandsOutName w) (sym h) tt)
wanting want no_such_call failure h k made e = let no : Refused NoSuchCall ≡ out = sym k ∙ e in cc
wanting want Memory failure h k made e = inl (made refl)
