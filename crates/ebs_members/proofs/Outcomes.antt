-- Steps of a `do`, one after another.
use Rattle.std.proofs.Common.{◌≡◌, ap, sym, subst}
use Rattle.std.specs.Result.{IsErrAnd}
use Rattle.std.specs.declared.result.Result.{Result}
use Rattle.std.specs.declared.result.Result.TheVariants.{Ok, Err}
use Rattle.ebs_model.specs.declared.answer.Refusal.{Refusal}
use Rattle.ebs_model.specs.declared.answer.Refusal.TheVariants.{BadParameter, NoSuchCall}
use Rattle.ebs_model.specs.Refuse.{◌>>=◌, ◌>>◌}
use Rattle.ebs_members.specs.declared.members.Wrong.{Wrong}
use Rattle.ebs_members.specs.declared.members.Wrong.TheVariants.{Member, NoSuchCall as no_such_call, Memory}
use Rattle.ebs_members.specs.inner.Outcome.{Misses, Reads}

abbrev refused : (A : Type 0) → Refusal → Result A Refusal
refused A r = Err r

same_refusal : (A B : Type 0) (r s : Refusal) → refused A r ≡ refused A s → refused B r ≡ refused B s
same_refusal A B r s h = let e : r ≡ s = cc in ap (refused B) e

-- a line that fails ends the rest
refused_first : {A B : Type 0} (want : Result A Refusal) (next : A → Result B Refusal) (r : Refusal) → want ≡ Err r → (want >>= next) ≡ Err r
refused_first {A} {B} (Ok x) next r h = absurd (cc)
refused_first {A} {B} (Err s) next r h = same_refusal A B s r h

refused_test : {B : Type 0} (want : Result (Unit {0}) Refusal) (next : Result B Refusal) (r : Refusal) → want ≡ Err r → (want >> next) ≡ Err r
refused_test {B} (Ok x) next r h = absurd (cc)
refused_test {B} (Err s) next r h = same_refusal (Unit {0}) B s r h

pub fails_first : {A B : Type 0} (want : Result A Refusal) (next : A → Result B Refusal) (e : Wrong) → Misses want e → Misses (want >>= next) e
fails_first want next (Member name) h = refused_first want next (BadParameter name.now) h
fails_first want next no_such_call h = refused_first want next NoSuchCall h
fails_first want next Memory h = tt

pub fails_test : {B : Type 0} (want : Result (Unit {0}) Refusal) (next : Result B Refusal) (e : Wrong) → Misses want e → Misses (want >> next) e
fails_test want next (Member name) h = refused_test want next (BadParameter name.now) h
fails_test want next no_such_call h = refused_test want next NoSuchCall h
fails_test want next Memory h = tt

-- a `?` hands a failure on
pub hands_on : {B : Type 0} (want : Result B Refusal) (r : Result B Wrong) (e : Wrong) → IsErrAnd r (λ f. f ≡ e) → Misses want e → Reads want r
hands_on want (Ok x) e h fails = absurd h
hands_on want (Err f) e h fails = subst (λ (g : Wrong). Misses want g) (sym h) fails
