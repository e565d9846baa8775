-- Calls of any kind, by their exits.
use Rattle.std.proofs.Common.{◌≡◌, ◌∙◌, ℕ, List, Option, None, Some, Result, Ok, Err, sym, subst}
use Rattle.sha2.specs.Sha256.{sha256}
use Rattle.ebs_model.specs.declared.answer.Answer.TheVariants as answers
use Rattle.ebs_model.specs.declared.answer.Refusal.{Refusal}
use Rattle.ebs_model.specs.declared.answer.Refusal.TheVariants as refusals
use Rattle.ebs_model.specs.Kept.{same}
use Rattle.ebs_model.specs.Machine.{Machine, advance}
use Rattle.ebs_model.specs.Step.{act}
use Rattle.ebs_disk_store.specs.declared.heads.PutHead.{PutHead}
use Rattle.ebs_disk_store.specs.inner.Turned as turned
use Rattle.ebs_disk_store.specs.inner.Turned.{Told, Fails}
use Rattle.ebs_disk_store.specs.inner.Viewed as viewed
use Rattle.ebs_disk_store.specs.inner.Viewed.{Viewed}
use Rattle.ebs_disk_store.specs.inner.Fetched as fetch
use Rattle.ebs_disk_store.specs.inner.Fetched.{Fetched}
use Rattle.ebs_disk_store.specs.inner.Puts as puts
use Rattle.ebs_disk_store.specs.inner.Puts.{WholePutTold, bad_index, index_of, with_bytes}
use Rattle.ebs_lawful.specs.OwnAnswers.{IsOwn, IsOwnRefusal, IsOwnOutcome}
use Rattle.ebs_lawful.proofs.Own.{calls_own}
use Rattle.ebs_world.specs.View.{View}
use Rattle.ebs_model.specs.declared.keys.Moment.{Moment}
use Rattle.ebs_model.specs.declared.request.Request.{Request}
use Rattle.ebs_model.specs.declared.answer.Answer.{Answer}
use Rattle.ebs_model.specs.declared.answer.Failure.{Failure}
use Rattle.ebs_model.specs.declared.answer.Failure.TheVariants as failure
use Rattle.ebs_model.specs.Limits.{bad_member}
use Rattle.ebs_model.specs.Refuse.{◌>>◌, refuse_bad}
use Rattle.ebs_model.specs.inner.Follows.{Agrees}
use Rattle.ebs_recovery.specs.inner.Fits.{Seen}
use Rattle.ebs_disk_store.specs.inner.Applied.{Applied, shown, fetched, changed, put, bad, starved}

-- a member out of its limits
pub applied_bad : (Still Rose : Type 0) (v : View) (s t : Seen) (account : ℕ) (now : Moment) (request : Request) (f : Failure) (answer : Answer) → Agrees {A = Unit {0}} (Err f) (refuse_bad (bad_member request)) → Fails s t now f answer → Still
    → Applied Still Rose v s t account now request answer
applied_bad Still Rose v s t account now request (failure.Refused refusal) answer e how still = bad refusal (sym e) how.0 still how.1
applied_bad Still Rose v s t account now request failure.Memory answer e how still = starved how.0 still how.1

-- ---- E17 comes only where the disk's count of faults rose

refusal_is : (r q : Refusal) → answers.Refused r ≡ answers.Refused q → r ≡ q
refusal_is r q e = cc

first_of : {A : Type 0} (x : Result (Unit {0}) Refusal) (y : Result A Refusal) (v : A) → (x >> y) ≡ Ok v → y ≡ Ok v
first_of (Ok u) y v e = e
first_of (Err r) y v e = absurd (cc)

named_bad : (o : Option (List ℕ)) (r : Refusal) → refuse_bad o ≡ Err r → IsOwnRefusal r
named_bad None r e = absurd (cc)
named_bad (Some name) r e = subst IsOwnRefusal (same_err (refusals.BadParameter name) r e) tt
  where
    same_err : (q r : Refusal) → ◌≡◌ {A = Result (Unit {0}) Refusal} (Err q) (Err r) → q ≡ r
    same_err q r e = cc

named_by : (o : Option (List ℕ)) (m : Machine) (account : ℕ) (request : Request) (r : Refusal) → (refuse_bad o >> act same m account request) ≡ Err r → IsOwnRefusal r
named_by None m account request r e = subst IsOwnOutcome e (calls_own same m account request)
named_by (Some name) m account request r e = subst IsOwnRefusal (same_err (refusals.BadParameter name) r e) tt
  where
    same_err : (q r : Refusal) → ◌≡◌ {A = Result (Machine × Answer) Refusal} (Err q) (Err r) → q ≡ r
    same_err q r e = cc

answered_by : (o : Option (List ℕ)) (m n : Machine) (account : ℕ) (request : Request) (answer : Answer) → (refuse_bad o >> act same m account request) ≡ Ok (n, answer) → IsOwn answer
answered_by o m n account request answer e = subst IsOwnOutcome (first_of (refuse_bad o) (act same m account request) (n, answer) e) (calls_own same m account request)

no_answer : {A : Type 0} (answer : Answer) → IsOwn answer → answer ≡ answers.Refused refusals.Unavailable → A
no_answer answer told e = absurd (subst IsOwn e told)

no_refusal : {A : Type 0} (r : Refusal) → IsOwnRefusal r → answers.Refused r ≡ answers.Refused refusals.Unavailable → A
no_refusal r named e = absurd (subst IsOwnRefusal (refusal_is r refusals.Unavailable e) named)

pub viewed_cause : {A : Type 0} (s t : Seen) (account : ℕ) (now : Moment) (request : Request) (answer : Answer) → Viewed s t account now request answer → answer ≡ answers.Refused refusals.Unavailable → A
viewed_cause s t account now request answer (viewed.shown a e is) same = no_answer a (answered_by (bad_member request) (advance s.recorded now) _ account request a e) same
viewed_cause s t account now request answer (viewed.refused r e is) same = no_refusal r (named_by (bad_member request) (advance s.recorded now) account request r e) same
viewed_cause s t account now request answer (viewed.memory is) same = absurd (cc)

pub fetched_cause : (Still Rose : Type 0) (v : View) (s t : Seen) (account : ℕ) (now : Moment) (request : Request) (answer : Answer) → Fetched Still Rose v s t account now request answer → answer ≡ answers.Refused refusals.Unavailable → Rose
fetched_cause Still Rose v s t account now request answer (fetch.fetched digest bytes e hash is) same = absurd (cc)
fetched_cause Still Rose v s t account now request answer (fetch.zeros e is still) same = absurd (cc)
fetched_cause Still Rose v s t account now request answer (fetch.damaged stored found e differ there is) same = absurd (cc)
fetched_cause Still Rose v s t account now request answer (fetch.refused r e is still) same = no_refusal r (named_by (bad_member request) (advance s.recorded now) account request r e) same
fetched_cause Still Rose v s t account now request answer (fetch.unavailable digest rose e is) same = rose
fetched_cause Still Rose v s t account now request answer (fetch.memory still is) same = absurd (cc)

pub changed_cause : (Still Rose : Type 0) (s t : Seen) (account : ℕ) (now : Moment) (request : Request) (answer : Answer) → Told Still Rose s t account now request answer → answer ≡ answers.Refused refusals.Unavailable → Rose
changed_cause Still Rose s t account now request answer (turned.made_change a e counted clock at slots pending) same = no_answer a (answered_by (bad_member request) (advance s.recorded now) _ account request a e) same
changed_cause Still Rose s t account now request answer (turned.answered a e is still) same = no_answer a (answered_by (bad_member request) (advance s.recorded now) _ account request a e) same
changed_cause Still Rose s t account now request answer (turned.refused r e is still) same = no_refusal r (named_by (bad_member request) (advance s.recorded now) account request r e) same
changed_cause Still Rose s t account now request answer (turned.unavailable rose would left) same = rose
changed_cause Still Rose s t account now request answer (turned.memory left) same = absurd (cc)

pub put_cause : (Still Rose : Type 0) (s t : Seen) (account : ℕ) (now : Moment) (head : PutHead) (digest : List ℕ) (answer : Answer) → WholePutTold Still Rose s t account now head digest answer → answer ≡ answers.Refused refusals.Unavailable → Rose
put_cause Still Rose s t account now head digest answer (puts.put_made a e counted clock at slot next slots pending) same = no_answer a (answered_by (bad_index (index_of head)) (advance s.recorded now) _ account (with_bytes head digest) a e) same
put_cause Still Rose s t account now head digest answer (puts.put_refused r e is) same = no_refusal r (named_by (bad_index (index_of head)) (advance s.recorded now) account (with_bytes head digest) r e) same
put_cause Still Rose s t account now head digest answer (puts.put_unstaged rose tested left) same = rose
put_cause Still Rose s t account now head digest answer (puts.put_unavailable rose would slot next left) same = rose
put_cause Still Rose s t account now head digest answer (puts.put_memory left) same = absurd (cc)

pub applied_cause : (Still Rose : Type 0) (v : View) (s t : Seen) (account : ℕ) (now : Moment) (request : Request) (answer : Answer) → Applied Still Rose v s t account now request answer → answer ≡ answers.Refused refusals.Unavailable → Rose
applied_cause Still Rose v s t account now request answer (shown kind still told) same = viewed_cause s t account now request answer told same
applied_cause Still Rose v s t account now request answer (fetched kind told) same = fetched_cause Still Rose v s t account now request answer told same
applied_cause Still Rose v s t account now request answer (changed kind told) same = changed_cause Still Rose s t account now request answer told same
applied_cause Still Rose v s t account now request answer (put head bytes is within told) same = put_cause Still Rose s t account now head (sha256 bytes) answer told same
applied_cause Still Rose v s t account now request answer (bad r e is still a) same = no_refusal r (named_bad (bad_member request) r e) (sym a ∙ same)
applied_cause Still Rose v s t account now request answer (starved is still a) same = absurd (never (sym a ∙ same))
  where
    never : answers.Memory ≡ answers.Refused refusals.Unavailable → ⊥
    never e = cc
