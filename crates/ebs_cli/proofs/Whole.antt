-- Each block that a session hands out has its digest.
use Rattle.std.proofs.Common.{◌≡◌, ⊎_elim, ℕ, List, [], ◌∷◌, Ok, sym, ap, subst, ◌∙◌}
use Rattle.sha2.specs.Sha256.{sha256}
use Rattle.ebs_world.specs.View.{View}
use Rattle.ebs_http.specs.declared.message.Message.{Message}
use Rattle.ebs_model.specs.declared.keys.Moment.{Moment}
use Rattle.ebs_model.specs.declared.request.Request.{Request}
use Rattle.ebs_model.specs.declared.answer.Answer.{Answer}
use Rattle.ebs_model.specs.declared.answer.Answer.TheVariants.{BlockRead}
use Rattle.ebs_model.specs.Kept.{same}
use Rattle.ebs_model.specs.Machine.{Machine}
use Rattle.ebs_exchanges.specs.Exchanges.{Exchange}
use Rattle.ebs_session.specs.Session.{Chain}
use Rattle.ebs_recovery.specs.inner.Fits.{Seen}
use Rattle.ebs_disk_store.specs.declared.heads.PutHead.{PutHead}
use Rattle.ebs_disk_store.specs.declared.heads.PutHead.TheVariants as head
use Rattle.ebs_recovery.specs.inner.Changes.{IsRowChange}
use Rattle.ebs_disk_store.specs.inner.Turned.{Told, kept_call}
use Rattle.ebs_disk_store.specs.inner.Turned as turned
use Rattle.ebs_disk_store.specs.inner.Viewed.{IsView, Viewed}
use Rattle.ebs_disk_store.specs.inner.Viewed as viewed
use Rattle.ebs_disk_store.specs.inner.Fetched.{IsFetch, Fetched}
use Rattle.ebs_disk_store.specs.inner.Fetched as fetched
use Rattle.ebs_disk_store.specs.inner.Puts.{WholePutTold, kept_put, with_bytes}
use Rattle.ebs_disk_store.specs.inner.Puts as puts
use Rattle.ebs_disk_store.specs.inner.Applied.{Applied}
use Rattle.ebs_disk_store.specs.inner.Applied as applied
use Rattle.ebs_service.specs.inner.Served.{Served, served_on}
use Rattle.ebs_service.specs.inner.Served as served
use Rattle.ebs_cli.specs.Told.{HasNoBytes}
use Rattle.ebs_cli.specs.Keeps.{AreWhole}
use Rattle.ebs_cli.proofs.Bytes.{acted, fetch_is, of_done, passed}

-- a block that is answered has its digest
abbrev IsWhole : Answer → Type 0
IsWhole said = (digest bytes : List ℕ) → said ≡ BlockRead digest bytes → sha256 bytes ≡ digest

without : (said : Answer) → HasNoBytes said → IsWhole said
without said none digest bytes is = absurd (subst HasNoBytes is none)

-- ---- what isn't a read of a block

view_other : (request : Request) → IsView request → IsFetch request → ⊥
view_other request view fetch = ⊎_elim (λ w. subst IsView w.3 view) (λ w. subst IsView w.2 view) (fetch_is request fetch)

pub change_other : (request : Request) → IsRowChange request → IsFetch request → ⊥
change_other request change fetch = ⊎_elim (λ w. subst IsRowChange w.3 change) (λ w. subst IsRowChange w.2 change) (fetch_is request fetch)

put_other : (put : PutHead) (bytes : List ℕ) → IsFetch (with_bytes put bytes) → ⊥
put_other (head.Snapshot key index digest) bytes fetch = fetch
put_other (head.Volume key index digest) bytes fetch = fetch

pub call_bare : (m : Machine) (account : ℕ) (request : Request) → (IsFetch request → ⊥) → (n : Machine) (said : Answer) → kept_call m account request ≡ Ok (n, said) → HasNoBytes said
call_bare m account request other n said is = of_done (λ (d : Machine × Answer). HasNoBytes d.1) (n, said) _ is (passed _ _ _ (acted same m account request other))

put_bare : (m : Machine) (account : ℕ) (put : PutHead) (digest : List ℕ) (n : Machine) (said : Answer) → kept_put m account put digest ≡ Ok (n, said) → HasNoBytes said
put_bare m account put digest n said is = of_done (λ (d : Machine × Answer). HasNoBytes d.1) (n, said) _ is (passed _ _ _ (acted same m account (with_bytes put digest) (put_other put digest)))

-- ---- what a call tells

pub viewed_bare : (s t : Seen) (account : ℕ) (now : Moment) (request : Request) (said : Answer) → IsView request → Viewed s t account now request said → HasNoBytes said
viewed_bare s t account now request said view (viewed.shown a acts is) = call_bare _ account request (view_other request view) _ a acts
viewed_bare s t account now request said view (viewed.refused refusal acts is) = tt
viewed_bare s t account now request said view (viewed.memory is) = tt

told_bare : (Still Rose : Type 0) (s t : Seen) (account : ℕ) (now : Moment) (request : Request) (said : Answer) → IsRowChange request → Told Still Rose s t account now request said → HasNoBytes said
told_bare Still Rose s t account now request said change (turned.made_change a acts more clock at slots pending) = call_bare _ account request (change_other request change) _ a acts
told_bare Still Rose s t account now request said change (turned.answered a acts is still) = call_bare _ account request (change_other request change) _ a acts
told_bare Still Rose s t account now request said change (turned.refused refusal acts is still) = tt
told_bare Still Rose s t account now request said change (turned.unavailable rose would left) = tt
told_bare Still Rose s t account now request said change (turned.memory left) = tt

whole_put_bare : (Still Rose : Type 0) (s t : Seen) (account : ℕ) (now : Moment) (put : PutHead) (digest : List ℕ) (said : Answer) → WholePutTold Still Rose s t account now put digest said → HasNoBytes said
whole_put_bare Still Rose s t account now put digest said (puts.put_made a acts more clock at slot next slots pending) = put_bare _ account put digest _ a acts
whole_put_bare Still Rose s t account now put digest said (puts.put_refused refusal acts left) = tt
whole_put_bare Still Rose s t account now put digest said (puts.put_unstaged rose passes left) = tt
whole_put_bare Still Rose s t account now put digest said (puts.put_unavailable rose would slot next left) = tt
whole_put_bare Still Rose s t account now put digest said (puts.put_memory left) = tt

same_digest : (a b c d : List ℕ) → BlockRead a b ≡ BlockRead c d → a ≡ c
same_digest a b c d is = cc

same_bytes : (a b c d : List ℕ) → BlockRead a b ≡ BlockRead c d → b ≡ d
same_bytes a b c d is = cc

fetched_whole : (Still Rose : Type 0) (v : View) (s t : Seen) (account : ℕ) (now : Moment) (request : Request) (said : Answer) → Fetched Still Rose v s t account now request said → IsWhole said
fetched_whole Still Rose v s t account now request said (fetched.fetched digest bytes acts whole is) d b e = ap sha256 (sym (same_bytes digest bytes d b e)) ∙ whole ∙ same_digest digest bytes d b e
fetched_whole Still Rose v s t account now request said (fetched.zeros acts is still) d b e = without said tt d b e
fetched_whole Still Rose v s t account now request said (fetched.damaged stored found acts other there is) d b e = without said tt d b e
fetched_whole Still Rose v s t account now request said (fetched.refused refusal acts is still) d b e = without said tt d b e
fetched_whole Still Rose v s t account now request said (fetched.unavailable digest rose acts is) d b e = without said tt d b e
fetched_whole Still Rose v s t account now request said (fetched.memory still is) d b e = without said tt d b e

applied_whole : (Still Rose : Type 0) (v : View) (s t : Seen) (account : ℕ) (now : Moment) (request : Request) (said : Answer) → Applied Still Rose v s t account now request said → IsWhole said
applied_whole Still Rose v s t account now request said (applied.shown view still told) = without said (viewed_bare s t account now request said view told)
applied_whole Still Rose v s t account now request said (applied.fetched fetch told) = fetched_whole Still Rose v s t account now request said told
applied_whole Still Rose v s t account now request said (applied.changed change told) = without said (told_bare Still Rose s t account now request said change told)
applied_whole Still Rose v s t account now request said (applied.put put bytes is good told) = without said (whole_put_bare Still Rose s t account now put (sha256 bytes) said told)
applied_whole Still Rose v s t account now request said (applied.bad refusal refuses is still e) = without said (subst HasNoBytes (sym e) tt)
applied_whole Still Rose v s t account now request said (applied.starved is still e) = without said (subst HasNoBytes (sym e) tt)

-- ---- a session

served_whole : (Still sound : Type 0) (old new : View) (s t : Seen) (message : Message) (reading : Moment) (said : Answer) → Served Still sound old new s t message reading said → IsWhole said
served_whole Still sound old new s t message reading said (served.refused refusal makes e still kept) = without said (subst HasNoBytes (sym e) tt)
served_whole Still sound old new s t message reading said (served.starved e still kept) = without said (subst HasNoBytes (sym e) tt)
served_whole Still sound old new s t message reading said (served.applied call makes by) = applied_whole _ _ old s t call.account _ call.request said by.told

pub are_whole : {D : Type 0} (view : D → View) (sound : Type 0) (xs : List Exchange) (s t : Seen) (d e : D) → Chain (served_on sound view) s d xs t e → AreWhole xs
are_whole view sound [] s t d e chain = tt
are_whole view sound (x ∷ xs) s t d e chain = (
  served_whole (chain.1 ≡ d) sound (view d) (view chain.1) s chain.0 x.message (record { second = x.reading }) x.answer chain.2,
  are_whole view sound xs chain.0 t chain.1 e chain.3,
)
