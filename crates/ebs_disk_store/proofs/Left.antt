-- What the images of a call's moments stand for, by its exits.
use Rattle.std.proofs.Common.{◌≡◌, ⊎_elim, inl, inr, ℕ, List, None, Result, Ok, Err, refl, sym, ap, subst, ◌∙◌}
use Rattle.ebs_world.specs.Image.{Image}
use Rattle.ebs_world.specs.View.{View, Leaves}
use Rattle.ebs_world.specs.inner.Runs.{leaves_weaker, leaves_on}
use Rattle.ebs_model.specs.declared.keys.Moment.{Moment}
use Rattle.ebs_model.specs.declared.answer.Answer.{Answer}
use Rattle.ebs_model.specs.declared.answer.Refusal.{Refusal}
use Rattle.ebs_model.specs.Machine.{Machine}
use Rattle.ebs_records.specs.declared.record.AcceptedCall.{AcceptedCall}
use Rattle.ebs_recovery.specs.Made.{Made, called}
use Rattle.ebs_recovery.specs.inner.Made.{Leads}
use Rattle.ebs_recovery.specs.Stands.{Stands}
use Rattle.ebs_recovery.specs.inner.Fits.{Seen, StandsAfter, StandsForOne, StandsOrAfter, recorded}
use Rattle.ebs_disk_store.specs.declared.store.Stop.{Stop}
use Rattle.ebs_disk_store.specs.declared.store.Stop.TheVariants.{Unavailable, Memory}
use Rattle.ebs_disk_store.specs.declared.heads.PutHead.{PutHead}
use Rattle.ebs_disk_store.specs.inner.Told.{called_at}
use Rattle.ebs_disk_store.specs.inner.Puts.{put_at, with_bytes}
use Rattle.ebs_disk_store.specs.inner.Turned.{MayLeave}
use Rattle.ebs_disk_store.proofs.Staged.{one_on}

-- what a call makes is one machine
abbrev next_in : Machine → Result (Machine × Answer) Refusal → Machine
next_in m (Ok done) = done.0
next_in m (Err refusal) = m

one_next : (m : Machine) (a : AcceptedCall) (next other : Machine) → Leads m (called a) next → Leads m (called a) other → next ≡ other
one_next m a next other first second = ap (next_in m) (sym first.1 ∙ second.1)

-- a call ends in one way
two_ways : {T E : Type 0} (x : T) (e : E) → ◌≡◌ {A = Result T E} (Ok x) (Err e) → ⊥
two_ways x e is = cc

two_stops : {T : Type 0} → ◌≡◌ {A = Result T Stop} (Err Memory) (Err Unavailable) → ⊥
two_stops is = cc

pub no_err : {T E A : Type 0} (r : Result T E) (x : T) (e : E) → r ≡ Ok x → r ≡ Err e → A
no_err {T} {E} r x e is err = absurd (two_ways x e (sym is ∙ err))

pub one_stop : {T A : Type 0} (r : Result T Stop) → r ≡ Err Memory → r ≡ Err Unavailable → A
one_stop r is other = absurd (two_stops (sym is ∙ other))

module _ (Failed : Type 0) (old new : View) (s t : Seen) where
  -- nothing of it is recorded
  pub left_before : (e : Made) → Leaves old new (StandsForOne old s) → Leaves old new (MayLeave Failed old new s t e)
  left_before e leaves = leaves_weaker old new (StandsForOne old s) (MayLeave Failed old new s t e) (λ image one. inl one) leaves

  -- it may be recorded, and nobody is told
  pub left_unsure : (e : Made) → Failed → Leaves old new (StandsOrAfter old s e) → Leaves old new (MayLeave Failed old new s t e)
  left_unsure e failed leaves = leaves_weaker old new (StandsOrAfter old s e) (MayLeave Failed old new s t e) (λ image h. ⊎_elim (λ one. inl one) (λ after. inr (inr (failed, after))) h) leaves

  -- it is recorded
  pub left_made : (a : AcceptedCall) → Leads (recorded old s) (called a) (recorded new t) → Leaves old new (StandsOrAfter old s (called a)) → Leaves old new (MayLeave Failed old new s t (called a))
  left_made a leads leaves = leaves_weaker old new (StandsOrAfter old s (called a)) (MayLeave Failed old new s t (called a))
      (λ image h. ⊎_elim (λ one. inl one) (λ after. inr (inl (subst (λ (m : Machine). Stands image m) (one_next (recorded old s) a after.next (recorded new t) after.leads leads) after.stands))) h) leaves

  -- behind one that leaves what is recorded, and nothing pending
  pub left_behind : (mid : View) (u : Seen) (e : Made) → recorded mid u ≡ recorded old s → u.pending ≡ None → Leaves old mid (StandsForOne old s) → Leaves mid new (MayLeave Failed mid new u t e)
      → Leaves old new (MayLeave Failed old new s t e)
  left_behind mid u e same none first second =
      leaves_on old mid new (MayLeave Failed old new s t e)
      (leaves_weaker old mid (StandsForOne old s) (MayLeave Failed old new s t e) (λ image one. inl one) first)
      (leaves_weaker mid new (MayLeave Failed mid new u t e) (MayLeave Failed old new s t e) each second)
    where
      each : (image : Image) → MayLeave Failed mid new u t e image → MayLeave Failed old new s t e image
      each image (inl one) = inl (one_on old mid s u same none image one)
      each image (inr (inl stands)) = inr (inl stands)
      each image (inr (inr (failed, after))) = inr (inr (failed, subst (λ (m : Machine). StandsAfter m e image) same after))

-- by the stop that it ends with
pub left_stopped : {T : Type 0} (r : Result T Stop) (stop : Stop) → r ≡ Err stop → (old new : View) (s t : Seen) (e : Made) → (stop ≡ Memory → Leaves old new (StandsForOne old s)) → Leaves old new (StandsOrAfter old s e)
    → Leaves old new (MayLeave (r ≡ Err Unavailable) old new s t e)
left_stopped r Unavailable is old new s t e none one = left_unsure (r ≡ Err Unavailable) old new s t e is one
left_stopped r Memory is old new s t e none one = left_before (r ≡ Err Unavailable) old new s t e (none refl)

-- told in another way
pub left_told : (Failed Told : Type 0) → (Failed → Told) → (old new : View) (s t : Seen) (e : Made) → Leaves old new (MayLeave Failed old new s t e) → Leaves old new (MayLeave Told old new s t e)
left_told Failed Told told old new s t e leaves = leaves_weaker old new (MayLeave Failed old new s t e) (MayLeave Told old new s t e)
    (λ image h. ⊎_elim (λ one. inl one) (λ rest. ⊎_elim (λ stands. inr (inl stands)) (λ after. inr (inr (told after.0, after.1))) rest) h) leaves

-- whichever slot has its block
pub left_anywhere : (Failed : Type 0) (old new : View) (s t : Seen) (account : ℕ) (now : Moment) (put : PutHead) (slot : ℕ) (bytes : List ℕ)
    → Leaves old new (MayLeave Failed old new s t (called (put_at account now put slot bytes))) → Leaves old new (MayLeave Failed old new s t (called (called_at account now (with_bytes put bytes))))
left_anywhere Failed old new s t account now put slot bytes leaves =
    leaves_weaker old new (MayLeave Failed old new s t (called (put_at account now put slot bytes))) (MayLeave Failed old new s t (called (called_at account now (with_bytes put bytes)))) each leaves
  where
    each : (image : Image) → MayLeave Failed old new s t (called (put_at account now put slot bytes)) image → MayLeave Failed old new s t (called (called_at account now (with_bytes put bytes))) image
    each image (inl one) = inl one
    each image (inr (inl here)) = inr (inl here)
    each image (inr (inr (failed, after))) = inr (inr (failed, record { next = after.next; leads = after.leads; more = after.more; stands = after.stands }))
