-- What an answer does to the machine that is recorded, and to the one that answers calls.
use Rattle.std.proofs.Common.{◌≡◌, inl, inr, List, [], ◌∷◌, ◌++◌, true, refl, subst}
use Rattle.ebs_world.specs.View.{View}
use Rattle.ebs_model.specs.declared.keys.Moment.{Moment}
use Rattle.ebs_model.specs.declared.request.Call.{Call}
use Rattle.ebs_model.specs.Step.{step}
use Rattle.std.specs.declared.result.Result.TheVariants.{Ok}
use Rattle.ebs_rest.specs.CallOf.{call_of}
use Rattle.ebs_exchanges.specs.Exchanges.{Exchange}
use Rattle.ebs_exchanges.specs.Stops.{Point, Along, Does, OwnCall, Obeys}
use Rattle.ebs_exchanges.specs.Stops as points
use Rattle.ebs_recovery.specs.inner.Fits.{Seen, recorded, running}
use Rattle.ebs_disk_store.specs.inner.Turned.{Turn, OneMoreOrNone}
use Rattle.ebs_service.specs.inner.Served.{served_on, refused, starved, applied}
use Rattle.ebs_service.specs.inner.Fronts.{point}

-- one more
module _ {X : Type 0} (Part : Point → X → Point → Type 0) where
  pub along_more : (p q r : Point) (xs : List X) (x : X) → Along Part p xs q → Part q x r → Along Part p (xs ++ x ∷ []) r
  along_more p q r [] x is part = (r, subst (λ (m : Point). Part m x r) is part, refl)
  along_more p q r (y ∷ xs) x (next, first, later) part = (next, first, along_more next q r xs x later part)

same_point : (v w : View) (s t : Seen) → running w t ≡ running v s → recorded w t ≡ recorded v s → point w t ≡ point v s
same_point v w s t run rec = λ i. record { recorded = rec i; running = run i }

-- a command's own call that was applied, over a sound store on an honest disk
module _ (v w : View) (s t : Seen) (x : OwnCall) where
  pub obeys : Turn v w s t x.call.account (record { second = x.reading }) x.call.request x.answer → OneMoreOrNone v w s t → Obeys (point v s) x (point w t)
  obeys (inl step) (inl more) = inl (step, inl (more.0, more.1))
  obeys (inl step) (inr none) = inl (step, inr (none.1, none.0))
  obeys (inr (inl unavailable, run, rec)) changes = inr (inr unavailable, same_point v w s t run rec)
  obeys (inr (inr memory, run, rec)) changes = inr (inl memory, same_point v w s t run rec)

-- so it is of one that a message makes
module _ (v w : View) (s t : Seen) (x : Exchange) (call : Call) (makes : call_of x.message ≡ Ok call) where
  abbrev reading : Moment
  reading = record { second = x.reading }

  pub does_call : Turn v w s t call.account reading call.request x.answer → OneMoreOrNone v w s t → Does (point v s) x (point w t)
  does_call (inl step) (inl more) = points.changed call makes step more.0 more.1
  does_call (inl step) (inr none) = points.answered call makes step none.1 none.0
  does_call (inr (inl unavailable, run, rec)) changes = points.unavailable call makes unavailable (same_point v w s t run rec)
  does_call (inr (inr memory, run, rec)) changes = points.starved memory (same_point v w s t run rec)

module _ (sound : Type 0) (is_sound : sound) (D : Type 0) (view : D → View) where
  pub does : (s t : Seen) (d e : D) (x : Exchange) → (view d).tells ≡ true → (view d).honest ≡ true
      → served_on sound view s d x.message (record { second = x.reading }) x.answer t e → Does (point (view d) s) x (point (view e) t)
  does s t d e x tells honest (refused refusal makes is still same) = points.no_call refusal makes is (λ i. point (view (still i)) (same i))
  does s t d e x tells honest (starved is still same) = points.starved is (λ i. point (view (still i)) (same i))
  does s t d e x tells honest (applied call makes is) = does_call (view d) (view e) s t x call makes (is.step is_sound tells honest) (is.recorded is_sound tells honest)
