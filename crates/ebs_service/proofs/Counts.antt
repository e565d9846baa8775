-- How often E17 was answered.
use Rattle.std.proofs.Common.{◌≡◌, ℕ, ◌+◌, ◌-◌, ◌^◌, ◌≤◌, min, Bool, true, false, ◌&&◌, cond, List, [], ◌∷◌, refl, sym, subst, arith}
use Rattle.std.specs.declared.result.Result.{Result}
use Rattle.std.specs.declared.result.Result.TheVariants.{Ok, Err}
use Rattle.ebs_model.specs.Quotas.{Rose}
use Rattle.ebs_world.specs.View.{View}
use Rattle.ebs_model.specs.declared.request.Call.{Call}
use Rattle.ebs_model.specs.declared.answer.Answer.{Answer}
use Rattle.ebs_model.specs.declared.answer.Answer.TheVariants as answers
use Rattle.ebs_model.specs.declared.answer.Refusal.{Refusal}
use Rattle.ebs_model.specs.declared.answer.Refusal.TheVariants as refusals
use Rattle.ebs_rest.specs.CallOf.{call_of}
use Rattle.ebs_exchanges.specs.Exchanges.{Exchange}
use Rattle.ebs_session.specs.Session.{Chain}
use Rattle.ebs_recovery.specs.inner.Fits.{Seen}
use Rattle.ebs_service.specs.inner.Served.{served_on, refused, starved, applied}
use Rattle.ebs_service.specs.Fronts.{is_e17, is_call, failures_in, IsCounted}

no : false ≡ true → ⊥
no e = cc

-- a refusal, or an answer, of which the test says so is E17
of_refusal : (r : Refusal) → is_e17 (answers.Refused r) ≡ true → answers.Refused r ≡ answers.Refused refusals.Unavailable
of_refusal (refusals.BadParameter a) h = absurd (no h)
of_refusal refusals.BadSize h = absurd (no h)
of_refusal refusals.BadIndex h = absurd (no h)
of_refusal refusals.BadBlockToken h = absurd (no h)
of_refusal refusals.BadPageToken h = absurd (no h)
of_refusal (refusals.WrongState a) h = absurd (no h)
of_refusal refusals.Unrelated h = absurd (no h)
of_refusal (refusals.Checksum a b) h = absurd (no h)
of_refusal (refusals.NotFound a) h = absurd (no h)
of_refusal refusals.NotOwner h = absurd (no h)
of_refusal (refusals.TokenConflict a) h = absurd (no h)
of_refusal refusals.OpenUploads h = absurd (no h)
of_refusal (refusals.Quota a b) h = absurd (no h)
of_refusal (refusals.Locked a) h = absurd (no h)
of_refusal refusals.RuleLocked h = absurd (no h)
of_refusal (refusals.Exhausted a) h = absurd (no h)
of_refusal refusals.Unavailable h = refl
of_refusal (refusals.Damaged a b) h = absurd (no h)
of_refusal refusals.NoSuchCall h = absurd (no h)

of_answer : (a : Answer) → is_e17 a ≡ true → a ≡ answers.Refused refusals.Unavailable
of_answer (answers.Started a b c d e f g) h = absurd (no h)
of_answer (answers.BlockWritten a) h = absurd (no h)
of_answer answers.Completed h = absurd (no h)
of_answer (answers.BlockList a b c d) h = absurd (no h)
of_answer (answers.ChangedList a b c d) h = absurd (no h)
of_answer (answers.BlockRead a b) h = absurd (no h)
of_answer answers.ZeroBlockRead h = absurd (no h)
of_answer (answers.SnapshotShown a b) h = absurd (no h)
of_answer (answers.SnapshotList a b) h = absurd (no h)
of_answer answers.Done h = absurd (no h)
of_answer (answers.LockShown a b) h = absurd (no h)
of_answer (answers.TierShown a b) h = absurd (no h)
of_answer (answers.VolumeShown a b c d e) h = absurd (no h)
of_answer (answers.RuleShown a b) h = absurd (no h)
of_answer (answers.RuleList a) h = absurd (no h)
of_answer (answers.PolicyShown a b c) h = absurd (no h)
of_answer (answers.PolicyRan a b) h = absurd (no h)
of_answer answers.Memory h = absurd (no h)
of_answer (answers.Refused r) h = of_refusal r h

-- one exchange, by the test on it
one_counted : (b : Bool) (n old mid new : ℕ) → old ≤ mid → (b ≡ true → Rose old mid) → min (mid + n) (2 ^ 64 - 1) ≤ new → min (old + (cond b 1 0 + n)) (2 ^ 64 - 1) ≤ new
one_counted true n old mid new le rose rest = let r = rose refl in omega (arith, le, r, rest)
one_counted false n old mid new le rose rest = omega (arith, le, rest)

second : (a b : Bool) → (a && b) ≡ true → b ≡ true
second true b h = h
second false b h = absurd (no h)

not_both : (call : Call) (refusal : Refusal) → Ok call ≡ Err refusal → ⊥
not_both call refusal e = cc

no_call : (c : Result Call Refusal) (refusal : Refusal) (b : Bool) → c ≡ Err refusal → (is_call c && b) ≡ true → ⊥
no_call (Ok call) refusal b is h = absurd (not_both call refusal is)
no_call (Err r) refusal b is h = no h

module _ (sound : Type 0) (D : Type 0) (view : D → View) where
  abbrev failed : Exchange → Bool
  failed x = is_call (call_of x.message) && is_e17 x.answer

  -- the count of a call
  still_counts : (d f : D) → f ≡ d → (view d).faults ≤ (view f).faults
  still_counts d f still = subst (λ (e : D). (view d).faults ≤ (view e).faults) (sym still) (omega arith)

  counts : (s t : Seen) (d f : D) (x : Exchange) → served_on sound view s d x.message (record { second = x.reading }) x.answer t f → ((view d).faults ≤ (view f).faults) × (failed x ≡ true → Rose (view d).faults (view f).faults)
  counts s t d f x (refused refusal makes is still same) = (still_counts d f still, λ h. absurd (no_call (call_of x.message) refusal (is_e17 x.answer) makes h))
  counts s t d f x (starved is still same) = (still_counts d f still, λ h. absurd (no (subst (λ (a : Answer). is_e17 a ≡ true) is (second (is_call (call_of x.message)) (is_e17 x.answer) h))))
  counts s t d f x (applied call makes a) = (a.ran.ran.count, λ h. a.cause (of_answer x.answer (second (is_call (call_of x.message)) (is_e17 x.answer) h)))

  pub counted : (xs : List Exchange) (s t : Seen) (old new : D) → Chain (served_on sound view) s old xs t new → IsCounted (view old) xs (view new)
  counted [] s t old new (same, still) = let le = still_counts old new still in omega (arith, le)
  counted (x ∷ xs) s t old new (next, world, served, chain) =
      let one = counts s next old world x served in
      one_counted (failed x) (failures_in xs) (view old).faults (view world).faults (view new).faults one.0 one.1 (counted xs next t world new chain)
