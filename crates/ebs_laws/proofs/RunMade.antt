-- What a run makes, tells and leaves, of whole steps.
use Rattle.std.proofs.Common.{◌≡◌, ◌⊎◌, inl, inr, ℕ, ◌+◌, ◌<◌, ◌≤◌, nat_le, Bool, true, false, cond, List, [], ◌∷◌, map, length, Option, Some, None, sym, ap, subst, ◌∙◌, refl, arith}
use Rattle.std.proofs.lemmas.Bool.{false≢true}
use Rattle.std.proofs.lemmas.Bool.Decides.{nat_tests}
use Rattle.std.specs.Option.{option_map}
use Rattle.std.specs.FinMap as fin
use Rattle.ebs_model.specs.declared.keys.SnapKey.{SnapKey}
use Rattle.ebs_model.specs.declared.keys.VolKey.{VolKey}
use Rattle.ebs_model.specs.declared.keys.PolicyKey.{PolicyKey}
use Rattle.ebs_model.specs.declared.keys.AnyKey.{AnyKey}
use Rattle.ebs_model.specs.declared.keys.AnyKey.TheVariants.{Snap}
use Rattle.ebs_model.specs.declared.keys.Moment.{Moment}
use Rattle.ebs_model.specs.declared.policy.Policy.{Policy}
use Rattle.ebs_model.specs.declared.policy.Retain.{Retain}
use Rattle.ebs_model.specs.declared.policy.Retain.TheVariants.{Count}
use Rattle.ebs_model.specs.declared.rows.SnapRow.{SnapRow}
use Rattle.ebs_model.specs.declared.request.Request.{Request}
use Rattle.ebs_model.specs.declared.request.Request.TheVariants.{RunPolicy}
use Rattle.ebs_model.specs.declared.answer.Answer.TheVariants.{PolicyRan}
use Rattle.ebs_model.specs.inner.Orders.{exact_snaps}
use Rattle.ebs_model.specs.Time.{Snapshot}
use Rattle.ebs_model.specs.Machine.{Machine, advance, rows_of, snap_rows}
use Rattle.ebs_model.specs.Policies.{is_due, made_of, targets}
use Rattle.ebs_model.specs.Retention.{newer, is_picked}
use Rattle.ebs_model.specs.Calls.Start.{next_key}
use Rattle.ebs_model.specs.Calls.Run.{new_keys, run_ended, run_released, freed}
use Rattle.ebs_model.specs.Step.{step}
use Rattle.ebs_model.proofs.RowLaws.{row_in, with_array, get-row, get-with}
use Rattle.ebs_model.proofs.RunLaws.{among, new_row, or_else, with_made, left_of, get-run, new-next}
use Rattle.ebs_model.specs.Timed.{Timed, turn, after_all, IsIn}
use Rattle.ebs_laws.specs.Words.{second_of, moment_at, next_number}
use Rattle.ebs_laws.specs.Uploads.{NumbersGiven}
use Rattle.ebs_laws.specs.PolicyLaws.{IsSpared, counted}
use Rattle.ebs_laws.specs.RunLaws.{StartsPassed, KeepsSome, PassesTime, AreTargets, EachIsMade, next_own, RunMakesEachTarget, RunTellsMade, RunNotDueMakesNothing, RunTellsDeleted, HasNewer, RunKeepsNewest, GivesOut, by_start, by_run, GivenIdsDiffer}
use Rattle.ebs_laws.proofs.Begun.{numbered, gives-turn, never-fall}
use Rattle.ebs_laws.proofs.Cases.{step-cases}
use Rattle.ebs_laws.proofs.Deleted.{unbinned}
use Rattle.ebs_laws.proofs.Given.{numbers-aged}
use Rattle.ebs_laws.proofs.PassedStarts.{passed-at}
use Rattle.ebs_laws.proofs.PolicyLaws.{it, untouched, not_due, gives-numbers}
use Rattle.ebs_laws.proofs.PolicyRuns.{some_is, none_some, IsCounted, standing, begun, is_new, RunLeaves, none_there, stays, frees, bins, takes, run-leaves, own_in, due_volumes, IsDueTarget, due_targets-are, array, counted as made_or_there}
use Rattle.ebs_laws.proofs.RunMakes.{each-is-made, has-newer}
use Rattle.ebs_laws.proofs.RunTargets.{run_volumes, volumes-are, due, in_new, in_among}
use Rattle.ebs_laws.proofs.Whole.{own_of, rewritten, ran}
use Rattle.std.proofs.lemmas.List.{length-map}

made_are : {a b c d : List AnyKey} → PolicyRan a b ≡ PolicyRan c d → b ≡ d
made_are e = cc

deleted_are : {a b c d : List AnyKey} → PolicyRan a b ≡ PolicyRan c d → a ≡ c
deleted_are e = cc

-- the account's next snapshot, as the machine says it
next-own-is : (m : Machine) (account : ℕ) → next_key (rows_of m) account ≡ next_own m account
next-own-is m account = λ i. record { account = account; number = sym (numbered (fin.get m.own account)) i }

-- ---- what a run makes

-- how far the numbers go up
numbers-more : (m : Machine) (key : PolicyKey) (p : Policy) → next_number (ran m key p) key.account ≡ next_number m key.account + length (due_volumes m key p)
numbers-more m key p =
    let more : (own_in (ran m key p).own key.account).next_snap ≡ (own_of m key.account).next_snap + length (due_volumes m key p) = new-next (rows_of m) m.clock key p (due_volumes m key p) in
    let was = numbered (fin.get m.own key.account) in
    let now = numbered (fin.get (ran m key p).own key.account) in
    omega (arith, more, was, now)

-- time changes no volume
from-at : (m : Machine) (now : Moment) (key : PolicyKey) (p : Policy) (new : Machine) (first : SnapKey) (volumes : List VolKey) (ids : List AnyKey) → EachIsMade (advance m now) now key p new first volumes ids → EachIsMade m now key p new first volumes ids
from-at m now key p new first [] [] h = tt
from-at m now key p new first [] (id ∷ ids) h = absurd h
from-at m now key p new first (v ∷ volumes) [] h = absurd h
from-at m now key p new first (v ∷ volumes) (id ∷ ids) (is, one, rest) = (
  is,
  record { of = one.of; was_there = one.was_there; snapshot = one.snapshot; is_there = one.is_there; by_policy = one.by_policy; row = one.row; blocks = one.blocks },
  from-at m now key p new (record first { number = first.number + 1 }) volumes ids rest,
)

pub makes-each : RunMakesEachTarget
makes-each m account reading key p deleted made given passed fit there time is_due_now =
    let at = advance m (moment_at m reading) in
    let now_given = numbers-aged m (moment_at m reading) given in
    let now_passed = passed-at m reading passed in
    let (some, hours) = fit key p there in
    step-cases (λ d. d.1 ≡ PolicyRan deleted made
    → (volumes : List VolKey) × AreTargets m account p volumes × EachIsMade m (moment_at m reading) key p d.0 (next_own m account) volumes made × (next_number d.0 account ≡ next_number m account + length volumes))
    m account reading (RunPolicy key)
    (λ own tests e.
    let same : p ≡ own = some_is p own (sym there ∙ tests.found) in
    subst (λ (a : ℕ). (new : List AnyKey) → map Snap (new_keys (next_key (rows_of at) a) (due_volumes at key own)) ≡ new
    → (volumes : List VolKey) × AreTargets m a p volumes × EachIsMade m (moment_at m reading) key p (ran at key own) (next_own m a) volumes new × (next_number (ran at key own) a ≡ next_number m a + length volumes)) (sym tests.owned)
    (λ new is.
    subst (λ (own : Policy). (volumes : List VolKey) × AreTargets m key.account p volumes × EachIsMade m (moment_at m reading) key p (ran at key own) (next_own m key.account) volumes new × (next_number (ran at key own) key.account ≡ next_number m key.account + length volumes)) same
    (let all = length-map (due_volumes at key p) (λ e. e.0) in
    let more = numbers-more at key p in
    let targets = volumes-are at key p (due p (second_of m reading) hours is_due_now) in (
      run_volumes at key p,
      record { ascending = targets.ascending; are = targets.are; all = targets.all },
      subst (λ (new : List AnyKey). EachIsMade m (moment_at m reading) key p (ran at key p) (next_own m key.account) (run_volumes at key p) new) (ap (λ (own : Policy). map Snap (new_keys (next_key (rows_of at) key.account) (due_volumes at key own))) same ∙ is)
          (subst (λ (first : SnapKey). EachIsMade m (moment_at m reading) key p (ran at key p) first (run_volumes at key p) (map Snap (new_keys (next_key (rows_of at) key.account) (due_volumes at key p)))) (next-own-is at key.account)
          (from-at m (moment_at m reading) key p (ran at key p) _ _ _ (each-is-made at key p now_given now_passed some time))),
      omega (arith, more, all),
    )))
    made (made_are e))
    (λ refusal e. cc)

pub tells-made : RunTellsMade
tells-made m account reading key deleted made q new =
    let at = advance m (moment_at m reading) in
    step-cases (λ d. d.1 ≡ PolicyRan deleted made → fin.get at.snaps q ≡ None → fin.get d.0.snaps q ≡ Some new → IsIn made (Snap q)) m account reading (RunPolicy key)
    (λ own tests e none is.
    subst (λ (ids : List AnyKey). IsIn ids (Snap q)) (made_are e)
    (subst (λ (a : ℕ). IsIn (map Snap (new_keys (next_key (rows_of at) a) (due_volumes at key own))) (Snap q)) (sym tests.owned)
    (by own none is (run-leaves at key own q))))
    (λ refusal e none is. absurd (none_some (sym none ∙ is)))
  where
    known : (own : Policy) (s : Snapshot) → let at = advance m (moment_at m reading) in fin.get at.snaps q ≡ None → IsCounted at key own q s → IsIn (map Snap (new_keys (next_key (rows_of at) key.account) (due_volumes at key own))) (Snap q)
    known own s none (standing there) = absurd (none_some (sym none ∙ there))
    known own s none (begun b) = in_new _ _ q b.owner b.above b.below

    by : (own : Policy) {o : Option Snapshot} → let at = advance m (moment_at m reading) in fin.get at.snaps q ≡ None → o ≡ Some new → RunLeaves at key own q o → IsIn (map Snap (new_keys (next_key (rows_of at) key.account) (due_volumes at key own))) (Snap q)
    by own none is (none_there out e) = absurd (none_some (sym e ∙ is))
    by own none is (stays s c e) = known own s none c
    by own none is (frees s c g l e) = known own s none c
    by own none is (bins s days c g l t d e) = known own s none c
    by own none is (takes s c g l t d e) = absurd (none_some (sym e ∙ is))

pub not-due-nothing : RunNotDueMakesNothing
not-due-nothing m account reading key p deleted made there none =
    let at = advance m (moment_at m reading) in
    step-cases (λ d. d.1 ≡ PolicyRan deleted made → (made ≡ []) × (next_number d.0 account ≡ next_number m account)) m account reading (RunPolicy key)
    (λ own tests e.
    let same : p ≡ own = some_is p own (sym there ∙ tests.found) in
    let out : is_due own own.last.second (second_of m reading) ≡ false = subst (λ (o : Policy). is_due o o.last.second (second_of m reading) ≡ false) same (not_due p p.last.second (second_of m reading) none) in
    let few : length (due_volumes at key own) ≡ 0 = ap (λ (b : Bool). length (cond b (targets (rows_of at) key.account own) [])) out in (
      sym (made_are e) ∙ ap (λ (b : Bool). map Snap (new_keys (next_key (rows_of at) account) (cond b (targets (rows_of at) key.account own) []))) out,
      subst (λ (a : ℕ). next_number (ran at key own) a ≡ next_number m a) (sym tests.owned) (let more = numbers-more at key own in omega (arith, more, few)),
    ))
    (λ refusal e. cc)

-- ---- what it tells of what it deletes

module _ (at : Machine) (given : NumbersGiven at) (key : PolicyKey) (own : Policy) (q : SnapKey) (was : Snapshot) (is : fin.get at.snaps q ≡ Some was) where
  -- none is made in its place
  none-new : new_row at.clock key own (next_key (rows_of at) key.account) (due_volumes at key own) q ≡ None
  none-new = by (new_row at.clock key own (next_key (rows_of at) key.account) (due_volumes at key own) q) refl
    where
      by : (o : Option SnapRow) → new_row at.clock key own (next_key (rows_of at) key.account) (due_volumes at key own) q ≡ o → o ≡ None
      by None e = refl
      by (Some row) e =
          let n = is_new at.clock key own (IsDueTarget at key own) (next_key (rows_of at) key.account) (due_volumes at key own) (due_targets-are at key own) q row e in
          let below = given q was is in
          let above = n.above in
          let next = ap (λ (a : ℕ). (own_of at a).next_snap) n.owner in
          absurd (omega (arith, below, above, next))

  as-it-was : with_made (rows_of at) at.clock key own q ≡ Some was.row
  as-it-was = ap (λ (o : Option SnapRow). or_else o (fin.get (snap_rows at.snaps) q)) none-new ∙ get-row at.snaps q ∙ ap row_in is

  whole-again : with_array (array at key own q) was.row ≡ was
  whole-again = it at given key q was is own (with_array (array at key own q) was.row) (made_or_there at key own q was.row as-it-was)

  spared : (IsIn (map Snap (run_ended (rows_of at) at.clock key own)) (Snap q) → ⊥) → IsSpared (ran at key own) q was
  spared untold = by (among q (run_ended (rows_of at) at.clock key own)) (among q (run_released (rows_of at) at.clock key own)) refl
      (get-with _ _ q ∙ ap (option_map (with_array (array at key own q))) (get-run (rows_of at) at.clock key own q))
    where
      W : Option SnapRow
      W = with_made (rows_of at) at.clock key own q

      by : (a b : Bool) → among q (run_ended (rows_of at) at.clock key own) ≡ a
          → fin.get (ran at key own).snaps q ≡ option_map (with_array (array at key own q)) (cond a (left_of (rows_of at) at.clock q (option_map freed W)) (cond b (option_map freed W) W)) → IsSpared (ran at key own) q was
      by true b t e = absurd (untold (in_among exact_snaps q (run_ended (rows_of at) at.clock key own) t))
      by false true t e = (
        rewritten (freed was.row) was,
        e ∙ ap (λ (o : Option SnapRow). option_map (with_array (array at key own q)) (option_map freed o)) as-it-was ∙ ap (λ (s : Snapshot). Some (rewritten (freed s.row) s)) whole-again,
        refl,
        refl,
      )
      by false false t e = (was, e ∙ ap (option_map (with_array (array at key own q))) as-it-was ∙ ap Some whole-again, refl, refl)

pub tells-deleted : RunTellsDeleted
tells-deleted m account reading key deleted made q was given =
    let at = advance m (moment_at m reading) in
    step-cases (λ d. d.1 ≡ PolicyRan deleted made → fin.get at.snaps q ≡ Some was → (IsIn deleted (Snap q) → ⊥) → IsSpared d.0 q was) m account reading (RunPolicy key)
    (λ own tests e is untold. spared at (numbers-aged m (moment_at m reading) given) key own q was is (λ there. untold (subst (λ (ids : List AnyKey). IsIn ids (Snap q)) (deleted_are e) there)))
    (λ refusal e is untold. cc)

-- ---- the newest

pub keeps-newest : RunKeepsNewest
keeps-newest m account reading key p n volume q was given passed there count some had =
    let at = advance m (moment_at m reading) in
    let now_given = numbers-aged m (moment_at m reading) given in
    let now_passed = passed-at m reading passed in
    step-cases (λ d. (fin.get d.0.snaps q ≡ Some was) ⊎ HasNewer at d.0 key volume q was n) m account reading (RunPolicy key)
    (λ own tests.
    let same : p ≡ own = some_is p own (sym there ∙ tests.found) in
    let is : own.retain ≡ Count n = ap (λ (p : Policy). p.retain) (sym same) ∙ count in
    by own is (nat_le n (newer (counted at key own was.row.volume) (made_of at.clock.second (q, was.row)))) refl now_given now_passed)
    (λ refusal. inl had.is_there)
  where
    le_is : (a b : ℕ) → nat_le a b ≡ true → a ≤ b
    le_is a b e = grind (arith, nat_tests)

    some-of : (r : Retain) → r ≡ Count n → KeepsSome r × ((now : ℕ) → PassesTime r now)
    some-of r e = subst (λ (r : Retain). KeepsSome r × ((now : ℕ) → PassesTime r now)) (sym e) (some, λ now. tt)

    by : (own : Policy) → own.retain ≡ Count n → let at = advance m (moment_at m reading) in (b : Bool) → nat_le n (newer (counted at key own was.row.volume) (made_of at.clock.second (q, was.row))) ≡ b → NumbersGiven at → StartsPassed at
        → (fin.get (ran at key own).snaps q ≡ Some was) ⊎ HasNewer at (ran at key own) key volume q was n
    by own is true t now_given now_passed =
        let at = advance m (moment_at m reading) in
        let (keeps, time) = some-of own.retain is in
        inr (has-newer at key own now_given now_passed keeps (time at.clock.second) (λ k s e out. unbinned m (moment_at m reading) k s e out) volume q was had n (le_is n _ t))
    by own is false t now_given now_passed =
        let at = advance m (moment_at m reading) in
        inl (untouched at now_given key q was had.is_there own
        (λ g. false≢true (sym t ∙ sym (ap (λ (r : Retain). is_picked r (counted at key own was.row.volume) at.clock.second (made_of at.clock.second (q, was.row))) is) ∙ g.is_picked))
        (fin.get (ran at key own).snaps q) (run-leaves at key own q))

-- ---- ids

snap_is : {a b : SnapKey} → Snap a ≡ Snap b → a ≡ b
snap_is e = cc

gives-out : (m : Machine) (t : Timed) (key : SnapKey) → GivesOut m t key → (next_number m key.account ≤ key.number) × (key.number < next_number (turn m t).0 key.account)
gives-out m t key (by_start fresh e) = let (is, above) = gives-turn m t key fresh e in (omega (arith, is), above)
gives-out m t key (by_run policy deleted made asked told there) =
    let request : (step m t.call.account t.reading (RunPolicy policy)).1 ≡ PolicyRan deleted made = ap (λ (r : Request). (step m t.call.account t.reading r).1) (sym asked) ∙ told in
    let (number, is, above, below) = gives-numbers m t.call.account t.reading policy deleted made (Snap key) request there in
    let same : key ≡ record { account = t.call.account; number = number } = snap_is is in
    let after : next_number (turn m t).0 t.call.account ≡ next_number (step m t.call.account t.reading (RunPolicy policy)).0 t.call.account = ap (λ (r : Request). next_number (step m t.call.account t.reading r).0 t.call.account) asked in
    subst (λ (k : SnapKey). (next_number m k.account ≤ k.number) × (k.number < next_number (turn m t).0 k.account)) (sym same) (above, omega (arith, below, after))

pub given-differ : GivenIdsDiffer
given-differ m first second between a b one two same =
    let (was, above) = gives-out m first a one in
    let (is, rest) = gives-out (after_all (turn m first).0 between) second b two in
    let more = never-fall (turn m first).0 between a.account in
    let number = ap (λ (k : SnapKey). k.number) same in
    let there = ap (λ (k : SnapKey). next_number (after_all (turn m first).0 between) k.account) same in
    omega (arith, above, is, more, number, there)
