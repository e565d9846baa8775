-- What runs of policies leave, make and give up.
use Rattle.std.proofs.Common.{◌≡◌, ℕ, ◌*◌, ◌-◌, ◌/◌, ◌<◌, ◌≤◌, arith, Bool, true, false, cond, ◌&&◌, nat_le, nat_lt, List, [], map, Option, Some, None, refl, sym, ap, subst, ◌∙◌, length, inl, inr, ◌+◌, ◌∷◌}
use Rattle.std.proofs.lemmas.Bool.{false≢true}
use Rattle.std.proofs.lemmas.Bool.Decides.{nat_tests}
use Rattle.std.specs.FinMap as fin
use Rattle.ebs_model.specs.declared.keys.SnapKey.{SnapKey}
use Rattle.ebs_model.specs.declared.rows.VolRow.{VolRow}
use Rattle.ebs_model.specs.declared.keys.VolKey.{VolKey}
use Rattle.ebs_model.specs.declared.keys.PolicyKey.{PolicyKey}
use Rattle.ebs_model.specs.declared.keys.AnyKey.{AnyKey}
use Rattle.ebs_model.specs.declared.keys.AnyKey.TheVariants.{Snap}
use Rattle.ebs_model.specs.declared.keys.Moment.{Moment}
use Rattle.ebs_model.specs.declared.policy.Policy.{Policy}
use Rattle.ebs_model.specs.declared.policy.Made.{Made}
use Rattle.ebs_model.specs.declared.policy.Retain.{Retain}
use Rattle.ebs_model.specs.declared.policy.Retain.TheVariants.{Count, Days, Weeks, Months, Years}
use Rattle.ebs_model.specs.declared.rows.SnapRow.{SnapRow}
use Rattle.ebs_model.specs.declared.request.Request.TheVariants.{CreatePolicy, DeletePolicy, RunPolicy}
use Rattle.ebs_model.specs.declared.answer.Answer.TheVariants.{PolicyShown, PolicyRan, Done}
use Rattle.ebs_model.specs.inner.Orders.{policies_total, exact_policies}
use Rattle.ebs_model.specs.Time.{Snapshot, is_ahead}
use Rattle.ebs_model.specs.Machine.{Machine, advance, rows_of}
use Rattle.ebs_model.specs.Policies.{interval, latest_due, is_due, is_policy, made_of, targets}
use Rattle.ebs_model.specs.Retention.{newer, is_picked}
use Rattle.ebs_model.specs.Calls.Start.{next_key}
use Rattle.ebs_model.specs.Calls.Run.{new_keys, run_row, freed, due_targets, following}
use Rattle.ebs_model.specs.Views.{lock_until}
use Rattle.ebs_model.specs.Step.{step}
use Rattle.ebs_laws.specs.Words.{second_of, moment_at, next_number}
use Rattle.ebs_laws.specs.Uploads.{NumbersGiven}
use Rattle.ebs_laws.specs.LockLaws.{IsLocked}
use Rattle.ebs_laws.specs.PolicyLaws.{IsSpared, RunSparesLocked, RunLeavesOtherPolicies, RunLeavesOtherAccounts, IsYoung, RunLeavesYoung, counted, newer_than, RunLeavesNewest, RunLeavesTheNewest, IsMade, RunMakesOfVolumes, RunGivesNumbers, NoneDueBetween, RunAgainMakesNothing, OnePolicy, next_own_policy, CreatedPolicyIsAsAsked, DeletedPolicyLeavesSnapshots}
use Rattle.ebs_laws.proofs.Maps.{get-itself, get-other, get-gone, get-left}
use Rattle.ebs_laws.proofs.Cases.{step-cases}
use Rattle.ebs_laws.proofs.Given.{numbers-aged}
use Rattle.ebs_laws.proofs.Locked.{lasting}
use Rattle.ebs_model.proofs.RunLaws.{new-next}
use Rattle.ebs_laws.proofs.Begun.{numbered}
use Rattle.ebs_model.specs.Timed.{IsIn}
use Rattle.ebs_laws.proofs.PolicyRuns.{own_in, some_is, none_some, both_hold, IsBegun, IsCounted, standing, begun, IsGivenUp, RunLeaves, none_there, stays, frees, bins, takes, run-leaves}
use Rattle.ebs_laws.proofs.Readers.{same_number}
use Rattle.ebs_laws.proofs.Seen.{others-stay}
use Rattle.ebs_laws.proofs.Whole.{own_of, rewritten, ran, with_policy}

-- ---- what a run leaves of a snapshot that was there

module _ (at : Machine) (given : NumbersGiven at) (key : PolicyKey) (q : SnapKey) (was : Snapshot) (is : fin.get at.snaps q ≡ Some was) (p : Policy) where
  pub it : (s : Snapshot) → IsCounted at key p q s → s ≡ was
  it s (standing there) = some_is s was (sym there ∙ is)
  it s (begun new) =
      let below = given q was is in
      let above = new.above in
      let next = ap (λ (a : ℕ). (own_of at a).next_snap) new.owner in
      absurd (omega (arith, below, above, next))

  -- one that isn't given up is as it was
  pub untouched : (IsGivenUp at key p q was.row → ⊥) → (new : Option Snapshot) → RunLeaves at key p q new → new ≡ Some was
  untouched none new left = by left
    where
      no : (s : Snapshot) → IsCounted at key p q s → IsGivenUp at key p q s.row → ⊥
      no s c g = none (subst (λ (s : Snapshot). IsGivenUp at key p q s.row) (it s c) g)

      by : RunLeaves at key p q new → new ≡ Some was
      by (none_there out e) = absurd (none_some (sym out ∙ is))
      by (stays s c e) = e ∙ ap Some (it s c)
      by (frees s c g l e) = absurd (no s c g)
      by (bins s days c g l t d e) = absurd (no s c g)
      by (takes s c g l t d e) = absurd (no s c g)

  -- one under a lock that lasts is there
  spared : IsLocked was.row.lock at.clock.second → (new : Machine) → RunLeaves at key p q (fin.get new.snaps q) → IsSpared new q was
  spared locked new left = by left
    where
      no : (s : Snapshot) → IsCounted at key p q s → is_ahead (lock_until s.row.lock) at.clock.second ≡ false → ⊥
      no s c free = lasting was.row.lock at.clock.second (ap (λ (s : Snapshot). is_ahead (lock_until s.row.lock) at.clock.second) (sym (it s c)) ∙ free) locked

      by : RunLeaves at key p q (fin.get new.snaps q) → IsSpared new q was
      by (none_there out e) = absurd (none_some (sym out ∙ is))
      by (stays s c e) = (was, e ∙ ap Some (it s c), refl, refl)
      by (frees s c g l e) = (rewritten (freed was.row) was, e ∙ ap (λ (s : Snapshot). Some (rewritten (freed s.row) s)) (it s c), refl, refl)
      by (bins s days c g free t d e) = absurd (no s c free)
      by (takes s c g free t d e) = absurd (no s c free)

pub spares-locked : RunSparesLocked
spares-locked m account reading key q was given is locked =
    let at = advance m (moment_at m reading) in
    step-cases (λ d. IsSpared d.0 q was) m account reading (RunPolicy key)
    (λ p tests. spared at (numbers-aged m (moment_at m reading) given) key q was is p locked (ran at key p) (run-leaves at key p q))
    (λ refusal. (was, is, refl, refl))

-- one that isn't given up is as it was, whatever is answered
pub left-alone : (m : Machine) (account : ℕ) (reading : Moment) (key : PolicyKey) (q : SnapKey) (was : Snapshot) → let at = advance m (moment_at m reading) in
    NumbersGiven m → fin.get at.snaps q ≡ Some was → ((p : Policy) → fin.get m.policies key ≡ Some p → IsGivenUp at key p q was.row → ⊥) → fin.get (step m account reading (RunPolicy key)).0.snaps q ≡ Some was
left-alone m account reading key q was given is none =
    let at = advance m (moment_at m reading) in
    step-cases (λ d. fin.get d.0.snaps q ≡ Some was) m account reading (RunPolicy key)
    (λ p tests. untouched at (numbers-aged m (moment_at m reading) given) key q was is p (none p tests.found) _ (run-leaves at key p q))
    (λ refusal. is)

pub policy-is : (key : PolicyKey) (o : Option PolicyKey) → is_policy key o ≡ true → o ≡ Some key
policy-is key None e = absurd (false≢true e)
policy-is key (Some own) e =
    let (account, number) = both_hold _ _ e in
    λ i. Some (record { account = sym (same_number key.account own.account account) i; number = sym (same_number key.number own.number number) i })

pub leaves-other-policies : RunLeavesOtherPolicies
leaves-other-policies m account reading key q was given is other = left-alone m account reading key q was given is (λ p found g. other (policy-is key was.row.policy g.of_policy))

pub leaves-other-accounts : RunLeavesOtherAccounts
leaves-other-accounts m account reading key q other = others-stay m account reading (RunPolicy key) q other

young-stays : (retain : Retain) (made : List Made) (now : ℕ) (one : Made) → IsYoung retain one.start now → is_picked retain made now one ≡ true → ⊥
young-stays (Count n) made now one young e = young
young-stays (Days n) made now one young e = absurd (grind (arith, nat_tests))
young-stays (Weeks n) made now one young e = absurd (grind (arith, nat_tests))
young-stays (Months n) made now one young e = absurd (grind (arith, nat_tests))
young-stays (Years n) made now one young e = absurd (grind (arith, nat_tests))

pub leaves-young : RunLeavesYoung
leaves-young m account reading key p q was given there is young =
    let at = advance m (moment_at m reading) in
    left-alone m account reading key q was given is (λ own found g.
    let same : p ≡ own = some_is p own (sym there ∙ found) in
    young-stays own.retain (counted at key own was.row.volume) at.clock.second (made_of at.clock.second (q, was.row)) (subst (λ (p : Policy). IsYoung p.retain was.row.start (second_of m reading)) same young) g.is_picked)

few-stay : (retain : Retain) (n : ℕ) (made : List Made) (now : ℕ) (one : Made) → retain ≡ Count n → nat_le n (newer made one) ≡ false → is_picked retain made now one ≡ true → ⊥
few-stay retain n made now one is few e = false≢true (sym few ∙ ap (λ (r : Retain). is_picked r made now one) (sym is) ∙ e)

not_so_many : (n k : ℕ) → k < n → nat_le n k ≡ false
not_so_many n k h = grind (arith, nat_tests)

pub leaves-newest : RunLeavesNewest
leaves-newest m account reading key p n q was given there count is few =
    let at = advance m (moment_at m reading) in
    left-alone m account reading key q was given is (λ own found g.
    let same : p ≡ own = some_is p own (sym there ∙ found) in
    few-stay own.retain n (counted at key own was.row.volume) at.clock.second (made_of at.clock.second (q, was.row)) (ap (λ (p : Policy). p.retain) (sym same) ∙ count)
    (not_so_many n _ (subst (λ (p : Policy). newer_than at key p q was.row < n) same few)) g.is_picked)

pub leaves-the-newest : RunLeavesTheNewest
leaves-the-newest m account reading key p n q was given there count some is newest =
    leaves-newest m account reading key p n q was given there count is (omega (arith, some, newest))

-- ---- what a run makes

-- all of it but its policy and its end in the bin
made-of-volume : (m : Machine) (account : ℕ) (now : Moment) (key : PolicyKey) (p : Policy) (q : SnapKey) (s : Snapshot) (row : SnapRow) → let at = advance m now in account ≡ key.account → IsBegun at key p q s
    → row ≡ record s.row { policy = row.policy; bin_end = row.bin_end } → IsMade m account now p (rewritten row s)
made-of-volume m account now key p q s row mine h same =
    let is : row ≡ record (run_row now q key p h.of) { policy = row.policy; bin_end = row.bin_end } = same ∙ ap (λ (r : SnapRow). record r { policy = row.policy; bin_end = row.bin_end }) h.row_is in
    record {
      volume = h.of.0;
      row = h.of.1;
      was_there = h.target.there;
      owned = mine ∙ h.target.mine;
      blocks = h.array_is;
      of = ap (λ (r : SnapRow). r.volume) is;
      size = ap (λ (r : SnapRow). r.size) is;
      line = ap (λ (r : SnapRow). r.line) is;
      tags = ap (λ (r : SnapRow). r.tags) is;
      starts = ap (λ (r : SnapRow). r.start) is;
      completed = ap (λ (r : SnapRow). r.completed) is;
    }

pub makes-of-volumes : RunMakesOfVolumes
makes-of-volumes m account reading key p q new there none =
    let at = advance m (moment_at m reading) in
    step-cases (λ d. fin.get d.0.snaps q ≡ Some new → IsMade m account (moment_at m reading) p new) m account reading (RunPolicy key)
    (λ own tests e. subst (λ (p : Policy). IsMade m account (moment_at m reading) p new) (some_is own p (sym tests.found ∙ there)) (by own tests.owned (run-leaves at key own q) e))
    (λ refusal e. absurd (none_some (sym none ∙ e)))
  where
    made : (own : Policy) (s : Snapshot) (row : SnapRow) → account ≡ key.account → IsCounted (advance m (moment_at m reading)) key own q s → row ≡ record s.row { policy = row.policy; bin_end = row.bin_end } → rewritten row s ≡ new
        → IsMade m account (moment_at m reading) own new
    made own s row mine (standing is) same e = absurd (none_some (sym none ∙ is))
    made own s row mine (begun h) same e = subst (IsMade m account (moment_at m reading) own) e (made-of-volume m account (moment_at m reading) key own q s row mine h same)

    by : (own : Policy) → account ≡ key.account → {o : Option Snapshot} → RunLeaves (advance m (moment_at m reading)) key own q o → o ≡ Some new → IsMade m account (moment_at m reading) own new
    by own mine (none_there out e) f = absurd (none_some (sym e ∙ f))
    by own mine (stays s c e) f = made own s s.row mine c refl (some_is s new (sym e ∙ f))
    by own mine (frees s c g l e) f = made own s (freed s.row) mine c refl (some_is _ new (sym e ∙ f))
    by own mine (bins s days c g l t d e) f = made own s _ mine c refl (some_is _ new (sym e ∙ f))
    by own mine (takes s c g l t d e) f = absurd (none_some (sym e ∙ f))

-- the keys that are given, one after another
record IsGiven (first : SnapKey) (volumes : List (VolKey × VolRow)) (id : AnyKey) : Type 0 where
  number : ℕ
  is : id ≡ Snap (record { account = first.account; number = number })
  above : first.number ≤ number
  below : number < first.number + length volumes

given-in : (first : SnapKey) (volumes : List (VolKey × VolRow)) (id : AnyKey) → IsIn (map Snap (new_keys first volumes)) id → IsGiven first volumes id
given-in first [] id h = absurd h
given-in first (v ∷ volumes) id (inl same) = record { number = first.number; is = sym same; above = omega arith; below = omega arith }
given-in first (v ∷ volumes) id (inr later) =
    let h = given-in (following first) volumes id later in
    let above = h.above in
    let below = h.below in
    record { number = h.number; is = h.is; above = omega (arith, above); below = omega (arith, below) }

made_are : {a b c d : List AnyKey} → PolicyRan a b ≡ PolicyRan c d → d ≡ b
made_are e = cc

pub gives-numbers : RunGivesNumbers
gives-numbers m account reading key deleted made id =
    let at = advance m (moment_at m reading) in
    step-cases (λ d. d.1 ≡ PolicyRan deleted made → IsIn made id → (number : ℕ) × (id ≡ Snap (record { account = account; number = number })) × (next_number m account ≤ number) × (number < next_number d.0 account)) m account reading (RunPolicy key)
    (λ p tests e there.
    let h = given-in (next_key (rows_of at) account) (due_targets (rows_of at) key p at.clock.second) id (subst (λ (ids : List AnyKey). IsIn ids id) (made_are e) there) in
    let more : (own_in (ran at key p).own key.account).next_snap ≡ (own_of at key.account).next_snap + length (due_targets (rows_of at) key p at.clock.second) = new-next (rows_of at) at.clock key p (due_targets (rows_of at) key p at.clock.second) in
    let count = subst (λ (a : ℕ). (own_in (ran at key p).own a).next_snap ≡ (own_of at a).next_snap + length (due_targets (rows_of at) key p at.clock.second)) (sym tests.owned) more in
    let was = numbered (fin.get m.own account) in
    let now = numbered (fin.get (ran at key p).own account) in
    let above = h.above in
    let below = h.below in
    (h.number, h.is, omega (arith, above, was), omega (arith, below, count, now)))
    (λ refusal e there. cc)

-- ---- a run again

-- after a run its moment is the policy's last
ran-last : (m : Machine) (account : ℕ) (reading : Moment) (key : PolicyKey) (p : Policy) (deleted made : List AnyKey) → fin.get m.policies key ≡ Some p
    → (step m account reading (RunPolicy key)).1 ≡ PolicyRan deleted made → fin.get (step m account reading (RunPolicy key)).0.policies key ≡ Some (record p { last = moment_at m reading })
ran-last m account reading key p deleted made there =
    let at = advance m (moment_at m reading) in
    step-cases (λ d. d.1 ≡ PolicyRan deleted made → fin.get d.0.policies key ≡ Some (record p { last = moment_at m reading })) m account reading (RunPolicy key)
    (λ own tests e.
    get-itself policies_total exact_policies m.policies key (record own { last = moment_at m reading })
    ∙ ap (λ (p : Policy). Some (record p { last = moment_at m reading })) (some_is own p (sym tests.found ∙ there)))
    (λ refusal e. cc)

-- whole intervals that have passed come to no more than what has passed
whole-part : (n d : ℕ) → n / d * d ≤ n
whole-part n d = omega arith

pub not_due : (p : Policy) (since now : ℕ) → NoneDueBetween p since now → is_due p since now ≡ false
not_due p since now none = by (nat_le p.at now) refl
  where
    late : nat_le p.at now ≡ true → nat_lt since (latest_due p now) ≡ false
    late t =
        let begun : p.at ≤ now = grind (arith, nat_tests) in
        let part = whole-part (now - p.at) (interval p) in
        let most : latest_due p now ≤ now = omega (arith, begun, part) in
        let within : latest_due p now ≤ since = none (latest_due p now) ((now - p.at) / interval p, refl) most in
        grind (arith, nat_tests)

    by : (b : Bool) → nat_le p.at now ≡ b → (b && nat_lt since (latest_due p now)) ≡ false
    by true t = late t
    by false t = refl

pub made_is : {a b c d : List AnyKey} → PolicyRan a b ≡ PolicyRan c d → b ≡ d
made_is e = cc

pub again-nothing : RunAgainMakesNothing
again-nothing m account reading later key p deleted made ended made_again there first none =
    let n = (step m account reading (RunPolicy key)).0 in
    let at = advance n (moment_at n later) in
    step-cases (λ d. d.1 ≡ PolicyRan ended made_again → made_again ≡ []) n account later (RunPolicy key)
    (λ own tests e.
    let same : record p { last = moment_at m reading } ≡ own = some_is _ own (sym (ran-last m account reading key p deleted made there first) ∙ tests.found) in
    let due : is_due own own.last.second (second_of n later) ≡ false = subst (λ (o : Policy). is_due o o.last.second (second_of n later) ≡ false) same (not_due p (second_of m reading) (second_of n later) none) in
    sym (made_is e) ∙ ap (λ (b : Bool). map Snap (new_keys (next_key (rows_of at) account) (cond b (targets (rows_of at) key.account own) []))) due)
    (λ refusal e. cc)

-- ---- a policy itself

pub created-as-asked : CreatedPolicyIsAsAsked
created-as-asked m account reading targets hours time retain add created key last =
    let now = moment_at m reading in
    let at = advance m now in
    let given : PolicyKey = next_own_policy m account in
    let new : PolicyKey → Policy = λ key. record { key = key; targets = targets; hours = hours; at = time; retain = retain; add = add; last = now } in
    step-cases (λ d. d.1 ≡ PolicyShown created key last → (created ≡ true) × (key ≡ given) × (last ≡ now) × OnePolicy at d.0 key (Some (new key))) m account reading (CreatePolicy targets hours time retain add)
    (λ good e.
    let same : given ≡ key = shown_key e in (
      sym (shown_created e),
      sym same,
      sym (shown_last e),
      subst (λ (k : PolicyKey). OnePolicy at (with_policy at account targets hours time retain add) k (Some (new k))) same (record {
        is = get-itself policies_total exact_policies m.policies given (new given);
        other_policies = λ other apart. get-other policies_total exact_policies m.policies given (new given) other apart;
        snapshots = refl;
        volumes = refl;
        disks = refl;
        rules = refl;
        tokens = refl;
      }),
    ))
    (λ refusal e. cc)
  where
    shown_key : {a b : Bool} {k l : PolicyKey} {x y : Moment} → PolicyShown a k x ≡ PolicyShown b l y → k ≡ l
    shown_key e = cc

    shown_created : {a b : Bool} {k l : PolicyKey} {x y : Moment} → PolicyShown a k x ≡ PolicyShown b l y → a ≡ b
    shown_created e = cc

    shown_last : {a b : Bool} {k l : PolicyKey} {x y : Moment} → PolicyShown a k x ≡ PolicyShown b l y → x ≡ y
    shown_last e = cc

pub deleted-leaves : DeletedPolicyLeavesSnapshots
deleted-leaves m account reading key =
    let at = advance m (moment_at m reading) in
    step-cases (λ d. d.1 ≡ Done → (key.account ≡ account) × OnePolicy at d.0 key None) m account reading (DeletePolicy key)
    (λ p owned there e. (
      sym owned,
      record {
        is = get-gone policies_total exact_policies m.policies key;
        other_policies = λ other apart. get-left policies_total exact_policies m.policies key other apart;
        snapshots = refl;
        volumes = refl;
        disks = refl;
        rules = refl;
        tokens = refl;
      },
    ))
    (λ refusal e. cc)
