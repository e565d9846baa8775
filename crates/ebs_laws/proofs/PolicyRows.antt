-- Which policies there are, and what is shown of them.
use Rattle.std.proofs.Common.{◌≡◌, ◌≢◌, ℕ, ◌+◌, ◌≤◌, ◌<◌, ◌==◌, ◌&&◌, Bool, true, false, cond, List, [], ◌∷◌, Option, Some, None, unwrap_or, sym, ap, subst, ◌∙◌, refl, arith}
use Rattle.std.specs.FinMap as fin
use Rattle.std.specs.FinMap.{nat_cmp-IsAntisymmetric}
use Rattle.std.specs.Cmp.{nat_cmp_total}
use Rattle.ebs_model.specs.declared.keys.PolicyKey.{PolicyKey}
use Rattle.ebs_model.specs.declared.keys.Moment.{Moment}
use Rattle.ebs_model.specs.declared.keys.VolKey.{VolKey}
use Rattle.ebs_model.specs.declared.rows.VolRow.{VolRow}
use Rattle.ebs_model.specs.declared.rows.Own.{Own}
use Rattle.ebs_model.specs.declared.tags.Tag.{Tag}
use Rattle.ebs_model.specs.declared.policy.Policy.{Policy}
use Rattle.ebs_model.specs.declared.policy.Retain.{Retain}
use Rattle.ebs_model.specs.declared.request.Request.{Request}
use Rattle.ebs_model.specs.declared.request.Request.TheVariants.{StartSnapshot, PutSnapshotBlock, CompleteSnapshot, CreatePolicy, GetPolicy, DeletePolicy, RunPolicy}
use Rattle.ebs_model.specs.declared.answer.Answer.TheVariants.{PolicyShown, Refused}
use Rattle.ebs_model.specs.declared.answer.Refusal.{Refusal}
use Rattle.ebs_model.specs.Keys.{policy_cmp}
use Rattle.ebs_model.specs.inner.Orders.{policies_total, exact_policies}
use Rattle.ebs_model.specs.Rows as model_rows
use Rattle.ebs_model.specs.Rows.{Rows, no_own}
use Rattle.ebs_model.specs.Machine.{Machine, advance, empty_machine, rows_of}
use Rattle.ebs_model.specs.Calls.Start.{next_key, with_upload}
use Rattle.ebs_model.specs.Calls.Run.{run_row, with_new}
use Rattle.ebs_model.specs.Step.{settled, step}
use Rattle.ebs_model.specs.Timed.{Timed, turn, after_all}
use Rattle.ebs_laws.specs.Words.{moment_at}
use Rattle.ebs_laws.specs.AccessLaws.{IsAccepted}
use Rattle.ebs_laws.specs.PolicyRows.{policy_number_in, next_policy_number, PoliciesGiven, PoliciesStayGiven, RunsGivePolicies, PolicyNumbersNeverFall, CreatedPolicyIsNew, CreatesPolicy, CreatedPoliciesDiffer, AsksNoPolicy, has_run, last_run, PolicyStays, OwnerIsShownPolicy, ShownPolicyIsTheRow, CreatedPolicyIsShown}
use Rattle.ebs_laws.specs.PolicyLaws.{next_own_policy}
use Rattle.ebs_laws.proofs.Acts.{call-whole}
use Rattle.ebs_laws.proofs.Cases.{Outcome, Accepted, step-cases}
use Rattle.ebs_laws.proofs.Given.{kept_by_run}
use Rattle.ebs_laws.proofs.Others.{others}
use Rattle.ebs_laws.proofs.Maps.{get-itself, get-other, get-left, by_key, was-left}
use Rattle.ebs_laws.proofs.PolicyLaws.{created-as-asked}
use Rattle.ebs_laws.proofs.PolicyRuns.{some_is, new-own-other, due_volumes}
use Rattle.ebs_laws.proofs.Readers.{number_is, same_number}
use Rattle.ebs_laws.proofs.Whole.{own_of, with_policy, ran}

-- the next number, as the machine says it
policy-numbered : (o : Option Own) → policy_number_in o ≡ (unwrap_or o no_own).next_policy
policy-numbered None = refl
policy-numbered (Some own) = refl

-- what a run makes leaves the numbers of policies
new-policy-number : (rows : Rows) (at : Moment) (key : PolicyKey) (p : Policy) (volumes : List (VolKey × VolRow)) → (model_rows.own_of (with_new rows at key p volumes) key.account).next_policy ≡ (model_rows.own_of rows key.account).next_policy
new-policy-number rows at key p [] = refl
new-policy-number rows at key p (e ∷ volumes) =
    let first = next_key rows key.account in
    new-policy-number (with_upload rows first (run_row at first key p e)) at key p volumes
    ∙ ap (λ (o : Option Own). (unwrap_or o no_own).next_policy) (get-itself nat_cmp_total nat_cmp-IsAntisymmetric rows.own key.account (record (model_rows.own_of rows key.account) { next_snap = first.number + 1 }))

module _ (m : Machine) where
  -- other numbers are given out without those of policies
  numbers-same : (caller : ℕ) (own : Own) → own.next_policy ≡ (own_of m caller).next_policy → (a : ℕ) → policy_number_in (fin.get (fin.insert m.own caller own) a) ≡ next_policy_number m a
  numbers-same caller own same a = by_key nat_cmp_total nat_cmp-IsAntisymmetric (policy_number_in (fin.get (fin.insert m.own caller own) a) ≡ next_policy_number m a) a caller
      (λ one. ap (λ a. policy_number_in (fin.get (fin.insert m.own caller own) a)) one ∙ ap policy_number_in (get-itself nat_cmp_total nat_cmp-IsAntisymmetric m.own caller own) ∙ same ∙ sym (policy-numbered (fin.get m.own caller)) ∙ ap (next_policy_number m) (sym one))
      (λ other. ap policy_number_in (get-other nat_cmp_total nat_cmp-IsAntisymmetric m.own caller own a other))

  run-same : (key : PolicyKey) (p : Policy) (a : ℕ) → next_policy_number (ran m key p) a ≡ next_policy_number m a
  run-same key p a = by_key nat_cmp_total nat_cmp-IsAntisymmetric (next_policy_number (ran m key p) a ≡ next_policy_number m a) a key.account
      (λ one. ap (next_policy_number (ran m key p)) one ∙ policy-numbered (fin.get (ran m key p).own key.account) ∙ new-policy-number (rows_of m) m.clock key p (due_volumes m key p) ∙ sym (policy-numbered (fin.get m.own key.account)) ∙ ap (next_policy_number m) (sym one))
      (λ other. ap policy_number_in (new-own-other (rows_of m) m.clock key p a other (due_volumes m key p)))

  module _ (caller : ℕ) (targets : List Tag) (hours at : ℕ) (retain : Retain) (add : List Tag) where
    abbrev made_key : PolicyKey
    made_key = next_own_policy m caller

    abbrev new : Machine
    new = with_policy m caller targets hours at retain add

    -- a creation raises its account's number by one, and no other
    next-is : next_policy_number new caller ≡ made_key.number + 1
    next-is = ap policy_number_in (get-itself nat_cmp_total nat_cmp-IsAntisymmetric m.own caller (record (own_of m caller) { next_policy = made_key.number + 1 }))

    raised : (a : ℕ) → next_policy_number m a ≤ next_policy_number new a
    raised a = by_key nat_cmp_total nat_cmp-IsAntisymmetric (next_policy_number m a ≤ next_policy_number new a) a caller
        (λ one.
        let was = policy-numbered (fin.get m.own caller) in
        let old = ap (next_policy_number m) one in
        let is = ap (next_policy_number new) one ∙ next-is in
        omega (arith, was, old, is))
        (λ other. let same = ap policy_number_in (get-other nat_cmp_total nat_cmp-IsAntisymmetric m.own caller (record (own_of m caller) { next_policy = made_key.number + 1 }) a other) in omega (arith, same))

    created-given : PoliciesGiven m → PoliciesGiven new
    created-given h k p e = by_key policies_total exact_policies (k.number < next_policy_number new k.account) k made_key
        (λ same. subst (λ (k : PolicyKey). k.number < next_policy_number new k.account) (sym same) (omega (arith, next-is)))
        (λ other. let was = h k p (sym (get-other policies_total exact_policies m.policies made_key _ k other) ∙ e) in let more = raised k.account in omega (arith, was, more))

  -- numbers of policies are given out in ascending order, and none comes back
  abbrev Above : ℕ → Outcome → Type 0
  Above account d = next_policy_number m account ≤ next_policy_number d.0 account

  above-accepted : (account caller : ℕ) (request : Request) → Accepted (Above account) m caller request
  above-accepted account caller (StartSnapshot size parent text tags token timeout) = (
    λ from tests. let same = numbers-same caller (record (own_of m caller) { next_snap = (own_of m caller).next_snap + 1 }) refl account in omega (arith, same),
    λ row tests. omega arith,
  )
  above-accepted account caller (PutSnapshotBlock k index digest bytes) = λ s is passes tests. omega arith
  above-accepted account caller (CompleteSnapshot k count checksum) = λ s is passes tests. omega arith
  above-accepted account caller (CreatePolicy targets hours at retain add) = λ good. raised caller targets hours at retain add account
  above-accepted account caller (DeletePolicy key) = λ p owned there. omega arith
  above-accepted account caller (RunPolicy key) = λ p tests. let same = run-same key p account in omega (arith, same)
  above-accepted account caller request = others (Above account) m caller request (λ answer says. omega arith) (λ k s row answer is same says. omega arith) (λ k s answer is same says. omega arith)
      (λ v row array token answer is says. let same = numbers-same v.account (record (own_of m v.account) { next_vol = v.number + 1 }) refl account in omega (arith, same))
      (λ v row answer there is says. omega arith)
      (λ v row text tags is made. let same = numbers-same caller (record (own_of m caller) { next_snap = (own_of m caller).next_snap + 1 }) refl account in omega (arith, same))
      (λ v row i digest bytes is asked. omega arith) (λ command change answer is says. omega arith) (λ snaps own policies answer is says. absurd is.on_policy)

  -- each policy's number was given out
  given-same : PoliciesGiven m → (caller : ℕ) (own : Own) → own.next_policy ≡ (own_of m caller).next_policy → (k : PolicyKey) (p : Policy) → fin.get m.policies k ≡ Some p → k.number < policy_number_in (fin.get (fin.insert m.own caller own) k.account)
  given-same h caller own stays k p e = let was = h k p e in let same = numbers-same caller own stays k.account in omega (arith, was, same)

  given-accepted : PoliciesGiven m → (caller : ℕ) (request : Request) → Accepted (λ d. PoliciesGiven d.0) m caller request
  given-accepted h caller (StartSnapshot size parent text tags token timeout) = (
    λ from tests. given-same h caller (record (own_of m caller) { next_snap = (own_of m caller).next_snap + 1 }) refl,
    λ row tests. h,
  )
  given-accepted h caller (PutSnapshotBlock k index digest bytes) = λ s is passes tests. h
  given-accepted h caller (CompleteSnapshot k count checksum) = λ s is passes tests. h
  given-accepted h caller (CreatePolicy targets hours at retain add) = λ good. created-given caller targets hours at retain add h
  given-accepted h caller (DeletePolicy key) = λ p owned there k x e. h k x (was-left policies_total (λ o. o) refl m.policies key k x e)
  given-accepted h caller (RunPolicy key) = λ p tests k x e.
      let same = run-same key p k.account in
      by_key policies_total exact_policies (k.number < next_policy_number (ran m key p) k.account) k key
      (λ one. let was = h k p (ap (fin.get m.policies) one ∙ tests.found) in omega (arith, was, same))
      (λ other. let was = h k x (sym (get-other policies_total exact_policies m.policies key _ k other) ∙ e) in omega (arith, was, same))
  given-accepted h caller request = others (λ d. PoliciesGiven d.0) m caller request (λ answer says. h) (λ k s row answer is same says. h) (λ k s answer is same says. h)
      (λ v row array token answer is says. given-same h v.account (record (own_of m v.account) { next_vol = v.number + 1 }) refl)
      (λ v row answer there is says. h)
      (λ v row text tags is made. given-same h caller (record (own_of m caller) { next_snap = (own_of m caller).next_snap + 1 }) refl)
      (λ v row i digest bytes is asked. h) (λ command change answer is says. h) (λ snaps own policies answer is says. absurd is.on_policy)

  -- a policy stays as it is until its owner's accepted deletion, but for its last run
  module _ (key : PolicyKey) (p : Policy) (h : fin.get m.policies key ≡ Some p) (below : key.number < next_policy_number m key.account) where
    abbrev After : Bool → Option Policy
    After b = Some (record p { last = cond b m.clock p.last })

    abbrev Kept : ℕ → Request → Outcome → Type 0
    Kept caller request d = (AsksNoPolicy key request → caller ≡ key.account → IsAccepted d.1 → ⊥) → fin.get d.0.policies key ≡ After (has_run key request d.1)

    itself : (k : PolicyKey) → key ≡ k → ((k.account == key.account) && (k.number == key.number)) ≡ true
    itself k same = λ i. number_is k.account key.account (ap (λ (k : PolicyKey). k.account) (sym same)) i && number_is k.number key.number (ap (λ (k : PolicyKey). k.number) (sym same)) i

    another : (k : PolicyKey) → key ≢ k → ((k.account == key.account) && (k.number == key.number)) ≡ false
    another k apart = by (k.account == key.account) (k.number == key.number) refl refl
      where
        by : (a b : Bool) → (k.account == key.account) ≡ a → (k.number == key.number) ≡ b → (a && b) ≡ false
        by true true s t = absurd (apart (λ i. record { account = sym (same_number k.account key.account s) i; number = sym (same_number k.number key.number t) i }))
        by true false s t = refl
        by false b s t = refl

    kept-accepted : (caller : ℕ) (request : Request) → Accepted (Kept caller request) m caller request
    kept-accepted caller (StartSnapshot size parent text tags token timeout) = (λ from tests none. h, λ row tests none. h)
    kept-accepted caller (PutSnapshotBlock k index digest bytes) = λ s is passes tests none. h
    kept-accepted caller (CompleteSnapshot k count checksum) = λ s is passes tests none. h
    kept-accepted caller (CreatePolicy targets hours at retain add) = λ good none.
        get-other policies_total exact_policies m.policies (next_own_policy m caller) _ key
        (λ same.
        let number = ap (λ (k : PolicyKey). k.number) same in
        let next = ap (λ (k : PolicyKey). next_policy_number m k.account) same in
        let was = policy-numbered (fin.get m.own caller) in
        absurd (omega (arith, number, next, was, below)))
        ∙ h
    kept-accepted caller (DeletePolicy k) = λ old owned there none.
        get-left policies_total exact_policies m.policies k key (λ same. none (sym same) (owned ∙ ap (λ (k : PolicyKey). k.account) (sym same)) (λ r e. cc)) ∙ h
    kept-accepted caller (RunPolicy k) = λ old tests none.
        by_key policies_total exact_policies (fin.get (ran m k old).policies key ≡ After ((k.account == key.account) && (k.number == key.number))) key k
        (λ same.
        ap (fin.get (ran m k old).policies) same ∙ get-itself policies_total exact_policies m.policies k (record old { last = m.clock })
        ∙ ap (λ (x : Policy). Some (record x { last = m.clock })) (some_is old p (sym tests.found ∙ ap (fin.get m.policies) (sym same) ∙ h)) ∙ ap After (sym (itself k same)))
        (λ other. get-other policies_total exact_policies m.policies k (record old { last = m.clock }) key other ∙ h ∙ ap After (sym (another k other)))
    kept-accepted caller request = others (Kept caller request) m caller request (λ answer says none. h) (λ k s row answer is same says none. h) (λ k s answer is same says none. h) (λ v row array token answer is says none. h) (λ v row answer there is says none. h)
        (λ v row text tags is made none. h) (λ v row i digest bytes is asked none. h) (λ command change answer is says none. h) (λ snaps own policies answer is says. absurd is.on_policy)

    no-run : (request : Request) (r : Refusal) → has_run key request (Refused r) ≡ false
    no-run (RunPolicy k) r = refl
    no-run request r = refl

pub above-policies : (m : Machine) (t : Timed) (account : ℕ) → next_policy_number m account ≤ next_policy_number (turn m t).0 account
above-policies m t account =
    let at = advance m (moment_at m t.reading) in
    step-cases (Above at account) m t.call.account t.reading t.call.request (above-accepted at account t.call.account t.call.request) (λ refusal. omega arith)

pub policies-never-fall : PolicyNumbersNeverFall
policies-never-fall m [] account = omega arith
policies-never-fall m (t ∷ ts) account =
    let one = above-policies m t account in
    let more = policies-never-fall (turn m t).0 ts account in
    omega (arith, one, more)

pub policies-given : PoliciesStayGiven
policies-given m account reading request h =
    let at = advance m (moment_at m reading) in
    step-cases (λ d. PoliciesGiven d.0) m account reading request (given-accepted at h account request) (λ refusal. h)

policies-empty : (secret : List ℕ) → PoliciesGiven (empty_machine secret)
policies-empty secret key p e = absurd (none_some (sym (fin.get-empty {X = Policy} policy_cmp key) ∙ e))
  where
    none_some : None ≡ Some p → ⊥
    none_some e = cc

pub policies-run : RunsGivePolicies
policies-run secret turns = kept_by_run (λ m. PoliciesGiven m) (λ m t. policies-given m t.call.account t.reading t.call.request) turns (empty_machine secret) (policies-empty secret)

-- what a creation gives out
module _ (m : Machine) (account : ℕ) (reading : Moment) (targets : List Tag) (hours time : ℕ) (retain : Retain) (add : List Tag) (created : Bool) (key : PolicyKey) (last : Moment) where
  abbrev result : Outcome
  result = step m account reading (CreatePolicy targets hours time retain add)

  shown_key : {a b : Bool} {k l : PolicyKey} {x y : Moment} → PolicyShown a k x ≡ PolicyShown b l y → k ≡ l
  shown_key e = cc

  number-given : result.1 ≡ PolicyShown created key last → (key.account ≡ account) × (key.number ≡ next_policy_number m account) × (next_policy_number result.0 account ≡ key.number + 1)
  number-given =
      let at = advance m (moment_at m reading) in
      step-cases (λ d. d.1 ≡ PolicyShown created key last → (key.account ≡ account) × (key.number ≡ next_policy_number m account) × (next_policy_number d.0 account ≡ key.number + 1)) m account reading (CreatePolicy targets hours time retain add)
      (λ good e.
      let same = shown_key e in
      subst (λ (k : PolicyKey). (k.account ≡ account) × (k.number ≡ next_policy_number m account) × (next_policy_number (with_policy at account targets hours time retain add) account ≡ k.number + 1)) same
      (refl, sym (policy-numbered (fin.get m.own account)), next-is at account targets hours time retain add))
      (λ refusal e. cc)

  is-free : PoliciesGiven m → key.account ≡ account → key.number ≡ next_policy_number m account → fin.get m.policies key ≡ None
  is-free given mine number = by (fin.get m.policies key) refl
    where
      by : (o : Option Policy) → fin.get m.policies key ≡ o → o ≡ None
      by None is = refl
      by (Some p) is =
          let below = given key p is in
          let next = ap (next_policy_number m) mine in
          absurd (omega (arith, below, number, next))

pub created-new : CreatedPolicyIsNew
created-new m account reading targets hours time retain add created key last given e =
    let (mine, number, next) = number-given m account reading targets hours time retain add created key last e in
    (mine, number, next, is-free m account reading targets hours time retain add created key last given mine number)

-- an id that is given out is its account's next, and the next number is above it afterwards
gives-turn : (m : Machine) (t : Timed) (key : PolicyKey) → CreatesPolicy m t key → (key.number ≡ next_policy_number m key.account) × (key.number < next_policy_number (turn m t).0 key.account)
gives-turn m t key c =
    let (mine, number, next) = number-given m t.call.account t.reading c.targets c.hours c.at c.retain c.add c.created key c.last (ap (λ (r : Request). (step m t.call.account t.reading r).1) (sym c.request_is) ∙ c.answer_is) in
    let was = ap (next_policy_number m) mine in
    let is = ap (next_policy_number (turn m t).0) mine in
    let same : next_policy_number (turn m t).0 t.call.account ≡ next_policy_number (step m t.call.account t.reading (CreatePolicy c.targets c.hours c.at c.retain c.add)).0 t.call.account = ap (λ (r : Request). next_policy_number (step m t.call.account t.reading r).0 t.call.account) c.request_is in
    (omega (arith, number, was), omega (arith, next, is, same))

pub policies-differ : CreatedPoliciesDiffer
policies-differ m first second between a b one two same =
    let (was, above) = gives-turn m first a one in
    let (is, rest) = gives-turn (after_all (turn m first).0 between) second b two in
    let more = policies-never-fall (turn m first).0 between a.account in
    let number = ap (λ (k : PolicyKey). k.number) same in
    let there = ap (λ (k : PolicyKey). next_policy_number (after_all (turn m first).0 between) k.account) same in
    omega (arith, above, is, more, number, there)

-- ---- how long a policy stays

stays-turn : (m : Machine) (t : Timed) (key : PolicyKey) (p : Policy) → PoliciesGiven m → fin.get m.policies key ≡ Some p → (AsksNoPolicy key t.call.request → t.call.account ≡ key.account → IsAccepted (turn m t).1 → ⊥)
    → fin.get (turn m t).0.policies key ≡ Some (record p { last = cond (has_run key t.call.request (turn m t).1) (moment_at m t.reading) p.last })
stays-turn m t key p given h =
    let at = advance m (moment_at m t.reading) in
    step-cases (Kept at key p h (given key p h) t.call.account t.call.request) m t.call.account t.reading t.call.request (kept-accepted at key p h (given key p h) t.call.account t.call.request)
    (λ refusal none. h ∙ ap (λ (b : Bool). Some (record p { last = cond b (moment_at m t.reading) p.last })) (sym (no-run at key p h (given key p h) t.call.request refusal)))

pub policy-stays : PolicyStays
policy-stays m [] key p given h none = h
policy-stays m (t ∷ ts) key p given h none =
    policy-stays (turn m t).0 ts key (record p { last = cond (has_run key t.call.request (turn m t).1) (moment_at m t.reading) p.last }) (policies-given m t.call.account t.reading t.call.request given) (stays-turn m t key p given h none.0) none.1

-- ---- what is shown

pub owner-shown-policy : OwnerIsShownPolicy
owner-shown-policy m account reading key p owned is =
    let at = advance m (moment_at m reading) in
    let mine = number_is account key.account owned in
    ap (settled at) (call-whole at account (GetPolicy key)) ∙ rw (mine, is) refl

pub shown-policy : ShownPolicyIsTheRow
shown-policy m account reading key created told last =
    step-cases (λ d. d.1 ≡ PolicyShown created told last → (p : Policy) × (fin.get m.policies key ≡ Some p) × (account ≡ key.account) × (created ≡ false) × (told ≡ key) × (last ≡ p.last))
    m account reading (GetPolicy key)
    (λ p owned is e. (p, is, owned, cc, cc, cc))
    (λ refusal e. cc)

pub created-shown : CreatedPolicyIsShown
created-shown m turns account reading later targets hours time retain add created key last given e none =
    let s = step m account reading (CreatePolicy targets hours time retain add) in
    let (is_new, key_is, last_is, one) = created-as-asked m account reading targets hours time retain add created key last e in
    let made : Policy = record { key = key; targets = targets; hours = hours; at = time; retain = retain; add = add; last = last } in
    let there : fin.get s.0.policies key ≡ Some made = one.is ∙ ap (λ (l : Moment). Some (record made { last = l })) (sym last_is) in
    let stays = policy-stays s.0 turns key made (policies-given m account reading (CreatePolicy targets hours time retain add) given) there none in
    let shown = owner-shown-policy (after_all s.0 turns) account later key (record made { last = last_run key s.0 turns last }) (sym (ap (λ (k : PolicyKey). k.account) key_is)) stays in
    (stays, ap (λ (d : Outcome). d.1) shown)
