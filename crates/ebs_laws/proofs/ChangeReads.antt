-- The token of a listed change reads the block of its snapshot.
use Rattle.std.proofs.Common.{◌≡◌, inl, inr, ℕ, ◌+◌, ◌<◌, arith, List, Option, Some, None, Ok, sym, ap, subst, ◌∙◌, refl, map, take}
use Rattle.std.proofs.lemmas.List.Elements.{All-contains, All-from_recursion}
use Rattle.std.specs.List.{AllByRecursion, Contains}
use Rattle.std.specs.FinMap as fin
use Rattle.sha2.specs.Sha256.{sha256}
use Rattle.ebs_model.specs.declared.keys.SnapKey.{SnapKey}
use Rattle.ebs_model.specs.declared.keys.Moment.{Moment}
use Rattle.ebs_model.specs.declared.entries.ChangedToken.{ChangedToken}
use Rattle.ebs_model.specs.declared.request.Request.TheVariants.{ListChangedBlocks, GetSnapshotBlock}
use Rattle.ebs_model.specs.declared.answer.Answer.TheVariants.{ChangedList, BlockRead}
use Rattle.ebs_model.specs.Arrays.{WholeBlock, WholeArray}
use Rattle.ebs_model.specs.Time.{Snapshot}
use Rattle.ebs_model.specs.Access.{ready}
use Rattle.ebs_model.specs.Machine.{Machine, advance, moment_of, empty_machine}
use Rattle.ebs_model.specs.Calls.List.{block_life, token_of, changed_entry}
use Rattle.ebs_model.specs.Step.{step}
use Rattle.ebs_model.specs.Timed.{Timed, after_all}
use Rattle.ebs_laws.specs.Puts.{block_at}
use Rattle.ebs_laws.specs.Pages.{HasToken}
use Rattle.ebs_laws.proofs.Cases.{Outcome, step-cases}
use Rattle.ebs_laws.proofs.ListReads.{IsListed, token-later}
use Rattle.ebs_laws.proofs.Elements.{IsChange, all-shown, all-taken, changes-found}
use Rattle.ebs_listing.proofs.Ascending.{all-mapped}
use Rattle.ebs_laws.proofs.Whole.{changes_of}

-- each token that an entry has is the token of a block that is there
abbrev IsMarked : List ℕ → SnapKey → ℕ → WholeArray → ℕ → Option (List ℕ) → Type 0
IsMarked secret key now array index held = (token : List ℕ) → held ≡ Some token → IsListed secret key now array (record { index = index; token = token })

marked : (secret : List ℕ) (key : SnapKey) (now : ℕ) (array : WholeArray) (index : ℕ) (o : Option WholeBlock) → o ≡ fin.get array index → IsMarked secret key now array index (token_of secret key now index o)
marked secret key now array index None is token e = cc
marked secret key now array index (Some block) is token e = (block, sym is, cc)

module _ (secret : List ℕ) (first second : SnapKey) (now : ℕ) (a b : Snapshot) where
  abbrev Marked : ChangedToken → Type 0
  Marked e = IsMarked secret first now a.array e.index e.first × IsMarked secret second now b.array e.index e.second

  all-marked : (most index : ℕ) → AllByRecursion Marked (map (changed_entry secret first second now) (take most (changes_of a b index)))
  all-marked most index =
      all-shown Marked (changed_entry secret first second now) _ (all-taken _ most _ (all-mapped (IsChange (λ b. b.stamp) a.array b.array) _
      (λ p h. (marked secret first now a.array p.index p.first h.0.0, marked secret second now b.array p.index p.second h.0.1))
      (changes_of a b index) (changes-found (λ b. b.stamp) a.array b.array index)))

-- what a list of changes was made of
record Compares (m : Machine) (answered : Machine) (account : ℕ) (first second : SnapKey) (entries : List ChangedToken) (expiry : Moment) : Type 0 where
  a : Snapshot
  b : Snapshot
  a_is : fin.get m.snaps first ≡ Some a
  b_is : fin.get m.snaps second ≡ Some b
  a_ready : ready account first m.clock.second a.row ≡ Ok tt
  b_ready : ready account second m.clock.second b.row ≡ Ok tt
  each : AllByRecursion (Marked m.secret first second m.clock.second a b) entries
  ends : expiry.second ≡ m.clock.second + block_life
  leaves : answered ≡ m

abbrev Compares_if : Machine → ℕ → SnapKey → SnapKey → List ChangedToken → Moment → Option (List ℕ) → ℕ → Outcome → Type 0
Compares_if m account first second entries expiry next size d = d.1 ≡ ChangedList entries expiry next size → Compares m d.0 account first second entries expiry

compare-step : (m : Machine) (account : ℕ) (reading : Moment) (first second : SnapKey) (page : Option (List ℕ)) (most start : ℕ) (entries : List ChangedToken) (expiry : Moment) (next : Option (List ℕ)) (size : ℕ)
    → let d = step m account reading (ListChangedBlocks first second page most start) in d.1 ≡ ChangedList entries expiry next size → Compares (advance m (moment_of m reading)) d.0 account first second entries expiry
compare-step m account reading first second page most start entries expiry next size =
    let at = advance m (moment_of m reading) in
    step-cases (Compares_if at account first second entries expiry next size) m account reading (ListChangedBlocks first second page most start)
    (λ a b index tests e.
    let same : map (changed_entry m.secret first second at.clock.second) (take most (changes_of a b index)) ≡ entries = cc in
    let end : at.clock.second + block_life ≡ expiry.second = cc in
    record {
      a = a;
      b = b;
      a_is = tests.first_is;
      b_is = tests.second_is;
      a_ready = tests.first_ready;
      b_ready = tests.second_ready;
      each = subst (λ l. AllByRecursion (Marked m.secret first second at.clock.second a b) l) same (all-marked m.secret first second at.clock.second a b most index);
      ends = sym end;
      leaves = refl;
    })
    (λ refusal e. cc)

pub change-runs : (secret : List ℕ) (before after : List Timed) (account reader : ℕ) (reading then : Moment) (first second : SnapKey) (page : Option (List ℕ)) (most start : ℕ)
    (entries : List ChangedToken) (expiry : Moment) (next : Option (List ℕ)) (size : ℕ) (e : ChangedToken) (key : SnapKey) (token : List ℕ) (s : Snapshot)
    → let list = step (after_all (empty_machine secret) before) account reading (ListChangedBlocks first second page most start) in
    let later = after_all list.0 after in let at = advance later (moment_of later then) in
    list.1 ≡ ChangedList entries expiry next size → Contains entries e → HasToken first second e key token → at.clock.second < expiry.second
    → fin.get at.snaps key ≡ Some s → ready reader key at.clock.second s.row ≡ Ok tt
    → (block : WholeBlock) × (block_at list.0 key e.index ≡ Some block)
    × (step later reader then (GetSnapshotBlock key e.index token) ≡ (at, BlockRead (sha256 block.bytes) block.bytes))
change-runs secret before after account reader reading then first second page most start entries expiry next size e key token s compared has which early is passes =
    let m = after_all (empty_machine secret) before in
    let at = advance m (moment_of m reading) in
    let request = ListChangedBlocks first second page most start in
    let lists = compare-step m account reading first second page most start entries expiry next size compared in
    let made = Marked at.secret first second at.clock.second lists.a lists.b in
    let each : made e = All-contains made entries e (All-from_recursion made entries lists.each) has in
    let ends = lists.ends in
    by lists each (omega (arith, early, ends)) which
  where
    by : let m = after_all (empty_machine secret) before in let at = advance m (moment_of m reading) in let list = step m account reading (ListChangedBlocks first second page most start) in
        let later = after_all list.0 after in let now = advance later (moment_of later then) in
        (lists : Compares at list.0 account first second entries expiry) → Marked at.secret first second at.clock.second lists.a lists.b e → now.clock.second < at.clock.second + block_life → HasToken first second e key token
        → (block : WholeBlock) × (block_at list.0 key e.index ≡ Some block) × (step later reader then (GetSnapshotBlock key e.index token) ≡ (now, BlockRead (sha256 block.bytes) block.bytes))
    by lists each early (inl (same, held)) =
        let m = after_all (empty_machine secret) before in
        let at = advance m (moment_of m reading) in
        let made = IsListed at.secret key at.clock.second lists.a.array (record { index = e.index; token = token }) in
        token-later secret before after account reader reading then (ListChangedBlocks first second page most start) key (record { index = e.index; token = token }) lists.a s lists.leaves
        (ap (fin.get at.snaps) same ∙ lists.a_is) (ap (λ k. ready account k at.clock.second lists.a.row) same ∙ lists.a_ready)
        (subst (λ k. IsListed at.secret k at.clock.second lists.a.array (record { index = e.index; token = token })) (sym same) (each.0 token held)) early is passes
    by lists each early (inr (same, held)) =
        let m = after_all (empty_machine secret) before in
        let at = advance m (moment_of m reading) in
        token-later secret before after account reader reading then (ListChangedBlocks first second page most start) key (record { index = e.index; token = token }) lists.b s lists.leaves
        (ap (fin.get at.snaps) same ∙ lists.b_is) (ap (λ k. ready account k at.clock.second lists.b.row) same ∙ lists.b_ready)
        (subst (λ k. IsListed at.secret k at.clock.second lists.b.array (record { index = e.index; token = token })) (sym same) (each.1 token held)) early is passes
