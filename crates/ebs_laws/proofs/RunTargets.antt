-- The volumes that a run makes snapshots of, and the ids of these.
use Rattle.std.proofs.Common.{◌≡◌, ◌⊎◌, inl, inr, ℕ, ◌+◌, ◌-◌, ◌*◌, ◌/◌, ◌<◌, ◌≤◌, ◌&&◌, ◌==◌, nat_le, nat_lt, T, Ordering, Less, Equal, Greater, Bool, true, false, cond, List, [], ◌∷◌, map, length, Some, sym, ap, subst, ◌∙◌, refl, arith}
use Rattle.std.proofs.lemmas.Bool.{false≢true}
use Rattle.std.proofs.lemmas.Bool.Decides.{nat_tests}
use Rattle.std.proofs.lemmas.Nat.{le-div}
use Rattle.std.proofs.Math.Nat.{mul-le-mul_right}
use Rattle.std.specs.List.{AllByRecursion, filter}
use Rattle.std.specs.Cmp.Lexicographic.{same_text, nat_list_eq_equiv}
use Rattle.std.specs.Ordering.{is_lt, eq_by_cmp, ordering_then, nat_cmp, MatchOrdering}
use Rattle.std.specs.FinMap as fin
use Rattle.std.specs.FinMap.{IsAntisymmetric, find}
use Rattle.std.specs.FinMap.Entries.{is_sorted, below_all}
use Rattle.ebs_tables.proofs.MapEdits.{is_same}
use Rattle.ebs_model.specs.declared.keys.SnapKey.{SnapKey}
use Rattle.ebs_model.specs.declared.keys.VolKey.{VolKey}
use Rattle.ebs_model.specs.declared.keys.PolicyKey.{PolicyKey}
use Rattle.ebs_model.specs.declared.keys.AnyKey.TheVariants.{Snap}
use Rattle.ebs_model.specs.declared.tags.Tag.{Tag}
use Rattle.ebs_model.specs.declared.policy.Policy.{Policy}
use Rattle.ebs_model.specs.declared.rows.VolRow.{VolRow}
use Rattle.ebs_model.specs.Keys.{snap_cmp, vol_cmp}
use Rattle.ebs_model.specs.inner.Orders.{exact_vols}
use Rattle.ebs_model.specs.Machine.{Machine, rows_of}
use Rattle.ebs_model.specs.Policies.{interval, latest_due, is_due, has_tag, is_target, targets}
use Rattle.ebs_model.specs.Calls.Start.{is_same_tag}
use Rattle.ebs_model.specs.Calls.Run.{following, new_keys}
use Rattle.ebs_model.proofs.RunLaws.{among}
use Rattle.ebs_listing.proofs.Ascending.{order}
use Rattle.ebs_model.specs.Timed.{IsIn}
use Rattle.ebs_laws.specs.RunLaws.{IsTarget, IsTargetVolume, Ascend, AreTargets, IsDue}
use Rattle.ebs_laws.proofs.LongestRule.{any_of, of_any}
use Rattle.ebs_laws.proofs.PolicyRuns.{both_hold, some_is, none_some, due_volumes, IsDueTarget, due_targets-are}
use Rattle.ebs_laws.proofs.Readers.{number_is}

-- ---- lists

two_parts : (a b : Bool) → T (a && b) → T a × T b
two_parts true true h = (tt, tt)
two_parts true false h = absurd h
two_parts false b h = absurd h

-- an element of which what holds of all holds
pub record IsElement {X : Type 0} (P : X → Type 0) (K : Type 0) (key : X → K) (k : K) : Type 0 where
  pub one : X
  pub key_is : key one ≡ k
  pub known : P one

pub element : {X K : Type 0} (P : X → Type 0) (key : X → K) (xs : List X) (k : K) → AllByRecursion P xs → IsIn (map key xs) k → IsElement P K key k
element P key [] k h there = absurd there
element P key (x ∷ xs) k h (inl same) = record { one = x; key_is = same; known = h.0 }
element P key (x ∷ xs) k h (inr later) = element P key xs k h.1 later

-- keys that pass a test ascend as all do
module _ {K X : Type 0} (R : K → K → Ordering) (number : K → ℕ) (F : K × X → Bool) (lower : (a b : K × X) → F a ≡ true → F b ≡ true → T (is_lt (R a.0 b.0)) → number a.0 < number b.0) where
  abbrev numbers : List (K × X) → List ℕ
  numbers es = map number (map (λ (e : K × X). e.0) es)

  all_above : (a : K × X) → F a ≡ true → (es : List (K × X)) → T (below_all R a.0 es) → AllByRecursion (λ later. number a.0 < later) (numbers (filter F es))
  all_above a t [] h = tt
  all_above a t (e ∷ es) h = by (F e) refl (all_above a t es (two_parts _ _ h).1)
    where
      by : (b : Bool) → F e ≡ b → AllByRecursion (λ later. number a.0 < later) (numbers (filter F es)) → AllByRecursion (λ later. number a.0 < later) (numbers (cond b (e ∷ filter F es) (filter F es)))
      by true u again = (lower a e t u (two_parts _ _ h).0, again)
      by false u again = again

  pub ascend : (es : List (K × X)) → T (is_sorted R es) → Ascend (numbers (filter F es))
  ascend [] h = tt
  ascend (e ∷ es) h = by (F e) refl (ascend es (two_parts _ _ h).1)
    where
      by : (b : Bool) → F e ≡ b → Ascend (numbers (filter F es)) → Ascend (numbers (cond b (e ∷ filter F es) (filter F es)))
      by true t again = (all_above e t es (two_parts _ _ h).0, again)
      by false t again = again

-- what is found and passes a test is among the keys that pass
module _ {K X : Type 0} {R : K → K → Ordering} (exact : IsAntisymmetric R) (F : K × X → Bool) (q : K) (x : X) (passes : F (q, x) ≡ true) where
  pub in_passing : (es : List (K × X)) → find R q es ≡ Some x → IsIn (map (λ (e : K × X). e.0) (filter F es)) q
  in_passing [] e = absurd (none_some e)
  in_passing (d ∷ es) e = by (eq_by_cmp R q d.0) (F d) refl refl e (in_passing es)
    where
      is_passed : q ≡ d.0 → d.1 ≡ x → F d ≡ true
      is_passed same value = (λ i. F (sym same i, value i)) ∙ passes

      by : (b c : Bool) → eq_by_cmp R q d.0 ≡ b → F d ≡ c → cond b (Some d.1) (find R q es) ≡ Some x → (find R q es ≡ Some x → IsIn (map (λ (e : K × X). e.0) (filter F es)) q) → IsIn (map (λ (e : K × X). e.0) (cond c (d ∷ filter F es) (filter F es))) q
      by true true s t e again = inl (sym (is_same exact q d.0 s))
      by true false s t e again = absurd (false≢true (sym t ∙ is_passed (is_same exact q d.0 s) (some_is d.1 x e)))
      by false true s t e again = inr (again e)
      by false false s t e again = again e

-- ---- order

first_part : (a b c d : ℕ) → is_lt (ordering_then (nat_cmp a b) (nat_cmp c d)) ≡ true → (a < b) ⊎ ((a ≡ b) × (c < d))
first_part a b c d e = by (nat_cmp a b) (order a b) e
  where
    later : (o : Ordering) → MatchOrdering o (c < d) (c ≡ d) (d < c) → is_lt o ≡ true → c < d
    later Less h e = h
    later Equal h e = absurd (false≢true e)
    later Greater h e = absurd (false≢true e)

    by : (o : Ordering) → MatchOrdering o (a < b) (a ≡ b) (b < a) → is_lt (ordering_then o (nat_cmp c d)) ≡ true → (a < b) ⊎ ((a ≡ b) × (c < d))
    by Less h e = inl h
    by Equal h e = inr (h, later (nat_cmp c d) (order c d) e)
    by Greater h e = absurd (false≢true e)

-- of one account the number decides
pub lower_number : (a b c d : ℕ) → a ≡ b → is_lt (ordering_then (nat_cmp a b) (nat_cmp c d)) ≡ true → c < d
lower_number a b c d same e = by (first_part a b c d e)
  where
    by : (a < b) ⊎ ((a ≡ b) × (c < d)) → c < d
    by (inl less) = absurd (omega (arith, less, same))
    by (inr h) = h.1

pub holds : (b : Bool) → T b → b ≡ true
holds true h = refl
holds false h = absurd h

-- ---- tags

same_tag : (a b : Tag) → is_same_tag a b ≡ true → a ≡ b
same_tag a b e =
    let (keys, values) = both_hold _ _ e in
    λ i. record { key = same_text a.key b.key (sym keys) i; value = same_text a.value b.value (sym values) i }

tag_itself : (a : Tag) → is_same_tag a a ≡ true
tag_itself a = λ i. nat_list_eq_equiv.refl a.key i && nat_list_eq_equiv.refl a.value i

pub target_is : (p : Policy) (row : VolRow) → is_target p row ≡ true → IsTarget p row
target_is p row e =
    let one = any_of (λ target. has_tag row.tags target) p.targets e in
    let other = any_of (λ tag. is_same_tag tag one.0) row.tags one.2 in
    (one.0, one.1, subst (IsIn row.tags) (same_tag other.0 one.0 other.2) other.1)

is_a_target : (p : Policy) (row : VolRow) → IsTarget p row → is_target p row ≡ true
is_a_target p row (tag, wanted, had) = of_any (λ target. has_tag row.tags target) p.targets tag wanted (of_any (λ t. is_same_tag t tag) row.tags tag had (tag_itself tag))

-- ---- when it is due

pub due : (p : Policy) (now : ℕ) → 1 ≤ p.hours → IsDue p now → is_due p p.last.second now ≡ true
due p now pos (moment, (n, is), after, before) = λ i. begun i && past i
  where
    whole : n * interval p ≤ (now - p.at) / interval p * interval p
    whole = mul-le-mul_right (interval p) (le-div n (now - p.at) (interval p) (omega (arith, pos)) (omega (arith, is, before)))

    le_true : (a b : ℕ) → a ≤ b → nat_le a b ≡ true
    le_true a b h = grind (arith, nat_tests)

    lt_true : (a b : ℕ) → a < b → nat_lt a b ≡ true
    lt_true a b h = grind (arith, nat_tests)

    begun : nat_le p.at now ≡ true
    begun = le_true p.at now (omega (arith, is, before))

    past : nat_lt p.last.second (latest_due p now) ≡ true
    past = lt_true p.last.second (latest_due p now) (omega (arith, whole, is, after))

-- ---- targets

module _ (m : Machine) (key : PolicyKey) (p : Policy) where
  abbrev Entry : Type 0
  Entry = VolKey × VolRow

  abbrev volume_of : Entry → VolKey
  volume_of e = e.0

  abbrev pub run_volumes : List VolKey
  run_volumes = map volume_of (due_volumes m key p)

  abbrev mine : Entry → Bool
  mine e = (key.account == e.0.account) && is_target p e.1

  lower : (a b : Entry) → mine a ≡ true → mine b ≡ true → T (is_lt (vol_cmp a.0 b.0)) → a.0.number < b.0.number
  lower a b s t less =
      let one = (both_hold _ _ s).0 in
      let other = (both_hold _ _ t).0 in
      lower_number a.0.account b.0.account a.0.number b.0.number (sym (number-of a one) ∙ number-of b other) (holds _ less)
    where
      number-of : (e : Entry) → (key.account == e.0.account) ≡ true → key.account ≡ e.0.account
      number-of e t = grind arith

  pub volumes-ascend : Ascend (map (λ (v : VolKey). v.number) run_volumes)
  volumes-ascend = by (is_due p p.last.second m.clock.second)
    where
      by : (b : Bool) → Ascend (map (λ (v : VolKey). v.number) (map volume_of (cond b (targets (rows_of m) key.account p) [])))
      by true = ascend vol_cmp (λ v. v.number) mine lower (fin.entries m.vols) (fin.entries_sorted m.vols)
      by false = tt

  pub volumes-are : is_due p p.last.second m.clock.second ≡ true → AreTargets m key.account p run_volumes
  volumes-are is = record { ascending = volumes-ascend; are = known; all = each }
    where
      known : (v : VolKey) → IsIn run_volumes v → IsTargetVolume m key.account p v
      known v there =
          let e = element (IsDueTarget m key p) volume_of (due_volumes m key p) v (due_targets-are m key p) there in
          (sym (ap (λ (v : VolKey). v.account) e.key_is) ∙ sym e.known.mine, e.one.1, ap (fin.get m.vols) (sym e.key_is) ∙ e.known.there, target_is p e.one.1 e.known.tagged)

      each : (v : VolKey) → IsTargetVolume m key.account p v → IsIn run_volumes v
      each v (owned, row, there, target) =
          subst (λ (b : Bool). IsIn (map volume_of (cond b (targets (rows_of m) key.account p) [])) v) (sym is)
          (in_passing exact_vols mine v row (λ i. number_is key.account v.account (sym owned) i && is_a_target p row target i) (fin.entries m.vols) (sym (fin.get-entries m.vols v) ∙ there))

-- ---- ids

-- a number between the first and the last of them is one of them
pub in_new : (first : SnapKey) (volumes : List (VolKey × VolRow)) (q : SnapKey) → first.account ≡ q.account → first.number ≤ q.number → q.number < first.number + length volumes → IsIn (map Snap (new_keys first volumes)) (Snap q)
in_new first [] q owner above below = absurd (omega (arith, above, below))
in_new first (v ∷ volumes) q owner above below =
    by (nat_cmp first.number q.number) (order first.number q.number) (λ less. inr (in_new (following first) volumes q owner (omega (arith, less)) (omega (arith, below))))
  where
    by : (o : Ordering) → MatchOrdering o (first.number < q.number) (first.number ≡ q.number) (q.number < first.number) → (first.number < q.number → IsIn (map Snap (new_keys first (v ∷ volumes))) (Snap q)) → IsIn (map Snap (new_keys first (v ∷ volumes))) (Snap q)
    by Less less again = again less
    by Equal same again = inl (λ i. Snap (record { account = owner i; number = same i }))
    by Greater less again = absurd (omega (arith, less, above))

-- a key among these is one of them
pub in_among : (exact : IsAntisymmetric snap_cmp) (q : SnapKey) (keys : List SnapKey) → among q keys ≡ true → IsIn (map Snap keys) (Snap q)
in_among exact q [] e = absurd (false≢true e)
in_among exact q (k ∷ keys) e = by (eq_by_cmp snap_cmp q k) refl e (in_among exact q keys)
  where
    by : (b : Bool) → eq_by_cmp snap_cmp q k ≡ b → cond b true (among q keys) ≡ true → (among q keys ≡ true → IsIn (map Snap keys) (Snap q)) → IsIn (map Snap (k ∷ keys)) (Snap q)
    by true t e again = inl (ap Snap (sym (is_same exact q k t)))
    by false t e again = inr (again e)
