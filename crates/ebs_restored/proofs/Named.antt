-- Each node that rows name is named by one of them, where their keys ascend.
use Rattle.std.proofs.Common.{◌≡◌, ◌⊎◌, inl, inr, ℕ, Bool, true, false, not, ◌||◌, ◌==◌, List, [], ◌∷◌, ◌++◌, map, Option, None, Some, refl, sym, ap, subst, ◌∙◌, arith}
use Rattle.std.proofs.lemmas.Bool.{and_parts, false≢true}
use Rattle.std.proofs.lemmas.Bool.Decides.{nat_tests}
use Rattle.std.proofs.lemmas.Cmp.{tied_itself}
use Rattle.std.specs.Option.{option_map}
use Rattle.std.specs.List.{AllByRecursion, filter_map, cons_option}
use Rattle.std.specs.List.Sorted.{IsStrictlySortedBy}
use Rattle.std.specs.Map.{keys_of}
use Rattle.std.specs.declared.cmp.Ordering.TheVariants.{Less}
use Rattle.std.specs.FinMap as fin
use Rattle.std.specs.FinMap.{get-empty}
use Rattle.ebs_model.specs.declared.keys.SnapKey.{SnapKey}
use Rattle.ebs_model.specs.declared.keys.VolKey.{VolKey}
use Rattle.ebs_model.specs.Keys.{snap_cmp, vol_cmp}
use Rattle.ebs_model.specs.inner.Orders.{snaps_total, vols_total}
use Rattle.ebs_checkpoints.specs.declared.owned.VolPoint.{VolPoint}
use Rattle.ebs_checkpoints.specs.declared.snapshots.SnapPoint.{SnapPoint}
use Rattle.ebs_row_rules.specs.Order.{ascends}
use Rattle.ebs_node_rules.specs.Nodes as forest
use Rattle.ebs_lawful_points.proofs.Ordered.{sorted}
use Rattle.ebs_holds.specs.declared.holder.Holder.{Holder}
use Rattle.ebs_holds.specs.Holders.{holder_cmp, of_snap, of_vol}
use Rattle.ebs_holds.specs.Orders.{exact_holders, holders_total}
use Rattle.ebs_holds.proofs.Keyed.{at_key, off_key, got, cases}
use Rattle.ebs_restored.specs.Holders.{Entry, Named, naming, of_snapshot, of_volume}

abbrev pub made : List Entry → Named
made es = fin.from_entries es

abbrev pub numbers : List Entry → List ℕ
numbers es = map (λ (e : Entry). e.1) es

none_some : {A B : Type 0} (a : A) → None ≡ Some a → B
none_some a e = absurd (cc)

same_number : (a b : ℕ) → (a == b) ≡ true → a ≡ b
same_number a b e = grind (arith, nat_tests)

number_is : (a b : ℕ) → a ≡ b → (a == b) ≡ true
number_is a b e = grind (arith, nat_tests)

left_true : (a b : Bool) → a ≡ true → (a || b) ≡ true
left_true a b e = ap (λ x. x || b) e

right_true : (a b : Bool) → b ≡ true → (a || b) ≡ true
right_true true b e = refl
right_true false b e = e

-- what a holder has is among the numbers
pub found_among : (es : List Entry) (q : Holder) (n : ℕ) → fin.get (made es) q ≡ Some n → forest.is_among (numbers es) n ≡ true
found_among [] q n h = none_some n (sym (get-empty holder_cmp q) ∙ h)
found_among (e ∷ es) q n h = elim (got holders_total exact_holders (made es) e.0 e.1 q n h) [
  | inl t ↦ left_true (e.1 == n) (forest.is_among (numbers es) n) (number_is e.1 n t.2)
  | inr t ↦ right_true (e.1 == n) (forest.is_among (numbers es) n) (found_among es q n t.2)
]

not_true : (b : Bool) → not b ≡ true → b ≡ true → ⊥
not_true true e h = cc
not_true false e h = cc

-- and no other has it, where none stands twice
pub one_holder : (es : List Entry) (a b : Holder) (n : ℕ) → forest.are_distinct (numbers es) ≡ true → fin.get (made es) a ≡ Some n → fin.get (made es) b ≡ Some n → a ≡ b
one_holder [] a b n distinct h k = none_some n (sym (get-empty holder_cmp a) ∙ h)
one_holder (e ∷ es) a b n distinct h k =
    let parts = and_parts (not (forest.is_among (numbers es) e.1)) (forest.are_distinct (numbers es)) distinct in
    let twice : (q : Holder) → e.1 ≡ n → fin.get (made es) q ≡ Some n → ⊥ = λ q is has. not_true (forest.is_among (numbers es) e.1) parts.0 (ap (forest.is_among (numbers es)) is ∙ found_among es q n has) in
    elim (got holders_total exact_holders (made es) e.0 e.1 a n h) [
      | inl t ↦ elim (got holders_total exact_holders (made es) e.0 e.1 b n k) [
        | inl u ↦ t.1 ∙ sym u.1
        | inr u ↦ absurd (twice b t.2 u.2)
      ]
      | inr t ↦ elim (got holders_total exact_holders (made es) e.0 e.1 b n k) [
        | inl u ↦ absurd (twice a u.2 t.2)
        | inr u ↦ one_holder es a b n parts.1 t.2 u.2
      ]
    ]

-- no entry's holder has an entry behind it
abbrev pub AreNew : List Entry → Type 0
AreNew [] = Unit {0}
AreNew (e ∷ es) = (fin.get (made es) e.0 ≡ None) × AreNew es

apart : (m : Named) (a b : Holder) (n : ℕ) → fin.get m a ≡ None → fin.get m b ≡ Some n → b ≡ a → ⊥
apart m a b n none has same = none_some n (sym none ∙ ap (fin.get m) (sym same) ∙ has)

-- then each of the numbers is some holder's
pub some_holder : (es : List Entry) (n : ℕ) → AreNew es → forest.is_among (numbers es) n ≡ true → (q : Holder) × (fin.get (made es) q ≡ Some n)
some_holder [] n new h = absurd (cc)
some_holder (e ∷ es) n new h = by (λ later. some_holder es n new.1 later) (e.1 == n) refl h
  where
    by : (forest.is_among (numbers es) n ≡ true → (q : Holder) × (fin.get (made es) q ≡ Some n)) → (b : Bool) → (e.1 == n) ≡ b → (b || forest.is_among (numbers es) n) ≡ true → (q : Holder) × (fin.get (made (e ∷ es)) q ≡ Some n)
    by rest true is later = (e.0, at_key holders_total exact_holders (made es) e.0 e.1 e.0 refl ∙ ap Some (same_number e.1 n is))
    by rest false is later =
        let r = rest later in
        elim (cases holders_total exact_holders r.0 e.0) [
          | inl t ↦ absurd (apart (made es) e.0 r.0 n new.0 r.1 t.1)
          | inr t ↦ (r.0, off_key holders_total exact_holders (made es) e.0 e.1 r.0 t.0 ∙ r.1)
        ]

-- ---- keys that ascend

key_found : (P : Holder → Type 0) (es : List Entry) (q : Holder) (n : ℕ) → AllByRecursion (λ (e : Entry). P e.0) es → fin.get (made es) q ≡ Some n → P q
key_found P [] q n all h = none_some n (sym (get-empty holder_cmp q) ∙ h)
key_found P (e ∷ es) q n all h = elim (got holders_total exact_holders (made es) e.0 e.1 q n h) [
  | inl t ↦ subst P (sym t.1) all.0
  | inr t ↦ key_found P es q n all.1 t.2
]

none_at : (P : Holder → Type 0) (es : List Entry) (q : Holder) → AllByRecursion (λ (e : Entry). P e.0) es → (P q → ⊥) → fin.get (made es) q ≡ None
none_at P es q all never = by (fin.get (made es) q) refl
  where
    by : (o : Option ℕ) → fin.get (made es) q ≡ o → fin.get (made es) q ≡ None
    by None is = is
    by (Some n) is = absurd (never (key_found P es q n all is))

both_all : {X : Type 0} (P : X → Type 0) (xs ys : List X) → AllByRecursion P xs → AllByRecursion P ys → AllByRecursion P (xs ++ ys)
both_all P [] ys a b = b
both_all P (x ∷ xs) ys a b = (a.0, both_all P xs ys a.1 b)

abbrev IsVolAbove : VolKey → Holder → Type 0
IsVolAbove k q = (key : VolKey) × (q ≡ of_vol key) × (vol_cmp k key ≡ Less)

abbrev IsSnapAbove : SnapKey → Holder → Type 0
IsSnapAbove k q = ((key : SnapKey) × (q ≡ of_snap key) × (snap_cmp k key ≡ Less)) ⊎ (q.is_volume ≡ true)

vol_same : (a b : VolKey) → of_vol a ≡ of_vol b → a ≡ b
vol_same a b e = ap (λ (q : Holder). record { account = q.account; number = q.number }) e

snap_same : (a b : SnapKey) → of_snap a ≡ of_snap b → a ≡ b
snap_same a b e = ap (λ (q : Holder). record { account = q.account; number = q.number }) e

not_above : (k : VolKey) → IsVolAbove k (of_vol k) → ⊥
not_above k (key, is, less) = let less_itself : vol_cmp k k ≡ Less = ap (vol_cmp k) (vol_same k key is) ∙ less in let tied = tied_itself vols_total k in cc

no_snapshot : (k : SnapKey) → (of_snap k).is_volume ≡ true → ⊥
no_snapshot k e = false≢true e

snap_not_above : (k : SnapKey) → IsSnapAbove k (of_snap k) → ⊥
snap_not_above k (inl (key, is, less)) = let less_itself : snap_cmp k k ≡ Less = ap (snap_cmp k) (snap_same k key is) ∙ less in let tied = tied_itself snaps_total k in cc
snap_not_above k (inr e) = no_snapshot k e

vols_above : (k : VolKey) (vs : List VolPoint) → AllByRecursion (λ y. vol_cmp k y ≡ Less) (keys_of (map (λ (v : VolPoint). (v.row.key, v)) vs)) → AllByRecursion (λ (e : Entry). IsVolAbove k e.0) (map of_volume vs)
vols_above k [] all = tt
vols_above k (v ∷ vs) all = ((v.row.key, refl, all.0), vols_above k vs all.1)

vols_new : (vs : List VolPoint) → IsStrictlySortedBy vol_cmp (keys_of (map (λ (v : VolPoint). (v.row.key, v)) vs)) → AreNew (map of_volume vs)
unfolding IsStrictlySortedBy
vols_new [] up = tt
vols_new (v ∷ vs) up = (none_at (IsVolAbove v.row.key) (map of_volume vs) (of_vol v.row.key) (vols_above v.row.key vs up.0) (not_above v.row.key), vols_new vs up.1)

vols_are : (k : SnapKey) (vs : List VolPoint) → AllByRecursion (λ (e : Entry). IsSnapAbove k e.0) (map of_volume vs)
vols_are k [] = tt
vols_are k (v ∷ vs) = (inr refl, vols_are k vs)

snaps_above : (k : SnapKey) (ss : List SnapPoint) → AllByRecursion (λ y. snap_cmp k y ≡ Less) (keys_of (map (λ (s : SnapPoint). (s.key, s)) ss)) → AllByRecursion (λ (e : Entry). IsSnapAbove k e.0) (filter_map of_snapshot ss)
snaps_above k [] all = tt
snaps_above k (s ∷ ss) all = by (snaps_above k ss all.1) s.node
  where
    by : AllByRecursion (λ (e : Entry). IsSnapAbove k e.0) (filter_map of_snapshot ss) → (o : Option ℕ) → AllByRecursion (λ (e : Entry). IsSnapAbove k e.0) (cons_option (option_map (λ (n : ℕ). (of_snap s.key, n)) o) (filter_map of_snapshot ss))
    by rest None = rest
    by rest (Some n) = (inl (s.key, refl, all.0), rest)

snaps_new : (ss : List SnapPoint) (vs : List VolPoint) → IsStrictlySortedBy snap_cmp (keys_of (map (λ (s : SnapPoint). (s.key, s)) ss)) → AreNew (map of_volume vs) → AreNew (naming ss vs)
unfolding IsStrictlySortedBy
snaps_new [] vs up new = new
snaps_new (s ∷ ss) vs up new = by (snaps_new ss vs up.1 new) s.node
  where
    by : AreNew (naming ss vs) → (o : Option ℕ) → AreNew (cons_option (option_map (λ (n : ℕ). (of_snap s.key, n)) o) (filter_map of_snapshot ss) ++ map of_volume vs)
    by rest None = rest
    by rest (Some n) = (
      none_at (IsSnapAbove s.key) (naming ss vs) (of_snap s.key)
          (both_all (λ (e : Entry). IsSnapAbove s.key e.0) (filter_map of_snapshot ss) (map of_volume vs) (snaps_above s.key ss up.0) (vols_are s.key vs)) (snap_not_above s.key),
      rest,
    )

pub are_new : (ss : List SnapPoint) (vs : List VolPoint) → ascends snap_cmp (λ (s : SnapPoint). s.key) ss ≡ true → ascends vol_cmp (λ (v : VolPoint). v.row.key) vs ≡ true → AreNew (naming ss vs)
are_new ss vs snaps vols = snaps_new ss vs (sorted snaps_total (λ (s : SnapPoint). s.key) (λ s. s) ss snaps) (vols_new vs (sorted vols_total (λ (v : VolPoint). v.row.key) (λ v. v) vs vols))

-- ---- the numbers are those that rows name

vol_numbers : (vs : List VolPoint) → numbers (map of_volume vs) ≡ map (λ (v : VolPoint). v.node) vs
vol_numbers [] = refl
vol_numbers (v ∷ vs) = ap (λ ns. v.node ∷ ns) (vol_numbers vs)

pub numbers_are : (ss : List SnapPoint) (vs : List VolPoint) → numbers (naming ss vs) ≡ forest.names ss vs
numbers_are [] vs = vol_numbers vs
numbers_are (s ∷ ss) vs = by (numbers_are ss vs) s.node
  where
    by : numbers (naming ss vs) ≡ forest.names ss vs → (o : Option ℕ) → numbers (cons_option (option_map (λ (n : ℕ). (of_snap s.key, n)) o) (filter_map of_snapshot ss) ++ map of_volume vs) ≡ cons_option o (filter_map (λ (r : SnapPoint). r.node) ss) ++ map (λ (v : VolPoint). v.node) vs
    by rest None = rest
    by rest (Some n) = ap (λ ns. n ∷ ns) rest
