-- Numbers as a set.
use Rattle.std.proofs.Common.{◌≡◌, ℕ, suc, ◌+◌, ◌<◌, ◌≤◌, Bool, true, false, not, ◌&&◌, ◌||◌, cond, eqb, ltb, is_some, Less, Equal, Greater, List, [], ◌∷◌, ◌++◌, length, take, drop, get_or, Option, Some, None, refl, sym, ap, subst, ◌∙◌, arith, drop-cons, add-one}
use Rattle.std.proofs.lemmas.List.{drop_all, take_more}
use Rattle.std.proofs.lemmas.List.Elements.{filter_map-append}
use Rattle.std.specs.List.{filter_map, cons_option}
use Rattle.std.proofs.lemmas.Bool.Decides.{nat_tests}
use Rattle.std.specs.Ordering.{nat_cmp, eq_by_cmp, is_eq}
use Rattle.std.specs.Cmp.{nat_cmp_total}
use Rattle.std.specs.FinMap.{FinMap, get, contains_key, insert, empty, len, get-insert, get-empty, len-insert, len-empty, same_map, nat_cmp-IsAntisymmetric}
use Rattle.ebs_checkpoints.specs.declared.nodes.NodeRow.{NodeRow}
use Rattle.ebs_checkpoints.specs.declared.owned.VolPoint.{VolPoint}
use Rattle.ebs_node_rules.specs.Nodes.{is_among, are_distinct, leads}
use Rattle.ebs_node_rules.specs.inner.Lookups.{marked, set_of}

-- a loop's turn, and its end
pub turn : {A B : Type 0} (f : List A → B) (xs : List A) (i : ℕ) (d : A) → i < length xs → f (get_or xs i d ∷ drop (i + 1) xs) ≡ f (drop i xs)
turn f xs i d h = ap f ((λ j. get_or xs i d ∷ drop (add-one i j) xs) ∙ sym (drop-cons xs i d h))

pub ended : {A B : Type 0} (f : List A → B) (xs : List A) (i : ℕ) → length xs ≤ i → f [] ≡ f (drop i xs)
ended f xs i h = ap f (sym (drop_all i xs h))

-- one more item of a filter
pub filter_more : {X Y : Type 0} (h : X → Option Y) (xs : List X) (i : ℕ) (x : X) → i < length xs → x ≡ get_or xs i x → filter_map h (take (i + 1) xs) ≡ filter_map h (take i xs) ++ cons_option (h x) []
filter_more h xs i x l e = ap (filter_map h) (take_more xs i x l) ∙ filter_map-append h (take i xs) _ ∙ ap (λ y. filter_map h (take i xs) ++ cons_option (h y) []) (sym e)

-- keys that compare alike are one number
pub alike : (q n : ℕ) → eq_by_cmp nat_cmp q n ≡ eqb n q
alike q n = by (ltb q n) (eqb q n) refl refl
  where
    by : (less same : Bool) → ltb q n ≡ less → eqb q n ≡ same → is_eq (cond less Less (cond same Equal Greater)) ≡ eqb n q
    by true same l s = grind (arith, nat_tests)
    by false true l s = grind (arith, nat_tests)
    by false false l s = grind (arith, nat_tests)

is_some-cond : {X : Type 0} (b : Bool) (x : X) → is_some (cond b (Some x) None) ≡ b
is_some-cond true x = refl
is_some-cond false x = refl

either : {X : Type 0} (b e : Bool) (x : X) (o : Option X) → cond b (Some x) (cond e (Some x) o) ≡ cond (e || b) (Some x) o
either true true x o = refl
either true false x o = refl
either false true x o = refl
either false false x o = refl

turned : {X : Type 0} (e b : Bool) (x : X) → cond e (Some x) (cond b (Some x) None) ≡ cond (e || b) (Some x) None
turned true b x = refl
turned false b x = refl

pub get-marked : (set : FinMap nat_cmp (Unit {0})) (ns : List ℕ) (q : ℕ) → get (marked set ns) q ≡ cond (is_among ns q) (Some tt) (get set q)
get-marked set [] q = refl
get-marked set (n ∷ ns) q =
    get-marked (insert set n tt) ns q
    ∙ ap (cond (is_among ns q) (Some tt)) (get-insert nat_cmp_total set n tt q ∙ ap (λ b. cond b (Some tt) (get set q)) (alike q n))
    ∙ either (is_among ns q) (eqb n q) tt (get set q)

-- a number is in the set where it is among the numbers
pub marks : (ns : List ℕ) (q : ℕ) → contains_key (set_of ns) q ≡ is_among ns q
marks ns q = ap is_some (get-marked empty ns q ∙ ap (cond (is_among ns q) (Some tt)) (get-empty nat_cmp q)) ∙ is_some-cond (is_among ns q) tt

-- the same set, made from the last number on
backwards : List ℕ → FinMap nat_cmp (Unit {0})
backwards [] = empty
backwards (n ∷ ns) = insert (backwards ns) n tt

get-backwards : (ns : List ℕ) (q : ℕ) → get (backwards ns) q ≡ cond (is_among ns q) (Some tt) None
unfolding backwards
get-backwards [] q = get-empty nat_cmp q
get-backwards (n ∷ ns) q =
    get-insert nat_cmp_total (backwards ns) n tt q ∙ (λ i. cond (alike q n i) (Some tt) (get-backwards ns q i)) ∙ turned (eqb n q) (is_among ns q) tt

same_set : (ns : List ℕ) → set_of ns ≡ backwards ns
same_set ns = same_map nat_cmp_total nat_cmp-IsAntisymmetric _ _ (λ q.
    get-marked empty ns q ∙ ap (cond (is_among ns q) (Some tt)) (get-empty nat_cmp q) ∙ sym (get-backwards ns q))

counted : (known : Bool) (l m : ℕ) (d : Bool) → l ≤ m → eqb l m ≡ d → (cond known l (l + 1) ≤ suc m) × (eqb (cond known l (l + 1)) (suc m) ≡ (not known && d))
counted true l m d h e = (omega arith, grind (arith, nat_tests))
counted false l m d h e = (omega arith, grind (arith, nat_tests))

len-backwards : (ns : List ℕ) → (len (backwards ns) ≤ length ns) × (eqb (len (backwards ns)) (length ns) ≡ are_distinct ns)
unfolding backwards
len-backwards [] =
    let none : len (backwards []) ≡ 0 = len-empty nat_cmp (Unit {0}) in
    (omega arith, ap (λ l. eqb l 0) none)
len-backwards (n ∷ ns) =
    let (below, same) = len-backwards ns in
    let is : len (insert (backwards ns) n tt) ≡ cond (is_among ns n) (len (backwards ns)) (len (backwards ns) + 1) =
    len-insert nat_cmp_total (backwards ns) n tt ∙ ap (λ b. cond b (len (backwards ns)) (len (backwards ns) + 1)) (ap is_some (get-backwards ns n) ∙ is_some-cond (is_among ns n) tt) in
    let both = counted (is_among ns n) (len (backwards ns)) (length ns) (are_distinct ns) below same in
    (subst (λ l. l ≤ suc (length ns)) (sym is) both.0, ap (λ l. eqb l (suc (length ns))) is ∙ both.1)

-- no number stands twice where the set has as many
pub as_many : (ns : List ℕ) → eqb (len (set_of ns)) (length ns) ≡ are_distinct ns
as_many ns = ap (λ set. eqb (len set) (length ns)) (same_set ns) ∙ (len-backwards ns).1

-- what is told of sets is told of numbers
pub told : (nodes : List NodeRow) (volumes : List VolPoint) (numbers parents : List ℕ) (named bears : FinMap nat_cmp (Unit {0})) (all on : List ℕ) → numbers ≡ all → named ≡ set_of numbers → parents ≡ on → bears ≡ set_of parents →
    leads nodes volumes numbers (contains_key named) (contains_key bears) ≡ leads nodes volumes all (is_among all) (is_among on)
told nodes volumes numbers parents named bears all on is marked_so on_is on_marked = λ i. leads nodes volumes (is i) (λ q. known q i) (λ q. bearing q i)
  where
    known : (q : ℕ) → contains_key named q ≡ is_among all q
    known q = ap (λ set. contains_key set q) marked_so ∙ marks numbers q ∙ ap (λ ns. is_among ns q) is

    bearing : (q : ℕ) → contains_key bears q ≡ is_among on q
    bearing q = ap (λ set. contains_key set q) on_marked ∙ marks parents q ∙ ap (λ ns. is_among ns q) on_is
