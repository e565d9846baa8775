-- Accounts that are counted where a set of them would be made.
use Rattle.std.proofs.Common.{◌≡◌, ◌≤◌, ℕ, ◌+◌, ◌-◌, take, drop, get_or, length, Bool, true, false, cond, ◌||◌, ◌==◌, arith, List, [], ◌∷◌, Option, Some, None, is_some, refl, sym, ap, ◌∙◌}
use Rattle.std.proofs.lemmas.Bool.{false≢true}
use Rattle.std.specs.Cmp.{nat_cmp_total, unsigned_ties}
use Rattle.std.specs.Ordering.{nat_cmp, eq_by_cmp}
use Rattle.std.specs.FinMap.{nat_cmp-IsAntisymmetric, get, contains_key, insert, remove, empty, len, same_map, get-insert, get-remove, get-empty, len-insert, len-empty, len-entries, entries}
use Rattle.std.proofs.lemmas.List.{take_all, length-map}
use Rattle.ebs_tables.proofs.MapEdits.{is_same}
use Rattle.ebs_model.specs.Calls.Permission.{AccountSet, with_all, without_all, permitted}
use Rattle.ebs_catalog.specs.Shared.{is_in, left_of}

same_set : (a b : AccountSet) → ((q : ℕ) → get a q ≡ get b q) → a ≡ b
same_set a b h = same_map nat_cmp_total nat_cmp-IsAntisymmetric a b h

found : (m : AccountSet) (k q : ℕ) → get (insert m k tt) q ≡ cond (eq_by_cmp nat_cmp q k) (Some tt) (get m q)
found m k q = get-insert nat_cmp_total m k tt q

left : (m : AccountSet) (k q : ℕ) → get (remove m k) q ≡ cond (eq_by_cmp nat_cmp q k) None (get m q)
left m k q = get-remove nat_cmp_total m k q

swap : (m : AccountSet) (x y : ℕ) → insert (insert m x tt) y tt ≡ insert (insert m y tt) x tt
swap m x y = same_set _ _ (λ q.
    found (insert m x tt) y q ∙ ap (cond (eq_by_cmp nat_cmp q y) (Some tt)) (found m x q)
    ∙ both (eq_by_cmp nat_cmp q x) (eq_by_cmp nat_cmp q y) (get m q)
    ∙ sym (found (insert m y tt) x q ∙ ap (cond (eq_by_cmp nat_cmp q x) (Some tt)) (found m y q)))
  where
    both : (a b : Bool) (o : Option (Unit {0})) → cond b (Some tt) (cond a (Some tt) o) ≡ cond a (Some tt) (cond b (Some tt) o)
    both true true o = refl
    both true false o = refl
    both false true o = refl
    both false false o = refl

-- one account that comes first may come last
last : (xs : List ℕ) (m : AccountSet) (x : ℕ) → with_all xs (insert m x tt) ≡ insert (with_all xs m) x tt
last [] m x = refl
last (y ∷ xs) m x = ap (with_all xs) (swap m x y) ∙ last xs (insert m y tt) x

same_number : (a b : ℕ) → (a == b) ≡ true → a ≡ b
same_number a b h = is_same nat_cmp-IsAntisymmetric a b (sym (unsigned_ties a b) ∙ h)

-- what is taken out again
out_again : (m : AccountSet) (x y : ℕ) (b : Bool) → (y == x) ≡ b → remove (insert m x tt) y ≡ cond b (remove m y) (insert (remove m y) x tt)
out_again m x y true h = same_set _ _ (λ q.
    left (insert m x tt) y q ∙ ap (cond (eq_by_cmp nat_cmp q y) None) (found m x q)
    ∙ ap (λ z. cond (eq_by_cmp nat_cmp q y) None (cond (eq_by_cmp nat_cmp q z) (Some tt) (get m q))) (sym (same_number y x h))
    ∙ gone (eq_by_cmp nat_cmp q y) (get m q) ∙ sym (left m y q))
  where
    gone : (b : Bool) (o : Option (Unit {0})) → ◌≡◌ {A = Option (Unit {0})} (cond b None (cond b (Some tt) o)) (cond b None o)
    gone true o = refl
    gone false o = refl
out_again m x y false h = same_set _ _ (λ q.
    left (insert m x tt) y q ∙ ap (cond (eq_by_cmp nat_cmp q y) None) (found m x q)
    ∙ by q (eq_by_cmp nat_cmp q x) (eq_by_cmp nat_cmp q y) refl refl
    ∙ sym (found (remove m y) x q ∙ ap (cond (eq_by_cmp nat_cmp q x) (Some tt)) (left m y q)))
  where
    differ : (q : ℕ) → eq_by_cmp nat_cmp q x ≡ true → eq_by_cmp nat_cmp q y ≡ true → true ≡ false
    differ q e f =
        let a = is_same nat_cmp-IsAntisymmetric q x e in
        let b = is_same nat_cmp-IsAntisymmetric q y f in
        sym f ∙ ap (λ z. eq_by_cmp nat_cmp z y) a ∙ ap (λ z. eq_by_cmp nat_cmp x z) (sym b ∙ a) ∙ sym (unsigned_ties x x) ∙ ap (λ z. z == x) (sym a ∙ b) ∙ h

    by : (q : ℕ) (a b : Bool) → eq_by_cmp nat_cmp q x ≡ a → eq_by_cmp nat_cmp q y ≡ b → ◌≡◌ {A = Option (Unit {0})} (cond b None (cond a (Some tt) (get m q))) (cond a (Some tt) (cond b None (get m q)))
    by q true true e f = ap (λ c. cond c None (Some tt)) (differ q e f)
    by q true false e f = refl
    by q false true e f = refl
    by q false false e f = refl

-- what comes last is left unless it is one of the removed
taken : (r : List ℕ) (m : AccountSet) (x : ℕ) → without_all r (insert m x tt) ≡ cond (is_in x r) (without_all r m) (insert (without_all r m) x tt)
taken [] m x = refl
taken (y ∷ r) m x = ap (without_all r) (out_again m x y (y == x) refl) ∙ by (y == x) (taken r (remove m y) x)
  where
    by : (b : Bool) → without_all r (insert (remove m y) x tt) ≡ cond (is_in x r) (without_all r (remove m y)) (insert (without_all r (remove m y)) x tt)
        → without_all r (cond b (remove m y) (insert (remove m y) x tt)) ≡ cond (b || is_in x r) (without_all r (remove m y)) (insert (without_all r (remove m y)) x tt)
    by true h = refl
    by false h = h

test : (x y : ℕ) → (y == x) ≡ eq_by_cmp nat_cmp x y
test x y = turned (y == x) (x == y) (λ h. ap (λ z. z == y) (sym (same_number y x h)) ∙ itself y) (λ h. ap (λ z. z == x) (sym (same_number x y h)) ∙ itself x) ∙ unsigned_ties x y
  where
    itself : (a : ℕ) → (a == a) ≡ true
    itself a = grind arith

    turned : (a b : Bool) → (a ≡ true → b ≡ true) → (b ≡ true → a ≡ true) → a ≡ b
    turned true b f g = sym (f refl)
    turned false true f g = g refl
    turned false false f g = refl

has : (xs : List ℕ) (m : AccountSet) (x : ℕ) → contains_key (with_all xs m) x ≡ (is_in x xs || contains_key m x)
has [] m x = refl
has (y ∷ xs) m x =
    has xs (insert m y tt) x
    ∙ ap (λ (o : Option (Unit {0})). is_in x xs || is_some o) (found m y x)
    ∙ ap (λ b. is_in x xs || is_some (cond b (Some tt) (get m x))) (sym (test x y))
    ∙ by (y == x) (is_in x xs) (get m x)
  where
    by : (b c : Bool) (o : Option (Unit {0})) → (c || is_some (cond b (Some tt) o)) ≡ ((b || c) || is_some o)
    by true true o = refl
    by true false o = refl
    by false c o = refl

stays_there : (r : List ℕ) (m : AccountSet) (x : ℕ) → is_in x r ≡ false → contains_key (without_all r m) x ≡ contains_key m x
stays_there [] m x h = refl
stays_there (y ∷ r) m x h = by (y == x) refl h (stays_there r (remove m y) x)
  where
    by : (b : Bool) → (y == x) ≡ b → (b || is_in x r) ≡ false → (is_in x r ≡ false → contains_key (without_all r (remove m y)) x ≡ contains_key (remove m y) x) → contains_key (without_all r (remove m y)) x ≡ contains_key m x
    by true e k rest = absurd (false≢true (sym k))
    by false e k rest = rest k ∙ ap is_some (left m y x ∙ ap (λ b. cond b None (get m x)) (sym (test x y) ∙ e))

-- one account more
pub one_more : (others removed xs : List ℕ) (x : ℕ) → left_of others removed (x ∷ xs) ≡ cond (is_in x xs || (is_in x others || is_in x removed)) 0 1 + left_of others removed xs
one_more others removed xs x =
    let m = with_all others empty in
    let n = with_all xs m in
    ap (λ s. len (without_all removed s)) (last xs m x) ∙ ap len (taken removed n x)
    ∙ by (is_in x removed) refl
    ∙ ap (λ b. cond (b || is_in x removed) 0 1 + left_of others removed xs) (has xs m x ∙ ap (λ b. is_in x xs || b) (has others empty x ∙ ap (λ b. is_in x others || b) (ap is_some (get-empty nat_cmp x))))
    ∙ ap (λ b. cond b 0 1 + left_of others removed xs) (regroup (is_in x xs) (is_in x others) (is_in x removed))
  where
    regroup : (a b c : Bool) → ((a || (b || false)) || c) ≡ (a || (b || c))
    regroup true b c = refl
    regroup false true c = refl
    regroup false false c = refl

    count : (b : Bool) (k : ℕ) → cond b k (k + 1) ≡ cond (b || false) 0 1 + k
    count true k = omega arith
    count false k = omega arith

    by : (b : Bool) → is_in x removed ≡ b
        → len (cond b (without_all removed (with_all xs (with_all others empty))) (insert (without_all removed (with_all xs (with_all others empty))) x tt))
        ≡ cond (contains_key (with_all xs (with_all others empty)) x || b) 0 1 + left_of others removed xs
    by true h = always (contains_key (with_all xs (with_all others empty)) x) (left_of others removed xs)
      where
        always : (c : Bool) (k : ℕ) → k ≡ cond (c || true) 0 1 + k
        always true k = omega arith
        always false k = omega arith
    by false h =
        len-insert nat_cmp_total (without_all removed (with_all xs (with_all others empty))) x tt
        ∙ ap (λ c. cond c (left_of others removed xs) (left_of others removed xs + 1)) (stays_there removed (with_all xs (with_all others empty)) x h)
        ∙ count (contains_key (with_all xs (with_all others empty)) x) (left_of others removed xs)

abbrev nothing : AccountSet
nothing = empty

out_of_none : (x : ℕ) → remove nothing x ≡ nothing
out_of_none x = same_set (remove nothing x) nothing (λ q. left nothing x q ∙ none (eq_by_cmp nat_cmp q x) q)
  where
    none : (b : Bool) (q : ℕ) → cond b None (get nothing q) ≡ get nothing q
    none true q = sym (get-empty nat_cmp q)
    none false q = refl

without-empty : (r : List ℕ) → without_all r empty ≡ empty
without-empty [] = refl
without-empty (x ∷ r) = ap (without_all r) (out_of_none x) ∙ without-empty r

-- without others none is left
pub none_left : (removed : List ℕ) → left_of [] removed [] ≡ 0
none_left removed = ap len (without-empty removed) ∙ len-empty nat_cmp (Unit {0})

-- the others of a list that isn't empty
abbrev pub others_of : List ℕ → List ℕ
others_of l = take (length l - 1) (drop 1 l)

others-cons : (x : ℕ) (xs : List ℕ) → others_of (x ∷ xs) ≡ xs
others-cons x xs = take_all (length (x ∷ xs) - 1) xs (omega arith)

pub fewer : (l : List ℕ) → 1 ≤ length l → length (others_of l) + 1 ≡ length l
fewer [] h = absurd (omega arith)
fewer (x ∷ xs) h = ap (λ ys. length ys + 1) (others-cons x xs) ∙ omega arith

module _ (others removed all : List ℕ) where
  abbrev pub is_known : ℕ → List ℕ → Bool
  is_known x xs = is_in x xs || (is_in x others || is_in x removed)

  first_more : (l : List ℕ) (x : ℕ) (b : Bool) → 1 ≤ length l → x ≡ get_or l 0 x → b ≡ is_known x (others_of l) → left_of others removed l ≡ cond b 0 1 + left_of others removed (others_of l)
  first_more [] x b h is known = absurd (omega arith)
  first_more (y ∷ ys) x b h is known =
      one_more others removed ys y
      ∙ (λ i. cond (is_known (sym is i) (sym (others-cons y ys) i)) 0 1 + left_of others removed (sym (others-cons y ys) i))
      ∙ ap (λ c. cond c 0 1 + left_of others removed (others_of (y ∷ ys))) (sym known)

  -- one account that isn't counted, and one that is
  pub known : (count : ℕ) (l : List ℕ) (x : ℕ) (b : Bool) → 1 ≤ length l → x ≡ get_or l 0 x → b ≡ is_known x (others_of l) → b ≡ true
      → count + left_of others removed l ≡ left_of others removed all → count + left_of others removed (others_of l) ≡ left_of others removed all
  known count l x b h is k e sum =
      let more = first_more l x b h is k ∙ ap (λ c. cond c 0 1 + left_of others removed (others_of l)) e in
      omega arith

  pub new : (count : ℕ) (l : List ℕ) (x : ℕ) (b : Bool) → 1 ≤ length l → x ≡ get_or l 0 x → b ≡ is_known x (others_of l) → b ≡ false
      → count + left_of others removed l ≡ left_of others removed all → count + 1 + left_of others removed (others_of l) ≡ left_of others removed all
  new count l x b h is k e sum =
      let more = first_more l x b h is k ∙ ap (λ c. cond c 0 1 + left_of others removed (others_of l)) e in
      omega arith

-- the accounts that are added to those that are shared with already
pub in-all : (shared add removed : List ℕ) (kept added : ℕ) → kept + left_of [] removed [] ≡ left_of [] removed shared → added + left_of shared removed [] ≡ left_of shared removed add
    → kept + added ≡ length (permitted shared add removed)
in-all shared add removed kept added first second =
    let none = none_left removed in
    let sum : kept + added ≡ left_of shared removed add = omega arith in
    let m = without_all removed (with_all add (with_all shared empty)) in
    sum ∙ len-entries m ∙ sym (length-map {A = ℕ × Unit {0}} (entries m) (λ e. e.0))
