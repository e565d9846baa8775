-- The account of a row is found in tables that are made of listed accounts.
use Rattle.std.proofs.Common.{◌≡◌, ℕ, Bool, true, false, cond, ◌==◌, List, [], ◌∷◌, map, Option, Some, None, IsSome, is_some, refl, sym, ap, subst, ◌∙◌, arith}
use Rattle.std.proofs.lemmas.Bool.Decides.{nat_tests}
use Rattle.std.specs.Option.{option_map}
use Rattle.std.specs.List.{filter}
use Rattle.std.specs.Ordering.{nat_cmp, eq_by_cmp}
use Rattle.std.specs.Cmp.{nat_cmp_total}
use Rattle.std.specs.FinMap.{nat_cmp-IsAntisymmetric, get, contains_key, find, from_entries, get-from_entries}
use Rattle.ebs_tables.proofs.MapEdits.{is_same, tied}
use Rattle.ebs_checkpoints.specs.declared.owned.AccountRow.{AccountRow}
use Rattle.ebs_row_rules.specs.Owners.{listed}
use Rattle.ebs_recovery.specs.Bases.{has_own, own_of}
use Rattle.ebs_restored_rows.specs.Said.{owns_said}

pub some_is : {A : Type 0} (x y : A) → Some x ≡ Some y → x ≡ y
some_is x y e = cc

never : {A : Type 0} → true ≡ false → A
never e = absurd (cc)

same_number : (a b : ℕ) → (a == b) ≡ true → a ≡ b
same_number a b e = grind (arith, nat_tests)

pub number_is : (a b : ℕ) → a ≡ b → (a == b) ≡ true
number_is a b e = grind (arith, nat_tests)

-- the tests of one number agree
pub ties : (q a : ℕ) (b : Bool) → (a == q) ≡ b → eq_by_cmp nat_cmp q a ≡ b
ties q a true e = ap (λ (n : ℕ). eq_by_cmp nat_cmp q n) (same_number a q e) ∙ tied nat_cmp_total q
ties q a false e = by (eq_by_cmp nat_cmp q a) refl
  where
    by : (t : Bool) → eq_by_cmp nat_cmp q a ≡ t → eq_by_cmp nat_cmp q a ≡ false
    by true is = never (sym (number_is a q (sym (is_same nat_cmp-IsAntisymmetric q a is))) ∙ e)
    by false is = is

pub differs : (q a : ℕ) → eq_by_cmp nat_cmp q a ≡ false → (a == q) ≡ false
differs q a e = by (a == q) refl
  where
    by : (t : Bool) → (a == q) ≡ t → (a == q) ≡ false
    by true is = never (sym (ties q a true is) ∙ e)
    by false is = is

-- the first row of an account
abbrev pub found : ℕ → List AccountRow → Option AccountRow
found q [] = None
found q (a ∷ accounts) = cond (eq_by_cmp nat_cmp q a.account) (Some a) (found q accounts)

find-found : {X : Type 0} (f : AccountRow → X) (accounts : List AccountRow) (q : ℕ) → find nat_cmp q (map (λ a. (a.account, f a)) accounts) ≡ option_map f (found q accounts)
find-found f [] q = refl
find-found f (a ∷ accounts) q = by (eq_by_cmp nat_cmp q a.account) (find-found f accounts q)
  where
    by : (b : Bool) → find nat_cmp q (map (λ a. (a.account, f a)) accounts) ≡ option_map f (found q accounts) → cond b (Some (f a)) (find nat_cmp q (map (λ a. (a.account, f a)) accounts)) ≡ option_map f (cond b (Some a) (found q accounts))
    by true h = refl
    by false h = h

pub get-found : {X : Type 0} (f : AccountRow → X) (accounts : List AccountRow) (q : ℕ) → get (from_entries {R = nat_cmp} (map (λ a. (a.account, f a)) accounts)) q ≡ option_map f (found q accounts)
get-found f accounts q = get-from_entries nat_cmp_total (map (λ a. (a.account, f a)) accounts) q ∙ find-found f accounts q

pub found-is : (accounts : List AccountRow) (q : ℕ) (a : AccountRow) → found q accounts ≡ Some a → q ≡ a.account
found-is [] q a e = absurd (cc)
found-is (x ∷ xs) q a e = by (eq_by_cmp nat_cmp q x.account) refl (found-is xs q a) e
  where
    by : (b : Bool) → eq_by_cmp nat_cmp q x.account ≡ b → (found q xs ≡ Some a → q ≡ a.account) → cond b (Some x) (found q xs) ≡ Some a → q ≡ a.account
    by true is again h = is_same nat_cmp-IsAntisymmetric q x.account is ∙ ap (λ (y : AccountRow). y.account) (some_is x a h)
    by false is again h = again h

-- a listed account is found among those that are kept, where it is kept
pub kept-found : (keep : AccountRow → Bool) (accounts : List AccountRow) (q : ℕ) (a : AccountRow) → listed accounts q ≡ Some a → keep a ≡ true → found q (filter keep accounts) ≡ Some a
kept-found keep [] q a e kept = absurd (cc)
kept-found keep (x ∷ xs) q a e kept = by (x.account == q) refl (λ h. kept-found keep xs q a h kept) e
  where
    here : x ≡ a → (x.account == q) ≡ true → (k : Bool) → keep x ≡ k → found q (cond k (x ∷ filter keep xs) (filter keep xs)) ≡ Some a
    here same t true is = ap (λ b. cond b (Some x) (found q (filter keep xs))) (ties q x.account true t) ∙ ap Some same
    here same t false is = never (sym kept ∙ ap keep (sym same) ∙ is)

    there : (x.account == q) ≡ false → found q (filter keep xs) ≡ Some a → (k : Bool) → found q (cond k (x ∷ filter keep xs) (filter keep xs)) ≡ Some a
    there t rest true = ap (λ b. cond b (Some x) (found q (filter keep xs))) (ties q x.account false t) ∙ rest
    there t rest false = rest

    by : (b : Bool) → (x.account == q) ≡ b → (listed xs q ≡ Some a → found q (filter keep xs) ≡ Some a) → cond b (Some x) (listed xs q) ≡ Some a → found q (filter keep (x ∷ xs)) ≡ Some a
    by true t again h = here (some_is x a h) t (keep x) refl
    by false t again h = there t (again h) (keep x)

-- and what is found among them is listed
pub found-listed : (keep : AccountRow → Bool) (accounts : List AccountRow) (q : ℕ) → IsSome (found q (filter keep accounts)) → IsSome (listed accounts q)
found-listed keep [] q e = e
found-listed keep (x ∷ xs) q e = by (found-listed keep xs q) (x.account == q) refl
  where
    rest : (x.account == q) ≡ false → (k : Bool) → IsSome (found q (cond k (x ∷ filter keep xs) (filter keep xs))) → IsSome (found q (filter keep xs))
    rest t true h = subst (λ b. IsSome (cond b (Some x) (found q (filter keep xs)))) (ties q x.account false t) h
    rest t false h = h

    by : (IsSome (found q (filter keep xs)) → IsSome (listed xs q)) → (b : Bool) → (x.account == q) ≡ b → IsSome (cond b (Some x) (listed xs q))
    by again true t = refl
    by again false t = again (rest t (keep x) e)

-- an account that has begun is there
pub owner-there : (accounts : List AccountRow) (q : ℕ) (a : AccountRow) → listed accounts q ≡ Some a → has_own a ≡ true → contains_key (owns_said accounts) q ≡ true
owner-there accounts q a there begun = ap is_some (get-found own_of (filter has_own accounts) q ∙ ap (option_map own_of) (kept-found has_own accounts q a there begun))
