-- Accounts that are listed, and what is found in maps that are made of them.
use Rattle.std.proofs.Common.{◌≡◌, ℕ, ◌+◌, ◌<◌, ◌≤◌, arith, Bool, true, false, cond, ◌==◌, List, [], ◌∷◌, map, Option, Some, None, refl, sym, ap, ◌∙◌}
use Rattle.std.specs.Prelude.{nat_lt, unwrap_or}
use Rattle.std.proofs.lemmas.Bool.Decides.{nat_tests}
use Rattle.std.specs.List.{list_all, filter, AllByRecursion}
use Rattle.std.specs.Ordering.{nat_cmp, eq_by_cmp}
use Rattle.std.specs.Cmp.{nat_cmp_total}
use Rattle.std.specs.FinMap.{nat_cmp-IsAntisymmetric, get, find, get-from_entries}
use Rattle.ebs_tables.proofs.MapEdits.{is_same, tied}
use Rattle.ebs_model.specs.declared.rows.Own.{Own}
use Rattle.ebs_model.specs.Rows.{no_own}
use Rattle.ebs_checkpoints.specs.declared.owned.AccountRow.{AccountRow}
use Rattle.ebs_checkpoints.specs.declared.checkpoint.Checkpoint.{Checkpoint}
use Rattle.ebs_row_rules.specs.Order.{has_ordered_accounts}
use Rattle.ebs_row_rules.specs.Owners.{listed, is_made}
use Rattle.ebs_node_rules.specs.inner.Nodes as pairs
use Rattle.ebs_checkpoint_rules.proofs.Ascents.{pairwise}
use Rattle.ebs_recovery.specs.Bases.{has_own, own_of, owns_of, has_book, book_of, books_of}
use Rattle.ebs_lawful_points.proofs.Parts.{two, each-of, weaker, both}

some_is : {A : Type 0} (x y : A) → Some x ≡ Some y → x ≡ y
some_is x y e = cc

same_number : (a b : ℕ) → (a == b) ≡ true → a ≡ b
same_number a b e = grind (arith, nat_tests)

number_is : (a b : ℕ) → a ≡ b → (a == b) ≡ true
number_is a b e = grind (arith, nat_tests)

-- the tests of one number agree
ties : (q a : ℕ) (b : Bool) → (a == q) ≡ b → eq_by_cmp nat_cmp q a ≡ b
ties q a true e = ap (λ (n : ℕ). eq_by_cmp nat_cmp q n) (same_number a q e) ∙ tied nat_cmp_total q
ties q a false e = by (eq_by_cmp nat_cmp q a) refl
  where
    never : true ≡ false → ⊥
    never e = cc

    by : (t : Bool) → eq_by_cmp nat_cmp q a ≡ t → eq_by_cmp nat_cmp q a ≡ false
    by true is = absurd (never (sym (number_is a q (sym (is_same nat_cmp-IsAntisymmetric q a is))) ∙ e))
    by false is = is

-- the account's row is what is found, in what is made of those that are kept
kept-found : {X : Type 0} (keep : AccountRow → Bool) (f : AccountRow → X) (accounts : List AccountRow) (q : ℕ) (a : AccountRow) → listed accounts q ≡ Some a → keep a ≡ true
    → find nat_cmp q (map (λ x. (x.account, f x)) (filter keep accounts)) ≡ Some (f a)
kept-found keep f [] q a e kept = absurd (cc)
kept-found {X = X} keep f (x ∷ xs) q a e kept = by (x.account == q) refl (λ h. kept-found keep f xs q a h kept) e
  where
    here : x ≡ a → (x.account == q) ≡ true → (k : Bool) → keep x ≡ k → find nat_cmp q (map (λ x. (x.account, f x)) (cond k (x ∷ filter keep xs) (filter keep xs))) ≡ Some (f a)
    here same t true is = rw (ties q x.account true t) (ap (λ (y : AccountRow). Some (f y)) same)
    here same t false is = absurd (never (sym is ∙ ap keep same ∙ kept))
      where
        never : false ≡ true → ⊥
        never e = cc

    there : (x.account == q) ≡ false → find nat_cmp q (map (λ x. (x.account, f x)) (filter keep xs)) ≡ Some (f a) → (k : Bool) → find nat_cmp q (map (λ x. (x.account, f x)) (cond k (x ∷ filter keep xs) (filter keep xs))) ≡ Some (f a)
    there t rest true = rw (ties q x.account false t) rest
    there t rest false = rest

    by : (b : Bool) → (x.account == q) ≡ b → (listed xs q ≡ Some a → find nat_cmp q (map (λ x. (x.account, f x)) (filter keep xs)) ≡ Some (f a)) → cond b (Some x) (listed xs q) ≡ Some a
        → find nat_cmp q (map (λ x. (x.account, f x)) (filter keep (x ∷ xs))) ≡ Some (f a)
    by true t again h = here (some_is x a h) t (keep x) refl
    by false t again h = there t (again h) (keep x)

-- whose number was made
pub maker : (next : AccountRow → ℕ) (number : ℕ) (o : Option AccountRow) → is_made next number o ≡ true → (a : AccountRow) × (o ≡ Some a) × (number < next a)
maker next number None e = absurd (cc)
maker next number (Some a) e = (a, refl, below number (next a) e)
  where
    below : (a b : ℕ) → nat_lt a b ≡ true → a < b
    below a b e = grind (arith, nat_tests)

positive : (n : ℕ) → 1 ≤ n → nat_lt 0 n ≡ true
positive n h = grind (arith, nat_tests)

module _ (point : Checkpoint) (q : ℕ) (a : AccountRow) (there : listed point.accounts q ≡ Some a) where
  -- the account's counters
  pub own-listed : 1 ≤ a.next_snap + (a.next_vol + a.next_policy) → unwrap_or (get (owns_of point) q) no_own ≡ own_of a
  unfolding owns_of
  own-listed begun = ap (λ (o : Option Own). unwrap_or o no_own)
      (get-from_entries nat_cmp_total (map (λ (x : AccountRow). (x.account, own_of x)) (filter has_own point.accounts)) q
      ∙ kept-found has_own own_of point.accounts q a there (positive (a.next_snap + (a.next_vol + a.next_policy)) begun))

  -- and its rules
  pub book-listed : 1 ≤ a.next_rule → get (books_of point) q ≡ Some (book_of point.rules a)
  unfolding books_of
  book-listed begun =
      get-from_entries nat_cmp_total (map (λ (x : AccountRow). (x.account, book_of point.rules x)) (filter has_book point.accounts)) q
      ∙ kept-found has_book (book_of point.rules) point.accounts q a there (positive a.next_rule begun)

-- ---- in a list that ascends each account's row is found

another : (a b : ℕ) → nat_lt a b ≡ true → (a == b) ≡ false
another a b e = grind (arith, nat_tests)

listed-by-pairs : (accounts : List AccountRow) → pairs.ascends (λ (a : AccountRow). a.account) accounts ≡ true → AllByRecursion (λ (a : AccountRow). listed accounts a.account ≡ Some a) accounts
listed-by-pairs [] up = tt
listed-by-pairs (x ∷ xs) up =
    let parts = two (list_all (λ (y : AccountRow). nat_lt x.account y.account) xs) (pairs.ascends (λ (a : AccountRow). a.account) xs) up in (
      rw (number_is x.account x.account refl) refl,
      weaker (λ (a : AccountRow). (nat_lt x.account a.account ≡ true) × (listed xs a.account ≡ Some a)) (λ (a : AccountRow). listed (x ∷ xs) a.account ≡ Some a)
          (λ a h. rw (another x.account a.account h.0) h.1) xs
          (both (λ (a : AccountRow). nat_lt x.account a.account ≡ true) (λ (a : AccountRow). listed xs a.account ≡ Some a) xs (each-of (λ (y : AccountRow). nat_lt x.account y.account) xs parts.0) (listed-by-pairs xs parts.1)),
    )

pub all-listed : (accounts : List AccountRow) → has_ordered_accounts accounts ≡ true → AllByRecursion (λ (a : AccountRow). listed accounts a.account ≡ Some a) accounts
all-listed accounts up = listed-by-pairs accounts (pairwise (λ (a : AccountRow). a.account) accounts up)
