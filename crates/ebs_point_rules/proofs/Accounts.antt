-- What a machine has of accounts, by their numbers.
use Rattle.std.proofs.Common.{◌≡◌, ℕ, arith, Bool, true, false, cond, ◌==◌, List, [], ◌∷◌, map, Option, Some, None, refl, sym, ap, ◌∙◌}
use Rattle.std.specs.Prelude.{nat_lt}
use Rattle.std.proofs.lemmas.Bool.Decides.{nat_tests}
use Rattle.std.specs.List.{list_all, filter}
use Rattle.std.specs.Ordering.{nat_cmp, eq_by_cmp}
use Rattle.std.specs.Cmp.{nat_cmp_total}
use Rattle.std.specs.FinMap.{nat_cmp-IsAntisymmetric, get, find, get-from_entries}
use Rattle.ebs_tables.proofs.MapEdits.{is_same, tied}
use Rattle.ebs_checkpoints.specs.declared.owned.AccountRow.{AccountRow}
use Rattle.ebs_checkpoints.specs.declared.checkpoint.Checkpoint.{Checkpoint}
use Rattle.ebs_row_rules.specs.Order.{has_ordered_accounts}
use Rattle.ebs_row_rules.specs.Owners.{listed}
use Rattle.ebs_node_rules.specs.inner.Nodes as pairs
use Rattle.ebs_checkpoint_rules.proofs.Ascents.{pairwise}
use Rattle.ebs_recovery.specs.Bases.{has_own, own_of, owns_of, has_book, book_of, books_of}
use Rattle.ebs_lawful_points.proofs.Parts.{two}
use Rattle.ebs_lawful_points.proofs.RowRules.{same-is}
use Rattle.ebs_lawful_points.proofs.SnapPoints.{same}
use Rattle.ebs_point_rules.specs.Listed.{own_in, book_in}

-- the tests of one number agree
ties : (q a : ℕ) (b : Bool) → (a == q) ≡ b → eq_by_cmp nat_cmp q a ≡ b
ties q a true e = ap (λ (n : ℕ). eq_by_cmp nat_cmp q n) (same a q e) ∙ tied nat_cmp_total q
ties q a false e = by (eq_by_cmp nat_cmp q a) refl
  where
    never : true ≡ false → ⊥
    never e = cc

    by : (t : Bool) → eq_by_cmp nat_cmp q a ≡ t → eq_by_cmp nat_cmp q a ≡ false
    by true is = absurd (never (sym (same-is a q (sym (is_same nat_cmp-IsAntisymmetric q a is))) ∙ e))
    by false is = is

other : (q a b : ℕ) → (a == q) ≡ true → nat_lt a b ≡ true → (b == q) ≡ false
other q a b e l = grind (arith, nat_tests)

module _ {X : Type 0} (keep : AccountRow → Bool) (f : AccountRow → X) (q : ℕ) where
  abbrev kept : Option AccountRow → Option X
  kept None = None
  kept (Some a) = cond (keep a) (Some (f a)) None

  abbrev found : List AccountRow → Option X
  found accounts = find nat_cmp q (map {B = ℕ × X} (λ a. (a.account, f a)) (filter keep accounts))

  -- behind the account with this number there is no other
  none-behind : (a : ℕ) → (a == q) ≡ true → (xs : List AccountRow) → list_all (λ (y : AccountRow). nat_lt a y.account) xs ≡ true → listed xs q ≡ None
  none-behind a e [] above = refl
  none-behind a e (x ∷ xs) above =
      let both = two (nat_lt a x.account) (list_all (λ (y : AccountRow). nat_lt a y.account) xs) above in
      ap (λ (b : Bool). cond b (Some x) (listed xs q)) (other q a x.account e both.0) ∙ none-behind a e xs both.1

  found-kept : (accounts : List AccountRow) → pairs.ascends (λ (a : AccountRow). a.account) accounts ≡ true → found accounts ≡ kept (listed accounts q)
  found-kept [] up = refl
  found-kept (x ∷ xs) up = by (found-kept xs both.1) (x.account == q) refl (keep x) refl
    where
      both : (list_all (λ (y : AccountRow). nat_lt x.account y.account) xs ≡ true) × (pairs.ascends (λ (a : AccountRow). a.account) xs ≡ true)
      both = two (list_all (λ (y : AccountRow). nat_lt x.account y.account) xs) (pairs.ascends (λ (a : AccountRow). a.account) xs) up

      by : found xs ≡ kept (listed xs q) → (b : Bool) → (x.account == q) ≡ b → (k : Bool) → keep x ≡ k
          → find nat_cmp q (map {B = ℕ × X} (λ a. (a.account, f a)) (cond k (x ∷ filter keep xs) (filter keep xs))) ≡ kept (cond b (Some x) (listed xs q))
      by rest true e true is = ap (λ (t : Bool). cond t (Some (f x)) (found xs)) (ties q x.account true e) ∙ ap (λ (t : Bool). cond t (Some (f x)) None) (sym is)
      by rest true e false is = rest ∙ ap kept (none-behind x.account e xs both.0) ∙ ap (λ (t : Bool). cond t (Some (f x)) None) (sym is)
      by rest false e true is = ap (λ (t : Bool). cond t (Some (f x)) (found xs)) (ties q x.account false e) ∙ rest
      by rest false e false is = rest

module _ (point : Checkpoint) (up : has_ordered_accounts point.accounts ≡ true) (q : ℕ) where
  rises : pairs.ascends (λ (a : AccountRow). a.account) point.accounts ≡ true
  rises = pairwise (λ (a : AccountRow). a.account) point.accounts up

  own-as : (o : Option AccountRow) → kept has_own own_of q o ≡ own_in o
  own-as None = refl
  own-as (Some a) = refl

  book-as : (o : Option AccountRow) → kept has_book (book_of point.rules) q o ≡ book_in point.rules o
  book-as None = refl
  book-as (Some a) = refl

  pub own-found : get (owns_of point) q ≡ own_in (listed point.accounts q)
  unfolding owns_of
  own-found = get-from_entries nat_cmp_total (map (λ (a : AccountRow). (a.account, own_of a)) (filter has_own point.accounts)) q
      ∙ found-kept has_own own_of q point.accounts rises ∙ own-as (listed point.accounts q)

  pub book-found : get (books_of point) q ≡ book_in point.rules (listed point.accounts q)
  unfolding books_of
  book-found = get-from_entries nat_cmp_total (map (λ (a : AccountRow). (a.account, book_of point.rules a)) (filter has_book point.accounts)) q
      ∙ found-kept has_book (book_of point.rules) q point.accounts rises ∙ book-as (listed point.accounts q)
