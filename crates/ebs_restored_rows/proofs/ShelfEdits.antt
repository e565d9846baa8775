-- Shelves of rules, through the edits of a table.
use Rattle.std.proofs.Common.{◌≡◌, ℕ, ◌≤◌, Bool, true, false, cond, List, Option, Some, None, All, is_some, unwrap_or, refl, sym, ap, subst, ◌∙◌, arith}
use Rattle.std.specs.Prelude.{nat_lt}
use Rattle.std.proofs.lemmas.Bool.Decides.{nat_tests}
use Rattle.std.proofs.lemmas.List.Elements.{All-weaker}
use Rattle.std.specs.Option.{option_map}
use Rattle.std.specs.Ordering.{nat_cmp, eq_by_cmp}
use Rattle.std.specs.Cmp.{nat_cmp_total}
use Rattle.std.specs.FinMap.{nat_cmp-IsAntisymmetric, get, contains_key, empty, insert, remove, get-insert, get-remove}
use Rattle.ebs_model.specs.declared.rules.Rule.{Rule}
use Rattle.ebs_model.specs.declared.rules.RuleChange.TheVariants.{Put}
use Rattle.ebs_model.specs.Rules.{Book, no_rules}
use Rattle.ebs_model.specs.inner.Rules.{HasDays, KeepsDays}
use Rattle.ebs_model.specs.RuleCommands.{committed}
use Rattle.ebs_model.proofs.RuleLaws.{none-lasts}
use Rattle.ebs_model.proofs.Values.{map_values-remove, map_values-empty}
use Rattle.ebs_bin.specs.Books.{Shelf, book}
use Rattle.ebs_catalog.specs.Sound.{AreBooks}
use Rattle.ebs_catalog.proofs.Shelves.{books-insert, books-again, books-written, days-at, get-books, some_same}
use Rattle.ebs_catalog.proofs.RowsKept.{again}
use Rattle.ebs_restored_rows.specs.Placed.{Books, with_rule}
use Rattle.ebs_restored_rows.specs.Shelves.{MayShelve, Shelves, books_in}

none_some : {A : Type 0} (x : A) → ◌≡◌ {A = Option A} None (Some x) → ⊥
none_some x e = cc

-- ---- a new shelf

pub has-rules : (next : ℕ) → 1 ≤ next → true ≡ nat_lt 0 next
has-rules next h = sym (tested next h)
  where
    tested : (next : ℕ) → 1 ≤ next → nat_lt 0 next ≡ true
    tested next h = grind (arith, nat_tests)

pub new-sound : (m : Shelves) (account first : ℕ) (s : Shelf) → s.account ≡ account → book s ≡ no_rules first → AreBooks m → AreBooks (insert m account s)
new-sound m account first s own is h = books-written m account s own (subst HasDays (sym is) (none-lasts first)) h

pub new-books : (m : Shelves) (account first : ℕ) (s : Shelf) → book s ≡ no_rules first → books_in (insert m account s) ≡ insert (books_in m) account (no_rules first)
new-books m account first s is = books-insert m account s ∙ ap (insert (books_in m) account) is

-- ---- a rule on a shelf

put-days : (b : Book) (r : Rule) → 1 ≤ r.days → HasDays b → HasDays (committed b (Put r))
put-days b r days h number rule e = by (eq_by_cmp nat_cmp number r.key.number) (sym (get-insert nat_cmp_total b.rules r.key.number r number) ∙ e)
  where
    by : (t : Bool) → cond t (Some r) (get b.rules number) ≡ Some rule → 1 ≤ rule.days
    by true f = subst (λ (x : Rule). 1 ≤ x.days) (some_same r rule f) days
    by false f = h number rule f

-- the shelf is taken out, gets a rule and goes back
module _ (m : Shelves) (r : Rule) (old new : Shelf) (at : get m r.key.account ≡ Some old) (is : book new ≡ committed (book old) (Put r)) where
  abbrev k : ℕ
  k = r.key.account

  old-book : unwrap_or (get (books_in m) k) (no_rules 0) ≡ book old
  old-book = ap (λ (o : Option Book). unwrap_or o (no_rules 0)) (get-books m k ∙ ap (option_map book) at)

  pub put-books : books_in (insert (remove m k) k new) ≡ with_rule (books_in m) r
  put-books = books-again m k new ∙ ap (insert (books_in m) k) (is ∙ ap (λ b. committed b (Put r)) (sym old-book))

  pub put-sound : new.account ≡ old.account → 1 ≤ r.days → AreBooks m → AreBooks (insert (remove m k) k new)
  put-sound own days h = subst AreBooks (sym (again nat_cmp_total nat_cmp-IsAntisymmetric m k new))
      (books-written m k new (own ∙ h.owner k old at) (subst HasDays (sym is) (put-days (book old) r days (days-at m k old at h))) h)

-- the shelves that are there stay there
pub still-may : (books : Books) (r : Rule) (rest : List Rule) → All (MayShelve books) rest → All (MayShelve (with_rule books r)) rest
still-may books r rest all = All-weaker (MayShelve books) (MayShelve (with_rule books r)) (λ x may. record { shelf = stays x may.shelf; days = may.days }) rest all
  where
    stays : (x : Rule) → contains_key books x.key.account ≡ true → contains_key (with_rule books r) x.key.account ≡ true
    stays x there = ap is_some (get-insert nat_cmp_total books r.key.account _ x.key.account) ∙ by (eq_by_cmp nat_cmp x.key.account r.key.account)
      where
        by : (t : Bool) → is_some (cond t (Some (committed (unwrap_or (get books r.key.account) (no_rules 0)) (Put r))) (get books x.key.account)) ≡ true
        by true = refl
        by false = there

-- ---- a shelf is taken out

pub taken-books : (m : Shelves) (account : ℕ) → books_in (remove m account) ≡ remove (books_in m) account
taken-books m account = map_values-remove nat_cmp_total book nat_cmp-IsAntisymmetric m account

pub taken-sound : (m : Shelves) (account : ℕ) → AreBooks m → AreBooks (remove m account)
taken-sound m account h = record {
  owner = λ other s e. owner other s (eq_by_cmp nat_cmp other account) (sym (get-remove nat_cmp_total m account other) ∙ e);
  days = subst KeepsDays (sym (taken-books m account)) (λ other b e. days other b (eq_by_cmp nat_cmp other account) (sym (get-remove nat_cmp_total (books_in m) account other) ∙ e));
}
  where
    owner : (other : ℕ) (s : Shelf) (t : Bool) → cond t None (get m other) ≡ Some s → s.account ≡ other
    owner other s true e = absurd (none_some s e)
    owner other s false e = h.owner other s e

    days : (other : ℕ) (b : Book) (t : Bool) → cond t None (get (books_in m) other) ≡ Some b → HasDays b
    days other b true e = absurd (none_some b e)
    days other b false e = h.days other b e

pub no-shelf : (m : Shelves) (account : ℕ) → get m account ≡ None → contains_key (books_in m) account ≡ true → ⊥
no-shelf m account none there = let e : false ≡ true = sym (ap is_some (get-books m account ∙ ap (option_map book) none)) ∙ there in absurd (cc)

-- what a shelf has is what its books say
pub found-book : (m : Shelves) (account : ℕ) (o : Option Shelf) → o ≡ get m account → get (books_in m) account ≡ option_map book o
found-book m account o is = get-books m account ∙ ap (option_map book) (sym is)

pub no-shelves : books_in empty ≡ empty
no-shelves = map_values-empty nat_cmp_total book nat_cmp-IsAntisymmetric
