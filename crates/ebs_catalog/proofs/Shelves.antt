-- What is kept of each account's rules, through edits.
use Rattle.std.proofs.Common.{◌≡◌, ℕ, Bool, true, false, cond, Option, Some, None, Ordering, is_some, unwrap_or, refl, sym, ap, subst, ◌∙◌}
use Rattle.std.proofs.lemmas.Bool.{false≢true}
use Rattle.std.specs.Option.{option_map}
use Rattle.std.specs.Ordering.{nat_cmp, eq_by_cmp}
use Rattle.std.specs.Cmp.{IsTotalOrder, nat_cmp_total}
use Rattle.std.specs.FinMap.{FinMap, IsAntisymmetric, nat_cmp-IsAntisymmetric, get, contains_key, insert, remove, empty, same_map, get-insert, get-empty}
use Rattle.ebs_tables.specs.Full.{full}
use Rattle.ebs_tables.proofs.FullLaws.{get-full, flat}
use Rattle.ebs_tables.proofs.MapEdits.{is_same, insert-known}
use Rattle.ebs_model.specs.inner.MapValues.{map_values}
use Rattle.ebs_model.specs.Rules.{Book, no_rules}
use Rattle.ebs_model.specs.inner.Rules.{HasDays, KeepsDays}
use Rattle.ebs_model.proofs.Values.{get-map_values, map_values-insert, map_values-empty}
use Rattle.ebs_model.proofs.RuleLaws.{books-last}
use Rattle.ebs_bin.specs.Books.{Shelf, book}
use Rattle.ebs_catalog.specs.Sound.{AreBooks}
use Rattle.ebs_catalog.proofs.RowsKept.{again}

abbrev pub Shelves : Type 0
Shelves = FinMap nat_cmp Shelf

abbrev pub books_of : Shelves → FinMap nat_cmp Book
books_of m = map_values book m

none_some : {A : Type 0} (x : A) → ◌≡◌ {A = Option A} None (Some x) → ⊥
none_some x e = cc

pub some_same : {A : Type 0} (x y : A) → ◌≡◌ {A = Option A} (Some x) (Some y) → x ≡ y
some_same x y e = cc

-- tables with the same values and the same keys that are ready are one
pub same-slots : {K V : Type 0} {R : K → K → Ordering} (o : IsTotalOrder R) (same : IsAntisymmetric R) (a b : FinMap R (Option V)) → full a ≡ full b → ((q : K) → contains_key a q ≡ contains_key b q) → a ≡ b
same-slots o same a b values ready = same_map o same a b (λ q. by (get a q) (get b q) (sym (get-full o a q) ∙ ap (λ m. get m q) values ∙ get-full o b q) (ready q))
  where
    by : {V : Type 0} (x y : Option (Option V)) → flat x ≡ flat y → is_some x ≡ is_some y → x ≡ y
    by None None e r = refl
    by None (Some y) e r = absurd (false≢true r)
    by (Some x) None e r = absurd (false≢true (sym r))
    by (Some x) (Some y) e r = ap Some e

pub no-books : AreBooks empty
no-books = record {
  owner = λ account s e. absurd (none_some s (sym (get-empty nat_cmp account) ∙ e));
  days = λ account b e. absurd (none_some b (sym (get-empty nat_cmp account) ∙ sym (ap (λ m. get m account) (map_values-empty nat_cmp_total book nat_cmp-IsAntisymmetric)) ∙ e));
}

pub books-insert : (m : Shelves) (account : ℕ) (s : Shelf) → books_of (insert m account s) ≡ insert (books_of m) account (book s)
books-insert m account s = map_values-insert nat_cmp_total book nat_cmp-IsAntisymmetric m account s

pub books-again : (m : Shelves) (account : ℕ) (s : Shelf) → books_of (insert (remove m account) account s) ≡ insert (books_of m) account (book s)
books-again m account s = ap books_of (again nat_cmp_total nat_cmp-IsAntisymmetric m account s) ∙ books-insert m account s

pub get-books : (m : Shelves) (account : ℕ) → get (books_of m) account ≡ option_map book (get m account)
get-books m account = get-map_values nat_cmp_total book m account

-- the rules of an account
pub book-at : (m : Shelves) (account : ℕ) (o : Option Shelf) → get m account ≡ o → unwrap_or (get (books_of m) account) (no_rules 0) ≡ unwrap_or (option_map book o) (no_rules 0)
book-at m account o is = ap (λ x. unwrap_or x (no_rules 0)) (get-books m account ∙ ap (option_map book) is)

-- rules that are written
pub books-written : (m : Shelves) (account : ℕ) (s : Shelf) → s.account ≡ account → HasDays (book s) → AreBooks m → AreBooks (insert m account s)
books-written m account s own days h = record {
  owner = λ other x e. by other x (eq_by_cmp nat_cmp other account) refl (sym (get-insert nat_cmp_total m account s other) ∙ e);
  days = subst KeepsDays (sym (books-insert m account s)) (books-last (books_of m) h.days account (book s) days);
}
  where
    by : (other : ℕ) (x : Shelf) (t : Bool) → eq_by_cmp nat_cmp other account ≡ t → cond t (Some s) (get m other) ≡ Some x → x.account ≡ other
    by other x true t e = ap (λ (y : Shelf). y.account) (sym (some_same s x e)) ∙ own ∙ sym (is_same nat_cmp-IsAntisymmetric other account t)
    by other x false t e = h.owner other x e

pub days-at : (m : Shelves) (account : ℕ) (s : Shelf) → get m account ≡ Some s → AreBooks m → HasDays (book s)
days-at m account s at h = h.days account (book s) (get-books m account ∙ ap (option_map book) at)

-- and those that are written again, with the same rules
module _ (m : Shelves) (account : ℕ) (old new : Shelf) (at : get m account ≡ Some old) where
  pub books-back : book new ≡ book old → books_of (insert (remove m account) account new) ≡ books_of m
  books-back same = books-again m account new ∙ ap (insert (books_of m) account) same ∙ insert-known nat_cmp_total nat_cmp-IsAntisymmetric (books_of m) account (book old) (get-books m account ∙ ap (option_map book) at)

  pub books-kept : book new ≡ book old → new.account ≡ old.account → AreBooks m → AreBooks (insert (remove m account) account new)
  books-kept same own h =
      subst AreBooks (sym (again nat_cmp_total nat_cmp-IsAntisymmetric m account new))
      (books-written m account new (own ∙ h.owner account old at) (subst HasDays (sym same) (days-at m account old at h)) h)
