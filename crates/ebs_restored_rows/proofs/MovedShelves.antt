-- Shelves that go from a table into a catalog one by one.
use Rattle.std.proofs.Common.{◌≡◌, ℕ, ◌+◌, ◌-◌, ◌<◌, Bool, true, false, cond, ◌==◌, List, [], ◌∷◌, ◌++◌, length, take, get_or, Option, Some, None, IsSome, is_some, refl, sym, ap, subst, ◌∙◌, arith}
use Rattle.std.proofs.lemmas.List.{take_more}
use Rattle.std.specs.Ordering.{nat_cmp, eq_by_cmp}
use Rattle.std.specs.Cmp.{nat_cmp_total}
use Rattle.std.specs.FinMap.{nat_cmp-IsAntisymmetric, get, empty, remove, same_map, get-empty, get-insert, get-remove}
use Rattle.ebs_tables.proofs.MapEdits.{is_same}
use Rattle.ebs_model.specs.Rules.{Book}
use Rattle.ebs_model.specs.Rows.{Rows}
use Rattle.ebs_checkpoints.specs.declared.owned.AccountRow.{AccountRow}
use Rattle.ebs_row_rules.specs.Owners.{listed}
use Rattle.ebs_restored_rows.specs.Placed.{Books}
use Rattle.ebs_restored_rows.specs.Shelves.{AreListed, with_found}
use Rattle.ebs_restored_rows.proofs.FoundRows.{differs}

-- the one, or else the other
abbrev pub either : Option Book → Option Book → Option Book
either None other = other
either (Some b) other = Some b

-- the accounts of those that are left are among these, and what is left makes with what is there what was given
pub record IsMoving (accounts : List AccountRow) (given left there : Books) : Type 0 where
  pub listed : AreListed accounts left
  pub all : (q : ℕ) → either (get left q) (get there q) ≡ get given q

pub begun : (accounts : List AccountRow) (given there : Books) → AreListed accounts given → there ≡ empty → IsMoving accounts given given there
begun accounts given there are none = record { listed = are; all = λ q. by (get given q) (get there q) (ap (λ (b : Books). get b q) none ∙ get-empty nat_cmp q) }
  where
    by : (o p : Option Book) → p ≡ None → either o p ≡ o
    by None p e = e
    by (Some b) p e = refl

listed-front : (xs : List AccountRow) (x : AccountRow) (q : ℕ) → (x.account == q) ≡ false → IsSome (listed (xs ++ x ∷ []) q) → IsSome (listed xs q)
listed-front [] x q other e = subst (λ (b : Bool). IsSome (cond b (Some x) None)) other e
listed-front (y ∷ ys) x q other e = by (listed-front ys x q other) (y.account == q) e
  where
    by : (IsSome (listed (ys ++ x ∷ []) q) → IsSome (listed ys q)) → (b : Bool) → IsSome (cond b (Some y) (listed (ys ++ x ∷ []) q)) → IsSome (cond b (Some y) (listed ys q))
    by again true h = refl
    by again false h = again h

module _ (xs : List AccountRow) (x : AccountRow) (given left there : Books) (moving : IsMoving (xs ++ x ∷ []) given left there) where
  abbrev k : ℕ
  k = x.account

  abbrev after : Books
  after = with_found there k (get left k)

  -- what is found after that account's shelf was moved
  at : (o : Option Book) → get left k ≡ o → (q : ℕ) (b : Bool) → eq_by_cmp nat_cmp q k ≡ b → either (cond b None (get left q)) (get (with_found there k o) q) ≡ either (get left q) (get there q)
  at None is q true t = ap (λ (o : Option Book). either o (get there q)) (sym (ap (get left) (is_same nat_cmp-IsAntisymmetric q k t) ∙ is))
  at None is q false t = refl
  at (Some b) is q true t =
      get-insert nat_cmp_total there k b q ∙ ap (λ (h : Bool). cond h (Some b) (get there q)) t
      ∙ ap (λ (o : Option Book). either o (get there q)) (sym (ap (get left) (is_same nat_cmp-IsAntisymmetric q k t) ∙ is))
  at (Some b) is q false t = ap (either (get left q)) (get-insert nat_cmp_total there k b q ∙ ap (λ (h : Bool). cond h (Some b) (get there q)) t)

  left-listed : AreListed xs (remove left k)
  left-listed q there-q = by (eq_by_cmp nat_cmp q k) refl (sym (ap is_some (get-remove nat_cmp_total left k q)) ∙ there-q)
    where
      by : (b : Bool) → eq_by_cmp nat_cmp q k ≡ b → is_some (cond b None (get left q)) ≡ true → IsSome (listed xs q)
      by true t e = absurd (cc)
      by false t e = listed-front xs x q (differs q k t) (moving.listed q e)

  pub moved : IsMoving xs given (remove left k) after
  moved = record {
    listed = left-listed;
    all = λ q. ap (λ (o : Option Book). either o (get after q)) (get-remove nat_cmp_total left k q) ∙ at (get left k) refl q (eq_by_cmp nat_cmp q k) refl ∙ moving.all q;
  }

pub all-moved : (given left there : Books) → IsMoving [] given left there → there ≡ given
all-moved given left there moving = same_map nat_cmp_total nat_cmp-IsAntisymmetric there given (λ q. by q (get left q) refl (moving.all q))
  where
    none : (q : ℕ) (b : Book) → get left q ≡ Some b → ⊥
    none q b is = let e : IsSome (listed [] q) = moving.listed q (ap is_some is) in absurd (cc)

    by : (q : ℕ) (o : Option Book) → get left q ≡ o → either (get left q) (get there q) ≡ get given q → get there q ≡ get given q
    by q None is e = sym (ap (λ (o : Option Book). either o (get there q)) is) ∙ e
    by q (Some b) is e = absurd (none q b is)

-- one account less is to come
pub one-less : (accounts : List AccountRow) (at : ℕ) (d x : AccountRow) (given left there left-after there-after : Books) → at - 1 < length accounts → 0 < at → x ≡ get_or accounts (at - 1) d → IsMoving (take at accounts) given left there
    → left-after ≡ remove left x.account → there-after ≡ with_found there x.account (get left x.account) → IsMoving (take (at - 1) accounts) given left-after there-after
one-less accounts at d x given left there left-after there-after within some is moving left-is there-is =
    let whole : take at accounts ≡ take (at - 1) accounts ++ x ∷ [] = ap (λ n. take n accounts) (back at some) ∙ take_more accounts (at - 1) d within ∙ ap (λ y. take (at - 1) accounts ++ y ∷ []) (sym is) in
    subst (λ (l : Books). IsMoving (take (at - 1) accounts) given l there-after) (sym left-is)
    (subst (λ (t : Books). IsMoving (take (at - 1) accounts) given (remove left x.account) t) (sym there-is)
    (moved (take (at - 1) accounts) x given left there (subst (λ (xs : List AccountRow). IsMoving xs given left there) whole moving)))
  where
    back : (n : ℕ) → 0 < n → n ≡ n - 1 + 1
    back n l = omega (arith, l)

-- nothing but the rules changes
pub rest-stays : (rows old new : Rows) (b : Books) → old ≡ record rows { books = old.books } → new ≡ record old { books = b } → new ≡ record rows { books = new.books }
rest-stays rows old new b before is = is ∙ ap (λ (r : Rows). record r { books = b }) before ∙ ap (λ (r : Rows). record rows { books = r.books }) (sym is)
