-- Rules that are put on shelves one by one make the books that lists say.
use Rattle.std.proofs.Common.{◌≡◌, ℕ, ◌+◌, ◌<◌, Bool, true, false, cond, ◌==◌, List, [], ◌∷◌, map, Option, Some, None, IsSome, is_some, unwrap_or, refl, sym, ap, ◌∙◌, arith}
use Rattle.std.specs.Prelude.{max, nat_lt}
use Rattle.std.proofs.lemmas.Bool.Decides.{nat_tests}
use Rattle.std.specs.Option.{option_map}
use Rattle.std.specs.List.{filter, list_all}
use Rattle.std.specs.Ordering.{nat_cmp, eq_by_cmp}
use Rattle.std.specs.Cmp.{nat_cmp_total}
use Rattle.std.specs.FinMap.{nat_cmp-IsAntisymmetric, get, contains_key, empty, insert, from_entries, same_map, get-insert}
use Rattle.ebs_tables.proofs.MapEdits.{is_same}
use Rattle.ebs_model.specs.declared.rules.Rule.{Rule}
use Rattle.ebs_model.specs.declared.rules.RuleChange.TheVariants.{Put}
use Rattle.ebs_model.specs.Rules.{Book, no_rules}
use Rattle.ebs_model.specs.RuleCommands.{committed}
use Rattle.ebs_checkpoints.specs.declared.owned.AccountRow.{AccountRow}
use Rattle.ebs_row_rules.specs.Owners.{listed, is_owned_rule}
use Rattle.ebs_recovery.specs.Bases.{has_book, book_of}
use Rattle.ebs_lawful_points.proofs.Parts.{two}
use Rattle.ebs_lawful_points.proofs.Listed.{maker}
use Rattle.ebs_restored_rows.specs.Placed.{put_all, with_book, with_rule}
use Rattle.ebs_restored_rows.specs.Said.{books_said}
use Rattle.ebs_restored_rows.proofs.FoundRows.{found, found-is, kept-found, found-listed, get-found, number_is, differs}

-- ---- books without rules

pub books-begun : (accounts : List AccountRow) → put_all with_book empty accounts ≡ books_said accounts []
books-begun [] = refl
books-begun (a ∷ rest) = ap (λ b. with_book b a) (books-begun rest) ∙ by (has_book a)
  where
    by : (b : Bool) → cond b (insert (books_said rest []) a.account (no_rules a.next_rule)) (books_said rest [])
        ≡ from_entries (map (λ (x : AccountRow). (x.account, book_of [] x)) (cond b (a ∷ filter has_book rest) (filter has_book rest)))
    by true = refl
    by false = refl

-- ---- one rule more

abbrev of_account : ℕ → Rule → Bool
of_account account r = r.key.account == account

abbrev entry : Rule → ℕ × Rule
entry r = (r.key.number, r)

most : (a n : ℕ) → n < a → max a (n + 1) ≡ a
most a n l = omega (arith, l)

grown : (r : Rule) (rs : List Rule) (a : AccountRow) → (r.key.account == a.account) ≡ true → r.key.number < a.next_rule → committed (book_of rs a) (Put r) ≡ book_of (r ∷ rs) a
grown r rs a same less =
    let rest = filter (of_account a.account) rs in
    let rules = ap (λ b. from_entries {R = nat_cmp} (map entry (cond b (r ∷ rest) rest))) (sym same) in
    λ i. record { rules = rules i; next = most a.next_rule r.key.number less i }

apart : (r : Rule) (rs : List Rule) (a : AccountRow) → (r.key.account == a.account) ≡ false → book_of rs a ≡ book_of (r ∷ rs) a
apart r rs a other =
    let rest = filter (of_account a.account) rs in
    let rules = ap (λ b. from_entries {R = nat_cmp} (map entry (cond b (r ∷ rest) rest))) (sym other) in
    λ i. record { rules = rules i; next = a.next_rule }

positive : (n a : ℕ) → n < a → nat_lt 0 a ≡ true
positive n a l = grind (arith, nat_tests)

module _ (accounts : List AccountRow) (r : Rule) (owned : is_owned_rule accounts r ≡ true) where
  abbrev kept : List AccountRow
  kept = filter has_book accounts

  made : (a : AccountRow) × (listed accounts r.key.account ≡ Some a) × (r.key.number < a.next_rule)
  made = maker (λ (a : AccountRow). a.next_rule) r.key.number (listed accounts r.key.account) owned

  here : found r.key.account kept ≡ Some made.0
  here = kept-found has_book accounts r.key.account made.0 made.1 (positive r.key.number made.0.next_rule made.2)

  pub shelf-there : (rs : List Rule) → contains_key (books_said accounts rs) r.key.account ≡ true
  shelf-there rs = ap is_some (get-found (book_of rs) kept r.key.account ∙ ap (option_map (book_of rs)) here)

  pub one-rule : (rs : List Rule) → with_rule (books_said accounts rs) r ≡ books_said accounts (r ∷ rs)
  one-rule rs = same_map nat_cmp_total nat_cmp-IsAntisymmetric _ _ at
    where
      k : ℕ
      k = r.key.account

      a : AccountRow
      a = made.0

      old : Book
      old = unwrap_or (get (books_said accounts rs) k) (no_rules 0)

      old-is : old ≡ book_of rs a
      old-is = ap (λ (o : Option Book). unwrap_or o (no_rules 0)) (get-found (book_of rs) kept k ∙ ap (option_map (book_of rs)) here)

      now : Some (committed old (Put r)) ≡ get (books_said accounts (r ∷ rs)) k
      now = ap (λ b. Some (committed b (Put r))) old-is ∙ ap Some (grown r rs a (number_is k a.account (found-is kept k a here)) made.2)
          ∙ sym (get-found (book_of (r ∷ rs)) kept k ∙ ap (option_map (book_of (r ∷ rs))) here)

      others : (q : ℕ) → eq_by_cmp nat_cmp q k ≡ false → (o : Option AccountRow) → found q kept ≡ o → option_map (book_of rs) o ≡ option_map (book_of (r ∷ rs)) o
      others q other None is = refl
      others q other (Some x) is = ap Some (apart r rs x (ap (λ n. k == n) (sym (found-is kept q x is)) ∙ differs q k other))

      by : (q : ℕ) (b : Bool) → eq_by_cmp nat_cmp q k ≡ b → cond b (Some (committed old (Put r))) (get (books_said accounts rs) q) ≡ get (books_said accounts (r ∷ rs)) q
      by q true is = now ∙ ap (get (books_said accounts (r ∷ rs))) (sym (is_same nat_cmp-IsAntisymmetric q k is))
      by q false is = get-found (book_of rs) kept q ∙ others q is (found q kept) refl ∙ sym (get-found (book_of (r ∷ rs)) kept q)

      at : (q : ℕ) → get (with_rule (books_said accounts rs) r) q ≡ get (books_said accounts (r ∷ rs)) q
      at q = get-insert nat_cmp_total (books_said accounts rs) k (committed old (Put r)) q ∙ by q (eq_by_cmp nat_cmp q k) refl

-- ---- all rules

pub all-ruled : (accounts : List AccountRow) (rs : List Rule) → list_all (is_owned_rule accounts) rs ≡ true → put_all with_rule (books_said accounts []) rs ≡ books_said accounts rs
all-ruled accounts [] owned = refl
all-ruled accounts (r ∷ rs) owned =
    let parts = two (is_owned_rule accounts r) (list_all (is_owned_rule accounts) rs) owned in
    ap (λ b. with_rule b r) (all-ruled accounts rs parts.1) ∙ one-rule accounts r parts.0 rs

mapped : {X Y : Type 0} (f : X → Y) (o : Option X) → is_some (option_map f o) ≡ true → IsSome o
mapped f None e = absurd (cc)
mapped f (Some x) e = refl

-- each book's account is listed
pub books-listed : (accounts : List AccountRow) (rs : List Rule) (account : ℕ) → contains_key (books_said accounts rs) account ≡ true → IsSome (listed accounts account)
books-listed accounts rs account there =
    found-listed has_book accounts account (mapped (book_of rs) (found account (filter has_book accounts)) (sym (ap is_some (get-found (book_of rs) (filter has_book accounts) account)) ∙ there))
