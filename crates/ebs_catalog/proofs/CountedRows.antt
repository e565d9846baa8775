-- The number of an account's rows, through edits.
use Rattle.std.proofs.Common.{◌≡◌, ℕ, ◌+◌, ◌-◌, ◌≤◌, ◌==◌, Bool, true, false, cond, arith, List, [], ◌∷◌, length, Option, Some, is_some, refl, sym, ap, subst, ◌∙◌, zero-add}
use Rattle.std.proofs.lemmas.Bool.Decides.{nat_tests}
use Rattle.std.specs.List.{count_by}
use Rattle.std.specs.Ordering.{eq_by_cmp, nat_cmp}
use Rattle.std.specs.Cmp.{nat_cmp_total}
use Rattle.std.specs.FinMap.{nat_cmp-IsAntisymmetric, FinMap, get, contains_key, insert, remove, empty, entries, get-insert, get-empty, len-entries, len-empty}
use Rattle.ebs_tables.proofs.Counted.{count-insert, count-remove}
use Rattle.ebs_model.specs.declared.keys.SnapKey.{SnapKey}
use Rattle.ebs_model.specs.Keys.{snap_cmp}
use Rattle.ebs_model.specs.inner.Orders.{snaps_total, exact_snaps}
use Rattle.ebs_model.specs.Access.{owns}
use Rattle.ebs_catalog.specs.declared.rows.KeptRow.{KeptRow}
use Rattle.ebs_catalog.specs.declared.rows.AccountRow.{AccountRow}
use Rattle.ebs_catalog.specs.Sound.{rows_at, tokens_at, volumes_at, AreCounted, IsOneLess}
use Rattle.std.specs.Option.{option_map}
use Rattle.ebs_tables.proofs.MapEdits.{insert-known}
use Rattle.ebs_model.specs.inner.MapValues.{map_values}
use Rattle.ebs_model.proofs.Values.{get-map_values, map_values-insert}
use Rattle.ebs_catalog.specs.Held.{own_in}
use Rattle.ebs_catalog.proofs.RowsKept.{Kept, again, found}

abbrev pub Accounts : Type 0
Accounts = FinMap nat_cmp AccountRow

abbrev pub count_of : ℕ → Kept → ℕ
count_of account m = count_by (λ e. owns account e.0) (entries m)

same_test : (a b : ℕ) → eq_by_cmp nat_cmp a b ≡ (a == b)
same_test a b = grind (arith, nat_tests)

same_number : (a b : ℕ) → (a == b) ≡ true → a ≡ b
same_number a b e = grind (arith, nat_tests)

pub counted-empty : AreCounted empty empty
counted-empty = record { each = λ account. ap rows_at (get-empty nat_cmp account) ∙ sym (ap (count_by (λ (e : SnapKey × KeptRow). owns account e.0)) (none (entries empty) (sym (len-entries empty) ∙ len-empty snap_cmp KeptRow))) }
  where
    none : (es : List (SnapKey × KeptRow)) → length es ≡ 0 → es ≡ []
    none [] h = refl
    none (e ∷ es) h = absurd (omega (arith, h))

-- a row that is written again
pub counted-again : (m : Kept) (o : Accounts) (k : SnapKey) (kept v : KeptRow) → get m k ≡ Some kept → AreCounted m o → AreCounted (insert (remove m k) k v) o
counted-again m o k kept v at h = record {
  each = λ account. h.each account ∙ sym (
      ap (count_of account) (again snaps_total exact_snaps m k v) ∙ count-insert snaps_total (owns account) m k v
      ∙ ap (λ b. cond b 0 (cond (owns account k) 1 0) + count_of account m) (ap is_some at) ∙ zero-add _);
}

-- a row that is written, with the number of its account's rows
pub counted-added : (m : Kept) (o : Accounts) (k : SnapKey) (v : KeptRow) (row : AccountRow) → row.rows ≡ cond (contains_key m k) (rows_at (get o k.account)) (rows_at (get o k.account) + 1) → AreCounted m o → AreCounted (insert m k v) (insert o k.account row)
counted-added m o k v row is h = record {
  each = λ account.
      ap rows_at (get-insert nat_cmp_total o k.account row account) ∙ ap (λ b. rows_at (cond b (Some row) (get o account))) (same_test account k.account)
      ∙ by account (owns account k) refl (contains_key m k) refl
      ∙ sym (count-insert snaps_total (owns account) m k v);
}
  where
    step : (c : Bool) (old new n : ℕ) → new ≡ cond c old (old + 1) → old ≡ n → new ≡ cond c 0 1 + n
    step true old new n e f = omega (arith, e, f)
    step false old new n e f = omega (arith, e, f)

    nothing : (c : Bool) → ◌≡◌ {A = ℕ} 0 (cond c 0 0)
    nothing true = refl
    nothing false = refl

    by : (account : ℕ) (b : Bool) → owns account k ≡ b → (c : Bool) → contains_key m k ≡ c → rows_at (cond (owns account k) (Some row) (get o account)) ≡ cond (contains_key m k) 0 (cond (owns account k) 1 0) + count_of account m
    by account true t c u =
        let here = h.each k.account ∙ ap (λ a. count_of a m) (sym (same_number account k.account t)) in
        let known = is ∙ ap (λ c. cond c (rows_at (get o k.account)) (rows_at (get o k.account) + 1)) u in
        ap (λ b. rows_at (cond b (Some row) (get o account))) t ∙ step c (rows_at (get o k.account)) row.rows (count_of account m) known here
        ∙ sym (λ i. cond (u i) 0 (cond (t i) 1 0) + count_of account m)
    by account false t c u =
        ap (λ b. rows_at (cond b (Some row) (get o account))) t ∙ h.each account ∙ sym (zero-add _) ∙ ap (λ n. n + count_of account m) (nothing c)
        ∙ sym (λ i. cond (u i) 0 (cond (t i) 1 0) + count_of account m)

-- a row that is taken out
pub counted-removed : (m : Kept) (o o' : Accounts) (k : SnapKey) (kept : KeptRow) → get m k ≡ Some kept → IsOneLess o o' k.account → AreCounted m o → AreCounted (remove m k) o'
counted-removed m o o' k kept at less h = record { each = λ account. by account (owns account k) refl (count-remove snaps_total (owns account) exact_snaps m k kept at) }
  where
    step : (a b : ℕ) → 1 + a ≡ 1 + b → a ≡ b
    step a b e = omega (arith, e)

    by : (account : ℕ) (b : Bool) → owns account k ≡ b → count_of account m ≡ cond (owns account k) 1 0 + count_of account (remove m k) → rows_at (get o' account) ≡ count_of account (remove m k)
    by account true t e =
        let one = ap (λ a. 1 + rows_at (get o' a)) (same_number account k.account t) ∙ less.less ∙ ap (λ a. rows_at (get o a)) (sym (same_number account k.account t)) ∙ h.each account ∙ e ∙ ap (λ b. cond b 1 0 + count_of account (remove m k)) t in
        step _ _ one
    by account false t e = ap rows_at (less.others account t) ∙ h.each account ∙ e ∙ ap (λ b. cond b 1 0 + count_of account (remove m k)) t ∙ zero-add _

-- an account of a row that is there has one
pub one-at-least : (m : Kept) (o : Accounts) (k : SnapKey) (kept : KeptRow) → get m k ≡ Some kept → AreCounted m o → 1 ≤ rows_at (get o k.account)
one-at-least m o k kept at h =
    let all = h.each k.account ∙ count-remove snaps_total (owns k.account) exact_snaps m k kept at ∙ ap (λ b. cond b 1 0 + count_of k.account (remove m k)) (itself k.account) in
    least _ _ all
  where
    itself : (a : ℕ) → (a == a) ≡ true
    itself a = grind (arith, nat_tests)

    least : (a b : ℕ) → a ≡ 1 + b → 1 ≤ a
    least a b e = omega (arith, e)

-- an account whose number is lowered
module _ (o o' : Accounts) (a : ℕ) (row : AccountRow) (at : get o a ≡ Some row) (some : 1 ≤ rows_at (get o a)) (is : o' ≡ insert (remove o a) a (record row { rows = row.rows - 1 })) where
  written : o' ≡ insert o a (record row { rows = row.rows - 1 })
  written = is ∙ again nat_cmp_total nat_cmp-IsAntisymmetric o a (record row { rows = row.rows - 1 })

  back : (n : ℕ) → 1 ≤ n → 1 + (n - 1) ≡ n
  back n h = omega (arith, h)

  pub one-less : IsOneLess o o' a
  one-less = record {
    own =
        ap (map_values own_in) written ∙ map_values-insert nat_cmp_total own_in nat_cmp-IsAntisymmetric o a (record row { rows = row.rows - 1 })
        ∙ insert-known nat_cmp_total nat_cmp-IsAntisymmetric (map_values own_in o) a row.own (get-map_values nat_cmp_total own_in o a ∙ ap (option_map own_in) at);
    less =
        ap (λ x. 1 + rows_at (get x a)) written
        ∙ ap (λ x. 1 + rows_at x) (found nat_cmp_total nat_cmp-IsAntisymmetric o a (record row { rows = row.rows - 1 }))
        ∙ back row.rows (subst (λ x. 1 ≤ rows_at x) at some) ∙ sym (ap rows_at at);
    others = λ q h.
        ap (λ x. get x q) written ∙ get-insert nat_cmp_total o a (record row { rows = row.rows - 1 }) q
        ∙ ap (λ b. cond b (Some (record row { rows = row.rows - 1 })) (get o q)) (same_test q a ∙ h);
    tokens = λ q. ap (λ x. tokens_at (get x q)) written ∙ stays tokens_at refl q;
    volumes = λ q. ap (λ x. volumes_at (get x q)) written ∙ stays volumes_at refl q;
  }
    where
      -- a number that isn't the lowered one
      stays : (number : Option AccountRow → ℕ) → number (Some (record row { rows = row.rows - 1 })) ≡ number (Some row) → (q : ℕ) → number (get (insert o a (record row { rows = row.rows - 1 })) q) ≡ number (get o q)
      stays number same q = ap number (get-insert nat_cmp_total o a (record row { rows = row.rows - 1 }) q) ∙ ap (λ b. number (cond b (Some (record row { rows = row.rows - 1 })) (get o q))) (same_test q a) ∙ by (q == a) refl
        where
          by : (b : Bool) → (q == a) ≡ b → number (cond b (Some (record row { rows = row.rows - 1 })) (get o q)) ≡ number (get o q)
          by true t = same ∙ ap number (sym (ap (get o) (same_number q a t) ∙ at))
          by false t = refl
