-- The number of an account's volumes, through edits, and the other numbers through edits of volumes.
use Rattle.std.proofs.Common.{◌≡◌, ℕ, ◌+◌, ◌-◌, ◌≤◌, ◌==◌, Bool, true, false, cond, arith, List, [], ◌∷◌, length, Option, Some, refl, sym, ap, subst, ◌∙◌, zero-add}
use Rattle.std.proofs.lemmas.Bool.Decides.{nat_tests}
use Rattle.std.specs.List.{count_by}
use Rattle.std.specs.Option.{option_map}
use Rattle.std.specs.Ordering.{eq_by_cmp, nat_cmp}
use Rattle.std.specs.Cmp.{nat_cmp_total}
use Rattle.std.specs.FinMap.{nat_cmp-IsAntisymmetric, FinMap, get, contains_key, insert, remove, empty, entries, get-insert, get-empty, len-entries, len-empty}
use Rattle.ebs_tables.proofs.Counted.{count-insert, count-remove}
use Rattle.ebs_tables.proofs.MapEdits.{insert-known}
use Rattle.ebs_model.specs.declared.keys.VolKey.{VolKey}
use Rattle.ebs_model.specs.declared.rows.VolRow.{VolRow}
use Rattle.ebs_model.specs.Keys.{vol_cmp}
use Rattle.ebs_model.specs.inner.Orders.{vols_total, exact_vols}
use Rattle.ebs_model.specs.inner.MapValues.{map_values}
use Rattle.ebs_model.proofs.Values.{get-map_values, map_values-insert}
use Rattle.ebs_catalog.specs.declared.rows.AccountRow.{AccountRow}
use Rattle.ebs_catalog.specs.Held.{own_in}
use Rattle.ebs_catalog.specs.Sound.{rows_at, tokens_at, volumes_at, AreCounted, AreUsed, AreVolumes, IsOneLess, IsVolumeLess}
use Rattle.ebs_catalog.proofs.CountedRows.{Accounts}
use Rattle.ebs_catalog.proofs.RowsKept.{Kept, again, found}
use Rattle.ebs_catalog.proofs.UsedTokens.{Tokens}

abbrev pub Volumes : Type 0
Volumes = FinMap vol_cmp VolRow

abbrev pub count_of : ℕ → Volumes → ℕ
count_of account v = count_by (λ (e : VolKey × VolRow). account == e.0.account) (entries v)

same_test : (a b : ℕ) → eq_by_cmp nat_cmp a b ≡ (a == b)
same_test a b = grind (arith, nat_tests)

same_number : (a b : ℕ) → (a == b) ≡ true → a ≡ b
same_number a b e = grind (arith, nat_tests)

itself : (a : ℕ) → (a == a) ≡ true
itself a = grind (arith, nat_tests)

pub volumes-empty : AreVolumes empty empty
volumes-empty = record { each = λ account. ap volumes_at (get-empty nat_cmp account) ∙ sym (ap (count_by (λ (e : VolKey × VolRow). account == e.0.account)) (none (entries empty) (sym (len-entries empty) ∙ len-empty vol_cmp VolRow))) }
  where
    none : (es : List (VolKey × VolRow)) → length es ≡ 0 → es ≡ []
    none [] h = refl
    none (e ∷ es) h = absurd (omega (arith, h))

-- rows of snapshots that are taken out leave the volumes, and volumes that are taken out leave rows and tokens
pub volumes-less : (v : Volumes) (o o' : Accounts) (account : ℕ) → IsOneLess o o' account → AreVolumes v o → AreVolumes v o'
volumes-less v o o' account less h = record { each = λ a. less.volumes a ∙ h.each a }

pub rows-stay : (m : Kept) (o o' : Accounts) (account : ℕ) → IsVolumeLess o o' account → AreCounted m o → AreCounted m o'
rows-stay m o o' account less h = record { each = λ a. less.rows a ∙ h.each a }

pub tokens-stay : (t : Tokens) (o o' : Accounts) (account : ℕ) → IsVolumeLess o o' account → AreUsed t o → AreUsed t o'
tokens-stay t o o' account less h = record { each = λ a. less.tokens a ∙ h.each a }

-- a number of an account that is written with the same one
module _ (number : Option AccountRow → ℕ) (o : Accounts) (account : ℕ) (row : AccountRow) (is : number (Some row) ≡ number (get o account)) where
  pub kept-number : (a : ℕ) → number (get (insert o account row) a) ≡ number (get o a)
  kept-number a = ap number (get-insert nat_cmp_total o account row a) ∙ ap (λ b. number (cond b (Some row) (get o a))) (same_test a account) ∙ by (a == account) refl
    where
      by : (b : Bool) → (a == account) ≡ b → number (cond b (Some row) (get o a)) ≡ number (get o a)
      by true e = is ∙ ap (λ n. number (get o n)) (sym (same_number a account e))
      by false e = refl

pub volumes-kept : (v : Volumes) (o : Accounts) (account : ℕ) (row : AccountRow) → row.volumes ≡ volumes_at (get o account) → AreVolumes v o → AreVolumes v (insert o account row)
volumes-kept v o account row is h = record { each = λ a. kept-number volumes_at o account row is a ∙ h.each a }

pub rows-kept : (m : Kept) (o : Accounts) (account : ℕ) (row : AccountRow) → row.rows ≡ rows_at (get o account) → AreCounted m o → AreCounted m (insert o account row)
rows-kept m o account row is h = record { each = λ a. kept-number rows_at o account row is a ∙ h.each a }

-- a volume that is written, with the number of its account's volumes
pub volumes-added : (v : Volumes) (o : Accounts) (k : VolKey) (new : VolRow) (row : AccountRow) → row.volumes ≡ cond (contains_key v k) (volumes_at (get o k.account)) (volumes_at (get o k.account) + 1) → AreVolumes v o → AreVolumes (insert v k new) (insert o k.account row)
volumes-added v o k new row is h = record {
  each = λ account.
      ap volumes_at (get-insert nat_cmp_total o k.account row account) ∙ ap (λ b. volumes_at (cond b (Some row) (get o account))) (same_test account k.account)
      ∙ by account (account == k.account) refl (contains_key v k) refl
      ∙ sym (count-insert vols_total (λ (q : VolKey). account == q.account) v k new);
}
  where
    step : (c : Bool) (old new n : ℕ) → new ≡ cond c old (old + 1) → old ≡ n → new ≡ cond c 0 1 + n
    step true old new n e f = omega (arith, e, f)
    step false old new n e f = omega (arith, e, f)

    nothing : (c : Bool) → ◌≡◌ {A = ℕ} 0 (cond c 0 0)
    nothing true = refl
    nothing false = refl

    by : (account : ℕ) (b : Bool) → (account == k.account) ≡ b → (c : Bool) → contains_key v k ≡ c → volumes_at (cond (account == k.account) (Some row) (get o account)) ≡ cond (contains_key v k) 0 (cond (account == k.account) 1 0) + count_of account v
    by account true t c u =
        let here = h.each k.account ∙ ap (λ a. count_of a v) (sym (same_number account k.account t)) in
        let known = is ∙ ap (λ c. cond c (volumes_at (get o k.account)) (volumes_at (get o k.account) + 1)) u in
        ap (λ b. volumes_at (cond b (Some row) (get o account))) t ∙ step c (volumes_at (get o k.account)) row.volumes (count_of account v) known here
        ∙ sym (λ i. cond (u i) 0 (cond (t i) 1 0) + count_of account v)
    by account false t c u =
        ap (λ b. volumes_at (cond b (Some row) (get o account))) t ∙ h.each account ∙ sym (zero-add _) ∙ ap (λ n. n + count_of account v) (nothing c)
        ∙ sym (λ i. cond (u i) 0 (cond (t i) 1 0) + count_of account v)

-- a volume that is taken out
pub volumes-removed : (v : Volumes) (o o' : Accounts) (k : VolKey) (row : VolRow) → get v k ≡ Some row → IsVolumeLess o o' k.account → AreVolumes v o → AreVolumes (remove v k) o'
volumes-removed v o o' k row at less h = record { each = λ account. by account (account == k.account) refl (count-remove vols_total (λ (q : VolKey). account == q.account) exact_vols v k row at) }
  where
    step : (a b : ℕ) → 1 + a ≡ 1 + b → a ≡ b
    step a b e = omega (arith, e)

    by : (account : ℕ) (b : Bool) → (account == k.account) ≡ b → count_of account v ≡ cond (account == k.account) 1 0 + count_of account (remove v k) → volumes_at (get o' account) ≡ count_of account (remove v k)
    by account true t e =
        let one = ap (λ a. 1 + volumes_at (get o' a)) (same_number account k.account t) ∙ less.less ∙ ap (λ a. volumes_at (get o a)) (sym (same_number account k.account t)) ∙ h.each account ∙ e ∙ ap (λ b. cond b 1 0 + count_of account (remove v k)) t in
        step _ _ one
    by account false t e = ap volumes_at (less.others account t) ∙ h.each account ∙ e ∙ ap (λ b. cond b 1 0 + count_of account (remove v k)) t ∙ zero-add _

-- an account of a volume that is there has one
pub one-volume : (v : Volumes) (o : Accounts) (k : VolKey) (row : VolRow) → get v k ≡ Some row → AreVolumes v o → 1 ≤ volumes_at (get o k.account)
one-volume v o k row at h =
    let all = h.each k.account ∙ count-remove vols_total (λ (q : VolKey). k.account == q.account) exact_vols v k row at ∙ ap (λ b. cond b 1 0 + count_of k.account (remove v k)) (itself k.account) in
    least _ _ all
  where
    least : (a b : ℕ) → a ≡ 1 + b → 1 ≤ a
    least a b e = omega (arith, e)

-- an account whose number of volumes is lowered
module _ (o o' : Accounts) (a : ℕ) (row : AccountRow) (at : get o a ≡ Some row) (some : 1 ≤ volumes_at (get o a)) (is : o' ≡ insert (remove o a) a (record row { volumes = row.volumes - 1 })) where
  written : o' ≡ insert o a (record row { volumes = row.volumes - 1 })
  written = is ∙ again nat_cmp_total nat_cmp-IsAntisymmetric o a (record row { volumes = row.volumes - 1 })

  back : (n : ℕ) → 1 ≤ n → 1 + (n - 1) ≡ n
  back n h = omega (arith, h)

  pub volume-less : IsVolumeLess o o' a
  volume-less = record {
    own =
        ap (map_values own_in) written ∙ map_values-insert nat_cmp_total own_in nat_cmp-IsAntisymmetric o a (record row { volumes = row.volumes - 1 })
        ∙ insert-known nat_cmp_total nat_cmp-IsAntisymmetric (map_values own_in o) a row.own (get-map_values nat_cmp_total own_in o a ∙ ap (option_map own_in) at);
    less =
        ap (λ x. 1 + volumes_at (get x a)) written
        ∙ ap (λ x. 1 + volumes_at x) (found nat_cmp_total nat_cmp-IsAntisymmetric o a (record row { volumes = row.volumes - 1 }))
        ∙ back row.volumes (subst (λ x. 1 ≤ volumes_at x) at some) ∙ sym (ap volumes_at at);
    others = λ q h.
        ap (λ x. get x q) written ∙ get-insert nat_cmp_total o a (record row { volumes = row.volumes - 1 }) q
        ∙ ap (λ b. cond b (Some (record row { volumes = row.volumes - 1 })) (get o q)) (same_test q a ∙ h);
    tokens = λ q. ap (λ x. tokens_at (get x q)) written ∙ kept-number tokens_at o a (record row { volumes = row.volumes - 1 }) (ap tokens_at (sym at)) q;
    rows = λ q. ap (λ x. rows_at (get x q)) written ∙ kept-number rows_at o a (record row { volumes = row.volumes - 1 }) (ap rows_at (sym at)) q;
  }
