-- A policy's snapshots once a run has made its own: those with lower numbers, the new ones, and those with higher numbers.
use Rattle.std.proofs.Common.{◌≡◌, ℕ, suc, ◌+◌, ◌<◌, ◌≤◌, arith, Bool, true, false, cond, ◌&&◌, T, List, [], ◌∷◌, ◌++◌, length, Option, Some, unwrap_or, Ordering, Less, Equal, Greater, refl, sym, ap, subst, ◌∙◌, append_assoc}
use Rattle.std.proofs.lemmas.Bool.{false≢true}
use Rattle.std.proofs.lemmas.Bool.Decides.{nat_tests}
use Rattle.std.proofs.lemmas.Cmp.{tied_itself}
use Rattle.std.specs.Prelude.{nat_le, nat_lt}
use Rattle.std.specs.Cmp.{nat_cmp_total}
use Rattle.std.specs.List.{filter}
use Rattle.std.specs.Ordering.{nat_cmp, ordering_then, ordering_reverse, is_lt}
use Rattle.std.specs.FinMap.Entries.{put, by_order, below_all, is_sorted}
use Rattle.std.specs.FinMap.{get, entries, entries_sorted, entries-insert, get-insert}
use Rattle.ebs_tables.proofs.MapEdits.{tied}
use Rattle.ebs_model.specs.declared.keys.SnapKey.{SnapKey}
use Rattle.ebs_model.specs.declared.keys.VolKey.{VolKey}
use Rattle.ebs_model.specs.declared.keys.PolicyKey.{PolicyKey}
use Rattle.ebs_model.specs.declared.keys.Moment.{Moment}
use Rattle.ebs_model.specs.declared.policy.Policy.{Policy}
use Rattle.ebs_model.specs.declared.rows.SnapRow.{SnapRow}
use Rattle.ebs_model.specs.declared.rows.VolRow.{VolRow}
use Rattle.ebs_model.specs.Keys.{snap_cmp}
use Rattle.ebs_model.specs.inner.Orders.{snaps_total, exact_snaps}
use Rattle.ebs_model.specs.declared.rows.Own.{Own}
use Rattle.ebs_model.specs.Rows.{Rows, own_of, no_own}
use Rattle.ebs_model.specs.Calls.Start.{next_key, with_upload}
use Rattle.ebs_model.specs.Calls.Run.{following, run_row, with_new}

abbrev pub Entries : Type 0
Entries = List (SnapKey × SnapRow)

-- ---- orders

number_less : (a b : ℕ) → nat_cmp a b ≡ Less → a < b
number_less a b h = grind (arith, nat_tests)

less_of : (r : Ordering) → T (is_lt r) → r ≡ Less
less_of Less h = refl
less_of Equal h = absurd h
less_of Greater h = absurd h

first_of : (a b : Bool) → T (a && b) → T a
first_of true b h = tt
first_of false b h = absurd h

second_of : (a b : Bool) → T (a && b) → T b
second_of true b h = h
second_of false b h = absurd h

-- of one account's keys
less_number : (a b : SnapKey) → a.account ≡ b.account → snap_cmp a b ≡ Less → a.number < b.number
less_number a b own h =
    number_less a.number b.number
    (sym (ap (λ n. ordering_then (nat_cmp a.account n) (nat_cmp a.number b.number)) (sym own) ∙ ap (λ r. ordering_then r (nat_cmp a.number b.number)) (tied_itself nat_cmp_total a.account)) ∙ h)

lt_yes : (a b : ℕ) → a < b → nat_lt a b ≡ true
lt_yes a b h = grind (arith, nat_tests)

lt_no : (a b : ℕ) → b ≤ a → nat_lt a b ≡ false
lt_no a b h = grind (arith, nat_tests)

le_no : (a b : ℕ) → b < a → nat_le a b ≡ false
le_no a b h = grind (arith, nat_tests)

from_test : (a b : ℕ) → nat_lt a b ≡ true → a < b
from_test a b h = grind (arith, nat_tests)

from_none : (a b : ℕ) → nat_lt a b ≡ false → nat_le b a ≡ true
from_none a b h = grind (arith, nat_tests)

both_hold : (a b : Bool) → a ≡ true → b ≡ true → (a && b) ≡ true
both_hold true b h g = g
both_hold false b h g = absurd (false≢true h)

last_false : (a b : Bool) → b ≡ false → (a && b) ≡ false
last_false true b h = h
last_false false b h = refl

-- a list with one more in front
filter_front : {A : Type 0} (p : A → Bool) (x : A) (xs : List A) → filter p (x ∷ xs) ≡ filter p (x ∷ []) ++ filter p xs
filter_front p x xs = by (p x)
  where
    by : (b : Bool) → cond b (x ∷ filter p xs) (filter p xs) ≡ cond b (x ∷ []) [] ++ filter p xs
    by true = refl
    by false = refl

pub filter-both : {A : Type 0} (p q : A → Bool) (xs : List A) → filter q (filter p xs) ≡ filter (λ x. p x && q x) xs
filter-both p q [] = refl
filter-both p q (x ∷ xs) = by (p x) (filter-both p q xs)
  where
    by : (b : Bool) → filter q (filter p xs) ≡ filter (λ x. p x && q x) xs → filter q (cond b (x ∷ filter p xs) (filter p xs)) ≡ cond (b && q x) (x ∷ filter (λ x. p x && q x) xs) (filter (λ x. p x && q x) xs)
    by true rest = ap (λ l. cond (q x) (x ∷ l) l) rest
    by false rest = rest

-- the account's next number goes up by one
pub next-upload : (rows : Rows) (account : ℕ) (row : SnapRow) → next_key (with_upload rows (next_key rows account) row) account ≡ following (next_key rows account)
next-upload rows account row =
    let own : Own = record (own_of rows account) { next_snap = (next_key rows account).number + 1 } in
    ap (λ (o : Option Own). record { account = account; number = (unwrap_or o no_own).next_snap })
    (get-insert nat_cmp_total rows.own account own account ∙ ap (λ b. cond b (Some own) (get rows.own account)) (tied nat_cmp_total account))

-- ---- by a test that one account's alone pass
module _ (account : ℕ) (p : SnapKey × SnapRow → Bool) (own : (e : SnapKey × SnapRow) → p e ≡ true → e.0.account ≡ account) where
  abbrev pub low : ℕ → SnapKey × SnapRow → Bool
  low n e = p e && nat_lt e.0.number n

  abbrev pub high : ℕ → SnapKey × SnapRow → Bool
  high n e = p e && nat_le n e.0.number

  -- none of those above the key is below the number behind it
  none_low : (k : SnapKey) (n : ℕ) → k.account ≡ account → n ≤ k.number + 1 → (es : Entries) → T (below_all snap_cmp k es) → filter (low n) es ≡ []
  none_low k n is most [] up = refl
  none_low k n is most (e ∷ es) up =
      ap (λ b. cond b (e ∷ filter (low n) es) (filter (low n) es)) (by (p e) refl)
      ∙ none_low k n is most es (second_of _ _ up)
    where
      by : (b : Bool) → p e ≡ b → (b && nat_lt e.0.number n) ≡ false
      by true t =
          let less : k.number < e.0.number = less_number k e.0 (is ∙ sym (own e t)) (less_of (snap_cmp k e.0) (first_of _ _ up)) in
          lt_no e.0.number n (omega (arith, less, most))
      by false t = refl

  split : (n : ℕ) (es : Entries) → T (is_sorted snap_cmp es) → filter p es ≡ filter (low n) es ++ filter (high n) es
  split n [] up = refl
  split n (e ∷ es) up = by (p e) refl (split n es (second_of _ _ up))
    where
      whole : filter (low n) es ≡ [] → filter p es ≡ filter (low n) es ++ filter (high n) es → e ∷ filter p es ≡ filter (low n) es ++ e ∷ filter (high n) es
      whole none rest = ap (λ l. e ∷ l) (rest ∙ ap (λ l. l ++ filter (high n) es) none) ∙ sym (ap (λ l. l ++ e ∷ filter (high n) es) none)

      at : p e ≡ true → (c : Bool) → nat_lt e.0.number n ≡ c → filter p es ≡ filter (low n) es ++ filter (high n) es
          → e ∷ filter p es ≡ cond c (e ∷ filter (low n) es) (filter (low n) es) ++ cond (nat_le n e.0.number) (e ∷ filter (high n) es) (filter (high n) es)
      at t true u rest =
          ap (λ l. e ∷ l) rest
          ∙ sym (ap (λ b. e ∷ (filter (low n) es ++ cond b (e ∷ filter (high n) es) (filter (high n) es))) (le_no n e.0.number (from_test e.0.number n u)))
      at t false u rest =
          whole (none_low e.0 n (own e t) (least e.0.number n u) es (first_of _ _ up)) rest
          ∙ sym (ap (λ b. filter (low n) es ++ cond b (e ∷ filter (high n) es) (filter (high n) es)) (from_none e.0.number n u))
        where
          least : (a b : ℕ) → nat_lt a b ≡ false → b ≤ a + 1
          least a b h = grind (arith, nat_tests)

      by : (b : Bool) → p e ≡ b → filter p es ≡ filter (low n) es ++ filter (high n) es
          → cond b (e ∷ filter p es) (filter p es) ≡ cond (b && nat_lt e.0.number n) (e ∷ filter (low n) es) (filter (low n) es) ++ cond (b && nat_le n e.0.number) (e ∷ filter (high n) es) (filter (high n) es)
      by true t rest = at t (nat_lt e.0.number n) refl rest
      by false t rest = rest

  module _ (k : SnapKey) (is : k.account ≡ account) (row : SnapRow) where
    -- above the key nothing changes
    put_high : (n : ℕ) → k.number < n → (es : Entries) → filter (high n) (put snap_cmp k row es) ≡ filter (high n) es
    put_high n less [] = ap (λ b. cond {A = Entries} b ((k, row) ∷ []) []) (last_false (p (k, row)) _ (le_no n k.number less))
    put_high n less (e ∷ es) = by (snap_cmp k e.0) refl (put_high n less es)
      where
        by : (r : Ordering) → snap_cmp k e.0 ≡ r → filter (high n) (put snap_cmp k row es) ≡ filter (high n) es
            → filter (high n) (by_order r ((k, row) ∷ e ∷ es) ((e.0, row) ∷ es) (e ∷ put snap_cmp k row es)) ≡ filter (high n) (e ∷ es)
        by Less t rest = ap (λ b. cond {A = Entries} b ((k, row) ∷ filter (high n) (e ∷ es)) (filter (high n) (e ∷ es))) (last_false (p (k, row)) _ (le_no n k.number less))
        by Equal t rest =
            let at : nat_le n e.0.number ≡ false = ap (λ (q : SnapKey). nat_le n q.number) (sym (exact_snaps k e.0 t)) ∙ le_no n k.number less in
            ap (λ b. cond {A = Entries} b ((e.0, row) ∷ filter (high n) es) (filter (high n) es)) (last_false (p (e.0, row)) _ at)
            ∙ sym (ap (λ b. cond b (e ∷ filter (high n) es) (filter (high n) es)) (last_false (p e) _ at))
        by Greater t rest = ap (λ l. cond (high n e) (e ∷ l) l) rest

    -- below the number behind the key it comes last
    put_low : (es : Entries) → T (is_sorted snap_cmp es) → filter (low (k.number + 1)) (put snap_cmp k row es) ≡ filter (low k.number) es ++ filter p ((k, row) ∷ [])
    put_low [] up = one (p (k, row))
      where
        one : (b : Bool) → cond {A = Entries} (b && nat_lt k.number (k.number + 1)) ((k, row) ∷ []) [] ≡ cond {A = Entries} b ((k, row) ∷ []) []
        one true = ap (λ b. cond {A = Entries} b ((k, row) ∷ []) []) (lt_yes k.number (k.number + 1) (omega arith))
        one false = refl
    put_low (e ∷ es) up = by (snap_cmp k e.0) refl (put_low es (second_of _ _ up))
      where
        front : (v : SnapKey × SnapRow) → v.0 ≡ k → (l : Entries) → l ≡ [] → cond (low (k.number + 1) v) (v ∷ l) l ≡ filter p (v ∷ [])
        front v at l none = ap (λ l. cond (low (k.number + 1) v) (v ∷ l) l) none ∙ one (p v)
          where
            one : (b : Bool) → cond (b && nat_lt v.0.number (k.number + 1)) (v ∷ []) [] ≡ cond b (v ∷ []) []
            one true = ap (λ b. cond b (v ∷ []) []) (ap (λ (q : SnapKey). nat_lt q.number (k.number + 1)) at ∙ lt_yes k.number (k.number + 1) (omega arith))
            one false = refl

        above : T (below_all snap_cmp e.0 es) → snap_cmp k e.0 ≡ Less → T (below_all snap_cmp k (e ∷ es))
        above h t = subst T (sym (ap (λ r. is_lt r && below_all snap_cmp k es) t)) (chained es h)
          where
            chained : (xs : Entries) → T (below_all snap_cmp e.0 xs) → T (below_all snap_cmp k xs)
            chained [] g = tt
            chained (x ∷ xs) g =
                let less : snap_cmp k x.0 ≡ Less = snaps_total.trans k e.0 x.0 t (less_of _ (first_of _ _ g)) in
                subst T (sym (ap (λ r. is_lt r && below_all snap_cmp k xs) less)) (chained xs (second_of _ _ g))

        by : (r : Ordering) → snap_cmp k e.0 ≡ r → filter (low (k.number + 1)) (put snap_cmp k row es) ≡ filter (low k.number) es ++ filter p ((k, row) ∷ [])
            → filter (low (k.number + 1)) (by_order r ((k, row) ∷ e ∷ es) ((e.0, row) ∷ es) (e ∷ put snap_cmp k row es)) ≡ filter (low k.number) (e ∷ es) ++ filter p ((k, row) ∷ [])
        by Less t rest =
            let all = above (first_of _ _ up) t in
            front (k, row) refl (filter (low (k.number + 1)) (e ∷ es)) (none_low k (k.number + 1) is (omega arith) (e ∷ es) all)
            ∙ sym (ap (λ l. l ++ filter p ((k, row) ∷ [])) (none_low k k.number is (omega arith) (e ∷ es) all))
        by Equal t rest =
            let same : k ≡ e.0 = exact_snaps k e.0 t in
            let all : T (below_all snap_cmp k es) = subst (λ (q : SnapKey). T (below_all snap_cmp q es)) (sym same) (first_of _ _ up) in
            let here : low k.number e ≡ false = last_false (p e) _ (ap (λ (q : SnapKey). nat_lt q.number k.number) (sym same) ∙ lt_no k.number k.number (omega arith)) in
            front (e.0, row) (sym same) (filter (low (k.number + 1)) es) (none_low k (k.number + 1) is (omega arith) es all)
            ∙ ap (λ (q : SnapKey). filter p ((q, row) ∷ [])) (sym same)
            ∙ sym (ap (λ l. l ++ filter p ((k, row) ∷ [])) (ap (λ b. cond b (e ∷ filter (low k.number) es) (filter (low k.number) es)) here ∙ none_low k k.number is (omega arith) es all))
        by Greater t rest =
            let less : snap_cmp e.0 k ≡ Less = snaps_total.antisymm e.0 k ∙ ap ordering_reverse t in
            same less rest
          where
            equal_low : snap_cmp e.0 k ≡ Less → (b : Bool) → p e ≡ b → (b && nat_lt e.0.number (k.number + 1)) ≡ (b && nat_lt e.0.number k.number)
            equal_low less true u =
                let lower : e.0.number < k.number = less_number e.0 k (own e u ∙ sym is) less in
                lt_yes e.0.number (k.number + 1) (omega (arith, lower)) ∙ sym (lt_yes e.0.number k.number lower)
            equal_low less false u = refl

            joined : (b : Bool) (l : Entries) → cond b (e ∷ l ++ filter p ((k, row) ∷ [])) (l ++ filter p ((k, row) ∷ [])) ≡ cond b (e ∷ l) l ++ filter p ((k, row) ∷ [])
            joined true l = refl
            joined false l = refl

            same : snap_cmp e.0 k ≡ Less → filter (low (k.number + 1)) (put snap_cmp k row es) ≡ filter (low k.number) es ++ filter p ((k, row) ∷ [])
                → cond (low (k.number + 1) e) (e ∷ filter (low (k.number + 1)) (put snap_cmp k row es)) (filter (low (k.number + 1)) (put snap_cmp k row es)) ≡ cond (low k.number e) (e ∷ filter (low k.number) es) (filter (low k.number) es) ++ filter p ((k, row) ∷ [])
            same less rest = (λ i. cond (equal_low less (p e) refl i) (e ∷ rest i) (rest i)) ∙ joined (low k.number e) (filter (low k.number) es)

  -- ---- what a run makes

  module _ (at : Moment) (key : PolicyKey) (policy : Policy) (here : key.account ≡ account) where
    abbrev pub new_entries : SnapKey → List (VolKey × VolRow) → Entries
    new_entries first [] = []
    new_entries first (e ∷ volumes) = (first, run_row at first key policy e) ∷ new_entries (following first) volumes

    assembled : (a n more c : Entries) → (a ++ n) ++ (more ++ c) ≡ a ++ ((n ++ more) ++ c)
    assembled a n more c = append_assoc a n (more ++ c) ∙ ap (λ l. a ++ l) (sym (append_assoc n more c))

    pub placed : (rows : Rows) (volumes : List (VolKey × VolRow))
        → filter p (entries (with_new rows at key policy volumes).snaps)
        ≡ filter (low (next_key rows key.account).number) (entries rows.snaps)
        ++ (filter p (new_entries (next_key rows key.account) volumes) ++ filter (high ((next_key rows key.account).number + length volumes)) (entries rows.snaps))
    placed rows [] =
        let first : ℕ = (next_key rows key.account).number in
        let e : first ≡ first + 0 = omega arith in
        split first (entries rows.snaps) (entries_sorted rows.snaps) ∙ ap (λ n. filter (low first) (entries rows.snaps) ++ filter (high n) (entries rows.snaps)) e
    placed rows (v ∷ volumes) =
        let k : SnapKey = next_key rows key.account in
        let row : SnapRow = run_row at k key policy v in
        let es : Entries = entries rows.snaps in
        let new : Entries = filter p (new_entries (following k) volumes) in
        let count : (k.number + 1) + length volumes ≡ k.number + suc (length volumes) = omega arith in
        placed (with_upload rows k row) volumes
        ∙ ap (λ (q : SnapKey). filter (low q.number) (entries (with_upload rows k row).snaps) ++ (filter p (new_entries q volumes) ++ filter (high (q.number + length volumes)) (entries (with_upload rows k row).snaps))) (next-upload rows key.account row)
        ∙ ap (λ (l : Entries). filter (low (k.number + 1)) l ++ (new ++ filter (high ((k.number + 1) + length volumes)) l)) (entries-insert snaps_total rows.snaps k row)
        ∙ (λ i. put_low k here row es (entries_sorted rows.snaps) i ++ (new ++ put_high k here row ((k.number + 1) + length volumes) (omega arith) es i))
        ∙ ap (λ n. (filter (low k.number) es ++ filter p ((k, row) ∷ [])) ++ (new ++ filter (high n) es)) count
        ∙ assembled (filter (low k.number) es) (filter p ((k, row) ∷ [])) new (filter (high (k.number + suc (length volumes))) es)
        ∙ ap (λ l. filter (low k.number) es ++ (l ++ filter (high (k.number + suc (length volumes))) es)) (sym (filter_front p (k, row) (new_entries (following k) volumes)))
