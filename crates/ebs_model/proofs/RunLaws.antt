-- What a run leaves of rows, key by key.
use Rattle.std.proofs.Common.{◌≡◌, ℕ, ◌+◌, ◌<◌, arith, Bool, true, false, cond, List, [], ◌∷◌, ◌++◌, length, Option, Some, None, unwrap_or, refl, sym, ap, ◌∙◌}
use Rattle.std.specs.Option.{option_map}
use Rattle.std.specs.Ordering.{nat_cmp, eq_by_cmp}
use Rattle.std.specs.Cmp.{nat_cmp_total}
use Rattle.std.specs.FinMap.{FinMap, get, insert, get-insert, get-remove}
use Rattle.ebs_tables.proofs.MapEdits.{is_same, tied}
use Rattle.ebs_model.specs.declared.keys.SnapKey.{SnapKey}
use Rattle.ebs_model.specs.declared.keys.VolKey.{VolKey}
use Rattle.ebs_model.specs.declared.keys.PolicyKey.{PolicyKey}
use Rattle.ebs_model.specs.declared.keys.Moment.{Moment}
use Rattle.ebs_model.specs.declared.policy.Policy.{Policy}
use Rattle.ebs_model.specs.declared.rows.SnapRow.{SnapRow}
use Rattle.ebs_model.specs.declared.rows.VolRow.{VolRow}
use Rattle.ebs_model.specs.declared.rows.Own.{Own}
use Rattle.ebs_model.specs.Keys.{snap_cmp, policy_cmp}
use Rattle.ebs_model.specs.inner.Orders.{snaps_total, exact_snaps}
use Rattle.ebs_model.specs.Rules.{Book, bin_end}
use Rattle.ebs_model.specs.Rows.{Rows, no_own, own_of, with_row, changed_row}
use Rattle.ebs_model.specs.inner.Rows.{no_rows}
use Rattle.ebs_model.specs.Calls.Start.{next_key, with_upload}
use Rattle.ebs_model.specs.Calls.Delete.{days_in_bin, deleted_by, deleted, commit_delete}
use Rattle.ebs_model.specs.Calls.Run.{due_targets, following, run_row, with_new, made_rows, run_released, run_ended, freed, with_freed, with_deleted, run_rows}

abbrev is_at : SnapKey → SnapKey → Bool
is_at q key = eq_by_cmp snap_cmp q key

-- a key is one of these
abbrev pub among : SnapKey → List SnapKey → Bool
among q [] = false
among q (key ∷ keys) = cond (is_at q key) true (among q keys)

among-append : (q : SnapKey) (xs ys : List SnapKey) → among q (xs ++ ys) ≡ cond (among q xs) true (among q ys)
among-append q [] ys = refl
among-append q (x ∷ xs) ys = by (is_at q x) (among-append q xs ys)
  where
    by : (b : Bool) → among q (xs ++ ys) ≡ cond (among q xs) true (among q ys) → cond b true (among q (xs ++ ys)) ≡ cond (cond b true (among q xs)) true (among q ys)
    by true h = refl
    by false h = h

-- ---- released

pub get-changed : (rows : Rows) (key : SnapKey) (f : SnapRow → SnapRow) (q : SnapKey) → get (with_row rows key f).snaps q ≡ cond (is_at q key) (option_map f (get rows.snaps q)) (get rows.snaps q)
get-changed rows key f q = at (get rows.snaps key) refl
  where
    at : (o : Option SnapRow) → get rows.snaps key ≡ o → get (changed_row rows.snaps key f o) q ≡ cond (is_at q key) (option_map f (get rows.snaps q)) (get rows.snaps q)
    at None is = by (is_at q key) refl
      where
        by : (b : Bool) → is_at q key ≡ b → get rows.snaps q ≡ cond b (option_map f (get rows.snaps q)) (get rows.snaps q)
        by true t = let here : get rows.snaps q ≡ None = ap (get rows.snaps) (is_same exact_snaps q key t) ∙ is in here ∙ sym (ap (option_map f) here)
        by false t = refl
    at (Some row) is = get-insert snaps_total rows.snaps key (f row) q ∙ by (is_at q key) refl
      where
        by : (b : Bool) → is_at q key ≡ b → cond b (Some (f row)) (get rows.snaps q) ≡ cond b (option_map f (get rows.snaps q)) (get rows.snaps q)
        by true t = sym (ap (option_map f) (ap (get rows.snaps) (is_same exact_snaps q key t) ∙ is))
        by false t = refl

freed_twice : (o : Option SnapRow) → option_map freed (option_map freed o) ≡ option_map freed o
freed_twice None = refl
freed_twice (Some row) = refl

pub get-freed : (rows : Rows) (keys : List SnapKey) (q : SnapKey) → get (with_freed rows keys).snaps q ≡ cond (among q keys) (option_map freed (get rows.snaps q)) (get rows.snaps q)
get-freed rows [] q = refl
get-freed rows (key ∷ keys) q =
    get-freed (with_row rows key freed) keys q
    ∙ ap (λ (o : Option SnapRow). cond (among q keys) (option_map freed o) o) (get-changed rows key freed q)
    ∙ by (is_at q key) (among q keys) (get rows.snaps q)
  where
    by : (b a : Bool) (o : Option SnapRow) → cond a (option_map freed (cond b (option_map freed o) o)) (cond b (option_map freed o) o) ≡ cond (cond b true a) (option_map freed o) o
    by true true o = freed_twice o
    by true false o = refl
    by false a o = refl

pub freed-books : (rows : Rows) (keys : List SnapKey) → (with_freed rows keys).books ≡ rows.books
freed-books rows [] = refl
freed-books rows (key ∷ keys) = freed-books (with_row rows key freed) keys

-- ---- deleted

abbrev pub binned_by : Moment → SnapRow → Option ℕ → Option SnapRow
binned_by at row None = None
binned_by at row (Some days) = Some (record row { bin_end = Some (bin_end at.second days) })

-- what a deletion leaves of a row
abbrev pub left_of : Rows → Moment → SnapKey → Option SnapRow → Option SnapRow
left_of rows at q None = None
left_of rows at q (Some row) = binned_by at row (days_in_bin rows q row)

-- by the rules alone
pub left-books : (rows other : Rows) (at : Moment) (q : SnapKey) (o : Option SnapRow) → rows.books ≡ other.books → left_of rows at q o ≡ left_of other at q o
left-books rows other at q None e = refl
left-books rows other at q (Some row) e = ap (λ (books : FinMap nat_cmp Book). binned_by at row (days_in_bin (record no_rows { books = books }) q row)) e

pub get-deletion : (rows : Rows) (at : Moment) (key q : SnapKey) → get (commit_delete rows at key).snaps q ≡ cond (is_at q key) (left_of rows at q (get rows.snaps q)) (get rows.snaps q)
get-deletion rows at key q = of (get rows.snaps key) refl
  where
    of : (o : Option SnapRow) → get rows.snaps key ≡ o → get (deleted rows at key o).snaps q ≡ cond (is_at q key) (left_of rows at q (get rows.snaps q)) (get rows.snaps q)
    of None is = by (is_at q key) refl
      where
        by : (b : Bool) → is_at q key ≡ b → get rows.snaps q ≡ cond b (left_of rows at q (get rows.snaps q)) (get rows.snaps q)
        by true t = let here : get rows.snaps q ≡ None = ap (get rows.snaps) (is_same exact_snaps q key t) ∙ is in here ∙ sym (ap (left_of rows at q) here)
        by false t = refl
    of (Some row) is = days (days_in_bin rows key row) refl
      where
        here : is_at q key ≡ true → (d : Option ℕ) → days_in_bin rows key row ≡ d → left_of rows at q (get rows.snaps q) ≡ binned_by at row d
        here t d e =
            let one : q ≡ key = is_same exact_snaps q key t in
            ap (left_of rows at q) (ap (get rows.snaps) one ∙ is) ∙ ap (λ (k : SnapKey). binned_by at row (days_in_bin rows k row)) one ∙ ap (binned_by at row) e

        days : (d : Option ℕ) → days_in_bin rows key row ≡ d → get (deleted_by rows at key row d).snaps q ≡ cond (is_at q key) (left_of rows at q (get rows.snaps q)) (get rows.snaps q)
        days None e = get-remove snaps_total rows.snaps key q ∙ by (is_at q key) refl
          where
            by : (b : Bool) → is_at q key ≡ b → cond b None (get rows.snaps q) ≡ cond b (left_of rows at q (get rows.snaps q)) (get rows.snaps q)
            by true t = sym (here t None e)
            by false t = refl
        days (Some n) e = get-insert snaps_total rows.snaps key (record row { bin_end = Some (bin_end at.second n) }) q ∙ by (is_at q key) refl
          where
            by : (b : Bool) → is_at q key ≡ b → cond b (Some (record row { bin_end = Some (bin_end at.second n) })) (get rows.snaps q) ≡ cond b (left_of rows at q (get rows.snaps q)) (get rows.snaps q)
            by true t = sym (here t (Some n) e)
            by false t = refl

deletion-books : (rows : Rows) (at : Moment) (key : SnapKey) → (commit_delete rows at key).books ≡ rows.books
deletion-books rows at key = of (get rows.snaps key)
  where
    days : (row : SnapRow) (d : Option ℕ) → (deleted_by rows at key row d).books ≡ rows.books
    days row None = refl
    days row (Some n) = refl

    of : (o : Option SnapRow) → (deleted rows at key o).books ≡ rows.books
    of None = refl
    of (Some row) = days row (days_in_bin rows key row)

-- a deletion again leaves what it left
left_twice : (rows : Rows) (at : Moment) (q : SnapKey) (o : Option SnapRow) → left_of rows at q (left_of rows at q o) ≡ left_of rows at q o
left_twice rows at q None = refl
left_twice rows at q (Some row) = by (days_in_bin rows q row) refl
  where
    by : (d : Option ℕ) → days_in_bin rows q row ≡ d → left_of rows at q (binned_by at row d) ≡ binned_by at row d
    by None e = refl
    by (Some n) e = ap (binned_by at (record row { bin_end = Some (bin_end at.second n) })) e

pub get-deleted : (rows : Rows) (at : Moment) (keys : List SnapKey) (q : SnapKey) → get (with_deleted rows at keys).snaps q ≡ cond (among q keys) (left_of rows at q (get rows.snaps q)) (get rows.snaps q)
get-deleted rows at [] q = refl
get-deleted rows at (key ∷ keys) q =
    get-deleted (commit_delete rows at key) at keys q
    ∙ ap (λ (o : Option SnapRow). cond (among q keys) o (get (commit_delete rows at key).snaps q)) (left-books (commit_delete rows at key) rows at q (get (commit_delete rows at key).snaps q) (deletion-books rows at key))
    ∙ ap (λ (o : Option SnapRow). cond (among q keys) (left_of rows at q o) o) (get-deletion rows at key q)
    ∙ by (is_at q key) (among q keys) (get rows.snaps q)
  where
    by : (b a : Bool) (o : Option SnapRow) → cond a (left_of rows at q (cond b (left_of rows at q o) o)) (cond b (left_of rows at q o) o) ≡ cond (cond b true a) (left_of rows at q o) o
    by true true o = left_twice rows at q o
    by true false o = refl
    by false a o = refl

-- ---- made

-- the row of a snapshot that is made
abbrev pub new_row : Moment → PolicyKey → Policy → SnapKey → List (VolKey × VolRow) → SnapKey → Option SnapRow
new_row at policy p first [] q = None
new_row at policy p first (e ∷ volumes) q = cond (is_at q first) (Some (run_row at first policy p e)) (new_row at policy p (following first) volumes q)

abbrev pub or_else : Option SnapRow → Option SnapRow → Option SnapRow
or_else None other = other
or_else (Some row) other = Some row

-- numbers go up
none_before : (at : Moment) (policy : PolicyKey) (p : Policy) (first : SnapKey) (volumes : List (VolKey × VolRow)) (q : SnapKey) → q.number < first.number → new_row at policy p first volumes q ≡ None
none_before at policy p first [] q less = refl
none_before at policy p first (e ∷ volumes) q less = by (is_at q first) refl (none_before at policy p (following first) volumes q (omega (arith, less)))
  where
    by : (b : Bool) → is_at q first ≡ b → new_row at policy p (following first) volumes q ≡ None → cond b (Some (run_row at first policy p e)) (new_row at policy p (following first) volumes q) ≡ None
    by true t h = let one : q.number ≡ first.number = ap (λ (k : SnapKey). k.number) (is_same exact_snaps q first t) in absurd (omega (arith, less, one))
    by false t h = h

-- the account's next number goes up by one
next-upload : (rows : Rows) (account : ℕ) (row : SnapRow) → next_key (with_upload rows (next_key rows account) row) account ≡ following (next_key rows account)
next-upload rows account row =
    let own : Own = record (own_of rows account) { next_snap = (next_key rows account).number + 1 } in
    ap (λ (o : Option Own). record { account = account; number = (unwrap_or o no_own).next_snap })
    (get-insert nat_cmp_total rows.own account own account ∙ ap (λ b. cond b (Some own) (get rows.own account)) (tied nat_cmp_total account))

chosen : (q first : SnapKey) (row : SnapRow) (later o : Option SnapRow) → (q.number < first.number + 1 → later ≡ None) → or_else later (cond (is_at q first) (Some row) o) ≡ or_else (cond (is_at q first) (Some row) later) o
chosen q first row later o h = by (is_at q first) refl
  where
    by : (b : Bool) → is_at q first ≡ b → or_else later (cond b (Some row) o) ≡ or_else (cond b (Some row) later) o
    by true t = let one : q.number ≡ first.number = ap (λ (k : SnapKey). k.number) (is_same exact_snaps q first t) in ap (λ (n : Option SnapRow). or_else n (Some row)) (h (omega (arith, one)))
    by false t = refl

pub get-new : (rows : Rows) (at : Moment) (policy : PolicyKey) (p : Policy) (volumes : List (VolKey × VolRow)) (q : SnapKey)
    → get (with_new rows at policy p volumes).snaps q ≡ or_else (new_row at policy p (next_key rows policy.account) volumes q) (get rows.snaps q)
get-new rows at policy p [] q = refl
get-new rows at policy p (e ∷ volumes) q =
    let first : SnapKey = next_key rows policy.account in
    let row : SnapRow = run_row at first policy p e in
    let later : Option SnapRow = new_row at policy p (following first) volumes q in
    get-new (with_upload rows first row) at policy p volumes q
    ∙ ap (λ (k : SnapKey). or_else (new_row at policy p k volumes q) (get (with_upload rows first row).snaps q)) (next-upload rows policy.account row)
    ∙ ap (or_else later) (get-insert snaps_total rows.snaps first row q)
    ∙ chosen q first row later (get rows.snaps q) (none_before at policy p (following first) volumes q)

pub new-books : (rows : Rows) (at : Moment) (policy : PolicyKey) (p : Policy) (volumes : List (VolKey × VolRow)) → (with_new rows at policy p volumes).books ≡ rows.books
new-books rows at policy p [] = refl
new-books rows at policy p (e ∷ volumes) = new-books (with_upload rows (next_key rows policy.account) (run_row at (next_key rows policy.account) policy p e)) at policy p volumes

-- ---- a run

-- the row of a key once the run has made its snapshots
abbrev pub with_made : Rows → Moment → PolicyKey → Policy → SnapKey → Option SnapRow
with_made rows at key p q = or_else (new_row at key p (next_key rows key.account) (due_targets rows key p at.second) q) (get rows.snaps q)

-- a snapshot that is deleted loses its policy and goes by the rules, one that is released loses its policy, and each other stays
abbrev pub run_left : Rows → Moment → PolicyKey → Policy → SnapKey → Option SnapRow
run_left rows at key p q =
    cond (among q (run_ended rows at key p)) (left_of rows at q (option_map freed (with_made rows at key p q)))
    (cond (among q (run_released rows at key p)) (option_map freed (with_made rows at key p q)) (with_made rows at key p q))

abbrev freed_if : Bool → Option SnapRow → Option SnapRow
freed_if b o = cond b (option_map freed o) o

settled : (rows : Rows) (at : Moment) (q : SnapKey) (b a : Bool) (o : Option SnapRow)
    → cond b (left_of rows at q (freed_if (cond a true b) o)) (freed_if (cond a true b) o) ≡ cond b (left_of rows at q (option_map freed o)) (cond a (option_map freed o) o)
settled rows at q true true o = refl
settled rows at q true false o = refl
settled rows at q false true o = refl
settled rows at q false false o = refl

pub get-run : (rows : Rows) (at : Moment) (key : PolicyKey) (p : Policy) (q : SnapKey) → get (run_rows rows at key p).snaps q ≡ run_left rows at key p q
get-run rows at key p q =
    let gone : List SnapKey = run_ended rows at key p in
    let free : List SnapKey = run_released rows at key p in
    let volumes : List (VolKey × VolRow) = due_targets rows key p at.second in
    let rest : Rows = with_freed (made_rows rows at key p) (free ++ gone) in
    let there : among q (free ++ gone) ≡ cond (among q free) true (among q gone) = among-append q free gone in
    let made : get (made_rows rows at key p).snaps q ≡ with_made rows at key p q = get-new rows at key p volumes q in
    get-deleted rest at gone q
    ∙ ap (λ (o : Option SnapRow). cond (among q gone) o (get rest.snaps q)) (left-books rest rows at q (get rest.snaps q) (freed-books (made_rows rows at key p) (free ++ gone) ∙ new-books rows at key p volumes))
    ∙ ap (λ (o : Option SnapRow). cond (among q gone) (left_of rows at q o) o) (get-freed (made_rows rows at key p) (free ++ gone) q)
    ∙ (λ i. cond (among q gone) (left_of rows at q (freed_if (there i) (made i))) (freed_if (there i) (made i)))
    ∙ settled rows at q (among q gone) (among q free) (with_made rows at key p q)

-- ---- all else

-- all but snapshots and numbers is the same
pub record IsBeside (rows other : Rows) : Type 0 where
  pub vols : rows.vols ≡ other.vols
  pub tokens : rows.tokens ≡ other.tokens
  pub books : rows.books ≡ other.books
  pub policies : rows.policies ≡ other.policies

both : (a b c : Rows) → IsBeside a b → IsBeside b c → IsBeside a c
both a b c h g = record { vols = h.vols ∙ g.vols; tokens = h.tokens ∙ g.tokens; books = h.books ∙ g.books; policies = h.policies ∙ g.policies }

pub new-beside : (rows : Rows) (at : Moment) (policy : PolicyKey) (p : Policy) (volumes : List (VolKey × VolRow)) → IsBeside (with_new rows at policy p volumes) rows
new-beside rows at policy p [] = record { vols = refl; tokens = refl; books = refl; policies = refl }
new-beside rows at policy p (e ∷ volumes) =
    let next : Rows = with_upload rows (next_key rows policy.account) (run_row at (next_key rows policy.account) policy p e) in
    both (with_new next at policy p volumes) next rows (new-beside next at policy p volumes) (record { vols = refl; tokens = refl; books = refl; policies = refl })

pub freed-beside : (rows : Rows) (keys : List SnapKey) → IsBeside (with_freed rows keys) rows
freed-beside rows [] = record { vols = refl; tokens = refl; books = refl; policies = refl }
freed-beside rows (key ∷ keys) =
    let next : Rows = with_row rows key freed in both (with_freed next keys) next rows (freed-beside next keys) (record { vols = refl; tokens = refl; books = refl; policies = refl })

pub freed-own : (rows : Rows) (keys : List SnapKey) → (with_freed rows keys).own ≡ rows.own
freed-own rows [] = refl
freed-own rows (key ∷ keys) = freed-own (with_row rows key freed) keys

-- what a deletion leaves besides
module _ (rows : Rows) (at : Moment) (key : SnapKey) where
  of_days : (row : SnapRow) (d : Option ℕ) → IsBeside (deleted_by rows at key row d) rows × ((deleted_by rows at key row d).own ≡ rows.own)
  of_days row None = (record { vols = refl; tokens = refl; books = refl; policies = refl }, refl)
  of_days row (Some n) = (record { vols = refl; tokens = refl; books = refl; policies = refl }, refl)

  of_row : (o : Option SnapRow) → IsBeside (deleted rows at key o) rows × ((deleted rows at key o).own ≡ rows.own)
  of_row None = (record { vols = refl; tokens = refl; books = refl; policies = refl }, refl)
  of_row (Some row) = of_days row (days_in_bin rows key row)

  deletion-beside : IsBeside (commit_delete rows at key) rows × ((commit_delete rows at key).own ≡ rows.own)
  deletion-beside = of_row (get rows.snaps key)

pub deleted-beside : (rows : Rows) (at : Moment) (keys : List SnapKey) → IsBeside (with_deleted rows at keys) rows
deleted-beside rows at [] = record { vols = refl; tokens = refl; books = refl; policies = refl }
deleted-beside rows at (key ∷ keys) =
    let next : Rows = commit_delete rows at key in both (with_deleted next at keys) next rows (deleted-beside next at keys) (deletion-beside rows at key).0

pub deleted-own : (rows : Rows) (at : Moment) (keys : List SnapKey) → (with_deleted rows at keys).own ≡ rows.own
deleted-own rows at [] = refl
deleted-own rows at (key ∷ keys) = deleted-own (commit_delete rows at key) at keys ∙ (deletion-beside rows at key).1

-- what a run changes of all else: its own last run, and the account's next number
pub run-beside : (rows : Rows) (at : Moment) (key : PolicyKey) (p : Policy)
    → ((run_rows rows at key p).vols ≡ rows.vols) × (((run_rows rows at key p).tokens ≡ rows.tokens) × (((run_rows rows at key p).books ≡ rows.books)
    × (((run_rows rows at key p).policies ≡ insert rows.policies key (record p { last = at })) × ((run_rows rows at key p).own ≡ (made_rows rows at key p).own))))
run-beside rows at key p =
    let gone : List SnapKey = run_ended rows at key p in
    let made : Rows = made_rows rows at key p in
    let rest : Rows = with_freed made (run_released rows at key p ++ gone) in
    let h = both (with_deleted rest at gone) made rows (both (with_deleted rest at gone) rest made (deleted-beside rest at gone) (freed-beside made (run_released rows at key p ++ gone))) (new-beside rows at key p (due_targets rows key p at.second)) in
    (h.vols, (h.tokens, (h.books, (ap (λ (m : FinMap policy_cmp Policy). insert m key (record p { last = at })) h.policies, deleted-own rest at gone ∙ freed-own made (run_released rows at key p ++ gone)))))

-- the account's next number after so many snapshots
pub new-next : (rows : Rows) (at : Moment) (policy : PolicyKey) (p : Policy) (volumes : List (VolKey × VolRow))
    → (next_key (with_new rows at policy p volumes) policy.account).number ≡ (next_key rows policy.account).number + length volumes
new-next rows at policy p [] = omega arith
new-next rows at policy p (e ∷ volumes) =
    let row : SnapRow = run_row at (next_key rows policy.account) policy p e in
    let again = new-next (with_upload rows (next_key rows policy.account) row) at policy p volumes in
    let step : (next_key (with_upload rows (next_key rows policy.account) row) policy.account).number ≡ (next_key rows policy.account).number + 1 = ap (λ (k : SnapKey). k.number) (next-upload rows policy.account row) in
    omega (arith, again, step)
