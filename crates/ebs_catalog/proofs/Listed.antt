-- The rows of a list, and its pages.
use Rattle.std.proofs.Common.{◌≡◌, ℕ, suc, zero, ◌+◌, ◌≤◌, ◌==◌, arith, Bool, true, false, cond, ◌&&◌, List, [], ◌∷◌, ◌++◌, map, length, take, Option, Some, None, Less, refl, sym, ap, subst, ◌∙◌, append-nil}
use Rattle.std.proofs.lemmas.Bool.{false≢true}
use Rattle.std.proofs.lemmas.Bool.Decides.{nat_tests}
use Rattle.std.proofs.lemmas.Cmp.{tied_itself}
use Rattle.std.proofs.lemmas.List.{take-map}
use Rattle.std.proofs.lemmas.Option.{slice_get-map}
use Rattle.std.specs.Prelude.{nat_le, slice_get}
use Rattle.std.specs.Cmp.{nat_cmp_total}
use Rattle.std.specs.List.{filter}
use Rattle.std.specs.Option.{option_map}
use Rattle.std.specs.Ordering.{is_le, is_gt, nat_cmp, ordering_then}
use Rattle.std.specs.FinMap.{entries}
use Rattle.ebs_tables.specs.Seen.{is_within}
use Rattle.ebs_model.specs.declared.keys.SnapKey.{SnapKey}
use Rattle.ebs_model.specs.declared.rows.SnapRow.{SnapRow}
use Rattle.ebs_model.specs.declared.answer.Answer.TheVariants.{SnapshotList}
use Rattle.ebs_model.specs.declared.views.SnapView.{SnapView}
use Rattle.ebs_model.specs.Keys.{snap_cmp}
use Rattle.ebs_model.specs.inner.Orders.{snaps_total}
use Rattle.ebs_model.specs.Lists.{page_of, next_of}
use Rattle.ebs_model.specs.Time.{stays, is_ahead, rested_row}
use Rattle.ebs_model.specs.Access.{owns}
use Rattle.ebs_model.specs.Rows.{Rows}
use Rattle.ebs_model.specs.inner.Rows.{aged}
use Rattle.ebs_model.specs.Views.{view_of}
use Rattle.ebs_model.specs.Calls.Describe.{listed, is_there}
use Rattle.ebs_model.proofs.Values.{entries-map_values}
use Rattle.ebs_catalog.specs.declared.rows.KeptRow.{KeptRow}
use Rattle.ebs_catalog.specs.Held.{whole}
use Rattle.ebs_catalog.specs.Shows.{is_listed, shown_row, shown_page}
use Rattle.ebs_catalog.proofs.RowsKept.{Kept, rows_of}
use Rattle.ebs_catalog.proofs.CountLaws.{entries-aged, first_of, ends, and_left, and_right}

-- what a narrower test leaves
pub filter-within : {A : Type 0} (p q : A → Bool) → ((x : A) → p x ≡ true → q x ≡ true) → (xs : List A) → filter p (filter q xs) ≡ filter p xs
filter-within p q h [] = refl
filter-within p q h (x ∷ xs) = by (q x) refl (filter-within p q h xs)
  where
    by : (b : Bool) → q x ≡ b → filter p (filter q xs) ≡ filter p xs → filter p (cond b (x ∷ filter q xs) (filter q xs)) ≡ cond (p x) (x ∷ filter p xs) (filter p xs)
    by true t rest = ap (λ ys. cond (p x) (x ∷ ys) ys) rest
    by false t rest = rest ∙ sym (ap (λ b. cond b (x ∷ filter p xs) (filter p xs)) (none (p x) refl))
      where
        none : (c : Bool) → p x ≡ c → p x ≡ false
        none true u = absurd (false≢true (sym t ∙ h x u))
        none false u = u

-- the account's keys from a number on
module _ (bin : Bool) (now account from : ℕ) (start : SnapKey) (own : start.account ≡ account) (low : start.number ≤ from) where
  same_number : (a b : ℕ) → (a == b) ≡ true → a ≡ b
  same_number a b e = grind (arith, nat_tests)

  same_test : (a b : ℕ) → is_le (nat_cmp a b) ≡ nat_le a b
  same_test a b = grind (arith, nat_tests)

  above : (n : ℕ) → nat_le from n ≡ true → nat_le start.number n ≡ true
  above n h = grind (arith, nat_tests)

  starts : (e : SnapKey × KeptRow) → is_listed bin account now from e ≡ true → is_le (snap_cmp start e.0) ≡ true
  starts e h =
      let same : e.0.account ≡ start.account = sym (own ∙ same_number account e.0.account (and_left (owns account e.0) _ h)) in
      ap (λ a. is_le (ordering_then (nat_cmp start.account a) (nat_cmp start.number e.0.number))) same
      ∙ ap (λ r. is_le (ordering_then r (nat_cmp start.number e.0.number))) (tied_itself nat_cmp_total start.account)
      ∙ same_test start.number e.0.number
      ∙ above e.0.number (and_left (nat_le from e.0.number) _ (and_right (owns account e.0) _ h))

  both : (b c : Bool) → b ≡ true → c ≡ true → (b && c) ≡ true
  both true c p q = q
  both false c p q = absurd (false≢true p)

  pub listed-until : (es : List (SnapKey × KeptRow)) → filter (is_listed bin account now from) (filter (λ e. is_within snap_cmp start (first_of (account + 1)) e.0) es) ≡ filter (is_listed bin account now from) es
  listed-until es = filter-within _ _ (λ e h. both _ _ (starts e h) (ends account e.0 (and_left (owns account e.0) _ h))) es

  pub listed-from : (es : List (SnapKey × KeptRow)) → filter (is_listed bin account now from) (filter (λ e. is_le (snap_cmp start e.0)) es) ≡ filter (is_listed bin account now from) es
  listed-from es = filter-within _ _ (λ e h. starts e h) es

  less : (a : ℕ) → nat_cmp a (a + 1) ≡ Less
  less a = grind (arith, nat_tests)

  pub in_order : is_gt (snap_cmp start (first_of (account + 1))) ≡ false
  in_order = ap (λ a. is_gt (ordering_then (nat_cmp a (account + 1)) (nat_cmp start.number 0))) own ∙ ap (λ r. is_gt (ordering_then r (nat_cmp start.number 0))) (less account)

-- rows that are rewritten and left out, and then tested
module _ {A B C : Type 0} (f : A → B) (s : B → Bool) (g : B → C) (h : C → Bool) (k : A → Bool) (same : (x : A) → (s (f x) && h (g (f x))) ≡ k x) where
  pub filter-mapped : (xs : List A) → filter h (map g (filter s (map f xs))) ≡ map (λ x. g (f x)) (filter k xs)
  filter-mapped [] = refl
  filter-mapped (x ∷ xs) = step (s (f x)) (filter-mapped xs) ∙ ap (λ b. map (λ x. g (f x)) (cond b (x ∷ filter k xs) (filter k xs))) (same x)
    where
      one : (c : Bool) → filter h (map g (filter s (map f xs))) ≡ map (λ x. g (f x)) (filter k xs)
          → cond c (g (f x) ∷ filter h (map g (filter s (map f xs)))) (filter h (map g (filter s (map f xs)))) ≡ map (λ x. g (f x)) (cond c (x ∷ filter k xs) (filter k xs))
      one true rest = ap (λ ys. g (f x) ∷ ys) rest
      one false rest = rest

      step : (b : Bool) → filter h (map g (filter s (map f xs))) ≡ map (λ x. g (f x)) (filter k xs)
          → filter h (map g (cond b (f x ∷ filter s (map f xs)) (filter s (map f xs)))) ≡ map (λ x. g (f x)) (cond (b && h (g (f x))) (x ∷ filter k xs) (filter k xs))
      step true rest = one (h (g (f x))) rest
      step false rest = rest

-- a row that stays and is listed
in_list : (s a l t : Bool) → (s && (a && (l && t))) ≡ (a && (l && (s && t)))
in_list true a l t = refl
in_list false true true t = refl
in_list false true false t = refl
in_list false false l t = refl

-- a kept row at the moment
abbrev pub left : ℕ → SnapKey × KeptRow → SnapKey × SnapRow
left now e = (e.0, rested_row now (whole e.1))

pub listed-rows : (bin : Bool) (now account from : ℕ) (m : Kept) (rest : Rows) → listed bin (aged now (record rest { snaps = rows_of m })) account now from ≡ map (left now) (filter (is_listed bin account now from) (entries m))
listed-rows bin now account from m rest =
    let p = λ (e : SnapKey × SnapRow). owns account e.0 && (nat_le from e.0.number && is_there bin (is_ahead e.1.bin_end now)) in
    ap (filter p) (entries-aged now (rows_of m) ∙ ap (λ es. map (λ (e : SnapKey × SnapRow). (e.0, rested_row now e.1)) (filter (λ (e : SnapKey × SnapRow). stays now e.1) es)) (entries-map_values snaps_total whole m))
    ∙ filter-mapped (λ (e : SnapKey × KeptRow). (e.0, whole e.1)) (λ (e : SnapKey × SnapRow). stays now e.1) (λ (e : SnapKey × SnapRow). (e.0, rested_row now e.1)) p (is_listed bin account now from)
    (λ e. in_list (stays now e.1.row) (owns account e.0) (nat_le from e.0.number) (is_there bin (is_ahead e.1.row.bin_end now))) (entries m)

pub twice : {A B C : Type 0} (f : A → B) (g : B → C) (xs : List A) → map g (map f xs) ≡ map (λ x. g (f x)) xs
twice f g [] = refl
twice f g (x ∷ xs) = ap (λ ys. g (f x) ∷ ys) (twice f g xs)

found_twice : {A B C : Type 0} (f : A → B) (g : B → C) (o : Option A) → option_map g (option_map f o) ≡ option_map (λ x. g (f x)) o
found_twice f g None = refl
found_twice f g (Some x) = refl

-- a page of kept rows is the page of the rows at the moment
pub shown-page : (now account most : ℕ) (es : List (SnapKey × KeptRow))
    → shown_page account now most es ≡ SnapshotList (next_of (λ e. e.0.number) most (map (left now) es)) (map (λ e. view_of account now e.0 e.1) (page_of most (map (left now) es)))
shown-page now account most es = λ i. SnapshotList (next i) (page i)
  where
    number : SnapKey × SnapRow → ℕ
    number e = e.0.number

    show : SnapKey × SnapRow → SnapView
    show e = view_of account now e.0 e.1

    next : next_of (λ e. e.0.number) most es ≡ next_of number most (map (left now) es)
    next = sym (ap (option_map number) (slice_get-map (left now) es most) ∙ found_twice (left now) number (slice_get es most))

    page : map (shown_row account now) (page_of most es) ≡ map show (page_of most (map (left now) es))
    page = sym (ap (map show) (take-map (left now) most es) ∙ twice (left now) show (take most es))

-- a page that is full, and what follows it
module _ {P : Type 0} where
  pub full-page : (items : List P) (most : ℕ) (next : P) (rest all : List P) → items ++ next ∷ rest ≡ all → length items ≡ most → (items ≡ take most all) × (slice_get all most ≡ Some next)
  full-page items most next rest all is long = subst (λ l. (items ≡ take most l) × (slice_get l most ≡ Some next)) is (front items most long)
    where
      front : (items : List P) (most : ℕ) → length items ≡ most → (items ≡ take most (items ++ next ∷ rest)) × (slice_get (items ++ next ∷ rest) most ≡ Some next)
      front [] zero e = (refl, refl)
      front [] (suc most) e = absurd (omega arith)
      front (x ∷ xs) zero e = absurd (omega arith)
      front (x ∷ xs) (suc most) e = let more = front xs most (omega arith) in (ap (λ l. x ∷ l) more.0, more.1)

  pub last-page : (items : List P) (most : ℕ) (all : List P) → items ++ [] ≡ all → length items ≤ most → (items ≡ take most all) × (slice_get all most ≡ None)
  last-page items most all is short = subst (λ l. (items ≡ take most l) × (slice_get l most ≡ None)) (sym (append-nil items) ∙ is) (front items most short)
    where
      front : (items : List P) (most : ℕ) → length items ≤ most → (items ≡ take most items) × (slice_get items most ≡ None)
      front [] zero e = (refl, refl)
      front [] (suc most) e = (refl, refl)
      front (x ∷ xs) zero e = absurd (omega arith)
      front (x ∷ xs) (suc most) e = let more = front xs most (omega arith) in (ap (λ l. x ∷ l) more.0, more.1)

  pub one-more : (items : List P) (x : P) (rest : List P) → (items ++ x ∷ []) ++ rest ≡ items ++ x ∷ rest
  one-more [] x rest = refl
  one-more (y ∷ ys) x rest = ap (λ l. y ∷ l) (one-more ys x rest)

-- the pages of what is shown
module _ {E P : Type 0} (show : E → P) (number : P → ℕ) (es : List E) (most : ℕ) where
  abbrev pub answered : Option ℕ → List P → Type 0
  answered next page = (next ≡ next_of (λ e. number (show e)) most es) × (page ≡ map show (page_of most es))

  next : (o : Option P) → slice_get (map show es) most ≡ o → option_map number o ≡ next_of (λ e. number (show e)) most es
  next o h = ap (option_map number) (sym h ∙ slice_get-map show es most) ∙ found_twice show number (slice_get es most)

  pub ends-full : (items : List P) (x : P) (rest : List P) → items ++ x ∷ rest ≡ map show es → length items ≡ most → answered (Some (number x)) items
  ends-full items x rest is long =
      let at = full-page items most x rest (map show es) is long in
      (next (Some x) at.1, at.0 ∙ take-map show most es)

  pub ends-last : (items : List P) → items ++ [] ≡ map show es → length items ≤ most → answered None items
  ends-last items is short =
      let at = last-page items most (map show es) is short in
      (next None at.1, at.0 ∙ take-map show most es)
