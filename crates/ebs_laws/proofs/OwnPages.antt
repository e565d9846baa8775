-- Pages of an account's own rows.
use Rattle.std.proofs.Common.{◌≡◌, ℕ, zero, suc, ◌+◌, ◌^◌, ◌<◌, ◌≤◌, Bool, true, false, ◌&&◌, ◌||◌, ◌==◌, nat_le, nat_lt, List, [], ◌∷◌, ◌++◌, map, take, length, Option, Some, None, unwrap_or, sym, ap, subst, ◌∙◌, refl, arith}
use Rattle.std.proofs.lemmas.Bool.Decides.{nat_tests}
use Rattle.std.proofs.lemmas.List.Elements.{All-head}
use Rattle.std.specs.Option.{option_map}
use Rattle.std.specs.List.{All, slice_get}
use Rattle.ebs_model.specs.declared.keys.SnapKey.{SnapKey}
use Rattle.ebs_model.specs.declared.keys.Moment.{Moment}
use Rattle.ebs_model.specs.declared.views.SnapView.{SnapView}
use Rattle.ebs_model.specs.declared.answer.Answer.TheVariants.{SnapshotList}
use Rattle.ebs_model.specs.Time.{Snapshot}
use Rattle.ebs_model.specs.Machine.{Machine, advance}
use Rattle.ebs_model.specs.Step.{call, settled}
use Rattle.ebs_laws.specs.Words.{moment_at}
use Rattle.ebs_laws.specs.Uploads.{NumbersGiven, CountersFit}
use Rattle.ebs_laws.specs.SharingLaws.{is_among}
use Rattle.ebs_laws.specs.OwnLaws.{own_key, IsOwnRow, IsBefore, ShowsOwnRow, ListsOwnRows, numbers_in, own_page, own_pages, lists_of, OwnPagesJoin}
use Rattle.ebs_laws.proofs.OwnRows.{found, number_of, shown, lists-own}

is_true : (a b : ℕ) → a < b → nat_lt a b ≡ true
is_true a b h = grind (arith, nat_tests)

within : (most : ℕ) → 1 ≤ most → most ≤ 1000 → (nat_le 1 most && nat_le most 1000) ≡ true
within most low high = by (nat_le 1 most) (nat_le most 1000) (first most low) (last most high)
  where
    first : (n : ℕ) → 1 ≤ n → nat_le 1 n ≡ true
    first n h = grind (arith, nat_tests)

    last : (n : ℕ) → n ≤ 1000 → nat_le n 1000 ≡ true
    last n h = grind (arith, nat_tests)

    by : (a b : Bool) → a ≡ true → b ≡ true → (a && b) ≡ true
    by true true e d = refl
    by true false e d = cc
    by false b e d = cc

among-append : (x : ℕ) (a b : List SnapView) → is_among x (numbers_in (a ++ b)) ≡ (is_among x (numbers_in a) || is_among x (numbers_in b))
among-append x [] b = refl
among-append x (v ∷ a) b = ap (λ t. (v.key.number == x) || t) (among-append x a b) ∙ by (v.key.number == x)
  where
    by : (t : Bool) → (t || (is_among x (numbers_in a) || is_among x (numbers_in b))) ≡ ((t || is_among x (numbers_in a)) || is_among x (numbers_in b))
    by true = refl
    by false = refl

on-first : (a b : Bool) → a ≡ true → (a || b) ≡ true
on-first true b e = refl
on-first false b e = cc

on-last : (a b : Bool) → b ≡ true → (a || b) ≡ true
on-last true b e = refl
on-last false b e = e

answered-by : (bin : Bool) (m : Machine) (account : ℕ) (now : Moment) (from most : ℕ) → nat_lt from (2 ^ 28) ≡ true → (nat_le 1 most && nat_le most 1000) ≡ true
    → (settled (advance m now) (call (advance m now) account (lists_of bin from most))).1 ≡ SnapshotList (option_map number_of (slice_get (found bin m account now from) most)) (map (shown bin m account now from) (take most (found bin m account now from)))
answered-by false m account now from most few page = rw (few, page) refl
answered-by true m account now from most few page = rw (few, page) refl

module _ (bin : Bool) (m : Machine) (account : ℕ) (reading : Moment) (most : ℕ) (low : 1 ≤ most) (high : most ≤ 1000) where
  abbrev now : Moment
  now = moment_at m reading

  abbrev answer_rows : ℕ → List SnapView
  answer_rows from = map (shown bin m account now from) (take most (found bin m account now from))

  abbrev answer_next : ℕ → Option ℕ
  answer_next from = option_map number_of (slice_get (found bin m account now from) most)

  answered : (at : Machine) (from : ℕ) → nat_lt from (2 ^ 28) ≡ true → (nat_le 1 most && nat_le most 1000) ≡ true → at ≡ advance m now → (settled (advance m now) (call (advance m now) account (lists_of bin from most))).1 ≡ SnapshotList (answer_next from) (answer_rows from)
  answered at from few page same = answered-by bin m account now from most few page

  -- a page with a next number has a row below it
  moves : (from n : ℕ) (rows : List SnapView) → length rows ≡ most → All (ShowsOwnRow bin m account now.second from) rows → All (λ number. number < n) (numbers_in rows) → from < n
  moves from n [] full own above = absurd (omega (arith, full, low))
  moves from n (v ∷ vs) full own above =
      let (number, s, row, shows) = All-head (ShowsOwnRow bin m account now.second from) v vs own in
      let less : v.key.number < n = All-head (λ number. number < n) v.key.number (numbers_in vs) above in
      let is : v.key.number ≡ number = ap (λ (k : SnapKey). k.number) shows.key_is in
      let late = row.not_before in
      omega (arith, less, is, late)

  module _ (given : NumbersGiven m) (fit : CountersFit m) where
    small : (from n : ℕ) (s : Snapshot) → IsOwnRow bin m account now.second from n s → n < 2 ^ 28
    small from n s own = let below = given (own_key account n) s own.is_there in let most = fit account in omega (arith, below, most)

    join : (pages from number : ℕ) (s : Snapshot) → from < 2 ^ 28 → IsOwnRow bin m account now.second from number s → number < from + pages → is_among number (numbers_in (own_pages bin m account reading most pages from)) ≡ true
    join zero from number s few own near = let late = own.not_before in absurd (omega (arith, late, near))
    join (suc pages) from number s few own near =
        ap (λ a. is_among number (numbers_in ((own_page a).0 ++ unwrap_or (option_map (λ next. own_pages bin m account reading most pages next) (own_page a).1) []))) (answered (advance m now) from (is_true from (2 ^ 28) few) (within most low high) refl)
        ∙ among-append number (answer_rows from) _
        ∙ by (answer_next from) refl (λ n t near own. join pages n number s t own near)
      where
        lists : ListsOwnRows bin m account now.second from most (answer_next from) (answer_rows from)
        lists = lists-own bin m account now from most

        by : (next : Option ℕ) → answer_next from ≡ next
            → ((n : ℕ) → n < 2 ^ 28 → number < n + pages → IsOwnRow bin m account now.second n number s → is_among number (numbers_in (own_pages bin m account reading most pages n)) ≡ true)
            → (is_among number (numbers_in (answer_rows from)) || is_among number (numbers_in (unwrap_or (option_map (λ next. own_pages bin m account reading most pages next) next) []))) ≡ true
        by None is again = on-first _ _ (lists.each number s own (subst (λ o. IsBefore o number) (sym is) tt))
        by (Some n) is again = split (nat_lt number n) refl
          where
            below : nat_lt number n ≡ true → number < n
            below e = grind (arith, nat_tests)

            above : nat_lt number n ≡ false → n ≤ number
            above e = grind (arith, nat_tests)

            split : (b : Bool) → nat_lt number n ≡ b → (is_among number (numbers_in (answer_rows from)) || is_among number (numbers_in (own_pages bin m account reading most pages n))) ≡ true
            split true e = on-first _ _ (lists.each number s own (subst (λ o. IsBefore o number) (sym is) (below e)))
            split false e =
                let told = lists.next_is n is in
                let up = moves from n (answer_rows from) told.2 lists.own told.1 in
                let near' : number < n + pages = omega (arith, up, near) in
                on-last _ _ (again n (small from n told.0.0 told.0.1) near' (record { is_there = own.is_there; not_before = above e; placed = own.placed }))

pub own-pages-join : OwnPagesJoin
own-pages-join bin m account reading most pages from number s given fit low high few own near = join bin m account reading most low high given fit pages from number s few own near
