-- The list of an account's own rows.
use Rattle.std.proofs.Common.{length, ◌≡◌, ◌⊎◌, inl, inr, ℕ, ◌<◌, ◌≤◌, Bool, true, false, cond, not, ◌&&◌, ◌||◌, ◌==◌, nat_le, nat_lt, List, [], ◌∷◌, map, take, Option, Some, None, Ordering, sym, ap, subst, ◌∙◌, refl, arith}
use Rattle.std.proofs.lemmas.Bool.Decides.{nat_tests}
use Rattle.std.proofs.lemmas.List.{take-map}
use Rattle.std.proofs.lemmas.List.Elements.{All-from_recursion}
use Rattle.std.proofs.lemmas.List.{length-map}
use Rattle.std.proofs.lemmas.Cmp.{tied_itself, nat_cmp_total}
use Rattle.std.specs.declared.cmp.Ordering.TheVariants.{Less, Equal}
use Rattle.std.specs.Ordering.{nat_cmp, eq_by_cmp, ordering_then}
use Rattle.std.specs.Cmp.{ranked}
use Rattle.std.specs.Map.{keys_of}
use Rattle.std.specs.Option.{option_map}
use Rattle.std.specs.List.{AllByRecursion, filter, slice_get}
use Rattle.std.specs.List.Sorted.{IsStrictlySortedBy}
use Rattle.std.specs.FinMap as fin
use Rattle.std.specs.FinMap.{find, get-entries}
use Rattle.ebs_model.specs.declared.keys.SnapKey.{SnapKey}
use Rattle.ebs_model.specs.declared.keys.Moment.{Moment}
use Rattle.ebs_model.specs.declared.rows.SnapRow.{SnapRow}
use Rattle.ebs_model.specs.declared.views.SnapView.{SnapView}
use Rattle.ebs_model.specs.declared.request.Request.TheVariants.{DescribeSnapshots, ListBin}
use Rattle.ebs_model.specs.declared.answer.Answer.TheVariants.{SnapshotList}
use Rattle.ebs_model.specs.Keys.{snap_cmp}
use Rattle.ebs_model.specs.inner.Orders.{snaps_total, exact_snaps}
use Rattle.ebs_model.specs.Time.{Snapshot, is_ahead, is_reached, rested}
use Rattle.ebs_model.specs.Access.{owns}
use Rattle.ebs_model.specs.Machine.{Machine, advance, snap_rows}
use Rattle.ebs_model.specs.Views.{view_of}
use Rattle.ebs_model.specs.Calls.Describe.{is_listed, is_there}
use Rattle.ebs_model.proofs.Aged.{aged_row, get-aged}
use Rattle.ebs_model.proofs.RowLaws.{row_in, get-row}
use Rattle.ebs_tables.proofs.TreeMaps.{entries-sorted}
use Rattle.ebs_tables.proofs.MapEdits.{is_same, tied}
use Rattle.ebs_laws.specs.Words.{moment_at}
use Rattle.ebs_laws.specs.SharingLaws.{is_among}
use Rattle.ebs_laws.specs.ShownLaws.{ShowsRow}
use Rattle.ebs_laws.specs.OwnLaws.{IsPlaced, ListsAreApart, own_key, IsOwnRow, IsBefore, ShowsOwnRow, ListsOwnRows, ListHasOwnRows, numbers_in}
use Rattle.ebs_laws.proofs.Cases.{Outcome, step-cases}
use Rattle.ebs_laws.proofs.Elements.{all-kept, all-taken, all-got, all-shown}
use Rattle.ebs_laws.proofs.Numbers.{Rises, all-weaker, sorted, rises-first, on-page, next-above, at-most, full-page, get-map, map-both}
use Rattle.ebs_laws.proofs.Readers.{same_number, number_is, no_end, was-there}
use Rattle.ebs_laws.proofs.Views.{shows-row}

abbrev pub Row : Type 0
Row = SnapKey × SnapRow

abbrev pub number_of : Row → ℕ
number_of e = e.0.number

less_not_equal : {r : Ordering} → r ≡ Less → r ≡ Equal → ⊥
less_not_equal e d = cc

-- each entry is what is found at its key
found-each : (es : List Row) → IsStrictlySortedBy snap_cmp (keys_of es) → AllByRecursion (λ e. find snap_cmp e.0 es ≡ Some e.1) es
unfolding IsStrictlySortedBy
found-each [] up = tt
found-each (d ∷ es) up = (
  ap (λ t. cond t (Some d.1) (find snap_cmp d.0 es)) (tied snaps_total d.0),
  later es up.0 (found-each es up.1),
)
  where
    other : (k : SnapKey) → snap_cmp d.0 k ≡ Less → eq_by_cmp snap_cmp k d.0 ≡ false
    other k less = by (eq_by_cmp snap_cmp k d.0) refl
      where
        true_false : true ≡ false → ⊥
        true_false e = cc

        by : (b : Bool) → eq_by_cmp snap_cmp k d.0 ≡ b → eq_by_cmp snap_cmp k d.0 ≡ false
        by true e = absurd (less_not_equal (sym (ap (snap_cmp d.0) (is_same exact_snaps k d.0 e)) ∙ less) (tied_itself snaps_total d.0))
        by false e = e

    later : (fs : List Row) → AllByRecursion (λ k. snap_cmp d.0 k ≡ Less) (keys_of fs) → AllByRecursion (λ e. find snap_cmp e.0 es ≡ Some e.1) fs → AllByRecursion (λ e. find snap_cmp e.0 (d ∷ es) ≡ Some e.1) fs
    later [] above h = tt
    later (f ∷ fs) above h = (ap (λ t. cond t (Some d.1) (find snap_cmp f.0 es)) (other f.0 above.0) ∙ h.0, later fs above.1 h.1)

number-less : (a b : SnapKey) → a.account ≡ b.account → snap_cmp a b ≡ Less → a.number < b.number
number-less a b same less =
    let alike : nat_cmp a.account b.account ≡ Equal = ap (nat_cmp a.account) (sym same) ∙ tied_itself nat_cmp_total a.account in
    let numbers : nat_cmp a.number b.number ≡ Less = sym (ap (λ r. ordering_then r (nat_cmp a.number b.number)) alike) ∙ less in
    ranked a.number b.number Less (sym numbers)

module _ (p : Row → Bool) (account : ℕ) (mine : (e : Row) → p e ≡ true → e.0.account ≡ account) where
  numbers-rise : (es : List Row) → IsStrictlySortedBy snap_cmp (keys_of es) → Rises (map number_of (filter p es))
  unfolding IsStrictlySortedBy
  numbers-rise [] up = tt
  numbers-rise (d ∷ es) up = by (p d) refl (numbers-rise es up.1)
    where
      later : p d ≡ true → (fs : List Row) → AllByRecursion (λ k. snap_cmp d.0 k ≡ Less) (keys_of fs) → AllByRecursion (λ n. d.0.number < n) (map number_of (filter p fs))
      later e [] above = tt
      later e (f ∷ fs) above = one (p f) refl (later e fs above.1)
        where
          one : (b : Bool) → p f ≡ b → AllByRecursion (λ n. d.0.number < n) (map number_of (filter p fs)) → AllByRecursion (λ n. d.0.number < n) (map number_of (cond b (f ∷ filter p fs) (filter p fs)))
          one true t more = (number-less d.0 f.0 (mine d e ∙ sym (mine f t)) above.0, more)
          one false t more = more

      by : (b : Bool) → p d ≡ b → Rises (map number_of (filter p es)) → Rises (map number_of (cond b (d ∷ filter p es) (filter p es)))
      by true e more = (later e es up.0, more)
      by false e more = more

or_true : (b : Bool) → (b || true) ≡ true
or_true true = refl
or_true false = refl

-- what is found and passes the test is in the list
has-number : (p : Row → Bool) (q : SnapKey) (row : SnapRow) → p (q, row) ≡ true → (es : List Row) → find snap_cmp q es ≡ Some row → is_among q.number (map number_of (filter p es)) ≡ true
has-number p q row passes [] e = cc
has-number p q row passes (d ∷ es) e = by (eq_by_cmp snap_cmp q d.0) refl (has-number p q row passes es) e
  where
    kept : (b : Bool) → is_among q.number (map number_of (filter p es)) ≡ true → is_among q.number (map number_of (cond b (d ∷ filter p es) (filter p es))) ≡ true
    kept true h = ap (λ b. (d.0.number == q.number) || b) h ∙ or_true (d.0.number == q.number)
    kept false h = h

    by : (b : Bool) → eq_by_cmp snap_cmp q d.0 ≡ b → (find snap_cmp q es ≡ Some row → is_among q.number (map number_of (filter p es)) ≡ true) → cond b (Some d.1) (find snap_cmp q es) ≡ Some row → is_among q.number (map number_of (cond (p d) (d ∷ filter p es) (filter p es))) ≡ true
    by true t again e =
        let same : d.0 ≡ q = sym (is_same exact_snaps q d.0 t) in
        let row_is : d.1 ≡ row = cc in
        let there : p d ≡ true = (λ i. p (same i, row_is i)) ∙ passes in
        ap (λ b. is_among q.number (map number_of (cond b (d ∷ filter p es) (filter p es)))) there
        ∙ ap (λ b. b || is_among q.number (map number_of (filter p es))) (number_is d.0.number q.number (ap (λ (k : SnapKey). k.number) same))
    by false t again e = kept (p d) (again e)

both : (a b : Bool) → (a && b) ≡ true → (a ≡ true) × (b ≡ true)
both true b e = (refl, e)
both false b e = cc

not_so : (b : Bool) → not b ≡ true → b ≡ false
not_so true e = cc
not_so false e = refl

le_is : (a b : ℕ) → nat_le a b ≡ true → a ≤ b
le_is a b e = grind (arith, nat_tests)

is_le : (a b : ℕ) → a ≤ b → nat_le a b ≡ true
is_le a b h = grind (arith, nat_tests)

pub row_found : (o : Option Snapshot) (row : SnapRow) → row_in o ≡ Some row → (s : Snapshot) × (o ≡ Some s) × (s.row ≡ row)
row_found None row e = cc
row_found (Some s) row e = (s, refl, cc)

-- where a row is
placed : (bin : Bool) (end : Option Moment) (now : ℕ) (row : SnapRow) → row.bin_end ≡ end → is_there bin (is_ahead end now) ≡ true → is_reached end now ≡ false → IsPlaced bin now row
placed false end now row is there left = is ∙ no_end end now (not_so _ there) left
placed true None now row is there left = cc
placed true (Some end) now row is there left = (end, is, grind (arith, nat_tests))

not-reached : (now end : ℕ) → now < end → nat_le end now ≡ false
not-reached now end h = grind (arith, nat_tests)

before : (now end : ℕ) → now < end → nat_lt now end ≡ true
before now end h = grind (arith, nat_tests)

left-there : (bin : Bool) (now : ℕ) (row : SnapRow) → IsPlaced bin now row → (is_reached row.bin_end now ≡ false) × (is_there bin (is_ahead row.bin_end now) ≡ true)
left-there false now row h = (ap (λ end. is_reached end now) h, ap (λ end. not (is_ahead end now)) h)
left-there true now row (end, is, ahead) = (ap (λ end. is_reached end now) is ∙ not-reached now end.second ahead, ap (λ end. is_ahead end now) is ∙ before now end.second ahead)

module _ (bin : Bool) (m : Machine) (account : ℕ) (now : Moment) (from : ℕ) where
  abbrev pub rows : fin.FinMap snap_cmp SnapRow
  rows = snap_rows (advance m now).snaps

  abbrev pub test : Row → Bool
  test = is_listed bin account now.second from

  abbrev pub shown : Row → SnapView
  shown e = view_of account now.second e.0 e.1

  abbrev IsOwn : Row → Type 0
  IsOwn e = (s : Snapshot) × IsOwnRow bin m account now.second from e.0.number s × ShowsRow account (own_key account e.0.number) now.second s.row (shown e)

  test-own : (e : Row) → test e ≡ true → e.0.account ≡ account
  test-own e t = sym (same_number account e.0.account (both (owns account e.0) _ t).0)

  own-row : (e : Row) → (find snap_cmp e.0 (fin.entries rows) ≡ Some e.1) × (test e ≡ true) → IsOwn e
  own-row e (is, t) =
      let late = (both (owns account e.0) _ t).1 in
      let (s, there, row_is) = row_found (fin.get (advance m now).snaps e.0) e.1 (sym (get-row (advance m now).snaps e.0) ∙ get-entries rows e.0 ∙ is) in
      let was = was-there m now e.0 s there in
      let key_is : own_key account e.0.number ≡ e.0 = λ i. record { account = sym (test-own e t) i; number = e.0.number } in
      let there_is : is_there bin (is_ahead was.old.row.bin_end now.second) ≡ true =
      ap (λ (s : Snapshot). is_there bin (is_ahead s.row.bin_end now.second)) was.rests ∙ ap (λ (row : SnapRow). is_there bin (is_ahead row.bin_end now.second)) row_is ∙ (both (nat_le from e.0.number) _ late).1 in
      let view_is : view_of account now.second (own_key account e.0.number) was.old.row ≡ shown e =
      ap (λ k. view_of account now.second k was.old.row) key_is ∙ ap (λ (s : Snapshot). view_of account now.second e.0 s.row) was.rests ∙ ap (view_of account now.second e.0) row_is in (
        was.old,
        record { is_there = ap (fin.get m.snaps) key_is ∙ was.is_there; not_before = le_is from e.0.number (both (nat_le from e.0.number) _ late).0; placed = placed bin was.old.row.bin_end now.second was.old.row refl there_is was.ahead },
        subst (ShowsRow account (own_key account e.0.number) now.second was.old.row) view_is (shows-row account (own_key account e.0.number) now.second was.old.row),
      )

  row-listed : (number : ℕ) (s : Snapshot) → IsOwnRow bin m account now.second from number s → is_among number (map number_of (filter test (fin.entries rows))) ≡ true
  row-listed number s own =
      let key = own_key account number in
      let row = (rested now.second s).row in
      let at = left-there bin now.second s.row own.placed in
      let reached : is_reached s.row.bin_end now.second ≡ false = at.0 in
      let there : fin.get (advance m now).snaps key ≡ Some (rested now.second s) =
      get-aged now.second m.snaps key ∙ ap (aged_row now.second) own.is_there ∙ ap (λ b. option_map (rested now.second) (cond (not b) (Some s) None)) reached in
      let found : find snap_cmp key (fin.entries rows) ≡ Some row = sym (get-entries rows key) ∙ get-row (advance m now).snaps key ∙ ap row_in there in
      let passes : test (key, row) ≡ true = λ i. number_is account account refl i && (is_le from number own.not_before i && at.1 i) in
      has-number test key row passes (fin.entries rows) found

  abbrev pub found : List Row
  found = filter test (fin.entries rows)

  all-own : AllByRecursion IsOwn found
  all-own = all-weaker _ IsOwn own-row found (all-kept (λ e. find snap_cmp e.0 (fin.entries rows) ≡ Some e.1) test (fin.entries rows) (found-each (fin.entries rows) (entries-sorted snap_cmp rows)))

  up : Rises (map number_of found)
  up = numbers-rise test account test-own (fin.entries rows) (entries-sorted snap_cmp rows)

  module _ (most : ℕ) where
    numbers-are : numbers_in (map shown (take most found)) ≡ take most (map number_of found)
    numbers-are = map-both shown (λ view. view.key.number) (take most found) ∙ sym (take-map number_of most found)

    next-are : option_map number_of (slice_get found most) ≡ slice_get (map number_of found) most
    next-are = sym (get-map number_of found most)

    next-own : (n : ℕ) → option_map number_of (slice_get found most) ≡ Some n → (s : Snapshot) × IsOwnRow bin m account now.second from n s
    next-own n e = by (slice_get found most) refl e
      where
        by : (o : Option Row) → slice_get found most ≡ o → option_map number_of o ≡ Some n → (s : Snapshot) × IsOwnRow bin m account now.second from n s
        by None is e = cc
        by (Some row) is e =
            let own = all-got IsOwn found most row all-own is in
            let same : number_of row ≡ n = cc in
            (own.0, subst (λ n. IsOwnRow bin m account now.second from n own.0) same own.1)

    next-full : (n : ℕ) → option_map number_of (slice_get found most) ≡ Some n → length (map shown (take most found)) ≡ most
    next-full n e = length-map (take most found) shown ∙ by (slice_get found most) refl e
      where
        by : (o : Option Row) → slice_get found most ≡ o → option_map number_of o ≡ Some n → length (take most found) ≡ most
        by None is e = cc
        by (Some row) is e = full-page most found row is

    pub lists-own : ListsOwnRows bin m account now.second from most (option_map number_of (slice_get found most)) (map shown (take most found))
    lists-own = record {
      own = All-from_recursion _ _ (all-shown (ShowsOwnRow bin m account now.second from) shown (take most found) (all-weaker IsOwn (λ e. ShowsOwnRow bin m account now.second from (shown e)) (λ e own. (e.0.number, own.0, own.1, own.2)) (take most found) (all-taken IsOwn most found all-own)));
      ascending = subst (IsStrictlySortedBy nat_cmp) (sym numbers-are) (sorted _ (rises-first most (map number_of found) up));
      few = let few = at-most most found in let same = length-map (take most found) shown in omega (arith, few, same);
      each = λ number s own before. ap (is_among number) numbers-are ∙ on-page most (map number_of found) number up (row-listed number s own) (subst (λ o. IsBefore o number) next-are before);
      next_is = λ n e. (next-own n e, All-from_recursion _ _ (subst (AllByRecursion (λ number. number < n)) (sym numbers-are) (next-above most (map number_of found) n up (sym next-are ∙ e))), next-full n e);
    }

  abbrev Lists : ℕ → Option ℕ → List SnapView → Outcome → Type 0
  Lists most next views d = d.1 ≡ SnapshotList next views → ListsOwnRows bin m account now.second from most next views

  told : (most : ℕ) (next : Option ℕ) (views : List SnapView) → SnapshotList (option_map number_of (slice_get found most)) (map shown (take most found)) ≡ SnapshotList next views → ListsOwnRows bin m account now.second from most next views
  told most next views e =
      let next_is : option_map number_of (slice_get found most) ≡ next = cc in
      let rows_are : map shown (take most found) ≡ views = cc in
      subst (λ n. ListsOwnRows bin m account now.second from most n views) next_is (subst (ListsOwnRows bin m account now.second from most (option_map number_of (slice_get found most))) rows_are (lists-own most))

pub own-list : ListHasOwnRows
own-list false m account reading from most next views =
    step-cases (Lists false m account (moment_at m reading) from most next views) m account reading (DescribeSnapshots from most)
    (λ e. told false m account (moment_at m reading) from most next views e)
    (λ refusal e. cc)
own-list true m account reading from most next views =
    step-cases (Lists true m account (moment_at m reading) from most next views) m account reading (ListBin from most)
    (λ e. told true m account (moment_at m reading) from most next views e)
    (λ refusal e. cc)

pub lists-apart : ListsAreApart
lists-apart m account now number s is left = (by s.row.bin_end refl left, apart)
  where
    by : (end : Option Moment) → s.row.bin_end ≡ end → is_reached s.row.bin_end now ≡ false → IsOwnRow false m account now 0 number s ⊎ IsOwnRow true m account now 0 number s
    by None none left = inl (record { is_there = is; not_before = omega arith; placed = none })
    by (Some end) some left =
        let left_is : nat_le end.second now ≡ false = ap (λ end. is_reached end now) (sym some) ∙ left in
        inr (record { is_there = is; not_before = omega arith; placed = (end, some, grind (arith, nat_tests)) })

    apart : IsPlaced false now s.row → IsPlaced true now s.row → ⊥
    apart none (end, some, ahead) = nothing (sym none ∙ some)
      where
        nothing : {end : Moment} → None ≡ Some end → ⊥
        nothing e = cc
