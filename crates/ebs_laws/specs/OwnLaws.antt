-- What a list of an account's own rows has, in fields of rows.
use Rattle.std.specs.Prelude.{◌≡◌, ◌⊎◌, Bool, false, ℕ, zero, suc, ◌+◌, ◌^◌, ◌<◌, ◌≤◌, true, List, [], ◌++◌, map, length, unwrap_or}
use Rattle.std.specs.Option.{option_map}
use Rattle.std.specs.Ordering.{nat_cmp}
use Rattle.std.specs.List.{All}
use Rattle.std.specs.List.Sorted.{IsStrictlySortedBy}
use Rattle.std.specs.FinMap as fin
use Rattle.std.specs.declared.option.Option.{Option}
use Rattle.std.specs.declared.option.Option.TheVariants.{None, Some}
use Rattle.ebs_model.specs.declared.keys.SnapKey.{SnapKey}
use Rattle.ebs_model.specs.declared.keys.Moment.{Moment}
use Rattle.ebs_model.specs.declared.views.SnapView.{SnapView}
use Rattle.ebs_model.specs.declared.request.Request.TheVariants.{DescribeSnapshots, ListBin}
use Rattle.ebs_model.specs.declared.answer.Answer.{Answer}
use Rattle.ebs_model.specs.declared.answer.Answer.TheVariants.{SnapshotList}
use Rattle.ebs_model.specs.declared.request.Request.{Request}
use Rattle.ebs_model.specs.declared.rows.SnapRow.{SnapRow}
use Rattle.ebs_model.specs.Time.{Snapshot, is_reached}
use Rattle.ebs_model.specs.Machine.{Machine}
use Rattle.ebs_model.specs.Step.{step}
use Rattle.ebs_laws.specs.Uploads.{NumbersGiven, CountersFit}
use Rattle.ebs_laws.specs.Words.{second_of}
use Rattle.ebs_laws.specs.SharingLaws.{is_among}
use Rattle.ebs_laws.specs.ShownLaws.{ShowsRow}

abbrev pub own_key : ℕ → ℕ → SnapKey
own_key account number = record { account = account; number = number }

-- outside the bin, or in it with its end ahead
abbrev pub IsPlaced : Bool → ℕ → SnapRow → Type 0
IsPlaced false now row = row.bin_end ≡ None
IsPlaced true now row = (end : Moment) × (row.bin_end ≡ Some end) × (now < end.second)

-- a row of the account's own in this place, with this number, which is at least the first one that is asked for
pub record IsOwnRow (bin : Bool) (m : Machine) (account now from number : ℕ) (s : Snapshot) : Type 0 where
  pub is_there : fin.get m.snaps (own_key account number) ≡ Some s
  pub not_before : from ≤ number
  pub placed : IsPlaced bin now s.row

abbrev pub numbers_in : List SnapView → List ℕ
numbers_in rows = map (λ view. view.key.number) rows

-- below the number of the next page, where there is one
abbrev pub IsBefore : Option ℕ → ℕ → Type 0
IsBefore None number = Unit {0}
IsBefore (Some next) number = number < next

-- a row of the account's own, as it is
abbrev pub ShowsOwnRow : Bool → Machine → ℕ → ℕ → ℕ → SnapView → Type 0
ShowsOwnRow bin m account now from view = (number : ℕ) × (s : Snapshot) × IsOwnRow bin m account now from number s × ShowsRow account (own_key account number) now s.row view

-- only own rows, in ascending number and at most so many; each one below the next number is there; the next number is that of an own
-- row above those that are there, which are then so many
pub record ListsOwnRows (bin : Bool) (m : Machine) (account now from most : ℕ) (next : Option ℕ) (rows : List SnapView) : Type 0 where
  pub own : All (ShowsOwnRow bin m account now from) rows
  pub ascending : IsStrictlySortedBy nat_cmp (numbers_in rows)
  pub few : length rows ≤ most
  pub each : (number : ℕ) (s : Snapshot) → IsOwnRow bin m account now from number s → IsBefore next number → is_among number (numbers_in rows) ≡ true
  pub next_is : (n : ℕ) → next ≡ Some n → ((s : Snapshot) × IsOwnRow bin m account now from n s) × All (λ number. number < n) (numbers_in rows) × (length rows ≡ most)

-- the list of what is in the bin, or of what isn't
abbrev pub lists_of : Bool → ℕ → ℕ → Request
lists_of false from most = DescribeSnapshots from most
lists_of true from most = ListBin from most

abbrev pub ListHasOwnRows : Type 0
ListHasOwnRows =
    (bin : Bool) (m : Machine) (account : ℕ) (reading : Moment) (from most : ℕ) (next : Option ℕ) (rows : List SnapView)
    → (step m account reading (lists_of bin from most)).1 ≡ SnapshotList next rows → ListsOwnRows bin m account (second_of m reading) from most next rows

-- each row of the account's own that time leaves is in one of the two lists, and in one alone
abbrev pub ListsAreApart : Type 0
ListsAreApart =
    (m : Machine) (account now number : ℕ) (s : Snapshot) → fin.get m.snaps (own_key account number) ≡ Some s → is_reached s.row.bin_end now ≡ false
    → (IsOwnRow false m account now 0 number s ⊎ IsOwnRow true m account now 0 number s) × (IsPlaced false now s.row → IsPlaced true now s.row → ⊥)

-- the rows of a page, and the number of the page that follows
abbrev pub own_page : Answer → List SnapView × Option ℕ
own_page (SnapshotList next rows) = (rows, next)
own_page answer = ([], None)

-- so many pages, each from the number that the one before it told
abbrev pub own_pages : Bool → Machine → ℕ → Moment → ℕ → ℕ → ℕ → List SnapView
own_pages bin m account reading most zero from = []
own_pages bin m account reading most (suc pages) from =
    let page = own_page (step m account reading (lists_of bin from most)).1 in
    page.0 ++ unwrap_or (option_map (λ next. own_pages bin m account reading most pages next) page.1) []

-- pages that are asked for at one moment have together each row of the account's own, where there are enough of them
abbrev pub OwnPagesJoin : Type 0
OwnPagesJoin =
    (bin : Bool) (m : Machine) (account : ℕ) (reading : Moment) (most pages from number : ℕ) (s : Snapshot) → NumbersGiven m → CountersFit m → 1 ≤ most → most ≤ 1000 → from < 2 ^ 28
    → IsOwnRow bin m account (second_of m reading) from number s → number < from + pages → is_among number (numbers_in (own_pages bin m account reading most pages from)) ≡ true
