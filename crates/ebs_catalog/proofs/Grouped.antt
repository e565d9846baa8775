-- What a policy made of one volume, with what a run of it makes.
use Rattle.std.proofs.Common.{◌≡◌, ℕ, ◌+◌, arith, Bool, true, false, cond, not, ◌&&◌, ◌==◌, List, [], ◌∷◌, ◌++◌, map, length, Option, Some, None, refl, sym, ap, ◌∙◌, append_assoc}
use Rattle.std.proofs.lemmas.Bool.{false≢true}
use Rattle.std.proofs.lemmas.Bool.Decides.{nat_tests}
use Rattle.std.specs.Prelude.{nat_le, nat_lt, is_some}
use Rattle.std.specs.List.{filter}
use Rattle.std.specs.FinMap.{entries}
use Rattle.ebs_model.specs.declared.keys.SnapKey.{SnapKey}
use Rattle.ebs_model.specs.declared.keys.VolKey.{VolKey}
use Rattle.ebs_model.specs.declared.keys.PolicyKey.{PolicyKey}
use Rattle.ebs_model.specs.declared.keys.Moment.{Moment}
use Rattle.ebs_model.specs.declared.keys.AnyKey.TheVariants.{Snap, Vol}
use Rattle.ebs_model.specs.declared.policy.Policy.{Policy}
use Rattle.ebs_model.specs.declared.policy.Made.{Made}
use Rattle.ebs_model.specs.declared.rows.SnapRow.{SnapRow}
use Rattle.ebs_model.specs.declared.rows.VolRow.{VolRow}
use Rattle.ebs_model.specs.Access.{owns}
use Rattle.ebs_model.specs.Time.{stays, rested_row, is_ahead}
use Rattle.ebs_model.specs.Policies.{is_managed, is_same_volume, is_policy, made_of, of_volume, managed}
use Rattle.ebs_model.specs.Rows.{Rows}
use Rattle.ebs_model.specs.inner.Rows.{aged, aged_snaps}
use Rattle.ebs_model.specs.inner.Orders.{snaps_total}
use Rattle.ebs_model.specs.Calls.Start.{next_key}
use Rattle.ebs_model.specs.Calls.Run.{new_keys, following, run_row, due_targets, made_rows}
use Rattle.ebs_model.proofs.Values.{entries-map_values}
use Rattle.ebs_catalog.specs.declared.rows.KeptRow.{KeptRow}
use Rattle.ebs_catalog.specs.Held.{whole}
use Rattle.ebs_catalog.specs.Shows.{is_listed}
use Rattle.ebs_catalog.specs.Runs.{is_until, counts_for, kept_made, added_rows, added_new, new_by, new_made}
use Rattle.ebs_catalog.proofs.RowsKept.{Kept, rows_of}
use Rattle.ebs_catalog.proofs.CountLaws.{entries-aged}
use Rattle.ebs_catalog.proofs.Listed.{filter-within, filter-mapped, left, twice}
use Rattle.ebs_catalog.proofs.Placed.{Entries, low, high, new_entries, placed, filter-both}

abbrev pub Kepts : Type 0
Kepts = List (SnapKey × KeptRow)

same_account : (a b : ℕ) → (a == b) ≡ true → b ≡ a
same_account a b h = grind (arith, nat_tests)

same_itself : (n : ℕ) → (n == n) ≡ true
same_itself n = grind (arith, nat_tests)

from_least : (n : ℕ) → nat_le 0 n ≡ true
from_least n = grind (arith, nat_tests)

map_append : {A B : Type 0} (f : A → B) (xs ys : List A) → map f (xs ++ ys) ≡ map f xs ++ map f ys
map_append f [] ys = refl
map_append f (x ∷ xs) ys = ap (λ l. f x ∷ l) (map_append f xs ys)

-- what counts is listed
implied : (l u s o p i a v : Bool) → ((l && (u && (s && (o && (p && (i && a)))))) && v) ≡ true → (o && (l && (s && a))) ≡ true
implied true true true true true true true v h = refl
implied true true true true true true false v h = absurd (false≢true h)
implied true true true true true false a v h = absurd (false≢true h)
implied true true true true false i a v h = absurd (false≢true h)
implied true true true false p i a v h = absurd (false≢true h)
implied true true false o p i a v h = absurd (false≢true h)
implied true false s o p i a v h = absurd (false≢true h)
implied false u s o p i a v h = absurd (false≢true h)

in_turn : (s m v t : Bool) → (s && ((m && v) && t)) ≡ ((t && (s && m)) && v)
in_turn true true v true = at v
  where
    at : (v : Bool) → (v && true) ≡ v
    at true = refl
    at false = refl
in_turn true true v false = at v
  where
    at : (v : Bool) → (v && false) ≡ false
    at true = refl
    at false = refl
in_turn true false v true = refl
in_turn true false v false = refl
in_turn false m v true = refl
in_turn false m v false = refl

module _ (now : ℕ) (key : PolicyKey) (v : VolKey) where
  abbrev of_it : SnapKey × SnapRow → Bool
  of_it e = is_managed key now e && is_same_volume (Some v) e.1.volume

  its_account : (e : SnapKey × SnapRow) → of_it e ≡ true → e.0.account ≡ key.account
  its_account e h = by (owns key.account e.0) (is_policy key e.1.policy && (is_some e.1.volume && not (is_ahead e.1.bin_end now))) refl h
    where
      by : (b rest : Bool) → owns key.account e.0 ≡ b → ((b && rest) && is_same_volume (Some v) e.1.volume) ≡ true → e.0.account ≡ key.account
      by true rest t g = same_account key.account e.0.account t
      by false rest t g = absurd (false≢true g)

  abbrev below : ℕ → SnapKey × SnapRow → Bool
  below n e = low key.account of_it its_account n e

  abbrev above : ℕ → SnapKey × SnapRow → Bool
  above n e = high key.account of_it its_account n e

  -- the rows of a walk from a number on count as all rows do
  walked : (from : ℕ) (until : Option ℕ) (walk all : Kepts) → filter (is_listed false key.account now from) walk ≡ filter (is_listed false key.account now from) all
      → filter (counts_for key from until now v) walk ≡ filter (counts_for key from until now v) all
  walked from until walk all e =
      sym (filter-within (counts_for key from until now v) (is_listed false key.account now from) listed walk)
      ∙ ap (filter (counts_for key from until now v)) e
      ∙ filter-within (counts_for key from until now v) (is_listed false key.account now from) listed all
    where
      listed : (x : SnapKey × KeptRow) → counts_for key from until now v x ≡ true → is_listed false key.account now from x ≡ true
      listed x h =
          implied (nat_le from x.0.number) (is_until until x.0.number) (stays now x.1.row) (owns key.account x.0) (is_policy key x.1.row.policy) (is_some x.1.row.volume) (not (is_ahead x.1.row.bin_end now))
          (is_same_volume (Some v) x.1.row.volume) h

  -- and they are the rows at the moment
  module _ (m : Kept) where
    by_test : (test : SnapKey × SnapRow → Bool) (count : SnapKey × KeptRow → Bool) → ((e : SnapKey × KeptRow) → (stays now e.1.row && test (left now e)) ≡ count e)
        → map (made_of now) (filter test (entries (aged_snaps now (rows_of m)))) ≡ map (kept_made now) (filter count (entries m))
    by_test test count same =
        ap (λ es. map (made_of now) (filter test es)) (entries-aged now (rows_of m) ∙ ap (λ es. map (λ (e : SnapKey × SnapRow). (e.0, rested_row now e.1)) (filter (λ (e : SnapKey × SnapRow). stays now e.1) es)) (entries-map_values snaps_total whole m))
        ∙ ap (map (made_of now)) (filter-mapped (λ (e : SnapKey × KeptRow). (e.0, whole e.1)) (λ (e : SnapKey × SnapRow). stays now e.1) (λ (e : SnapKey × SnapRow). (e.0, rested_row now e.1)) test count same (entries m))
        ∙ twice (left now) (made_of now) (filter count (entries m))

    lower : (first : ℕ) → map (made_of now) (filter (below first) (entries (aged_snaps now (rows_of m)))) ≡ map (kept_made now) (filter (counts_for key 0 (Some first) now v) (entries m))
    lower first = by_test (below first) (counts_for key 0 (Some first) now v) (λ e.
        in_turn (stays now e.1.row) (is_managed key now (e.0, e.1.row)) (is_same_volume (Some v) e.1.row.volume) (nat_lt e.0.number first)
        ∙ ap (λ b. (b && (nat_lt e.0.number first && (stays now e.1.row && is_managed key now (e.0, e.1.row)))) && is_same_volume (Some v) e.1.row.volume) (sym (from_least e.0.number)))

    higher : (next : ℕ) → map (made_of now) (filter (above next) (entries (aged_snaps now (rows_of m)))) ≡ map (kept_made now) (filter (counts_for key next None now v) (entries m))
    higher next = by_test (above next) (counts_for key next None now v) (λ e.
        in_turn (stays now e.1.row) (is_managed key now (e.0, e.1.row)) (is_same_volume (Some v) e.1.row.volume) (nat_le next e.0.number))

-- ---- what a run makes

module _ (at : Moment) (key : PolicyKey) (policy : Policy) (v : VolKey) where
  abbrev news : SnapKey → List (VolKey × VolRow) → Entries
  news first volumes = new_entries key.account (of_it at.second key v) (its_account at.second key v) at key policy refl first volumes

  is-new : (first : SnapKey) (e : VolKey × VolRow) → key.account ≡ first.account → is_managed key at.second (first, run_row at first key policy e) ≡ true
  is-new first e own = by (key.account == first.account) (key.account == key.account) (key.number == key.number) (ap (λ n. key.account == n) (sym own) ∙ same_itself key.account) (same_itself key.account) (same_itself key.number)
    where
      by : (a b c : Bool) → a ≡ true → b ≡ true → c ≡ true → (a && ((b && c) && true)) ≡ true
      by true true true p q r = refl
      by true true false p q r = absurd (false≢true r)
      by true false c p q r = absurd (false≢true q)
      by false b c p q r = absurd (false≢true p)

  made-new : (first : SnapKey) (volumes : List (VolKey × VolRow)) → key.account ≡ first.account
      → map (made_of at.second) (filter (of_it at.second key v) (news first volumes)) ≡ new_by at v (map Snap (new_keys first volumes)) (map (λ e. Vol e.0) volumes)
  made-new first [] own = refl
  made-new first (e ∷ volumes) own =
      ap (λ b. map (made_of at.second) (cond (b && is_same_volume (Some v) (Some e.0)) (one ∷ rest) rest)) (is-new first e own)
      ∙ by (is_same_volume (Some v) (Some e.0)) (made-new (following first) volumes own)
    where
      one : SnapKey × SnapRow
      one = (first, run_row at first key policy e)

      rest : Entries
      rest = filter (of_it at.second key v) (news (following first) volumes)

      by : (b : Bool) → map (made_of at.second) rest ≡ new_by at v (map Snap (new_keys (following first) volumes)) (map (λ e. Vol e.0) volumes)
          → map (made_of at.second) (cond b (one ∷ rest) rest) ≡ cond b (new_made at first ∷ []) [] ++ new_by at v (map Snap (new_keys (following first) volumes)) (map (λ e. Vol e.0) volumes)
      by true again = ap (λ l. new_made at first ∷ l) again
      by false again = again

-- ---- all together

module _ (at : Moment) (key : PolicyKey) (policy : Policy) (v : VolKey) (m : Kept) (rest : Rows) where
  abbrev rows : Rows
  rows = record rest { snaps = rows_of m }

  abbrev first : ℕ
  first = (next_key rows key.account).number

  abbrev volumes : List (VolKey × VolRow)
  volumes = due_targets rows key policy at.second

  abbrev next : ℕ
  next = first + length volumes

  abbrev before : List Made
  before = map (kept_made at.second) (filter (counts_for key 0 (Some first) at.second v) (entries m))

  abbrev behind : List Made
  behind = map (kept_made at.second) (filter (counts_for key next None at.second v) (entries m))

  abbrev new : List Made
  new = new_by at v (map Snap (new_keys (next_key rows key.account) volumes)) (map (λ e. Vol e.0) volumes)

  together : of_volume at.second (Some v) (managed (made_rows (aged at.second rows) at key policy) key at.second) ≡ before ++ (new ++ behind)
  together =
      let made : List (SnapKey × SnapRow) → List Made = map (made_of at.second) in
      let es : Entries = entries (aged_snaps at.second (rows_of m)) in
      let low_ones : Entries = filter (below at.second key v first) es in
      let new_ones : Entries = filter (of_it at.second key v) (news at key policy v (next_key rows key.account) volumes) in
      let high_ones : Entries = filter (above at.second key v next) es in
      ap made (filter-both (is_managed key at.second) (λ e. is_same_volume (Some v) e.1.volume) (entries (made_rows (aged at.second rows) at key policy).snaps))
      ∙ ap made (placed key.account (of_it at.second key v) (its_account at.second key v) at key policy refl (aged at.second rows) volumes)
      ∙ map_append (made_of at.second) low_ones (new_ones ++ high_ones)
      ∙ ap (λ l. made low_ones ++ l) (map_append (made_of at.second) new_ones high_ones)
      ∙ (λ i. lower at.second key v m first i ++ (made-new at key policy v (next_key rows key.account) volumes refl i ++ higher at.second key v m next i))

  pub grouped : (walk later : Kepts)
      → filter (is_listed false key.account at.second 0) walk ≡ filter (is_listed false key.account at.second 0) (entries m)
      → filter (is_listed false key.account at.second next) later ≡ filter (is_listed false key.account at.second next) (entries m)
      → added_rows key next None at.second v later (added_new at v (map Snap (new_keys (next_key rows key.account) volumes)) (map (λ e. Vol e.0) volumes) (added_rows key 0 (Some first) at.second v walk []))
      ≡ of_volume at.second (Some v) (managed (made_rows (aged at.second rows) at key policy) key at.second)
  grouped walk later h g =
      (λ i. (map (kept_made at.second) (walked at.second key v 0 (Some first) walk (entries m) h i) ++ new) ++ map (kept_made at.second) (walked at.second key v next None later (entries m) g i))
      ∙ append_assoc before new behind
      ∙ sym together
