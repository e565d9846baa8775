-- What a start finds of its account's snapshots.
use Rattle.std.proofs.Common.{◌≡◌, ℕ, ◌+◌, ◌*◌, ◌<◌, Bool, true, false, cond, not, ◌&&◌, ◌==◌, nat_le, nat_lt, List, [], ◌∷◌, map, Option, sym, ap, subst, ◌∙◌, refl, arith, zero-add}
use Rattle.std.proofs.lemmas.Bool.Decides.{nat_tests}
use Rattle.std.proofs.lemmas.List.Sums.{length-filter, sum_by-cons}
use Rattle.std.proofs.lemmas.List.{length-map}
use Rattle.std.proofs.lemmas.Map.Made.{keys_of-map_values}
use Rattle.std.specs.List.Sorted.{IsStrictlySortedBy}
use Rattle.std.specs.List.{filter, count_by, sum_by}
use Rattle.std.specs.FinMap.{FinMap, entries}
use Rattle.ebs_model.specs.declared.keys.SnapKey.{SnapKey}
use Rattle.ebs_model.specs.declared.keys.Moment.{Moment}
use Rattle.ebs_model.specs.declared.tags.Tag.{Tag}
use Rattle.ebs_model.specs.declared.rows.SnapRow.{SnapRow}
use Rattle.ebs_model.specs.declared.request.Request.TheVariants.{StartSnapshot}
use Rattle.ebs_model.specs.declared.answer.Answer.TheVariants.{Started}
use Rattle.ebs_model.specs.Keys.{snap_cmp}
use Rattle.ebs_model.specs.Quotas.{most_open, most_kept}
use Rattle.ebs_model.specs.Time.{Snapshot, status_at, status_by, is_pending}
use Rattle.ebs_model.specs.Access.{owns}
use Rattle.ebs_model.specs.Rows.{open_count, kept_count}
use Rattle.ebs_model.specs.Machine.{Machine, advance, snap_rows, rows_of}
use Rattle.ebs_model.specs.inner.Orders.{snaps_total}
use Rattle.ebs_tables.proofs.TreeMaps.{entries-seen, entries-sorted}
use Rattle.ebs_laws.specs.Words.{moment_at}
use Rattle.ebs_laws.proofs.Uses.{unused-later}
use Rattle.ebs_laws.specs.StartLaws.{StartHasRoom}
use Rattle.ebs_laws.proofs.Cases.{Outcome, step-cases}

count_by-map : {A B : Type 0} (p : B → Bool) (f : A → B) (xs : List A) → count_by p (map f xs) ≡ count_by (λ x. p (f x)) xs
count_by-map p f [] = refl
count_by-map p f (x ∷ xs) =
    sum_by-cons (λ y. cond (p y) 1 0) (f x) (map f xs)
    ∙ ap (λ n. cond (p (f x)) 1 0 + n) (count_by-map p f xs)
    ∙ sym (sum_by-cons (λ y. cond (p (f y)) 1 0) x xs)

count_by-filter : {A : Type 0} (p q : A → Bool) (xs : List A) → count_by p (filter q xs) ≡ count_by (λ x. q x && p x) xs
count_by-filter p q [] = refl
count_by-filter {A = A} p q (x ∷ xs) =
    let one : A → ℕ = λ y. cond (p y) 1 0 in
    let each : A → ℕ = λ y. cond (q y && p y) 1 0 in
    elim (q x) as (λ b. sum_by one (cond b (x ∷ filter q xs) (filter q xs)) ≡ cond (b && p x) 1 0 + sum_by each xs) [
      | true ↦ sum_by-cons one x (filter q xs) ∙ ap (λ n. cond (p x) 1 0 + n) (count_by-filter p q xs)
      | false ↦ count_by-filter p q xs ∙ sym (zero-add (sum_by each xs))
    ] ∙ sym (sum_by-cons each x xs)

-- tests that agree count alike
count_by-same : {A : Type 0} (p q : A → Bool) → ((x : A) → p x ≡ q x) → (xs : List A) → count_by p xs ≡ count_by q xs
count_by-same p q h xs = λ i. count_by (λ x. h x i) xs

-- the entries of the rows are those of the snapshots
entries-rows : (snaps : FinMap snap_cmp Snapshot) → entries (snap_rows snaps) ≡ map (λ e. (e.0, e.1.row)) (entries snaps)
unfolding snap_rows
entries-rows snaps =
    entries-seen snaps_total (map (λ e. (e.0, e.1.row)) (entries snaps)) (subst (IsStrictlySortedBy snap_cmp) (sym (keys_of-map_values (λ (s : Snapshot). s.row) (entries snaps))) (entries-sorted snap_cmp snaps))

own_test : (account : ℕ) (key : SnapKey) → owns account key ≡ (key.account == account)
own_test account key = grind (arith, nat_tests)

late_test : (a b : ℕ) → not (nat_le a b) ≡ nat_lt b a
late_test a b = grind (arith, nat_tests)

pending_test : (c late : Bool) → is_pending (status_by c late) ≡ (not c && not late)
pending_test true late = refl
pending_test false true = refl
pending_test false false = refl

open_test : (row : SnapRow) (now : ℕ) → is_pending (status_at row now) ≡ (not row.completed && nat_lt now (row.last.second + 60 * row.timeout))
open_test row now = pending_test row.completed (nat_le (row.last.second + 60 * row.timeout) now) ∙ ap (λ b. not row.completed && b) (late_test (row.last.second + 60 * row.timeout) now)

module _ (m : Machine) (account : ℕ) where
  pub kept-own : kept_count (rows_of m) account ≡ count_by (λ e. e.0.account == account) (entries m.snaps)
  kept-own =
      let es = entries (snap_rows m.snaps) in
      length-map (filter (λ e. owns account e.0) es) (λ e. e.1)
      ∙ length-filter (λ e. owns account e.0) es
      ∙ ap (count_by (λ (e : SnapKey × SnapRow). owns account e.0)) (entries-rows m.snaps)
      ∙ count_by-map (λ (e : SnapKey × SnapRow). owns account e.0) (λ (e : SnapKey × Snapshot). (e.0, e.1.row)) (entries m.snaps)
      ∙ count_by-same (λ (e : SnapKey × Snapshot). owns account e.0) (λ e. e.0.account == account) (λ e. own_test account e.0) (entries m.snaps)

  pub open-own : (now : ℕ) → open_count (rows_of m) account now ≡ count_by (λ e. (e.0.account == account) && (not e.1.row.completed && nat_lt now (e.1.row.last.second + 60 * e.1.row.timeout))) (entries m.snaps)
  open-own now =
      let es = entries (snap_rows m.snaps) in
      let test : SnapKey × SnapRow → Bool = λ e. owns account e.0 && is_pending (status_at e.1 now) in
      count_by-map (λ row. is_pending (status_at row now)) (λ (e : SnapKey × SnapRow). e.1) (filter (λ e. owns account e.0) es)
      ∙ count_by-filter (λ (e : SnapKey × SnapRow). is_pending (status_at e.1 now)) (λ e. owns account e.0) es
      ∙ ap (count_by (λ (e : SnapKey × SnapRow). owns account e.0 && is_pending (status_at e.1 now))) (entries-rows m.snaps)
      ∙ count_by-map (λ (e : SnapKey × SnapRow). owns account e.0 && is_pending (status_at e.1 now)) (λ (e : SnapKey × Snapshot). (e.0, e.1.row)) (entries m.snaps)
      ∙ count_by-same (λ (e : SnapKey × Snapshot). owns account e.0 && is_pending (status_at e.1.row now)) (λ e. (e.0.account == account) && (not e.1.row.completed && nat_lt now (e.1.row.last.second + 60 * e.1.row.timeout)))
      (λ e i. own_test account e.0 i && open_test e.1.row now i) (entries m.snaps)

fewer : (a b most : ℕ) → nat_le most a ≡ false → a ≡ b → b < most
fewer a b most e same = grind (arith, nat_tests)

abbrev HasRoom : Machine → ℕ → Option (List ℕ) → ℕ → Option SnapKey → SnapKey → Moment → List Tag → ℕ → Outcome → Type 0
HasRoom at account told owner from key begin shown gib d =
    d.1 ≡ Started told owner from key begin shown gib → (count_by (λ e. e.0.account == account) (entries at.snaps) < 10000)
    × (count_by (λ e. (e.0.account == account) && (not e.1.row.completed && nat_lt at.clock.second (e.1.row.last.second + 60 * e.1.row.timeout))) (entries at.snaps) < 100)

pub has-room : StartHasRoom
has-room m account reading size parent text tags token timeout told owner from key begin shown gib unused =
    let at = advance m (moment_at m reading) in
    step-cases (HasRoom at account told owner from key begin shown gib) m account reading (StartSnapshot size parent text tags token timeout)
    (λ origin tests e. (fewer _ _ most_kept tests.few_kept (kept-own at account), fewer _ _ most_open tests.few_open (open-own at account at.clock.second)), λ row tests e. absurd (unused-later m (moment_at m reading) account token row unused tests.used))
    (λ refusal e. cc)
