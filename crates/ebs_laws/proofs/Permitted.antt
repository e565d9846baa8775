-- With whom a snapshot is shared after a call.
use Rattle.std.proofs.Common.{◌≡◌, ℕ, ◌≤◌, Bool, true, false, not, ◌&&◌, ◌||◌, ◌==◌, cond, nat_lt, is_some, List, [], ◌∷◌, length, Option, Some, None, sym, ap, ◌∙◌, refl, arith}
use Rattle.std.proofs.lemmas.Bool.Decides.{nat_tests}
use Rattle.std.specs.List.{list_any}
use Rattle.std.specs.List.Sorted.{IsStrictlySortedBy}
use Rattle.std.specs.Ordering.{nat_cmp, eq_by_cmp}
use Rattle.std.specs.Cmp.{nat_cmp_total}
use Rattle.std.specs.FinMap as fin
use Rattle.std.specs.FinMap.{nat_cmp-IsAntisymmetric, contains_key-keys, get-insert, get-remove, get-empty}
use Rattle.ebs_model.specs.declared.keys.SnapKey.{SnapKey}
use Rattle.ebs_model.specs.declared.request.Request.TheVariants.{ModifyPermission}
use Rattle.ebs_model.specs.declared.answer.Answer.TheVariants.{Done}
use Rattle.ebs_model.specs.Time.{Snapshot}
use Rattle.ebs_model.specs.Machine.{Machine, advance}
use Rattle.ebs_model.specs.inner.Orders.{snaps_total, exact_snaps}
use Rattle.ebs_model.specs.Calls.Permission.{AccountSet, with_all, without_all, permitted, permitted_row}
use Rattle.ebs_tables.proofs.TreeMaps.{entries-sorted}
use Rattle.ebs_tables.proofs.MapEdits.{is_same, tied}
use Rattle.ebs_laws.specs.Words.{moment_at}
use Rattle.ebs_laws.specs.SharingLaws.{is_among, SharesAsAsked, SharingIsAsAsked}
use Rattle.ebs_laws.proofs.Maps.{get-itself, get-other}
use Rattle.ebs_laws.proofs.Cases.{Outcome, step-cases}
use Rattle.ebs_laws.proofs.Whole.{with_snapshot, rewritten}

equal_is : (a b : ℕ) → (a == b) ≡ true → a ≡ b
equal_is a b e = grind (arith, nat_tests)

itself : (a : ℕ) → (a == a) ≡ true
itself a = grind (arith, nat_tests)

-- the order's ties are equal numbers
tie : (q a : ℕ) → eq_by_cmp nat_cmp q a ≡ (a == q)
tie q a = by (eq_by_cmp nat_cmp q a) (a == q) refl refl
  where
    true_false : true ≡ false → ⊥
    true_false e = cc

    by : (b c : Bool) → eq_by_cmp nat_cmp q a ≡ b → (a == q) ≡ c → b ≡ c
    by true true e d = refl
    by false false e d = refl
    by true false e d = absurd (true_false (sym (ap (λ n. a == n) (is_same nat_cmp-IsAntisymmetric q a e) ∙ itself a) ∙ d))
    by false true e d = absurd (true_false (sym (ap (eq_by_cmp nat_cmp q) (equal_is a q d) ∙ tied nat_cmp_total q) ∙ e))

among-keys : (set : AccountSet) (a : ℕ) → is_among a (fin.keys set) ≡ fin.contains_key set a
among-keys set a = (λ i. list_any (λ b. sym (tie a b) i) (fin.keys set)) ∙ sym (contains_key-keys set a)

put-has : (set : AccountSet) (k a : ℕ) → fin.contains_key (fin.insert set k tt) a ≡ ((k == a) || fin.contains_key set a)
put-has set k a = ap is_some (get-insert nat_cmp_total set k tt a) ∙ ap (λ b. is_some (cond b (Some tt) (fin.get set a))) (tie a k) ∙ by (k == a)
  where
    by : (b : Bool) → is_some (cond b (Some tt) (fin.get set a)) ≡ (b || is_some (fin.get set a))
    by true = refl
    by false = refl

taken-has : (set : AccountSet) (k a : ℕ) → fin.contains_key (fin.remove set k) a ≡ (fin.contains_key set a && not (k == a))
taken-has set k a = ap is_some (get-remove nat_cmp_total set k a) ∙ ap (λ b. is_some (cond b None (fin.get set a))) (tie a k) ∙ by (k == a) (fin.get set a)
  where
    by : (b : Bool) (o : Option (Unit {0})) → is_some (cond b None o) ≡ (is_some o && not b)
    by true None = refl
    by true (Some u) = refl
    by false None = refl
    by false (Some u) = refl

with-has : (xs : List ℕ) (set : AccountSet) (a : ℕ) → fin.contains_key (with_all xs set) a ≡ (fin.contains_key set a || is_among a xs)
with-has [] set a = by (fin.contains_key set a)
  where
    by : (b : Bool) → b ≡ (b || false)
    by true = refl
    by false = refl
with-has (x ∷ xs) set a = with-has xs (fin.insert set x tt) a ∙ ap (λ b. b || is_among a xs) (put-has set x a) ∙ by (x == a) (fin.contains_key set a)
  where
    by : (b c : Bool) → ((b || c) || is_among a xs) ≡ (c || (b || is_among a xs))
    by true true = refl
    by true false = refl
    by false c = refl

without-has : (xs : List ℕ) (set : AccountSet) (a : ℕ) → fin.contains_key (without_all xs set) a ≡ (fin.contains_key set a && not (is_among a xs))
without-has [] set a = by (fin.contains_key set a)
  where
    by : (b : Bool) → b ≡ (b && true)
    by true = refl
    by false = refl
without-has (x ∷ xs) set a = without-has xs (fin.remove set x) a ∙ ap (λ b. b && not (is_among a xs)) (taken-has set x a) ∙ by (x == a) (fin.contains_key set a)
  where
    by : (b c : Bool) → ((c && not b) && not (is_among a xs)) ≡ (c && not (b || is_among a xs))
    by true true = refl
    by true false = refl
    by false true = refl
    by false false = refl

-- who is among the accounts after a change
pub among-permitted : (shared add remove : List ℕ) (a : ℕ) → is_among a (permitted shared add remove) ≡ ((is_among a shared || is_among a add) && not (is_among a remove))
among-permitted shared add remove a =
    let none : AccountSet = fin.empty in
    let old = with_all shared none in
    let first : fin.contains_key old a ≡ is_among a shared = with-has shared none a ∙ ap (λ o. is_some o || is_among a shared) (get-empty {X = Unit {0}} nat_cmp a) in
    among-keys (without_all remove (with_all add old)) a
    ∙ without-has remove (with_all add old) a
    ∙ ap (λ b. b && not (is_among a remove)) (with-has add old a ∙ ap (λ b. b || is_among a add) first)

permitted-ascends : (shared add remove : List ℕ) → IsStrictlySortedBy nat_cmp (permitted shared add remove)
permitted-ascends shared add remove = entries-sorted nat_cmp (without_all remove (with_all add (with_all shared fin.empty)))

at_most : (n : ℕ) → nat_lt 1000 n ≡ false → n ≤ 1000
at_most n e = grind (arith, nat_tests)

module _ (key : SnapKey) (add : List ℕ) (add_all : Bool) (remove : List ℕ) (remove_all : Bool) where
  abbrev Shares : Machine → Outcome → Type 0
  Shares at d = d.1 ≡ Done → SharesAsAsked at d.0 key add add_all remove remove_all

  shared-so : (at : Machine) (s : Snapshot) → fin.get at.snaps key ≡ Some s → nat_lt 1000 (length (permitted s.row.shared add remove)) ≡ false
      → SharesAsAsked at (with_snapshot at key (rewritten (permitted_row add add_all remove remove_all s.row) s)) key add add_all remove remove_all
  shared-so at s is few =
      let row = permitted_row add add_all remove remove_all s.row in
      record {
        found = s;
        was_there = is;
        row = row;
        is_there = get-itself snaps_total exact_snaps at.snaps key (rewritten row s);
        members = among-permitted s.row.shared add remove;
        ascending = permitted-ascends s.row.shared add remove;
        few = at_most (length (permitted s.row.shared add remove)) few;
        public_is = refl;
        rest = refl;
        other_snapshots = λ k other. get-other snaps_total exact_snaps at.snaps key _ k other;
        accounts = refl;
        tokens = refl;
        volumes = refl;
        disks = refl;
        rules = refl;
        policies = refl;
      }

pub sharing-so : SharingIsAsAsked
sharing-so m account reading key add add_all remove remove_all =
    let at = advance m (moment_at m reading) in
    step-cases (Shares key add add_all remove remove_all at) m account reading (ModifyPermission key add add_all remove remove_all)
    (λ s is passes few e. shared-so key add add_all remove remove_all at s is few)
    (λ refusal e. cc)
