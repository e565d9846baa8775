-- Snapshots that are deleted one after another: each key is another than those before it.
use Rattle.std.proofs.Common.{◌≡◌, ◌+◌, ◌-◌, ◌<◌, ◌≤◌, arith, Bool, true, false, cond, not, ◌||◌, List, [], ◌∷◌, ◌++◌, length, take, drop, Option, Some, None, refl, sym, ap, subst, ◌∙◌}
use Rattle.std.proofs.lemmas.List.{take_all}
use Rattle.std.specs.Prelude.{get_or, is_some}
use Rattle.std.specs.List.{filter}
use Rattle.std.specs.FinMap.{FinMap, get, contains_key, remove, get-remove}
use Rattle.ebs_model.specs.declared.keys.SnapKey.{SnapKey}
use Rattle.ebs_model.specs.declared.keys.Moment.{Moment}
use Rattle.ebs_model.specs.declared.keys.AnyKey.{AnyKey}
use Rattle.ebs_model.specs.declared.keys.AnyKey.TheVariants.{Snap, Vol, Rule, Policy as policy_id}
use Rattle.ebs_model.specs.Keys.{snap_cmp}
use Rattle.ebs_model.specs.inner.Orders.{snaps_total}
use Rattle.ebs_model.specs.Rows.{Rows, is_key}
use Rattle.ebs_model.specs.Calls.Delete.{commit_delete}
use Rattle.ebs_model.specs.Calls.Run.{with_deleted}
use Rattle.ebs_model.proofs.RunLaws.{left_of, get-deletion}
use Rattle.ebs_catalog.specs.Held.{Held}
use Rattle.ebs_catalog.specs.Decided.{IsThere}
use Rattle.ebs_catalog.specs.PolicyCalls.{is_id, is_among}
use Rattle.ebs_catalog.specs.Rooms.{CoversEnded}
use Rattle.ebs_catalog.specs.Runs.{snap_of, snaps_of, AreThere, NonePasses, AreDistinct}
use Rattle.ebs_catalog.proofs.Stale.{other}
use Rattle.ebs_catalog.proofs.Commits.{filter-all}

-- ---- a list of ids

abbrev pub rest_of : List AnyKey → List AnyKey
rest_of l = take (length l - 1) (drop 1 l)

rest-cons : (id : AnyKey) (ids : List AnyKey) → rest_of (id ∷ ids) ≡ ids
rest-cons id ids = take_all (length (id ∷ ids) - 1) ids (omega arith)

pub fewer : (l : List AnyKey) → 1 ≤ length l → length (rest_of l) + 1 ≡ length l
fewer [] h = absurd (omega arith)
fewer (id ∷ ids) h = ap (λ l. length l + 1) (rest-cons id ids) ∙ omega arith

pub first-rest : (l : List AnyKey) (id : AnyKey) → 1 ≤ length l → id ≡ get_or l 0 id → l ≡ id ∷ rest_of l
first-rest [] id h is = absurd (omega arith)
first-rest (x ∷ xs) id h is = λ i. sym is i ∷ sym (rest-cons x xs) i

-- ---- keys

all-fail : (p : SnapKey → Bool) → ((q : SnapKey) → p q ≡ false) → (keys : List SnapKey) → NonePasses p keys
all-fail p h [] = tt
all-fail p h (key ∷ keys) = (h key, all-fail p h keys)

-- the first of distinct keys is none of the later ones
pub first-apart : (id : AnyKey) (keys : List SnapKey) → AreDistinct (snap_of id ++ keys) → NonePasses (λ q. is_id q id) keys × AreDistinct keys
first-apart (Snap key) keys d = d
first-apart (Vol key) keys d = (all-fail _ (λ q. refl) keys, d)
first-apart (Rule key) keys d = (all-fail _ (λ q. refl) keys, d)
first-apart (policy_id key) keys d = (all-fail _ (λ q. refl) keys, d)

-- a key that isn't taken out is as ready as before
pub ready-others : (m : FinMap snap_cmp (Option (Unit {0}))) (key q : SnapKey) → is_key q key ≡ false → contains_key m q ≡ true → contains_key (remove m key) q ≡ true
ready-others m key q h there = ap is_some (get-remove snaps_total m key q ∙ ap (λ b. cond b None (get m q)) (other q key h)) ∙ there

-- room for the later ones
pub later-room : (old new : Held) (id : AnyKey) → ((q : SnapKey) → is_id q id ≡ false → contains_key old.waits q ≡ true → contains_key new.waits q ≡ true)
    → (ids : List AnyKey) → NonePasses (λ q. is_id q id) (snaps_of ids) → CoversEnded old ids → CoversEnded new ids
later-room old new id h [] n c = tt
later-room old new id h (Snap key ∷ ids) n c = (h key n.0 c.0, later-room old new id h ids n.1 c.1)
later-room old new id h (Vol key ∷ ids) n c = (tt, later-room old new id h ids n c.1)
later-room old new id h (Rule key ∷ ids) n c = (tt, later-room old new id h ids n c.1)
later-room old new id h (policy_id key ∷ ids) n c = (tt, later-room old new id h ids n c.1)

pub first-there : (rows : Rows) (id : AnyKey) (keys : List SnapKey) → AreThere rows (snap_of id ++ keys) → AreThere rows (snap_of id)
first-there rows (Snap key) keys t = (t.0, tt)
first-there rows (Vol key) keys t = tt
first-there rows (Rule key) keys t = tt
first-there rows (policy_id key) keys t = tt

-- the later ones are still there
still-there : (rows : Rows) (at : Moment) (key : SnapKey) (keys : List SnapKey) → NonePasses (λ q. is_key q key) keys → AreThere rows keys → AreThere (commit_delete rows at key) keys
still-there rows at key [] n t = tt
still-there rows at key (q ∷ keys) n t =
    let there : IsThere (commit_delete rows at key) q = record {
      row = t.0.row;
      found = get-deletion rows at key q ∙ ap (λ b. cond b (left_of rows at q (get rows.snaps q)) (get rows.snaps q)) (other q key n.0) ∙ t.0.found;
    } in
    (there, still-there rows at key keys n.1 t.1)

pub later-there : (rows : Rows) (at : Moment) (id : AnyKey) (keys : List SnapKey) → NonePasses (λ q. is_id q id) keys → AreThere rows (snap_of id ++ keys) → AreThere (with_deleted rows at (snap_of id)) keys
later-there rows at (Snap key) keys n t = still-there rows at key keys n t.1
later-there rows at (Vol key) keys n t = t
later-there rows at (Rule key) keys n t = t
later-there rows at (policy_id key) keys n t = t

-- ---- what is left of keys

-- one test after another
pub filter-twice : (p r : SnapKey → Bool) (xs : List SnapKey) → filter (λ q. not (r q)) (filter (λ q. not (p q)) xs) ≡ filter (λ q. not (p q || r q)) xs
filter-twice p r [] = refl
filter-twice p r (x ∷ xs) = by (p x) (filter-twice p r xs)
  where
    by : (b : Bool) → filter (λ q. not (r q)) (filter (λ q. not (p q)) xs) ≡ filter (λ q. not (p q || r q)) xs
        → filter (λ q. not (r q)) (cond (not b) (x ∷ filter (λ q. not (p q)) xs) (filter (λ q. not (p q)) xs)) ≡ cond (not (b || r x)) (x ∷ filter (λ q. not (p q || r q)) xs) (filter (λ q. not (p q || r q)) xs)
    by true h = h
    by false h = ap (λ t. cond (not (r x)) (x ∷ t) t) h

pub among-none : (ids : List AnyKey) → length ids < 1 → (xs : List SnapKey) → filter (λ q. not (is_among q ids)) xs ≡ xs
among-none [] h xs = filter-all xs
among-none (id ∷ ids) h xs = absurd (omega (arith, h))
