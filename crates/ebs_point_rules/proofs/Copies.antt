-- A checkpoint without copies.
use Rattle.std.proofs.Common.{◌≡◌, ℕ, ◌^◌, Bool, true, false, not, ◌&&◌, ◌||◌, List, [], ◌∷◌, ◌++◌, is_some, refl, ap, ◌∙◌}
use Rattle.std.specs.Prelude.{nat_le, nat_lt}
use Rattle.std.specs.List.{list_all, AllByRecursion}
use Rattle.std.specs.FinMap.{get, keys}
use Rattle.ebs_checkpoints.specs.declared.nodes.CopyRow.{CopyRow}
use Rattle.ebs_checkpoints.specs.declared.nodes.SlotRow.{SlotRow}
use Rattle.ebs_checkpoints.specs.declared.nodes.NodeRow.{NodeRow}
use Rattle.ebs_checkpoints.specs.declared.snapshots.SnapPoint.{SnapPoint}
use Rattle.ebs_row_rules.specs.Numbers.{are_distinct, are_same}
use Rattle.ebs_row_rules.specs.Slots as stored
use Rattle.ebs_node_rules.specs.Nodes.{node_of, is_open}
use Rattle.ebs_node_rules.specs.Arrays.{Arrays, array_in, arrays_of, row_array, agrees, copies_agree, is_copied, is_moved, gives_up}
use Rattle.ebs_node_rules.specs.States.{is_none_of, is_standard}
use Rattle.ebs_lawful_points.proofs.Parts.{each-of, all-of, weaker}
use Rattle.ebs_lawful_points.proofs.RowRules.{no_more-is}
use Rattle.ebs_point_rules.specs.Moved.{is_moved_done}
use Rattle.ebs_recovery.specs.Bases.{has_no_copies}
use Rattle.ebs_point_rules.specs.Laws.{NothingIsMoved}

pub none-of : {X : Type 0} (xs : List X) → is_none_of xs ≡ true → xs ≡ []
none-of [] e = refl
none-of (x ∷ xs) e = absurd (cc)

or-true : (a b : Bool) → b ≡ true → (a || b) ≡ true
or-true true b e = refl
or-true false b e = e

none-copied : (ks : List ℕ) → (not (is_none_of ks) && list_all (is_copied []) ks) ≡ false
none-copied [] = refl
none-copied (k ∷ ks) = refl

and-false : (a b : Bool) → b ≡ false → (a && b) ≡ false
and-false true b e = e
and-false false b e = refl

module _ (nodes : List NodeRow) (arrays : Arrays) (p : SnapPoint) (none : p.copies ≡ []) where
  agree-none : copies_agree nodes arrays p ≡ true
  agree-none = or-true (not (is_some p.node)) _ (ap (λ (cs : List CopyRow). list_all (λ copy. agrees (is_open (node_of nodes p.node)) (get (array_in arrays p.node) copy.index) copy.block) cs) none)

  moved-none : is_moved arrays p ≡ false
  moved-none = and-false (not (is_standard p.tier)) _
      (ap (λ (cs : List CopyRow). not (is_none_of (keys (row_array arrays p))) && list_all (is_copied cs) (keys (row_array arrays p))) none ∙ none-copied (keys (row_array arrays p)))

  gives-none : gives_up arrays p ≡ true
  gives-none = ap (λ (b : Bool). not b || not (is_some p.node)) moved-none

copies-none : (ss : List SnapPoint) → AllByRecursion (λ (p : SnapPoint). p.copies ≡ []) ss → stored.copies_of ss ≡ []
copies-none [] all = refl
copies-none (s ∷ ss) all = λ i. all.0 i ++ copies-none ss all.1 i

pub nothing-moved : NothingIsMoved
nothing-moved point none =
    let each : AllByRecursion (λ (p : SnapPoint). p.copies ≡ []) point.snapshots =
    weaker (λ (p : SnapPoint). has_no_copies p ≡ true) (λ (p : SnapPoint). p.copies ≡ []) (λ p e. none-of p.copies e) point.snapshots (each-of has_no_copies point.snapshots none.rows) in
    let arrays = arrays_of point.nodes in
    let copies = copies-none point.snapshots each in
    let slots = none.slots in
    let next : nat_le point.next_copy (2 ^ 42) ≡ true = no_more-is point.next_copy (2 ^ 42) none.next in
    record {
      done = all-of is_moved_done point.snapshots
          (weaker (λ (p : SnapPoint). has_no_copies p ≡ true) (λ (p : SnapPoint). is_moved_done p ≡ true) (λ p e. or-true p.completed (is_none_of p.copies) e) point.snapshots (each-of has_no_copies point.snapshots none.rows));
      agree = all-of (copies_agree point.nodes arrays) point.snapshots (weaker (λ (p : SnapPoint). p.copies ≡ []) (λ (p : SnapPoint). copies_agree point.nodes arrays p ≡ true) (agree-none point.nodes arrays) point.snapshots each);
      given_up = all-of (gives_up arrays) point.snapshots (weaker (λ (p : SnapPoint). p.copies ≡ []) (λ (p : SnapPoint). gives_up arrays p ≡ true) (gives-none point.nodes arrays) point.snapshots each);
      numbers = λ i. next i && (list_all (λ n. nat_lt n point.next_copy) (stored.numbers (copies i)) && are_distinct (stored.numbers (copies i)));
      stored = λ i. are_same (stored.numbers (copies i)) (stored.keys (slots i));
      places = ap (λ (rows : List SlotRow). list_all stored.is_copy_slot (stored.slots rows)) slots;
      apart = ap (λ (rows : List SlotRow). are_distinct (stored.slots rows)) slots;
    }
