-- Stamps of blocks that the machine shows, and that they are stored.
use Rattle.std.proofs.Common.{◌≡◌, ℕ, Bool, true, false, not, ◌&&◌, ◌||◌, ◌==◌, List, [], ◌∷◌, refl, sym, ap, ◌∙◌}
use Rattle.std.specs.Prelude.{nat_eq, nat_lt}
use Rattle.std.specs.List.{list_all, AllByRecursion}
use Rattle.std.specs.Cmp.Lexicographic.{pointwise}
use Rattle.ebs_model.specs.declared.array.Block.{Block}
use Rattle.ebs_model.specs.Arrays.{WholeBlock}
use Rattle.ebs_model.specs.Machine.{Machine}
use Rattle.ebs_row_rules.specs.Slots.{blocks_of, stamps}
use Rattle.ebs_row_rules.specs.Stamps.{are_alike}
use Rattle.ebs_recovery.specs.inner.Bases.{kept_block, machine_of}
use Rattle.ebs_lawful_points.proofs.Parts.{all-of, weaker}
use Rattle.ebs_lawful_points.proofs.RowRules.{no_more-is, less-is, same-is}
use Rattle.ebs_lawful_points.proofs.SnapPoints.{same}
use Rattle.ebs_lawful_points.specs.Blocks.{HasStamps}
use Rattle.ebs_point_rules.specs.Blocks.{IsShown}
use Rattle.ebs_point_rules.specs.Laws.{ShownAreGiven, StampsAreStored}

itself : (bytes : List ℕ) → pointwise nat_eq bytes bytes ≡ true
itself [] = refl
itself (x ∷ xs) = λ i. same-is x x refl i && itself xs i

module _ (m : Machine) (of : HasStamps m) where
  each-low : (bs : List Block) → AllByRecursion (IsShown m) bs → list_all (λ n. nat_lt n m.stamps) (stamps bs) ≡ true
  each-low [] all = refl
  each-low (b ∷ bs) all =
      let shown = all.0 in
      let low = less-is b.stamp m.stamps (of.given shown.holder shown.index (kept_block b) shown.there) in
      λ i. low i && each-low bs all.1 i

  alike : (a b : Block) → IsShown m a → IsShown m b → are_alike a b ≡ true
  alike a b x y = by (a.stamp == b.stamp) refl
    where
      digests : a.stamp ≡ b.stamp → b.digest ≡ a.digest
      digests e = ap (λ (w : WholeBlock). w.bytes) (of.one x.holder x.index (kept_block a) x.there y.holder y.index (kept_block b) y.there (sym e))

      by : (t : Bool) → (a.stamp == b.stamp) ≡ t → (not t || pointwise nat_eq a.digest b.digest) ≡ true
      by true t = ap (pointwise nat_eq a.digest) (digests (same a.stamp b.stamp t)) ∙ itself a.digest
      by false t = refl

  each-alike : (a : Block) → IsShown m a → (bs : List Block) → AllByRecursion (IsShown m) bs → list_all (are_alike a) bs ≡ true
  each-alike a x bs all = all-of (are_alike a) bs (weaker (IsShown m) (λ (b : Block). are_alike a b ≡ true) (λ b y. alike a b x y) bs all)

pub shown-given : ShownAreGiven
shown-given point of all = record {
  low = each-low (machine_of point) of (blocks_of point) all;
  one = all-of (λ (a : Block). list_all (are_alike a) (blocks_of point)) (blocks_of point)
      (weaker (IsShown (machine_of point)) (λ (a : Block). list_all (are_alike a) (blocks_of point) ≡ true) (λ a x. each-alike (machine_of point) of a x (blocks_of point) all) (blocks_of point) all);
}

pub stamps-stored : StampsAreStored
stamps-stored point counts given held moved =
    let few = no_more-is point.next_stamp point.accepted counts.stamps in
    λ i. (few i && (given.low i && given.one i)) && (held.stored i && (moved.numbers i && (moved.stored i && (held.places i && (held.apart i && (moved.places i && moved.apart i))))))
