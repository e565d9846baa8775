-- Where blocks stand, and maps in which a key chooses its value.
use Rattle.std.proofs.Common.{◌≡◌, ℕ, Bool, true, false, cond, List, [], ◌∷◌, map, Option, Some, None, Ordering, refl, sym, ap, subst, ◌∙◌}
use Rattle.std.specs.Option.{option_map}
use Rattle.std.specs.Ordering.{eq_by_cmp}
use Rattle.std.specs.Cmp.{IsTotalOrder}
use Rattle.std.specs.FinMap as fin
use Rattle.std.specs.FinMap.{FinMap, IsAntisymmetric, find, get, entries, empty, get-entries, get-from_entries, get-empty, same_map}
use Rattle.ebs_tables.proofs.MapEdits.{is_same}
use Rattle.ebs_world.specs.declared.area.Area.TheVariants.{Blocks}
use Rattle.ebs_world.specs.Image.{Image}
use Rattle.ebs_slots.specs.Slots.{IsBlock}
use Rattle.ebs_model.specs.Arrays.{WholeBlock}
use Rattle.ebs_model.specs.Machine.{Machine}
use Rattle.ebs_recovery.specs.Made.{SlotOfStamp}
use Rattle.ebs_recovery.specs.Stands.{Holder, EachEntry, HasBlock, Place, in_blocks}
use Rattle.ebs_recovery.specs.inner.Stands.{EachBlock, map_entries}

-- ---- values by their keys

module _ {K X Y : Type 0} {R : K → K → Ordering} (o : IsTotalOrder R) (exact : IsAntisymmetric R) (f : K → X → Y) where
  find_made : (es : List (K × X)) (q : K) → find R q (map {B = K × Y} (λ e. (e.0, f e.0 e.1)) es) ≡ option_map (f q) (find R q es)
  find_made [] q = refl
  find_made (e ∷ es) q = by (eq_by_cmp R q e.0) refl (find_made es q)
    where
      by : (b : Bool) → eq_by_cmp R q e.0 ≡ b → find R q (map {B = K × Y} (λ e. (e.0, f e.0 e.1)) es) ≡ option_map (f q) (find R q es)
          → cond b (Some (f e.0 e.1)) (find R q (map {B = K × Y} (λ e. (e.0, f e.0 e.1)) es)) ≡ option_map (f q) (cond b (Some e.1) (find R q es))
      by true same rest = ap (λ (k : K). Some (f k e.1)) (sym (is_same exact q e.0 same))
      by false other rest = rest

  pub get-map_entries : (m : FinMap R X) (q : K) → get (map_entries f m) q ≡ option_map (f q) (get m q)
  unfolding map_entries
  get-map_entries m q =
      get-from_entries o (map {B = K × Y} (λ e. (e.0, f e.0 e.1)) (entries m)) q
      ∙ find_made (entries m) q
      ∙ ap (option_map (f q)) (sym (get-entries m q))

  pub map_entries-empty : map_entries {R = R} f empty ≡ empty
  map_entries-empty = same_map o exact _ _ (λ q. get-map_entries empty q ∙ ap (option_map (f q)) (get-empty R q) ∙ sym (get-empty R q))

-- ---- places

-- the block stands in the slot of its stamp
pub record InSlot (c : Image) (slots : SlotOfStamp) (block : WholeBlock) : Type 0 where
  pub slot : ℕ
  pub found : fin.get slots block.stamp ≡ Some slot
  pub stands : IsBlock c Blocks slot block.bytes

module _ (c : Image) (slots : SlotOfStamp) (key : Holder) (index : ℕ) (block : WholeBlock) where
  pub in_slot : HasBlock c slots key index block → InSlot c slots block
  in_slot is = at (fin.get slots block.stamp) refl is.found
    where
      one : (p q : Place) → Some p ≡ Some q → p ≡ q
      one p q e = cc

      at : (o : Option ℕ) → fin.get slots block.stamp ≡ o → in_blocks o ≡ Some (is.area, is.slot) → InSlot c slots block
      at None found e = absurd (cc)
      at (Some slot) found e = record { slot = slot; found = found; stands = subst (λ (p : Place). IsBlock c p.0 p.1 block.bytes) (sym (one (Blocks, slot) (is.area, is.slot) e)) is.stands }

  pub in_place : InSlot c slots block → HasBlock c slots key index block
  in_place is = record { area = Blocks; slot = is.slot; found = ap in_blocks is.found; stands = is.stands }

pub each_in_place : (c : Image) (slots : SlotOfStamp) (m : Machine) → EachBlock (InSlot c slots) m → EachEntry (HasBlock c slots) m
each_in_place c slots m each key index block e = in_place c slots key index block (each key index block e)
