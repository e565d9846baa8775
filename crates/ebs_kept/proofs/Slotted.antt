-- The blocks of the machine, and their slots.
use Rattle.std.proofs.Common.{◌≡◌, ℕ, Bool, true, false, cond, Some, None, IsSome, refl, sym, ap, subst, ◌∙◌}
use Rattle.std.specs.Ordering.{nat_cmp}
use Rattle.std.specs.FinMap.{get, empty, get-empty}
use Rattle.ebs_model.specs.declared.keys.SnapKey.{SnapKey}
use Rattle.ebs_model.specs.declared.keys.VolKey.{VolKey}
use Rattle.ebs_model.specs.declared.array.Block.{Block}
use Rattle.ebs_model.specs.Arrays.{WholeBlock}
use Rattle.ebs_model.specs.Rows.{Rows}
use Rattle.ebs_model.specs.Machine.{array_of, disk_of}
use Rattle.ebs_lineage.specs.Reached.{HasStamp}
use Rattle.ebs_slots.specs.inner.Slots.{SlotTable}
use Rattle.ebs_holds.specs.declared.holder.Holder.{Holder}
use Rattle.ebs_holds.specs.Holders.{is_holder, of_snap, of_vol}
use Rattle.ebs_holds.specs.Holds.{Holding, blocks_at}
use Rattle.ebs_catalog.specs.Held.{rows_in}
use Rattle.ebs_kept.specs.declared.kept.Kept.TheInside.{Inside}
use Rattle.ebs_kept.specs.inner.Shown.{kept_block, kept_array, shown}
use Rattle.ebs_kept.specs.inner.Stamps.{HasBlock, is_shown}
use Rattle.ebs_kept.specs.inner.Counted.{IsAllShown}
use Rattle.ebs_kept.specs.Stamps.{in_snapshot, in_volume}
use Rattle.ebs_kept.proofs.Arrays.{get-kept, kept-found}
use Rattle.ebs_kept.proofs.Live.{seen, seen-snapshot, seen-volume}
use Rattle.std.specs.Option.{option_map}

none_some : {A B : Type 0} (a : A) → None ≡ Some a → B
none_some a e = absurd (cc)

-- each block of an array has a slot
abbrev pub HaveSlots : Holding → SlotTable → Type 0
HaveSlots h s = (q : Holder) (index : ℕ) (block : Block) → get (blocks_at h q) index ≡ Some block → IsSome (get s.keys block.stamp)

module _ (k : Inside) where
  module _ (s : SlotTable) (have : HaveSlots k.holdings s) where
    seen-slot : (q : Holder) (b : Bool) (index : ℕ) (block : WholeBlock) → get (cond b (kept_array (blocks_at k.holdings q)) empty) index ≡ Some block → IsSome (get s.keys block.stamp)
    seen-slot q true index block found =
        let (b, there, is) = kept-found (blocks_at k.holdings q) index block found in
        subst (λ (w : WholeBlock). IsSome (get s.keys w.stamp)) is (have q index b there)
    seen-slot q false index block found = none_some block (sym (get-empty nat_cmp index) ∙ found)

    pub snapshot-slot : (key : SnapKey) (index : ℕ) (block : WholeBlock) → get (array_of (shown k) key) index ≡ Some block → IsSome (get s.keys block.stamp)
    snapshot-slot key index block found =
        seen-slot (of_snap key) (is_shown k.clock.second (rows_in k.catalog) (of_snap key)) index block (ap (λ a. get a index) (sym (seen-snapshot k key)) ∙ found)

    pub volume-slot : (key : VolKey) (index : ℕ) (block : WholeBlock) → get (disk_of (shown k) key) index ≡ Some block → IsSome (get s.keys block.stamp)
    volume-slot key index block found =
        seen-slot (of_vol key) (is_shown k.clock.second (rows_in k.catalog) (of_vol key)) index block (ap (λ a. get a index) (sym (seen-volume k key)) ∙ found)

  -- a block that is found in what is shown is one of the machine's
  module _ (q : Holder) (index : ℕ) (block : Block) (found : get (blocks_at k.holdings q) index ≡ Some block) where
    seen-here : is_shown k.clock.second (rows_in k.catalog) q ≡ true → get (seen k q) index ≡ Some (kept_block block)
    seen-here shows = ap (λ b. get (cond b (kept_array (blocks_at k.holdings q)) empty) index) shows ∙ get-kept (blocks_at k.holdings q) index ∙ ap (option_map kept_block) found

    machine-block : (b : Bool) → q.is_volume ≡ b → is_shown k.clock.second (rows_in k.catalog) q ≡ true → HasBlock (shown k) block.stamp
    machine-block false is shows =
        let key : SnapKey = record { account = q.account; number = q.number } in
        (block.digest, in_snapshot key index (ap (λ a. get a index) (seen-snapshot k key ∙ (λ i. seen k (record { is_volume = sym is i; account = q.account; number = q.number }))) ∙ seen-here shows))
    machine-block true is shows =
        let key : VolKey = record { account = q.account; number = q.number } in
        (block.digest, in_volume key index (ap (λ a. get a index) (seen-volume k key ∙ (λ i. seen k (record { is_volume = sym is i; account = q.account; number = q.number }))) ∙ seen-here shows))

    shown-block : IsAllShown k.clock.second (rows_in k.catalog) k.holdings → (b : Bool) → is_shown k.clock.second (rows_in k.catalog) q ≡ b → HasBlock (shown k) block.stamp
    shown-block all true shows = machine-block q.is_volume refl shows
    shown-block all false hidden = none_some block (sym (ap (λ a. get a index) (all q hidden) ∙ get-empty nat_cmp index) ∙ found)

  -- so a stamp that a holder's array has is
  pub stamp-block : IsAllShown k.clock.second (rows_in k.catalog) k.holdings → (stamp : ℕ) (q : Holder) → HasStamp (blocks_at k.holdings q) stamp → HasBlock (shown k) stamp
  stamp-block all stamp q has =
      subst (HasBlock (shown k)) has.same (shown-block q has.index has.block has.found all (is_shown k.clock.second (rows_in k.catalog) q) refl)

-- arrays that stay are shown as before
pub all-shown : (now : ℕ) (k new : Inside) → rows_in new.catalog ≡ rows_in k.catalog → ((q : Holder) → blocks_at new.holdings q ≡ blocks_at k.holdings q) → IsAllShown now (rows_in k.catalog) k.holdings → IsAllShown now (rows_in new.catalog) new.holdings
all-shown now k new rows same all q hidden = same q ∙ all q (ap (λ r. is_shown now r q) (sym rows) ∙ hidden)

-- and so they are where one is dropped
pub dropped-all : (now : ℕ) (rows : Rows) (g h : Holding) (key : Holder) → ((q : Holder) → blocks_at h q ≡ cond (is_holder q key) empty (blocks_at g q)) → IsAllShown now rows g → IsAllShown now rows h
dropped-all now rows g h key dropped all q hidden = dropped q ∙ by (is_holder q key)
  where
    by : (b : Bool) → cond b empty (blocks_at g q) ≡ empty
    by true = refl
    by false = all q hidden
