-- How the slots count the blocks that nodes keep, through what a change does.
use Rattle.std.specs.Prelude.{◌≡◌, ℕ, if◌then◌else◌}
use Rattle.std.specs.declared.option.Option.{Option}
use Rattle.std.specs.declared.option.Option.TheVariants.{None, Some}
use Rattle.std.specs.Option.{option_map}
use Rattle.std.specs.FinMap as map
use Rattle.ebs_model.specs.declared.array.Block.{Block}
use Rattle.ebs_model.specs.declared.request.Request.{Request}
use Rattle.ebs_model.specs.declared.request.Request.TheVariants.{PutSnapshotBlock, WriteVolumeBlock}
use Rattle.ebs_lineage.specs.declared.node.Node.{Node}
use Rattle.ebs_lineage.specs.declared.node_id.NodeId.{NodeId}
use Rattle.ebs_lineage.specs.Table.{NodeMap}
use Rattle.ebs_lineage.specs.Lines.{own}
use Rattle.ebs_slots.specs.inner.Slots.{SlotTable, released}
use Rattle.ebs_collect.specs.Slices.{IsCounted}
use Rattle.ebs_holds.specs.declared.holder.Holder.{Holder}
use Rattle.ebs_holds.specs.Holders.{of_snap, of_vol}
use Rattle.ebs_holds.specs.Holds.{Holding, held_in, nodes_in}

-- each node keeps what it kept
abbrev pub KeepsBlocks : NodeMap → NodeMap → Type 0
KeepsBlocks old new = (n : ℕ) → own new n ≡ own old n

-- the stamp has the slot, for one entry
pub record IsGiven (s t : SlotTable) (stamp slot : ℕ) : Type 0 where
  pub keys : t.keys ≡ map.insert s.keys stamp slot
  pub counts : t.counts ≡ map.insert s.counts stamp 1

-- the slots without that of a stamp
abbrev pub without_stamp : SlotTable → Option ℕ → SlotTable
without_stamp s None = s
without_stamp s (Some stamp) = released s stamp

-- where the block that is put has a slot, and the one that it replaces is given up, the slots count the blocks again
abbrev pub PutsCounted : NodeMap → NodeMap → ℕ → Option ℕ → Type 0
PutsCounted old new stamp replaced = (s t : SlotTable) (slot : ℕ) → IsCounted s old → map.get s.keys stamp ≡ None → IsGiven s t stamp slot → IsCounted (without_stamp t replaced) new

-- the stamp of the block that an open node keeps itself at the index
abbrev pub stamp_in : Option Node → ℕ → Option ℕ
stamp_in None index = None
stamp_in (Some x) index = if x.is_open then option_map (λ (b : Block). b.stamp) (map.get x.own.blocks index) else None

abbrev pub stamp_at : NodeMap → Option NodeId → ℕ → Option ℕ
stamp_at nodes None index = None
stamp_at nodes (Some n) index = stamp_in (map.get nodes n.number) index

-- the stamp of the block that a put into the holder's array takes the place of, if the holder's own open node keeps one there
abbrev pub replaced_by : Holding → Holder → ℕ → Option ℕ
replaced_by h q index = stamp_at (nodes_in h) (map.get (held_in h) q) index

-- whose array a request puts a block into, and at which index
abbrev pub put_place : Request → Option (Holder × ℕ)
put_place (PutSnapshotBlock key index digest bytes) = Some (of_snap key, index)
put_place (WriteVolumeBlock key index digest bytes) = Some (of_vol key, index)
put_place request = None

abbrev pub replaced_at : Holding → Option (Holder × ℕ) → Option ℕ
replaced_at h None = None
replaced_at h (Some place) = replaced_by h place.0 place.1

abbrev pub replaced_in : Holding → Request → Option ℕ
replaced_in h request = replaced_at h (put_place request)

-- what a change does to the blocks that nodes keep, and to the slots that count them
abbrev pub CountedBy : NodeMap → NodeMap → Option (Holder × ℕ) → ℕ → Option ℕ → Type 0
CountedBy old new None stamp replaced = KeepsBlocks old new
CountedBy old new (Some place) stamp replaced = PutsCounted old new stamp replaced

abbrev pub KeepsCounted : NodeMap → NodeMap → Request → ℕ → Option ℕ → Type 0
KeepsCounted old new request stamp replaced = CountedBy old new (put_place request) stamp replaced
