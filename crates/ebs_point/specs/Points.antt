-- The checkpoint of what a store keeps at a moment.
use Rattle.std.specs.Prelude.{ℕ, ◌≡◌, ◌≤◌, List, Some}
use Rattle.std.specs.FinMap as map
use Rattle.ebs_model.specs.declared.keys.Moment.{Moment}
use Rattle.ebs_model.specs.declared.rows.SnapRow.{SnapRow}
use Rattle.ebs_model.specs.Quotas.{last_second}
use Rattle.ebs_model.specs.Rows.{Rows}
use Rattle.ebs_model.specs.Machine.{Machine, advance}
use Rattle.ebs_world.specs.declared.area.Area.TheVariants.{Blocks}
use Rattle.ebs_slots.specs.inner.Slots.{SlotTable}
use Rattle.ebs_collect.specs.Slices.{IsCounted}
use Rattle.ebs_checkpoints.specs.declared.nodes.SlotRow.{SlotRow}
use Rattle.ebs_checkpoints.specs.declared.checkpoint.Checkpoint.{Checkpoint}
use Rattle.ebs_checkpoint_rules.specs.Rules.{HasRules, IsCheckpoint}
use Rattle.ebs_recovery.specs.inner.Bases.{machine_of}
use Rattle.ebs_recovery.specs.Bases.{slots_of}
use Rattle.ebs_recovery.specs.Made.{SlotOfStamp}
use Rattle.ebs_recovery.specs.inner.Fits.{AgreeOn}
use Rattle.ebs_lawful.specs.Arrays.{AreArrays}
use Rattle.ebs_lawful.specs.Lawful.{IsLawful}
use Rattle.ebs_lawful_points.specs.Blocks.{HasStamps}
use Rattle.ebs_recovery.specs.Bases.{HasNoCopies}
use Rattle.ebs_point_rules.specs.Values.{HasShortLists}
use Rattle.ebs_holds.specs.Holds.{AreHeld, Holding, held_in, nodes_in}
use Rattle.ebs_kept.specs.inner.Parts.{Shows}
use Rattle.ebs_kept.specs.inner.Nodes.{HaveNodes}
use Rattle.ebs_pointed.specs.Placed.{ArePlaced}

-- each stamp that is named has the slot of the key
abbrev pub AreKeysOf : SlotOfStamp → List SlotRow → Type 0
AreKeysOf keys rows = (stamp slot : ℕ) → map.get (slots_of rows) stamp ≡ Some slot → map.get keys stamp ≡ Some slot

-- a lawful machine that is what rows and arrays show, with stamps that were given, and the nodes and slots that a checkpoint at a later
-- moment wants
pub record CanPoint (m : Machine) (rows : Rows) (h : Holding) (s : SlotTable) (at : Moment) : Type 0 where
  pub shows : Shows m rows h
  pub held : AreHeld (nodes_in h) h.lines.made (held_in h)
  pub later : m.clock.second ≤ at.second
  pub early : at.second ≤ last_second
  pub lawful : IsLawful m
  pub arrays : AreArrays m
  pub stamps : HasStamps m
  pub placed : ArePlaced (λ (row : SnapRow). row.key) rows.snaps
  pub nodes : HaveNodes at.second rows h
  pub counted : IsCounted s (nodes_in h)
  pub area : s.area ≡ Blocks

-- it says the machine at the moment with nothing in the archive, has all rules, is one that can be written where its lists are short, and each
-- block of it has the slot that the store keeps, as each stamp that it names
pub record IsPointAt (m : Machine) (s : SlotTable) (at : Moment) (point : Checkpoint) : Type 0 where
  pub machine : machine_of point ≡ advance m at
  pub copies : HasNoCopies point
  pub rules : HasRules point
  pub checkpoint : HasShortLists point → IsCheckpoint point
  pub keys : AgreeOn (advance m at) (slots_of point.standard) s.keys
  pub stored : AreKeysOf s.keys point.standard
