-- Which rules of a checkpoint its machine gives, and what it takes beside the machine that it has all of them.
use Rattle.std.specs.Prelude.{◌≡◌, ◌≤◌, true}
use Rattle.ebs_model.specs.declared.keys.Moment.{Moment}
use Rattle.ebs_model.specs.Quotas.{last_second}
use Rattle.ebs_model.specs.Machine.{Machine, advance}
use Rattle.ebs_checkpoints.specs.declared.checkpoint.Checkpoint.{Checkpoint}
use Rattle.ebs_checkpoints.specs.Checkpoints.{HasSpelling}
use Rattle.ebs_row_rules.specs.Order.{is_ordered}
use Rattle.ebs_row_rules.specs.Slots.{is_stored}
use Rattle.ebs_node_rules.specs.Nodes.{is_forest}
use Rattle.ebs_node_rules.specs.States.{fit_states}
use Rattle.ebs_node_rules.specs.Arrays.{fit_arrays}
use Rattle.ebs_checkpoint_rules.specs.Rules.{HasRules, IsCheckpoint}
use Rattle.ebs_recovery.specs.inner.Bases.{machine_of}
use Rattle.ebs_lawful.specs.Arrays.{AreArrays}
use Rattle.ebs_lawful.specs.Counts.{HasCounts}
use Rattle.ebs_lawful.specs.Lawful.{IsLawful}
use Rattle.ebs_lawful_points.specs.PointLaws.{IsInOrder}
use Rattle.ebs_lawful_points.specs.Blocks.{HasStamps}
use Rattle.ebs_point_rules.specs.Values.{HasValues}
use Rattle.ebs_point_rules.specs.Moved.{AreMoved}
use Rattle.ebs_recovery.specs.Bases.{HasNoCopies}
use Rattle.ebs_point_rules.specs.Blocks.{AreShown, AreGiven, HaveSlots, have_nodes}

-- ---- each group of rules

abbrev pub NothingIsMoved : Type 0
NothingIsMoved = (point : Checkpoint) → HasNoCopies point → AreMoved point

-- blocks that the machine shows have stamps that were given, one block each
abbrev pub ShownAreGiven : Type 0
ShownAreGiven = (point : Checkpoint) → HasStamps (machine_of point) → AreShown (machine_of point) point → AreGiven point

-- no more stamps were given than changes were accepted
abbrev pub StampsAreStored : Type 0
StampsAreStored = (point : Checkpoint) → HasCounts (machine_of point) → AreGiven point → HaveSlots point → AreMoved point → is_stored point ≡ true

-- each array is as its row wants it
abbrev pub ArraysFit : Type 0
ArraysFit = (point : Checkpoint) → is_ordered point ≡ true → AreArrays (machine_of point) → AreMoved point → fit_arrays point ≡ true

-- time has passed for the machine at its clock
abbrev pub IsAtRest : Machine → Type 0
IsAtRest m = advance m m.clock ≡ m

-- then no stay in the bin has ended, and what has failed has no puts
abbrev pub StatesFit : Type 0
StatesFit = (point : Checkpoint) → is_ordered point ≡ true → IsLawful (machine_of point) → IsAtRest (machine_of point) → AreMoved point → have_nodes point ≡ true → fit_states point ≡ true

-- what has the rules is spelled, where its values are of their types
abbrev pub RulesGiveSpelling : Type 0
RulesGiveSpelling = (point : Checkpoint) → HasRules point → HasValues point → HasSpelling point

-- ---- all of them

-- it is lawful, its arrays are its rows', and time has passed
pub record IsSettled (m : Machine) : Type 0 where
  pub lawful : IsLawful m
  pub arrays : AreArrays m
  pub rests : IsAtRest m

-- a lawful machine is settled at each moment that isn't before its clock
abbrev pub TimeSettles : Type 0
TimeSettles = (m : Machine) (now : Moment) → m.clock.second ≤ now.second → now.second ≤ last_second → IsLawful m → AreArrays m → IsSettled (advance m now)

-- what the machine doesn't say
pub record IsLaidOut (point : Checkpoint) : Type 0 where
  pub order : IsInOrder point
  pub values : HasValues point
  pub forest : is_forest point ≡ true
  pub nodes : have_nodes point ≡ true
  pub slots : HaveSlots point
  pub moved : AreMoved point

-- a checkpoint so laid out that says such a machine is one of a store
abbrev pub PointHasAllRules : Type 0
PointHasAllRules = (m : Machine) (point : Checkpoint) → IsSettled m → machine_of point ≡ m → IsLaidOut point → AreGiven point → IsCheckpoint point

-- and so it is where each of its blocks is one of the machine's, whose stamps are of one block each
abbrev pub ShownPointHasAllRules : Type 0
ShownPointHasAllRules = (m : Machine) (point : Checkpoint) → IsSettled m → HasStamps m → machine_of point ≡ m → IsLaidOut point → AreShown m point → IsCheckpoint point

-- what a checkpoint with all rules says is such a machine
abbrev pub PointsAreSettled : Type 0
PointsAreSettled = (point : Checkpoint) → HasRules point → IsSettled (machine_of point)
