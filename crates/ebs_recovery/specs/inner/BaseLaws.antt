-- The laws of what a checkpoint says.
use Rattle.std.specs.Prelude.{◌≡◌, ℕ, ◌<◌, List, Some}
use Rattle.std.specs.FinMap as fin
use Rattle.ebs_world.specs.Image.{Image}
use Rattle.ebs_world.specs.View.{View}
use Rattle.ebs_model.specs.Machine.{advance}
use Rattle.ebs_checkpoints.specs.declared.checkpoint.Checkpoint.{Checkpoint}
use Rattle.ebs_checkpoints.specs.Checkpoints.{spelled}
use Rattle.ebs_checkpoint_rules.specs.Rules.{IsCheckpoint}
use Rattle.ebs_recovery.specs.Made.{State, Made, start, IsHistory}
use Rattle.ebs_recovery.specs.inner.Made.{digested_state}
use Rattle.ebs_recovery.specs.Stands.{EachEntry, HasBlock}
use Rattle.ebs_recovery.specs.inner.Stands.{first_checkpoint, IsSecret}
use Rattle.ebs_recovery.specs.inner.Fits.{Seen, AgreeOn, Fit, recorded}
use Rattle.ebs_recovery.specs.Bases.{slots_of, IsDigestOf, Says, IsBase}
use Rattle.ebs_recovery.specs.inner.Bases.{machine_of, state_of}

-- a checkpoint says one state, but for the bytes of its blocks
abbrev pub OneBase : Type 0
OneBase = (p q : List ℕ) (a b : State) → IsBase p a → IsBase q b → p ≡ q → digested_state a ≡ digested_state b

-- in the kept form it says the one that its lists make
abbrev pub StateIsSaid : Type 0
StateIsSaid = (point : Checkpoint) → Says IsDigestOf point (state_of point)

abbrev pub OneIsSaid : Type 0
OneIsSaid = (point : Checkpoint) (k : State) → Says IsDigestOf point k → k ≡ state_of point

-- which is the kept form of what it says
abbrev pub BasesAreKept : Type 0
BasesAreKept = (point : Checkpoint) (base : State) → IsCheckpoint point → IsBase (spelled point) base → digested_state base ≡ state_of point

-- the empty machine's checkpoint says the empty machine
abbrev pub FirstIsBase : Type 0
FirstIsBase = (secret : List ℕ) → IsSecret secret → IsBase (first_checkpoint secret) (start secret)

-- time has passed, at its clock, for a machine that a history from such a state on gives
abbrev pub BasesRest : Type 0
BasesRest = (checkpoint : List ℕ) (base : State) (es : List Made) (s : State) → IsBase checkpoint base → IsHistory base es s → advance s.machine s.machine.clock ≡ s.machine

-- and each stamp with a slot was given
abbrev pub BasesAreStamped : Type 0
BasesAreStamped = (checkpoint : List ℕ) (base : State) (es : List Made) (s : State) → IsBase checkpoint base → IsHistory base es s → (stamp slot : ℕ) → fin.get s.slots stamp ≡ Some slot → stamp < s.machine.stamps

-- the checkpoint is that of what answers calls, and each of its blocks has the slot that the store keeps
pub record IsPointOf (s : Seen) (point : Checkpoint) : Type 0 where
  pub is_checkpoint : IsCheckpoint point
  pub machine : machine_of point ≡ advance s.recorded s.clock
  pub keys : AgreeOn (advance s.recorded s.clock) (slots_of point.standard) s.slots.keys

-- such a checkpoint says the machine with the bytes that stand in the slots, and in each image each of its blocks stands where the checkpoint says
abbrev pub PointSays : View → Type 0
PointSays v = (s : Seen) (point : Checkpoint) → Fit v s → IsPointOf s point → IsBase (spelled point) (record { machine = advance (recorded v s) s.clock; slots = slots_of point.standard })
    × ((c : Image) → v.may_leave c → EachEntry (HasBlock c (slots_of point.standard)) (advance (recorded v s) s.clock))
