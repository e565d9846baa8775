-- The stamps of a machine's blocks, and its arrays.
use Rattle.std.specs.Prelude.{◌≡◌, ℕ, ◌<◌, List, Ok}
use Rattle.ebs_model.specs.declared.keys.Moment.{Moment}
use Rattle.ebs_model.specs.declared.request.Request.{Request}
use Rattle.ebs_model.specs.declared.answer.Answer.{Answer}
use Rattle.ebs_model.specs.Arrays.{Hash}
use Rattle.ebs_model.specs.Machine.{Machine, empty_machine, advance}
use Rattle.ebs_model.specs.Step.{act}
use Rattle.ebs_checkpoints.specs.declared.checkpoint.Checkpoint.{Checkpoint}
use Rattle.ebs_checkpoint_rules.specs.Rules.{HasRules}
use Rattle.ebs_recovery.specs.inner.Stands.{EachBlock}
use Rattle.ebs_recovery.specs.inner.Bases.{machine_of}
use Rattle.ebs_lawful.specs.Arrays.{AreArrays}

-- each stamp was given, and one stamp is of one block
pub record HasStamps (m : Machine) : Type 0 where
  pub given : EachBlock (λ x. x.stamp < m.stamps) m
  pub one : EachBlock (λ y. EachBlock (λ x. x.stamp ≡ y.stamp → x ≡ y) m) m

abbrev pub EmptyHasStamps : Type 0
EmptyHasStamps = (secret : List ℕ) → HasStamps (empty_machine secret)

-- an accepted call, however digests are found
abbrev pub CallsKeepStamps : Type 0
CallsKeepStamps = (hash : Hash) (m : Machine) (account : ℕ) (request : Request) (n : Machine) (answer : Answer) → act hash m account request ≡ Ok (n, answer) → HasStamps m → HasStamps n

abbrev pub TimeKeepsStamps : Type 0
TimeKeepsStamps = (m : Machine) (now : Moment) → HasStamps m → HasStamps (advance m now)

abbrev pub PointsHaveStamps : Type 0
PointsHaveStamps = (point : Checkpoint) → HasRules point → HasStamps (machine_of point)

abbrev pub PointsHaveArrays : Type 0
PointsHaveArrays = (point : Checkpoint) → HasRules point → AreArrays (machine_of point)
