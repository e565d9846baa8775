-- Calls, each at a reading of the clock, one after another.
use Rattle.std.specs.Prelude.{List, [], ◌∷◌, true, Option, None, Some, ◌≡◌, ◌⊎◌}
use Rattle.ebs_model.specs.declared.keys.Moment.{Moment}
use Rattle.ebs_model.specs.declared.request.Call.{Call}
use Rattle.ebs_model.specs.declared.answer.Answer.{Answer}
use Rattle.ebs_model.specs.Machine.{Machine}
use Rattle.ebs_model.specs.Step.{step}
use Rattle.ebs_model.specs.declared.answer.Answer.TheVariants.{Started, SnapshotShown, VolumeShown}
use Rattle.ebs_model.specs.declared.answer.FirstKey.{FirstKey}
use Rattle.ebs_model.specs.declared.answer.FirstKey.TheVariants.{Snap, Vol}

-- a call, and what the clock reads then
pub record Timed : Type 0 where
  pub call : Call
  pub reading : Moment

abbrev pub turn : Machine → Timed → Machine × Answer
turn m t = step m t.call.account t.reading t.call.request

abbrev pub after_all : Machine → List Timed → Machine
after_all m [] = m
after_all m (t ∷ ts) = after_all (turn m t).0 ts

-- the id that an answer gives out, of a snapshot or of a volume
abbrev pub made_id : Answer → Option FirstKey
made_id (Started description owner parent key start tags size) = Some (Snap key)
made_id (SnapshotShown true view) = Some (Snap view.key)
made_id (VolumeShown true size origin tags key) = Some (Vol key)
made_id answer = None

abbrev pub IsIn : {X : Type 0} → List X → X → Type 0
IsIn [] x = ⊥
IsIn (y ∷ ys) x = (y ≡ x) ⊎ IsIn ys x
