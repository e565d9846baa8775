-- What a snapshot is of, and the bytes that stand in one that a run of a policy made.
use Rattle.std.specs.Prelude.{◌≡◌, ℕ, ◌<◌, List}
use Rattle.std.specs.FinMap as fin
use Rattle.std.specs.declared.option.Option.{Option}
use Rattle.std.specs.declared.option.Option.TheVariants.{Some}
use Rattle.ebs_model.specs.declared.keys.SnapKey.{SnapKey}
use Rattle.ebs_model.specs.declared.keys.VolKey.{VolKey}
use Rattle.ebs_model.specs.declared.keys.PolicyKey.{PolicyKey}
use Rattle.ebs_model.specs.declared.keys.AnyKey.{AnyKey}
use Rattle.ebs_model.specs.declared.keys.AnyKey.TheVariants.{Snap}
use Rattle.ebs_model.specs.declared.keys.Moment.{Moment}
use Rattle.ebs_model.specs.declared.request.Request.{Request}
use Rattle.ebs_model.specs.declared.request.Request.TheVariants.{RunPolicy}
use Rattle.ebs_model.specs.declared.answer.Answer.TheVariants.{PolicyRan}
use Rattle.ebs_model.specs.Time.{Snapshot}
use Rattle.ebs_model.specs.Machine.{Machine}
use Rattle.ebs_model.specs.Step.{step}
use Rattle.ebs_laws.specs.Words.{next_number}
use Rattle.ebs_model.specs.Timed.{IsIn}
use Rattle.ebs_laws.specs.Uploads.{NumbersGiven}
use Rattle.ebs_laws.specs.BlockLaws.{HasBytes}
use Rattle.ebs_laws.specs.DiskLaws.{HasVolumeBytes}

-- the snapshot's number was given out, and its row names this volume, or none, unless the snapshot was taken out
abbrev pub IsOf : Machine → SnapKey → Option VolKey → Type 0
IsOf m key volume = (key.number < next_number m key.account) × ((s : Snapshot) → fin.get m.snaps key ≡ Some s → s.row.volume ≡ volume)

-- no call changes what a snapshot is of
abbrev pub CallKeepsVolume : Type 0
CallKeepsVolume = (m : Machine) (account : ℕ) (reading : Moment) (request : Request) (key : SnapKey) (volume : Option VolKey) → IsOf m key volume → IsOf (step m account reading request).0 key volume

-- a snapshot of a volume that a run made has what the volume has
abbrev pub RunHasBytes : Type 0
RunHasBytes =
    (m : Machine) (account : ℕ) (reading : Moment) (policy : PolicyKey) (deleted made : List AnyKey) (key : SnapKey) (volume : VolKey) (index : ℕ) (bytes : List ℕ) → let s = step m account reading (RunPolicy policy) in
    NumbersGiven m → HasVolumeBytes m volume index bytes → s.1 ≡ PolicyRan deleted made → IsIn made (Snap key) → IsOf s.0 key (Some volume) → HasBytes s.0 key index bytes
