-- How a store is had of a disk: it is opened, or made where none was made.
use Rattle.std.specs.Prelude.{◌≡◌, true}
use Rattle.ebs_world.specs.Image.{Image}
use Rattle.ebs_world.specs.View.{View}
use Rattle.ebs_model.specs.Machine.{Machine}
use Rattle.ebs_model.specs.Quotas.{Rose}
use Rattle.ebs_recovery.specs.Stands.{Stands}
use Rattle.ebs_disk_store.specs.Opened.{IsUnopened}
use Rattle.ebs_disk_store.specs.declared.refusal.OpenRefusal.{OpenRefusal}
use Rattle.ebs_disk_store.specs.declared.refusal.OpenRefusal.TheVariants.{DiskFailed, NotMade, AlreadyMade, NotAJournal, BadVersion, BadRecord, BadCheckpoint, NotBuilt, Memory}

-- why there is none: as an opening says, but that a disk on which none was made is no cause, and that one was made is none where the disk tells
abbrev pub IsUnready : View → View → OpenRefusal → Type 0
IsUnready old new DiskFailed = Rose old.faults new.faults
IsUnready old new NotMade = ⊥
IsUnready old new AlreadyMade = old.tells ≡ true → ⊥
IsUnready old new (NotAJournal nine) = IsUnopened old new (NotAJournal nine)
IsUnready old new (BadVersion version) = IsUnopened old new (BadVersion version)
IsUnready old new (BadRecord place) = IsUnopened old new (BadRecord place)
IsUnready old new BadCheckpoint = IsUnopened old new BadCheckpoint
IsUnready old new NotBuilt = IsUnopened old new NotBuilt
IsUnready old new Memory = Unit {0}

-- whatever a crash leaves stands for this machine
abbrev pub AllStand : View → Machine → Type 0
AllStand v m = (c : Image) → v.may_leave c → Stands c m
