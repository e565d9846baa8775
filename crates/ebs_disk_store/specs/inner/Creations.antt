-- Beside what is promised: what making a store does to a disk, and why it may not be done.
use Rattle.std.specs.Prelude.{◌==◌, if◌then◌else◌, ◌≡◌, true}
use Rattle.ebs_world.specs.View.{View}
use Rattle.ebs_journal.specs.declared.refusal.JournalRefusal.{JournalRefusal}
use Rattle.ebs_journal.specs.declared.refusal.JournalRefusal.TheVariants as of_journal
use Rattle.ebs_disk_store.specs.declared.refusal.OpenRefusal.{OpenRefusal}
use Rattle.ebs_disk_store.specs.declared.refusal.OpenRefusal.TheVariants.{DiskFailed, NotMade, NotAJournal, BadVersion, BadRecord, BadCheckpoint, Memory, AlreadyMade, NotBuilt}
use Rattle.ebs_disk_store.specs.Opened.{IsMarked}
use Rattle.ebs_model.specs.Quotas.{Rose}

-- a journal's refusal is the store's; the length of a checkpoint stands at place 21
abbrev pub refusal_of : JournalRefusal → OpenRefusal
refusal_of of_journal.DiskFailed = DiskFailed
refusal_of of_journal.NotMade = NotMade
refusal_of (of_journal.NotAJournal nine) = NotAJournal nine
refusal_of (of_journal.BadVersion version) = BadVersion version
refusal_of (of_journal.BadLength place) = if place == 21 then BadCheckpoint else BadRecord place
refusal_of of_journal.Memory = Memory

-- why a store isn't made
abbrev pub IsUnmade : View → View → OpenRefusal → Type 0
IsUnmade old new DiskFailed = Rose old.faults new.faults
IsUnmade old new AlreadyMade = old.tells ≡ true → IsMarked old
IsUnmade old new Memory = Unit {0}
IsUnmade old new NotMade = ⊥
IsUnmade old new (NotAJournal nine) = ⊥
IsUnmade old new (BadVersion version) = ⊥
IsUnmade old new (BadRecord place) = ⊥
IsUnmade old new BadCheckpoint = ⊥
IsUnmade old new NotBuilt = ⊥
