-- Beside what is promised: what an opening finds on a disk, by what a read gives.
use Rattle.std.specs.Prelude.{◌≡◌, ◌⊎◌}
use Rattle.ebs_journal.specs.declared.refusal.JournalRefusal.{JournalRefusal}
use Rattle.ebs_journal.specs.declared.refusal.JournalRefusal.TheVariants.{DiskFailed, Memory}

-- a refusal that isn't of what was read
abbrev pub IsFault : JournalRefusal → Type 0
IsFault refusal = (refusal ≡ DiskFailed) ⊎ (refusal ≡ Memory)
