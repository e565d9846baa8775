-- Copies by key, with keys that are ready for one.
use Rattle.std.specs.Coded.{Coded, coded_option}
use Rattle.std.specs.FinMap as map
use Rattle.std.specs.declared.option.Option.{Option}
use Rattle.ebs_archive.specs.declared.copies.ArchiveCopy.{ArchiveCopy}
use Rattle.ebs_archive.specs.contracts.copy_key.CopyKey as copy_key
use Rattle.ebs_archive.specs.contracts.copies.ArchiveCopy as copy
use Rattle.ebs_archive.specs.Keys.{copy_key_cmp}

-- what is at each key that is ready
abbrev pub CopySlots : Type 0
CopySlots = map.FinMap copy_key_cmp (Option ArchiveCopy)

abbrev pub copies_code : Coded CopySlots
copies_code = map.code copy_key.the_row.coded (coded_option copy.the_row.coded)
