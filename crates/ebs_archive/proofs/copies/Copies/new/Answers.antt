use Rattle.std.proofs.Common.{sym, ap, ◌∙◌}
use Rattle.std.specs.FinMap.{len, len-empty}
use Rattle.ebs_archive.specs.declared.copies.ArchiveCopy.{ArchiveCopy}
use Rattle.ebs_archive.specs.Keys.{copy_key_cmp}
use Rattle.ebs_archive.proofs.copies.Copies.new.Goals as goal

pub invariant_of-result : goal.invariant_of-result
invariant_of-result c = sym (ap len c.new.ensures.held ∙ len-empty copy_key_cmp ArchiveCopy)
