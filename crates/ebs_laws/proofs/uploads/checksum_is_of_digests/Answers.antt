use Rattle.ebs_laws.proofs.Fields.{checksum-digests}
use Rattle.ebs_laws.proofs.uploads.checksum_is_of_digests.Goals as goal

pub returns : goal.returns
returns c = checksum-digests
