-- The kept form of the machine: each block has its digest in the place of its bytes, and a digest is found as it stands.
use Rattle.sha2.specs.Sha256.{sha256}
use Rattle.ebs_model.specs.declared.request.Request.{Request}
use Rattle.ebs_model.specs.declared.request.Request.TheVariants.{PutSnapshotBlock, WriteVolumeBlock}
use Rattle.ebs_model.specs.Arrays.{Hash}

abbrev pub same : Hash
same digest = digest

abbrev pub kept_request : Request → Request
kept_request (PutSnapshotBlock key index digest bytes) = PutSnapshotBlock key index digest (sha256 bytes)
kept_request (WriteVolumeBlock key index digest bytes) = WriteVolumeBlock key index digest (sha256 bytes)
kept_request request = request
