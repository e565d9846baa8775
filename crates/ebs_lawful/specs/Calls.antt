-- Which requests are spoken of.
use Rattle.std.specs.Prelude.{Bool, true}
use Rattle.std.specs.Option.{is_none}
use Rattle.ebs_model.specs.declared.request.Request.{Request}
use Rattle.ebs_model.specs.declared.request.Request.TheVariants.{PutSnapshotBlock, WriteVolumeBlock}
use Rattle.ebs_model.specs.Limits.{bad_member}

-- its members are within their limits; in the place of a block's bytes their digest may stand
abbrev pub is_within : Request → Bool
is_within (PutSnapshotBlock key index digest bytes) = true
is_within (WriteVolumeBlock key index digest bytes) = true
is_within request = is_none (bad_member request)
