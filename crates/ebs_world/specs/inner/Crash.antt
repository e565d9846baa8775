-- What a crash of a disk in memory leaves.
use Rattle.std.specs.Prelude.{cond}
use Rattle.ebs_world.specs.declared.crash.CrashPick.{CrashPick}
use Rattle.ebs_world.specs.declared.crash.CrashPick.TheVariants.{Old, New, Fill}
use Rattle.ebs_world.specs.Image.{Image}
use Rattle.ebs_world.specs.inner.Log.{State}

-- the image whose places that aren't synced hold what they held at the last sync, what was written, or one byte
abbrev pub picked : CrashPick → State → Image
picked Old s a i = s.kept a i
picked New s a i = s.now a i
picked (Fill byte) s a i = cond (s.dirty a i) byte (s.kept a i)
