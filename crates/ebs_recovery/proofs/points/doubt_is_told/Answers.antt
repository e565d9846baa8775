use Rattle.ebs_recovery.proofs.Turned as lemma
use Rattle.ebs_recovery.proofs.points.doubt_is_told.Goals as goal

pub returns : goal.returns
returns g c old new s r fit pending turning = lemma.in_doubt (g.D.Disk.view old) (g.D.Disk.view new) (g.met.D.Disk.true_to_itself old) s r fit pending turning
