use Rattle.ebs_recovery.proofs.Based as lemma
use Rattle.ebs_recovery.proofs.points.point_says.Goals as goal

pub returns : goal.returns
returns g c disk s point fit is =
    let v = g.D.Disk.view disk in
    let law = g.met.D.Disk.true_to_itself disk in
    (lemma.point_says v law s fit point is, lemma.point_stands v law s fit point is)
