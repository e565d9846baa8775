use Rattle.ebs_recovery.proofs.Turned as lemma
use Rattle.ebs_recovery.proofs.points.points_turn.Goals as goal

pub returns-clause-moments : goal.returns-clause-moments
returns-clause-moments g c old new s point fit is ran = lemma.while_turned (g.D.Disk.view old) (g.met.D.Disk.true_to_itself old) s fit point is (g.D.Disk.view new) ran

pub returns-clause-fit : goal.returns-clause-fit
returns-clause-fit g c old new s t point fit is ran turned settled =
    lemma.turned_fits (g.D.Disk.view old) (g.met.D.Disk.true_to_itself old) s fit point is (g.D.Disk.view new) (g.met.D.Disk.true_to_itself new) ran t turned settled

pub returns-clause-doubt : goal.returns-clause-doubt
returns-clause-doubt g c old new s t point fit is ran still pending gate =
    lemma.turning_fits (g.D.Disk.view old) (g.met.D.Disk.true_to_itself old) s fit point is (g.D.Disk.view new) ran t still pending gate
