use Rattle.ebs_laws.proofs.VolumeRows.{volumes-given, volumes-run, volume-stays}
use Rattle.ebs_laws.proofs.volumes.volume_stays.Goals as goal

pub returns-clause-each_call : goal.returns-clause-each_call
returns-clause-each_call c = volumes-given

pub returns-clause-run : goal.returns-clause-run
returns-clause-run c = volumes-run

pub returns-clause-stays : goal.returns-clause-stays
returns-clause-stays c = volume-stays
