use Rattle.ebs_exchanges.specs.Stops.{Does, Makes}
use Rattle.ebs_service.proofs.Paths.{stays}
use Rattle.ebs_service.proofs.Sessions.{path_of}
use Rattle.ebs_service.proofs.laws.answers_stay.Goals as goal

pub returns : goal.returns
returns g c s u t old mid new front back first later fits none sound tells honest =
    stays Makes Does g.D.Disk.view g.S.Promise.sound sound g.met.D.Disk.true_to_itself c.images_stand_for_one.ensures c.recorded_calls_are_asked.ensures s u t old mid new front back
    (path_of g.S.Promise.sound sound g.D.Disk.view front s u old mid first) (path_of g.S.Promise.sound sound g.D.Disk.view back u t mid new later) fits none tells honest
