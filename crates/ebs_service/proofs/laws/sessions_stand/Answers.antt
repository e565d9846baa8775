use Rattle.ebs_exchanges.specs.Stops.{Does, Makes}
use Rattle.ebs_service.proofs.Paths.{stood}
use Rattle.ebs_service.proofs.Sessions.{path_of}
use Rattle.ebs_service.proofs.laws.sessions_stand.Goals as goal

pub returns : goal.returns
returns g c s t old new exchanges chain fits none sound tells honest =
    stood Makes Does g.D.Disk.view g.S.Promise.sound sound g.met.D.Disk.true_to_itself c.images_stand_for_one.ensures c.recorded_calls_are_asked.ensures s t old new exchanges
    (path_of g.S.Promise.sound sound g.D.Disk.view exchanges s t old new chain) fits none tells honest
