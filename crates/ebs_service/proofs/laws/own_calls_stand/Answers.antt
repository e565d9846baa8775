use Rattle.ebs_exchanges.specs.Stops.{Obeys, IsOwn}
use Rattle.ebs_service.proofs.Paths.{stood}
use Rattle.ebs_service.proofs.Sessions.{own_path}
use Rattle.ebs_service.proofs.laws.own_calls_stand.Goals as goal

pub returns : goal.returns
returns g c s t old new calls chain fits none sound tells honest =
    stood IsOwn Obeys g.D.Disk.view g.S.Promise.sound sound g.met.D.Disk.true_to_itself c.images_stand_for_one.ensures c.recorded_calls_are_asked.ensures s t old new calls
    (own_path g.S.Promise.sound sound g.D.Disk.view calls s t old new chain) fits none tells honest
