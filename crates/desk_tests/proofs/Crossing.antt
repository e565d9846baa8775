-- A worker may be sent to another thread where its disk may.
use denote.RattleType.{RattleType}
use denote.Param.Send.{IsSend, sendable, struct_send, recorded_send}
use denote.Struct.Struct.{Struct}
use denote.Struct.Declared.{shape}
use Rattle.std.proofs.Crossing.{crosses}
use Rattle.ebs_world.specs.declared.disk.Disk as disk
use Rattle.ebs_disk_store.specs.declared.store.Promise as promise
use Rattle.ebs_desk.specs.contracts.desk.Pass as pass
use Rattle.ebs_desk.proofs.Sending.{pass_send}
use Rattle.desk_tests.specs.contracts.play.Worker as worker

pub worker_send : (S D : RattleType) (g : promise.Ghosts S.Denot) (w : disk.Ghosts D.Denot) → IsSend D → IsSend (worker.the_row (pass.the_row S D g w))
worker_send S D g w d =
    let W = worker.the_type (pass.the_row S D g w) in
    recorded_send (Struct (shape W)) W.D W.to W.to_one (struct_send (shape W) (pass_send S D g w d, (search (sendable, crosses) depth 12, (search (sendable, crosses) depth 12, tt))))
