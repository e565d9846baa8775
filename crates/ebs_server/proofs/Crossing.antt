-- A hand may be sent to another thread, where its disk, its listener and its clock may; and a bell be shared.
use denote.RattleType.{RattleType}
use denote.Param.Send.{IsSend, IsSync, sendable, enum_send, struct_send, struct_sync, recorded_send, recorded_sync}
use denote.Enum.Enum.{Enum}
use denote.Enum.Declared.{shape}
use denote.Struct.Struct.{Struct}
use denote.Struct.Declared.{shape as struct_shape}
use Rattle.std.proofs.Crossing.{crosses}
use Rattle.ebs_world.specs.declared.disk.Disk as disk
use Rattle.ebs_disk_store.specs.declared.store.Promise as promise
use Rattle.ebs_desk.specs.contracts.desk.Pass as pass
use Rattle.ebs_desk.proofs.Sending.{pass_send}
use Rattle.ebs_server.specs.contracts.bell.Bell as bell
use Rattle.ebs_server.specs.contracts.bell.Ringing as ringing
use Rattle.ebs_server.specs.contracts.hand.Hand as hand
use Rattle.ebs_server.specs.contracts.hand.Task as task
use Rattle.ebs_server.specs.contracts.post.Post as post
use Rattle.ebs_server.specs.contracts.post.PostEnd as post_end

post_send : (L K : RattleType) → IsSend L → IsSend K → IsSend (Struct (struct_shape (post.the_type L K)))
post_send L K l k = struct_send (struct_shape (post.the_type L K)) (l, (k, tt))

task_send : (L K : RattleType) → IsSend L → IsSend K → IsSend (Enum (shape (task.the_type L K)))
task_send L K l k = enum_send (shape (task.the_type L K)) ((post_send L K l k, tt), ((k, tt), tt))

end_send : IsSend (Enum (shape post_end.the_type))
end_send = enum_send (shape post_end.the_type) (tt, (tt, (tt, tt)))

pub hand_send : (L K S D : RattleType) (g : promise.Ghosts S.Denot) (w : disk.Ghosts D.Denot) → IsSend L → IsSend K → IsSend D → IsSend (hand.the_row L K (pass.the_row S D g w))
hand_send L K S D g w l k d =
    let H = hand.the_type L K (pass.the_row S D g w) in
    recorded_send (Struct (struct_shape H)) H.D H.to H.to_one (struct_send (struct_shape H) (pass_send S D g w d, (task_send L K l k, (end_send, tt))))

ringing_send : IsSend (Struct (struct_shape ringing.the_type))
ringing_send = search (sendable, crosses) depth 12

pub bell_sync : IsSync bell.the_row
bell_sync = let r = ringing_send in search (sendable, crosses) depth 20
