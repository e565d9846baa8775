use Rattle.ebs_laws.proofs.Rooms.{has-room}
use Rattle.ebs_laws.proofs.starts.start_has_room.Goals as goal

pub returns : goal.returns
returns c = has-room
