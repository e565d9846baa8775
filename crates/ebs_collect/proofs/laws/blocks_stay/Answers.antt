use Rattle.ebs_collect.proofs.Covering.{staying_counted, closing_keeps, room_keeps, making_keeps}
use Rattle.ebs_collect.proofs.laws.blocks_stay.Goals as goal

pub returns-clause-counted : goal.returns-clause-counted
returns-clause-counted c = staying_counted

pub returns-clause-closed : goal.returns-clause-closed
returns-clause-closed c = closing_keeps

pub returns-clause-room : goal.returns-clause-room
returns-clause-room c = room_keeps

pub returns-clause-made : goal.returns-clause-made
returns-clause-made c = making_keeps
