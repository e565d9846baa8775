use Rattle.ebs_desk.proofs.Fronts.{leave_fronts}
use Rattle.ebs_desk.proofs.laws.turns_leave_fronts.Goals as goal

pub returns : goal.returns
returns g c first line last end went fits = leave_fronts g.S.Promise.sound g.D.Disk.view g.met.D.Disk.true_to_itself c.images_stand_for_one.ensures first line last end went fits
