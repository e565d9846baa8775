use Rattle.ebs_desk.proofs.Calling.{closes}
use Rattle.ebs_desk.proofs.desk.Desk.close.Goals as goal

pub returns-in-Ok-clause-ok : goal.returns-in-Ok-clause-ok
returns-in-Ok-clause-ok g c = let about = c.args.self.turns.board.shared.key in let shelf = c.in-Ok.shelf in
    closes g.S.Promise.sound g.D.Disk.view about c.args.pass.inner.seat.me.0 shelf c.requires.at.about c.in-Ok.ensures.ok
    (λ line f. c.turns_leave_fronts.ensures about.first.value line shelf.store shelf.disk f.went f.fits)
