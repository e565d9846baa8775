use Rattle.std.proofs.Common.{subst}
use Rattle.ebs_model.specs.declared.request.Request.{Request}
use Rattle.ebs_turns.specs.declared.seats.View.{View}
use Rattle.ebs_recovery.specs.inner.Fits.{Seen}
use Rattle.ebs_desk.specs.declared.item.Item.{Item}
use Rattle.ebs_desk.specs.declared.shelf.Shelf.{Shelf}
use Rattle.ebs_desk.specs.Calls.{Called}
use Rattle.ebs_desk.proofs.Staging.{may_take, before_look}
use Rattle.ebs_desk.proofs.desk.Desk.call.Goals as goal

pub do_task-requires-clause-may : goal.do_task-requires-clause-may
do_task-requires-clause-may g c = let k = c.if-not-is_open.ensures.looked in may_take c.args.pass.now.inner.seat.me c.is_open.new.pass.seat.me k.0 c.args.pass.now.rests k.1 k.2.1 k.2.0

pub returns-clause-called : goal.returns-clause-called
returns-clause-called g c = let k = c.if-not-is_open.ensures.looked in let about = c.args.self.now.turns.board.shared.key in let w = c.do_task.new.caller.seat.me.0 in
    before_look g.S.Promise.sound g.D.Disk.view about.first.value c.args.pass.now.inner.seat.me.0 w k.0 c.args.account c.args.reading c.args.request c.do_task.result
    (subst (λ (z : View (Shelf Seen g.row.D.Denot) (Item g.row.D.Denot) × Request). Called g.S.Promise.sound g.D.Disk.view about.first.value z.0 c.args.account c.args.reading z.1 c.do_task.result w)
    (λ i. (k.2.1 i, c.of-asked.ensures i)) c.do_task.ensures.called)
