use Rattle.std.proofs.Common.{subst, arith}
use Rattle.ebs_turns.specs.declared.line.Deed.TheVariants.{Nothing}
use Rattle.ebs_turns.specs.declared.seats.View.{View}
use Rattle.ebs_turns.specs.Known.{Began}
use Rattle.ebs_recovery.specs.inner.Fits.{Seen}
use Rattle.ebs_desk.specs.declared.item.Item.{Item}
use Rattle.ebs_desk.specs.declared.shelf.Shelf.{Shelf}
use Rattle.ebs_desk.specs.Turns.{Follows}
use Rattle.ebs_desk.proofs.Leases.{idle_off}
use Rattle.ebs_desk.proofs.Calling.{goes_of, due}
use Rattle.ebs_desk.proofs.Savings.{did_saved, saved_leases, saves}
use Rattle.ebs_desk.proofs.desk.Desk.checkpoint.Goals as goal

pub save_store-done-requires : goal.save_store-done-requires
save_store-done-requires g c = record { fits = (c.begin-store.ensures.began.stands c.args.self.now.turns.board.shared.key c.is_open.ensures.at.about).fits }

pub end-requires-clause-due : goal.end-requires-clause-due
end-requires-clause-due g c = let a = c.save_store-done.ensures in let left = c.leave_saving-item.result in
    let s = c.begin-store.result.store in let t = c.save_store-done.new.store in let d = c.begin-store.result.disk in let e = c.save_store-done.new.disk in
    let l = did_saved g.S.Promise.sound g.D.Disk.view s t d e c.args.least c.of-before.result c.save_store-done.result left c.of-before.ensures c.leave_saving-item.ensures (goes_of g.S.Promise.sound g.D.Disk.view _ _ _ a.ran) a.told a.machine a.unavailable a.moments in
    due g.S.Promise.sound g.D.Disk.view _ _ c.begin-store.result left.0 Nothing (record { store = t; disk = e; entries = c.begin-store.result.entries }) c.begin-store.ensures.began l.0 a.fits
    (λ x. let n = l.1 x in omega arith) (idle_off _ _ s t left.0 a.ran (saved_leases _ _ _ _ s t c.args.least c.save_store-done.result a.told)) tt

pub returns-clause-saved : goal.returns-clause-saved
returns-clause-saved g c = let a = c.save_store-done.ensures in let left = c.leave_saving-item.result in let k = c.if-not-is_open.ensures.looked in
    let s = c.begin-store.result.store in let t = c.save_store-done.new.store in let d = c.begin-store.result.disk in let e = c.save_store-done.new.disk in
    let b = subst (λ (u : View (Shelf Seen g.row.D.Denot) (Item g.row.D.Denot)). Began (Follows g.S.Promise.sound g.D.Disk.view) u c.begin-store.new.pass.seat.me c.begin-store.result) k.2.1 c.begin-store.ensures.began in
    let l = did_saved g.S.Promise.sound g.D.Disk.view s t d e c.args.least c.of-before.result c.save_store-done.result left c.of-before.ensures c.leave_saving-item.ensures (goes_of g.S.Promise.sound g.D.Disk.view _ _ _ a.ran) a.told a.machine a.unavailable a.moments in
    saves g.S.Promise.sound g.D.Disk.view c.args.self.now.turns.board.shared.key c.args.pass.now.inner.seat.me.0 c.end.new.pass.seat.me.0 k.0 c.begin-store.new.pass.seat.me c.begin-store.result
    (record { store = t; disk = e; entries = c.begin-store.result.entries }) c.args.least c.of-before.result c.save_store-done.result left c.requires.at.about k.2.0 b
    (due g.S.Promise.sound g.D.Disk.view _ _ c.begin-store.result left.0 Nothing (record { store = t; disk = e; entries = c.begin-store.result.entries }) b l.0 a.fits
    (λ x. let n = l.1 x in omega arith) (idle_off _ _ s t left.0 a.ran (saved_leases _ _ _ _ s t c.args.least c.save_store-done.result a.told)) tt)
    (λ i. (c.end.ensures.ended i).0) a.told c.leave_saving-item.ensures
