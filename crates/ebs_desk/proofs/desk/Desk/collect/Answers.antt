use Rattle.std.proofs.Common.{subst, arith}
use Rattle.ebs_turns.specs.declared.line.Deed.TheVariants.{Nothing}
use Rattle.ebs_turns.specs.declared.seats.View.{View}
use Rattle.ebs_turns.specs.Known.{Began}
use Rattle.ebs_recovery.specs.inner.Fits.{Seen}
use Rattle.ebs_disk_store.specs.inner.Told.{at_reading}
use Rattle.ebs_desk.specs.declared.item.Item.{Item}
use Rattle.ebs_desk.specs.declared.shelf.Shelf.{Shelf}
use Rattle.ebs_desk.specs.Turns.{Follows}
use Rattle.ebs_desk.proofs.StoreCalls.{slice_leases}
use Rattle.ebs_desk.proofs.Leases.{idle_off}
use Rattle.ebs_desk.proofs.Calling.{goes_of, due}
use Rattle.ebs_desk.proofs.Ticking.{did_ticked, ticks}
use Rattle.ebs_desk.proofs.desk.Desk.collect.Goals as goal

pub collect_slice-done-requires : goal.collect_slice-done-requires
collect_slice-done-requires g c = record { fits = (c.begin-store.ensures.began.stands c.args.self.now.turns.board.shared.key c.is_open.ensures.at.about).fits }

pub end-requires-clause-due : goal.end-requires-clause-due
end-requires-clause-due g c = let a = c.collect_slice-done.ensures in
    let l = did_ticked g.S.Promise.sound g.D.Disk.view c.begin-store.result.store c.collect_slice-done.new.self c.begin-store.result.disk c.collect_slice-done.new.disk c.args.reading c.args.work c.of-before.result c.collect_slice-done.result c.leave_tick-item.result
    c.of-before.ensures c.leave_tick-item.ensures (goes_of g.S.Promise.sound g.D.Disk.view _ _ _ a.ran) a.told a.cause a.machine a.same a.moments in
    due g.S.Promise.sound g.D.Disk.view _ _ c.begin-store.result c.leave_tick-item.result.0 Nothing (record { store = c.collect_slice-done.new.self; disk = c.collect_slice-done.new.disk; entries = c.begin-store.result.entries }) c.begin-store.ensures.began l.0 a.fits
    (λ x. let n = l.1 x in omega arith) (idle_off _ _ c.begin-store.result.store c.collect_slice-done.new.self c.leave_tick-item.result.0 a.ran (slice_leases c.begin-store.result.store c.collect_slice-done.new.self (at_reading c.begin-store.result.store c.args.reading) c.args.work c.collect_slice-done.result a.told)) tt

pub returns-clause-ticked : goal.returns-clause-ticked
returns-clause-ticked g c = let a = c.collect_slice-done.ensures in let k = c.if-not-is_open.ensures.looked in
    let b = subst (λ (u : View (Shelf Seen g.row.D.Denot) (Item g.row.D.Denot)). Began (Follows g.S.Promise.sound g.D.Disk.view) u c.begin-store.new.pass.seat.me c.begin-store.result) k.2.1 c.begin-store.ensures.began in
    let l = did_ticked g.S.Promise.sound g.D.Disk.view c.begin-store.result.store c.collect_slice-done.new.self c.begin-store.result.disk c.collect_slice-done.new.disk c.args.reading c.args.work c.of-before.result c.collect_slice-done.result c.leave_tick-item.result
    c.of-before.ensures c.leave_tick-item.ensures (goes_of g.S.Promise.sound g.D.Disk.view _ _ _ a.ran) a.told a.cause a.machine a.same a.moments in
    ticks g.S.Promise.sound g.D.Disk.view c.args.self.now.turns.board.shared.key c.args.pass.now.inner.seat.me.0 c.end.new.pass.seat.me.0 k.0 c.begin-store.new.pass.seat.me c.begin-store.result
    (record { store = c.collect_slice-done.new.self; disk = c.collect_slice-done.new.disk; entries = c.begin-store.result.entries }) c.args.reading c.args.work c.of-before.result c.collect_slice-done.result c.leave_tick-item.result
    c.requires.at.about k.2.0 b
    (due g.S.Promise.sound g.D.Disk.view _ _ c.begin-store.result c.leave_tick-item.result.0 Nothing (record { store = c.collect_slice-done.new.self; disk = c.collect_slice-done.new.disk; entries = c.begin-store.result.entries }) b l.0 a.fits
    (λ x. let n = l.1 x in omega arith) (idle_off _ _ c.begin-store.result.store c.collect_slice-done.new.self c.leave_tick-item.result.0 a.ran (slice_leases c.begin-store.result.store c.collect_slice-done.new.self (at_reading c.begin-store.result.store c.args.reading) c.args.work c.collect_slice-done.result a.told)) tt)
    (λ i. (c.end.ensures.ended i).0) c.leave_tick-item.ensures
