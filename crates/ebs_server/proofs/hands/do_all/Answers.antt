use Rattle.std.proofs.Common.{◌≡◌, slice_index_or, sym, subst, arith}
use denote.Param.Send.{IsSync, sendable}
use Rattle.std.proofs.Crossing.{crosses}
use Rattle.std.specs.contracts.alloc.Global as global
use Rattle.ebs_desk.proofs.Sending.{desk_sync}
use Rattle.ebs_server.specs.Hands.{IsReady, IsDone}
use Rattle.ebs_server.specs.contracts.hands.do_all.{S-row, D-row, L-row, K-row}
use Rattle.ebs_server.proofs.Crossing.{hand_send, bell_sync}
use Rattle.ebs_server.proofs.Rows.{done_each}
use Rattle.ebs_server.proofs.hands.do_all.Goals as goal

pub for_each_mut-requires-send-T : goal.for_each_mut-requires-send-T
for_each_mut-requires-send-T g c κs within =
    let hand = hand_send (L-row g.row.R g.row.S g.row.D g.row.L g.row.K g.row.G g.row.L-Input g.row.L-Output) (K-row g.row.R g.row.S g.row.D g.row.L g.row.K g.row.G g.row.L-Input g.row.L-Output) (S-row g.row.R g.row.S g.row.D g.row.L g.row.K g.row.G g.row.L-Input g.row.L-Output) (D-row g.row.R g.row.S g.row.D g.row.L g.row.K g.row.G g.row.L-Input g.row.L-Output) g.S.Promise g.D.Disk c.type_bounds.send-L c.type_bounds.send-K c.type_bounds.send-D in search sendable depth 20

-- a fact for each variable that the closure names, in that order
pub for_each_mut-requires-sync-F : goal.for_each_mut-requires-sync-F
for_each_mut-requires-sync-F g c κs within =
    let rt = c.type_bounds.sync-R in
    let alloc : IsSync global.the_row = search (sendable, crosses) depth 20 in
    let desk = desk_sync (S-row g.row.R g.row.S g.row.D g.row.L g.row.K g.row.G g.row.L-Input g.row.L-Output) (D-row g.row.R g.row.S g.row.D g.row.L g.row.K g.row.G g.row.L-Input g.row.L-Output) g.S.Promise g.D.Disk c.type_bounds.send-D in
    let gate = c.type_bounds.sync-G in
    record {
      shared = λ x b o κ. (
        (
          ((λ q. tt), rt.shared x.0.now x.0.ref_ptr.0 x.0.ref_ptr.1 _),
          (
            ((λ q. tt), alloc.shared x.1.now x.1.ref_ptr.0 x.1.ref_ptr.1 κ),
            (
              ((λ q. tt), desk.shared x.2.now x.2.ref_ptr.0 x.2.ref_ptr.1 _),
              (((λ q. tt), gate.shared x.3.now x.3.ref_ptr.0 x.3.ref_ptr.1 _), (((λ q. tt), bell_sync.shared x.4.now x.4.ref_ptr.0 x.4.ref_ptr.1 _), tt)),
            ),
          ),
        ),
        λ q. tt,
      );
    }

pub returns-clause-ready : goal.returns-clause-ready
returns-clause-ready g c = λ k d lt.
    let one = (c.for_each_mut.ensures k d (omega (arith, lt, c.for_each_mut.auto.s))).1 in
    subst (λ hand. IsReady c.args.desk.now.turns.board.shared c.args.desk.now.turns.passes hand.pass.inner.seat) one.left one.call.0

pub returns-clause-done : goal.returns-clause-done
returns-clause-done g c = done_each g.L.Listener.door c.args.hands.now c.for_each_mut.new.s (sym c.for_each_mut.auto.s) (λ i d lt.
    let one = (c.for_each_mut.ensures i d lt).1 in
    subst (λ hand. IsDone g.L.Listener.door hand.task (slice_index_or c.for_each_mut.new.s i d).task (slice_index_or c.for_each_mut.new.s i d).end) one.argument_is
    (subst (λ hand. IsDone g.L.Listener.door one.argument.now.task hand.task hand.end) one.left one.call.1))
