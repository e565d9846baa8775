use denote.Param.Send.{IsSync, sendable}
use Rattle.std.proofs.Crossing.{crosses}
use Rattle.std.specs.contracts.alloc.Global as global
use Rattle.ebs_desk.proofs.Sending.{desk_sync}
use Rattle.desk_tests.specs.contracts.play.work_all.{S-row, D-row}
use Rattle.desk_tests.proofs.Crossing.{worker_send}
use Rattle.desk_tests.proofs.play.work_all.Goals as goal

pub for_each_mut-requires-send-T : goal.for_each_mut-requires-send-T
for_each_mut-requires-send-T g c κs within =
    let worker = worker_send (S-row g.row.R g.row.S g.row.D) (D-row g.row.R g.row.S g.row.D) g.S.Promise g.D.Disk c.type_bounds.send-D in search sendable depth 20

-- a fact for each variable that the closure names, in that order
pub for_each_mut-requires-sync-F : goal.for_each_mut-requires-sync-F
for_each_mut-requires-sync-F g c κs within =
    let rt = c.type_bounds.sync-R in
    let alloc : IsSync global.the_row = search (sendable, crosses) depth 20 in
    let desk = desk_sync (S-row g.row.R g.row.S g.row.D) (D-row g.row.R g.row.S g.row.D) g.S.Promise g.D.Disk c.type_bounds.send-D in
    record {
      shared = λ x b o κ. (
        (((λ q. tt), rt.shared x.0.now x.0.ref_ptr.0 x.0.ref_ptr.1 _), (((λ q. tt), alloc.shared x.1.now x.1.ref_ptr.0 x.1.ref_ptr.1 κ), (((λ q. tt), desk.shared x.2.now x.2.ref_ptr.0 x.2.ref_ptr.1 _), tt))),
        λ q. tt,
      );
    }
