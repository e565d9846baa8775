use Rattle.std.proofs.Common.{◌++◌}
use Rattle.std.proofs.lemmas.Result.{err_from_is_err_and}
use Rattle.ebs_checkpoints.specs.declared.snapshots.SnapPoint.{SnapPoint}
use Rattle.ebs_checkpoints.specs.Snapshots.{IsNamed, named, AreOrigins, origins, AreTimes, times, IsUpload, upload, IsTold, told, AreStates, states, IsHeld, held}
use Rattle.ebs_checkpoints.proofs.Views.{unread_by}
use Rattle.ebs_checkpoints.proofs.snapshots.SnapPointCodec.read.Goals as goal

pub returns-in_err-key : goal.returns-in_err-key
returns-in_err-key c =
    let p = err_from_is_err_and c.from_residual.result c.from_residual.ensures.1 in
    rw (p.1, p.2) (unread_by (λ (v : SnapPoint). ((v.key, (v.size, v.line)), ((v.parent, (v.volume, v.policy)), ((v.start, (v.timeout, v.last)), ((v.completed, v.put), ((v.description, (v.tags, (v.shared, v.public))), ((v.lock, (v.tier, v.bin_end)), (v.node, v.copies)))))))) (λ p. IsNamed p.0 × (AreOrigins p.1.0 × (AreTimes p.1.1.0 × (IsUpload p.1.1.1.0 × (IsTold p.1.1.1.1.0 × (AreStates p.1.1.1.1.1.0 × IsHeld p.1.1.1.1.1.1)))))) (λ p. named p.0 ++ (origins p.1.0 ++ (times p.1.1.0 ++ (upload p.1.1.1.0 ++ (told p.1.1.1.1.0 ++ (states p.1.1.1.1.1.0 ++ held p.1.1.1.1.1.1)))))) c.args.input.now c.read.new.input c.in_err-key.field-0.0 c.in_err-key.ensures)
