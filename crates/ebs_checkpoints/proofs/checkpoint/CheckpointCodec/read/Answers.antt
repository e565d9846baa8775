use Rattle.std.proofs.Common.{◌++◌}
use Rattle.std.proofs.lemmas.Result.{err_from_is_err_and}
use Rattle.ebs_checkpoints.specs.declared.checkpoint.Checkpoint.{Checkpoint}
use Rattle.ebs_checkpoints.specs.Checkpoints.{IsHead, head, AreRows, rows, AreBlocks, blocks}
use Rattle.ebs_checkpoints.proofs.Views.{unread_by}
use Rattle.ebs_checkpoints.proofs.checkpoint.CheckpointCodec.read.Goals as goal

pub returns-in_err-clock : goal.returns-in_err-clock
returns-in_err-clock c =
    let p = err_from_is_err_and c.from_residual.result c.from_residual.ensures.1 in
    rw (p.1, p.2) (unread_by (λ (v : Checkpoint). ((v.clock, (v.accepted, (v.next_stamp, (v.next_copy, v.secret)))), ((v.accounts, (v.snapshots, (v.volumes, (v.rules, v.policies)))), (v.nodes, (v.standard, v.archive))))) (λ p. IsHead p.0 × (AreRows p.1.0 × AreBlocks p.1.1)) (λ p. head p.0 ++ (rows p.1.0 ++ blocks p.1.1)) c.args.input.now c.read.new.input c.in_err-clock.field-0.0 c.in_err-clock.ensures)
