use Rattle.std.proofs.Common.{◌++◌}
use Rattle.std.proofs.lemmas.Result.{err_from_is_err_and}
use Rattle.ebs_checkpoints.specs.declared.nodes.SlotRow.{SlotRow}
use Rattle.ebs_records.specs.Fields.{IsLong, long}
use Rattle.ebs_checkpoints.proofs.Views.{unread_by}
use Rattle.ebs_checkpoints.proofs.nodes.SlotRowCodec.read.Goals as goal

pub returns-in_err-key : goal.returns-in_err-key
returns-in_err-key c =
    let p = err_from_is_err_and c.from_residual.result c.from_residual.ensures.1 in
    rw (p.1, p.2) (unread_by (λ (v : SlotRow). (v.key, v.slot)) (λ p. IsLong p.0 × IsLong p.1) (λ p. long p.0 ++ long p.1) c.args.input.now c.read.new.input c.in_err-key.field-0.0 c.in_err-key.ensures)
