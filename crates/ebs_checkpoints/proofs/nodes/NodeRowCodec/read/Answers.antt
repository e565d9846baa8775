use Rattle.std.proofs.Common.{◌++◌}
use Rattle.std.proofs.lemmas.Result.{err_from_is_err_and}
use Rattle.ebs_checkpoints.specs.declared.nodes.NodeRow.{NodeRow}
use Rattle.ebs_records.specs.Fields.{IsLong, long, flag, IsFlag, optional, IsOptional, AreMembers, members}
use Rattle.ebs_checkpoints.specs.Nodes.{IsEntry, entry}
use Rattle.ebs_checkpoints.proofs.Views.{unread_by}
use Rattle.ebs_checkpoints.proofs.nodes.NodeRowCodec.read.Goals as goal

pub returns-in_err-number : goal.returns-in_err-number
returns-in_err-number c =
    let p = err_from_is_err_and c.from_residual.result c.from_residual.ensures.1 in
    rw (p.1, p.2) (unread_by (λ (v : NodeRow). (v.number, (v.parent, (v.writable, v.entries)))) (λ p. IsLong p.0 × (IsOptional IsLong p.1.0 × (IsFlag p.1.1.0 × AreMembers IsEntry p.1.1.1))) (λ p. long p.0 ++ (optional long p.1.0 ++ (flag p.1.1.0 ++ members entry p.1.1.1))) c.args.input.now c.read.new.input c.in_err-number.field-0.0 c.in_err-number.ensures)
