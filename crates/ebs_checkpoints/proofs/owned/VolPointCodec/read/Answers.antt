use Rattle.std.proofs.Common.{◌++◌}
use Rattle.std.proofs.lemmas.Result.{err_from_is_err_and}
use Rattle.ebs_checkpoints.specs.declared.owned.VolPoint.{VolPoint}
use Rattle.ebs_records.specs.Fields.{IsWord, IsLong, word, long, optional, IsOptional, IsKey, key, IsVolume, volume, AreMembers, members, IsTag, tag}
use Rattle.ebs_records.specs.Names.{IsLine, line}
use Rattle.ebs_checkpoints.proofs.Views.{unread_by}
use Rattle.ebs_checkpoints.proofs.owned.VolPointCodec.read.Goals as goal

pub returns-in_err-key : goal.returns-in_err-key
returns-in_err-key c =
    let p = err_from_is_err_and c.from_residual.result c.from_residual.ensures.1 in
    rw (p.1, p.2) (unread_by (λ (v : VolPoint). (v.row.key, (v.row.size, (v.row.line, (v.row.origin, (v.row.tags, v.node)))))) (λ p. IsVolume p.0 × (IsWord p.1.0 × (IsLine p.1.1.0 × (IsOptional IsKey p.1.1.1.0 × (AreMembers IsTag p.1.1.1.1.0 × IsLong p.1.1.1.1.1))))) (λ p. volume p.0 ++ (word p.1.0 ++ (line p.1.1.0 ++ (optional key p.1.1.1.0 ++ (members tag p.1.1.1.1.0 ++ long p.1.1.1.1.1))))) c.args.input.now c.read.new.input c.in_err-key.field-0.0 c.in_err-key.ensures)
