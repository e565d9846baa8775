use Rattle.std.proofs.Common.{◌++◌}
use Rattle.std.proofs.lemmas.Result.{err_from_is_err_and}
use Rattle.ebs_records.specs.declared.record.Transfer.{Transfer}
use Rattle.ebs_records.specs.Fields.{IsWord, IsLong, word, long, flag, IsFlag, IsKey, key}
use Rattle.ebs_records.proofs.Views.{unread_by}
use Rattle.ebs_records.proofs.record.TransferCodec.read.Goals as goal

pub returns-in_err-key : goal.returns-in_err-key
returns-in_err-key c =
    let p = err_from_is_err_and c.from_residual.result c.from_residual.ensures.1 in
    rw (p.1, p.2) (unread_by (λ (t : Transfer). (t.key, (t.index, (t.to_archive, (t.copy, t.slot))))) (λ q. IsKey q.0 × (IsWord q.1.0 × (IsFlag q.1.1.0 × (IsLong q.1.1.1.0 × IsLong q.1.1.1.1)))) (λ q. key q.0 ++ (word q.1.0 ++ (flag q.1.1.0 ++ (long q.1.1.1.0 ++ long q.1.1.1.1)))) c.args.input.now c.read.new.input c.in_err-key.field-0.0 c.in_err-key.ensures)
