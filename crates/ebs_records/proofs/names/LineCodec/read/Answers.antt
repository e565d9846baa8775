use Rattle.std.proofs.Common.{◌++◌}
use Rattle.std.proofs.lemmas.Result.{err_from_is_err_and}
use Rattle.ebs_model.specs.declared.rows.Line.{Line}
use Rattle.ebs_records.specs.Fields.{word, long, flag, IsFlag, IsAccount, IsKeyNumber}
use Rattle.ebs_records.proofs.Views.{unread_by}
use Rattle.ebs_records.proofs.names.LineCodec.read.Goals as goal

pub returns-in_err-of_volume : goal.returns-in_err-of_volume
returns-in_err-of_volume c =
    let p = err_from_is_err_and c.from_residual.result c.from_residual.ensures.1 in
    rw (p.1, p.2) (unread_by (λ (v : Line). (v.of_volume, (v.account, v.number))) (λ p. IsFlag p.0 × (IsAccount p.1.0 × IsKeyNumber p.1.1)) (λ p. flag p.0 ++ (long p.1.0 ++ word p.1.1)) c.args.input.now c.read.new.input c.in_err-of_volume.field-0.0 c.in_err-of_volume.ensures)
