use Rattle.std.proofs.Common.{◌++◌}
use Rattle.std.proofs.lemmas.Result.{err_from_is_err_and}
use Rattle.ebs_checkpoints.specs.declared.owned.TokenPoint.{TokenPoint}
use Rattle.ebs_records.specs.Fields.{word, IsKeyNumber, IsMoment, moment, IsText, text}
use Rattle.ebs_records.specs.Records.{HasSpelling, record_bytes}
use Rattle.ebs_checkpoints.proofs.Views.{unread_by}
use Rattle.ebs_checkpoints.proofs.owned.TokenPointCodec.read.Goals as goal

pub returns-in_err-text : goal.returns-in_err-text
returns-in_err-text c =
    let p = err_from_is_err_and c.from_residual.result c.from_residual.ensures.1 in
    rw (p.1, p.2) (unread_by (λ (v : TokenPoint). (v.text, (v.at, (v.first, v.number)))) (λ p. IsText p.0 × (IsMoment p.1.0 × (HasSpelling p.1.1.0 × IsKeyNumber p.1.1.1))) (λ p. text p.0 ++ (moment p.1.0 ++ (record_bytes p.1.1.0 ++ word p.1.1.1))) c.args.input.now c.read.new.input c.in_err-text.field-0.0 c.in_err-text.ensures)
